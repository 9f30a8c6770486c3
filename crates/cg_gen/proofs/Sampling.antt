-- What is counted of the sample.
use Rattle.std.proofs.Common.{◌≡◌, ℕ, List, [], ◌∷◌, ◌++◌, length, Some, ap, ◌∙◌, subst}
use Rattle.hex.specs.Hex.{encode_lower}
use Rattle.sha2.specs.Sha256.{sha256}
use Rattle.cg_base.specs.Outside.{Files}
use Rattle.cg_design.specs.declared.together.DesignSource.{DesignSource}
use Rattle.cg_irq.specs.Violations.{IsNumbering}
use Rattle.cg_irq.specs.declared.bits.IrqMap.{IrqMap}
use Rattle.cg_outputs.specs.declared.out_file.OutFile.{OutFile}
use Rattle.cg_space.specs.Rows.{AreRows}
use Rattle.cg_space.specs.declared.row.Row.{Row}
use Rattle.cg_manifest.specs.Manifest.{manifest_of}
use Rattle.cg_keep.specs.Files.{AreFilesOf, IsBuilt}
use Rattle.cg_keep.specs.Kept.{IsDescribed}
use Rattle.cg_keep.specs.declared.keep.Built.{Built}
use Rattle.cg_gen.specs.Sample.{AreCounts, files_of_sample, sample_name}
use Rattle.cg_gen.specs.declared.samples.Counts.{Counts}

pub same_some : (a b : Built) → Some a ≡ Some b → a ≡ b
same_some a b e = cc

-- what was counted of the top that the files describe, and of what was built of them
pub record IsCounted (source : DesignSource) (files : List OutFile) (digest : List ℕ) (c : Counts) : Type 0 where
  pub instances : c.instances ≡ length source.merged.top.insts
  pub crossbars : c.crossbars ≡ length source.merged.xbars
  pub rows : (rows : List Row) × AreRows source.merged rows × (c.rows ≡ length rows)
  pub interrupts : (irq : IrqMap) × IsNumbering source.merged irq × (c.interrupts ≡ length irq.intr)
  pub outputs : c.outputs ≡ length files
  pub digest_is : c.digest ≡ digest

-- it is what there is of the sample
pub counted : (n : ℕ) (top : List ℕ) (kept : Files) (source : DesignSource) (built : Built) (files : List OutFile) (digest : List ℕ) (c : Counts) → top ≡ sample_name
    → kept ≡ files_of_sample n → IsDescribed top kept source → IsBuilt sample_name (files_of_sample n) built.files → files ≡ built.files
    → ((texts : List OutFile) (manifest : OutFile) → files ≡ texts ++ manifest ∷ [] → digest ≡ encode_lower (sha256 manifest.bytes)) → IsCounted source files digest c → AreCounts n c
counted n top kept source built files digest c named same described is here digests counts =
    let w = is.build.written in
    let manifest : OutFile = manifest_of is.build.chip.source.merged.top.name w.texts in
    let all : files ≡ w.texts ++ manifest ∷ [] = here ∙ w.with_manifest in
    record {
      own = described.own;
      are = subst (λ t. AreFilesOf t (files_of_sample n) described.own) named (subst (λ f. AreFilesOf top f described.own) same described.are);
      merged = source.merged;
      is_merged = described.is_source.merged;
      rows = counts.rows.0;
      are_rows = counts.rows.1;
      irq = counts.interrupts.0;
      is_numbering = counts.interrupts.1;
      texts = w.texts;
      manifest = manifest;
      is_built = subst (IsBuilt sample_name (files_of_sample n)) w.with_manifest is;
      instances_are = counts.instances;
      crossbars_are = counts.crossbars;
      rows_are = counts.rows.2;
      interrupts_are = counts.interrupts.2;
      outputs_are = counts.outputs ∙ ap length all;
      digest_is = counts.digest_is ∙ digests w.texts manifest all;
    }
