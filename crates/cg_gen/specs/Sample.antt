-- `sample`: a large top that a number makes, built in memory, and what there is of it, counted.
use Rattle.std.specs.Prelude.{◌≡◌, ℕ, List, [], ◌∷◌, ◌++◌, codes, length, get_or, None}
use Rattle.std.specs.Fmt.{decimal}
use Rattle.std.specs.FinMap as fin
use Rattle.hex.specs.Hex.{encode_lower}
use Rattle.sha2.specs.Sha256.{sha256}
use Rattle.cg_base.specs.Outside.{Files}
use Rattle.cg_desc.specs.FaultText.{fault_line}
use Rattle.cg_desc.specs.declared.fault.Fault.{Fault}
use Rattle.cg_desc.specs.declared.top.MergedTop.{MergedTop}
use Rattle.cg_finding.specs.Violations.{IsFirstFault}
use Rattle.cg_files.specs.Files.{File}
use Rattle.cg_design.specs.Design.{AreMerged}
use Rattle.cg_irq.specs.Violations.{IsNumbering}
use Rattle.cg_irq.specs.declared.bits.IrqMap.{IrqMap}
use Rattle.cg_outputs.specs.declared.out_file.OutFile.{OutFile}
use Rattle.cg_space.specs.Rows.{AreRows}
use Rattle.cg_space.specs.declared.row.Row.{Row}
use Rattle.cg_sample.specs.Sample.{sample_files}
use Rattle.cg_sample.specs.declared.file.SampleFile.{SampleFile}
use Rattle.cg_keep.specs.Files.{AreFilesOf, AreWanted, IsBuilt, Violates}
use Rattle.cg_keep.specs.Kept.{Kept}
use Rattle.cg_deeds.specs.declared.deed.Stream.TheVariants.{Out, Err}
use Rattle.cg_deeds.specs.declared.deed.Deed.TheVariants.{Say}
use Rattle.cg_gen.specs.declared.due.Status.TheVariants.{Built, Refused}
use Rattle.cg_gen.specs.declared.due.Due.{Due}
use Rattle.cg_gen.specs.declared.samples.Counts.{Counts}

-- ---- the files

-- files, and others put in their order
abbrev pub with_files : Files → List SampleFile → Files
with_files files [] = files
with_files files (f ∷ fs) = with_files (fin.insert files f.name f.bytes) fs

abbrev pub files_of_sample : ℕ → Files
files_of_sample n = with_files fin.empty (sample_files n)

-- the name of the top's own file
abbrev pub sample_name : List ℕ
sample_name = codes "sample.hjson"

-- the files are put, and nothing is built of them
abbrev pub kept_sample : ℕ → Kept
kept_sample n = record { top = sample_name; files = files_of_sample n; last = None }

-- ---- what is counted

-- The files of the sample describe this top, and this is all that is written of them. Counted are all its instances, `cpu` among them; its
-- crossbars; the rows of its address map; its interrupts, bit by bit; and the files that are written, the manifest among them. The digest
-- is that of the manifest, which is the last of them.
pub record AreCounts (n : ℕ) (counts : Counts) : Type 0 where
  pub own : List File
  pub are : AreFilesOf sample_name (files_of_sample n) own
  pub merged : MergedTop
  pub is_merged : AreMerged own merged
  pub rows : List Row
  pub are_rows : AreRows merged rows
  pub irq : IrqMap
  pub is_numbering : IsNumbering merged irq
  pub texts : List OutFile
  pub manifest : OutFile
  pub is_built : IsBuilt sample_name (files_of_sample n) (texts ++ manifest ∷ [])
  pub instances_are : counts.instances ≡ length merged.top.insts
  pub crossbars_are : counts.crossbars ≡ length merged.xbars
  pub rows_are : counts.rows ≡ length rows
  pub interrupts_are : counts.interrupts ≡ length irq.intr
  pub outputs_are : counts.outputs ≡ length (texts ++ manifest ∷ [])
  pub digest_is : counts.digest ≡ encode_lower (sha256 manifest.bytes)

-- ---- what is said

-- a word, a blank, a text and a line feed
abbrev pub word_line : List ℕ → List ℕ → List ℕ
word_line word text = word ++ (codes " " ++ (text ++ 10 ∷ []))

-- six lines
unfoldable pub counts_text : Counts → List ℕ
counts_text counts =
    word_line (codes "instances") (decimal counts.instances)
    ++ (word_line (codes "crossbars") (decimal counts.crossbars)
    ++ (word_line (codes "rows") (decimal counts.rows)
    ++ (word_line (codes "interrupts") (decimal counts.interrupts)
    ++ (word_line (codes "outputs") (decimal counts.outputs)
    ++ word_line (codes "sha256") counts.digest))))

-- the counts are told
abbrev pub due_of_counts : Counts → Due
due_of_counts counts = record { deeds = Say Out (counts_text counts) ∷ []; status = Built }

-- the name of the file of this number
abbrev pub name_at : List (List ℕ) → ℕ → List ℕ
name_at names file = get_or names file []

-- the line of a fault is told, of the file of this name
abbrev pub due_of_refusal : List ℕ → Fault → Due
due_of_refusal name fault = record { deeds = Say Err (fault_line name fault ++ 10 ∷ []) ∷ []; status = Refused }

-- What is due for a number: the first fault of the sample's files is told, exactly where there is one, and else what there is of it.
pub data IsSampleDue (n : ℕ) : Due → Type 0 where
  refuses : (fault : Fault) (names : List (List ℕ)) → IsFirstFault (Violates sample_name (files_of_sample n)) fault
      → AreWanted (fin.get (files_of_sample n) sample_name) sample_name names → IsSampleDue n (due_of_refusal (name_at names fault.file) fault)
  counts : (counts : Counts) → AreCounts n counts → IsSampleDue n (due_of_counts counts)
