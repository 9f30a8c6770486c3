-- What is answered of all files of a top together, by what there is of them.
use Rattle.std.proofs.Common.{◌≡◌, ℕ, ◌+◌, List, ◌∷◌, length, map, option_map, Bor, Option, Result, Ok, Err, refl, sym, subst, ◌∙◌}
use Rattle.std.proofs.lemmas.List.{length-map}
use Rattle.cg_svspec.specs.Printable.{AllOf}
use Rattle.cg_desc.specs.Crossbar.{IsValidCrossbar}
use Rattle.cg_desc.specs.Merged.{IsValidLaidBlock}
use Rattle.cg_desc.specs.Top.{AreItsFiles, AreTypes}
use Rattle.cg_desc.specs.declared.block.LaidBlock.{LaidBlock}
use Rattle.cg_desc.specs.declared.fault.DescFault.{DescFault}
use Rattle.cg_desc.specs.declared.top.MergedTop.{MergedTop}
use Rattle.cg_desc.specs.declared.top.TopDesc.{TopDesc}
use Rattle.cg_desc.specs.declared.top.XbarUse.{XbarUse}
use Rattle.cg_files.specs.Files.{File}
use Rattle.cg_hjson.specs.declared.tree.Tree.{Tree}
use Rattle.cg_merge.specs.Merges.{Merges as MergesDesign}
use Rattle.cg_space.specs.Answers.{Answers}
use Rattle.cg_space.specs.Violations.{NoViolation}
use Rattle.cg_design.specs.Breaks.{DescribesTop}
use Rattle.cg_design.specs.Files.{given_file, numbered, size_of}
use Rattle.cg_design.specs.Inner.Reading.{ReadsOthers, block_files, crossbar_files}
use Rattle.cg_design.specs.Violations.{Merges}
use Rattle.cg_design.specs.declared.block.BlockSource.{BlockSource}
use Rattle.cg_design.specs.declared.others.Others.{Others}
use Rattle.cg_design.proofs.Answering.{are_files, are_its_files, count_blocks, count_crossbars, merges, refused_by_file, refused_by_merge, refused_by_ranges, valid_blocks, valid_crossbars}
use Rattle.cg_design.proofs.Whole.{AreFiles}

module _ (top : TopDesc) (types : List (List ℕ)) (size : ℕ) (others : List (Option (Bor (List ℕ)))) (count : length others ≡ length top.xbars + length types)
    (listed : List XbarUse) (kinds : List (List ℕ)) (listed_is : listed ≡ top.xbars) (kinds_is : kinds ≡ types) where
  -- what there is of the files behind the top's own
  abbrev pub Given : List (Option (List ℕ))
  Given = map (option_map (λ (b : Bor (List ℕ)). b.now)) others

  abbrev Crossbars : List File
  Crossbars = crossbar_files (length top.xbars) size Given

  abbrev Blocks : List File
  Blocks = block_files (length top.xbars) size Given

  -- what reading them answers
  abbrev pub Read : Result Others DescFault → Type 0
  Read r = ReadsOthers r listed kinds (crossbar_files (length listed) size Given) (block_files (length listed) size Given)

  read_as : (r : Result Others DescFault) → Read r → ReadsOthers r top.xbars types Crossbars Blocks
  read_as r read =
      subst (λ us. ReadsOthers r us types (crossbar_files (length us) size Given) (block_files (length us) size Given)) listed_is
      (subst (λ ks. ReadsOthers r listed ks (crossbar_files (length listed) size Given) (block_files (length listed) size Given)) kinds_is read)

  given_count : length Given ≡ length top.xbars + length types
  given_count = length-map others (option_map (λ (b : Bor (List ℕ)). b.now)) ∙ count

  -- ---- what can be merged

  module _ (o : Others) (laid : List LaidBlock) (read : Read (Ok o)) (laid_is : laid ≡ map (λ (s : BlockSource). s.laid) o.blocks) where
    pub its_files : AreTypes top.insts types → AreItsFiles (record { top = top; xbars = o.crossbars; blocks = laid })
    its_files are =
        subst (λ ls. AreItsFiles (record { top = top; xbars = o.crossbars; blocks = ls })) (sym laid_is)
        (are_its_files top types Crossbars Blocks (count_crossbars top types size Given given_count) (count_blocks top types size Given given_count) o.crossbars o.blocks (read_as (Ok o) read).0
        (read_as (Ok o) read).1 are)

    pub its_crossbars : AllOf IsValidCrossbar o.crossbars
    its_crossbars =
        valid_crossbars top types Crossbars Blocks (count_crossbars top types size Given given_count) (count_blocks top types size Given given_count) o.crossbars o.blocks (read_as (Ok o) read).0
        (read_as (Ok o) read).1

    pub its_blocks : AllOf IsValidLaidBlock laid
    its_blocks =
        subst (AllOf IsValidLaidBlock) (sym laid_is)
        (valid_blocks top types Crossbars Blocks (count_crossbars top types size Given given_count) (count_blocks top types size Given given_count) o.crossbars o.blocks (read_as (Ok o) read).0
        (read_as (Ok o) read).1)

  -- ---- what is answered

  module _ (own : Option (List ℕ)) (tree : Tree) (are_types : AreTypes top.insts types) (describes : DescribesTop (given_file 0 0 own) tree top) (size_is : size_of own ≡ size) where
    all_files : AreFiles (numbered (own ∷ Given)) (given_file 0 0 own) tree top types Crossbars Blocks
    all_files = are_files own tree top types size Given describes are_types size_is given_count

    -- a file breaks something by itself
    pub told_by_file : (e : DescFault) → Read (Err e) → Merges (Err e) (numbered (own ∷ Given))
    told_by_file e read = refused_by_file (numbered (own ∷ Given)) (given_file 0 0 own) tree top types Crossbars Blocks all_files e (read_as (Err e) read)

    module _ (o : Others) (laid : List LaidBlock) (read : Read (Ok o)) (laid_is : laid ≡ map (λ (s : BlockSource). s.laid) o.blocks) where
      as_laid : (r : Result MergedTop DescFault) → MergesDesign r (record { top = top; xbars = o.crossbars; blocks = laid })
          → MergesDesign r (record { top = top; xbars = o.crossbars; blocks = map (λ (s : BlockSource). s.laid) o.blocks })
      as_laid r merged = subst (λ ls. MergesDesign r (record { top = top; xbars = o.crossbars; blocks = ls })) laid_is merged

      -- all of them together do
      pub told_by_merge : (e : DescFault) → MergesDesign (Err e) (record { top = top; xbars = o.crossbars; blocks = laid }) → Merges (Err e) (numbered (own ∷ Given))
      told_by_merge e refused =
          refused_by_merge (numbered (own ∷ Given)) (given_file 0 0 own) tree top types Crossbars Blocks all_files o.crossbars o.blocks (read_as (Ok o) read).0 (read_as (Ok o) read).1 e
          (as_laid (Err e) refused)

      module _ (m : MergedTop) (merged : MergesDesign (Ok m) (record { top = top; xbars = o.crossbars; blocks = laid })) where
        -- their ranges do
        pub told_by_ranges : (e : DescFault) → Answers {X = Unit {0}} (Err e) m (λ _. Unit {0}) → Merges (Err e) (numbered (own ∷ Given))
        told_by_ranges e refused =
            refused_by_ranges (numbered (own ∷ Given)) (given_file 0 0 own) tree top types Crossbars Blocks all_files o.crossbars o.blocks (read_as (Ok o) read).0 (read_as (Ok o) read).1 m e
            (as_laid (Ok m) merged) refused

        -- or nothing
        pub all_merged : (trees : List Tree) → trees ≡ map (λ (s : BlockSource). s.tree) o.blocks → NoViolation m
            → Merges (Ok (record { tree = tree; merged = m; blocks = trees })) (numbered (own ∷ Given))
        all_merged trees trees_are none =
            merges (numbered (own ∷ Given)) (given_file 0 0 own) tree top types Crossbars Blocks all_files o.crossbars o.blocks (read_as (Ok o) read).0 (read_as (Ok o) read).1 m
            (record { tree = tree; merged = m; blocks = trees }) (as_laid (Ok m) merged) none refl refl trees_are
