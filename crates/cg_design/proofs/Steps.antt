-- One more file of a crossbar is read, and one more of a block.
use Rattle.std.proofs.Common.{◌≡◌, ℕ, ◌+◌, List, take, Option, Some, Result, IfOk, Ok, Err}
use Rattle.std.specs.List.{slice_get}
use Rattle.cg_desc.specs.Crossbar.{IsValidCrossbar}
use Rattle.cg_desc.specs.Merged.{IsValidLaidBlock}
use Rattle.cg_desc.specs.declared.crossbar.XbarDesc.{XbarDesc}
use Rattle.cg_desc.specs.declared.fault.DescFault.{DescFault}
use Rattle.cg_desc.specs.declared.top.XbarUse.{XbarUse}
use Rattle.cg_files.specs.Files.{File}
use Rattle.cg_finding.specs.Finding.{Finding}
use Rattle.cg_design.specs.Breaks.{BreaksBlockFile, BreaksCrossbarFile, DescribesBlock, DescribesCrossbar, Finds}
use Rattle.cg_design.specs.Files.{files_from, given_file}
use Rattle.cg_design.specs.Inner.Reading.{Adds, AreBlocksRead, AreCrossbarsRead, BreaksListed, DescribesListed, DescribesTyped, IsCountOf, sizes}
use Rattle.cg_design.specs.declared.block.BlockSource.{BlockSource}
use Rattle.cg_design.specs.declared.reading.Reading.{Reading}
use Rattle.cg_design.proofs.Counted.{block_exactly, crossbar_exactly}
use Rattle.cg_design.proofs.Once.{block_unbroken, crossbar_unbroken}
use Rattle.cg_design.proofs.Readings.{read_next}
use Rattle.cg_design.proofs.Rows.{file_at}

-- what is described, with what is found to be valid
with_valid : {A : Type 0} (r : Result A DescFault) (number : ℕ) (B : Finding → Type 0) (D V : A → Type 0) → Finds r number B D → IfOk r V → Finds r number B (λ x. D x × V x)
with_valid (Ok x) number B D V found valid = (found, valid)
with_valid (Err e) number B D V found valid = found

module _ (gs : List (Option (List ℕ))) (exact counted n : ℕ) (g : Option (List ℕ)) (g_is : slice_get gs n ≡ Some g) (count : IsCountOf counted (exact + sizes (take n gs))) where
  -- a crossbar's
  pub crossbar_next : (listed : List XbarUse) (u : XbarUse) → slice_get listed n ≡ Some u → (old new : Reading XbarDesc) (read : Result XbarDesc DescFault)
      → Finds read (1 + n) (BreaksCrossbarFile u.name (given_file (1 + n) counted g)) (λ x. DescribesCrossbar u.name (given_file (1 + n) counted g) x) → IfOk read (λ x. IsValidCrossbar x) → Adds old read new
      → AreCrossbarsRead listed (files_from 1 exact gs) n old → AreCrossbarsRead listed (files_from 1 exact gs) (n + 1) new
  crossbar_next listed u u_is old new read finds valid adds are =
      let file : File = given_file (1 + n) (exact + sizes (take n gs)) g in
      let found =
      crossbar_exactly u (1 + n) g counted (exact + sizes (take n gs)) read count
      (with_valid read (1 + n) (BreaksCrossbarFile u.name (given_file (1 + n) counted g)) (DescribesCrossbar u.name (given_file (1 + n) counted g)) IsValidCrossbar finds valid) in
      read_next XbarUse XbarDesc BreaksListed DescribesListed listed (files_from 1 exact gs) n u file u_is (file_at 1 exact gs n g g_is) (λ x f is. crossbar_unbroken file u.name x f is.0) old new read found
      adds are

  -- a block's
  pub block_next : (first : ℕ) (types : List (List ℕ)) (kind : List ℕ) → slice_get types n ≡ Some kind → (old new : Reading BlockSource) (read : Result BlockSource DescFault)
      → Finds read (first + n) (BreaksBlockFile kind (given_file (first + n) counted g)) (λ s. DescribesBlock kind (given_file (first + n) counted g) s.tree s.laid) → IfOk read (λ s. IsValidLaidBlock s.laid)
      → Adds old read new → AreBlocksRead types (files_from first exact gs) n old → AreBlocksRead types (files_from first exact gs) (n + 1) new
  block_next first types kind kind_is old new read finds valid adds are =
      let file : File = given_file (first + n) (exact + sizes (take n gs)) g in
      let found =
      block_exactly kind (first + n) g counted (exact + sizes (take n gs)) read count
      (with_valid read (first + n) (BreaksBlockFile kind (given_file (first + n) counted g)) (λ s. DescribesBlock kind (given_file (first + n) counted g) s.tree s.laid) (λ s. IsValidLaidBlock s.laid) finds valid) in
      read_next (List ℕ) BlockSource BreaksBlockFile DescribesTyped types (files_from first exact gs) n kind file kind_is (file_at first exact gs n g g_is)
      (λ s f is. block_unbroken file kind s.tree s.laid f is.0) old new read found adds are
