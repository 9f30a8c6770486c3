-- The files of blocks and of crossbars, as what a command reads.
use Rattle.std.proofs.Common.{◌≡◌, ℕ, List, Some, subst}
use Rattle.cg_desc.specs.declared.crossbar.XbarDesc.{XbarDesc}
use Rattle.cg_desc.specs.declared.fault.DescFault.{DescFault}
use Rattle.cg_finding.specs.Finding.{Finding}
use Rattle.cg_finding.specs.Violations.{RefusesFirst}
use Rattle.cg_files.specs.Files.{File, BreaksFile}
use Rattle.cg_block.specs.Breaks.{BreaksBlock}
use Rattle.cg_block.proofs.Once as block
use Rattle.cg_crossbar.specs.Breaks.{BreaksAlone, IsGoodFile as GoodCrossbar}
use Rattle.cg_crossbar.proofs.FirstOnes.{file_first, description_first}
use Rattle.cg_outputs.specs.declared.out_file.OutFile.{OutFile}
use Rattle.cg_outputs.specs.Outputs.{AreOutputs}
use Rattle.cg_gen.specs.Regtool.{Block, Describes}
use Rattle.cg_gen.specs.Tlgen.{text_of, IsAskedFor}

-- ---- blocks

pub block_given : (file : File) (b : Block) → Describes file b → (bytes : List ℕ) × (file.given ≡ Some bytes)
block_given file b is = (is.has_tree.bytes, is.has_tree.text.given)

pub block_unbroken : (file : File) (b : Block) (f : Finding) → Describes file b → ¬ BreaksBlock file f
block_unbroken file b f is = block.good_unbroken file b.tree b.laid f is

pub block_one : (file : File) (a b : Block) → Describes file a → Describes file b → a ≡ b
block_one file a b is also =
    let same = block.good_one file a.tree b.tree a.laid b.laid is also in
    (λ i. record { tree = same.0 i; laid = same.1 i })

-- ---- crossbars

pub crossbar_given : (file : File) (x : XbarDesc) → GoodCrossbar file x → (bytes : List ℕ) × (file.given ≡ Some bytes)
crossbar_given file x is = (is.describes.has_tree.bytes, is.describes.has_tree.text.given)

-- what a file breaks before it has a tree is the first of all that it breaks
pub crossbar_file_first : (file : File) (e : DescFault) → RefusesFirst e file.number (BreaksFile file) → RefusesFirst e file.number (BreaksAlone file)
crossbar_file_first file e refuses = description_first file e (file_first file e refuses)

-- its text is what is asked for of it
pub text_is_asked_for : (x : XbarDesc) (text : OutFile) (os : List OutFile) → text ≡ text_of x → AreOutputs (λ o. o ≡ text) os → AreOutputs (IsAskedFor x) os
text_is_asked_for x text os is are = subst (λ t. AreOutputs (λ o. o ≡ t) os) is are
