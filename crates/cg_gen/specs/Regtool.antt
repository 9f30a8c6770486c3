-- `regtool`: one block, from its description to its register texts, its header or its completed description.
use Rattle.std.specs.Prelude.{◌≡◌, ℕ, List}
use Rattle.cg_base.specs.Outside.{Files}
use Rattle.cg_svspec.specs.Names.{Among}
use Rattle.cg_desc.specs.declared.block.LaidBlock.{LaidBlock}
use Rattle.cg_desc.specs.declared.block.LaidFace.{LaidFace}
use Rattle.cg_desc.specs.declared.fault.Fault.{Fault}
use Rattle.cg_hjson.specs.declared.tree.Tree.{Tree}
use Rattle.cg_hdrspec.specs.Meaning.{HeaderMeans}
use Rattle.cg_words.specs.declared.command.RegOut.{RegOut}
use Rattle.cg_words.specs.declared.command.RegOut.TheVariants.{Registers, Header, Completed}
use Rattle.cg_outputs.specs.declared.out_file.OutFile.{OutFile}
use Rattle.cg_files.specs.Files.{File}
use Rattle.cg_block.specs.Outputs.{IsRegisterOutput, register_output, header_output, completed_output}
use Rattle.cg_block.specs.Breaks.{BreaksBlock, IsGoodFile}
use Rattle.cg_block.specs.Meaning.{RegisterTextMeans, CompletedMeans}
use Rattle.cg_gen.specs.OneFile as one
use Rattle.cg_gen.specs.OneFile.{HoldsText}
use Rattle.cg_gen.specs.Reads.{Read}

-- a block that a file describes: its tree, and its interfaces laid out
pub record Block : Type 0 where
  pub tree : Tree
  pub laid : LaidBlock

abbrev pub block : Tree → LaidBlock → Block
block t laid = record { tree = t; laid = laid }

-- the file is that of a block that breaks nothing
abbrev pub Describes : File → Block → Type 0
Describes file b = IsGoodFile file b.tree b.laid

-- what is asked for: the register text of each interface, the header, or the completed description
abbrev pub IsAskedFor : RegOut → Block → OutFile → Type 0
IsAskedFor Registers b o = IsRegisterOutput b.laid o
IsAskedFor Header b o = o ≡ header_output b.laid
IsAskedFor Completed b o = o ≡ completed_output b.tree b.laid

-- it is held, with its meaning
abbrev pub Holds : RegOut → (dir : List ℕ) → File → Block → Files → Type 0
Holds Registers dir file b after = (face : LaidFace) → Among face b.laid.faces → HoldsText dir after (register_output b.laid face).name (RegisterTextMeans b.laid face)
Holds Header dir file b after = HoldsText dir after (header_output b.laid).name (HeaderMeans b.laid)
Holds Completed dir file b after = HoldsText dir after (completed_output b.tree b.laid).name (CompletedMeans file b.tree b.laid)

-- ---- the command

abbrev pub NextRead : List ℕ → List Read → List ℕ → Type 0
NextRead file reads name = one.NextRead file reads name

abbrev pub Violates : List Read → Fault → Type 0
Violates reads fault = one.Violates BreaksBlock reads fault

abbrev pub IsGood : List Read → Type 0
IsGood reads = one.IsGood Describes reads

abbrev pub IsOutput : RegOut → List Read → OutFile → Type 0
IsOutput made reads o = one.IsOutput Describes (IsAskedFor made) reads o

abbrev pub WritesBlock : RegOut → (dir file : List ℕ) → (before after : Files) → Type 0
WritesBlock made dir file before after = one.Writes Describes (IsAskedFor made) (Holds made dir) dir file before after
