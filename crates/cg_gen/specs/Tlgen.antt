-- `tlgen`: one crossbar, from its description to the text of its module.
use Rattle.std.specs.Prelude.{◌≡◌, ℕ, List}
use Rattle.cg_base.specs.Outside.{Files}
use Rattle.cg_desc.specs.declared.crossbar.XbarDesc.{XbarDesc}
use Rattle.cg_desc.specs.declared.fault.Fault.{Fault}
use Rattle.cg_outputs.specs.declared.out_file.OutFile.{OutFile}
use Rattle.cg_files.specs.Files.{File}
use Rattle.cg_crossbar.specs.Breaks.{BreaksAlone, IsGoodFile}
use Rattle.cg_crossbar.specs.Meaning.{CrossbarTextMeans}
use Rattle.cg_crossbar.specs.Outputs.{crossbar_output, written_ranges}
use Rattle.cg_gen.specs.OneFile as one
use Rattle.cg_gen.specs.OneFile.{HoldsText}
use Rattle.cg_gen.specs.Reads.{Read}

-- its text is asked for, in which the ranges that are written are those that count
abbrev pub text_of : XbarDesc → OutFile
text_of x = crossbar_output x (written_ranges x)

abbrev pub IsAskedFor : XbarDesc → OutFile → Type 0
IsAskedFor x o = o ≡ text_of x

-- it is held, with its meaning
abbrev pub Holds : (dir : List ℕ) → File → XbarDesc → Files → Type 0
Holds dir file x after = HoldsText dir after (text_of x).name (CrossbarTextMeans x (written_ranges x))

-- ---- the command

abbrev pub NextRead : List ℕ → List Read → List ℕ → Type 0
NextRead file reads name = one.NextRead file reads name

abbrev pub Violates : List Read → Fault → Type 0
Violates reads fault = one.Violates BreaksAlone reads fault

abbrev pub IsGood : List Read → Type 0
IsGood reads = one.IsGood IsGoodFile reads

abbrev pub IsOutput : List Read → OutFile → Type 0
IsOutput reads o = one.IsOutput IsGoodFile IsAskedFor reads o

abbrev pub WritesCrossbar : (dir file : List ℕ) → (before after : Files) → Type 0
WritesCrossbar dir file before after = one.Writes IsGoodFile IsAskedFor (Holds dir) dir file before after
