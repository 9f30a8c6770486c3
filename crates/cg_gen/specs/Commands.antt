-- The commands that are built and read files of the store: what each reads, what breaks a rule in its files, what it writes, and what that means. One line each.
use Rattle.std.specs.Prelude.{◌≡◌, ℕ, List, []}
use Rattle.cg_base.specs.Outside.{Files}
use Rattle.cg_desc.specs.declared.fault.Fault.{Fault}
use Rattle.cg_outputs.specs.Outputs.{AreOutputs}
use Rattle.cg_outputs.specs.declared.out_file.OutFile.{OutFile}
use Rattle.cg_words.specs.declared.command.Command.{Command}
use Rattle.cg_words.specs.declared.command.Command.TheVariants.{Regtool, Tlgen, Topgen, Session, Probe, Sample}
use Rattle.cg_gen.specs.Reads.{Read}
use Rattle.cg_gen.specs.Regtool as regtool
use Rattle.cg_gen.specs.Tlgen as tlgen
use Rattle.cg_gen.specs.Topgen as topgen

-- a session reads its input (specs/Run); the others are answered by the usage text
abbrev pub IsBuiltCommand : Command → Type 0
IsBuiltCommand (Regtool made dir file) = Unit {0}
IsBuiltCommand (Tlgen file dir) = Unit {0}
IsBuiltCommand (Topgen file dir workers) = Unit {0}
IsBuiltCommand (Sample number) = Unit {0}
IsBuiltCommand _ = ⊥

-- behind these reads the command reads the file of this name next
abbrev pub NextRead : Command → List Read → List ℕ → Type 0
NextRead (Regtool made dir file) reads name = regtool.NextRead file reads name
NextRead (Tlgen file dir) reads name = tlgen.NextRead file reads name
NextRead (Topgen file dir workers) reads name = topgen.NextRead file reads name
NextRead _ reads name = ⊥

-- the files that it read break a rule
abbrev pub Violates : Command → List Read → Fault → Type 0
Violates (Regtool made dir file) reads fault = regtool.Violates reads fault
Violates (Tlgen file dir) reads fault = tlgen.Violates reads fault
Violates (Topgen file dir workers) reads fault = topgen.Violates file reads fault
Violates _ reads fault = ⊥

-- the files that it read describe what can be built
abbrev pub IsGood : Command → List Read → Type 0
IsGood (Regtool made dir file) reads = regtool.IsGood reads
IsGood (Tlgen file dir) reads = tlgen.IsGood reads
IsGood (Topgen file dir workers) reads = topgen.IsGood file reads
IsGood _ reads = ⊥

-- these are all files that it writes into its folder, in the order in which it writes them
abbrev pub AreWritten : Command → List Read → List OutFile → Type 0
AreWritten (Regtool made dir file) reads os = AreOutputs (regtool.IsOutput made reads) os
AreWritten (Tlgen file dir) reads os = AreOutputs (tlgen.IsOutput reads) os
AreWritten (Topgen file dir workers) reads os = topgen.AreWritten file reads os
AreWritten _ reads os = ⊥

-- the folder of its outputs
abbrev pub folder_of : Command → List ℕ
folder_of (Regtool made dir file) = dir
folder_of (Tlgen file dir) = dir
folder_of (Topgen file dir workers) = dir
folder_of (Session file dir workers) = dir
folder_of (Probe dir host address) = dir
folder_of (Sample number) = []

-- what the files after a good run mean; a sample is built in memory alone
abbrev pub Writes : Command → Files → Files → Type 0
Writes (Regtool made dir file) before after = regtool.WritesBlock made dir file before after
Writes (Tlgen file dir) before after = tlgen.WritesCrossbar dir file before after
Writes (Topgen file dir workers) before after = topgen.WritesTop dir file before after
Writes (Sample number) before after = after ≡ before
Writes _ before after = ⊥
