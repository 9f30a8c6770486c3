-- Which words are a command, and which command they are.
pub mod Reading
use Rattle.std.specs.Prelude.{ℕ, ◌≡◌, ◌≤◌, ◌-◌, ◌^◌, List, [], ◌∷◌, codes, Some, IsTrue, Result, Ok, Err}
use Rattle.clap.specs.Walk.{Text, first_of}
use Rattle.clap.specs.Simple.{App, matches_of}
use Rattle.cg_base.specs.Number.{IsNumber}
use Rattle.cg_words.specs.Tools.{accepts, regtool_app, tlgen_app, build_app, probe_app, sample_app}
use Rattle.cg_words.specs.declared.command.RegOut.{RegOut}
use Rattle.cg_words.specs.declared.command.RegOut.TheVariants.{Registers, Header, Completed}
use Rattle.cg_words.specs.declared.command.Command.{Command}
use Rattle.cg_words.specs.declared.command.Command.TheVariants.{Regtool, Tlgen, Topgen, Session, Probe, Sample}
use Rattle.cg_words.specs.declared.fault.WordsFault.{WordsFault}
use Rattle.cg_words.specs.declared.fault.WordsFault.TheVariants.{NotCommand, Memory}

-- the words give the tool's argument this value
abbrev pub Gives : App → List Text → Text → Text → Type 0
Gives app words id value = first_of id (matches_of app words) ≡ Some value

-- the words give the tool's argument a number from low to high
pub record GivesNumber (app : App) (words : List Text) (id : Text) (low high n : ℕ) : Type 0 where
  pub text : Text
  pub given : Gives app words id text
  pub number : IsNumber text n
  pub from_low : low ≤ n
  pub to_high : n ≤ high

-- the flag that asks for an output
abbrev pub flag_of : RegOut → Text
flag_of Registers = codes "registers"
flag_of Header = codes "header"
flag_of Completed = codes "completed"

-- the output's flag is given
abbrev pub AsksFor : List Text → RegOut → Type 0
AsksFor words made = Gives regtool_app words (flag_of made) (codes "true")

-- the words after `regtool` ask for this output and no other, of a description, into a folder
pub record IsRegtool (words : List Text) (made : RegOut) (dir file : Text) : Type 0 where
  pub accepted : IsTrue (accepts regtool_app words)
  pub asks_for : AsksFor words made
  pub asks_for_no_other : (out : RegOut) → AsksFor words out → out ≡ made
  pub folder : Gives regtool_app words (codes "dir") dir
  pub description : Gives regtool_app words (codes "file") file

-- the words after `tlgen` name a description, and the folder of the outputs
pub record IsTlgen (words : List Text) (file dir : Text) : Type 0 where
  pub accepted : IsTrue (accepts tlgen_app words)
  pub description : Gives tlgen_app words (codes "file") file
  pub folder : Gives tlgen_app words (codes "dir") dir

-- the words after `topgen` or `session` name a description, the folder of the outputs, and 1 to 64 workers
pub record IsBuild (tool : Text) (words : List Text) (file dir : Text) (workers : ℕ) : Type 0 where
  pub accepted : IsTrue (accepts (build_app tool) words)
  pub description : Gives (build_app tool) words (codes "file") file
  pub folder : Gives (build_app tool) words (codes "dir") dir
  pub count : GivesNumber (build_app tool) words (codes "workers") 1 64 workers

-- the words after `probe` name a folder, a host, and an address below 2^32
pub record IsProbe (words : List Text) (dir host : Text) (addr : ℕ) : Type 0 where
  pub accepted : IsTrue (accepts probe_app words)
  pub folder : Gives probe_app words (codes "dir") dir
  pub from_host : Gives probe_app words (codes "host") host
  pub address : GivesNumber probe_app words (codes "addr") 0 (2 ^ 32 - 1) addr

-- the word after `sample` is a number from 1 to 200
pub record IsSample (words : List Text) (number : ℕ) : Type 0 where
  pub accepted : IsTrue (accepts sample_app words)
  pub size : GivesNumber sample_app words (codes "number") 1 200 number

-- the tool is the command's, and the words after it are those of the command
abbrev pub NamesCommand : Text → List Text → Command → Type 0
NamesCommand tool words (Regtool made dir file) = (tool ≡ codes "regtool") × IsRegtool words made dir file
NamesCommand tool words (Tlgen file dir) = (tool ≡ codes "tlgen") × IsTlgen words file dir
NamesCommand tool words (Topgen file dir workers) =
    (tool ≡ codes "topgen") × IsBuild (codes "topgen") words file dir workers
NamesCommand tool words (Session file dir workers) =
    (tool ≡ codes "session") × IsBuild (codes "session") words file dir workers
NamesCommand tool words (Probe dir host addr) = (tool ≡ codes "probe") × IsProbe words dir host addr
NamesCommand tool words (Sample number) = (tool ≡ codes "sample") × IsSample words number

-- the words are this command
abbrev pub IsCommand : List Text → Command → Type 0
IsCommand [] command = ⊥
IsCommand (tool ∷ words) command = NamesCommand tool words command

-- what a reader answers: the command, or that the words are none; want of memory says nothing of the words
abbrev pub ReadsCommand : List Text → Result Command WordsFault → Type 0
ReadsCommand words (Ok command) = IsCommand words command
ReadsCommand words (Err NotCommand) = (command : Command) → IsCommand words command → ⊥
ReadsCommand words (Err Memory) = Unit {0}
