-- The command that words are, found value by value: an inner definition, which a law ties to `IsCommand`.
use Rattle.std.specs.Prelude.{ℕ, ◌≡◌, ◌-◌, ◌^◌, List, Bool, [], ◌∷◌, true, false, ◌&&◌, codes, nat_le, Option, Some, None, option_and_then, option_map, if◌then◌else◌, Result, Ok, Err}
use Rattle.std.specs.Option.{option_map_or}
use Rattle.std.specs.Str.{bytes_eq}
use Rattle.clap.specs.Walk.{Row, Text, first_of}
use Rattle.clap.specs.Simple.{App, matches_of}
use Rattle.cg_base.specs.Number.Scan.{number_of}
use Rattle.cg_words.specs.Tools.{accepts, regtool_app, tlgen_app, build_app, probe_app, sample_app}
use Rattle.cg_words.specs.declared.command.RegOut.{RegOut}
use Rattle.cg_words.specs.declared.command.RegOut.TheVariants.{Registers, Header, Completed}
use Rattle.cg_words.specs.declared.command.Command.{Command}
use Rattle.cg_words.specs.declared.command.Command.TheVariants.{Regtool, Tlgen, Topgen, Session, Probe, Sample}
use Rattle.cg_words.specs.declared.reading.Build.{Build}
use Rattle.cg_words.specs.declared.fault.WordsFault.{WordsFault}
use Rattle.cg_words.specs.declared.fault.WordsFault.TheVariants.{NotCommand, Memory}

-- the flag was given
abbrev pub is_given : Text → List Row → Bool
is_given id rows = option_map_or (λ text. bytes_eq text (codes "true")) (first_of id rows) false

-- the one output of the three
abbrev pub one_output : Bool → Bool → Bool → Option RegOut
one_output true false false = Some Registers
one_output false true false = Some Header
one_output false false true = Some Completed
one_output _ _ _ = None

-- the one output that is asked for
abbrev pub output_in : List Row → Option RegOut
output_in rows = one_output (is_given (codes "registers") rows) (is_given (codes "header") rows) (is_given (codes "completed") rows)

-- the number, where it lies between the two
abbrev pub if_between : ℕ → ℕ → ℕ → Option ℕ
if_between low high n = if nat_le low n && nat_le n high then Some n else None

-- the number from low to high that a text is
abbrev pub number_between : ℕ → ℕ → Text → Option ℕ
number_between low high text = option_and_then (if_between low high) (number_of text)

-- the number from low to high that an argument has
abbrev pub number_in : Text → ℕ → ℕ → List Row → Option ℕ
number_in id low high rows = option_and_then (number_between low high) (first_of id rows)

abbrev pub regtool_with : Option RegOut → Option Text → Option Text → Option Command
regtool_with (Some made) (Some dir) (Some file) = Some (Regtool made dir file)
regtool_with _ _ _ = None

-- what the values of `regtool` say
abbrev pub regtool_in : List Row → Option Command
regtool_in rows = regtool_with (output_in rows) (first_of (codes "dir") rows) (first_of (codes "file") rows)

abbrev pub tlgen_with : Option Text → Option Text → Option Command
tlgen_with (Some file) (Some dir) = Some (Tlgen file dir)
tlgen_with _ _ = None

-- what the values of `tlgen` say
abbrev pub tlgen_in : List Row → Option Command
tlgen_in rows = tlgen_with (first_of (codes "file") rows) (first_of (codes "dir") rows)

abbrev pub build_with : Option Text → Option Text → Option ℕ → Option Build
build_with (Some file) (Some dir) (Some workers) = Some (record { file = file; dir = dir; workers = workers })
build_with _ _ _ = None

-- what the values of `topgen` or `session` say
abbrev pub build_in : List Row → Option Build
build_in rows = build_with (first_of (codes "file") rows) (first_of (codes "dir") rows) (number_in (codes "workers") 1 64 rows)

abbrev pub topgen_in : List Row → Option Command
topgen_in rows = option_map (λ b. Topgen b.file b.dir b.workers) (build_in rows)

abbrev pub session_in : List Row → Option Command
session_in rows = option_map (λ b. Session b.file b.dir b.workers) (build_in rows)

abbrev pub probe_with : Option Text → Option Text → Option ℕ → Option Command
probe_with (Some dir) (Some host) (Some addr) = Some (Probe dir host addr)
probe_with _ _ _ = None

-- what the values of `probe` say
abbrev pub probe_in : List Row → Option Command
probe_in rows = probe_with (first_of (codes "dir") rows) (first_of (codes "host") rows) (number_in (codes "addr") 0 (2 ^ 32 - 1) rows)

abbrev pub sample_with : Option ℕ → Option Command
sample_with (Some number) = Some (Sample number)
sample_with None = None

-- what the values of `sample` say
abbrev pub sample_in : List Row → Option Command
sample_in rows = sample_with (number_in (codes "number") 1 200 rows)

-- what the words say, where the tool takes them
abbrev pub taken_by : App → (List Row → Option Command) → List Text → Option Command
taken_by app meaning words = if accepts app words then meaning (matches_of app words) else None

-- the command that the words are, by the tool's name
abbrev pub command_by : Text → List Text → Option Command
command_by tool words =
    if bytes_eq tool (codes "regtool") then taken_by regtool_app regtool_in words
    else if bytes_eq tool (codes "tlgen") then taken_by tlgen_app tlgen_in words
    else if bytes_eq tool (codes "topgen") then taken_by (build_app (codes "topgen")) topgen_in words
    else if bytes_eq tool (codes "session") then taken_by (build_app (codes "session")) session_in words
    else if bytes_eq tool (codes "probe") then taken_by probe_app probe_in words
    else if bytes_eq tool (codes "sample") then taken_by sample_app sample_in words
    else None

-- the command that the words are
abbrev pub command_of : List Text → Option Command
command_of [] = None
command_of (tool ∷ words) = command_by tool words

-- what a reader answers where that is what the words say
abbrev pub Finds : {T : Type 0} → Option T → Result T WordsFault → Type 0
Finds found (Ok value) = found ≡ Some value
Finds found (Err NotCommand) = found ≡ None
Finds found (Err Memory) = Unit {0}
