-- The arguments of each tool, as `clap` defines simple commands, and the words that it takes.
use Rattle.std.specs.Prelude.{ℕ, List, Bool, [], ◌∷◌, true, false, codes, Some}
use Rattle.clap.specs.Walk.{Rule, Text}
use Rattle.clap.specs.Kinds.{Kinds}
use Rattle.clap.specs.Simple.{App, new_app, new_rule, with_rule, on_top}
use Rattle.clap.specs.Faults.{fault_of}
use Rattle.clap.specs.declared.builder.action.ArgAction.TheVariants.{Set, SetTrue}

-- a flag of one letter, which may be left out
abbrev pub flag_rule : Text → ℕ → Rule
flag_rule id letter = record (new_rule id) { short = Some letter; action = Some SetTrue }

-- a required option of one letter, with one value
abbrev pub option_rule : Text → ℕ → Rule
option_rule id letter = record (new_rule id) { required = true; short = Some letter; action = Some Set }

-- a required word that stands alone
abbrev pub word_rule : Text → Rule
word_rule id = record (new_rule id) { required = true; action = Some Set }

-- a command without arguments, whose name does not stand before the words, and which has no help and no version flag
abbrev pub named_app : Text → App
named_app name = on_top (λ s. record s { disable_version_flag = true })
    (on_top (λ s. record s { disable_help_flag = true })
    (on_top (λ s. record s { no_binary_name = true }) (new_app name)))

-- the options `-t FILE` (116) and `-o DIR` (111)
abbrev pub with_paths : App → App
with_paths app = with_rule (with_rule app (option_rule (codes "file") 116)) (option_rule (codes "dir") 111)

-- `regtool`: the flags `-r` (114), `-D` (68) and `-j` (106), the option `-t DIR` (116), and the word FILE
unfoldable pub regtool_app : App
regtool_app = with_rule (with_rule (with_rule (with_rule (with_rule (named_app (codes "regtool"))
    (flag_rule (codes "registers") 114)) (flag_rule (codes "header") 68)) (flag_rule (codes "completed") 106))
    (option_rule (codes "dir") 116)) (word_rule (codes "file"))

-- `tlgen`: the options `-t FILE` and `-o DIR`
unfoldable pub tlgen_app : App
tlgen_app = with_paths (named_app (codes "tlgen"))

-- `topgen` and `session`: the options `-t FILE`, `-o DIR` and `-w N` (119)
unfoldable pub build_app : Text → App
build_app name = with_rule (with_paths (named_app name)) (option_rule (codes "workers") 119)

-- `probe`: the words DIR, HOST and ADDR
unfoldable pub probe_app : App
probe_app = with_rule (with_rule (with_rule (named_app (codes "probe"))
    (word_rule (codes "dir"))) (word_rule (codes "host"))) (word_rule (codes "addr"))

-- `sample`: the word NUMBER
unfoldable pub sample_app : App
sample_app = with_rule (named_app (codes "sample")) (word_rule (codes "number"))

-- there is no fault
abbrev pub is_free_of_faults : Kinds → Bool
is_free_of_faults [] = true
is_free_of_faults (k ∷ ks) = false

-- the command takes the words: `clap` finds no fault in them
abbrev pub accepts : App → List Text → Bool
accepts app words = is_free_of_faults (fault_of app words)
