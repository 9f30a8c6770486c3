-- What the bytes that a run writes mean.
use Rattle.std.specs.Prelude.{◌≡◌, ℕ, List, Some}
use Rattle.cg_base.specs.Outside.{Files}
use Rattle.cg_words.specs.Words.{IsCommand}
use Rattle.cg_words.specs.declared.command.Command.{Command}
use Rattle.cg_deeds.specs.Outside.{World}
use Rattle.cg_gen.specs.Commands.{Writes}

-- the words are a command, whose outputs the store holds with their meaning
pub record WritesOf (words : List (List ℕ)) (before after : Files) : Type 0 where
  pub command : Command
  pub is_command : IsCommand words command
  pub writes : Writes command before after

-- where the files are told
abbrev pub WritesMeaning : List (List ℕ) → World → World → Type 0
WritesMeaning words before after =
    (m : Files) → before.outlets.files ≡ Some m → (n : Files) × (after.outlets.files ≡ Some n) × WritesOf words m n
