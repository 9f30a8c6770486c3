-- The endings of a session, by their numbers.
use Rattle.std.specs.Prelude.{ℕ, List, true, false}
use Rattle.cg_deeds.specs.Outside.{World}
use Rattle.cg_session.specs.Session.{Finishes, RefusesCommand, FailsReading, FailsWriting, MemoryUnfound, IsTooLong}
use Rattle.cg_session.specs.declared.ending.Ending.{Ending}
use Rattle.cg_session.specs.declared.ending.Ending.TheVariants.{Good, Refused, NoCommand, ReadFailed, WriteFailed, Memory, TooLong}

abbrev pub code_of : Ending → ℕ
code_of Good = 0
code_of Refused = 1
code_of NoCommand = 2
code_of ReadFailed = 3
code_of WriteFailed = 4
code_of Memory = 5
code_of TooLong = 6

-- what each ending says
abbrev pub SessionEnds : Ending → (top dir : List ℕ) → World → World → Type 0
SessionEnds Good top dir before after = Finishes false top dir before after
SessionEnds Refused top dir before after = Finishes true top dir before after
SessionEnds NoCommand top dir before after = RefusesCommand top dir before after
SessionEnds ReadFailed top dir before after = FailsReading top dir before after
SessionEnds WriteFailed top dir before after = FailsWriting top dir before after
SessionEnds Memory top dir before after = MemoryUnfound top dir before after
SessionEnds TooLong top dir before after = IsTooLong top dir before after
