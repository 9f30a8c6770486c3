use Rattle.cg_gen.proofs.Reading.{holds_absent, holds_bytes, holds_large}
use Rattle.cg_gen.proofs.given.read_file.Goals as goal

-- the file's bytes
pub returns-in-Ok-Yes-clause-gave : goal.returns-in-Ok-Yes-clause-gave
returns-in-Ok-Yes-clause-gave g c = holds_bytes _ _ _ _ _ (rw c.in-Ok-Yes.field-0-is at c.in-Ok-Yes.ensures.found) c.new-bytes.ensures.items c.from_vec.ensures

-- no file
pub returns-in-Ok-Absent-clause-gave : goal.returns-in-Ok-Absent-clause-gave
returns-in-Ok-Absent-clause-gave g c = holds_absent _ _ c.new-bytes.result.items c.read.new.into.items (rw c.in-Ok-Absent.field-0-is at c.in-Ok-Absent.ensures.found)

-- a file above the limit
pub returns-in-Ok-Large-clause-gave : goal.returns-in-Ok-Large-clause-gave
returns-in-Ok-Large-clause-gave g c = holds_large _ _ c.new-bytes.result.items c.read.new.into.items (rw c.in-Ok-Large.field-0-is at c.in-Ok-Large.ensures.found)
