-- What the outside shows at a moment.
use Rattle.std.specs.Prelude.{◌≤◌, ℕ, List, Option}
use Rattle.cg_base.specs.Outside.{Files, Rose}

-- what deeds change: the store's files and what the streams took, each with its count of faults
pub record Outlets : Type 0 where
  pub files : Option Files
  pub changes : ℕ
  pub out : Option (List ℕ)
  pub out_faults : ℕ
  pub err : Option (List ℕ)
  pub err_faults : ℕ

abbrev pub outlets : Option Files → ℕ → Option (List ℕ) → ℕ → Option (List ℕ) → ℕ → Outlets
outlets files changes out out_faults err err_faults =
    record { files = files; changes = changes; out = out; out_faults = out_faults; err = err; err_faults = err_faults }

-- The whole of it: besides what deeds change the names of which the store was asked to read, and the input that is left, with the
-- counts of failed reads.
pub record World : Type 0 where
  pub outlets : Outlets
  pub asked : Option (List (List ℕ))
  pub reads : ℕ
  pub left : Option (List ℕ)
  pub input_faults : ℕ

abbrev pub world : Outlets → Option (List (List ℕ)) → ℕ → Option (List ℕ) → ℕ → World
world outlets asked reads left input_faults =
    record { outlets = outlets; asked = asked; reads = reads; left = left; input_faults = input_faults }

-- no count of faults rose
pub record Calm (before after : World) : Type 0 where
  pub reads : Rose before.reads after.reads → ⊥
  pub changes : Rose before.outlets.changes after.outlets.changes → ⊥
  pub input : Rose before.input_faults after.input_faults → ⊥
  pub out : Rose before.outlets.out_faults after.outlets.out_faults → ⊥
  pub err : Rose before.outlets.err_faults after.outlets.err_faults → ⊥

-- no count of faults fell
pub record Later (before after : Outlets) : Type 0 where
  pub changes : before.changes ≤ after.changes
  pub out : before.out_faults ≤ after.out_faults
  pub err : before.err_faults ≤ after.err_faults
