-- Where a run stopped among its deeds.
use Rattle.std.proofs.Common.{◌≤◌, ℕ, List, [], ◌∷◌, sym, ap, subst, inl, inr, arith}
use Rattle.cg_base.specs.Outside.{Rose}
use Rattle.cg_deeds.specs.declared.deed.Stream.TheVariants.{Out, Err}
use Rattle.cg_deeds.specs.declared.deed.Deed.{Deed}
use Rattle.cg_deeds.specs.declared.deed.Deed.TheVariants.{Write, Remove, Say}
use Rattle.cg_deeds.specs.Outside.{Outlets, Later}
use Rattle.cg_deeds.specs.Deeds.{Contents, after_deed, Begun, FaultRose, StoppedAt}
use Rattle.cg_deeds.specs.Inner.{Stopped}

-- the deeds in front of it, and those behind
pub stopped_at : (deed : Deed) (deeds : List Deed) (before after : Contents) → Stopped deed deeds before after → StoppedAt deed deeds before after
stopped_at deed [] before after none = absurd none
stopped_at deed (d ∷ ds) before after (inl here) =
    record { front = []; rest = ds; split = ap (λ x. x ∷ ds) (sym here.0); begun = subst (λ x. Begun x before after) (sym here.0) here.1 }
stopped_at deed (d ∷ ds) before after (inr there) =
    let s = stopped_at deed ds (after_deed d before) after there in
    record { front = d ∷ s.front; rest = s.rest; split = ap (λ xs. d ∷ xs) s.split; begun = s.begun }

-- what rose since then rose since before
rose_since : (a b c : ℕ) → a ≤ b → Rose b c → Rose a c
rose_since a b c low rose = omega (arith, low, rose)

pub fault_since : (deed : Deed) (a b c : Outlets) → Later a b → FaultRose deed b c → FaultRose deed a c
fault_since (Write name bytes) a b c later rose = rose_since a.changes b.changes c.changes later.changes rose
fault_since (Remove name) a b c later rose = rose_since a.changes b.changes c.changes later.changes rose
fault_since (Say Out line) a b c later rose = rose_since a.out_faults b.out_faults c.out_faults later.out rose
fault_since (Say Err line) a b c later rose = rose_since a.err_faults b.err_faults c.err_faults later.err rose

pub later_on : (a b c : Outlets) → Later a b → Later b c → Later a c
later_on a b c first second = record {
  changes = omega (arith, first.changes, second.changes);
  out = omega (arith, first.out, second.out);
  err = omega (arith, first.err, second.err);
}
