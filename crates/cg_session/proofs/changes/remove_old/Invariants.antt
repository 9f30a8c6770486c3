use Rattle.std.proofs.Common.{◌≡◌, ◌≤◌, drop, map, not, Option}
use Rattle.std.specs.List.{filter}
use Rattle.cg_base.specs.Outside.{Files}
use Rattle.cg_session.specs.Play.{has_name, old_ones, removal_of}
use Rattle.cg_session.specs.Turns.{after_changes, StoppedIn}
use Rattle.cg_session.proofs.changes.remove_old.Given as goal

-- the changes that are left make of the store as it is what all make of it as it was, and a stop among them is one among all
abbrev pub invariant-loop-o : goal.invariant-loop-o
invariant-loop-o g l = record {
  files : after_changes (map removal_of (filter (λ o. not (has_name l.new o.name)) (drop l.o-index l.last))) (g.S.Store.content l.store) ≡ after_changes (map removal_of (old_ones l.last l.new)) (g.S.Store.content l.fn.store);
  stops : (x : Option Files) → StoppedIn (map removal_of (filter (λ o. not (has_name l.new o.name)) (drop l.o-index l.last))) (g.S.Store.content l.store) x → StoppedIn (map removal_of (old_ones l.last l.new)) (g.S.Store.content l.fn.store) x;
  counts : g.S.Store.change_faults l.fn.store ≤ g.S.Store.change_faults l.store;
  asked : g.S.Store.asked l.store ≡ g.S.Store.asked l.fn.store;
  reads : g.S.Store.read_faults l.store ≡ g.S.Store.read_faults l.fn.store;
}
