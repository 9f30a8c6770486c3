use Rattle.std.proofs.Common.{◌≡◌, drop}
use Rattle.cg_deeds.specs.declared.deed.Deed.{Deed}
use Rattle.cg_deeds.specs.Outside.{Outlets, Later, outlets}
use Rattle.cg_deeds.specs.Deeds.{Contents, contents, after_deeds}
use Rattle.cg_deeds.specs.Inner.{Stopped}
use Rattle.cg_deeds.proofs.perform.do_all.Given as goal

-- what the deeds that are left make of what is there now is what all make of what was there, and a stop among them is one among all
abbrev pub invariant-loop-deed : goal.invariant-loop-deed
invariant-loop-deed g l =
    let now : Outlets = outlets (g.S.Store.content l.store) (g.S.Store.change_faults l.store) (g.O.Sink.held l.out) (g.O.Sink.faults l.out) (g.E.Sink.held l.err) (g.E.Sink.faults l.err) in
    let start : Outlets = outlets (g.S.Store.content l.fn.store) (g.S.Store.change_faults l.fn.store) (g.O.Sink.held l.fn.out) (g.O.Sink.faults l.fn.out) (g.E.Sink.held l.fn.err) (g.E.Sink.faults l.fn.err) in
    record {
      made : after_deeds (drop l.deed-index l.deeds) (contents now) ≡ after_deeds l.deeds (contents start);
      stops : (d : Deed) (x : Contents) → Stopped d (drop l.deed-index l.deeds) (contents now) x → Stopped d l.deeds (contents start) x;
      later : Later start now;
      reads : g.S.Store.read_faults l.store ≡ g.S.Store.read_faults l.fn.store;
      asked : g.S.Store.asked l.store ≡ g.S.Store.asked l.fn.store;
    }
