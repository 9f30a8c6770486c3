use Rattle.std.proofs.Common.{◌≡◌, ◌++◌, drop, map}
use Rattle.cg_sv.specs.Views.{entry_of}
use Rattle.cg_topspec.specs.TopModule.{crossbar_entry}
use Rattle.cg_svbus.proofs.top_instances.add_crossbars.Given as goal

-- the entries so far, and then those of the crossbars that are left, are all
abbrev pub invariant-loop-xbar : goal.invariant-loop-xbar
invariant-loop-xbar l =
    map entry_of l.entries ++ map (crossbar_entry l.top l.ties) (drop l.xbar-index l.xbars) ≡ map entry_of l.fn.entries ++ map (crossbar_entry l.top l.ties) l.xbars
