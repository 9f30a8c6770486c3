use Rattle.std.proofs.Common.{◌≡◌, ◌++◌, drop, map, codes}
use Rattle.cg_topspec.specs.Clashes.{crossbar_module_names}
use Rattle.cg_svbus.proofs.top_lists.add_crossbars.Given as goal

-- the names so far, and then those of the crossbars that are left, are all
abbrev pub invariant-loop-xbar : goal.invariant-loop-xbar
invariant-loop-xbar l =
    l.names ++ map (λ x. codes "xbar_" ++ x.name) (drop l.xbar-index l.top.xbars) ≡ l.fn.names ++ crossbar_module_names l.top
