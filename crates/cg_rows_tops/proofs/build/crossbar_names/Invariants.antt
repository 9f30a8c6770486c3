use Rattle.std.proofs.Common.{◌≡◌, ◌++◌, drop, map}
use Rattle.cg_rows_tops.proofs.build.crossbar_names.Given as goal

-- the names so far and those of what is left are all
abbrev pub invariant-loop-crossbar : goal.invariant-loop-crossbar
invariant-loop-crossbar l = l.names ++ map (λ x. x.name) (drop l.crossbar-index l.crossbars) ≡ map (λ x. x.name) l.crossbars
