use Rattle.std.proofs.Common.{◌≡◌, ◌++◌, drop, map}
use Rattle.cg_rows_tops.proofs.build.listed_names.Given as goal

-- the names so far and those of what is left are all
abbrev pub invariant-loop-one : goal.invariant-loop-one
invariant-loop-one l = l.names ++ map (λ x. x.name) (drop l.one-index l.listed) ≡ map (λ x. x.name) l.listed
