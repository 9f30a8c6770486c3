use Rattle.std.proofs.Common.{◌≡◌, ◌++◌, drop, map}
use Rattle.cg_busspec.specs.CrossbarModule.{range_term}
use Rattle.cg_sv.specs.Views.{expression_of}
use Rattle.cg_svxbar.proofs.selects.range_terms.Given as goal

-- the terms so far, and then those of the ranges that are left, are all terms
abbrev pub invariant-loop-range : goal.invariant-loop-range
invariant-loop-range l = map expression_of l.terms ++ map (range_term l.request) (drop l.range-index l.ranges) ≡ map (range_term l.request) l.ranges
