use Rattle.std.proofs.Common.{◌≡◌, ◌++◌, map}
use Rattle.std.specs.List.{range_with_len}
use Rattle.cg_sample.specs.Sample.{crossbar_name, listed_line}
use Rattle.cg_sample.proofs.top.add_crossbars.Given as goal

-- the lines of the first crossbars were added
abbrev pub invariant-loop-crossbar : goal.invariant-loop-crossbar
invariant-loop-crossbar l = l.lines ≡ l.fn.lines ++ map (λ c. listed_line (crossbar_name c)) (range_with_len 0 l.crossbar)
