use Rattle.std.proofs.Common.{◌≡◌, ◌++◌, map}
use Rattle.std.specs.List.{range_with_len}
use Rattle.cg_sample.specs.Sample.{instance_line}
use Rattle.cg_sample.proofs.top.add_instances.Given as goal

-- the lines of the first instances were added
abbrev pub invariant-loop-place : goal.invariant-loop-place
invariant-loop-place l = l.lines ≡ l.fn.lines ++ map (instance_line l.number) (range_with_len 0 l.place)
