use Rattle.std.proofs.Common.{◌≡◌, ◌++◌, map}
use Rattle.std.specs.List.{range_with_len}
use Rattle.cg_sample.specs.Sample.{below_file}
use Rattle.cg_sample.proofs.sample.add_crossbars.Given as goal

-- the files of the first crossbars were added
abbrev pub invariant-loop-crossbar : goal.invariant-loop-crossbar
invariant-loop-crossbar l = l.files ≡ l.fn.files ++ map (below_file l.number) (range_with_len 0 l.crossbar)
