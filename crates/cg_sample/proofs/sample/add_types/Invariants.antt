use Rattle.std.proofs.Common.{◌≡◌, ◌++◌, map}
use Rattle.std.specs.List.{range_with_len}
use Rattle.cg_sample.specs.Sample.{block_file, block_lines, block_name}
use Rattle.cg_sample.proofs.sample.add_types.Given as goal

-- the files of the first types were added
abbrev pub invariant-loop-kind : goal.invariant-loop-kind
invariant-loop-kind l = l.files ≡ l.fn.files ++ map (λ j. block_file (block_name j) (block_lines j)) (range_with_len 0 l.kind)
