use Rattle.std.proofs.Common.{◌≡◌, map}
use Rattle.std.specs.List.{range_with_len}
use Rattle.cg_sample.specs.Sample.{named}
use Rattle.cg_sample.proofs.lines.names.Given as goal

-- the names so far are those of the first numbers
abbrev pub invariant-loop-offset : goal.invariant-loop-offset
invariant-loop-offset l = l.names ≡ map (named l.start) (range_with_len l.first l.offset)
