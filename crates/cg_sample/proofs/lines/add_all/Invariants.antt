use Rattle.std.proofs.Common.{◌≡◌, ◌++◌, drop, map}
use Rattle.cg_sample.proofs.lines.add_all.Given as goal

-- the lines so far, and then those that are left, are all
abbrev pub invariant-loop-line : goal.invariant-loop-line
invariant-loop-line l = l.lines ++ map (λ line. line.now) (drop l.line-index l.more) ≡ l.fn.lines ++ map (λ line. line.now) l.more
