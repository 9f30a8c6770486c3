use Rattle.std.proofs.Common.{◌≡◌, drop, map}
use Rattle.cg_svspec.specs.Names.{first_repeat, first_repeat_after}
use Rattle.cg_sv.proofs.names.first_repeat.Given as goal

-- the first repeat among the names that are left, after those seen, is the first repeat
abbrev pub invariant-loop-name : goal.invariant-loop-name
invariant-loop-name l =
    first_repeat_after (map (λ s. s.now) l.seen.keys) (map (λ s. s.now) (drop l.name-index l.names))
    ≡ first_repeat (map (λ s. s.now) l.names)
