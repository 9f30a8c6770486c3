use Rattle.std.proofs.Common.{ℕ, ◌+◌, map, option_map, take}
use Rattle.cg_design.specs.Inner.Reading.{IsCountOf, sizes}
use Rattle.cg_design.proofs.reading.behind_all.Given as goal

-- the bytes of the files so far
abbrev pub invariant-loop-bytes : goal.invariant-loop-bytes
invariant-loop-bytes l =
    (exact : ℕ) → IsCountOf l.fn.before exact → IsCountOf l.count (exact + sizes (take l.bytes-index (map (option_map (λ b. b.now)) l.given)))
