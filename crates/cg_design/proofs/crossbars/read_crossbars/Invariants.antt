use Rattle.std.proofs.Common.{ℕ, ◌+◌, map, option_map, take}
use Rattle.cg_design.specs.Files.{files_from}
use Rattle.cg_design.specs.Inner.Reading.{AreCrossbarsRead, IsCountOf, sizes}
use Rattle.cg_design.proofs.crossbars.read_crossbars.Given as goal

-- the bytes of the files so far, and what they are
abbrev pub invariant-loop-number : goal.invariant-loop-number
invariant-loop-number l =
    (exact : ℕ) → IsCountOf l.fn.before exact
    → IsCountOf l.count (exact + sizes (take l.number (map (option_map (λ b. b.now)) l.given)))
    × AreCrossbarsRead l.listed (files_from 1 exact (map (option_map (λ b. b.now)) l.given)) l.number l.reading
