use Rattle.std.proofs.Common.{ℕ, ◌+◌, map, option_map, take}
use Rattle.cg_design.specs.Files.{files_from}
use Rattle.cg_design.specs.Inner.Reading.{AreBlocksRead, IsCountOf, sizes}
use Rattle.cg_design.proofs.blocks.read_blocks.Given as goal

-- the bytes of the files so far, and what they are
abbrev pub invariant-loop-number : goal.invariant-loop-number
invariant-loop-number l =
    (exact : ℕ) → IsCountOf l.fn.before exact
    → IsCountOf l.count (exact + sizes (take l.number (map (option_map (λ b. b.now)) l.given)))
    × AreBlocksRead l.types (files_from l.file exact (map (option_map (λ b. b.now)) l.given)) l.number l.reading
