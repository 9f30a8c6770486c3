-- A top that is joined with its blocks, as far as numbers, ties and pins look at it.
use Rattle.std.specs.Prelude.{◌≡◌, ◌<◌, ◌≤◌, length}
use Rattle.cg_svspec.specs.Printable.{AllOf}
use Rattle.cg_desc.specs.Valid.{IsValidBlock}
use Rattle.cg_desc.specs.declared.top.MergedTop.{MergedTop}

-- Each instance has the number of its block, and the blocks are valid. A valid merged top is so, and so is a copy of it that has no places
-- and no rows.
pub record HasBlocks (m : MergedTop) : Type 0 where
  pub count : length m.kinds ≡ length m.top.insts
  pub few : length m.top.insts ≤ 256
  pub within : AllOf (λ k. k < length m.blocks) m.kinds
  pub blocks : AllOf (λ b. IsValidBlock b.desc) m.blocks
