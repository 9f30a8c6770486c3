-- The block of an instance, as it is read.
use Rattle.std.proofs.Common.{◌≡◌, ◌<◌, ℕ, length, get_or, Some, sym, ap, ◌∙◌}
use Rattle.std.specs.List.{slice_get}
use Rattle.std.proofs.lemmas.Option.{slice_get-get_or}
use Rattle.cg_desc.specs.Valid.{IsValidBlock}
use Rattle.cg_desc.specs.declared.block.LaidBlock.{LaidBlock}
use Rattle.cg_desc.specs.declared.top.MergedTop.{MergedTop}
use Rattle.cg_desc.proofs.Numbered.{item_among}
use Rattle.cg_irq.specs.Instances.{HasBlocks}
use Rattle.cg_irq.proofs.Order.{all_among}

-- the block that is read for an instance is its block
pub read_block : (m : MergedTop) → HasBlocks m → (i d : ℕ) (block e : LaidBlock) → i < length m.kinds → block ≡ get_or m.blocks (get_or m.kinds i d) e
    → (slice_get m.kinds i ≡ Some (get_or m.kinds i d)) × (slice_get m.blocks (get_or m.kinds i d) ≡ Some block)
read_block m has i d block e less is =
    let kind = slice_get-get_or m.kinds i d less in
    let within : get_or m.kinds i d < length m.blocks = all_among (λ k. k < length m.blocks) m.kinds (get_or m.kinds i d) has.within (item_among m.kinds i (get_or m.kinds i d) kind) in
    (kind, slice_get-get_or m.blocks (get_or m.kinds i d) e within ∙ ap Some (sym is))

pub valid_block : (m : MergedTop) → HasBlocks m → (k : ℕ) (block : LaidBlock) → slice_get m.blocks k ≡ Some block → IsValidBlock block.desc
valid_block m has k block is = all_among (λ b. IsValidBlock b.desc) m.blocks block has.blocks (item_among m.blocks k block is)
