use Rattle.std.proofs.Common.{◌≡◌, ◌++◌, map}
use Rattle.std.specs.List.{range_with_len}
use Rattle.cg_desc.specs.Items.{multireg_word}
use Rattle.cg_desc.specs.declared.block.Item.TheVariants.{Reg}
use Rattle.cg_expand.proofs.entries.add_words.Given as goal

-- the words so far stand behind the items from before
abbrev pub invariant-loop-number : goal.invariant-loop-number
invariant-loop-number l = l.items ≡ l.fn.items ++ map (λ j. Reg (multireg_word l.multireg j)) (range_with_len 0 l.number)
