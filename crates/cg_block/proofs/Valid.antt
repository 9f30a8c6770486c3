-- Where no rule is broken, a description and its items are valid.
use Rattle.std.proofs.Common.{◌≡◌, ℕ, ◌<◌, ◌≤◌, Bool, true, false, nat_lt, [], length, refl, ap, ◌∙◌, arith}
use Rattle.std.proofs.lemmas.Bool.Decides.{nat_tests}
use Rattle.cg_svspec.specs.Printable.{AllOf}
use Rattle.cg_desc.specs.Items.{items_of_block}
use Rattle.cg_desc.specs.Valid.{IsValidBlock, IsValidItem}
use Rattle.cg_desc.specs.declared.block.BlockDesc.{BlockDesc}
use Rattle.cg_finding.specs.Finding.{Finding, finding, first_of}
use Rattle.cg_finding.proofs.Firsts.{first_of-empty}
use Rattle.cg_hjson.specs.declared.tree.Tree.{Tree}
use Rattle.cg_hjson.specs.Views.{tree_of}
use Rattle.cg_jsonspec.specs.Laws.{DocumentsAreSayable}
use Rattle.cg_blkdone.specs.Completed.{IsReadBlock}
use Rattle.cg_files.specs.Files.{File, HasTree}
use Rattle.cg_block.specs.Stages.{IsBlock}
use Rattle.cg_blkread.specs.Described.{block_of}
use Rattle.cg_blkread.specs.Reads.{Violates as BreaksKeysOrValues}
use Rattle.cg_blkread.proofs.Facts.Listed.{nothing_listed}
use Rattle.cg_blkread.proofs.Sound.Block.{valid_block}
use Rattle.cg_expand.specs.Violations.{Violates as BreaksNamesOrCounts, interrupt_bits, interrupts, alerts}
use Rattle.cg_expand.proofs.ValidItems.{block_valid}

pub described_is_valid : (file : ℕ) (t : Tree) → ((f : Finding) → ¬ BreaksKeysOrValues t f) → IsValidBlock (block_of file t)
described_is_valid file t none =
    let both = nothing_listed t none in
    valid_block file t (ap first_of both.0 ∙ first_of-empty) (ap first_of both.1 ∙ first_of-empty)

few_by : (most n : ℕ) (b : Bool) → nat_lt most n ≡ b → ¬ (most < n) → n ≤ most
few_by most n true e none = let many : most < n = grind (arith, nat_tests) in absurd (none many)
few_by most n false e none = grind (arith, nat_tests)

few : (most n : ℕ) → ¬ (most < n) → n ≤ most
few most n none = few_by most n (nat_lt most n) refl none

pub items_are_valid : (b : BlockDesc) → IsValidBlock b → ((f : Finding) → ¬ BreaksNamesOrCounts b f) → AllOf (λ face. AllOf IsValidItem face.items) (items_of_block b)
unfolding interrupt_bits
items_are_valid b valid none =
    block_valid b valid (few 32 (interrupt_bits b) (λ many. none (finding 4 42 b.intrs_at []) (interrupts many)))
    (few 32 (length b.alerts) (λ many. none (finding 4 42 b.alerts_at []) (alerts many)))

-- the tree of a block's file is one that can be completed
pub is_read : DocumentsAreSayable → (file : File) (t : Tree) → HasTree file t → IsBlock t → IsReadBlock t
is_read law file t has is = record {
  sound = is;
  sayable = law has.bytes (tree_of t) has.text.utf8 has.document;
  shallow = has.shallow;
}
