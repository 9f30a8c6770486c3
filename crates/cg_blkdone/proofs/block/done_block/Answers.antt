use Rattle.std.proofs.Common.{List, [], ◌∷◌, ◌++◌, ap, sym, subst, ◌∙◌, ℕ}
use Rattle.std.specs.Prelude.{string_bytes}
use Rattle.serde_json.specs.View.{view}
use Rattle.cg_jsonspec.specs.ReadsBack.{ReadsBack}
use Rattle.cg_blkdone.specs.Completed.{completed_text}
use Rattle.cg_blkdone.specs.Full.{full_block}
use Rattle.cg_blkdone.proofs.ReadBlocks.{read_kept, read_fine}
use Rattle.cg_blkdone.proofs.Printed.{printed}
use Rattle.cg_blkdone.proofs.block.done_block.Goals as goal

pub full_block-requires : goal.full_block-requires
full_block-requires c = read_kept c.args.tree.now c.requires.read

pub returns-clause-text : goal.returns-clause-text
unfolding completed_text
returns-clause-text c =
    c.in_ok-text.ensures
    ∙ ap (λ (l : List ℕ). l ++ 10 ∷ [])
    (printed (string_bytes c.in_ok-json.json) (view c.in_ok-value.value) (full_block c.args.tree.now) c.layout_is_pretty.ensures c.in_ok-json.ensures.layout c.in_ok-json.ensures.order
    c.in_ok-value.ensures (read_fine c.args.tree.now c.requires.read))

pub returns-clause-reads_back : goal.returns-clause-reads_back
returns-clause-reads_back c =
    subst (λ s. ReadsBack s (full_block c.args.tree.now)) (sym (returns-clause-text c)) (c.completed_reads_back.ensures c.args.tree.now c.requires.read)
