use Rattle.std.proofs.Common.{ℕ, List, Some, None, cond, sym, ap, ◌∙◌}
use Rattle.cg_finding.specs.Finding.{Finding, finding}
use Rattle.cg_blkread.proofs.SeenBits.{overlap_told}
use Rattle.cg_blkread.proofs.overlaps.overlap.Goals as goal

pub returns-then-shares_bit_if_any : goal.returns-then-shares_bit_if_any
returns-then-shares_bit_if_any c = λ before kept.
    overlap_told c.args.seen.now before c.args.field.now _ c.shares_bit_if_any.result kept c.shares_bit_if_any.ensures
    (ap (λ (f : Finding). Some f) c.fields_overlap.ensures
    ∙ ap (λ (name : List ℕ). Some (finding 3 31 c.args.field.now.bits_at name)) c.as_str.ensures
    ∙ ap (λ t. cond t (Some (finding 3 31 c.args.field.now.bits_at c.args.field.now.name)) None) (sym c.if-shares_bit_if_any.true))

pub returns-else-shares_bit_if_any : goal.returns-else-shares_bit_if_any
returns-else-shares_bit_if_any c = λ before kept.
    overlap_told c.args.seen.now before c.args.field.now _ c.shares_bit_if_any.result kept c.shares_bit_if_any.ensures
    (ap (λ t. cond t (Some (finding 3 31 c.args.field.now.bits_at c.args.field.now.name)) None) (sym c.if-shares_bit_if_any.false))
