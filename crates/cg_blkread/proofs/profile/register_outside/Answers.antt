use Rattle.std.proofs.Common.{◌∙◌, sym}
use Rattle.cg_finding.specs.Finding.{earlier}
use Rattle.cg_finding.proofs.Firsts.{first_of-append}
use Rattle.cg_blkread.specs.Keys.{register_outside}
use Rattle.cg_blkread.proofs.profile.register_outside.Goals as goal

pub returns : goal.returns
unfolding register_outside
returns c =
    let last = c.earlier_of.ensures ∙ (λ i. earlier (c.outside_key-synchronous.ensures i) (c.outside_key-alias.ensures i)) ∙ sym (first_of-append _ _) in
    let later = c.earlier_of-2.ensures ∙ (λ i. earlier (c.outside_key-asynchronous.ensures i) (last i)) ∙ sym (first_of-append _ _) in
    c.earlier_of-3.ensures ∙ (λ i. earlier (c.shadow_outside-shadowed.ensures i) (later i)) ∙ sym (first_of-append _ _)
