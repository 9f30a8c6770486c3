use Rattle.std.proofs.Common.{sym, ap, ◌++◌, ◌∷◌, ◌∙◌, []}
use Rattle.cg_svcheck.proofs.Listing.{names_of, name_more, none_more, driven_by_net, driven_by_nothing, driven_by_parts, mixed_parts}
use Rattle.cg_svcheck.proofs.lists.add_driven.Goals as goal

pub returns-in_ok-push-in-Net : goal.returns-in_ok-push-in-Net
returns-in_ok-push-in-Net c =
    name_more c.args.names.now.items c.push.new.self.items _ c.in_ok-push-in-Net.ensures.items
    ∙ ap (λ ns. names_of c.args.names.now.items ++ ns) (ap (λ n. n ∷ []) c.as_str.ensures ∙ sym (driven_by_net c.args.expr.now _ c.in-Net.is))

pub returns-in_ok-add_bare-in-Cat : goal.returns-in_ok-add_bare-in-Cat
returns-in_ok-add_bare-in-Cat c =
    c.in_ok-add_bare-in-Cat.ensures
    ∙ ap (λ ns. names_of c.args.names.now.items ++ ns)
    (driven_by_parts c.args.expr.now _ _ _ _ c.in-Cat.is c.as_slice.ensures c.as_slice-then-are_bare.ensures c.are_bare.ensures c.if-are_bare.true)

pub returns-else-are_bare : goal.returns-else-are_bare
returns-else-are_bare c = none_more (names_of c.args.names.now.items) _ (mixed_parts c.args.expr.now _ _ _ c.in-Cat.is c.as_slice.ensures c.are_bare.ensures c.if-are_bare.false)

pub returns-in_default : goal.returns-in_default
returns-in_default c = none_more (names_of c.args.names.now.items) _ (driven_by_nothing c.args.expr.now c.in_default.not-Net c.in_default.not-Cat)
