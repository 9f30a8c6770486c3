use Rattle.std.proofs.Common.{◌≡◌, Some, None, sym, ap, ◌∙◌}
use Rattle.std.specs.List.{slice_get}
use Rattle.std.specs.Option.{option_copied}
use Rattle.std.proofs.lemmas.Bool.{false≢true}
use Rattle.cg_desc.specs.Merged.{design_of}
use Rattle.cg_merge.proofs.Partners.{decides_elsewhere}
use Rattle.cg_merge.proofs.nodes.elsewhere.Goals as goal

pub returns-in-Some : goal.returns-in-Some
returns-in-Some c =
    let looked = rw c.as_slice.ensures at c.listing.ensures in
    let listed : slice_get c.args.top.now.top.xbars c.args.xbar ≡ Some c.in-Some.listed.now = sym looked ∙ ap option_copied c.in-Some.is in
    rw (c.is_elsewhere.ensures, c.as_slice-in-Some.ensures, c.as_str.ensures, c.as_str-in-Some.ensures)
    (decides_elsewhere (design_of c.args.top.now) c.args.xbar c.args.node.now c.in-Some.listed.now listed c.if-node.false c.requires)

pub returns-in-None : goal.returns-in-None
returns-in-None c =
    let looked = rw c.as_slice.ensures at c.listing.ensures in
    let none : slice_get c.args.top.now.top.xbars c.args.xbar ≡ None = sym looked ∙ ap option_copied c.in-None.is in
    (λ e. absurd (false≢true e), λ elsewhere. let e : Some elsewhere.outer ≡ None = sym elsewhere.listed ∙ none in cc)
