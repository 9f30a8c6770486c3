use Rattle.std.proofs.Common.{◌≡◌, ◌∙◌, ap, sym, rules, Some, string_bytes}
use Rattle.std.specs.Prelude.{FitsSigned}
use Rattle.std.proofs.lemmas.Int.{to_z-of_z}
use mir.Syntax.{w128}
use Rattle.cg_docspec.specs.Machine.Numeral.{integer_value, number_kind}
use Rattle.cg_hjson.specs.Views.{kind_of}
use Rattle.cg_hjson.specs.declared.tree.Kind.TheVariants as form
use Rattle.cg_hjson.proofs.Views.{of-Int}
use Rattle.cg_hjson.proofs.numeral.number_kind.Goals as goal

pub returns-in-Some : goal.returns-in-Some
returns-in-Some c =
    let fits : FitsSigned w128 c.in-Some.n = search rules in
    let found : integer_value (string_bytes c.args.number) ≡ Some c.in-Some.n = ap integer_value (sym c.as_str.ensures.value) ∙ sym c.in-Some.ensures in
    ap (λ n. kind_of (form.Int n)) (to_z-of_z w128 c.in-Some.n fits) ∙ of-Int c.in-Some.n ∙ ap (λ o. number_kind o (string_bytes c.args.number)) (sym found)
