use Rattle.std.proofs.Common.{◌∙◌, ap, sym, rules}
use Rattle.std.specs.Prelude.{FitsSigned}
use Rattle.std.proofs.lemmas.Int.{to_z-of_z}
use mir.Syntax.{w128}
use Rattle.cg_hjson.specs.Integers.{in_range}
use Rattle.cg_hjson.proofs.Integers.{parsed-digits, parsed-other}
use Rattle.cg_hjson.proofs.numeral.integer_value.Goals as goal

pub returns-in-Ok : goal.returns-in-Ok
returns-in-Ok c =
    let h = c.in-Ok.ensures.value in
    let fits : FitsSigned w128 c.in-Ok.value = search rules in
    c.in_range.ensures ∙ ap in_range (to_z-of_z w128 c.in-Ok.value fits) ∙ ap in_range h.0.1 ∙ parsed-digits c.args.number.now c.requires h.0.0.0

pub returns-in-Err : goal.returns-in-Err
returns-in-Err c = sym (parsed-other c.args.number.now c.requires c.in-Err.ensures.value.0)
