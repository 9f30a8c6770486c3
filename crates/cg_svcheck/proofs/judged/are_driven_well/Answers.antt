use Rattle.std.proofs.Common.{map, sym, ap, ◌∙◌}
use Rattle.cg_svspec.specs.Names.{first_repeat, is_among}
use Rattle.cg_sv.specs.Views.{module_of}
use Rattle.cg_svcheck.specs.Lookups.{has}
use Rattle.cg_svcheck.proofs.Driving.{driven_decide, repeated}
use Rattle.cg_svcheck.proofs.judged.are_driven_well.Goals as goal

pub returns-then-is_some : goal.returns-then-is_some
returns-then-is_some c =
    repeated (module_of c.args.«module».now) _ c.in_ok-first_repeat.field-0 c.in_ok-drivers.ensures
    (c.in_ok-first_repeat.ensures ∙ ap (λ names. first_repeat (map (λ s. s.now) names)) c.as_slice.ensures.value) (sym c.is_some.ensures ∙ c.if-is_some.true)

pub returns : goal.returns
returns c =
    driven_decide (module_of c.args.«module».now) _ c.in_ok-first_repeat.field-0 (has c.in_ok-driven.driven) _ c.in_ok-drivers.ensures
    (c.in_ok-first_repeat.ensures ∙ ap (λ names. first_repeat (map (λ s. s.now) names)) c.as_slice.ensures.value) (sym c.is_some.ensures ∙ c.if-is_some.false)
    (λ n. c.in_ok-driven.ensures n ∙ ap (λ names. is_among (map (λ s. s.now) names) n) c.as_slice-2.ensures.value) c.are_all_in.ensures
