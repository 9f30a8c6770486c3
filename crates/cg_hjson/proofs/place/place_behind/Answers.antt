use Rattle.std.proofs.Common.{sym, ◌∙◌, ap, arith}
use Rattle.std.proofs.lemmas.Str.{len_utf8_bounds}
use Rattle.cg_docspec.specs.Place.{place_after}
use Rattle.cg_hjson.specs.Views.{place_of}
use Rattle.cg_hjson.proofs.FirstCharacter.{first_character, no_characters}
use Rattle.cg_hjson.proofs.OneStep.{next_bounds}
use Rattle.cg_hjson.proofs.place.place_behind.Goals as goal

pub loop-c-preserved : goal.loop-c-preserved
loop-c-preserved c =
    let first = first_character _ _ c.in-Some.c c.loop-c.invariant.utf8 c.in-Some.ensures.steps.0 in
    let bounds = next_bounds (place_of c.loop-c.at) c.in-Some.c in
    let place = c.next_place-at.ensures in
    record {
      can = tt;
      finite = tt;
      utf8 = first.1;
      same = rw place (ap (place_after (place_of c.loop-c.at)) (sym first.0) ∙ c.loop-c.invariant.same);
      byte = omega (arith, ap (λ p. p.byte) place, bounds.0, first.2, c.loop-c.invariant.byte);
      line = omega (arith, ap (λ p. p.byte) place, ap (λ p. p.line) place, bounds.1, bounds.0, len_utf8_bounds c.in-Some.c, c.loop-c.invariant.line);
      column = omega (arith, ap (λ p. p.byte) place, ap (λ p. p.column) place, bounds.2, bounds.0, len_utf8_bounds c.in-Some.c, c.loop-c.invariant.column);
    }

pub returns : goal.returns
returns c =
    ap (place_after (place_of c.loop-c.at)) (sym (no_characters _ c.in-None.ensures.steps.0.0)) ∙ c.loop-c.invariant.same
