use Rattle.std.proofs.Common.{◌≡◌, ◌<◌, ◌≤◌, length, refl, sym, ◌∙◌, ap, arith, []}
use Rattle.std.specs.Str.{chars}
use Rattle.std.specs.Str.Iter.{chars_rest}
use Rattle.std.proofs.lemmas.List.{length-map}
use Rattle.std.proofs.lemmas.Str.{len_utf8_bounds}
use Rattle.cg_docspec.specs.Machine.Run.{answer_from}
use Rattle.cg_hjson.specs.Views.{place_of}
use Rattle.cg_hjson.specs.Reading.{frame_of, frames_of, found_of, state_of}
use Rattle.cg_hjson.proofs.FirstCharacter.{first_character, no_characters}
use Rattle.cg_hjson.proofs.OneStep.{answer_stuck, answer_deep, answer_more, next_bounds}
use Rattle.cg_hjson.proofs.reader.run.Goals as goal

pub returns-in-Err-NoDocument : goal.returns-in-Err-NoDocument
returns-in-Err-NoDocument c =
    let first = first_character _ _ c.in-Some.c c.loop-c.invariant.utf8 c.in-Some.ensures.steps.0 in
    let stuck = rw c.in-Err-NoDocument.field-0-is at c.in-Err-NoDocument.ensures in
    sym c.loop-c.invariant.same ∙ rw first.0 (answer_stuck _ _ _ _ stuck)

pub returns-then-len-gt64 : goal.returns-then-len-gt64
returns-then-len-gt64 c =
    let first = first_character _ _ c.in-Some.c c.loop-c.invariant.utf8 c.in-Some.ensures.steps.0 in
    let deep : 64 < length (frames_of c.advance.new.state.stack) = omega (arith, length-map c.advance.new.state.stack frame_of, c.len.ensures, c.if-len-gt64.true) in
    sym c.loop-c.invariant.same ∙ rw first.0 (answer_deep _ _ _ _ _ c.in-Ok.ensures deep)

pub loop-c-preserved : goal.loop-c-preserved
loop-c-preserved c =
    let first = first_character _ _ c.in-Some.c c.loop-c.invariant.utf8 c.in-Some.ensures.steps.0 in
    let low : length (frames_of c.advance.new.state.stack) ≤ 64 = omega (arith, length-map c.advance.new.state.stack frame_of, c.len.ensures, c.if-len-gt64.false) in
    let more = answer_more (place_of c.loop-c.at) (state_of c.loop-c.state) c.in-Some.c (chars (chars_rest c.next.new.self)) _ c.in-Ok.ensures low in
    let bounds = next_bounds (place_of c.loop-c.at) c.in-Some.c in
    let place = c.next_place-at.ensures in
    record {
      can = tt;
      finite = tt;
      utf8 = first.1;
      same = rw place (sym more ∙ ap (answer_from (place_of c.loop-c.at) (state_of c.loop-c.state)) (sym first.0) ∙ c.loop-c.invariant.same);
      byte = omega (arith, ap (λ p. p.byte) place, bounds.0, first.2, c.loop-c.invariant.byte);
      line = omega (arith, ap (λ p. p.byte) place, ap (λ p. p.line) place, bounds.1, bounds.0, len_utf8_bounds c.in-Some.c, c.loop-c.invariant.line);
      column = omega (arith, ap (λ p. p.byte) place, ap (λ p. p.column) place, bounds.2, bounds.0, len_utf8_bounds c.in-Some.c, c.loop-c.invariant.column);
    }

pub returns-in-Some-whole : goal.returns-in-Some-whole
returns-in-Some-whole c =
    let none : chars (chars_rest c.loop-c.c-iterator) ≡ [] = no_characters _ c.in-None.ensures.steps.0.0 in
    let tree = sym c.whole.ensures ∙ ap found_of c.in-Some-whole.is in
    sym c.loop-c.invariant.same ∙ rw (none, tree) refl

pub returns-in-None-whole : goal.returns-in-None-whole
returns-in-None-whole c =
    let none : chars (chars_rest c.loop-c.c-iterator) ≡ [] = no_characters _ c.in-None.ensures.steps.0.0 in
    let no_tree = sym c.whole.ensures ∙ ap found_of c.in-None-whole.is in
    sym c.loop-c.invariant.same ∙ rw (none, no_tree) refl
