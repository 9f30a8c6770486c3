-- One command more is played.
use Rattle.std.proofs.Common.{ℕ, ◌+◌, ◌<◌, List, [], ◌∷◌, ◌++◌, length, length-append, Option, refl, ap, sym, subst, ◌∙◌, append_assoc, append-nil, arith}
use Rattle.cg_inputs.specs.Input.{Command, bytes_for, Begins}
use Rattle.cg_inputs.proofs.More.{reads_more, reads_next}
use Rattle.cg_deeds.specs.Deeds.{after_deeds}
use Rattle.cg_deeds.specs.declared.deed.Deed.{Deed}
use Rattle.cg_session.specs.Play.{Kept, Does, PlaysFrom}
use Rattle.cg_session.specs.Taking.{TakesNext}
use Rattle.cg_session.specs.Turns.{SamePlace, Side, seen}
use Rattle.cg_session.specs.Steps.{Inlet, StepDone, StepEnds, Played}
use Rattle.cg_session.specs.declared.kept.Session.{Session}
use Rattle.cg_session.specs.declared.step.Step.{Step}
use Rattle.cg_session.proofs.Takes.{taken_none, taken_more}
use Rattle.cg_session.proofs.Turning.{deeds_behind}

-- commands are played, and then one more
pub plays_next : (top dir : List ℕ) (cs : List Command) (c : Command) (k k1 k2 : Kept) (ds es : List Deed) → PlaysFrom top dir cs k k1 ds → Does top dir c k1 k2 es
    → PlaysFrom top dir (cs ++ c ∷ []) k k2 (ds ++ es)
plays_next top dir [] c k k1 k2 ds es p d =
    (k2, es, [], subst (λ x. Does top dir c x k2 es) p.0 d, (refl, refl), ap (λ x. x ++ es) p.1 ∙ sym (append-nil es))
plays_next top dir (b ∷ cs) c k k1 k2 ds es p d =
    (p.0, p.1, p.2 ++ es, p.3, plays_next top dir cs c p.0 k1 k2 p.2 es p.4 d, ap (λ x. x ++ es) p.5 ∙ append_assoc p.1 p.2 es)

some_bytes : (bytes rest : List ℕ) (c : Command) → Begins bytes c rest → 0 < length bytes
some_bytes bytes rest c b = omega (arith, ap length b.is, length-append b.text (10 ∷ (bytes_for c ++ rest)))

-- a command takes some of what counts
pub less_room : (c : Command) (room room' : ℕ) (l l' : Option (List ℕ)) (f g : ℕ) → TakesNext c room room' l l' f g → room' < room
less_room c room room' l l' f g t = let n = some_bytes t.bytes [] c t.begins in let m = t.counted in omega arith

-- no command is played yet
pub played_none : (top dir : List ℕ) (k : Kept) (i : Inlet) (b : Side) → Played top dir k k 1 i i b b
played_none top dir k i b = record {
  commands = [];
  bytes = [];
  taken = taken_none i.left;
  reads = refl;
  counted = omega arith;
  number_is = refl;
  few = omega arith;
  deeds = [];
  plays = (refl, refl);
  done = λ err. refl;
  later = record { changes = omega arith; out = omega arith };
  later_input = omega arith;
}

-- and one more
pub played_next : (top dir : List ℕ) (k k1 k2 : Kept) (n : ℕ) (i i1 i2 : Inlet) (b b1 b2 : Side)
    → Played top dir k k1 n i i1 b b1 → StepDone top dir k1 k2 i1 i2 b1 b2 → Played top dir k k2 (n + 1) i i2 b b2
played_next top dir k k1 k2 n i i1 i2 b b1 b2 p s =
    let t = s.takes in
    let room = less_room s.command i1.room i2.room i1.left i2.left i1.faults i2.faults t in
    let c1 = p.counted in let c2 = t.counted in let few = p.few in let num = p.number_is in
    let l1 = p.later_input in let l2 = t.later in
    let lc1 = p.later.changes in let lc2 = s.later.changes in let lo1 = p.later.out in let lo2 = s.later.out in
    record {
      commands = p.commands ++ s.command ∷ [];
      bytes = p.bytes ++ t.bytes;
      taken = taken_more i.left i1.left i2.left p.bytes t.bytes p.taken t.taken;
      reads = reads_next (p.bytes ++ t.bytes) t.bytes [] p.commands s.command (reads_more p.bytes [] t.bytes p.commands p.reads) t.begins;
      counted = omega (arith, length-append p.bytes t.bytes);
      number_is = omega (arith, length-append p.commands (s.command ∷ []));
      few = omega arith;
      deeds = p.deeds ++ s.deeds;
      plays = plays_next top dir p.commands s.command k k1 k2 p.deeds s.deeds p.plays s.does;
      done = λ err. s.done err ∙ ap (after_deeds s.deeds) (p.done err) ∙ sym (deeds_behind p.deeds s.deeds (seen b err));
      later = record { changes = omega arith; out = omega arith };
      later_input = omega arith;
    }

-- a session stays at its top and in its folder
pub step_in_place : (s : Step) (before now : Session) (k k' : Kept) (i i' : Inlet) (a b : Side) → SamePlace before now → StepEnds s now.keep.top now.dir k k' i i' a b
    → StepEnds s before.keep.top before.dir k k' i i' a b
step_in_place s before now k k' i i' a b same ends =
    subst (λ top. StepEnds s top before.dir k k' i i' a b) same.top (subst (λ dir. StepEnds s now.keep.top dir k k' i i' a b) same.dir ends)

pub still_in_place : (a b c : Session) → SamePlace a b → SamePlace b c → SamePlace a c
still_in_place a b c first next = record { top = next.top ∙ first.top; dir = next.dir ∙ first.dir }
