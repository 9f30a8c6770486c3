-- How a session ends, from its commands and its last step.
use Rattle.std.proofs.Common.{◌≡◌, ◌⊎◌, inl, inr, ℕ, ◌+◌, ◌≤◌, Bool, true, false, cond, List, [], ◌∷◌, ◌++◌, length, length-append, refl, ap, sym, subst, ◌∙◌, append_assoc, arith}
use Rattle.cg_base.specs.Outside.{Taken, Rose, put, TookPrefix}
use Rattle.cg_inputs.specs.Input.{Command, build_files}
use Rattle.cg_inputs.proofs.More.{reads_more}
use Rattle.cg_deeds.specs.Outside.{World}
use Rattle.cg_deeds.specs.Deeds.{Contents, contents, after_deeds, Begun, FaultRose}
use Rattle.cg_deeds.specs.Inner.{Stopped}
use Rattle.cg_deeds.specs.declared.deed.Deed.{Deed}
use Rattle.cg_deeds.specs.declared.deed.Deed.TheVariants.{Write, Remove, Say}
use Rattle.cg_deeds.specs.declared.deed.Stream.TheVariants as stream
use Rattle.cg_deeds.proofs.Stopping.{stopped_at}
use Rattle.cg_session.specs.Answers.{Answer, Answers}
use Rattle.cg_session.specs.Ends.{SessionEnds}
use Rattle.cg_session.specs.Play.{Kept, deeds_of, nothing_kept}
use Rattle.cg_session.specs.Session.{limit, IsSpent, no_command_line, no_command_told, HasTaken, AreDone, HasDone, Finishes, IsNoCommand, FailsReading, of_build, of_no_command, StopsAt, FailsWriting, MemoryUnfound, for_command, for_deed, IsTooLong}
use Rattle.cg_session.specs.Steps.{Inlet, inlet, StepIdle, StepFails, StepUnfound, in_build, StepEnds, Played, PlayedTo, NumberTold, Finishing}
use Rattle.cg_session.specs.Steps as steps
use Rattle.cg_session.specs.Taking.{TakesNext, TakesEnd, TakesFalse, TakesLess, TakesOver}
use Rattle.cg_session.specs.Turns.{Side, side, seen, Untouched, StopsIn, RoseAt, before_all, for_one, TurnUnfound, no_answer, no_deed}
use Rattle.cg_session.specs.declared.ending.Ending.{Ending}
use Rattle.cg_session.specs.declared.ending.Ending.TheVariants.{Good, Refused, NoCommand, ReadFailed, WriteFailed, Memory, TooLong}
use Rattle.cg_session.specs.declared.step.Step.{Step}
use Rattle.cg_session.specs.declared.step.Step.TheVariants as step
use Rattle.cg_session.proofs.Takes.{taken_more, taken_none}
use Rattle.cg_session.proofs.Gots.{rose_before}
use Rattle.cg_session.proofs.Turning.{deeds_behind}

-- what a build changes, of the whole outside
abbrev pub side_of : World → Side
side_of w = side w.outlets.files w.outlets.changes w.outlets.out w.outlets.out_faults

module _ (top dir : List ℕ) (before after : World) (kept : Kept) (number : ℕ) (i : Inlet) (between : Side) (p : Played top dir nothing_kept kept number (inlet before.left before.input_faults limit) i (side_of before) between) where
  -- behind the commands that were played a rest was taken
  has_taken : (rest : List ℕ) → Taken i.left after.left rest → length rest ≤ i.room → HasTaken top dir before after p.commands rest kept p.deeds
  has_taken rest t w = let c = p.counted in record {
    bytes = p.bytes ++ rest;
    taken = taken_more before.left i.left after.left p.bytes rest p.taken t;
    within = omega (arith, length-append p.bytes rest);
    reads = reads_more p.bytes [] rest p.commands p.reads;
    plays = p.plays;
  }

  -- and nothing was done
  idle : Untouched between (side_of after) → after.outlets.err ≡ before.outlets.err → AreDone before after p.deeds
  idle u e = (λ j. record { files = u.files j; out = u.out j; err = e j }) ∙ p.done before.outlets.err

  has_done : (rest : List ℕ) → Taken i.left after.left rest → length rest ≤ i.room → Untouched between (side_of after) → after.outlets.err ≡ before.outlets.err
      → HasDone top dir before after p.commands rest kept
  has_done rest t w u e = record { deeds = p.deeds; has_taken = has_taken rest t w; done = idle u e }

  finishes : (kept' : Kept) (is_refused : Bool) → TakesEnd i.room i.left after.left i.faults after.input_faults → StepIdle kept kept' between (side_of after) → kept'.refused ≡ is_refused
      → after.outlets.err ≡ before.outlets.err → Finishes is_refused top dir before after
  finishes kept' is_refused t s r e = record {
    commands = p.commands;
    rest = t.bytes;
    kept = kept;
    has_done = has_done t.bytes t.taken t.within s.untouched e;
    is_end = t.is_end;
    last = sym (ap (λ (k : Kept). k.refused) s.kept) ∙ r;
  }

  no_command : (TakesFalse i.room i.left after.left i.faults after.input_faults ⊎ (TakesLess i.room i.left after.left i.faults after.input_faults × IsSpent after.left))
      → IsNoCommand top dir before after p.commands p.deeds
  no_command (inl t) = record { rest = t.bytes; kept = kept; has_taken = has_taken t.bytes t.taken t.within; cause = inl t.is_none }
  no_command (inr t) = record { rest = t.0.bytes; kept = kept; has_taken = has_taken t.0.bytes t.0.taken t.0.within; cause = inr (t.0.is_short, t.1) }

  fails_reading : TakesLess i.room i.left after.left i.faults after.input_faults → Rose i.faults after.input_faults → Untouched between (side_of after) → after.outlets.err ≡ before.outlets.err
      → FailsReading top dir before after
  fails_reading t r u e = record {
    commands = p.commands;
    rest = t.bytes;
    kept = kept;
    has_done = has_done t.bytes t.taken t.within u e;
    is_short = t.is_short;
    rose = rose_before before.input_faults i.faults after.input_faults p.later_input r;
  }

  too_long : TakesOver i.room i.left after.left i.faults after.input_faults → Untouched between (side_of after) → after.outlets.err ≡ before.outlets.err → IsTooLong top dir before after
  too_long t u e = let c = p.counted in let f = t.full in record {
    commands = p.commands;
    rest = t.bytes;
    kept = kept;
    deeds = p.deeds;
    bytes = p.bytes ++ t.bytes;
    more = t.more;
    taken = subst (Taken before.left after.left) (sym (append_assoc p.bytes t.bytes (t.more ∷ []))) (taken_more before.left i.left after.left p.bytes (t.bytes ++ t.more ∷ []) p.taken t.taken);
    full = omega (arith, length-append p.bytes t.bytes);
    reads = reads_more p.bytes [] t.bytes p.commands p.reads;
    is_short = t.is_short;
    plays = p.plays;
    done = idle u e;
  }

  -- ---- a build that stopped

  rose_since : (deed : Deed) → RoseAt deed between (side_of after) → FaultRose deed before.outlets after.outlets
  rose_since (Write name bytes) r = rose_before before.outlets.changes between.changes after.outlets.changes p.later.changes r
  rose_since (Remove name) r = rose_before before.outlets.changes between.changes after.outlets.changes p.later.changes r
  rose_since (Say stream.Out line) r = rose_before before.outlets.out_faults between.out_faults after.outlets.out_faults p.later.out r
  rose_since (Say stream.Err line) r = absurd r

  next_within : (c : Command) (room : ℕ) (t : TakesNext c i.room room i.left after.left i.faults after.input_faults) → length t.bytes ≤ i.room
  next_within c room t = let d = t.counted in omega arith

  stops_at : (room : ℕ) (a : Answer) (deed : Deed) → TakesNext build_files i.room room i.left after.left i.faults after.input_faults → Answers top kept.files a
      → StopsIn deed (deeds_of dir kept.good a) between (side_of after) → after.outlets.err ≡ before.outlets.err → StopsAt top dir before after deed
  stops_at room a deed t is s e = record {
    deeds = p.deeds;
    last = deeds_of dir kept.good a;
    are_last = of_build p.commands t.bytes kept a (has_taken t.bytes t.taken (next_within build_files room t)) t.begins is refl;
    stopped = stopped_at deed (deeds_of dir kept.good a) (after_deeds p.deeds (contents before.outlets)) (contents after.outlets)
        (subst (λ (c : Contents). Stopped deed (deeds_of dir kept.good a) c (contents after.outlets)) (p.done before.outlets.err)
        (subst (λ x. Stopped deed (deeds_of dir kept.good a) (seen between before.outlets.err) (seen (side_of after) x)) (sym e) (s before.outlets.err)));
  }

  step_fails : (room : ℕ) → StepFails top dir kept i (inlet after.left after.input_faults room) between (side_of after) → after.outlets.err ≡ before.outlets.err → FailsWriting top dir before after
  step_fails room s e = record {
    deed = s.fails.fails.deed;
    stops = stops_at room s.fails.answer s.fails.fails.deed s.takes s.fails.is_answer s.fails.fails.stops e;
    rose = rose_since s.fails.fails.deed s.fails.fails.rose;
  }

  unfound : (room : ℕ) → TakesNext build_files i.room room i.left after.left i.faults after.input_faults → TurnUnfound top dir kept between (side_of after) → after.outlets.err ≡ before.outlets.err
      → MemoryUnfound top dir before after
  unfound room t (no_answer u) e = for_command p.commands t.bytes kept (has_done t.bytes t.taken (next_within build_files room t) u e)
  unfound room t (no_deed a is (before_all u)) e = for_command p.commands t.bytes kept (has_done t.bytes t.taken (next_within build_files room t) u e)
  unfound room t (no_deed a is (for_one deed s)) e = for_deed deed (stops_at room a deed t is s e)

  step_unfound : (room : ℕ) → StepUnfound top dir kept i (inlet after.left after.input_faults room) between (side_of after) → after.outlets.err ≡ before.outlets.err → MemoryUnfound top dir before after
  step_unfound room (steps.for_command t u l) e = for_command p.commands t.bytes kept (has_done t.bytes t.taken t.within u e)
  step_unfound room (in_build t u l) e = unfound room t u e

  -- ---- the number of a command that is none

  told : List ℕ
  told = no_command_line (length p.commands + 1)

  told_stops : IsNoCommand top dir before after p.commands p.deeds → Untouched between (side_of after) → TookPrefix before.outlets.err after.outlets.err told → StopsAt top dir before after (Say stream.Err told)
  unfolding told
  told_stops n u t = record {
    deeds = p.deeds;
    last = no_command_told p.commands;
    are_last = of_no_command p.commands n refl;
    stopped = record {
      front = [];
      rest = [];
      split = refl;
      begun = subst (λ (c : Contents). Begun (Say stream.Err told) c (contents after.outlets)) (p.done before.outlets.err) (u.files, u.out, t);
    };
  }

  told_done : Untouched between (side_of after) → after.outlets.err ≡ put before.outlets.err told → AreDone before after (p.deeds ++ no_command_told p.commands)
  unfolding told
  told_done u t =
      (λ j. record { files = u.files j; out = u.out j; err = t j }) ∙ ap (after_deeds (no_command_told p.commands)) (p.done before.outlets.err)
      ∙ sym (deeds_behind p.deeds (no_command_told p.commands) (contents before.outlets))

  no_command_unfound : (rest : List ℕ) → HasTaken top dir before after p.commands rest kept p.deeds → Untouched between (side_of after)
      → IsNoCommand top dir before after p.commands p.deeds → (after.outlets.err ≡ before.outlets.err) ⊎ TookPrefix before.outlets.err after.outlets.err told → MemoryUnfound top dir before after
  unfolding told
  no_command_unfound rest t u n (inl e) = for_command p.commands rest kept (record { deeds = p.deeds; has_taken = t; done = idle u e })
  no_command_unfound rest t u n (inr e) = for_deed (Say stream.Err told) (told_stops n u e)

  -- with the number as it was counted
  number_ends : (ending : Ending) (n : IsNoCommand top dir before after p.commands p.deeds) → n.kept ≡ kept → Untouched between (side_of after)
      → NumberTold ending (length p.commands + 1) before.outlets.err after.outlets.err before.outlets.err_faults after.outlets.err_faults → SessionEnds ending top dir before after
  unfolding told
  number_ends Good n k u l = absurd l
  number_ends Refused n k u l = absurd l
  number_ends NoCommand n k u l = record { commands = p.commands; deeds = p.deeds; no_command = n; done = told_done u l }
  number_ends ReadFailed n k u l = absurd l
  number_ends WriteFailed n k u l = record { deed = Say stream.Err told; stops = told_stops n u l.1; rose = l.0 }
  number_ends Memory n k u l = no_command_unfound n.rest (subst (λ x. HasTaken top dir before after p.commands n.rest x p.deeds) k n.has_taken) u n l
  number_ends TooLong n k u l = absurd l

  no_command_kept : (t : TakesFalse i.room i.left after.left i.faults after.input_faults ⊎ (TakesLess i.room i.left after.left i.faults after.input_faults × IsSpent after.left)) → (no_command t).kept ≡ kept
  unfolding no_command
  no_command_kept (inl t) = refl
  no_command_kept (inr t) = refl

  -- ---- by the step

  finish_ends : (kept' : Kept) (r : Bool) (ending : Ending) → kept'.refused ≡ r → ending ≡ cond r Refused Good → TakesEnd i.room i.left after.left i.faults after.input_faults
      → StepIdle kept kept' between (side_of after) → after.outlets.err ≡ before.outlets.err → SessionEnds ending top dir before after
  finish_ends kept' true ending k is t s e = subst (λ x. SessionEnds x top dir before after) (sym is) (finishes kept' true t s k e)
  finish_ends kept' false ending k is t s e = subst (λ x. SessionEnds x top dir before after) (sym is) (finishes kept' false t s k e)

  step_ends : (s : Step) (ending : Ending) (kept' : Kept) (room : ℕ) → StepEnds s top dir kept kept' i (inlet after.left after.input_faults room) between (side_of after)
      → Finishing s ending kept'.refused number before.outlets.err after.outlets.err before.outlets.err_faults after.outlets.err_faults → SessionEnds ending top dir before after
  step_ends step.Next ending kept' room s f = absurd f
  step_ends step.Finish ending kept' room s f = finish_ends kept' kept'.refused ending refl f.0 s.0 s.1 f.1
  step_ends step.NoCommand ending kept' room s f =
      number_ends ending (no_command s.0) (no_command_kept s.0) s.1.untouched
      (subst (λ n. NumberTold ending n before.outlets.err after.outlets.err before.outlets.err_faults after.outlets.err_faults) p.number_is f)
  step_ends step.TooLong ending kept' room s f = subst (λ x. SessionEnds x top dir before after) (sym f.0) (too_long s.0 s.1.untouched f.1)
  step_ends step.ReadFailed ending kept' room s f = subst (λ x. SessionEnds x top dir before after) (sym f.0) (fails_reading s.0 s.1 s.2.untouched f.1)
  step_ends step.WriteFailed ending kept' room s f = subst (λ x. SessionEnds x top dir before after) (sym f.0) (step_fails room s f.1)
  step_ends step.Memory ending kept' room s f = subst (λ x. SessionEnds x top dir before after) (sym f.0) (step_unfound room s f.1)

-- a session ends as its last step says
pub session_ends : (top dir : List ℕ) (before after : World) (s : Step) (ending : Ending) (kept' : Kept) (number room : ℕ)
    → PlayedTo s top dir nothing_kept kept' number (inlet before.left before.input_faults limit) (inlet after.left after.input_faults room) (side_of before) (side_of after)
    → Finishing s ending kept'.refused number before.outlets.err after.outlets.err before.outlets.err_faults after.outlets.err_faults → SessionEnds ending top dir before after
session_ends top dir before after s ending kept' number room p f = step_ends top dir before after p.kept number p.inlet_then p.side_then p.played s ending kept' room p.ends f

-- nothing was done for want of memory at the beginning
pub nothing_done : (top dir : List ℕ) (before after : World) → before ≡ after → SessionEnds Memory top dir before after
nothing_done top dir before after same =
    subst (λ w. SessionEnds Memory top dir before w) same (for_command [] [] nothing_kept (record {
      deeds = [];
      has_taken = record { bytes = []; taken = taken_none before.left; within = omega arith; reads = refl; plays = (refl, refl) };
      done = refl;
    }))
