-- How the deeds of a build end where its changes and its line end so.
use Rattle.std.proofs.Common.{◌≡◌, inl, inr, ℕ, List, [], ◌∷◌, ◌++◌, map, false, Option, refl, ap, sym, subst, ◌∙◌}
use Rattle.std.specs.Prelude.{Result, Ok, Err, OnOk}
use Rattle.cg_base.specs.Outside.{Files, Rose, written, removed}
use Rattle.cg_outputs.specs.declared.out_file.OutFile.{OutFile}
use Rattle.cg_deeds.specs.Deeds.{Contents, after_deed, after_deeds}
use Rattle.cg_deeds.specs.Inner.{Stopped}
use Rattle.cg_deeds.specs.Told.{built_line}
use Rattle.cg_deeds.specs.declared.deed.Deed.{Deed}
use Rattle.cg_deeds.specs.declared.deed.Deed.TheVariants.{Write, Remove, Say}
use Rattle.cg_deeds.specs.declared.deed.Stream.TheVariants.{Out}
use Rattle.cg_deeds.specs.declared.stop.Stop.{Stop}
use Rattle.cg_deeds.specs.declared.stop.Stop.TheVariants as stop
use Rattle.cg_session.specs.Answers.{Answer, builds, refuses, Answers}
use Rattle.cg_session.specs.Play.{Kept, keeping, after_build, built_deeds, changes, deeds_of, manifest_of, new_ones, old_ones, removal_of, removed_count, texts_of, write_of, written_count}
use Rattle.cg_session.specs.Turns.{Side, seen, after_changes, StoppedIn, ChangesEnd, Tells, AllDone, StopsIn, RoseAt, DeedFails, DeedUnfound, for_one, DeedsEnd, no_deed, TurnEnds, IsHeld, held_after, held_deeds}
use Rattle.cg_session.specs.declared.build.BuildAnswer.{BuildAnswer}
use Rattle.cg_session.specs.declared.build.BuildAnswer.TheVariants as answer

-- ---- deeds one after the other

pub deeds_behind : (ds es : List Deed) (c : Contents) → after_deeds (ds ++ es) c ≡ after_deeds es (after_deeds ds c)
deeds_behind [] es c = refl
deeds_behind (d ∷ ds) es c = deeds_behind ds es (after_deed d c)

pub stopped_front : (deed : Deed) (ds es : List Deed) (b a : Contents) → Stopped deed ds b a → Stopped deed (ds ++ es) b a
stopped_front deed [] es b a s = absurd s
stopped_front deed (d ∷ ds) es b a (inl here) = inl here
stopped_front deed (d ∷ ds) es b a (inr there) = inr (stopped_front deed ds es (after_deed d b) a there)

pub stopped_behind : (deed : Deed) (ds es : List Deed) (b a : Contents) → Stopped deed es (after_deeds ds b) a → Stopped deed (ds ++ es) b a
stopped_behind deed [] es b a s = s
stopped_behind deed (d ∷ ds) es b a s = inr (stopped_behind deed ds es (after_deed d b) a s)

-- ---- changes of the store, as deeds

-- the deed is a change of the store
abbrev IsChange : Deed → Type 0
IsChange (Write name bytes) = Unit {0}
IsChange (Remove name) = Unit {0}
IsChange (Say stream line) = ⊥

-- all of them are
abbrev AreChanges : List Deed → Type 0
AreChanges [] = Unit {0}
AreChanges (d ∷ ds) = IsChange d × AreChanges ds

both_are : (ds es : List Deed) → AreChanges ds → AreChanges es → AreChanges (ds ++ es)
both_are [] es a b = b
both_are (d ∷ ds) es a b = (a.0, both_are ds es a.1 b)

writes_are : (os : List OutFile) → AreChanges (map write_of os)
writes_are [] = tt
writes_are (o ∷ os) = (tt, writes_are os)

removals_are : (os : List OutFile) → AreChanges (map removal_of os)
removals_are [] = tt
removals_are (o ∷ os) = (tt, removals_are os)

changes_are : (last os : List OutFile) → AreChanges (changes last os)
changes_are last os =
    both_are (map write_of (new_ones last (texts_of os))) (map removal_of (old_ones last os) ++ map write_of (new_ones last (manifest_of os))) (writes_are (new_ones last (texts_of os)))
    (both_are (map removal_of (old_ones last os)) (map write_of (new_ones last (manifest_of os))) (removals_are (old_ones last os)) (writes_are (new_ones last (manifest_of os))))

abbrev contents_of : Option Files → Option (List ℕ) → Option (List ℕ) → Contents
contents_of files out err = record { files = files; out = out; err = err }

-- changes that are done are deeds that are done
done_seen : (ds : List Deed) (f : Option Files) (out err : Option (List ℕ)) → AreChanges ds → contents_of (after_changes ds f) out err ≡ after_deeds ds (contents_of f out err)
done_seen [] f out err a = refl
done_seen (Write name bytes ∷ ds) f out err a = done_seen ds (written f name bytes) out err a.1
done_seen (Remove name ∷ ds) f out err a = done_seen ds (removed f name) out err a.1
done_seen (Say stream line ∷ ds) f out err a = absurd a.0

-- a change at which it stopped is a deed at which it stopped
record StopsAtChange (ds : List Deed) (f g : Option Files) : Type 0 where
  deed : Deed
  is_change : IsChange deed
  stopped : (out err : Option (List ℕ)) → Stopped deed ds (contents_of f out err) (contents_of g out err)

stopped_seen : (ds : List Deed) (f g : Option Files) → AreChanges ds → StoppedIn ds f g → StopsAtChange ds f g
stopped_seen [] f g a s = absurd s
stopped_seen (Write name bytes ∷ ds) f g a (inl here) = record { deed = Write name bytes; is_change = tt; stopped = λ out err. inl (refl, (here, refl, refl)) }
stopped_seen (Remove name ∷ ds) f g a (inl here) = record { deed = Remove name; is_change = tt; stopped = λ out err. inl (refl, (here, refl, refl)) }
stopped_seen (Write name bytes ∷ ds) f g a (inr there) =
    let s = stopped_seen ds (written f name bytes) g a.1 there in record { deed = s.deed; is_change = s.is_change; stopped = λ out err. inr (s.stopped out err) }
stopped_seen (Remove name ∷ ds) f g a (inr there) =
    let s = stopped_seen ds (removed f name) g a.1 there in record { deed = s.deed; is_change = s.is_change; stopped = λ out err. inr (s.stopped out err) }
stopped_seen (Say stream line ∷ ds) f g a s = absurd a.0

-- the count of changes rose, which is that of a change's object
rose_at : (deed : Deed) (before after : Side) → IsChange deed → Rose before.changes after.changes → RoseAt deed before after
rose_at (Write name bytes) before after is rose = rose
rose_at (Remove name) before after is rose = rose
rose_at (Say stream line) before after is rose = absurd is

-- ---- a line

-- a line that is said by itself
pub said : (r : Result (Unit {0}) Stop) (line : List ℕ) (before after : Side) → after.files ≡ before.files → Tells r line before.out after.out before.out_faults after.out_faults
    → DeedsEnd r (Say Out line ∷ []) before after
said (Ok u) line before after same t = λ err. λ i. record { files = same i; out = t i; err = err }
said (Err stop.Failed) line before after same t = record { deed = Say Out line; stops = λ err. inl (refl, (same, t.1, refl)); rose = t.0 }
said (Err stop.Memory) line before after same t = for_one (Say Out line) (λ err. inl (refl, (same, t, refl)))

-- ---- a good build

module _ (last new : List OutFile) (before after : Side) where
  told_line : List ℕ
  told_line = built_line (written_count last new) (removed_count last new)

  -- the side behind the changes, and before the line
  between : Side
  between = record { files = after.files; changes = after.changes; out = before.out; out_faults = before.out_faults }

  changed : after.files ≡ after_changes (changes last new) before.files → (err : Option (List ℕ)) → seen between err ≡ after_deeds (changes last new) (seen before err)
  unfolding between
  changed is err = (λ i. record { files = is i; out = before.out; err = err }) ∙ done_seen (changes last new) before.files before.out err (changes_are last new)

  -- the line stops behind all changes
  line_stops : (err : Option (List ℕ)) → after.files ≡ after_changes (changes last new) before.files → Stopped (Say Out told_line) (Say Out told_line ∷ []) (seen between err) (seen after err)
      → Stopped (Say Out told_line) (built_deeds last new) (seen before err) (seen after err)
  unfolding told_line between
  line_stops err is s =
      stopped_behind (Say Out told_line) (changes last new) (Say Out told_line ∷ []) (seen before err) (seen after err)
      (subst (λ (c : Contents). Stopped (Say Out told_line) (Say Out told_line ∷ []) c (seen after err)) (changed is err) s)

  -- the changes are done, and then the line is said
  pub told_behind : (r : Result (Unit {0}) Stop) (line : List ℕ) → line ≡ built_line (written_count last new) (removed_count last new) → after.files ≡ after_changes (changes last new) before.files
      → Tells r line before.out after.out before.out_faults after.out_faults → DeedsEnd r (built_deeds last new) before after
  unfolding told_line between
  told_behind r line is files tells = ends r (subst (λ l. Tells r l before.out after.out before.out_faults after.out_faults) is tells)
    where
      ends : (r : Result (Unit {0}) Stop) → Tells r told_line before.out after.out before.out_faults after.out_faults → DeedsEnd r (built_deeds last new) before after
      ends (Ok u) t = λ err.
          (λ i. record { files = after.files; out = t i; err = err }) ∙ ap (after_deeds (Say Out told_line ∷ [])) (changed files err)
          ∙ sym (deeds_behind (changes last new) (Say Out told_line ∷ []) (seen before err))
      ends (Err stop.Failed) t = record { deed = Say Out told_line; stops = λ err. line_stops err files (inl (refl, (refl, t.1, refl))); rose = t.0 }
      ends (Err stop.Memory) t = for_one (Say Out told_line) (λ err. line_stops err files (inl (refl, (refl, t, refl))))

  -- it stopped among the changes
  pub stopped_before : (s : Stop) → ChangesEnd (Err s) (changes last new) before.files after.files before.changes after.changes → after.out ≡ before.out
      → DeedsEnd (Err s) (built_deeds last new) before after
  unfolding told_line
  stopped_before s ends same = go s ends
    where
      stops : StoppedIn (changes last new) before.files after.files → StopsAtChange (changes last new) before.files after.files
      stops h = stopped_seen (changes last new) before.files after.files (changes_are last new) h

      all : (h : StoppedIn (changes last new) before.files after.files) → StopsIn (stops h).deed (built_deeds last new) before after
      all h = λ err. stopped_front (stops h).deed (changes last new) (Say Out told_line ∷ []) (seen before err) (seen after err)
          (subst (λ o. Stopped (stops h).deed (changes last new) (seen before err) (contents_of after.files o err)) (sym same) ((stops h).stopped before.out err))

      go : (s : Stop) → ChangesEnd (Err s) (changes last new) before.files after.files before.changes after.changes → DeedsEnd (Err s) (built_deeds last new) before after
      go stop.Failed h = record { deed = (stops h.1).deed; stops = all h.1; rose = rose_at (stops h.1).deed before after (stops h.1).is_change h.0 }
      go stop.Memory h = for_one (stops h).deed (all h)

-- ---- by the answer

held_same : (dir : List ℕ) (last : List OutFile) (held : BuildAnswer) (a : Answer) → IsHeld dir held a → held_deeds last held ≡ deeds_of dir last a
held_same dir last (answer.Built os) (builds outputs) is = ap (built_deeds last) is
held_same dir last (answer.Built os) (refuses names fault) is = absurd is
held_same dir last (answer.Refused line) (builds outputs) is = absurd is
held_same dir last (answer.Refused line) (refuses names fault) is = ap (λ l. Say Out l ∷ []) is

held_behind : (dir : List ℕ) (k : Kept) (held : BuildAnswer) (a : Answer) → IsHeld dir held a → held_after k held ≡ after_build dir k a
held_behind dir k (answer.Built os) (builds outputs) is = ap (λ x. keeping k.files x false) is
held_behind dir k (answer.Built os) (refuses names fault) is = absurd is
held_behind dir k (answer.Refused line) (builds outputs) is = absurd is
held_behind dir k (answer.Refused line) (refuses names fault) is = refl

-- a build ends as the deeds of its answer do
pub turned : (r : Result (Unit {0}) Stop) (top dir : List ℕ) (k k' : Kept) (held : BuildAnswer) (a : Answer) (before after : Side) → Answers top k.files a → IsHeld dir held a
    → DeedsEnd r (held_deeds k.good held) before after → OnOk r (k' ≡ held_after k held) → TurnEnds r top dir k k' before after
turned (Ok u) top dir k k' held a before after is h ends kept =
    record {
      deeds = deeds_of dir k.good a;
      does = record { answer = a; is_answer = is; kept_is = kept ∙ held_behind dir k held a h; deeds_are = refl };
      done = subst (λ ds. AllDone ds before after) (held_same dir k.good held a h) ends;
    }
turned (Err stop.Failed) top dir k k' held a before after is h ends kept =
    record { answer = a; is_answer = is; fails = subst (λ ds. DeedFails ds before after) (held_same dir k.good held a h) ends }
turned (Err stop.Memory) top dir k k' held a before after is h ends kept =
    no_deed a is (subst (λ ds. DeedUnfound ds before after) (held_same dir k.good held a h) ends)

-- the same, of what is kept with the files as the build left them
pub turned_from : (r : Result (Unit {0}) Stop) (top dir : List ℕ) (k between k' : Kept) (held : BuildAnswer) (a : Answer) (before after : Side) → between ≡ k → Answers top k.files a → IsHeld dir held a
    → DeedsEnd r (held_deeds between.good held) before after → OnOk r (k' ≡ held_after between held) → TurnEnds r top dir k k' before after
turned_from r top dir k between k' held a before after same is h ends kept =
    turned r top dir k k' held a before after is h (subst (λ (x : Kept). DeedsEnd r (held_deeds x.good held) before after) same ends)
    (subst (λ (x : Kept). OnOk r (k' ≡ held_after x held)) same kept)
