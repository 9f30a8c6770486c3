-- A build more, and all builds of a session: what the store holds behind them.
use Rattle.std.proofs.Common.{◌≡◌, ◌⊎◌, inl, inr, ℕ, Bool, true, false, cond, not, ◌-◌, List, [], ◌∷◌, ◌++◌, length, map, Option, Some, None, refl, ap, sym, subst, ◌∙◌, append_assoc, append-nil}
use Rattle.std.specs.List.{filter}
use Rattle.std.specs.Str.{bytes_eq}
use Rattle.std.specs.FinMap as fin
use Rattle.std.proofs.lemmas.List.{take-append-drop}
use Rattle.cg_base.specs.Outside.{Files}
use Rattle.cg_svspec.specs.Names.{Among}
use Rattle.cg_svspec.proofs.NamesLemmas.{among_front, among_back, among_parts}
use Rattle.cg_inputs.specs.Input.{Command, put_file, del_file, build_files}
use Rattle.cg_outputs.specs.Outputs.{NamesDiffer}
use Rattle.cg_outputs.specs.declared.out_file.OutFile.{OutFile}
use Rattle.cg_deeds.specs.Told.{built_line, stored_name}
use Rattle.cg_deeds.specs.declared.deed.Deed.{Deed}
use Rattle.cg_deeds.specs.declared.deed.Deed.TheVariants.{Write, Remove, Say}
use Rattle.cg_deeds.specs.declared.deed.Stream.TheVariants.{Out}
use Rattle.cg_keep.specs.Laws.{BuiltNamesDiffer, WhatIsBuiltMeans}
use Rattle.cg_session.specs.Answers.{Answer, builds, refuses, Answers, refused_line}
use Rattle.cg_session.specs.Holding.{WasWritten, IsOutputName, HoldsOutputs, MeansFiles, none_yet, of_build}
use Rattle.cg_session.specs.Laws.{EveryBuildHolds, SessionHolds}
use Rattle.cg_session.specs.Play.{Kept, BuildDoes, Does, PlaysFrom, after_build, built_deeds, deeds_of, has_name, has_output, manifest_of, nothing_kept, removal_of, removed_count, stored, stored_all, texts_of, write_of, written_count}
use Rattle.cg_session.proofs.Holding.{same_names, effect, effect_behind, told, told_is, told_behind, told_at, is_named, not_named, lacks_one, no_write, one_write, no_removal, all_removed, held_before, output_named, not_true, differ_front, differ_back, differ_across, differ_across_back}
use Rattle.cg_session.proofs.Playing.{plays_next}

-- ---- what was written

written_front : (ds es : List Deed) (q : List ℕ) → WasWritten ds q → WasWritten (ds ++ es) q
written_front ds es q w = record { bytes = w.bytes; among = among_front (Write q w.bytes) ds es w.among }

written_back : (ds es : List Deed) (q : List ℕ) → WasWritten es q → WasWritten (ds ++ es) q
written_back ds es q w = record { bytes = w.bytes; among = among_back (Write q w.bytes) ds es w.among }

written_parts : (ds es : List Deed) (q : List ℕ) → WasWritten (ds ++ es) q → WasWritten ds q ⊎ WasWritten es q
written_parts ds es q w = go (among_parts (Write q w.bytes) ds es w.among)
  where
    go : Among (Write q w.bytes) ds ⊎ Among (Write q w.bytes) es → WasWritten ds q ⊎ WasWritten es q
    go (inl a) = inl (record { bytes = w.bytes; among = a })
    go (inr a) = inr (record { bytes = w.bytes; among = a })

-- which kind a deed is
abbrev kind : Deed → ℕ
kind (Write n b) = 0
kind (Remove n) = 1
kind (Say s l) = 2

abbrev name_in : Deed → List ℕ
name_in (Write n b) = n
name_in (Remove n) = n
name_in (Say s l) = l

-- a name that a write of outputs has is one of theirs
write_names : (t : OutFile → Bool) (os : List OutFile) (q b : List ℕ) → Among (Write q b) (map write_of (filter t os)) → IsOutputName os q
write_names t [] q b a = absurd a
write_names t (o ∷ os) q b a = go (t o) a (write_names t os q b)
  where
    later : IsOutputName os q → IsOutputName (o ∷ os) q
    later n = record { output = n.output; among = inr n.among; is = n.is }

    go : (r : Bool) → Among (Write q b) (map write_of (cond r (o ∷ filter t os) (filter t os))) → (Among (Write q b) (map write_of (filter t os)) → IsOutputName os q) → IsOutputName (o ∷ os) q
    go true (inl e) more = record { output = o; among = inl refl; is = ap name_in e }
    go true (inr a) more = later (more a)
    go false a more = later (more a)

-- a removal writes nothing
removal_writes : (os : List OutFile) (q b : List ℕ) → Among (Write q b) (map removal_of os) → ⊥
removal_writes [] q b a = a
removal_writes (o ∷ os) q b (inl e) = absurd (let bad : ◌≡◌ {A = ℕ} 0 1 = ap kind e in cc)
removal_writes (o ∷ os) q b (inr a) = removal_writes os q b a

-- an output that passes the test is written
passes_written : (t : OutFile → Bool) (os : List OutFile) (o : OutFile) → t o ≡ true → Among o os → Among (write_of o) (map write_of (filter t os))
passes_written t [] o h a = absurd a
passes_written t (p ∷ os) o h (inl e) =
    let passes : t p ≡ true = ap t (sym e) ∙ h in
    subst (λ r. Among (write_of o) (map write_of (cond r (p ∷ filter t os) (filter t os)))) (sym passes) (inl (ap write_of e))
passes_written t (p ∷ os) o h (inr a) = go (t p) (passes_written t os o h a)
  where
    go : (r : Bool) → Among (write_of o) (map write_of (filter t os)) → Among (write_of o) (map write_of (cond r (p ∷ filter t os) (filter t os)))
    go true k = inr k
    go false k = k

-- ---- one good build more

-- the store holds the outputs, each of which a deed has written
pub record IsHeld (good : List OutFile) (ds : List Deed) (m n : Files) : Type 0 where
  pub holds : HoldsOutputs good ds m n
  pub written : (o : OutFile) → Among o good → WasWritten ds o.name

module _ (last new : List OutFile) where
  T : List OutFile
  T = texts_of new

  M : List OutFile
  M = manifest_of new

  is_new : OutFile → Bool
  is_new o = not (has_output last o)

  is_old : OutFile → Bool
  is_old o = not (has_name new o.name)

  writes : List Deed
  writes = map write_of (filter is_new T)

  removals : List Deed
  removals = map removal_of (filter is_old last)

  manifests : List Deed
  manifests = map write_of (filter is_new M)

  line : List ℕ
  line = built_line (written_count last new) (removed_count last new)

  abbrev D : List Deed
  D = built_deeds last new

  whole : T ++ M ≡ new
  unfolding T M
  whole = take-append-drop (length new - 1) new

  deeds_are : D ≡ (writes ++ (removals ++ manifests)) ++ Say Out line ∷ []
  unfolding writes removals manifests line is_new is_old T M
  deeds_are = refl

  at_name : (q : List ℕ) (v : Option (List ℕ)) → effect D q v ≡ effect manifests q (effect removals q (effect writes q v))
  unfolding effect
  at_name q v =
      ap (λ ds. effect ds q v) deeds_are ∙ effect_behind (writes ++ (removals ++ manifests)) (Say Out line ∷ []) q v
      ∙ effect_behind writes (removals ++ manifests) q v ∙ effect_behind removals manifests q (effect writes q v)

  is_text : (o : OutFile) → Among o T → Among o new
  is_text o a = subst (Among o) whole (among_front o T M a)

  is_manifest : (o : OutFile) → Among o M → Among o new
  is_manifest o a = subst (Among o) whole (among_back o T M a)

  parts : (o : OutFile) → Among o new → Among o T ⊎ Among o M
  parts o a = among_parts o T M (subst (Among o) (sym whole) a)

  text_name : (q : List ℕ) → IsOutputName T q → IsOutputName new q
  text_name q n = record { output = n.output; among = is_text n.output n.among; is = n.is }

  manifest_name : (q : List ℕ) → IsOutputName M q → IsOutputName new q
  manifest_name q n = record { output = n.output; among = is_manifest n.output n.among; is = n.is }

  -- a name that none of the new outputs has is written by nothing
  lacks_texts : (q : List ℕ) → ¬ IsOutputName new q → has_name T q ≡ false
  lacks_texts q h = not_named T q (λ n. h (text_name q n))

  lacks_manifest : (q : List ℕ) → ¬ IsOutputName new q → has_name M q ≡ false
  lacks_manifest q h = not_named M q (λ n. h (manifest_name q n))

  -- no output of the last build is removed that has the name of a new one
  kept_name : (o : OutFile) → Among o new → (v : Option (List ℕ)) → effect removals o.name v ≡ v
  unfolding removals is_old
  kept_name o a v = no_removal is_old last o.name v (λ p i h. go p (bytes_eq p.name o.name) refl h)
    where
      go : (p : OutFile) (b : Bool) → bytes_eq p.name o.name ≡ b → not (has_name new p.name) ≡ true → b ≡ false
      go p false e h = refl
      go p true e h =
          let same = same_names p.name o.name e in
          let bad : true ≡ false = sym (is_named new o a) ∙ ap (has_name new) (sym same) ∙ not_true (has_name new p.name) h in cc

  lacking : (q : List ℕ) → has_name last q ≡ false → (v : Option (List ℕ)) → effect removals q v ≡ v
  unfolding removals
  lacking q lacks v = no_removal is_old last q v (λ o i h. lacks_one last q o lacks i)

  removed_all : (q : List ℕ) → has_name last q ≡ true → ¬ IsOutputName new q → (v : Option (List ℕ)) → effect removals q v ≡ None
  unfolding removals is_old
  removed_all q named h v = all_removed is_old last q v named (λ o e. ap not (ap (has_name new) (same_names o.name q e) ∙ not_named new q h))

  -- what is new was written
  new_written : (o : OutFile) → Among o new → has_output last o ≡ false → WasWritten D o.name
  unfolding writes manifests is_new
  new_written o a h = subst (λ ds. WasWritten ds o.name) (sym deeds_are) (written_front (writes ++ (removals ++ manifests)) (Say Out line ∷ []) o.name (go (parts o a)))
    where
      go : Among o T ⊎ Among o M → WasWritten (writes ++ (removals ++ manifests)) o.name
      go (inl t) = written_front writes (removals ++ manifests) o.name (record { bytes = o.bytes; among = passes_written is_new T o (ap not h) t })
      go (inr t) = written_back writes (removals ++ manifests) o.name (written_back removals manifests o.name (record { bytes = o.bytes; among = passes_written is_new M o (ap not h) t }))

  -- and what was written is new
  written_new : (q : List ℕ) → WasWritten D q → IsOutputName new q
  unfolding writes removals manifests
  written_new q w = all (written_parts (writes ++ (removals ++ manifests)) (Say Out line ∷ []) q (subst (λ ds. WasWritten ds q) deeds_are w))
    where
      of_manifest : WasWritten removals q ⊎ WasWritten manifests q → IsOutputName new q
      of_manifest (inl r) = absurd (removal_writes (filter is_old last) q r.bytes r.among)
      of_manifest (inr r) = manifest_name q (write_names is_new M q r.bytes r.among)

      of_changes : WasWritten writes q ⊎ WasWritten (removals ++ manifests) q → IsOutputName new q
      of_changes (inl r) = text_name q (write_names is_new T q r.bytes r.among)
      of_changes (inr r) = of_manifest (written_parts removals manifests q r)

      of_line : WasWritten (Say Out line ∷ []) q → ⊥
      of_line r = line_only r.bytes r.among
        where
          line_only : (b : List ℕ) → Among (Write q b) (Say Out line ∷ []) → ⊥
          line_only b (inl e) = absurd (let bad : ◌≡◌ {A = ℕ} 0 2 = ap kind e in cc)
          line_only b (inr a) = a

      all : WasWritten (writes ++ (removals ++ manifests)) q ⊎ WasWritten (Say Out line ∷ []) q → IsOutputName new q
      all (inl r) = of_changes (written_parts writes (removals ++ manifests) q r)
      all (inr r) = absurd (of_line r)

  module _ (ds : List Deed) (m n : Files) (held : IsHeld last ds m n) (differ : NamesDiffer new) where
    differ_parts : NamesDiffer (T ++ M)
    differ_parts = subst NamesDiffer (sym whole) differ

    -- what stands at an output's name is the output, whether it is written or was held
    by_test : (o : OutFile) → cond (is_new o) (Some o.bytes) (fin.get n o.name) ≡ Some o.bytes
    unfolding is_new
    by_test o = go (has_output last o) refl
      where
        go : (b : Bool) → has_output last o ≡ b → cond (not b) (Some o.bytes) (fin.get n o.name) ≡ Some o.bytes
        go true e = held_before n last o e held.holds.outputs
        go false e = refl

    output_held : (o : OutFile) → Among o new → fin.get (told D n) o.name ≡ Some o.bytes
    unfolding writes manifests
    output_held o a = told_at D n o.name ∙ at_name o.name (fin.get n o.name) ∙ go (parts o a)
      where
        go : Among o T ⊎ Among o M → effect manifests o.name (effect removals o.name (effect writes o.name (fin.get n o.name))) ≡ Some o.bytes
        go (inl t) =
            let first : effect writes o.name (fin.get n o.name) ≡ Some o.bytes = one_write is_new T o (fin.get n o.name) (differ_front T M differ_parts) t ∙ by_test o in
            ap (λ v. effect manifests o.name (effect removals o.name v)) first ∙ ap (effect manifests o.name) (kept_name o a (Some o.bytes))
            ∙ no_write is_new M o.name (Some o.bytes) (differ_across T M o differ_parts t)
        go (inr t) =
            ap (λ v. effect manifests o.name (effect removals o.name v)) (no_write is_new T o.name (fin.get n o.name) (differ_across_back T M o differ_parts t))
            ∙ ap (effect manifests o.name) (kept_name o a (fin.get n o.name)) ∙ one_write is_new M o (fin.get n o.name) (differ_back T M differ_parts) t ∙ by_test o

    -- at a name that no new output has nothing is written
    unwritten : (q : List ℕ) → ¬ IsOutputName new q → fin.get (told D n) q ≡ effect removals q (fin.get n q)
    unfolding writes manifests
    unwritten q h =
        told_at D n q ∙ at_name q (fin.get n q) ∙ ap (λ v. effect manifests q (effect removals q v)) (no_write is_new T q (fin.get n q) (lacks_texts q h))
        ∙ no_write is_new M q (effect removals q (fin.get n q)) (lacks_manifest q h)

    gone : (q : List ℕ) → WasWritten (ds ++ D) q → ¬ IsOutputName new q → fin.get (told D n) q ≡ None
    gone q w h = unwritten q h ∙ go (has_name last q) refl
      where
        before : WasWritten ds q ⊎ WasWritten D q → WasWritten ds q
        before (inl r) = r
        before (inr r) = absurd (h (written_new q r))

        go : (b : Bool) → has_name last q ≡ b → effect removals q (fin.get n q) ≡ None
        go true e = removed_all q e h (fin.get n q)
        go false e =
            lacking q e (fin.get n q)
            ∙ held.holds.gone q (before (written_parts ds D q w)) (λ r. let bad : true ≡ false = sym (is_named last r.output r.among) ∙ ap (has_name last) (sym r.is) ∙ e in cc)

    others : (q : List ℕ) → ¬ WasWritten (ds ++ D) q → fin.get (told D n) q ≡ fin.get m q
    others q h = unwritten q not_new ∙ lacking q (not_named last q not_last) (fin.get n q) ∙ held.holds.others q (λ w. h (written_front ds D q w))
      where
        not_last : ¬ IsOutputName last q
        not_last r = h (written_front ds D q (subst (WasWritten ds) (sym r.is) (held.written r.output r.among)))

        not_new : ¬ IsOutputName new q
        not_new r = go (has_output last r.output) refl
          where
            go : (b : Bool) → has_output last r.output ≡ b → ⊥
            go true e = not_last (subst (IsOutputName last) (sym r.is) (output_named last r.output e))
            go false e = h (written_back ds D q (subst (WasWritten D) (sym r.is) (new_written r.output r.among e)))

    all_written : (o : OutFile) → Among o new → WasWritten (ds ++ D) o.name
    all_written o a = go (has_output last o) refl
      where
        go : (b : Bool) → has_output last o ≡ b → WasWritten (ds ++ D) o.name
        go true e =
            let r = output_named last o e in
            written_front ds D o.name (subst (WasWritten ds) (sym r.is) (held.written r.output r.among))
        go false e = written_back ds D o.name (new_written o a e)

    pub good_build : IsHeld new (ds ++ D) m (told D n)
    good_build = record { holds = record { outputs = output_held; gone = gone; others = others }; written = all_written }

-- a build that was refused changes nothing
refused_build : (good : List OutFile) (ds : List Deed) (m n : Files) (l : List ℕ) → IsHeld good ds m n → IsHeld good (ds ++ Say Out l ∷ []) m n
refused_build good ds m n l held = record {
  holds = record {
    outputs = held.holds.outputs;
    gone = λ q w h. held.holds.gone q (before q (written_parts ds (Say Out l ∷ []) q w)) h;
    others = λ q h. held.holds.others q (λ w. h (written_front ds (Say Out l ∷ []) q w));
  };
  written = λ o a. written_front ds (Say Out l ∷ []) o.name (held.written o a);
}
  where
    line_only : (q b : List ℕ) → Among (Write q b) (Say Out l ∷ []) → ⊥
    line_only q b (inl e) = absurd (let bad : ◌≡◌ {A = ℕ} 0 2 = ap kind e in cc)
    line_only q b (inr a) = a

    before : (q : List ℕ) → WasWritten ds q ⊎ WasWritten (Say Out l ∷ []) q → WasWritten ds q
    before q (inl r) = r
    before q (inr r) = absurd (line_only q r.bytes r.among)

-- ---- names in the store

behind_front : (xs a b : List ℕ) → xs ++ a ≡ xs ++ b → a ≡ b
behind_front [] a b e = e
behind_front (x ∷ xs) a b e = behind_front xs a b (tail x (xs ++ a) (xs ++ b) e)
  where
    tail : (x : ℕ) (p q : List ℕ) → x ∷ p ≡ x ∷ q → p ≡ q
    tail x p q e = cc

one_stored : (dir a b : List ℕ) → stored_name dir a ≡ stored_name dir b → a ≡ b
one_stored dir a b e = tail (behind_front dir (47 ∷ a) (47 ∷ b) e)
  where
    tail : 47 ∷ a ≡ 47 ∷ b → a ≡ b
    tail e = cc

-- an output under its name in the store is one of them
from_stored : (dir : List ℕ) (os : List OutFile) (p : OutFile) → Among p (stored_all dir os) → (o : OutFile) × Among o os × (p ≡ stored dir o)
from_stored dir [] p a = absurd a
from_stored dir (o ∷ os) p (inl e) = (o, inl refl, e)
from_stored dir (o ∷ os) p (inr a) = let r = from_stored dir os p a in (r.0, inr r.1, r.2)

pub stored_differ : (dir : List ℕ) (os : List OutFile) → NamesDiffer os → NamesDiffer (stored_all dir os)
stored_differ dir [] d = tt
stored_differ dir (o ∷ os) d =
    ((λ p a same. let r = from_stored dir os p a in d.0 r.0 r.1 (one_stored dir o.name r.0.name (same ∙ ap (λ (x : OutFile). x.name) r.2))), stored_differ dir os d.1)

-- ---- all commands

module _ (names : BuiltNamesDiffer) (means : WhatIsBuiltMeans) (top dir : List ℕ) (m : Files) where
  -- what is held and meant behind the commands
  record Behind (good : List OutFile) (ds : List Deed) (n : Files) : Type 0 where
    held : IsHeld good ds m n
    meant : MeansFiles top dir good

  -- where nothing is done
  stays : (good good' : List OutFile) (ds es : List Deed) (n : Files) → good' ≡ good → es ≡ [] → Behind good ds n → Behind good' (ds ++ es) (told es n)
  unfolding told
  stays good good' ds es n same none b =
      subst (λ g. Behind g (ds ++ es) (told es n)) (sym same)
      (subst (λ x. Behind good (ds ++ x) (told x n)) (sym none) (subst (λ x. Behind good x n) (sym (append-nil ds)) b))

  -- a build, by its answer
  answer_behind : (k : Kept) (ds : List Deed) (n : Files) (a : Answer) → Answers top k.files a → Behind k.good ds n
      → Behind (after_build dir k a).good (ds ++ deeds_of dir k.good a) (told (deeds_of dir k.good a) n)
  unfolding told
  answer_behind k ds n (builds os) is b = record {
    held = good_build k.good (stored_all dir os) ds m n b.held (stored_differ dir os (names top k.files os is));
    meant = of_build k.files os is (means top k.files os is) refl;
  }
  answer_behind k ds n (refuses file_names fault) is b = record { held = refused_build k.good ds m n (refused_line file_names fault) b.held; meant = b.meant }

  -- a command
  does_behind : (c : Command) (k k' : Kept) (ds es : List Deed) (n : Files) → Does top dir c k k' es → Behind k.good ds n → Behind k'.good (ds ++ es) (told es n)
  does_behind (put_file name bytes) k k' ds es n d b = stays k.good k'.good ds es n (ap (λ (x : Kept). x.good) d.0) d.1 b
  does_behind (del_file name) k k' ds es n d b = stays k.good k'.good ds es n (ap (λ (x : Kept). x.good) d.0) d.1 b
  does_behind build_files k k' ds es n d b =
      subst (λ (x : Kept). Behind x.good (ds ++ es) (told es n)) (sym d.kept_is)
      (subst (λ x. Behind (after_build dir k d.answer).good (ds ++ x) (told x n)) (sym d.deeds_are) (answer_behind k ds n d.answer d.is_answer b))

  -- commands in their order
  plays_behind : (cs : List Command) (k k' : Kept) (ds es : List Deed) (n : Files) → PlaysFrom top dir cs k k' es → Behind k.good ds n → Behind k'.good (ds ++ es) (told es n)
  plays_behind [] k k' ds es n p b = stays k.good k'.good ds es n (ap (λ (x : Kept). x.good) p.0) p.1 b
  plays_behind (c ∷ cs) k k' ds es n p b =
      let first = does_behind c k p.0 ds p.1 n p.3 b in
      let all = plays_behind cs p.0 k' (ds ++ p.1) p.2 (told p.1 n) p.4 first in
      subst (λ x. Behind k'.good (ds ++ x) (told x n)) (sym p.5)
      (subst (λ x. Behind k'.good (ds ++ (p.1 ++ p.2)) x) (sym (told_behind p.1 p.2 n)) (subst (λ x. Behind k'.good x (told p.2 (told p.1 n))) (append_assoc ds p.1 p.2) all))

  -- no output is held at the beginning
  nothing_behind : Behind [] [] m
  nothing_behind = record {
    held = record { holds = record { outputs = λ o a. absurd a; gone = λ q w h. absurd w.among; others = λ q h. refl }; written = λ o a. absurd a };
    meant = none_yet refl;
  }

pub session_holds : BuiltNamesDiffer → WhatIsBuiltMeans → SessionHolds
session_holds names means top dir commands k deeds plays before m files =
    let b = plays_behind names means top dir m commands nothing_kept k [] deeds m plays (nothing_behind names means top dir m) in
    (told deeds m, record { is = told_is deeds before m files }, b.held.holds, b.meant)

pub every_build_holds : BuiltNamesDiffer → WhatIsBuiltMeans → EveryBuildHolds
every_build_holds names means top dir commands k deeds os plays built before m files =
    let does : BuildDoes top dir k (after_build dir k (builds os)) (deeds_of dir k.good (builds os)) = record { answer = builds os; is_answer = built; kept_is = refl; deeds_are = refl } in
    let all = plays_next top dir commands build_files nothing_kept k (after_build dir k (builds os)) deeds (deeds_of dir k.good (builds os)) plays does in
    let h = session_holds names means top dir (commands ++ build_files ∷ []) (after_build dir k (builds os)) (deeds ++ deeds_of dir k.good (builds os)) all before m files in
    (h.0, h.1, h.2, means top k.files os built)
