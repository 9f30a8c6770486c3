-- The files of a folder are read one after the other.
use Rattle.std.proofs.Common.{◌≡◌, ℕ, ◌+◌, ◌≤◌, List, [], ◌∷◌, ◌++◌, append-nil, append_assoc, length, length-append, slice_get, Option, Some, None, Result, Ok, Err, refl, sym, ap, subst, ◌∙◌, arith}
use Rattle.std.specs.FinMap as fin
use Rattle.std.specs.Result.{IsErrAnd}
use Rattle.cg_base.specs.Outside.{Files, Rose, also_asked}
use Rattle.cg_keep.specs.Kept.{Kept}
use Rattle.cg_gen.specs.Reads.{Read, read, Gave, GaveAll, names_of}
use Rattle.cg_gen.specs.Topgen.{in_folder, with_given, with_read, with_reads}
use Rattle.cg_gen.specs.declared.given.Given.{Given}
use Rattle.cg_deeds.specs.declared.stop.Stop.{Stop}
use Rattle.cg_deeds.specs.declared.stop.Stop.TheVariants as stop
use Rattle.cg_gen.specs.Gathering.{AreOfNames, GatherEnds, Gathered, GatheredAll, GatheredTo, NextFails, Shown}
use Rattle.std.proofs.Math.Seq.{drop-append_seam}

-- ---- lists of reads

names_behind : (rs ss : List Read) → names_of (rs ++ ss) ≡ names_of rs ++ names_of ss
names_behind [] ss = refl
names_behind (r ∷ rs) ss = ap (λ ns. r.name ∷ ns) (names_behind rs ss)

pub gave_behind : (files : Option Files) (rs ss : List Read) → GaveAll files rs → GaveAll files ss → GaveAll files (rs ++ ss)
gave_behind files [] ss gave also = also
gave_behind files (r ∷ rs) ss gave also = (gave.0, gave_behind files rs ss gave.1 also)

with_behind : (folder : List ℕ) (files : Files) (rs ss : List Read) → with_reads folder files (rs ++ ss) ≡ with_reads folder (with_reads folder files rs) ss
with_behind folder files [] ss = refl
with_behind folder files (r ∷ rs) ss = with_behind folder (with_read folder files r) rs ss

-- a read of the next name
pub of_next : (folder : List ℕ) (rs : List Read) (names : List (List ℕ)) (r : Read) (name : List ℕ) → AreOfNames folder rs names → slice_get names (length rs) ≡ Some name → r.name ≡ folder ++ name
    → AreOfNames folder (rs ++ r ∷ []) names
of_next folder [] [] r name of at is = absurd (let bad : ◌≡◌ {A = Option (List ℕ)} None (Some name) = at in cc)
of_next folder [] (n ∷ names) r name of at is = let same : n ≡ name = cc in (is ∙ ap (λ x. folder ++ x) (sym same), tt)
of_next folder (s ∷ rs) [] r name of at is = absurd of
of_next folder (s ∷ rs) (n ∷ names) r name of at is = (of.0, of_next folder rs names r name of.1 at is)

pub asked_behind : (asked : Option (List (List ℕ))) (xs ys : List (List ℕ)) → also_asked (also_asked asked xs) ys ≡ also_asked asked (xs ++ ys)
asked_behind None xs ys = refl
asked_behind (Some names) xs ys = ap Some (append_assoc names xs ys)

pub asked_none : (asked : Option (List (List ℕ))) → asked ≡ also_asked asked []
asked_none None = refl
asked_none (Some names) = ap Some (sym (append-nil names))

pub rose_behind : (a b c : ℕ) → a ≤ b → Rose b c → Rose a c
rose_behind a b c low rose = omega (arith, low, rose)

-- the name of a file in its folder
pub named_there : (folder name : List ℕ) → in_folder folder (folder ++ name) ≡ name
named_there folder name = drop-append_seam folder name

-- ---- reading

module _ (folder : List ℕ) (names : List (List ℕ)) where
  -- nothing was read yet
  pub gathered_none : (before : Shown) (kept : Kept) → GatheredTo 0 folder names before before kept kept
  gathered_none before kept = record {
    reads = [];
    gathered = record {
      of_names = tt;
      gave = tt;
      same = refl;
      asked_for = asked_none before.asked;
      later = omega arith;
      are_kept = refl;
    };
    count = refl;
  }

  -- some files were read, and then some more
  pub gathered_more : (start before after : Shown) (kept kept' kept'' : Kept) (front rest : List (List ℕ)) (reads rs : List Read) → Gathered folder front start before kept kept' reads
      → Gathered folder rest before after kept' kept'' rs → AreOfNames folder (reads ++ rs) names → Gathered folder names start after kept kept'' (reads ++ rs)
  gathered_more start before after kept kept' kept'' front rest reads rs g h of = record {
    of_names = of;
    gave = gave_behind start.files reads rs g.gave (subst (λ files. GaveAll files rs) g.same h.gave);
    same = h.same ∙ g.same;
    asked_for = h.asked_for ∙ ap (λ a. also_asked a (names_of rs)) g.asked_for ∙ asked_behind start.asked (names_of reads) (names_of rs) ∙ ap (also_asked start.asked) (sym (names_behind reads rs));
    later = omega (arith, g.later, h.later);
    are_kept = h.are_kept ∙ ap (λ (k : Kept). record k { files = with_reads folder k.files rs }) g.are_kept
        ∙ ap (λ files. record kept { files = files }) (sym (with_behind folder kept.files reads rs));
  }

  -- the next file was read too
  pub gathered_next : (start before after : Shown) (kept kept' kept'' : Kept) (n : ℕ) (name : List ℕ) → GatheredTo n folder names start before kept kept' → slice_get names n ≡ Some name
      → GatheredAll folder (name ∷ []) before after kept' kept'' → GatheredTo (n + 1) folder names start after kept kept''
  gathered_next start before after kept kept' kept'' n name g at next = by next.reads next.gathered next.count where
    here : slice_get names (length g.reads) ≡ Some name
    here = ap (slice_get names) g.count ∙ at

    by : (rs : List Read) → Gathered folder (name ∷ []) before after kept' kept'' rs → length rs ≡ 1 → GatheredTo (n + 1) folder names start after kept kept''
    by [] h count = absurd (omega (arith, count))
    by (r ∷ s ∷ rs) h count = absurd (h.of_names.1)
    by (r ∷ []) h count = record {
      reads = g.reads ++ r ∷ [];
      gathered = gathered_more start before after kept kept' kept'' names (name ∷ []) g.reads (r ∷ []) g.gathered h (of_next folder g.reads names r name g.gathered.of_names here h.of_names.0);
      count = length-append g.reads (r ∷ []) ∙ ap (λ m. m + 1) g.count;
    }

  -- the next one failed
  pub fails_next : (start before after : Shown) (kept kept' : Kept) (n : ℕ) (name : List ℕ) → GatheredTo n folder names start before kept kept' → slice_get names n ≡ Some name
      → NextFails folder (name ∷ []) before after → NextFails folder names start after
  fails_next start before after kept kept' n name g at f = by f.reads f.of_names f.is_next f.asked_for where
    by : (rs : List Read) → AreOfNames folder rs (name ∷ []) → slice_get (name ∷ []) (length rs) ≡ Some f.next → after.asked ≡ also_asked before.asked (names_of rs ++ (folder ++ f.next) ∷ [])
        → NextFails folder names start after
    by (r ∷ rs) of is asked = absurd (let bad : ◌≡◌ {A = Option (List ℕ)} None (Some f.next) = is in cc)
    by [] of is asked = record {
      reads = g.reads;
      of_names = g.gathered.of_names;
      gave = g.gathered.gave;
      next = f.next;
      is_next = ap (slice_get names) g.count ∙ at ∙ is;
      asked_for = asked ∙ ap (λ a. also_asked a ((folder ++ f.next) ∷ [])) g.gathered.asked_for ∙ asked_behind start.asked (names_of g.reads) ((folder ++ f.next) ∷ []);
      rose = rose_behind start.faults before.faults after.faults g.gathered.later f.rose;
    }

-- ---- one file

-- an error that is passed on
pub passed_on : {X E : Type 0} (P : Result X E → Type 0) (r : Result X E) (e : E) → IsErrAnd r (λ x. x ≡ e) → P (Err e) → P r
passed_on P (Ok x) e is p = absurd is
passed_on P (Err x) e is p = subst (λ y. P (Err y)) (sym is) p

module _ (folder name : List ℕ) (before after : Shown) (kept kept' : Kept) (asked : after.asked ≡ also_asked before.asked ((folder ++ name) ∷ [])) where
  -- it was read, and put
  pub one_read : (g : Option (List ℕ)) → Gave before.files (read (folder ++ name) g) → after.files ≡ before.files → before.faults ≤ after.faults
      → kept' ≡ record kept { files = with_given kept.files name (fin.get kept.files name) g } → GatheredAll folder (name ∷ []) before after kept kept'
  one_read g gave same later put = record {
    reads = read (folder ++ name) g ∷ [];
    gathered = record {
      of_names = (refl, tt);
      gave = (gave, tt);
      same = same;
      asked_for = asked;
      later = later;
      are_kept = put ∙ ap (λ n. record kept { files = with_given kept.files n (fin.get kept.files n) g }) (sym (named_there folder name));
    };
    count = refl;
  }

  -- its read was stopped
  pub one_stopped : (e : Stop) → (◌≡◌ {A = Result Given Stop} (Err e) (Err stop.Failed) → Rose before.faults after.faults) → GatherEnds (Err e) folder (name ∷ []) before after kept kept'
  one_stopped stop.Failed rose = record { reads = []; of_names = tt; gave = tt; next = name; is_next = refl; asked_for = asked; rose = rose refl }
  one_stopped stop.Memory rose = tt

-- the next of some files was stopped
pub next_stopped : (e : Stop) (folder : List ℕ) (names : List (List ℕ)) (start before after : Shown) (kept kept' kept'' : Kept) (n : ℕ) (name : List ℕ) → GatheredTo n folder names start before kept kept'
    → slice_get names n ≡ Some name → GatherEnds (Err e) folder (name ∷ []) before after kept' kept'' → GatherEnds (Err e) folder names start after kept kept''
next_stopped stop.Failed folder names start before after kept kept' kept'' n name g at fails = fails_next folder names start before after kept kept' n name g at fails
next_stopped stop.Memory folder names start before after kept kept' kept'' n name g at fails = tt
