-- Completed sources and base addresses break no rule.
use Rattle.std.proofs.Common.{◌≡◌, ℕ, Bool, true, false, ◌&&◌, ◌||◌, cond, bytes_eq, List, [], ◌∷◌, Option, Some, None, option_map, is_some, unwrap_or, refl, sym, ap, ◌∙◌, subst}
use Rattle.std.proofs.lemmas.Bool.{and_parts}
use Rattle.std.specs.List.{flat_map, list_all, list_any}
use Rattle.serde_json.specs.Data.{Data}
use Rattle.serde_json.specs.Find.{get}
use Rattle.cg_finding.specs.Finding.{Finding}
use Rattle.cg_hjson.specs.declared.tree.Member.{Member}
use Rattle.cg_hjson.specs.declared.tree.Tree.{Tree}
use Rattle.cg_keys.specs.Elements.{object_faults}
use Rattle.cg_keys.specs.Forms.{or_else}
use Rattle.cg_keys.specs.Lists as keys
use Rattle.cg_keys.specs.Lists.{first_members}
use Rattle.cg_keys.specs.Table.{Key, value_at, value_faults}
use Rattle.cg_keys.specs.Values.{members_of, object_in, or_empty}
use Rattle.cg_keys.specs.declared.forms.Form.TheVariants.{Number, Object}
use Rattle.cg_blkread.specs.Interfaces as blocks
use Rattle.cg_topread.specs.Described.{base_in}
use Rattle.cg_topread.specs.Listed.{base_faults, bases_faults, face_faults, faces_faults, source_faults, sources_faults}
use Rattle.cg_topread.specs.Tables.{base_forms, bases_forms, source_forms}
use Rattle.cg_blkdone.specs.Full.{said_with}
use Rattle.cg_blkdone.specs.Parts.{each_pair}
use Rattle.cg_blkdone.proofs.EachMember.{completed_or_told, last_in_each}
use Rattle.cg_blkdone.proofs.Lookups.{FoundAt, found_at, found_in_completed, is_object, object_stays}
use Rattle.cg_blkdone.proofs.Once.{members_once}
use Rattle.cg_blkdone.proofs.Puts.{last_at}
use Rattle.cg_blkdone.proofs.SoundCompleted.{word_fits}
use Rattle.cg_blkdone.proofs.SoundMembers.{each_passes, first_passes}
use Rattle.cg_blkdone.proofs.SoundNone.{is_none, none_by_both, none_of_each}
use Rattle.cg_blkdone.proofs.SoundTables.{fits_one_told, fits_told, none_in_value, none_of_object, object_good}
use Rattle.cg_blkdone.proofs.Told.{found_told, object_told, told}
use Rattle.cg_done.specs.FullTop.{bases_by, full_base, full_bases}
use Rattle.cg_done.specs.Parts.{plain_base}
use Rattle.cg_done.proofs.Differ.{Differs, differs_at}
use Rattle.cg_done.proofs.SameBases.{base_low}

-- ---- the first member of each key

same_first : (before : List (List ℕ)) (ms : List Member) → keys.first_members_after before ms ≡ blocks.first_members_after before ms
unfolding keys.first_members_after blocks.first_members_after
same_first before [] = refl
same_first before (m ∷ ms) = λ i. cond (list_any (bytes_eq m.key) before) (same_first before ms i) (m ∷ same_first (m.key ∷ before) ms i)

-- what is told at each key has the property
abbrev pub EachTold : (Data → Type 0) → Data → Type 0
EachTold P d = (key : List ℕ) (e : Data) → get key d ≡ Some e → P e

-- of members nothing is found exactly where what they tell has a property
pub record Tells (P : Data → Type 0) (faults : Member → List Finding) : Type 0 where
  pub test : List ℕ → Tree → Bool
  pub is_test : (m : Member) → is_none (faults m) ≡ test m.key m.value
  pub says : (key : List ℕ) (t : Tree) → test key t ≡ true → P (told t)
  pub holds : (key : List ℕ) (t : Tree) → P (told t) → test key t ≡ true

none_of_firsts : (P : Data → Type 0) (faults : Member → List Finding) (tells : Tells P faults) (ms : List Member)
    → is_none (flat_map faults (first_members ms)) ≡ list_all (λ (m : Member). tells.test m.key m.value) (blocks.first_members ms)
none_of_firsts P faults tells ms =
    none_of_each faults (λ m. tells.test m.key m.value) (first_members ms) tells.is_test ∙ ap (list_all (λ (m : Member). tells.test m.key m.value)) (same_first [] ms)

-- so it is of the first members of each key
pub each_from_none : (P : Data → Type 0) (faults : Member → List Finding) → Tells P faults → (t : Tree) → is_none (flat_map faults (first_members (members_of t))) ≡ true
    → EachTold P (told t)
each_from_none P faults tells t none key e there =
    let found : FoundAt key t e = found_at key t e there in
    let passes = each_passes tells.test [] (members_of t) (sym (none_of_firsts P faults tells (members_of t)) ∙ none) key found.value refl found.there in
    subst P found.tells (tells.says key found.value passes)

-- and the other way
pub none_from_each : (P : Data → Type 0) (faults : Member → List Finding) → Tells P faults → (t : Tree) → EachTold P (told t)
    → is_none (flat_map faults (first_members (members_of t))) ≡ true
none_from_each P faults tells t each =
    none_of_firsts P faults tells (members_of t)
    ∙ first_passes tells.test [] (members_of t) (λ key w absent there. tells.holds key w (each key (told w) (sym (found_told key t) ∙ ap (option_map told) there)))

-- ---- sources

-- a source breaks nothing
abbrev pub SourceGood : List Key → Data → Type 0
SourceGood ks d = (fits_one_told source_forms d && object_good ks d) ≡ true

sources_tell : (ks : List Key) → Tells (SourceGood ks) (source_faults ks)
unfolding source_faults
sources_tell ks = record {
  test = λ key t. fits_one_told source_forms (told t) && object_good ks (told t);
  is_test = λ m. none_by_both (value_faults m.key source_forms m.value) (object_faults ks m.value) _ _ (none_in_value m.key source_forms m.value) (none_of_object ks m.value);
  says = λ key t h. h;
  holds = λ key t h. h;
}

-- sources break nothing exactly where each told breaks nothing
pub sources_good : (ks : List Key) (t : Tree) → is_none (sources_faults ks (members_of t)) ≡ true → EachTold (SourceGood ks) (told t)
unfolding sources_faults
sources_good ks t none = each_from_none (SourceGood ks) (source_faults ks) (sources_tell ks) t none

-- and the other way
pub good_sources : (ks : List Key) (t : Tree) → EachTold (SourceGood ks) (told t) → is_none (sources_faults ks (members_of t)) ≡ true
unfolding sources_faults
good_sources ks t each = none_from_each (SourceGood ks) (source_faults ks) (sources_tell ks) t each

-- ---- base addresses

-- a base address breaks nothing
abbrev pub BaseGood : Data → Type 0
BaseGood d = fits_one_told base_forms d ≡ true

bases_tell : Tells BaseGood base_faults
bases_tell = record {
  test = λ key t. fits_one_told base_forms (told t);
  is_test = λ m. none_in_value m.key base_forms m.value;
  says = λ key t h. h;
  holds = λ key t h. h;
}

-- base addresses break nothing where each told breaks nothing
pub good_bases : (t : Tree) → EachTold BaseGood (told t) → is_none (bases_faults (members_of t)) ≡ true
unfolding bases_faults
good_bases t each = none_from_each BaseGood base_faults bases_tell t each

-- and the other way
pub bases_good : (t : Tree) → is_none (bases_faults (members_of t)) ≡ true → EachTold BaseGood (told t)
unfolding bases_faults
bases_good t none = each_from_none BaseGood base_faults bases_tell t none

-- those of an interface break nothing
abbrev pub FaceGood : Data → Type 0
FaceGood d = (fits_one_told bases_forms d ≡ true) × EachTold BaseGood d

faces_tell : Tells FaceGood face_faults
unfolding face_faults
faces_tell = record {
  test = λ key t. fits_one_told bases_forms (told t) && is_none (bases_faults (members_of t));
  is_test = λ m. none_by_both (value_faults m.key bases_forms m.value) (bases_faults (members_of m.value)) _ _ (none_in_value m.key bases_forms m.value) refl;
  says = λ key t h. let both = and_parts (fits_one_told bases_forms (told t)) (is_none (bases_faults (members_of t))) h in (both.0, bases_good t both.1);
  holds = λ key t h. λ i. h.0 i && good_bases t h.1 i;
}

-- those of interfaces break nothing where each told breaks nothing
pub good_faces : (t : Tree) → EachTold FaceGood (told t) → is_none (faces_faults (members_of t)) ≡ true
unfolding faces_faults
good_faces t each = none_from_each FaceGood face_faults faces_tell t each

-- and the other way
pub faces_told : (t : Tree) → is_none (faces_faults (members_of t)) ≡ true → EachTold FaceGood (told t)
unfolding faces_faults
faces_told t none = each_from_none FaceGood face_faults faces_tell t none

-- ---- completed base addresses

-- what is told at a key of an object whose members are completed is the completion of a member
pub each_completed : (full : Tree → Data) (P : Data → Type 0) (t : Tree) (d : Data) → Differs t → is_object (told t) ≡ true
    → ((key : List ℕ) → get key d ≡ or_else (last_at key (each_pair full (members_of t))) (get key (told t)))
    → ((key : List ℕ) (v : Tree) → value_at key (members_of t) ≡ Some v → P (full v)) → EachTold P d
each_completed full P t d differ is stands good key e there =
    by (value_at key (members_of t)) refl
    (sym (stands key ∙ (λ i. or_else (last_in_each full key (members_of t) (members_once t differ) i) (sym (found_told key t) i))
    ∙ completed_or_told full (value_at key (members_of t))) ∙ there) where
      by : (o : Option Tree) → value_at key (members_of t) ≡ o → option_map full o ≡ Some e → P e
      by None found same = absurd cc
      by (Some v) found same = subst P (ap (λ o. unwrap_or o e) same) (good key v found)

plain_good : (t : Tree) → BaseGood (plain_base t)
plain_good t = word_fits [] (base_in t) (base_low t)

abbrev no_keys : Data → Type 0
no_keys d = (key : List ℕ) → get key d ≡ None

-- nothing is told at any key
pub nothing_told : (P : Data → Type 0) (d : Data) → no_keys d → EachTold P d
nothing_told P d none key e there = absurd (none_some (get key d) (none key) there) where
  none_some : (o : Option Data) → o ≡ None → o ≡ Some e → ⊥
  none_some None first second = absurd cc
  none_some (Some x) first second = absurd cc

second_fits : (a b : Bool) → b ≡ true → (a || (b || false)) ≡ true
second_fits true b h = refl
second_fits false true h = refl
second_fits false false h = absurd cc

-- an object is one form of base addresses
object_fits : (d : Data) → is_object d ≡ true → fits_one_told bases_forms d ≡ true
object_fits d is = second_fits (fits_told (Number 0 4294967295) d) (is_object d) is

face_by : (t : Tree) (o : Option (List Member)) → object_in t ≡ o → Differs t → FaceGood (bases_by t o)
face_by t None is differ = (word_fits (Object ∷ []) (base_in t) (base_low t), nothing_told BaseGood (plain_base t) (λ key. refl))
face_by t (Some ms) is differ =
    let whole : is_object (told t) ≡ true = sym (object_told t) ∙ ap is_some is in
    let same : ms ≡ members_of t = ap or_empty (sym is) in
    subst (λ l. FaceGood (said_with (each_pair plain_base l) t)) (sym same) (
      object_fits _ (object_stays (each_pair plain_base (members_of t)) (told t) whole),
      each_completed plain_base BaseGood t (said_with (each_pair plain_base (members_of t)) t) differ whole
          (λ key. found_in_completed key (each_pair plain_base (members_of t)) (told t) whole) (λ key v there. plain_good v),
    )

-- completed base addresses break nothing
pub face_good : (t : Tree) → Differs t → FaceGood (full_base t)
unfolding full_base
face_good t differ = face_by t (object_in t) refl differ

-- nor do those of interfaces
pub faces_good : (t : Tree) → Differs t → is_object (told t) ≡ true → EachTold FaceGood (full_bases t)
unfolding full_bases
faces_good t differ is =
    each_completed full_base FaceGood t (said_with (each_pair full_base (members_of t)) t) differ is
    (λ key. found_in_completed key (each_pair full_base (members_of t)) (told t) is) (λ key v there. face_good v (differs_at t key v differ there))

-- they are an object
pub bases_whole : (t : Tree) → is_object (told t) ≡ true → is_object (full_bases t) ≡ true
unfolding full_bases
bases_whole t is = object_stays (each_pair full_base (members_of t)) (told t) is
