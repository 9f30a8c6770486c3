-- What is found of what stands at a key, by what is told there.
use Rattle.std.proofs.Common.{◌≡◌, ℕ, true, List, [], ◌∷◌, map, Option, Some, None, option_map, unwrap_or, refl, sym, ap, ◌∙◌, subst}
use Rattle.std.specs.List.{flat_map}
use Rattle.std.specs.Option.{option_map_or}
use Rattle.std.specs.Prelude.{All}
use Rattle.std.proofs.lemmas.List.Elements.{All-head, All-tail}
use Rattle.serde_json.specs.Data.{Data}
use Rattle.serde_json.specs.Find.{get}
use Rattle.cg_finding.specs.Finding.{Finding}
use Rattle.cg_hjson.specs.declared.tree.Member.{Member}
use Rattle.cg_hjson.specs.declared.tree.Tree.{Tree}
use Rattle.cg_keys.specs.Forms.{or_else}
use Rattle.cg_keys.specs.Table.{Key, value_at}
use Rattle.cg_keys.specs.Values.{members_of}
use Rattle.cg_topread.specs.Listed.{members_at}
use Rattle.cg_blkdone.specs.Full.{Pair}
use Rattle.cg_blkdone.proofs.EachMember.{completed_or_told}
use Rattle.cg_blkdone.proofs.FieldLists.{first_same, rest_same}
use Rattle.cg_blkdone.proofs.Lookups.{FoundAt, found_at}
use Rattle.cg_blkdone.proofs.Puts.{last_at}
use Rattle.cg_blkdone.proofs.SoundCompleted.{PutFits}
use Rattle.cg_blkdone.proofs.SoundNone.{is_none, none_by_both}
use Rattle.cg_blkdone.proofs.SoundTables.{fits_one_told, key_good}
use Rattle.cg_blkdone.proofs.Told.{found_told, told}
use Rattle.cg_done.specs.FullTop.{value_or}
use Rattle.cg_done.proofs.ReadTops.{none_in_both}
use Rattle.cg_done.proofs.SameLists.{read_at}

-- what is told at the key has the property, if anything is
abbrev pub At : List ℕ → (Data → Type 0) → Data → Type 0
At key P d = (e : Data) → get key d ≡ Some e → P e

-- of the members of a value nothing is found exactly where what it tells has a property
pub record Judges (P : Data → Type 0) (faults : List Member → List Finding) : Type 0 where
  pub none : faults [] ≡ []
  pub says : (t : Tree) → is_none (faults (members_of t)) ≡ true → P (told t)
  pub holds : (t : Tree) → P (told t) → is_none (faults (members_of t)) ≡ true

-- so it is of the object at a key
pub at_says : (P : Data → Type 0) (faults : List Member → List Finding) → Judges P faults → (key : List ℕ) (t : Tree)
    → is_none (faults (members_at key (members_of t))) ≡ true → At key P (told t)
at_says P faults judges key t none e there =
    let found : FoundAt key t e = found_at key t e there in
    let here = sym (read_at faults key (members_of t) judges.none ∙ ap (λ o. option_map_or (λ v. faults (members_of v)) o []) found.there) in
    subst P found.tells (judges.says found.value (ap is_none here ∙ none))

-- and the other way
pub at_holds : (P : Data → Type 0) (faults : List Member → List Finding) → Judges P faults → (key : List ℕ) (t : Tree) → At key P (told t)
    → is_none (faults (members_at key (members_of t))) ≡ true
at_holds P faults judges key t good = ap is_none (read_at faults key (members_of t) judges.none) ∙ by (value_at key (members_of t)) refl where
  by : (o : Option Tree) → value_at key (members_of t) ≡ o → is_none (option_map_or (λ v. faults (members_of v)) o []) ≡ true
  by None found = refl
  by (Some v) found = judges.holds v (good (told v) (sym (found_told key t) ∙ ap (option_map told) found))

-- ---- what completing puts

-- what is completed at a key, where it is there, has the property
pub part_stays : (full : Tree → Data) (P : Data → Type 0) (key : List ℕ) (t : Tree) (d : Data)
    → get key d ≡ or_else (option_map full (value_at key (members_of t))) (get key (told t))
    → ((v : Tree) → value_at key (members_of t) ≡ Some v → P (full v)) → At key P d
part_stays full P key t d stands good e there =
    by (value_at key (members_of t)) refl
    (sym (stands ∙ ap (or_else (option_map full (value_at key (members_of t)))) (sym (found_told key t)) ∙ completed_or_told full (value_at key (members_of t))) ∙ there) where
      by : (o : Option Tree) → value_at key (members_of t) ≡ o → option_map full o ≡ Some e → P e
      by None found same = absurd cc
      by (Some v) found same = subst P (ap (λ o. unwrap_or o e) same) (good v found)

-- what is there or by default has the property
pub value_stays : (default : Data) (P : Data → Type 0) (key : List ℕ) (t : Tree) (d : Data) → get key d ≡ Some (value_or default (value_at key (members_of t)))
    → P default → At key P (told t) → At key P d
value_stays default P key t d stands fine good e there =
    subst P (ap (λ o. unwrap_or o e) (sym stands ∙ there)) (by (value_at key (members_of t)) refl) where
      by : (o : Option Tree) → value_at key (members_of t) ≡ o → P (value_or default o)
      by None found = fine
      by (Some v) found = good (told v) (sym (found_told key t) ∙ ap (option_map told) found)

-- the value that is put at a row's key has one of its forms
pub put_is : (k : Key) (ps : List Pair) (o : Option Data) → last_at k.key ps ≡ o → PutFits k o → PutFits k (last_at k.key ps)
put_is k ps o is fit = subst (PutFits k) (sym is) fit

-- what is there or by default has one of the forms
pub value_fits : (k : Key) (default : Data) (t : Tree) → fits_one_told k.forms default ≡ true → key_good k (get k.key (told t)) ≡ true
    → fits_one_told k.forms (value_or default (value_at k.key (members_of t))) ≡ true
value_fits k default t fine row = by (value_at k.key (members_of t)) (ap (key_good k) (found_told k.key t) ∙ row) where
  by : (o : Option Tree) → key_good k (option_map told o) ≡ true → fits_one_told k.forms (value_or default o) ≡ true
  by None h = fine
  by (Some v) h = h

-- so has what is completed
pub part_fits : (k : Key) (full : Tree → Data) (o : Option Tree) → ((v : Tree) → o ≡ Some v → fits_one_told k.forms (full v) ≡ true) → PutFits k (option_map full o)
part_fits k full None fit = tt
part_fits k full (Some v) fit = fit v refl

-- what stands at a row's key has one of its forms
pub row_fits : (k : Key) (t v : Tree) → key_good k (get k.key (told t)) ≡ true → value_at k.key (members_of t) ≡ Some v → fits_one_told k.forms (told v) ≡ true
row_fits k t v row found = ap (key_good k) (ap (option_map told) (sym found) ∙ found_told k.key t) ∙ row

-- ---- one value after another

-- of completed values nothing is found where nothing is of the values
pub each_stays : (P : Tree → Type 0) (full : Tree → Data) (faults : Tree → List Finding)
    → ((t u : Tree) → P t → P u → told u ≡ full t → is_none (faults t) ≡ true → is_none (faults u) ≡ true)
    → (ts us : List Tree) → All P ts → All P us → map told us ≡ map full ts → is_none (flat_map faults ts) ≡ true → is_none (flat_map faults us) ≡ true
each_stays P full faults stays [] [] old new same none = refl
each_stays P full faults stays [] (u ∷ us) old new same none = absurd cc
each_stays P full faults stays (t ∷ ts) [] old new same none = absurd cc
each_stays P full faults stays (t ∷ ts) (u ∷ us) old new same none =
    let both = none_in_both (faults t) (flat_map faults ts) none in
    none_by_both (faults u) (flat_map faults us) true true
    (stays t u (All-head P t ts old) (All-head P u us new) (first_same _ _ _ _ same) both.0)
    (each_stays P full faults stays ts us (All-tail P t ts old) (All-tail P u us new) (rest_same _ _ _ _ same) both.1)
