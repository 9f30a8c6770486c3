-- The loops over the parts of a list.
use Rattle.std.proofs.Common.{◌≡◌, ℕ, ◌+◌, ◌<◌, ◌≤◌, List, [], ◌∷◌, ◌++◌, map, length, get_or, drop, drop-cons, add-one, ◌⊎◌, inl, inr, refl, sym, ap, ◌∙◌, Option}
use Rattle.std.proofs.lemmas.List.{append-nil, append_assoc, map-append, drop_all}
use Rattle.serde_json.specs.Data.{Data}
use Rattle.serde_json.specs.View.{view, items_view, items_of}
use Rattle.serde_json.specs.declared.value.Value.{Value}
use Rattle.cg_hjson.specs.declared.tree.Tree.{Tree}
use Rattle.cg_hjson.specs.declared.tree.Member.{Member}
use Rattle.cg_blkread.specs.declared.raw.RawField.{RawField}
use Rattle.cg_blkdone.specs.Full.{field_pairs, pair, said_with, with_all}
use Rattle.cg_blkdone.specs.Parts.{each_pair, fields_with}
use Rattle.cg_blkdone.proofs.InTurn.{with_first}

-- one part more of a list
pub one_more : (f : Tree → Data) (xs : List Tree) (i : ℕ) (t : Tree) (vs ws : List Value) (v : Value) → i < length xs → t ≡ get_or xs i t
    → map view vs ++ map f (drop i xs) ≡ map f xs → ws ≡ vs ++ v ∷ [] → view v ≡ f t
    → map view ws ++ map f (drop (i + 1) xs) ≡ map f xs
one_more f xs i t vs ws v lt is before added value =
    let here : map f (drop i xs) ≡ f t ∷ map f (drop (i + 1) xs) = ap (map f) (drop-cons xs i t lt) ∙ rw (← is, add-one) refl in
    rw (added, map-append, append_assoc, value, ← here) before

-- all parts of a list
pub all_done : (f : Tree → Data) (xs : List Tree) (i : ℕ) (vs : List Value) → length xs ≤ i → map view vs ++ map f (drop i xs) ≡ map f xs
    → items_view vs ≡ items_of (map f xs)
all_done f xs i vs over before = let all : map view vs ≡ map f xs = rw (drop_all, append-nil) at before in ap items_of all

-- one field more, of those that are left
pub one_more_field : (reset : Option ℕ) (vs ws : List Value) (v : Value) (f : RawField) (t : Tree) (fs gs : List RawField) (ts us : List Tree) (all : List Data)
    → fs ≡ f ∷ gs → ts ≡ t ∷ us → map view vs ++ fields_with reset fs ts ≡ all → ws ≡ vs ++ v ∷ [] → view v ≡ said_with (field_pairs reset f) t
    → map view ws ++ fields_with reset gs us ≡ all
unfolding fields_with
one_more_field reset vs ws v f t fs gs ts us all left left_trees before added value =
    let here : fields_with reset fs ts ≡ said_with (field_pairs reset f) t ∷ fields_with reset gs us = rw (left, left_trees) refl in
    rw (added, map-append, append_assoc, value, ← here) before

-- no field is left, or no tree
fields_end : (reset : Option ℕ) (fs : List RawField) (ts : List Tree) → (fs ≡ []) ⊎ (ts ≡ []) → fields_with reset fs ts ≡ []
unfolding fields_with
fields_end reset fs ts (inl none) = rw none refl
fields_end reset [] ts (inr none) = refl
fields_end reset (f ∷ fs) ts (inr none) = rw none refl

-- all fields of a register
pub fields_done : (reset : Option ℕ) (vs : List Value) (fs : List RawField) (ts : List Tree) (all : List Data) → (fs ≡ []) ⊎ (ts ≡ [])
    → map view vs ++ fields_with reset fs ts ≡ all → items_view vs ≡ items_of all
fields_done reset vs fs ts all end before =
    let whole : map view vs ≡ all = sym (append-nil (map view vs)) ∙ ap (λ (l : List Data). map view vs ++ l) (sym (fields_end reset fs ts end)) ∙ before in
    ap items_of whole

-- the completed value of one member more
pub one_more_value : (full : Tree → Data) (xs : List Member) (i : ℕ) (m : Member) (before now part whole : Data) → i < length xs → m ≡ get_or xs i m
    → now ≡ with_all (pair m.key part ∷ []) before → part ≡ full m.value → with_all (each_pair full (drop i xs)) before ≡ whole
    → with_all (each_pair full (drop (i + 1) xs)) now ≡ whole
one_more_value full xs i m before now part whole lt is put value left =
    let here : each_pair full (drop i xs) ≡ pair m.key (full m.value) ∷ each_pair full (drop (i + 1) xs) =
    ap (each_pair full) (drop-cons xs i m lt) ∙ rw (← is, add-one) refl in
    rw (put, value, ← with_first (pair m.key (full m.value)) (each_pair full (drop (i + 1) xs)) before, ← here) left

-- the completed values of all members
pub values_done : (full : Tree → Data) (xs : List Member) (i : ℕ) (now whole : Data) → length xs ≤ i → with_all (each_pair full (drop i xs)) now ≡ whole → with_all [] now ≡ whole
values_done full xs i now whole over left = rw drop_all at left
