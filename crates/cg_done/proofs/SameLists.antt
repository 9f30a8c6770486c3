-- What is read of names, sources and lists, by the JSON values that they tell.
use Rattle.std.proofs.Common.{◌≡◌, ℕ, List, [], ◌∷◌, map, Option, Some, None, option_map, option_and_then, unwrap_or, codes, refl, sym, ap, ◌∙◌}
use Rattle.std.specs.Option.{option_map_or}
use Rattle.std.specs.Prelude.{All}
use Rattle.std.proofs.lemmas.List.Elements.{All-head, All-tail}
use Rattle.serde_json.specs.Data.{Data}
use Rattle.serde_json.specs.Find.{as_str, get}
use Rattle.cg_desc.specs.declared.top.NamePair.{NamePair}
use Rattle.cg_hjson.specs.declared.tree.Member.{Member}
use Rattle.cg_hjson.specs.declared.tree.Tree.{Tree}
use Rattle.cg_keys.specs.Elements.{elements}
use Rattle.cg_keys.specs.Forms.{or_else}
use Rattle.cg_keys.specs.Lookups.{object_at}
use Rattle.cg_keys.specs.Table.{value_at}
use Rattle.cg_keys.specs.Values.{members_of, object_in, or_empty}
use Rattle.cg_topread.specs.Described.{name_in, names_at, pair_of, pairs_of, source_in, text_or_empty}
use Rattle.cg_topread.specs.InOrder.{Entries, by_keys, put_all}
use Rattle.cg_topread.specs.Listed.{members_at}
use Rattle.cg_blkdone.specs.Full.{list_of}
use Rattle.cg_blkdone.proofs.Completion.{HasAt}
use Rattle.cg_blkdone.proofs.EachMember.{SameBy, completed_or_told}
use Rattle.cg_blkdone.proofs.FieldLists.{first_same, listed_items, rest_same}
use Rattle.cg_blkdone.proofs.Lookups.{elements_told, items_told_at, text_at_told}
use Rattle.cg_blkdone.proofs.SoundTables.{by_value_at}
use Rattle.cg_blkdone.proofs.Told.{found_told, text_told, told}
use Rattle.cg_done.specs.FullTop.{no_ports, value_or}
use Rattle.cg_done.proofs.ByKeys.{by_keys_told, entries_of, shown}

-- ---- one value after another

-- what is the same of values with a property and of their completions is the same in lists
pub pairwise_if : {X : Type 0} (P : Tree → Type 0) (full : Tree → Data) (f : Tree → X) → ((t u : Tree) → P t → P u → told u ≡ full t → f u ≡ f t)
    → (ts us : List Tree) → All P ts → All P us → map told us ≡ map full ts → map f us ≡ map f ts
pairwise_if P full f same [] [] old new done = refl
pairwise_if P full f same [] (u ∷ us) old new done = absurd cc
pairwise_if P full f same (t ∷ ts) [] old new done = absurd cc
pairwise_if P full f same (t ∷ ts) (u ∷ us) old new done =
    let one = same t u (All-head P t ts old) (All-head P u us new) (first_same _ _ _ _ done) in
    let more = pairwise_if P full f same ts us (All-tail P t ts old) (All-tail P u us new) (rest_same _ _ _ _ done) in
    λ i. one i ∷ more i

-- a completed list tells its completed elements
pub list_has : (key : List ℕ) (u : Tree) (ds : List Data) → HasAt key u (list_of ds) → map told (elements key (members_of u)) ≡ ds
list_has key u ds has = elements_told key u ∙ ap items_told_at has ∙ listed_items ds

-- ---- what may be missing

-- a value that is completed where it is there
pub same_by : (full : Tree → Data) (key : List ℕ) (t u : Tree) → get key (told u) ≡ or_else (option_map full (value_at key (members_of t))) (get key (told t))
    → SameBy full (value_at key (members_of t)) (value_at key (members_of u))
same_by full key t u there =
    found_told key u ∙ there ∙ ap (or_else (option_map full (value_at key (members_of t)))) (sym (found_told key t))
    ∙ completed_or_told full (value_at key (members_of t))

-- what is the same of a value and of its completion is the same where they may be missing
pub alike_if : {X : Type 0} (full : Tree → Data) (f : Tree → X) (z : X) (o p : Option Tree) → SameBy full o p
    → ((v w : Tree) → o ≡ Some v → p ≡ Some w → told w ≡ full v → f w ≡ f v) → option_map_or f p z ≡ option_map_or f o z
alike_if full f z None None same alike = refl
alike_if full f z None (Some w) same alike = absurd cc
alike_if full f z (Some v) None same alike = absurd cc
alike_if full f z (Some v) (Some w) same alike = alike v w refl refl (ap (λ o. unwrap_or o (told w)) same)

-- the completed value is the same
pub full_if : (full : Tree → Data) (o p : Option Tree) → SameBy full o p → ((v w : Tree) → o ≡ Some v → p ≡ Some w → told w ≡ full v → full w ≡ full v)
    → option_map full p ≡ option_map full o
full_if full None None same alike = refl
full_if full None (Some w) same alike = absurd cc
full_if full (Some v) None same alike = absurd cc
full_if full (Some v) (Some w) same alike = ap Some (alike v w refl refl (ap (λ o. unwrap_or o (told w)) same))

told_or : (default : Data) (o : Option Tree) → value_or default o ≡ unwrap_or (option_map told o) default
told_or default None = refl
told_or default (Some v) = refl

-- a value that is there or by default stays so
pub value_again : (default : Data) (key : List ℕ) (t u : Tree) → HasAt key u (value_or default (value_at key (members_of t)))
    → value_or default (value_at key (members_of u)) ≡ value_or default (value_at key (members_of t))
value_again default key t u has = told_or default (value_at key (members_of u)) ∙ ap (λ o. unwrap_or o default) (found_told key u ∙ has)

-- ---- members of the object at a key

-- what is read of the object at a key
pub read_at : {X : Type 0} (f : List Member → List X) (key : List ℕ) (ms : List Member) → f [] ≡ []
    → f (members_at key ms) ≡ option_map_or (λ v. f (members_of v)) (value_at key ms) []
unfolding members_at object_at
read_at f key ms none = by (value_at key ms) where
  by : (o : Option Tree) → f (or_empty (option_and_then object_in o)) ≡ option_map_or (λ v. f (members_of v)) o []
  by None = none
  by (Some v) = refl

-- ---- names

-- the name that a JSON value has
abbrev pub name_told : Data → List ℕ
name_told d = unwrap_or (option_and_then as_str (get (codes "name") d)) []

-- the name of a value
pub name_by_told : (t : Tree) → name_in t ≡ name_told (told t)
unfolding name_in text_or_empty
name_by_told t = ap (λ o. unwrap_or o []) (text_at_told (codes "name") t)

names_of_all : (ts : List Tree) → map name_in ts ≡ map name_told (map told ts)
names_of_all [] = refl
names_of_all (t ∷ ts) = λ i. name_by_told t i ∷ names_of_all ts i

-- the names in a list at a key
pub names_by_told : (key : List ℕ) (t : Tree) → names_at key (members_of t) ≡ map name_told (items_told_at (get key (told t)))
unfolding names_at
names_by_told key t = names_of_all (elements key (members_of t)) ∙ ap (map name_told) (elements_told key t)

pub no_names : (key : List ℕ) → names_at key [] ≡ []
unfolding names_at elements value_at
no_names key = refl

-- ---- sources

abbrev source_told : List ℕ → Data → List ℕ
source_told key d = unwrap_or (or_else (as_str d) (option_and_then as_str (get key d))) []

source_by_told : (key : List ℕ) (t : Tree) → source_in key t ≡ source_told key (told t)
unfolding source_in
source_by_told key t = λ i. unwrap_or (or_else (text_told t i) (text_at_told key t i)) []

abbrev pair_told : List ℕ → List ℕ × Data → NamePair
pair_told key e = record { port = e.0; source = source_told key e.1 }

-- the ports with their sources that a JSON value tells
abbrev pub pairs_told : List ℕ → Data → List NamePair
pairs_told key d = map (pair_told key) (entries_of d)

pairs_of_all : (key : List ℕ) (es : Entries) → map (pair_of key) es ≡ map (pair_told key) (shown told es)
pairs_of_all key [] = refl
pairs_of_all key (e ∷ es) = λ i. record { port = e.0; source = source_by_told key e.1 i } ∷ pairs_of_all key es i

-- the ports with their sources of an object
pub pairs_by_told : (key : List ℕ) (t : Tree) → pairs_of key (members_of t) ≡ pairs_told key (told t)
unfolding pairs_of
pairs_by_told key t = pairs_of_all key (by_keys (members_of t)) ∙ ap (map (pair_told key)) (by_keys_told t)

no_pairs : (key : List ℕ) → pairs_of key [] ≡ []
unfolding pairs_of by_keys put_all
no_pairs key = refl

-- the ports with their sources of the object at a key
pairs_at : (key name : List ℕ) (t : Tree) → pairs_of key (members_at name (members_of t)) ≡ option_map_or (pairs_told key) (get name (told t)) []
pairs_at key name t =
    read_at (pairs_of key) name (members_of t) (no_pairs key)
    ∙ by_value_at (λ v. pairs_of key (members_of v)) (pairs_told key) [] (pairs_by_told key) name t

-- sources that are there, or none by default
pub same_pairs : (key name : List ℕ) (t u : Tree) → HasAt name u (value_or no_ports (value_at name (members_of t)))
    → pairs_of key (members_at name (members_of u)) ≡ pairs_of key (members_at name (members_of t))
same_pairs key name t u has =
    pairs_at key name u ∙ ap (λ o. option_map_or (pairs_told key) o []) has ∙ by (value_at name (members_of t))
    ∙ ap (λ o. option_map_or (pairs_told key) o []) (found_told name t) ∙ sym (pairs_at key name t) where
      by : (o : Option Tree) → pairs_told key (value_or no_ports o) ≡ option_map_or (pairs_told key) (option_map told o) []
      by None = refl
      by (Some v) = refl
