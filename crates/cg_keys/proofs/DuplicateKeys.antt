-- The findings on keys that stand twice are exactly the violations.
use Rattle.std.proofs.Common.{◌≡◌, ℕ, suc, Bool, true, false, ◌||◌, cond, List, [], ◌∷◌, ◌++◌, map, inl, inr, refl, sym, ap, ◌∙◌, subst}
use Rattle.std.proofs.lemmas.List.{append_assoc, append-nil, map-append}
use Rattle.std.proofs.lemmas.Slice.Eq.{bytes_eq-Decides}
use Rattle.std.specs.Str.{bytes_eq}
use Rattle.cg_docspec.specs.Depth.{StandsAt, in_list, in_object, the_root}
use Rattle.cg_docspec.specs.Place.{Place}
use Rattle.cg_docspec.specs.Tree as document
use Rattle.cg_finding.specs.Finding.{Among, Finding, In, finding}
use Rattle.cg_finding.proofs.Members.{in_either, in_left, in_right, in_when, when_has}
use Rattle.cg_hjson.specs.Views.{tree_of}
use Rattle.cg_hjson.specs.declared.tree.Tree.{Tree}
use Rattle.cg_keys.specs.Duplicates.{at_of, duplicate_faults, is_key_among, kind_repeats, members_repeats, repeats, tree_repeats, trees_repeats}
use Rattle.cg_keys.specs.Violations.{DuplicateKey}

-- the values and the members as lists
abbrev tree_list : document.Trees → List document.Tree
tree_list document.no_trees = []
tree_list (document.tree_and t ts) = t ∷ tree_list ts

abbrev member_list : document.Members → List document.Member
member_list document.no_members = []
member_list (document.member_and key at value ms) = record { key = key; key_place = at; value = value } ∷ member_list ms

trees-tree_list : (ts : document.Trees) → document.trees (tree_list ts) ≡ ts
trees-tree_list document.no_trees = refl
trees-tree_list (document.tree_and t ts) = ap (document.tree_and t) (trees-tree_list ts)

members-member_list : (ms : document.Members) → document.members (member_list ms) ≡ ms
members-member_list document.no_members = refl
members-member_list (document.member_and key at value ms) = ap (document.member_and key at value) (members-member_list ms)

abbrev keys_of : List document.Member → List (List ℕ)
keys_of = map (λ m. m.key)

-- a member that has the key
record HasKey (ms : List document.Member) (key : List ℕ) : Type 0 where
  holder : document.Member
  among : Among holder ms
  same : holder.key ≡ key

has_key_by : (m : document.Member) (ms : List document.Member) (key : List ℕ) (here : Bool) → bytes_eq m.key key ≡ here
    → (here || is_key_among (keys_of ms) key) ≡ true → (is_key_among (keys_of ms) key ≡ true → HasKey ms key) → HasKey (m ∷ ms) key
has_key_by m ms key true is known rest = record { holder = m; among = inl refl; same = (bytes_eq-Decides m.key key).0 is }
has_key_by m ms key false is known rest = let later = rest known in record { holder = later.holder; among = inr later.among; same = later.same }

-- where the key is among those of the members, a member has it
has_key : (ms : List document.Member) (key : List ℕ) → is_key_among (keys_of ms) key ≡ true → HasKey ms key
has_key [] key known = cc
has_key (m ∷ ms) key known = has_key_by m ms key (bytes_eq m.key key) refl known (has_key ms key)

or_true : (b : Bool) → (b || true) ≡ true
or_true true = refl
or_true false = refl

-- and the reverse
key_is_among : (before : List (List ℕ)) (ms : List document.Member) (m : document.Member) (key : List ℕ) → Among m ms → m.key ≡ key
    → is_key_among (before ++ keys_of ms) key ≡ true
key_is_among [] [] m key none same = absurd none
key_is_among [] (n ∷ ms) m key (inl is) same =
    ap (λ b. b || is_key_among (keys_of ms) key) ((bytes_eq-Decides n.key key).1 (ap (λ (x : document.Member). x.key) (sym is) ∙ same))
key_is_among [] (n ∷ ms) m key (inr later) same = ap (λ b. bytes_eq n.key key || b) (key_is_among [] ms m key later same) ∙ or_true (bytes_eq n.key key)
key_is_among (k ∷ before) ms m key among same = ap (λ b. bytes_eq k key || b) (key_is_among before ms m key among same) ∙ or_true (bytes_eq k key)

-- a repeat in an object of the document is a violation
own_repeat : (root : Tree) (d : ℕ) (at : Place) (before : List document.Member) (ms : document.Members) (f : Finding)
    → StandsAt (tree_of root) d (document.object_of (before ++ member_list ms) at) → In f (repeats (keys_of before) ms) → DuplicateKey root f
unfolding repeats
own_repeat root d at before document.no_members f stands none = absurd none
own_repeat root d at before (document.member_and key place value ms) f stands among =
    let later : document.Member = record { key = key; key_place = place; value = value } in
    elim (in_either f (cond (is_key_among (keys_of before) key) (finding 2 20 (at_of place) key ∷ []) []) (repeats (keys_of before ++ key ∷ []) ms) among) [
      | inl here ↦ let when = in_when (is_key_among (keys_of before) key) f (finding 2 20 (at_of place) key) here in
          let known = has_key before key when.0 in
          record {
            depth = d;
            opener = at;
            before = before;
            later = later;
            after = member_list ms;
            stands = stands;
            earlier = known.holder;
            among = known.among;
            same = known.same;
            says = when.1;
          }
      | inr behind ↦ own_repeat root d at (before ++ later ∷ []) ms f
          (subst (λ all. StandsAt (tree_of root) d (document.object_of all at)) (sym (append_assoc before (later ∷ []) (member_list ms))) stands)
          (subst (λ keys. In f (repeats keys ms)) (sym (map-append (λ (m : document.Member). m.key) before (later ∷ []))) behind)
    ]

mutual
  unfolding tree_repeats kind_repeats trees_repeats members_repeats

  -- each repeat below a value of the document is a violation
  tree_repeat : (root : Tree) (d : ℕ) (t : document.Tree) (f : Finding) → StandsAt (tree_of root) d t → In f (tree_repeats t) → DuplicateKey root f
  tree_repeat root d (document.tree kind at) f stands among = kind_repeat root d kind at f stands among

  kind_repeat : (root : Tree) (d : ℕ) (kind : document.Kind) (at : Place) (f : Finding) → StandsAt (tree_of root) d (document.tree kind at) → In f (kind_repeats kind) → DuplicateKey root f
  kind_repeat root d document.null at f stands none = absurd none
  kind_repeat root d (document.boolean b) at f stands none = absurd none
  kind_repeat root d (document.integer n) at f stands none = absurd none
  kind_repeat root d (document.string u) at f stands none = absurd none
  kind_repeat root d (document.array ts) at f stands among =
      trees_repeat root d at [] ts f (subst (λ us. StandsAt (tree_of root) d (document.tree (document.array us) at)) (sym (trees-tree_list ts)) stands) among
  kind_repeat root d (document.object ms) at f stands among =
      let whole = subst (λ ns. StandsAt (tree_of root) d (document.tree (document.object ns) at)) (sym (members-member_list ms)) stands in
      elim (in_either f (repeats [] ms) (members_repeats ms) among) [
        | inl own ↦ own_repeat root d at [] ms f whole own
        | inr below ↦ members_repeat root d at [] ms f whole below
      ]

  trees_repeat : (root : Tree) (d : ℕ) (at : Place) (before : List document.Tree) (ts : document.Trees) (f : Finding)
      → StandsAt (tree_of root) d (document.list_of (before ++ tree_list ts) at) → In f (trees_repeats ts) → DuplicateKey root f
  trees_repeat root d at before document.no_trees f stands none = absurd none
  trees_repeat root d at before (document.tree_and t ts) f stands among =
      elim (in_either f (tree_repeats t) (trees_repeats ts) among) [
        | inl here ↦ tree_repeat root (suc d) t f (in_list before (tree_list ts) stands) here
        | inr later ↦ trees_repeat root d at (before ++ t ∷ []) ts f
            (subst (λ all. StandsAt (tree_of root) d (document.list_of all at)) (sym (append_assoc before (t ∷ []) (tree_list ts))) stands) later
      ]

  members_repeat : (root : Tree) (d : ℕ) (at : Place) (before : List document.Member) (ms : document.Members) (f : Finding)
      → StandsAt (tree_of root) d (document.object_of (before ++ member_list ms) at) → In f (members_repeats ms) → DuplicateKey root f
  members_repeat root d at before document.no_members f stands none = absurd none
  members_repeat root d at before (document.member_and key place value ms) f stands among =
      let here : document.Member = record { key = key; key_place = place; value = value } in
      elim (in_either f (tree_repeats value) (members_repeats ms) among) [
        | inl inside ↦ tree_repeat root (suc d) value f (in_object key place before (member_list ms) stands) inside
        | inr later ↦ members_repeat root d at (before ++ here ∷ []) ms f
            (subst (λ all. StandsAt (tree_of root) d (document.object_of all at)) (sym (append_assoc before (here ∷ []) (member_list ms))) stands) later
      ]

-- each finding on keys that stand twice is a violation
pub in_duplicate_faults : (root : Tree) (f : Finding) → In f (duplicate_faults root) → DuplicateKey root f
unfolding duplicate_faults
in_duplicate_faults root f among = tree_repeat root 1 (tree_of root) f the_root among

-- what is broken below one of some values is broken below them
trees_have : (before after : List document.Tree) (t : document.Tree) (f : Finding) → In f (tree_repeats t) → In f (trees_repeats (document.trees (before ++ t ∷ after)))
unfolding trees_repeats
trees_have [] after t f among = in_left f (tree_repeats t) (trees_repeats (document.trees after)) among
trees_have (u ∷ before) after t f among = in_right f (tree_repeats u) (trees_repeats (document.trees (before ++ t ∷ after))) (trees_have before after t f among)

members_have : (before after : List document.Member) (m : document.Member) (f : Finding) → In f (tree_repeats m.value)
    → In f (members_repeats (document.members (before ++ m ∷ after)))
unfolding members_repeats
members_have [] after m f among = in_left f (tree_repeats m.value) (members_repeats (document.members after)) among
members_have (n ∷ before) after m f among =
    in_right f (tree_repeats n.value) (members_repeats (document.members (before ++ m ∷ after))) (members_have before after m f among)

-- what is broken below a part of a tree is broken below the tree
root_has : (root : document.Tree) (f : Finding) {d : ℕ} {t : document.Tree} → StandsAt root d t → In f (tree_repeats t) → In f (tree_repeats root)
unfolding tree_repeats kind_repeats
root_has root f the_root among = among
root_has root f (in_list {d} {at} {t} before after stands) among =
    root_has root f stands (trees_have before after t f among)
root_has root f (in_object {d} {at} {t} key place before after stands) among =
    let here : document.Member = record { key = key; key_place = place; value = t } in
    root_has root f stands
    (in_right f (repeats [] (document.members (before ++ here ∷ after))) _ (members_have before after here f among))

-- a key that stands before in its object is a repeat, where `known` are the keys before these members
repeats_have : (known : List (List ℕ)) (front after : List document.Member) (m : document.Member) (f : Finding)
    → is_key_among (known ++ keys_of front) m.key ≡ true → f ≡ finding 2 20 (at_of m.key_place) m.key → In f (repeats known (document.members (front ++ m ∷ after)))
unfolding repeats
repeats_have known [] after m f among says =
    in_left f _ (repeats (known ++ m.key ∷ []) (document.members after))
    (when_has (is_key_among known m.key) f (finding 2 20 (at_of m.key_place) m.key) (ap (λ keys. is_key_among keys m.key) (sym (append-nil known)) ∙ among) says)
repeats_have known (n ∷ front) after m f among says =
    in_right f _ (repeats (known ++ n.key ∷ []) (document.members (front ++ m ∷ after)))
    (repeats_have (known ++ n.key ∷ []) front after m f (ap (λ keys. is_key_among keys m.key) (append_assoc known (n.key ∷ []) (keys_of front)) ∙ among) says)

-- each violation is a finding
pub duplicate_faults_has : (root : Tree) (f : Finding) → DuplicateKey root f → In f (duplicate_faults root)
unfolding duplicate_faults tree_repeats kind_repeats
duplicate_faults_has root f b =
    root_has (tree_of root) f b.stands
    (in_left f (repeats [] (document.members (b.before ++ b.later ∷ b.after))) _
    (repeats_have [] b.before b.after b.later f (key_is_among [] b.before b.earlier b.later.key b.among b.same) b.says))
