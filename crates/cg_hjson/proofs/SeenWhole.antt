-- The view of a tree loses nothing: a tree can be made again from what it stands for. And every tree of the grammar is one that a value of
-- the program stands for.
use Rattle.std.proofs.Common.{◌≡◌, ℕ, List, [], ◌∷◌, map, refl, sym, ap, ◌∙◌, subst}
use Rattle.cg_docspec.specs.Place.{Place}
use Rattle.cg_docspec.specs.Tree as document
use Rattle.cg_desc.specs.declared.place.At.{At}
use Rattle.cg_hjson.specs.Views.{kind_of, member_of, tree_of, trees_of, members_of}
use Rattle.cg_hjson.specs.declared.tree.Kind.{Kind, map-Kind, roll-Kind}
use Rattle.cg_hjson.specs.declared.tree.Kind.TheFolds.{ind-Tree}
use Rattle.cg_hjson.specs.declared.tree.Kind.TheOpen as level
use Rattle.cg_hjson.specs.declared.tree.Kind.TheVariants as form
use Rattle.cg_hjson.specs.declared.tree.Member.{Member, roll-Member}
use Rattle.cg_hjson.specs.declared.tree.Tree.{Tree, roll-Tree}
use Rattle.cg_hjson.proofs.Views.{of-Member, of-Tree, of-Null, of-Bool, of-Int, of-Str, of-Array, of-Object}

at_of : Place → At
at_of p = record { byte = p.byte; line = p.line; column = p.column }

mutual
  tree_back : document.Tree → Tree
  tree_back (document.tree kind at) = roll-Tree (record { kind = kind_back kind; at = at_of at })

  kind_back : document.Kind → Kind
  kind_back document.null = form.Null
  kind_back (document.boolean b) = form.Bool b
  kind_back (document.integer n) = form.Int n
  kind_back (document.string u) = form.Str u
  kind_back (document.array ts) = form.Array (trees_back ts)
  kind_back (document.object ms) = form.Object (members_back ms)

  trees_back : document.Trees → List Tree
  trees_back document.no_trees = []
  trees_back (document.tree_and t ts) = tree_back t ∷ trees_back ts

  members_back : document.Members → List Member
  members_back document.no_members = []
  members_back (document.member_and key at value ms) = roll-Member (record { key = key; key_at = at_of at; value = tree_back value }) ∷ members_back ms

member_back : document.Member → Member
member_back m = roll-Member (record { key = m.key; key_at = at_of m.key_place; value = tree_back m.value })

abbrev KindIsBack : Kind → Type 0
KindIsBack k = kind_back (kind_of k) ≡ k

abbrev MemberIsBack : Member → Type 0
MemberIsBack m = member_back (member_of m) ≡ m

abbrev TreeIsBack : Tree → Type 0
TreeIsBack t = tree_back (tree_of t) ≡ t

-- a part with a proof that it comes back
abbrev Kinds : Type 0
Kinds = (k : Kind) × KindIsBack k

abbrev MembersBack : Type 0
MembersBack = (m : Member) × MemberIsBack m

abbrev TreesBack : Type 0
TreesBack = (t : Tree) × TreeIsBack t

trees_are : (ts : List TreesBack) → trees_back (document.trees (trees_of (map (λ e. e.0) ts))) ≡ map (λ e. e.0) ts
unfolding trees_back
trees_are [] = refl
trees_are (t ∷ ts) = (λ i. t.1 i ∷ trees_are ts i)

members_are : (ms : List MembersBack) → members_back (document.members (members_of (map (λ e. e.0) ms))) ≡ map (λ e. e.0) ms
unfolding members_back member_back
members_are [] = refl
members_are (m ∷ ms) = (λ i. m.1 i ∷ members_are ms i)

kind_step : (y : level.Kind-F Kinds MembersBack TreesBack) → KindIsBack (roll-Kind (map-Kind Kinds MembersBack TreesBack Kind Member Tree (λ e. e.0) (λ e. e.0) (λ e. e.0) y))
unfolding kind_back
kind_step level.Null = ap (λ k. kind_back (kind_of k)) form.rolls-Null ∙ ap kind_back of-Null ∙ sym form.rolls-Null
kind_step (level.Bool b) = ap (λ k. kind_back (kind_of k)) (form.rolls-Bool b) ∙ ap kind_back (of-Bool b) ∙ sym (form.rolls-Bool b)
kind_step (level.Int n) = ap (λ k. kind_back (kind_of k)) (form.rolls-Int n) ∙ ap kind_back (of-Int n) ∙ sym (form.rolls-Int n)
kind_step (level.Str u) = ap (λ k. kind_back (kind_of k)) (form.rolls-Str u) ∙ ap kind_back (of-Str u) ∙ sym (form.rolls-Str u)
kind_step (level.Array ts) =
    let us = map (λ e. e.0) ts in
    ap (λ k. kind_back (kind_of k)) (form.rolls-Array us) ∙ ap kind_back (of-Array us) ∙ ap form.Array (trees_are ts) ∙ sym (form.rolls-Array us)
kind_step (level.Object ms) =
    let ns = map (λ e. e.0) ms in
    ap (λ k. kind_back (kind_of k)) (form.rolls-Object ns) ∙ ap kind_back (of-Object ns) ∙ ap form.Object (members_are ms) ∙ sym (form.rolls-Object ns)

member_step : (key : List ℕ) (at : At) (value : TreesBack) → MemberIsBack (roll-Member (record { key = key; key_at = at; value = value.0 }))
unfolding member_back at_of tree_of
member_step key at value =
    ap member_back (of-Member key at value.0) ∙ ap (λ v. roll-Member (record { key = key; key_at = at; value = v })) value.1

tree_step : (kind : Kinds) (at : At) → TreeIsBack (roll-Tree (record { kind = kind.0; at = at }))
unfolding tree_back kind_of at_of
tree_step kind at = ap tree_back (of-Tree kind.0 at) ∙ ap (λ k. roll-Tree (record { kind = k; at = at })) kind.1

whole : (t : Tree) → TreeIsBack t
whole = ind-Tree KindIsBack MemberIsBack TreeIsBack
    (λ x y is. subst (λ z. KindIsBack (roll-Kind z)) is (kind_step y))
    (λ x y is. subst (λ z. MemberIsBack (roll-Member z)) is (member_step y.key y.key_at y.value))
    (λ x y is. subst (λ z. TreeIsBack (roll-Tree z)) is (tree_step y.kind y.at))

-- trees that stand for the same are the same
pub seen_alike : (t u : Tree) → tree_of t ≡ tree_of u → t ≡ u
seen_alike t u same = sym (whole t) ∙ ap tree_back same ∙ whole u

-- what is made of a tree of the grammar stands for it
mutual
  unfolding tree_back kind_back trees_back members_back at_of

  is_seen : (d : document.Tree) → tree_of (tree_back d) ≡ d
  is_seen (document.tree kind at) = of-Tree (kind_back kind) (at_of at) ∙ ap (λ k. document.tree k at) (kind_is_seen kind)

  kind_is_seen : (k : document.Kind) → kind_of (kind_back k) ≡ k
  kind_is_seen document.null = of-Null
  kind_is_seen (document.boolean b) = of-Bool b
  kind_is_seen (document.integer n) = of-Int n
  kind_is_seen (document.string u) = of-Str u
  kind_is_seen (document.array ts) = of-Array (trees_back ts) ∙ ap document.array (trees_are_seen ts)
  kind_is_seen (document.object ms) = of-Object (members_back ms) ∙ ap document.object (members_are_seen ms)

  trees_are_seen : (ts : document.Trees) → document.trees (trees_of (trees_back ts)) ≡ ts
  trees_are_seen document.no_trees = refl
  trees_are_seen (document.tree_and t ts) = λ i. document.tree_and (is_seen t i) (trees_are_seen ts i)

  members_are_seen : (ms : document.Members) → document.members (members_of (members_back ms)) ≡ ms
  members_are_seen document.no_members = refl
  members_are_seen (document.member_and key at value ms) =
      ap (λ m. document.members (m ∷ members_of (members_back ms))) (of-Member key (at_of at) (tree_back value))
      ∙ (λ i. document.member_and key at (is_seen value i) (members_are_seen ms i))

-- a value of the program that stands for the tree
pub seen : (d : document.Tree) → (t : Tree) × (tree_of t ≡ d)
seen d = (tree_back d, is_seen d)
