-- The view of a tree at each of its forms.
use Rattle.std.proofs.Common.{◌≡◌, ℕ, ℤ, Bool, List, ◌∙◌, ap, sym}
use Rattle.cg_docspec.specs.Tree as document
use Rattle.cg_desc.specs.declared.place.At.{At}
use Rattle.cg_hjson.specs.Views.{member, place_of, kind_of, member_of, tree_of, trees_of, members_of, kind_level, member_level, tree_level}
use Rattle.cg_hjson.specs.declared.tree.Kind.{Kind, map-Kind, roll-Kind}
use Rattle.cg_hjson.specs.declared.tree.Kind.TheFolds as folds
use Rattle.cg_hjson.specs.declared.tree.Kind.TheOpen as level
use Rattle.cg_hjson.specs.declared.tree.Kind.TheVariants as form
use Rattle.cg_hjson.specs.declared.tree.Member.{Member, roll-Member, out-Member, fold_out-Member}
use Rattle.cg_hjson.specs.declared.tree.Tree.{Tree, roll-Tree, out-Tree, fold_out-Tree}

-- the view of a kind goes down one level
one_level : (x : level.Kind-F Kind Member Tree) → kind_of (roll-Kind x) ≡ kind_level (map-Kind Kind Member Tree document.Kind document.Member document.Tree kind_of member_of tree_of x)
unfolding kind_of member_of tree_of
one_level x = folds.fold-roll-Kind document.Kind document.Member document.Tree kind_level member_level tree_level x

-- what a member stands for
pub of-Member : (key : List ℕ) (key_at : At) (value : Tree) →
    member_of (roll-Member (record { key = key; key_at = key_at; value = value })) ≡ member key (place_of key_at) (tree_of value)
unfolding kind_of member_of tree_of
of-Member key key_at value =
    folds.fold-roll-Member document.Kind document.Member document.Tree kind_level member_level tree_level (record { key = key; key_at = key_at; value = value })

-- what a value stands for
pub of-Tree : (kind : Kind) (at : At) → tree_of (roll-Tree (record { kind = kind; at = at })) ≡ document.tree (kind_of kind) (place_of at)
unfolding kind_of member_of tree_of
of-Tree kind at = folds.fold-roll-Tree document.Kind document.Member document.Tree kind_level member_level tree_level (record { kind = kind; at = at })

-- what each kind stands for
pub of-Null : kind_of form.Null ≡ document.null
of-Null = ap kind_of (sym form.rolls-Null) ∙ one_level level.Null

pub of-Bool : (b : Bool) → kind_of (form.Bool b) ≡ document.boolean b
of-Bool b = ap kind_of (sym (form.rolls-Bool b)) ∙ one_level (level.Bool b)

pub of-Int : (n : ℤ) → kind_of (form.Int n) ≡ document.integer n
of-Int n = ap kind_of (sym (form.rolls-Int n)) ∙ one_level (level.Int n)

pub of-Str : (u : List ℕ) → kind_of (form.Str u) ≡ document.string u
of-Str u = ap kind_of (sym (form.rolls-Str u)) ∙ one_level (level.Str u)

pub of-Array : (ts : List Tree) → kind_of (form.Array ts) ≡ document.array (document.trees (trees_of ts))
of-Array ts = ap kind_of (sym (form.rolls-Array ts)) ∙ one_level (level.Array ts)

pub of-Object : (ms : List Member) → kind_of (form.Object ms) ≡ document.object (document.members (members_of ms))
of-Object ms = ap kind_of (sym (form.rolls-Object ms)) ∙ one_level (level.Object ms)

-- all of these
pub ruleset views = (of-Member, of-Tree, of-Null, of-Bool, of-Int, of-Str, of-Array, of-Object)

-- what a value and a member stand for, by their parts
pub tree-out : (t : Tree) → tree_of t ≡ document.tree (kind_of (out-Tree t).kind) (place_of (out-Tree t).at)
unfolding kind_of member_of tree_of
tree-out t = fold_out-Tree document.Kind document.Member document.Tree kind_level member_level tree_level t

pub member-out : (m : Member) → member_of m ≡ member (out-Member m).key (place_of (out-Member m).key_at) (tree_of (out-Member m).value)
unfolding kind_of member_of tree_of
member-out m = fold_out-Member document.Kind document.Member document.Tree kind_level member_level tree_level m

-- both of these
pub ruleset parts = (tree-out, member-out)
