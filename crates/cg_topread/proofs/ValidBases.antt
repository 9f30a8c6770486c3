-- Bases are machine words, and no interface has two in one address space.
use Rattle.std.proofs.Common.{◌≡◌, ℕ, ◌<◌, ◌≤◌, ◌^◌, List, [], ◌∷◌, ◌++◌, ◌⊎◌, map, Option, Some, None, inl, inr, refl, sym, ap, subst, arith}
use Rattle.std.specs.Prelude.{flat_map, unwrap_or}
use Rattle.std.specs.Option.{option_map_or}
use Rattle.cg_svspec.specs.Names.{Among}
use Rattle.cg_svspec.specs.Printable.{AllOf}
use Rattle.cg_desc.specs.Top.{AreValidBases, AreValidFaceBases}
use Rattle.cg_desc.specs.declared.top.FaceBase.{FaceBase}
use Rattle.cg_desc.specs.declared.top.SpaceBase.{SpaceBase}
use Rattle.cg_hjson.specs.declared.tree.Tree.{Tree}
use Rattle.cg_hjson.specs.declared.tree.Member.{Member}
use Rattle.cg_keys.specs.Forms.{number_within}
use Rattle.cg_keys.specs.Table.{value_at}
use Rattle.cg_keys.specs.Values.{object_in}
use Rattle.cg_keys.proofs.Fitting.{at_most}
use Rattle.cg_nodes.specs.Order.{Rises}
use Rattle.cg_nodes.proofs.Order.{rises_flat_map}
use Rattle.cg_finding.proofs.Membership.{in_map}
use Rattle.cg_topread.specs.Described.{base_in, base_of, bases_by, bases_in, face_base, face_bases, faces_bases, object_bases}
use Rattle.cg_topread.specs.InOrder.{Entries, by_keys}
use Rattle.cg_topread.proofs.Rising.{Below, KeyBelow, keys_rise, map_rises, not_below, one_place}

-- one base is for a space before another's
abbrev SpaceBelow : SpaceBase → SpaceBase → Type 0
SpaceBelow a b = Below a.space b.space

-- one base is for an interface before another's, or for the same in a space before another's
abbrev FaceBelow : FaceBase → FaceBase → Type 0
FaceBelow a b = Below a.face b.face ⊎ ((a.face ≡ b.face) × Below a.space b.space)

fits : (t : Tree) → base_in t < 2 ^ 32
unfolding base_in
fits t = let most : unwrap_or (number_within 0 4294967295 t) 0 ≤ 4294967295 = at_most 0 4294967295 (Some t) in omega arith

-- ---- of a value

of_entries_fit : (es : Entries) → AllOf (λ b. b.base < 2 ^ 32) (map base_of es)
of_entries_fit [] = tt
of_entries_fit (e ∷ es) = (fits e.1, of_entries_fit es)

bases_fit : (t : Tree) → AllOf (λ b. b.base < 2 ^ 32) (bases_in t)
unfolding bases_in object_bases
bases_fit t = by (object_in t)
  where
    by : (o : Option (List Member)) → AllOf (λ b. b.base < 2 ^ 32) (bases_by t o)
    by None = (fits t, tt)
    by (Some ms) = of_entries_fit (by_keys ms)

bases_rise : (t : Tree) → Rises SpaceBelow (bases_in t)
unfolding bases_in object_bases
bases_rise t = by (object_in t)
  where
    by : (o : Option (List Member)) → Rises SpaceBelow (bases_by t o)
    by None = (tt, tt)
    by (Some ms) = map_rises KeyBelow SpaceBelow base_of (by_keys ms) (λ a b below. below) (keys_rise ms)

valid_list : (bases : List SpaceBase) → AllOf (λ b. b.base < 2 ^ 32) bases → Rises SpaceBelow bases → AreValidBases bases
valid_list bases fit up = record {
  fit = fit;
  differ = λ i j a b at_i at_j same. one_place SpaceBelow bases up i j a b at_i at_j (λ below. alike a b same below) (λ below. alike b a (sym same) below);
}
  where
    alike : (a b : SpaceBase) → a.space ≡ b.space → SpaceBelow a b → ⊥
    alike a b same below = not_below b.space (subst (λ s. Below s b.space) same below)

pub valid_bases : (ms : List Member) (key : List ℕ) → AreValidBases (option_map_or bases_in (value_at key ms) [])
valid_bases ms key = by (value_at key ms)
  where
    by : (v : Option Tree) → AreValidBases (option_map_or bases_in v [])
    by None = valid_list [] tt tt
    by (Some t) = valid_list (bases_in t) (bases_fit t) (bases_rise t)

-- ---- of interfaces

faces_fit : (face : List ℕ) (bs : List SpaceBase) → AllOf (λ b. b.base < 2 ^ 32) bs → AllOf (λ b. b.base < 2 ^ 32) (map (face_base face) bs)
faces_fit face [] all = tt
faces_fit face (b ∷ bs) all = (all.0, faces_fit face bs all.1)

all_append : {X : Type 0} (P : X → Type 0) (xs ys : List X) → AllOf P xs → AllOf P ys → AllOf P (xs ++ ys)
all_append P [] ys a b = b
all_append P (x ∷ xs) ys a b = (a.0, all_append P xs ys a.1 b)

entries_fit : (es : Entries) → AllOf (λ b. b.base < 2 ^ 32) (flat_map face_bases es)
unfolding face_bases
entries_fit [] = tt
entries_fit (e ∷ es) = all_append (λ b. b.base < 2 ^ 32) (map (face_base e.0) (bases_in e.1)) (flat_map face_bases es) (faces_fit e.0 (bases_in e.1) (bases_fit e.1)) (entries_fit es)

face_rises : (e : List ℕ × Tree) → Rises FaceBelow (face_bases e)
unfolding face_bases
face_rises e = map_rises SpaceBelow FaceBelow (face_base e.0) (bases_in e.1) (λ a b below. inr (refl, below)) (bases_rise e.1)

of_face : (e : List ℕ × Tree) (b : FaceBase) → Among b (face_bases e) → b.face ≡ e.0
unfolding face_bases
of_face e b among = let one = in_map (face_base e.0) (bases_in e.1) b among in ap (λ f. f.face) one.is

faces_rise : (ms : List Member) → Rises FaceBelow (faces_bases ms)
unfolding faces_bases
faces_rise ms =
    rises_flat_map FaceBelow KeyBelow face_bases (by_keys ms) face_rises
    (λ a b p q below in_a in_b. inl (subst (λ f. Below f q.face) (sym (of_face a p in_a)) (subst (λ f. Below a.0 f) (sym (of_face b q in_b)) below))) (keys_rise ms)

pub valid_faces : (ms : List Member) → AreValidFaceBases (faces_bases ms)
unfolding faces_bases
valid_faces ms = record {
  fit = entries_fit (by_keys ms);
  differ = λ i j a b at_i at_j face space. one_place FaceBelow (faces_bases ms) (faces_rise ms) i j a b at_i at_j (alike a b face space) (alike b a (sym face) (sym space));
}
  where
    alike : (a b : FaceBase) → a.face ≡ b.face → a.space ≡ b.space → FaceBelow a b → ⊥
    alike a b face space (inl below) = not_below b.face (subst (λ s. Below s b.face) face below)
    alike a b face space (inr below) = not_below b.space (subst (λ s. Below s b.space) space below.1)
