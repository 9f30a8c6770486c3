-- What an object's members say, one after another in the order of their keys.
use Rattle.std.proofs.Common.{◌≡◌, ℕ, List, [], ◌∷◌, ◌++◌, map, sym, ap, ◌∙◌}
use Rattle.std.specs.Prelude.{flat_map}
use Rattle.std.proofs.lemmas.List.{append_assoc}
use Rattle.cg_desc.specs.declared.top.FaceBase.{FaceBase}
use Rattle.cg_desc.specs.declared.top.NamePair.{NamePair}
use Rattle.cg_desc.specs.declared.top.SpaceBase.{SpaceBase}
use Rattle.cg_hjson.specs.declared.tree.Tree.{Tree}
use Rattle.cg_hjson.specs.declared.tree.Member.{Member}
use Rattle.cg_topread.specs.Described.{base_of, bases_in, face_base, face_bases, faces_bases, object_bases, pair_of, pairs_of}
use Rattle.cg_topread.specs.InOrder.{Entries, by_keys}

pub no_pair_yet : (key : List ℕ) (ms : List Member) (es : Entries) (pairs : List NamePair) → pairs ≡ [] → es ≡ by_keys ms → pairs ++ map (pair_of key) es ≡ pairs_of key ms
unfolding pairs_of
no_pair_yet key ms es pairs none is = (λ i. none i ++ map (pair_of key) (is i))

pub no_base_yet : (ms : List Member) (es : Entries) (bases : List SpaceBase) → bases ≡ [] → es ≡ by_keys ms → bases ++ map base_of es ≡ object_bases ms
unfolding object_bases
no_base_yet ms es bases none is = (λ i. none i ++ map base_of (is i))

pub no_face_yet : (ms : List Member) (es : Entries) (faces : List FaceBase) → faces ≡ [] → es ≡ by_keys ms → faces ++ flat_map face_bases es ≡ faces_bases ms
unfolding faces_bases
no_face_yet ms es faces none is = (λ i. none i ++ flat_map face_bases (is i))

pub one_face : (faces more : List FaceBase) (face : List ℕ) (tree : Tree) (bases : List SpaceBase) (old rest : Entries) (whole : List FaceBase) → old ≡ (face, tree) ∷ rest
    → bases ≡ bases_in tree → more ≡ faces ++ map (face_base face) bases → faces ++ flat_map face_bases old ≡ whole → more ++ flat_map face_bases rest ≡ whole
unfolding face_bases
one_face faces more face tree bases old rest whole cut is added before =
    ap (λ l. l ++ flat_map face_bases rest) added
    ∙ append_assoc faces (map (face_base face) bases) (flat_map face_bases rest)
    ∙ ap (λ bs. faces ++ (map (face_base face) bs ++ flat_map face_bases rest)) is
    ∙ ap (λ es. faces ++ flat_map face_bases es) (sym cut)
    ∙ before
