-- The instances of a merged top: their blocks, their names and their bases.
use Rattle.std.proofs.Common.{◌≡◌, ℕ, ◌<◌, ◌^◌, ◌&&◌, ◌⊎◌, Bool, true, false, cond, List, [], ◌∷◌, get_or, length, map, Option, Some, None, inl, inr, ap, subst, ◌∙◌, codes}
use Rattle.std.specs.List.{slice_get}
use Rattle.std.specs.Str.{bytes_eq}
use Rattle.std.proofs.lemmas.Option.{slice_get_within}
use Rattle.cg_desc.proofs.Numbered.{image_at, image_of}
use Rattle.cg_desc.specs.Bases.{has_one_face, or_else, own_base, written_base, written_face_base}
use Rattle.cg_desc.specs.Ends.{InstanceIs}
use Rattle.cg_desc.specs.Laid.{IsLaid}
use Rattle.cg_desc.specs.Merged.{BaseIs, BlockAt, IsMerged, IsValidLaidBlock, design_of}
use Rattle.cg_desc.specs.Top.{IsValidInstance}
use Rattle.cg_desc.specs.Valid.{IsNameIfAny, IsValidInterface}
use Rattle.cg_desc.specs.declared.block.FaceDesc.{FaceDesc}
use Rattle.cg_desc.specs.declared.block.LaidBlock.{LaidBlock}
use Rattle.cg_desc.specs.declared.block.LaidFace.{LaidFace}
use Rattle.cg_desc.specs.declared.top.FaceBase.{FaceBase}
use Rattle.cg_desc.specs.declared.top.InstDesc.{InstDesc}
use Rattle.cg_desc.specs.declared.top.MergedTop.{MergedTop}
use Rattle.cg_desc.specs.declared.top.SpaceBase.{SpaceBase}
use Rattle.cg_pinmux.proofs.Lists.{all_at}
use Rattle.cg_svspec.specs.Characters.{IsWord}
use Rattle.cg_svspec.specs.Printable.{AllOf}
use Rattle.cg_topspec.proofs.Relations.{get_or_is, item_of}
use Rattle.cg_topspec.specs.Top.{block_of, instance_of, no_block, no_instance}

-- ---- by their numbers

pub instance_is : (m : MergedTop) (i : ℕ) (inst : InstDesc) → InstanceIs (design_of m) i inst → instance_of m i ≡ inst
instance_is m i inst there = get_or_is m.top.insts i no_instance inst there

pub block_is : (m : MergedTop) (i : ℕ) (block : LaidBlock) → BlockAt m i block → block_of m i ≡ block
block_is m i block at = ap (λ k. get_or m.blocks k no_block) (get_or_is m.kinds i (length m.blocks) at.0 at.1) ∙ get_or_is m.blocks at.0 no_block block at.2

-- what has a block is an instance of the top
pub instance_there : (m : MergedTop) → IsMerged m → (i : ℕ) (block : LaidBlock) → BlockAt m i block → InstanceIs (design_of m) i (instance_of m i)
instance_there m merged i block at = item_of m.top.insts i no_instance (subst (λ n. i < n) merged.kinds.count (slice_get_within m.kinds i at.0 at.1))

-- ---- names

pub top_word : (m : MergedTop) → IsMerged m → IsWord m.top.name
top_word m merged = merged.top.name.0.0

valid_instance : (m : MergedTop) → IsMerged m → (i : ℕ) (inst : InstDesc) → InstanceIs (design_of m) i inst → IsValidInstance inst
valid_instance m merged i inst there = all_at IsValidInstance m.top.insts i inst merged.top.instances there

pub instance_word : (m : MergedTop) → IsMerged m → (i : ℕ) (inst : InstDesc) → InstanceIs (design_of m) i inst → IsWord inst.name
instance_word m merged i inst there = (valid_instance m merged i inst there).name.0.0

pub valid_laid : (m : MergedTop) → IsMerged m → (i : ℕ) (block : LaidBlock) → BlockAt m i block → IsValidLaidBlock block
valid_laid m merged i block at = all_at IsValidLaidBlock m.blocks at.0 block merged.blocks at.2

-- the interfaces of a block have no name, or a good one, as their descriptions have
pub interface_named : (block : LaidBlock) → IsValidLaidBlock block → (f : ℕ) (face : LaidFace) → slice_get block.faces f ≡ Some face → IsNameIfAny face.name
interface_named block valid f face there =
    let named : slice_get (map (λ (g : FaceDesc). g.name) block.desc.faces) f ≡ Some face.name =
    subst (λ names. slice_get names f ≡ Some face.name) valid.named (image_at (λ (g : LaidFace). g.name) block.faces f face there) in
    let written = image_of (λ (g : FaceDesc). g.name) block.desc.faces f face.name named in
    subst IsNameIfAny written.2 (all_at IsValidInterface block.desc.faces f written.0 valid.block.interfaces written.1).name

pub interface_laid : (block : LaidBlock) → IsValidLaidBlock block → (f : ℕ) (face : LaidFace) → slice_get block.faces f ≡ Some face → IsLaid face
interface_laid block valid f face there = all_at IsLaid block.faces f face valid.laid there

-- ---- bases

one_of : (a b : Option ℕ) (base : ℕ) → or_else a b ≡ Some base → (a ≡ Some base) ⊎ (b ≡ Some base)
one_of (Some x) b base is = inl is
one_of None b base is = inr is

written_small : (bases : List SpaceBase) (space : List ℕ) (base : ℕ) → AllOf (λ b. b.base < 2 ^ 32) bases → written_base bases space ≡ Some base → base < 2 ^ 32
written_small [] space base all is = absurd cc
written_small (b ∷ bases) space base all is = by (written_small bases space base all.1) (bytes_eq b.space space) is where
  by : (written_base bases space ≡ Some base → base < 2 ^ 32) → (same : Bool) → cond same (Some b.base) (written_base bases space) ≡ Some base → base < 2 ^ 32
  by later true found = let e : b.base ≡ base = cc in subst (λ n. n < 2 ^ 32) e all.0
  by later false found = later found

face_small : (bases : List FaceBase) (face space : List ℕ) (base : ℕ) → AllOf (λ b. b.base < 2 ^ 32) bases → written_face_base bases face space ≡ Some base → base < 2 ^ 32
face_small [] face space base all is = absurd cc
face_small (b ∷ bases) face space base all is = by (face_small bases face space base all.1) (bytes_eq b.face face && bytes_eq b.space space) is where
  by : (written_face_base bases face space ≡ Some base → base < 2 ^ 32) → (same : Bool) → cond same (Some b.base) (written_face_base bases face space) ≡ Some base → base < 2 ^ 32
  by later true found = let e : b.base ≡ base = cc in subst (λ n. n < 2 ^ 32) e all.0
  by later false found = later found

own_small : (inst : InstDesc) (interface : Option (List ℕ)) (space : List ℕ) (base : ℕ) → IsValidInstance inst → own_base inst interface space ≡ Some base → base < 2 ^ 32
own_small inst None space base valid is = absurd cc
own_small inst (Some name) space base valid is = face_small inst.bases name space base valid.bases.fit is

sole_small : (inst : InstDesc) (is_sole : Bool) (space : List ℕ) (base : ℕ) → IsValidInstance inst
    → cond is_sole (or_else (written_base inst.base space) (written_face_base inst.bases (codes "null") space)) None ≡ Some base → base < 2 ^ 32
sole_small inst false space base valid is = absurd cc
sole_small inst true space base valid is = by (one_of (written_base inst.base space) (written_face_base inst.bases (codes "null") space) base is) where
  by : (written_base inst.base space ≡ Some base) ⊎ (written_face_base inst.bases (codes "null") space ≡ Some base) → base < 2 ^ 32
  by (inl own) = written_small inst.base space base valid.base.fit own
  by (inr null) = face_small inst.bases (codes "null") space base valid.bases.fit null

-- a base is a number of 32 bits
pub base_small : (m : MergedTop) → IsMerged m → (i f base : ℕ) → BaseIs m i f base → base < 2 ^ 32
base_small m merged i f base is =
    by (one_of (own_base is.inst is.face.name is.space) _ base is.base_is)
  where
    valid : IsValidInstance is.inst
    valid = valid_instance m merged i is.inst is.is.instance

    by : (own_base is.inst is.face.name is.space ≡ Some base)
        ⊎ (cond (has_one_face is.block) (or_else (written_base is.inst.base is.space) (written_face_base is.inst.bases (codes "null") is.space)) None ≡ Some base) → base < 2 ^ 32
    by (inl own) = own_small is.inst is.face.name is.space base valid own
    by (inr sole) = sole_small is.inst (has_one_face is.block) is.space base valid sole
