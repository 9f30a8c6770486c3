-- The register modules behind the top module, as the way needs them.
use Rattle.std.proofs.Common.{◌⊎◌, List, None, Option, Some, [], ap, arith, codes, inl, inr, length, map, max, refl, slice_get, subst, suc, sym, zero, ℕ, ◌++◌, ◌<◌, ◌^◌, ◌∙◌, ◌∷◌, ◌≡◌, ◌≤◌}
use Rattle.std.proofs.Math.Pow.{pow_mono}
use Rattle.std.proofs.lemmas.Bool.{cases_lt}
use Rattle.cg_desc.proofs.Numbered.{item_among}
use Rattle.cg_desc.specs.Laid.{IsLaid}
use Rattle.cg_desc.specs.Merged.{IsMerged, IsValidLaidBlock}
use Rattle.cg_desc.specs.Valid.{InterfacesDiffer, IsNameIfAny, IsValidInterface}
use Rattle.cg_desc.specs.declared.block.FaceDesc.{FaceDesc}
use Rattle.cg_desc.specs.declared.block.LaidFace.{LaidFace}
use Rattle.cg_regspec.proofs.Law.{register_module_means}
use Rattle.cg_regspec.proofs.WellNames.{block_module_name, interface_module_name}
use Rattle.cg_regspec.specs.Meaning.{RegisterMeans}
use Rattle.cg_regspec.specs.RegisterModule.{module_of_face, register_module_name}
use Rattle.cg_space.proofs.Tabling.{all_at}
use Rattle.cg_svspec.specs.Characters.{IsName}
use Rattle.cg_svspec.specs.Names.{Among, Differ}
use Rattle.cg_svspec.specs.Printable.{AllOf}
use Rattle.cg_svspec.specs.Tree.{Module}
use Rattle.cg_svspec.specs.Walk.{address_width_name, module_named, register_name}
use Rattle.cg_topspec.proofs.Behind.{block_among}
use Rattle.cg_topspec.proofs.Built.{Built, HasRegisters, parameter_names, top_module}
use Rattle.cg_topspec.specs.Modules.{HasModules}
use Rattle.cg_topspec.specs.Top.{block_of}
use Rattle.cg_topspec.specs.TopModule.{address_width}

pub register_name_is : (block : List ℕ) (interface : Option (List ℕ)) → register_module_name block interface ≡ register_name block interface
register_name_is block None = refl
register_name_is block (Some f) = refl

module_is_name : (block : List ℕ) (interface : Option (List ℕ)) → IsName block → IsNameIfAny interface → IsName (register_module_name block interface)
module_is_name block None is good = block_module_name block is.0
module_is_name block (Some name) is good = interface_module_name block name is.0 good.0

-- ---- parameters

-- no two interfaces have one name, and no two have none
abbrev Apart : List (Option (List ℕ)) → Type 0
Apart [] = Unit {0}
Apart (n ∷ ns) = (Among n ns → ⊥) × Apart ns

apart_names : (fs : List FaceDesc) → InterfacesDiffer fs → Apart (map (λ (f : FaceDesc). f.name) fs)
apart_names [] d = tt
apart_names (f ∷ fs) d = (no_other f.name fs d.0, apart_names fs d.1) where
  no_other : (n : Option (List ℕ)) (gs : List FaceDesc) → AllOf (λ (g : FaceDesc). ¬ (n ≡ g.name)) gs → Among n (map (λ (g : FaceDesc). g.name) gs) → ⊥
  no_other n [] all a = a
  no_other n (g ∷ gs) all (inl e) = all.0 e
  no_other n (g ∷ gs) all (inr a) = no_other n gs all.1 a

pub width_name_tells : (a b : Option (List ℕ)) → address_width_name a ≡ address_width_name b → a ≡ b
width_name_tells None None e = refl
width_name_tells None (Some b) e = absurd (let size : 2 ≡ length (codes "Aw_" ++ b) = ap length e in omega (arith, size))
width_name_tells (Some a) None e = absurd (let size : length (codes "Aw_" ++ a) ≡ 2 = ap length e in omega (arith, size))
width_name_tells (Some a) (Some b) e = ap Some (cc)

parameters_apart : (faces : List LaidFace) → Apart (map (λ (f : LaidFace). f.name) faces) → Differ (parameter_names (map address_width faces))
parameters_apart [] d = tt
parameters_apart (f ∷ faces) d = (λ a. d.0 (back faces a), parameters_apart faces d.1) where
  back : (gs : List LaidFace) → Among (address_width_name f.name) (parameter_names (map address_width gs)) → Among f.name (map (λ (g : LaidFace). g.name) gs)
  back [] a = a
  back (g ∷ gs) (inl e) = inl (width_name_tells f.name g.name e)
  back (g ∷ gs) (inr a) = inr (back gs a)

-- ---- sizes

pub record IsWidth (size : ℕ) : Type 0 where
  pub bits : ℕ
  pub size_is : size ≡ 2 ^ bits
  pub some : 2 ≤ bits
  pub few : bits ≤ 32

width_of : (face : LaidFace) → IsLaid face → IsWidth face.size
width_of face laid = record { bits = laid.size.0.0; size_is = laid.size.0.1; some = some (cases_lt laid.size.0.0 2); few = few (cases_lt 24 laid.size.0.0) } where
  some : (laid.size.0.0 < 2) ⊎ (2 ≤ laid.size.0.0) → 2 ≤ laid.size.0.0
  some (inr h) = h
  some (inl h) =
      let low : laid.size.0.0 ≤ 1 = omega (arith, h) in
      let small : 2 ^ laid.size.0.0 ≤ 2 ^ 1 = pow_mono low in
      let large : max laid.end 4 ≤ face.size = laid.size.1 in
      absurd (omega (arith, small, large, laid.size.0.1))

  few : (24 < laid.size.0.0) ⊎ (laid.size.0.0 ≤ 24) → laid.size.0.0 ≤ 32
  few (inr h) = omega (arith, h)
  few (inl h) =
      let high : 25 ≤ laid.size.0.0 = omega (arith, h) in
      let large : 2 ^ 25 ≤ 2 ^ laid.size.0.0 = pow_mono high in
      absurd (omega (arith, large, laid.few_bytes, laid.size.0.1))

-- ---- names

name_by : (fs : List FaceDesc) (faces : List LaidFace) (f : ℕ) (face : LaidFace) → map (λ (g : LaidFace). g.name) faces ≡ map (λ (g : FaceDesc). g.name) fs → AllOf IsValidInterface fs
    → slice_get faces f ≡ Some face → IsNameIfAny face.name
name_by [] [] f face same valid e = absurd cc
name_by [] (g ∷ faces) f face same valid e = absurd cc
name_by (d ∷ fs) [] f face same valid e = absurd cc
name_by (d ∷ fs) (g ∷ faces) zero face same valid e = let here : g ≡ face = cc in let name : g.name ≡ d.name = cc in subst IsNameIfAny (sym name ∙ ap (λ (k : LaidFace). k.name) here) valid.0.name
name_by (d ∷ fs) (g ∷ faces) (suc f) face same valid e = let rest : map (λ (k : LaidFace). k.name) faces ≡ map (λ (k : FaceDesc). k.name) fs = cc in name_by fs faces f face rest valid.1 e

pub has_registers : (top : Built) → IsMerged top.merged → (ms : List Module) → HasModules top.merged (top_module top ∷ ms) → HasRegisters top ms
has_registers top merged ms has i f h =
    let m = top.merged in
    let block = block_of m i in
    let at = block_among m merged i h.instance_there in
    let valid : IsValidLaidBlock block = all_at IsValidLaidBlock m.blocks at.0 block merged.blocks at.2 in
    let laid : IsLaid h.face = all_at IsLaid block.faces f h.face valid.laid h.face_is in
    let r = has.registers block h.face (item_among m.blocks at.0 block at.2) (item_among block.faces f h.face h.face_is) in
    let name = register_name_is block.desc.name h.face.name in
    let width = width_of h.face laid in
    let is_name : IsName (register_module_name block.desc.name h.face.name) =
    module_is_name block.desc.name h.face.name valid.block.name (name_by block.desc.faces block.faces f h.face valid.named valid.block.interfaces h.face_is) in
    let means = register_module_means (register_module_name block.desc.name h.face.name) h.face is_name laid r.no_repeat in
    record {
      registers = module_of_face block h.face;
      named = ap (module_named (top_module top ∷ ms)) (sym name) ∙ r.found;
      means = subst (λ n. RegisterMeans n (module_of_face block h.face) h.face) name means;
      bits = width.bits;
      size_is = width.size_is;
      some = width.some;
      few = width.few;
      parameters_differ = parameters_apart block.faces (subst Apart (sym valid.named) (apart_names block.desc.faces valid.block.interfaces_differ));
    }
