-- The names of a valid block's interfaces and of their register modules.
use Rattle.std.proofs.Common.{List, None, Option, Some, [], map, subst, sym, ℕ, ◌∷◌, ◌≡◌}
use Rattle.cg_desc.specs.Laid.{IsLaid}
use Rattle.cg_desc.specs.Merged.{IsMerged, IsValidLaidBlock}
use Rattle.cg_desc.specs.Valid.{IsNameIfAny, IsValidInterface}
use Rattle.cg_desc.specs.declared.block.FaceDesc.{FaceDesc}
use Rattle.cg_desc.specs.declared.block.LaidBlock.{LaidBlock}
use Rattle.cg_desc.specs.declared.block.LaidFace.{LaidFace}
use Rattle.cg_desc.specs.declared.top.MergedTop.{MergedTop}
use Rattle.cg_regspec.proofs.WellNames.{block_module_name, interface_module_name}
use Rattle.cg_regspec.specs.RegisterModule.{register_module_name}
use Rattle.cg_svspec.specs.Characters.{IsName}
use Rattle.cg_svspec.specs.Names.{Among}
use Rattle.cg_svspec.specs.Printable.{AllOf}
use Rattle.cg_topspec.proofs.EachItem.{each_item}

no_such : {A : Type 0} (x : A) (xs : List A) → x ∷ xs ≡ [] → ⊥
no_such x xs e = cc

first_same : {A : Type 0} (x y : A) (xs ys : List A) → x ∷ xs ≡ y ∷ ys → x ≡ y
first_same x y xs ys e = cc

rest_same : {A : Type 0} (x y : A) (xs ys : List A) → x ∷ xs ≡ y ∷ ys → xs ≡ ys
rest_same x y xs ys e = cc

-- interfaces that are laid out under the names that are described have good names
names_kept : (laids : List LaidFace) (faces : List FaceDesc) → map (λ (f : LaidFace). f.name) laids ≡ map (λ (f : FaceDesc). f.name) faces → AllOf IsValidInterface faces
    → AllOf (λ (l : LaidFace). IsNameIfAny l.name) laids
names_kept [] faces same valid = tt
names_kept (l ∷ ls) [] same valid = absurd (no_such l.name (map (λ (f : LaidFace). f.name) ls) same)
names_kept (l ∷ ls) (f ∷ fs) same valid =
    (subst IsNameIfAny (sym (first_same l.name f.name _ _ same)) valid.0.name, names_kept ls fs (rest_same l.name f.name _ _ same) valid.1)

pub both_of : {A : Type 0} (P Q : A → Type 0) (xs : List A) → AllOf P xs → AllOf Q xs → AllOf (λ x. P x × Q x) xs
both_of P Q [] ps qs = tt
both_of P Q (x ∷ xs) ps qs = ((ps.0, qs.0), both_of P Q xs ps.1 qs.1)

-- the interfaces of a valid block
pub faces_named : (b : LaidBlock) → IsValidLaidBlock b → AllOf (λ (l : LaidFace). IsNameIfAny l.name × IsLaid l) b.faces
faces_named b valid = both_of (λ (l : LaidFace). IsNameIfAny l.name) IsLaid b.faces (names_kept b.faces b.desc.faces valid.named valid.block.interfaces) valid.laid

-- the register module's name is one
pub module_named_well : (block : List ℕ) (face : Option (List ℕ)) → IsName block → IsNameIfAny face → IsName (register_module_name block face)
module_named_well block None is good = block_module_name block is.0
module_named_well block (Some name) is good = interface_module_name block name is.0 good.0

pub block_valid : (m : MergedTop) → IsMerged m → (b : LaidBlock) → Among b m.blocks → IsValidLaidBlock b
block_valid m merged b among = each_item IsValidLaidBlock m.blocks merged.blocks b among
