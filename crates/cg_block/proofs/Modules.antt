-- The modules of a block that is laid out, of which no name repeats, act as its interfaces.
use Rattle.std.proofs.Common.{◌≡◌, ℕ, suc, ◌<◌, arith, List, [], ◌∷◌, map, length, Option, Some, None, refl, sym, ap, subst}
use Rattle.cg_svspec.specs.Characters.{IsName, IsWord}
use Rattle.cg_svspec.specs.Names.{first_repeat, module_names}
use Rattle.cg_svspec.specs.Printable.{AllOf, IsPrintable}
use Rattle.cg_svspec.specs.Tree.{Module}
use Rattle.cg_desc.specs.Laid.{IsLaid}
use Rattle.cg_desc.specs.Valid.{IsNameIfAny, IsValidInterface, IsValidBlock}
use Rattle.cg_desc.specs.declared.block.BlockDesc.{BlockDesc}
use Rattle.cg_desc.specs.declared.block.FaceDesc.{FaceDesc}
use Rattle.cg_desc.specs.declared.block.FaceItems.{FaceItems}
use Rattle.cg_desc.specs.declared.block.LaidBlock.{LaidBlock}
use Rattle.cg_desc.specs.declared.block.LaidFace.{LaidFace}
use Rattle.cg_desc.specs.Items.{items_of_block}
use Rattle.cg_layout.specs.Lays.{AreLaidOut, IsLaidBlock}
use Rattle.cg_hdrspec.specs.Laws.{IsNamed}
use Rattle.cg_regspec.specs.Laws.{RegisterModuleMeans}
use Rattle.cg_regspec.specs.Meaning.{RegisterMeans}
use Rattle.cg_regspec.specs.RegisterModule.{register_module_name, module_of_face, modules_of}
use Rattle.cg_regspec.proofs.WellNames.{block_module_name, interface_module_name}
use Rattle.cg_block.specs.Outputs.{or_else, first_clash}

-- ---- names

-- an interface keeps its name
names_kept : (faces : List FaceDesc) (items : List FaceItems) (laids : List LaidFace) → AllOf IsValidInterface faces → AreLaidOut faces items laids
    → AllOf (λ l. IsNameIfAny l.name) laids
names_kept [] [] [] all laid = tt
names_kept (f ∷ fs) (i ∷ is) (l ∷ ls) all laid = (subst IsNameIfAny (sym laid.0) all.0.name, names_kept fs is ls all.1 laid.2)
names_kept [] [] (l ∷ ls) all laid = absurd laid
names_kept [] (i ∷ is) ls all laid = absurd laid
names_kept (f ∷ fs) [] ls all laid = absurd laid
names_kept (f ∷ fs) (i ∷ is) [] all laid = absurd laid

-- and there are as many of them
count_kept : (faces : List FaceDesc) (items : List FaceItems) (laids : List LaidFace) → AreLaidOut faces items laids → length laids ≡ length faces
count_kept [] [] [] laid = refl
count_kept (f ∷ fs) (i ∷ is) (l ∷ ls) laid = ap suc (count_kept fs is ls laid.2)
count_kept [] [] (l ∷ ls) laid = absurd laid
count_kept [] (i ∷ is) ls laid = absurd laid
count_kept (f ∷ fs) [] ls laid = absurd laid
count_kept (f ∷ fs) (i ∷ is) [] laid = absurd laid

module_is_name : (block : List ℕ) (face : Option (List ℕ)) → IsName block → IsNameIfAny face → IsName (register_module_name block face)
module_is_name block None is tt = block_module_name block is.0
module_is_name block (Some name) is good = interface_module_name block name is.0 good.0

-- ---- clashes

pub neither : (a b : Option (List ℕ)) → or_else a b ≡ None → (a ≡ None) × (b ≡ None)
neither None b e = (refl, e)
neither (Some a) b e = absurd (let bad : Some a ≡ None = e in cc)

-- ---- meanings

abbrev pub Acts : LaidBlock → LaidFace → Type 0
Acts laid face = RegisterMeans (register_module_name laid.desc.name face.name) (module_of_face laid face) face

each_acts : RegisterModuleMeans → (laid : LaidBlock) (faces : List LaidFace) → IsName laid.desc.name → AllOf (λ l. IsNameIfAny l.name) faces → AllOf IsLaid faces
    → first_clash (map (module_of_face laid) faces) ≡ None → AllOf (Acts laid) faces
unfolding first_clash
each_acts law laid [] block names all apart = tt
each_acts law laid (f ∷ fs) block names all apart =
    let both = neither (first_repeat (module_names (module_of_face laid f))) (first_clash (map (module_of_face laid) fs)) apart in
    (law (register_module_name laid.desc.name f.name) f (module_is_name laid.desc.name f.name block names.0) all.0 both.0, each_acts law laid fs block names.1 all.1 both.1)

-- every interface's module acts as the interface
pub all_act : RegisterModuleMeans → (b : BlockDesc) (laid : LaidBlock) → IsValidBlock b → IsLaidBlock b laid → AllOf IsLaid laid.faces → first_clash (modules_of laid) ≡ None
    → AllOf (Acts laid) laid.faces
all_act law b laid valid is all apart =
    each_acts law laid laid.faces (subst (λ (d : BlockDesc). IsName d.name) (sym is.description) valid.name)
    (names_kept b.faces (items_of_block b) laid.faces valid.interfaces is.interfaces) all apart

printable_each : (laid : LaidBlock) (faces : List LaidFace) → AllOf (Acts laid) faces → AllOf IsPrintable (map (module_of_face laid) faces)
printable_each laid [] all = tt
printable_each laid (f ∷ fs) all = (all.0.well_formed.printable, printable_each laid fs all.1)

-- hence can be printed
pub all_printable : RegisterModuleMeans → (b : BlockDesc) (laid : LaidBlock) (ms : List Module) → IsValidBlock b → IsLaidBlock b laid → AllOf IsLaid laid.faces
    → first_clash (modules_of laid) ≡ None → ms ≡ modules_of laid → AllOf IsPrintable ms
all_printable law b laid ms valid is all apart made = subst (AllOf IsPrintable) (sym made) (printable_each laid laid.faces (all_act law b laid valid is all apart))

-- a block has few interfaces
pub few_faces : (b : BlockDesc) (laid : LaidBlock) → IsValidBlock b → IsLaidBlock b laid → length laid.faces < 4294967296
few_faces b laid valid is = let same = count_kept b.faces (items_of_block b) laid.faces is.interfaces in let few = valid.few_interfaces in omega (arith, same)

both_of : (P Q : LaidFace → Type 0) (faces : List LaidFace) → AllOf P faces → AllOf Q faces → AllOf (λ face. P face × Q face) faces
both_of P Q [] ps qs = tt
both_of P Q (f ∷ fs) ps qs = ((ps.0, qs.0), both_of P Q fs ps.1 qs.1)

-- a valid block that is laid out has names of which a header can be made
pub is_named : (b : BlockDesc) (laid : LaidBlock) → IsValidBlock b → IsLaidBlock b laid → AllOf IsLaid laid.faces → IsNamed laid
is_named b laid valid is all = record {
  block = subst (λ (d : BlockDesc). IsWord d.name) (sym is.description) valid.name.0;
  interfaces = both_of (λ face. IsNameIfAny face.name) IsLaid laid.faces (names_kept b.faces (items_of_block b) laid.faces valid.interfaces is.interfaces) all;
}
