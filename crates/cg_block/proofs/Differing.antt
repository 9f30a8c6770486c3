-- The register texts of a block have names of their own.
use Rattle.std.proofs.Common.{◌≡◌, ℕ, List, [], ◌∷◌, ◌++◌, map, length, codes, Option, Some, None, refl, sym, ap, ◌∙◌, subst, inl, inr, arith, length-append}
use Rattle.std.proofs.lemmas.List.{append_cancel_left, append_cancel_right}
use Rattle.cg_svspec.specs.Names.{Among}
use Rattle.cg_svspec.specs.Printable.{AllOf}
use Rattle.cg_desc.specs.Items.{items_of_block}
use Rattle.cg_desc.specs.Valid.{InterfacesDiffer}
use Rattle.cg_desc.specs.declared.block.FaceDesc.{FaceDesc}
use Rattle.cg_desc.specs.declared.block.FaceItems.{FaceItems}
use Rattle.cg_desc.specs.declared.block.LaidBlock.{LaidBlock}
use Rattle.cg_desc.specs.declared.block.LaidFace.{LaidFace}
use Rattle.cg_layout.specs.Lays.{AreLaidOut}
use Rattle.cg_regspec.specs.RegisterModule.{register_module_name}
use Rattle.cg_blkread.specs.Described.{block_of}
use Rattle.cg_outputs.specs.declared.out_file.OutFile.{OutFile}
use Rattle.cg_outputs.specs.Outputs.{NamesDiffer, AreOutputs}
use Rattle.cg_outputs.specs.Inner.{put_outputs}
use Rattle.cg_outputs.proofs.Rising.{are_outputs}
use Rattle.cg_block.specs.Outputs.{register_output, IsRegisterOutput}
use Rattle.cg_block.specs.Laws.{RegisterTextsDiffer}
use Rattle.cg_block.proofs.Valid.{described_is_valid}

-- ---- texts have names of their own

-- no two interfaces that are laid out have one name
abbrev LaidDiffer : List LaidFace → Type 0
LaidDiffer [] = Unit {0}
LaidDiffer (f ∷ fs) = AllOf (λ g. ¬ (f.name ≡ g.name)) fs × LaidDiffer fs

others_differ : (name : Option (List ℕ)) (faces : List FaceDesc) (items : List FaceItems) (laids : List LaidFace) → AllOf (λ g. ¬ (name ≡ g.name)) faces → AreLaidOut faces items laids
    → AllOf (λ g. ¬ (name ≡ g.name)) laids
others_differ name [] [] [] all laid = tt
others_differ name (f ∷ fs) (i ∷ is) (l ∷ ls) all laid = (λ same. all.0 (same ∙ laid.0), others_differ name fs is ls all.1 laid.2)
others_differ name [] [] (l ∷ ls) all laid = absurd laid
others_differ name [] (i ∷ is) ls all laid = absurd laid
others_differ name (f ∷ fs) [] ls all laid = absurd laid
others_differ name (f ∷ fs) (i ∷ is) [] all laid = absurd laid

all_differ : (faces : List FaceDesc) (items : List FaceItems) (laids : List LaidFace) → InterfacesDiffer faces → AreLaidOut faces items laids → LaidDiffer laids
all_differ [] [] [] differ laid = tt
all_differ (f ∷ fs) (i ∷ is) (l ∷ ls) differ laid =
    (subst (λ name. AllOf (λ g. ¬ (name ≡ g.name)) ls) (sym laid.0) (others_differ f.name fs is ls differ.0 laid.2), all_differ fs is ls differ.1 laid.2)
all_differ [] [] (l ∷ ls) differ laid = absurd laid
all_differ [] (i ∷ is) ls differ laid = absurd laid
all_differ (f ∷ fs) [] ls differ laid = absurd laid
all_differ (f ∷ fs) (i ∷ is) [] differ laid = absurd laid

abbrev ending : List ℕ
ending = codes "_reg_top"

some_longer : (i : List ℕ) → ending ≡ codes "_" ++ (i ++ ending) → ⊥
some_longer i e = omega (arith, ap length e, length-append i ending)

-- module names tell interfaces apart
same_interface : (block : List ℕ) (a b : Option (List ℕ)) → register_module_name block a ≡ register_module_name block b → a ≡ b
same_interface block None None e = refl
same_interface block None (Some j) e = absurd (some_longer j (append_cancel_left block ending (codes "_" ++ (j ++ ending)) e))
same_interface block (Some i) None e = absurd (some_longer i (sym (append_cancel_left block (codes "_" ++ (i ++ ending)) ending e)))
same_interface block (Some i) (Some j) e =
    ap Some (append_cancel_right i j ending (append_cancel_left (codes "_") (i ++ ending) (j ++ ending) (append_cancel_left block (codes "_" ++ (i ++ ending)) (codes "_" ++ (j ++ ending)) e)))

-- and so do the names of texts
same_text_name : (block : List ℕ) (a b : Option (List ℕ)) → register_module_name block a ++ codes ".sv" ≡ register_module_name block b ++ codes ".sv" → a ≡ b
same_text_name block a b e = same_interface block a b (append_cancel_right (register_module_name block a) (register_module_name block b) (codes ".sv") e)

-- ---- the texts

abbrev texts : LaidBlock → List LaidFace → List OutFile
texts laid faces = map (register_output laid) faces

-- a text of one of these interfaces
pub text_of : (laid : LaidBlock) (faces : List LaidFace) (o : OutFile) → Among o (texts laid faces) → (face : LaidFace) × Among face faces × (o ≡ register_output laid face)
text_of laid [] o among = absurd among
text_of laid (f ∷ fs) o (inl is) = (f, inl refl, is)
text_of laid (f ∷ fs) o (inr there) = let one = text_of laid fs o there in (one.0, inr one.1, one.2)

pub has_text : (laid : LaidBlock) (faces : List LaidFace) (face : LaidFace) → Among face faces → Among (register_output laid face) (texts laid faces)
has_text laid [] face among = absurd among
has_text laid (f ∷ fs) face (inl is) = inl (ap (register_output laid) is)
has_text laid (f ∷ fs) face (inr there) = inr (has_text laid fs face there)

of_all : {X : Type 0} (P : X → Type 0) (xs : List X) (x : X) → AllOf P xs → Among x xs → P x
of_all P [] x all among = absurd among
of_all P (y ∷ ys) x all (inl is) = subst P (sym is) all.0
of_all P (y ∷ ys) x all (inr there) = of_all P ys x all.1 there

texts_differ : (laid : LaidBlock) (faces : List LaidFace) → LaidDiffer faces → NamesDiffer (texts laid faces)
texts_differ laid [] differ = tt
texts_differ laid (f ∷ fs) differ = (
  λ p among same. let one = text_of laid fs p among in
      of_all (λ g. ¬ (f.name ≡ g.name)) fs one.0 differ.0 one.1
      (same_text_name laid.desc.name f.name one.0.name (same ∙ ap (λ (o : OutFile). o.name) one.2)),
  texts_differ laid fs differ.1,
)

pub register_texts_differ : RegisterTextsDiffer
register_texts_differ file t laid good =
    let is = good.is_good.laid_out in
    let valid = described_is_valid file.number t is.items.block in
    texts_differ laid laid.faces (all_differ (block_of file.number t).faces (items_of_block (block_of file.number t)) laid.faces valid.interfaces_differ is.is_laid.interfaces)

-- put in order they are the block's register outputs
pub in_order : (laid : LaidBlock) → NamesDiffer (texts laid laid.faces) → AreOutputs (IsRegisterOutput laid) (put_outputs [] (texts laid laid.faces))
in_order laid differ =
    let outputs = are_outputs (texts laid laid.faces) differ in
    record {
      member = λ o. (
        (λ among. let one = text_of laid laid.faces o ((outputs.member o).0 among) in record { face = one.0; among = one.1; is_text = one.2 }),
        (λ is. (outputs.member o).1 (subst (λ x. Among x (texts laid laid.faces)) (sym is.is_text) (has_text laid laid.faces is.face is.among))),
      );
      rises = outputs.rises;
    }
