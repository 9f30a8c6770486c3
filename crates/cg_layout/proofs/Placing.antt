-- Interfaces that are laid out, one after the other.
use Rattle.std.proofs.Common.{◌≡◌, ◌+◌, ◌<◌, List, [], ◌∷◌, ◌++◌, length, get_or, drop, inl, inr, refl, ap, subst, ◌∙◌, arith, append_assoc, append-nil}
use Rattle.std.specs.List.{zip}
use Rattle.std.proofs.lemmas.List.{drop_all, length_push}
use Rattle.cg_svspec.specs.Printable.{AllOf}
use Rattle.cg_desc.specs.declared.block.FaceDesc.{FaceDesc}
use Rattle.cg_desc.specs.declared.block.FaceItems.{FaceItems}
use Rattle.cg_desc.specs.declared.block.LaidFace.{LaidFace}
use Rattle.cg_desc.specs.Offsets.{IsLaidOut}
use Rattle.cg_desc.specs.Valid.{IsValidItem}
use Rattle.cg_finding.specs.Finding.{Finding}
use Rattle.cg_layout.specs.Inner.Faces.{OneBreaks}
use Rattle.cg_layout.specs.Lays.{AreLaidOut}
use Rattle.cg_layout.specs.Violations.{BreaksIn}
use Rattle.cg_layout.proofs.Lists.{cut}
use Rattle.cg_layout.proofs.Laying.{IsUnbroken}

-- nothing of the interfaces is broken
abbrev pub AreUnbroken : List FaceDesc → List FaceItems → Type 0
AreUnbroken faces items = (f : Finding) → ¬ OneBreaks (zip faces items) f

-- each item of each interface is valid
abbrev pub AreValid : List FaceItems → Type 0
AreValid = AllOf (λ face. AllOf IsValidItem face.items)

-- nothing of the first interface, and nothing of the later ones
module _ (face : FaceDesc) (faces : List FaceDesc) (items : FaceItems) (more : List FaceItems) (whole : AreUnbroken (face ∷ faces) (items ∷ more)) where
  pub unbroken_first : (f : Finding) → ¬ BreaksIn face items.items f
  unbroken_first f breaks = whole f (record { interface = (face, items); among = inl refl; breaks = breaks })

  pub unbroken_later : AreUnbroken faces more
  unbroken_later f one = whole f (record { interface = one.interface; among = inr one.among; breaks = one.breaks })

-- The interfaces that are laid out so far, where these items are left.
pub record IsPlacing (faces : List FaceDesc) (all rest : List FaceItems) (laid : List LaidFace) : Type 0 where
  pub counted : length laid + length rest ≡ length faces
  pub valid : AreValid rest
  pub unbroken : AreUnbroken (drop (length laid) faces) rest
  pub whole : (more : List LaidFace) → AreLaidOut (drop (length laid) faces) rest more → AreLaidOut faces all (laid ++ more)

-- no interface is laid out so far
pub placing_start : (faces : List FaceDesc) (items : List FaceItems) → length items ≡ length faces → AreValid items → AreUnbroken faces items
    → IsPlacing faces items items []
placing_start faces items e valid unbroken = record {
  counted = omega arith;
  valid = valid;
  unbroken = unbroken;
  whole = λ more are. are;
}

-- one more interface
module _ {faces : List FaceDesc} {all left rest : List FaceItems} {items : FaceItems} {laid : List LaidFace} (e : left ≡ items ∷ rest)
    (placing : IsPlacing faces all left laid) where
  pub placing_room : length laid < length faces
  placing_room = let count = placing.counted in let long = ap length e in omega arith

  pub placing_valid : AllOf IsValidItem items.items × AreValid rest
  placing_valid = subst AreValid e placing.valid

  module _ (face : FaceDesc) (is : face ≡ get_or faces (length laid) face) where
    at : drop (length laid) faces ≡ face ∷ drop (length laid + 1) faces
    at = cut faces (length laid) face face placing_room is

    both : AreUnbroken (face ∷ drop (length laid + 1) faces) (items ∷ rest)
    both = subst (λ xs. AreUnbroken xs (items ∷ rest)) at (subst (λ ys. AreUnbroken (drop (length laid) faces) ys) e placing.unbroken)

    pub placing_unbroken : IsUnbroken 0 items.items
    placing_unbroken f b = unbroken_first face _ items rest both f (BreaksIn.offsets b)

    pub placing_more : (l : LaidFace) (pushed : List LaidFace) → (l.name ≡ face.name) × IsLaidOut items.items l → pushed ≡ laid ++ l ∷ []
        → IsPlacing faces all rest pushed
    placing_more l pushed lays is_pushed =
        let long : length pushed ≡ length laid + 1 = ap length is_pushed ∙ length_push laid l in
        let count = placing.counted in
        let short = ap length e in record {
          counted = omega arith;
          valid = placing_valid.1;
          unbroken = rw long (unbroken_later face _ items rest both);
          whole = λ more are.
              let rest_are : AreLaidOut (drop (length laid + 1) faces) rest more = rw long at are in
              let here : AreLaidOut (drop (length laid) faces) left (l ∷ more) = rw (at, e) (lays.0, lays.1, rest_are) in
              rw (is_pushed, append_assoc laid (l ∷ []) more) (placing.whole (l ∷ more) here);
        }

-- no interface is left
pub placing_end : {faces : List FaceDesc} {all left : List FaceItems} {laid : List LaidFace} → left ≡ [] → IsPlacing faces all left laid → AreLaidOut faces all laid
placing_end {faces} {all} {left} {laid} e placing =
    let count = placing.counted in
    let short = ap length e in
    let done : drop (length laid) faces ≡ [] = drop_all (length laid) faces (omega arith) in
    let none : AreLaidOut (drop (length laid) faces) left [] = rw (done, e) tt in
    subst (λ (xs : List LaidFace). AreLaidOut faces all xs) (append-nil laid) (placing.whole [] none)
