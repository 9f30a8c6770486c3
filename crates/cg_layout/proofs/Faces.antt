-- What the interfaces of a block break, one after the other.
use Rattle.std.proofs.Common.{◌≡◌, List, [], ◌∷◌, ◌⊎◌, inl, inr, Option, None, length, refl, sym, subst}
use Rattle.std.specs.List.{zip}
use Rattle.cg_desc.specs.declared.block.FaceDesc.{FaceDesc}
use Rattle.cg_desc.specs.declared.block.FaceItems.{FaceItems}
use Rattle.cg_desc.specs.declared.block.BlockDesc.{BlockDesc}
use Rattle.cg_desc.specs.declared.block.Item.{Item}
use Rattle.cg_desc.specs.Items.{items_of_block, items_of_faces}
use Rattle.cg_finding.specs.Finding.{Among, Finding, earlier}
use Rattle.cg_finding.proofs.Firsts.{None-earlier, earlier-None, earlier_assoc}
use Rattle.cg_layout.specs.Inner.Faces.{OneBreaks}
use Rattle.cg_finding.specs.Told.{TellsFirst}
use Rattle.cg_layout.specs.Violations.{BreaksIn, Violates}
use Rattle.cg_layout.proofs.Lists.{among, contains}
use Rattle.cg_finding.proofs.Told.{none_broken, tells_as, tells_either, tells_nothing}

abbrev Face : Type 0
Face = FaceDesc × FaceItems

-- the first interface breaks it, or a later one does
first_or_later : (x : Face) (xs : List Face) (f : Finding) (face : Face) → Among face (x ∷ xs) → BreaksIn face.0 face.1.items f
    → BreaksIn x.0 x.1.items f ⊎ OneBreaks xs f
first_or_later x xs f face (inl is) breaks = inl (subst (λ (y : Face). BreaksIn y.0 y.1.items f) is breaks)
first_or_later x xs f face (inr later) breaks = inr (record { interface = face; among = later; breaks = breaks })

-- and the other way round
one_of_more : (x : Face) (xs : List Face) (f : Finding) → BreaksIn x.0 x.1.items f ⊎ OneBreaks xs f → OneBreaks (x ∷ xs) f
one_of_more x xs f (inl breaks) = record { interface = x; among = inl refl; breaks = breaks }
one_of_more x xs f (inr one) = record { interface = one.interface; among = inr one.among; breaks = one.breaks }

-- what one more interface in front breaks
tells_more : (x : Face) (xs : List Face) {now told : Option Finding} → TellsFirst now (BreaksIn x.0 x.1.items) → TellsFirst told (OneBreaks xs)
    → TellsFirst (earlier now told) (OneBreaks (x ∷ xs))
tells_more x xs t u = tells_as (tells_either t u) (one_of_more x xs) (λ f one. first_or_later x xs f one.interface one.among one.breaks)

-- what is first so far and what the interfaces that are left break tell what all break
abbrev pub GoesOn : List Face → Option Finding → List Face → Type 0
GoesOn all first rest = (told : Option Finding) → TellsFirst told (OneBreaks rest) → TellsFirst (earlier first told) (OneBreaks all)

-- nothing is looked at so far
pub goes_on_start : (all : List Face) → GoesOn all None all
goes_on_start all told t = rw (None-earlier told) t

-- one more interface
pub goes_on_more : (all rest more : List Face) (x : Face) (first now new : Option Finding) → rest ≡ x ∷ more → TellsFirst now (BreaksIn x.0 x.1.items)
    → new ≡ earlier first now → GoesOn all first rest → GoesOn all new more
goes_on_more all rest more x first now new e t is on told u =
    let here : TellsFirst (earlier now told) (OneBreaks rest) = subst (λ (xs : List Face). TellsFirst (earlier now told) (OneBreaks xs)) (sym e) (tells_more x more t u) in
    rw (is, earlier_assoc first now told) (on (earlier now told) here)

-- no interface is left
pub goes_on_end : (all rest : List Face) (first : Option Finding) → rest ≡ [] → GoesOn all first rest → TellsFirst first (OneBreaks all)
goes_on_end all rest first e on =
    let none : TellsFirst None (OneBreaks rest) = subst (λ (xs : List Face). TellsFirst None (OneBreaks xs)) (sym e) (tells_nothing (λ f one. absurd one.among)) in
    subst (λ (o : Option Finding). TellsFirst o (OneBreaks all)) (earlier-None first) (on None none)

-- ---- a block

-- what one of its interfaces breaks, the block breaks
pub some_violates : (b : BlockDesc) (f : Finding) → OneBreaks (zip b.faces (items_of_block b)) f → Violates b f
some_violates b f one = record {
  interface = one.interface;
  among = contains (zip b.faces (items_of_block b)) one.interface one.among;
  breaks = one.breaks;
}

-- and the other way round
pub violates_some : (b : BlockDesc) (f : Finding) → Violates b f → OneBreaks (zip b.faces (items_of_block b)) f
violates_some b f violation = record {
  interface = violation.interface;
  among = among (zip b.faces (items_of_block b)) violation.interface violation.among;
  breaks = violation.breaks;
}

-- each interface has its items
pub all_items : (front : List Item) (faces : List FaceDesc) → length (items_of_faces front faces) ≡ length faces
unfolding items_of_faces
all_items front [] = refl
all_items front (f ∷ fs) = rw (all_items [] fs) refl

-- the interfaces of a block tell what the block breaks
pub tells_block : (b : BlockDesc) {told : Option Finding} (faces : List FaceDesc) (items : List FaceItems) → faces ≡ b.faces → items ≡ items_of_block b
    → TellsFirst told (OneBreaks (zip faces items)) → TellsFirst told (Violates b)
tells_block b {told} faces items e is t =
    let own : TellsFirst told (OneBreaks (zip b.faces (items_of_block b))) = rw (e, is) at t in
    tells_as own (some_violates b) (violates_some b)

-- where they tell nothing, the block breaks nothing
pub none_violates : (b : BlockDesc) (faces : List FaceDesc) (items : List FaceItems) → faces ≡ b.faces → items ≡ items_of_block b
    → TellsFirst None (OneBreaks (zip faces items)) → (f : Finding) → ¬ Violates b f
none_violates b faces items e is t = none_broken (tells_block b faces items e is t)
