-- The rules on names and address spaces in a top's file, as they are tested.
use Rattle.std.proofs.Common.{◌≡◌, ◌<◌, ◌≤◌, ◌⊎◌, ℕ, zero, suc, Bool, true, false, cond, not, ◌||◌, List, [], ◌∷◌, take, length, map, Option, Some, None, inl, inr, refl, sym, ap, subst, ◌∙◌, arith}
use Rattle.std.specs.Bool.{Decides}
use Rattle.std.specs.List.{list_any, slice_get}
use Rattle.std.specs.Str.{bytes_eq}
use Rattle.std.proofs.lemmas.Bool.{false≢true}
use Rattle.std.proofs.lemmas.Slice.Eq.{bytes_eq-Decides}
use Rattle.cg_desc.specs.Merged.{IsListed}
use Rattle.cg_desc.specs.Top.{Design}
use Rattle.cg_desc.specs.declared.place.At.{At}
use Rattle.cg_desc.specs.declared.top.InstDesc.{InstDesc}
use Rattle.cg_desc.specs.declared.top.SpaceDesc.{SpaceDesc}
use Rattle.cg_desc.specs.declared.top.TopDesc.{TopDesc}
use Rattle.cg_desc.specs.declared.top.XbarUse.{XbarUse}
use Rattle.cg_finding.specs.Finding.{Finding, earlier}
use Rattle.cg_finding.specs.Rules as rules
use Rattle.cg_finding.specs.Told.{TellsFirst}
use Rattle.cg_finding.proofs.Told.{tells_as, tells_either}
use Rattle.cg_merge.specs.Violations.{BreaksSpace, BreaksUse}
use Rattle.cg_merge.proofs.Walks.{tells_when}
use Rattle.cg_desc.proofs.Numbered.{image_at, image_of, item_among, item_number, one_passes, passes_one}

-- ---- tests

-- the contrary
pub decides_not : {P : Type 0} (b : Bool) → Decides b P → Decides (not b) (¬ P)
decides_not true d = (λ e. absurd (false≢true e), λ none. absurd (none (d.0 refl)))
decides_not false d = (λ e p. false≢true (d.1 p), λ none. refl)

-- one of two
pub decides_either : {P Q : Type 0} (a b : Bool) → Decides a P → Decides b Q → Decides (a || b) (P ⊎ Q)
decides_either true b d e = (λ is. inl (d.0 refl), λ is. refl)
decides_either false b d e = (λ is. inr (e.0 is), λ either. elim either [ inl p ↦ absurd (false≢true (d.1 p)) | inr q ↦ e.1 q ])

-- ---- the first n items

-- what is before n
pub before_is : {X : Type 0} (xs : List X) (n i : ℕ) (x : X) → slice_get (take n xs) i ≡ Some x → (i < n) × (slice_get xs i ≡ Some x)
before_is [] zero i x is = cc
before_is [] (suc n) i x is = cc
before_is (y ∷ xs) zero i x is = cc
before_is (y ∷ xs) (suc n) zero x is = (omega arith, is)
before_is (y ∷ xs) (suc n) (suc i) x is = let there = before_is xs n i x is in let less = there.0 in (omega arith, there.1)

pub is_before : {X : Type 0} (xs : List X) (n i : ℕ) (x : X) → i < n → slice_get xs i ≡ Some x → slice_get (take n xs) i ≡ Some x
is_before [] n i x less is = cc
is_before (y ∷ xs) zero i x less is = absurd (omega arith)
is_before (y ∷ xs) (suc n) zero x less is = is
is_before (y ∷ xs) (suc n) (suc i) x less is = is_before xs n i x (omega arith) is

-- ---- names

-- an item with this name
pub has_name : {X : Type 0} (v : X → List ℕ) (xs : List X) (name : List ℕ) → Decides (list_any (λ x. bytes_eq (v x) name) xs) ((i : ℕ) × (x : X) × (slice_get xs i ≡ Some x) × (v x ≡ name))
has_name v xs name = (
  λ is. let one = one_passes (λ x. bytes_eq (v x) name) xs is in (one.0, one.1, one.2, (bytes_eq-Decides (v one.1) name).0 one.3),
  λ has. passes_one (λ x. bytes_eq (v x) name) xs has.0 has.1 has.2 ((bytes_eq-Decides (v has.1) name).1 has.3),
)

-- an earlier item with this name
pub has_name_before : {X : Type 0} (v : X → List ℕ) (xs : List X) (n : ℕ) (name : List ℕ) → n ≤ length xs
    → Decides (list_any (λ x. bytes_eq (v x) name) (take n xs)) ((j : ℕ) × (x : X) × (j < n) × (slice_get xs j ≡ Some x) × (v x ≡ name))
has_name_before v xs n name within =
    let d = has_name v (take n xs) name in (
      λ is. let one = d.0 is in let there = before_is xs n one.0 one.1 one.2 in (one.0, one.1, there.0, there.1, one.3),
      λ has. d.1 (has.0, has.1, is_before xs n has.0 has.1 has.2 has.3, has.4),
    )

-- a space of this name is listed
pub decides_listed : (top : TopDesc) (name : List ℕ) → Decides (list_any (λ s. bytes_eq s.name name) top.spaces) (IsListed top name)
decides_listed top name =
    let d = has_name (λ (s : SpaceDesc). s.name) top.spaces name in (
      λ is. let one = d.0 is in item_among (map (λ (s : SpaceDesc). s.name) top.spaces) one.0 name (image_at (λ (s : SpaceDesc). s.name) top.spaces one.0 one.1 one.2 ∙ ap Some one.3),
      λ among.
          let there = item_number (map (λ (s : SpaceDesc). s.name) top.spaces) name among in
          let one = image_of (λ (s : SpaceDesc). s.name) top.spaces there.0 name there.1 in
          d.1 (there.0, one.0, one.1, one.2),
    )

-- ---- what the rules tell

-- a space
pub tells_space : (d : Design) (n : ℕ) (space : SpaceDesc) → n ≤ length d.top.spaces
    → TellsFirst (cond (list_any (λ s. bytes_eq s.name space.name) (take n d.top.spaces)) (Some (rules.bad_space space.at space.name)) None) (BreaksSpace d n space)
tells_space d n space within =
    tells_as (tells_when _ (rules.bad_space space.at space.name) (has_name_before (λ (s : SpaceDesc). s.name) d.top.spaces n space.name within)) to from where
      to : (f : Finding) → ((j : ℕ) × (s : SpaceDesc) × (j < n) × (slice_get d.top.spaces j ≡ Some s) × (s.name ≡ space.name)) × (f ≡ rules.bad_space space.at space.name) → BreaksSpace d n space f
      to f ((j, s, less, there, named), is) = subst (BreaksSpace d n space) (sym is) (BreaksSpace.twice j s less there named)

      from : (f : Finding) → BreaksSpace d n space f → ((j : ℕ) × (s : SpaceDesc) × (j < n) × (slice_get d.top.spaces j ≡ Some s) × (s.name ≡ space.name)) × (f ≡ rules.bad_space space.at space.name)
      from _ (BreaksSpace.twice j s less there named) = ((j, s, less, there, named), refl)

-- a base, or a crossbar, for a space
pub tells_unlisted : (top : TopDesc) (at : At) (space : List ℕ)
    → TellsFirst (cond (not (list_any (λ s. bytes_eq s.name space) top.spaces)) (Some (rules.bad_space at space)) None) (λ f. (¬ IsListed top space) × (f ≡ rules.bad_space at space))
tells_unlisted top at space = tells_when _ (rules.bad_space at space) (decides_not _ (decides_listed top space))

-- the listing of a crossbar
module _ (d : Design) (n : ℕ) (listed : XbarUse) (within : n ≤ length d.top.xbars) where
  abbrev Taken : Type 0
  Taken = ((i : ℕ) × (inst : InstDesc) × (slice_get d.top.insts i ≡ Some inst) × (inst.name ≡ listed.name))
      ⊎ ((y : ℕ) × (earlier : XbarUse) × (y < n) × (slice_get d.top.xbars y ≡ Some earlier) × (earlier.name ≡ listed.name))

  use_to : (f : Finding) → ((¬ IsListed d.top listed.space) × (f ≡ rules.bad_space listed.at listed.space)) ⊎ (Taken × (f ≡ rules.instance_twice listed.at listed.name)) → BreaksUse d n listed f
  use_to f (inl (none, is)) = subst (BreaksUse d n listed) (sym is) (BreaksUse.unlisted none)
  use_to f (inr (inl (i, inst, there, named), is)) = subst (BreaksUse d n listed) (sym is) (BreaksUse.instance_has_name inst (item_among d.top.insts i inst there) named)
  use_to f (inr (inr (y, earlier, less, there, named), is)) = subst (BreaksUse d n listed) (sym is) (BreaksUse.twice y earlier less there named)

  use_from : (f : Finding) → BreaksUse d n listed f → ((¬ IsListed d.top listed.space) × (f ≡ rules.bad_space listed.at listed.space)) ⊎ (Taken × (f ≡ rules.instance_twice listed.at listed.name))
  use_from _ (BreaksUse.unlisted none) = inl (none, refl)
  use_from _ (BreaksUse.instance_has_name inst among named) = let there = item_number d.top.insts inst among in inr (inl (there.0, inst, there.1, named), refl)
  use_from _ (BreaksUse.twice y earlier less there named) = inr (inr (y, earlier, less, there, named), refl)

  pub tells_use : {space name : Option Finding} → TellsFirst space (λ f. (¬ IsListed d.top listed.space) × (f ≡ rules.bad_space listed.at listed.space))
      → name ≡ cond (list_any (λ i. bytes_eq i.name listed.name) d.top.insts || list_any (λ x. bytes_eq x.name listed.name) (take n d.top.xbars)) (Some (rules.instance_twice listed.at listed.name)) None
      → TellsFirst (earlier space name) (BreaksUse d n listed)
  tells_use t is =
      rw is
      (tells_as (tells_either t (tells_when _ (rules.instance_twice listed.at listed.name) (decides_either _ _ (has_name (λ (i : InstDesc). i.name) d.top.insts listed.name)
      (has_name_before (λ (x : XbarUse). x.name) d.top.xbars n listed.name within)))) use_to use_from)
