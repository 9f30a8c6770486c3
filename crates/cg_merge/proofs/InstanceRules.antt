-- The rules on instances and their bases, as they are tested.
use Rattle.std.proofs.Common.{◌≡◌, ◌↔◌, ◌+◌, ◌<◌, ◌≤◌, ◌^◌, ◌⊎◌, ℕ, zero, suc, Bool, true, false, cond, List, [], ◌∷◌, take, length, Option, Some, None, inl, inr, refl, sym, ap, subst, ◌∙◌, arith}
use Rattle.std.specs.Bool.{Decides}
use Rattle.std.specs.List.{list_any, slice_get}
use Rattle.std.specs.Str.{bytes_eq}
use Rattle.std.proofs.lemmas.Bool.{false≢true, cases_lt}
use Rattle.std.proofs.lemmas.List.{length-map}
use Rattle.cg_svspec.specs.Printable.{AllOf}
use Rattle.cg_desc.specs.Ends.{InstanceIs}
use Rattle.std.specs.Option.{is_some}
use Rattle.cg_desc.specs.FoundBase.{block_at, block_of}
use Rattle.cg_desc.specs.Merged.{BaseIs, IsValidLaidBlock, design_of}
use Rattle.cg_desc.specs.declared.block.LaidBlock.{LaidBlock}
use Rattle.cg_desc.specs.declared.block.LaidFace.{LaidFace}
use Rattle.cg_desc.specs.declared.block.FaceDesc.{FaceDesc}
use Rattle.cg_desc.specs.declared.top.InstDesc.{InstDesc}
use Rattle.cg_desc.specs.declared.top.MergedTop.{MergedTop}
use Rattle.cg_desc.proofs.Blocks.{one_of}
use Rattle.cg_desc.proofs.FoundBases.{block_is, block_there}
use Rattle.cg_desc.proofs.Numbered.{item_among, item_number}
use Rattle.cg_finding.specs.Finding.{Finding, earlier}
use Rattle.cg_finding.specs.Rules as rules
use Rattle.cg_finding.specs.Told.{TellsFirst}
use Rattle.cg_finding.proofs.Told.{tells_as, tells_either}
use Rattle.cg_merge.specs.Checks.{AreRead, BreaksListing, LacksBase, SomeBreaks}
use Rattle.cg_merge.specs.Violations.{BreaksInstance, BreaksSpace, BreaksTop, BreaksUse}
use Rattle.cg_merge.proofs.TopRules.{has_name_before}
use Rattle.cg_merge.proofs.Walks.{tells_when}

-- ---- valid blocks

-- each item meets what all do
pub all_at : {X : Type 0} (P : X → Type 0) (xs : List X) (i : ℕ) (x : X) → AllOf P xs → slice_get xs i ≡ Some x → P x
all_at P [] i x all is = cc
all_at P (y ∷ xs) zero x all is = let same : y ≡ x = cc in subst P same all.0
all_at P (y ∷ xs) (suc i) x all is = all_at P xs i x all.1 is

-- a valid block has few interfaces
pub few_faces : (b : LaidBlock) → IsValidLaidBlock b → length b.faces ≤ 8
few_faces b valid =
    let faces = length-map b.faces (λ (f : LaidFace). f.name) in
    let described = length-map b.desc.faces (λ (f : FaceDesc). f.name) in
    let same = ap length valid.named in
    let few = valid.block.few_interfaces in
    omega arith

-- so has the block that is found
pub few_of : (m : MergedTop) → AreRead m → (i : ℕ) (block : LaidBlock) → block_of m i ≡ Some block → length block.faces < 2 ^ 32
unfolding block_of block_at
few_of m read i block is = by (slice_get m.kinds i) is where
  by : (o : Option ℕ) → block_at m.blocks o ≡ Some block → length block.faces < 2 ^ 32
  by None is = cc
  by (Some k) is = let few = few_faces block (all_at IsValidLaidBlock m.blocks k block read.blocks is) in omega arith

-- ---- bases

-- nothing, or something
pub none_of : {X : Type 0} (o : Option X) → is_some o ≡ false → o ≡ None
none_of None is = refl
none_of (Some x) is = absurd (false≢true (sym is))

pub some_of : {X : Type 0} (o : Option X) → is_some o ≡ true → (x : X) × (o ≡ Some x)
some_of None is = absurd (false≢true is)
some_of (Some x) is = (x, refl)

-- what is not found is no base
pub none_is : {P : ℕ → Type 0} (o : Option ℕ) → ((base : ℕ) → (o ≡ Some base) ↔ P base) → o ≡ None → (base : ℕ) → P base → ⊥
none_is o found none base is = let e : Some base ≡ None = sym ((found base).1 is) ∙ none in cc

-- one more interface with a base
pub one_more_base : {P : ℕ → ℕ → Type 0} (n base : ℕ) → ((f : ℕ) → f < n → (b : ℕ) × P f b) → P n base → (f : ℕ) → f < n + 1 → (b : ℕ) × P f b
one_more_base {P} n base before here f less = by (cases_lt f n) where
  by : (f < n) ⊎ (n ≤ f) → (b : ℕ) × P f b
  by (inl below) = before f below
  by (inr above) = let e : n ≡ f = omega arith in (base, subst (λ k. P k base) e here)

-- an instance of this block lacks a base where one of the block's interfaces does
pub lacks : (m : MergedTop) → AreRead m → (i : ℕ) (inst : InstDesc) (block : LaidBlock) (b : Bool) → InstanceIs (design_of m) i inst → block_of m i ≡ Some block
    → Decides b ((f : ℕ) × (f < length block.faces) × ((base : ℕ) → BaseIs m i f base → ⊥)) → Decides b (LacksBase m i inst)
lacks m read i inst block b there own d =
    let of = block_is m read.files read.kinds i inst block there own in (
      λ is. let one = d.0 is in record { face = one.0; block = block; is = of; within = one.1; none = one.2 },
      λ has.
          let same = (one_of (design_of m) read.files i inst inst has.block block has.is of).1 in
          d.1 (has.face, subst (λ (k : LaidBlock). has.face < length k.faces) same has.within, has.none),
    )

-- and none where there is no block
pub lacks_none : (m : MergedTop) → AreRead m → (i : ℕ) (inst : InstDesc) → block_of m i ≡ None → Decides false (LacksBase m i inst)
lacks_none m read i inst none = (
  λ e. absurd (false≢true e),
  λ has. let e : Some has.block ≡ None = sym (block_there m read.files read.kinds i inst has.block has.is) ∙ none in cc,
)

-- ---- what an instance breaks

module _ (m : MergedTop) (n : ℕ) (inst : InstDesc) (within : n ≤ length m.top.insts) where
  abbrev Twice : Type 0
  Twice = (j : ℕ) × (earlier : InstDesc) × (j < n) × (slice_get m.top.insts j ≡ Some earlier) × (earlier.name ≡ inst.name)

  abbrev All : Finding → Type 0
  All f = (Twice × (f ≡ rules.instance_twice inst.at inst.name))
      ⊎ ((SomeBreaks (λ k b. BreaksListing m inst.at b.space) inst.base f ⊎ SomeBreaks (λ k b. BreaksListing m inst.at b.space) inst.bases f) ⊎ (LacksBase m n inst × (f ≡ rules.base_missing inst.at inst.name)))

  instance_to : (f : Finding) → All f → BreaksInstance (design_of m) n inst f
  instance_to f (inl ((j, earlier, less, there, named), is)) = subst (BreaksInstance (design_of m) n inst) (sym is) (BreaksInstance.twice j earlier less there named)
  instance_to f (inr (inl (inl (k, b, at, (none, is))))) = subst (BreaksInstance (design_of m) n inst) (sym is) (BreaksInstance.unlisted b (item_among inst.base k b at) none)
  instance_to f (inr (inl (inr (k, b, at, (none, is))))) = subst (BreaksInstance (design_of m) n inst) (sym is) (BreaksInstance.interface_unlisted b (item_among inst.bases k b at) none)
  instance_to f (inr (inr (lacks, is))) = subst (BreaksInstance (design_of m) n inst) (sym is) (BreaksInstance.no_base lacks.face lacks.block lacks.is lacks.within lacks.none)

  instance_from : (f : Finding) → BreaksInstance (design_of m) n inst f → All f
  instance_from _ (BreaksInstance.twice j earlier less there named) = inl ((j, earlier, less, there, named), refl)
  instance_from _ (BreaksInstance.unlisted b among none) = let there = item_number inst.base b among in inr (inl (inl (there.0, b, there.1, (none, refl))))
  instance_from _ (BreaksInstance.interface_unlisted b among none) = let there = item_number inst.bases b among in inr (inl (inr (there.0, b, there.1, (none, refl))))
  instance_from _ (BreaksInstance.no_base f block of below none) = inr (inr (record { face = f; block = block; is = of; within = below; none = none }, refl))

  pub tells_instance : {twice bases more : Option Finding} (missing : Bool)
      → twice ≡ cond (list_any (λ i. bytes_eq i.name inst.name) (take n m.top.insts)) (Some (rules.instance_twice inst.at inst.name)) None
      → TellsFirst bases (SomeBreaks (λ k b. BreaksListing m inst.at b.space) inst.base) → TellsFirst more (SomeBreaks (λ k b. BreaksListing m inst.at b.space) inst.bases)
      → Decides missing (LacksBase m n inst)
      → TellsFirst (earlier twice (earlier (earlier bases more) (cond missing (Some (rules.base_missing inst.at inst.name)) None))) (BreaksInstance (design_of m) n inst)
  tells_instance missing is t u d =
      rw is
      (tells_as (tells_either (tells_when _ (rules.instance_twice inst.at inst.name) (has_name_before (λ (i : InstDesc). i.name) m.top.insts n inst.name within))
      (tells_either (tells_either t u) (tells_when missing (rules.base_missing inst.at inst.name) d))) instance_to instance_from)

-- ---- what the top's file breaks

pub tells_top : (m : MergedTop) {spaces uses insts : Option Finding} → TellsFirst spaces (SomeBreaks (BreaksSpace (design_of m)) m.top.spaces) → TellsFirst uses (SomeBreaks (BreaksUse (design_of m)) m.top.xbars)
    → TellsFirst insts (SomeBreaks (BreaksInstance (design_of m)) m.top.insts) → TellsFirst (earlier spaces (earlier uses insts)) (BreaksTop (design_of m))
tells_top m t u v = tells_as (tells_either t (tells_either u v)) to from where
  to : (f : Finding) → SomeBreaks (BreaksSpace (design_of m)) m.top.spaces f ⊎ (SomeBreaks (BreaksUse (design_of m)) m.top.xbars f ⊎ SomeBreaks (BreaksInstance (design_of m)) m.top.insts f) → BreaksTop (design_of m) f
  to f (inl (i, x, there, breaks)) = BreaksTop.space i x there breaks
  to f (inr (inl (i, x, there, breaks))) = BreaksTop.listing i x there breaks
  to f (inr (inr (i, x, there, breaks))) = BreaksTop.instance i x there breaks

  from : (f : Finding) → BreaksTop (design_of m) f → SomeBreaks (BreaksSpace (design_of m)) m.top.spaces f ⊎ (SomeBreaks (BreaksUse (design_of m)) m.top.xbars f ⊎ SomeBreaks (BreaksInstance (design_of m)) m.top.insts f)
  from f (BreaksTop.space i x there breaks) = inl (i, x, there, breaks)
  from f (BreaksTop.listing i x there breaks) = inr (inl (i, x, there, breaks))
  from f (BreaksTop.instance i x there breaks) = inr (inr (i, x, there, breaks))
