-- Definitions that number what they are of: which of them there are.
use Rattle.std.proofs.Common.{◌≡◌, ℕ, zero, suc, ◌+◌, ◌⊎◌, List, [], ◌∷◌, Some, inl, inr, refl, ap, subst, ◌∙◌, arith}
use Rattle.std.specs.List.{slice_get}
use Rattle.cg_desc.specs.declared.block.LaidFace.{LaidFace}
use Rattle.cg_desc.specs.declared.top.MergedTop.{MergedTop}
use Rattle.cg_hdrspec.specs.BlockHeader.{Definition}
use Rattle.cg_irq.specs.declared.bits.Bit.{Bit}
use Rattle.cg_svspec.specs.Names.{Among}
use Rattle.cg_svspec.proofs.NamesLemmas.{among_back, among_front, among_parts}
use Rattle.cg_tophdr.specs.TopHeader.{interface_definitions, interfaces_from, numbered_from}

-- the definition of bit k of these, of which the first has this number
pub record IsNumbered (define : ℕ → Bit → Definition) (first : ℕ) (bits : List Bit) (d : Definition) : Type 0 where
  pub k : ℕ
  pub bit : Bit
  pub there : slice_get bits k ≡ Some bit
  pub number : ℕ
  pub number_is : number ≡ first + k
  pub is : d ≡ define number bit

pub is_numbered : (define : ℕ → Bit → Definition) (first : ℕ) (bits : List Bit) (d : Definition) → Among d (numbered_from define first bits) → IsNumbered define first bits d
is_numbered define first [] d among = absurd among
is_numbered define first (b ∷ bits) d (inl is) = record { k = 0; bit = b; there = refl; number = first; number_is = omega arith; is = is }
is_numbered define first (b ∷ bits) d (inr among) =
    let later = is_numbered define (suc first) bits d among in
    record { k = suc later.k; bit = later.bit; there = later.there; number = later.number; number_is = omega (arith, later.number_is); is = later.is }

pub numbered_is : (define : ℕ → Bit → Definition) (first : ℕ) (bits : List Bit) (k : ℕ) (b : Bit) (number : ℕ) → slice_get bits k ≡ Some b → number ≡ first + k
    → Among (define number b) (numbered_from define first bits)
numbered_is define first [] k b number there is = absurd cc
numbered_is define first (c ∷ bits) zero b number there is =
    let same : b ≡ c = cc in
    let here : number ≡ first = omega (arith, is) in
    inl (ap (λ n. define n b) here ∙ ap (define first) same)
numbered_is define first (c ∷ bits) (suc k) b number there is = inr (numbered_is define (suc first) bits k b number there (omega (arith, is)))

-- a definition of interface k of these, of which the first has this number
pub record IsOfInterface (m : MergedTop) (i first : ℕ) (faces : List LaidFace) (d : Definition) : Type 0 where
  pub k : ℕ
  pub face : LaidFace
  pub there : slice_get faces k ≡ Some face
  pub number : ℕ
  pub number_is : number ≡ first + k
  pub is : Among d (interface_definitions m i number face)

pub is_of_interface : (m : MergedTop) (i first : ℕ) (faces : List LaidFace) (d : Definition) → Among d (interfaces_from m i first faces) → IsOfInterface m i first faces d
is_of_interface m i first [] d among = absurd among
is_of_interface m i first (face ∷ faces) d among =
    by (is_of_interface m i (suc first) faces d) (among_parts d (interface_definitions m i first face) (interfaces_from m i (suc first) faces) among)
  where
    by : (Among d (interfaces_from m i (suc first) faces) → IsOfInterface m i (suc first) faces d)
        → Among d (interface_definitions m i first face) ⊎ Among d (interfaces_from m i (suc first) faces) → IsOfInterface m i first (face ∷ faces) d
    by more (inl here) = record { k = 0; face = face; there = refl; number = first; number_is = omega arith; is = here }
    by more (inr behind) =
        let later = more behind in
        record { k = suc later.k; face = later.face; there = later.there; number = later.number; number_is = omega (arith, later.number_is); is = later.is }

pub of_interface_is : (m : MergedTop) (i first : ℕ) (faces : List LaidFace) (k : ℕ) (face : LaidFace) (number : ℕ) (d : Definition) → slice_get faces k ≡ Some face → number ≡ first + k
    → Among d (interface_definitions m i number face) → Among d (interfaces_from m i first faces)
of_interface_is m i first [] k face number d there is among = absurd cc
of_interface_is m i first (g ∷ faces) zero face number d there is among =
    let same : face ≡ g = cc in
    let here : number ≡ first = omega (arith, is) in
    among_front d (interface_definitions m i first g) (interfaces_from m i (suc first) faces)
    (subst (λ n. Among d (interface_definitions m i n g)) here (subst (λ h. Among d (interface_definitions m i number h)) same among))
of_interface_is m i first (g ∷ faces) (suc k) face number d there is among =
    among_back d (interface_definitions m i first g) (interfaces_from m i (suc first) faces) (of_interface_is m i (suc first) faces k face number d there (omega (arith, is)) among)
