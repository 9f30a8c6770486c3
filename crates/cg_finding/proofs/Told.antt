-- What checks tell, alone and together.
use Rattle.std.proofs.Common.{◌≡◌, ◌+◌, ◌<◌, ◌≤◌, ℕ, List, [], ◌∷◌, ◌++◌, ◌⊎◌, inl, inr, Option, Some, None, refl, sym, subst, arith}
use Rattle.std.proofs.lemmas.Bool.{cases_lt}
use Rattle.cg_desc.specs.declared.fault.DescFault.{DescFault}
use Rattle.cg_desc.specs.declared.fault.DescFault.TheVariants.{Fault, Memory}
use Rattle.cg_finding.specs.Finding.{Finding, In, earlier, first_of}
use Rattle.cg_finding.specs.Refusal.{Refuses}
use Rattle.cg_finding.specs.Violations.{RefusesFirst}
use Rattle.cg_finding.proofs.Firsts.{first_of-append, first_of-empty, first_of-one, none_is_empty}
use Rattle.cg_finding.proofs.Members.{in_either, in_left, in_right}
use Rattle.cg_finding.specs.Told.{TellsFirst}

-- nothing is broken
pub tells_nothing : {B : Finding → Type 0} → ((f : Finding) → ¬ B f) → TellsFirst None B
tells_nothing none = record {
  faults = [];
  first = sym first_of-empty;
  sound = λ f among. absurd among;
  complete = λ f broken. absurd (none f broken);
}

-- one rule is broken
pub tells_one : {B : Finding → Type 0} (g : Finding) → B g → ((f : Finding) → B f → f ≡ g) → TellsFirst (Some g) B
tells_one {B} g broken alone = record {
  faults = g ∷ [];
  first = sym (first_of-one g);
  sound = λ f among. elim among [ inl is ↦ rw is broken | inr none ↦ absurd none ];
  complete = λ f other. inl (alone f other);
}

-- what a list has
pub tells_list : (fs : List Finding) → TellsFirst (first_of fs) (λ f. In f fs)
tells_list fs = record { faults = fs; first = refl; sound = λ f among. among; complete = λ f among. among }

-- the same, said another way
pub tells_as : {told : Option Finding} {B C : Finding → Type 0} → TellsFirst told B → ((f : Finding) → B f → C f) → ((f : Finding) → C f → B f)
    → TellsFirst told C
tells_as t to from = record {
  faults = t.faults;
  first = t.first;
  sound = λ f among. to f (t.sound f among);
  complete = λ f broken. t.complete f (from f broken);
}

-- what either of two checks tells
pub tells_either : {told other : Option Finding} {B C : Finding → Type 0} → TellsFirst told B → TellsFirst other C
    → TellsFirst (earlier told other) (λ f. B f ⊎ C f)
tells_either t u = record {
  faults = t.faults ++ u.faults;
  first = rw (t.first, u.first) (sym (first_of-append t.faults u.faults));
  sound = λ f among. elim (in_either f t.faults u.faults among) [ inl here ↦ inl (t.sound f here) | inr there ↦ inr (u.sound f there) ];
  complete = λ f broken. elim broken [
    | inl here ↦ in_left f t.faults u.faults (t.complete f here)
    | inr there ↦ in_right f t.faults u.faults (u.complete f there)
  ];
}

-- where nothing is told, nothing is broken
pub none_broken : {B : Finding → Type 0} → TellsFirst None B → (f : Finding) → ¬ B f
none_broken t f broken =
    let none : t.faults ≡ [] = none_is_empty t.faults (sym t.first) in
    let among : In f t.faults = t.complete f broken in
    rw none at among

-- a refusal that names what is told names the first violation
pub refuses_first : (e : DescFault) (file : ℕ) (f : Finding) {B : Finding → Type 0} (t : TellsFirst (Some f) B) → Refuses e file t.faults
    → RefusesFirst e file B
refuses_first (Fault fault) file f t refuses = (
  refuses.0,
  refuses.1,
  record {
    violates = t.sound refuses.0 refuses.2.among;
    least = λ n g broken. refuses.2.least n g (t.complete g broken);
  },
)
refuses_first Memory file f t refuses = tt

-- ---- one item after the other

-- one of the first n breaks it
abbrev pub BrokenBelow : (ℕ → Finding → Type 0) → ℕ → Finding → Type 0
BrokenBelow B n f = (i : ℕ) × (i < n) × B i f

-- nothing is looked at so far
pub tells_start : {B : ℕ → Finding → Type 0} → TellsFirst None (BrokenBelow B 0)
tells_start = tells_nothing (λ f broken. absurd (omega (arith, broken.1)))

-- one more item
pub tells_next : {B : ℕ → Finding → Type 0} {told now new : Option Finding} (n : ℕ) → TellsFirst told (BrokenBelow B n) → TellsFirst now (B n)
    → new ≡ earlier told now → TellsFirst new (BrokenBelow B (n + 1))
tells_next {B} n t u is = rw is (tells_as (tells_either t u) more back) where
  more : (f : Finding) → BrokenBelow B n f ⊎ B n f → BrokenBelow B (n + 1) f
  more f (inl (i, below, broken)) = (i, omega arith, broken)
  more f (inr broken) = (n, omega arith, broken)

  at : (f : Finding) (i : ℕ) → B i f → (i < n) ⊎ (n ≤ i) → i < n + 1 → BrokenBelow B n f ⊎ B n f
  at f i broken (inl below) under = inl (i, below, broken)
  at f i broken (inr above) under = let e : i ≡ n = omega arith in inr (subst (λ k. B k f) e broken)

  back : (f : Finding) → BrokenBelow B (n + 1) f → BrokenBelow B n f ⊎ B n f
  back f (i, below, broken) = at f i broken (cases_lt i n) below

-- all of them
pub tells_all : {B : ℕ → Finding → Type 0} {C : Finding → Type 0} {told : Option Finding} (n : ℕ) → TellsFirst told (BrokenBelow B n)
    → ((f : Finding) (i : ℕ) → B i f → C f) → ((f : Finding) → C f → BrokenBelow B n f) → TellsFirst told C
tells_all n t sound complete = tells_as t (λ f broken. sound f broken.0 broken.2) complete
