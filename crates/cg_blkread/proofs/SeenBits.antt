-- The bits of the fields so far, each kept once, pass a test as the fields do.
use Rattle.std.proofs.Common.{◌≡◌, ℕ, ◌+◌, ◌<◌, Bool, true, false, cond, ◌||◌, List, [], ◌∷◌, ◌++◌, take, get_or, length, add-one, Option, Some, None, refl, sym, ap, ◌∙◌}
use Rattle.std.proofs.Math.Bool.{or-false}
use Rattle.std.proofs.Math.Seq.{take-suc}
use Rattle.std.proofs.lemmas.Bool.{and_parts, eqb-true}
use Rattle.std.proofs.lemmas.List.Folds.{list_any-append}
use Rattle.std.specs.List.{list_any}
use Rattle.std.specs.Option.{option_map_or}
use Rattle.cg_finding.specs.Finding.{Finding, earlier, finding, first_of}
use Rattle.cg_blkread.specs.Seen.{HasBitsOf, are_same_bits, have_common_bit}
use Rattle.cg_blkread.specs.Values.{overlap, shares_bit}
use Rattle.cg_blkread.specs.declared.raw.Bits.{Bits}
use Rattle.cg_blkread.specs.declared.raw.RawField.{RawField}

-- nothing shares a bit with a field that has none
none_shares : (o : Option Bits) → shares_bit o None ≡ false
none_shares None = refl
none_shares (Some b) = refl

never : (fs : List RawField) → list_any (λ b. shares_bit b.bits None) fs ≡ false
never [] = refl
never (f ∷ fs) = ap (λ t. t || list_any (λ b. shares_bit b.bits None) fs) (none_shares f.bits) ∙ never fs

-- a field shares a bit with bits where its own, if any, do
shares_some : (o : Option Bits) (own : Bits) → option_map_or (λ b. have_common_bit b own) o false ≡ shares_bit o (Some own)
shares_some None own = refl
shares_some (Some b) own = refl

-- bits share one with the bits that are kept where they do with some field's
shared_is : (seen : List Bits) (before : List RawField) (bits : Option Bits) → HasBitsOf seen before
    → option_map_or (λ own. list_any (λ b. have_common_bit b own) seen) bits false ≡ list_any (λ b. shares_bit b.bits bits) before
shared_is seen before None kept = sym (never before)
shared_is seen before (Some own) kept =
    kept (λ b. have_common_bit b own) ∙ (λ i. list_any (λ (f : RawField). shares_some f.bits own i) before)

same_bits : (a b : Bits) → are_same_bits a b ≡ true → a ≡ b
same_bits a b h =
    let parts = and_parts _ _ h in
    λ i. record { msb = eqb-true a.msb b.msb parts.0 i; lsb = eqb-true a.lsb b.lsb parts.1 i }

or_true : (t : Bool) → (t || true) ≡ true
or_true true = refl
or_true false = refl

-- bits that are among others pass a test only where some of the others do
found : (test : Bits → Bool) (seen : List Bits) (b : Bits) → list_any (λ x. are_same_bits x b) seen ≡ true → test b ≡ true → list_any test seen ≡ true
found test [] b h passes = cc
found test (x ∷ xs) b h passes = by (are_same_bits x b) refl h (λ later. found test xs b later passes) where
  by : (s : Bool) → are_same_bits x b ≡ s → (s || list_any (λ y. are_same_bits y b) xs) ≡ true
      → (list_any (λ y. are_same_bits y b) xs ≡ true → list_any test xs ≡ true) → (test x || list_any test xs) ≡ true
  by true is later rest = ap (λ y. test y || list_any test xs) (same_bits x b is) ∙ ap (λ t. t || list_any test xs) passes
  by false is later rest = ap (λ t. test x || t) (rest later) ∙ or_true (test x)

-- bits that are there need not be added
pub is_there : (test : Bits → Bool) (seen : List Bits) (b : Bits) → list_any (λ x. are_same_bits x b) seen ≡ true
    → list_any test seen ≡ (list_any test seen || test b)
is_there test seen b h = by (test b) refl where
  by : (t : Bool) → test b ≡ t → list_any test seen ≡ (list_any test seen || t)
  by true is = let all : list_any test seen ≡ true = found test seen b h is in all ∙ sym (ap (λ t. t || true) all)
  by false is = sym (or-false (list_any test seen))

-- the bits of one more field are added
pub one_more_field : (seen new : List Bits) (fields : List RawField) (i : ℕ) (f d : RawField) → i < length fields → f ≡ get_or fields i d
    → HasBitsOf seen (take i fields) → ((test : Bits → Bool) → list_any test new ≡ (list_any test seen || option_map_or test f.bits false))
    → HasBitsOf new (take (i + 1) fields)
one_more_field seen new fields i f d h is kept added = λ test.
    let has = λ (x : RawField). option_map_or test x.bits false in
    let grown : take (i + 1) fields ≡ take i fields ++ f ∷ [] = rw add-one (take-suc fields i d h ∙ ap (λ y. take i fields ++ y ∷ []) (sym is)) in
    added test
    ∙ ap (λ t. t || has f) (kept test)
    ∙ ap (λ t. list_any has (take i fields) || t) (sym (or-false (has f)))
    ∙ sym (list_any-append has (take i fields) (f ∷ []))
    ∙ ap (list_any has) (sym grown)

-- what a test tells is the first of what it tells
first_when : (b : Bool) (g : Finding) → cond b (Some g) None ≡ first_of (cond b (g ∷ []) [])
unfolding first_of earlier
first_when true g = refl
first_when false g = refl

-- a field is told exactly where it shares a bit with one of those before it
pub overlap_told : (seen : List Bits) (before : List RawField) (f : RawField) (told : Option Finding) (shares : Bool) → HasBitsOf seen before
    → shares ≡ option_map_or (λ own. list_any (λ b. have_common_bit b own) seen) f.bits false
    → told ≡ cond shares (Some (finding 3 31 f.bits_at f.name)) None → told ≡ first_of (overlap before f)
overlap_told seen before f told shares kept is tells =
    tells
    ∙ ap (λ t. cond t (Some (finding 3 31 f.bits_at f.name)) None) (is ∙ shared_is seen before f.bits kept)
    ∙ first_when (list_any (λ b. shares_bit b.bits f.bits) before) (finding 3 31 f.bits_at f.name)
