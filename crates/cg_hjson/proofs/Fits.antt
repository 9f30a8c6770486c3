-- The integers of a document are in range.
use Rattle.std.proofs.Common.{◌≡◌, ℕ, zero, suc, ◌^◌, ◌<◌, ◌≤◌, pos, negsuc, ◌-ℤ◌, ℤ, true, List, Some, nat_lt, arith, refl, subst}
use Rattle.std.proofs.lemmas.Bool.Decides.{nat_tests}
use Rattle.std.proofs.lemmas.Int.{ints}
use Rattle.cg_docspec.specs.Place.{Place}
use Rattle.cg_docspec.specs.Tree.{Tree, Kind, Member, members, trees}
use Rattle.cg_docspec.specs.Literal.{Literal, true_literal, false_literal, null_literal, integer_literal, other_number, Integer, from_zero, to_zero, value_of}
use Rattle.cg_docspec.specs.Document.{Leaf, quoted, lines, literal, unquoted, Value, object_value, list_value, leaf_value, ValueRun, no_value, one_value, MemberRun, no_member, one_member, Object, object, Document, document}
use Rattle.cg_hjson.specs.Integers.{in_range}
use Rattle.cg_hjson.specs.Json.{HasRange, Everywhere, WithinKind, InTrees, InMembers, IntegersFit}

-- up to 2^64 - 1
fits_above : (n : ℕ) → n < 2 ^ 64 → in_range (pos n) ≡ Some (pos n)
fits_above n low = let test : nat_lt n (2 ^ 64) ≡ true = grind (arith, nat_tests) in rw test refl

-- down to -2^63
fits_below : (n : ℕ) → n ≤ 2 ^ 63 → in_range (pos 0 -ℤ pos n) ≡ Some (pos 0 -ℤ pos n)
fits_below zero low = refl
fits_below (suc n) low =
    let test : nat_lt n (2 ^ 63) ≡ true = grind (arith, nat_tests) in
    let same : negsuc n ≡ pos 0 -ℤ pos (suc n) = omega (arith, ints) in
    subst (λ z. in_range z ≡ Some z) same (rw test refl)

-- the grammar's integers
integer_fits : {u : List ℕ} {n : ℤ} → Integer u n → in_range n ≡ Some n
integer_fits (from_zero {w} whole low) = fits_above (value_of w) low
integer_fits (to_zero {c} {w} minus whole low) = fits_below (value_of w) low

-- a literal has no parts
literal_fits : {u : List ℕ} {k : Kind} → Literal u k → HasRange k × WithinKind HasRange k
unfolding WithinKind
literal_fits (true_literal is) = (tt, tt)
literal_fits (false_literal is) = (tt, tt)
literal_fits (null_literal is) = (tt, tt)
literal_fits (integer_literal i) = (integer_fits i, tt)
literal_fits (other_number is none) = (tt, tt)

-- nor has any other leaf
leaf_fits : {at at' : Place} {s r : List ℕ} {k : Kind} → Leaf at s k at' r → HasRange k × WithinKind HasRange k
unfolding WithinKind
leaf_fits (quoted q other text) = (tt, tt)
leaf_fits (lines c d e text) = (tt, tt)
leaf_fits (literal u r l may) = literal_fits l
leaf_fits (unquoted none key quote comment line) = (tt, tt)

mutual
  unfolding Everywhere WithinKind InTrees InMembers

  -- each value that the grammar reads
  value_fits : {at at' : Place} {s r : List ℕ} {t : Tree} → Value at s t at' r → IntegersFit t
  value_fits (object_value o) = object_fits o
  value_fits (list_value c gap run d) = (tt, values_fit run)
  value_fits (leaf_value leaf) = leaf_fits leaf

  object_fits : {at at' : Place} {s r : List ℕ} {t : Tree} → Object at s t at' r → IntegersFit t
  object_fits (object c gap run d) = (tt, members_fit run)

  values_fit : {at at' : Place} {s r : List ℕ} {ts : List Tree} → ValueRun at s ts at' r → InTrees HasRange (trees ts)
  values_fit no_value = tt
  values_fit (one_value v gap comma run) = (value_fits v, values_fit run)

  members_fit : {at at' : Place} {s r : List ℕ} {ms : List Member} → MemberRun at s ms at' r → InMembers HasRange (members ms)
  members_fit no_member = tt
  members_fit (one_member key gap colon gap' v gap'' comma run) = (value_fits v, members_fit run)

-- and so each document's tree
pub document_fits : (text : List ℕ) (t : Tree) → Document text t → IntegersFit t
document_fits text t (document gap o gap') = object_fits o
