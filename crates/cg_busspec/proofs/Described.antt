-- A valid crossbar with its ranges is a good one: its nodes by their numbers, who connects to whom, and which addresses its devices have.
use Rattle.std.proofs.Common.{◌≡◌, ℕ, zero, suc, ◌+◌, ◌≤◌, ◌<◌, eqb, leb, ltb, Bool, true, false, not, cond, arith, ◌&&◌, ◌||◌, ◌⊎◌, inl, inr, List, [], ◌∷◌, ◌++◌, length, refl, ap, sym, subst, ◌∙◌, Option, Some, None}
use Rattle.std.specs.Prelude.{slice_get}
use Rattle.std.proofs.lemmas.Bool.Decides.{nat_tests}
use Rattle.cg_svspec.specs.Characters.{IsName, IsWord, Each, is_name_character}
use Rattle.cg_svspec.specs.Names.{Among}
use Rattle.cg_svspec.specs.Printable.{AllOf, IsSomeOf}
use Rattle.cg_svspec.proofs.WellNames.{each_join, each_weaker, word_characters}
use Rattle.cg_desc.specs.Crossbar.{NodeIs, IsHost, IsDevice, Connects, IsShortName, IsNodeName, IsValidNode, IsValidCrossbar}
use Rattle.cg_desc.specs.declared.crossbar.Range.{Range}
use Rattle.cg_desc.specs.declared.crossbar.NodeDesc.{NodeDesc}
use Rattle.cg_desc.specs.declared.crossbar.NodeRanges.{NodeRanges}
use Rattle.cg_desc.specs.declared.crossbar.XbarDesc.{XbarDesc}
use Rattle.cg_busspec.specs.Crossbar.{Crossbar, crossbar_of, node_at, numbers_of, ranges_at, device_ranges, node, hosts, devices, reach, feeders, holds, some_holds}
use Rattle.cg_busspec.specs.Ranges.{RangeHolds, RangesAre, HasAddress}
use Rattle.cg_busspec.proofs.Good.{Once, IsNode, is_node_character}
use Rattle.cg_busspec.proofs.Places.{feeder_has}

-- ---- places in lists

-- what stands at a place is a member
pub among_at : {A : Type 0} (xs : List A) (i : ℕ) (x : A) → slice_get xs i ≡ Some x → Among x xs
among_at [] i x e = cc
among_at (y ∷ ys) zero x e = inl (cc)
among_at (y ∷ ys) (suc i) x e = inr (among_at ys i x e)

-- and a member stands at some place
pub at_some_place : {A : Type 0} (xs : List A) (x : A) → Among x xs → (i : ℕ) × (slice_get xs i ≡ Some x)
at_some_place [] x a = absurd a
at_some_place (y ∷ ys) x (inl e) = (0, ap Some (sym e))
at_some_place (y ∷ ys) x (inr a) = let found = at_some_place ys x a in (suc found.0, found.1)

-- one thing stands at a place
pub same_at : {A : Type 0} (xs : List A) (i : ℕ) (x y : A) → slice_get xs i ≡ Some x → slice_get xs i ≡ Some y → x ≡ y
same_at xs i x y a b = let e : Some x ≡ Some y = sym a ∙ b in cc

-- a number that stands at one place only stands once
pub once_by_places : (xs : List ℕ) → ((i j x : ℕ) → slice_get xs i ≡ Some x → slice_get xs j ≡ Some x → i ≡ j) → Once xs
once_by_places [] h = tt
once_by_places (x ∷ xs) h = (alone, once_by_places xs (λ i j y a b. later i j (h (suc i) (suc j) y a b))) where
  later : (i j : ℕ) → suc i ≡ suc j → i ≡ j
  later i j e = omega (arith, e)

  alone : Among x xs → ⊥
  alone a = let found = at_some_place xs x a in absurd (omega (arith, h 0 (suc found.0) x refl found.1))

-- ---- nodes

-- the node at a place
node_at_is : (nodes : List NodeDesc) (i : ℕ) (n : NodeDesc) → slice_get nodes i ≡ Some n → node_at nodes i ≡ n
node_at_is [] i n e = cc
node_at_is (m ∷ ms) zero n e = cc
node_at_is (m ∷ ms) (suc i) n e = node_at_is ms i n e

-- a node by its number
pub node_is : (x : XbarDesc) (i : ℕ) (n : NodeDesc) → NodeIs x i n → node x i ≡ n
node_is x i n e = node_at_is x.nodes i n e

-- the number of a host, or of a device, is that of a node of this kind
number_is : (b : Bool) (k : ℕ) (nodes : List NodeDesc) (i : ℕ) → Among i (numbers_of b k nodes)
    → (j : ℕ) × (i ≡ k + j) × (n : NodeDesc) × (slice_get nodes j ≡ Some n) × (n.host ≡ b)
number_is b k [] i a = absurd a
number_is b k (n ∷ ns) i a = by (number_is b (suc k) ns i) b n.host refl refl a where
  Found : Type 0
  Found = (j : ℕ) × (i ≡ k + j) × (m : NodeDesc) × (slice_get (n ∷ ns) j ≡ Some m) × (m.host ≡ b)

  here : i ≡ k → n.host ≡ b → Found
  here e is = (0, omega (arith, e), n, refl, is)

  there : (j : ℕ) × (i ≡ suc k + j) × (m : NodeDesc) × (slice_get ns j ≡ Some m) × (m.host ≡ b) → Found
  there found = (suc found.0, omega (arith, found.1), found.2, found.3, found.4)

  by : (Among i (numbers_of b (suc k) ns) → (j : ℕ) × (i ≡ suc k + j) × (m : NodeDesc) × (slice_get ns j ≡ Some m) × (m.host ≡ b)) → (c h : Bool) → b ≡ c → n.host ≡ h
      → Among i (cond (cond c h (not h)) (k ∷ numbers_of b (suc k) ns) (numbers_of b (suc k) ns)) → Found
  by later true true e is (inl same) = here same (is ∙ sym e)
  by later true true e is (inr a) = there (later a)
  by later true false e is a = there (later a)
  by later false true e is a = there (later a)
  by later false false e is (inl same) = here same (is ∙ sym e)
  by later false false e is (inr a) = there (later a)

-- and each such node has its number
number_has : (b : Bool) (k : ℕ) (nodes : List NodeDesc) (j : ℕ) (n : NodeDesc) → slice_get nodes j ≡ Some n → n.host ≡ b → Among (k + j) (numbers_of b k nodes)
number_has b k [] j n e is = cc
number_has b k (m ∷ ms) zero n e is = subst (λ z. Among z (numbers_of b k (m ∷ ms))) plain (by b m.host same) where
  plain : k ≡ k + 0
  plain = omega arith

  same : m.host ≡ b
  same = let s : m ≡ n = cc in ap (λ z. z.host) s ∙ is

  by : (c h : Bool) → h ≡ c → Among k (cond (cond c h (not h)) (k ∷ numbers_of b (suc k) ms) (numbers_of b (suc k) ms))
  by true true e = inl refl
  by true false e = cc
  by false true e = cc
  by false false e = inl refl
number_has b k (m ∷ ms) (suc j) n e is = subst (λ z. Among z (numbers_of b k (m ∷ ms))) plain (by (cond b m.host (not m.host)) (number_has b (suc k) ms j n e is)) where
  plain : suc k + j ≡ k + suc j
  plain = omega arith

  by : (c : Bool) → Among (suc k + j) (numbers_of b (suc k) ms)
      → Among (suc k + j) (cond c (k ∷ numbers_of b (suc k) ms) (numbers_of b (suc k) ms))
  by true a = inr a
  by false a = a

-- numbers count from zero
from_zero : (i : ℕ) → 0 + i ≡ i
from_zero i = omega arith

-- the numbers of the hosts are those of the described ones
pub host_is : (x : XbarDesc) (h : ℕ) → Among h (hosts x) → IsHost x h
unfolding hosts
host_is x h a = let found = number_is true 0 x.nodes h a in let plain : found.0 ≡ h = omega (arith, found.1) in (found.2, subst (λ z. slice_get x.nodes z ≡ Some found.2) plain found.3, found.4)

-- and back
pub host_has : (x : XbarDesc) (h : ℕ) (n : NodeDesc) → NodeIs x h n → n.host ≡ true → Among h (hosts x)
unfolding hosts
host_has x h n e is = subst (λ z. Among z (numbers_of true 0 x.nodes)) (from_zero h) (number_has true 0 x.nodes h n e is)

-- so are those of the devices
pub device_is : (x : XbarDesc) (d : ℕ) → Among d (devices x) → IsDevice x d
unfolding devices
device_is x d a = let found = number_is false 0 x.nodes d a in let plain : found.0 ≡ d = omega (arith, found.1) in (found.2, subst (λ z. slice_get x.nodes z ≡ Some found.2) plain found.3, found.4)

-- and back
pub device_has : (x : XbarDesc) (d : ℕ) → IsDevice x d → Among d (devices x)
unfolding devices
device_has x d is = subst (λ z. Among z (numbers_of false 0 x.nodes)) (from_zero d) (number_has false 0 x.nodes d is.0 is.1 is.2)

-- the devices of a host are those that it connects to
pub reach_is : (x : XbarDesc) (h : ℕ) (n : NodeDesc) → NodeIs x h n → reach x h ≡ n.to
unfolding reach
reach_is x h n e = ap (λ z. z.to) (node_is x h n e)

-- who connects
pub connects_is : (x : XbarDesc) (h d : ℕ) → Among h (hosts x) → Among d (reach x h) → Connects x h d
connects_is x h d i j = let is = host_is x h i in (is.0, is.1, is.2, subst (Among d) (reach_is x h is.0 is.1) j)

-- is a host
pub connects_host : (x : XbarDesc) (h d : ℕ) → Connects x h d → Among h (hosts x)
connects_host x h d c = host_has x h c.0 c.1 c.2

-- and has the device
pub connects_has : (x : XbarDesc) (h d : ℕ) → Connects x h d → Among d (reach x h)
connects_has x h d c = subst (Among d) (sym (reach_is x h c.0 c.1)) c.3

-- ---- addresses

-- the ranges at a place
ranges_are : (ranges : List NodeRanges) (i : ℕ) (rs : NodeRanges) → RangesAre ranges i rs → ranges_at ranges i ≡ rs.ranges
ranges_are [] i rs e = cc
ranges_are (r ∷ ranges) zero rs e = let same : r ≡ rs = cc in ap (λ z. z.ranges) same
ranges_are (r ∷ ranges) (suc i) rs e = ranges_are ranges i rs e

-- of a node
pub node_ranges : (x : XbarDesc) (ranges : List NodeRanges) (d : ℕ) (rs : NodeRanges) → RangesAre ranges d rs → (device_ranges (crossbar_of x ranges) d) ≡ rs.ranges
node_ranges x ranges d rs e = ranges_are ranges d rs e

-- where one list has a place, so has another of its length
place_in : {A B : Type 0} (xs : List A) (ys : List B) (i : ℕ) (x : A) → length ys ≡ length xs → slice_get xs i ≡ Some x → (y : B) × (slice_get ys i ≡ Some y)
place_in [] ys i x long e = cc
place_in (x ∷ xs) [] i z long e = absurd (omega (arith, long))
place_in (x ∷ xs) (y ∷ ys) zero z long e = (y, refl)
place_in (x ∷ xs) (y ∷ ys) (suc i) z long e = place_in xs ys i z (omega (arith, long)) e

-- each device has ranges
pub has_ranges : (x : XbarDesc) (ranges : List NodeRanges) (d : ℕ) → length ranges ≡ length x.nodes → IsDevice x d → (rs : NodeRanges) × RangesAre ranges d rs
has_ranges x ranges d long is = place_in x.nodes ranges d is.0 long is.1

-- the test of a range tells whether it holds the address
holds_tells : (a : ℕ) (r : Range) → holds a r ≡ true → RangeHolds r a
holds_tells a r e = (grind (arith, nat_tests), grind (arith, nat_tests))

-- and back
tells_holds : (a : ℕ) (r : Range) → RangeHolds r a → holds a r ≡ true
tells_holds a r h = let low : r.base ≤ a = h.0 in let up : a < r.base + r.size = h.1 in grind (arith, nat_tests)

-- that of several, whether one does
pub some_tells : (a : ℕ) (rs : List Range) → some_holds a rs ≡ true → (r : Range) × Among r rs × RangeHolds r a
some_tells a [] e = cc
some_tells a (r ∷ rs) e = by (some_tells a rs) (holds a r) refl e where
  by : (some_holds a rs ≡ true → (s : Range) × Among s rs × RangeHolds s a) → (b : Bool) → holds a r ≡ b → (b || some_holds a rs) ≡ true → (s : Range) × Among s (r ∷ rs) × RangeHolds s a
  by later true t e = (r, inl refl, holds_tells a r t)
  by later false t e = let found = later e in (found.0, inr found.1, found.2)

-- and back
pub tells_some : (a : ℕ) (rs : List Range) (r : Range) → Among r rs → RangeHolds r a → some_holds a rs ≡ true
tells_some a [] r m h = absurd m
tells_some a (s ∷ ss) r (inl e) h = let t : holds a s ≡ true = tells_holds a s (subst (λ z. RangeHolds z a) e h) in rw t refl
tells_some a (s ∷ ss) r (inr m) h = by (holds a s) (tells_some a ss r m h) where
  by : (b : Bool) → some_holds a ss ≡ true → (b || some_holds a ss) ≡ true
  by true t = refl
  by false t = t

-- a device has the address
pub has_address : (x : XbarDesc) (ranges : List NodeRanges) (d a : ℕ) → length ranges ≡ length x.nodes → IsDevice x d → some_holds a (device_ranges (crossbar_of x ranges) d) ≡ true → HasAddress ranges d a
has_address x ranges d a long is e =
    let rs = has_ranges x ranges d long is in
    let found = some_tells a rs.0.ranges (subst (λ z. some_holds a z ≡ true) (node_ranges x ranges d rs.0 rs.1) e) in
    (rs.0, rs.1, found.0, found.1, found.2)

-- and back
pub address_has : (x : XbarDesc) (ranges : List NodeRanges) (d a : ℕ) → IsDevice x d → HasAddress ranges d a → some_holds a (device_ranges (crossbar_of x ranges) d) ≡ true
address_has x ranges d a is h = subst (λ z. some_holds a z ≡ true) (sym (node_ranges x ranges d h.0 h.1)) (tells_some a h.0.ranges h.2 h.3 h.4)

-- it has not
pub lacks_address : (x : XbarDesc) (ranges : List NodeRanges) (d a : ℕ) → length ranges ≡ length x.nodes → IsDevice x d → (HasAddress ranges d a → ⊥) → some_holds a (device_ranges (crossbar_of x ranges) d) ≡ false
lacks_address x ranges d a long is no_address = by (some_holds a (device_ranges (crossbar_of x ranges) d)) refl where
  by : (b : Bool) → some_holds a (device_ranges (crossbar_of x ranges) d) ≡ b → b ≡ false
  by true e = absurd (no_address (has_address x ranges d a long is e))
  by false e = refl
