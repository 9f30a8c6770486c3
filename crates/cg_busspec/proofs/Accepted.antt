-- A valid crossbar with its ranges is a good one.
use Rattle.std.proofs.Common.{◌≡◌, ℕ, zero, suc, ◌+◌, ◌-◌, ◌*◌, ◌^◌, ◌≤◌, ◌<◌, eqb, Bool, true, false, not, cond, arith, ◌||◌, ◌⊎◌, inl, inr, List, [], ◌∷◌, ◌++◌, map, length, refl, ap, sym, subst, ◌∙◌, Option, Some, None, codes}
use Rattle.std.specs.Prelude.{slice_get}
use Rattle.std.proofs.Math.Pow.{pow_mono}
use Rattle.cg_svspec.specs.Characters.{IsName, IsWord, Each, is_name_character}
use Rattle.cg_svspec.specs.Names.{Among}
use Rattle.cg_svspec.specs.Printable.{AllOf, IsSomeOf}
use Rattle.cg_svspec.proofs.WellNames.{each_join, each_weaker, word_characters}
use Rattle.cg_desc.specs.Crossbar.{NodeIs, IsHost, IsDevice, Connects, IsShortName, IsNodeName, IsValidNode, IsValidCrossbar}
use Rattle.cg_desc.specs.declared.crossbar.Range.{Range}
use Rattle.cg_desc.specs.declared.crossbar.NodeDesc.{NodeDesc}
use Rattle.cg_desc.specs.declared.crossbar.NodeRanges.{NodeRanges}
use Rattle.cg_desc.specs.declared.crossbar.XbarDesc.{XbarDesc}
use Rattle.cg_busspec.specs.Crossbar.{Crossbar, crossbar_of, device_ranges, node, hosts, devices, reach, feeders}
use Rattle.cg_busspec.specs.Ranges.{RangeHolds, RangesAre, HasAddress, IsRange, AreRangesOf}
use Rattle.cg_busspec.proofs.Good.{Once, IsNode, IsCrossbar, is_node_character}
use Rattle.cg_busspec.proofs.Described.{among_at, once_by_places, host_is, device_is, device_has, reach_is, connects_is, connects_host, connects_has, has_ranges, node_ranges, has_address}
use Rattle.cg_busspec.proofs.Members.{one_of_all}
use Rattle.cg_busspec.proofs.Places.{feeder_has}
use Rattle.cg_busspec.proofs.Sums.{at_most_below}

-- ---- names

-- the characters of a name
name_each : (n : List ℕ) → IsShortName n → Each is_name_character n
name_each n s = word_characters n s.0.0

-- are some of those of a node's name
plain_character : (c : ℕ) → is_name_character c ≡ true → is_node_character c ≡ true
plain_character c e = rw e refl

-- or of two names joined by a dot
node_name_each : (n : List ℕ) → IsNodeName n → Each is_node_character n
node_name_each n (inl s) = each_weaker is_name_character is_node_character plain_character n (name_each n s)
node_name_each n (inr s) =
    subst (Each is_node_character) (sym s.4)
    (each_join is_node_character s.0 (46 ∷ s.1) (each_weaker is_name_character is_node_character plain_character s.0 (name_each s.0 s.2))
    (refl, each_weaker is_name_character is_node_character plain_character s.1 (name_each s.1 s.3)))

-- all nodes have such names
nodes_named : (nodes : List NodeDesc) → ((n : NodeDesc) → Among n nodes → IsValidNode n) → AllOf IsNode nodes
nodes_named [] valid = tt
nodes_named (n ∷ ns) valid =
    let this = valid n (inl refl) in
    ((node_name_each n.name this.name, name_each n.clock this.clock), nodes_named ns (λ m a. valid m (inr a)))

-- ---- lists with members

-- a list with a member is not empty
some_of : {A : Type 0} (xs : List A) (x : A) → Among x xs → IsSomeOf xs
some_of [] x a = absurd a
some_of (y ∷ ys) x a = tt

-- ---- the ranges of a device are few

-- where ranges begin
abbrev bases : List Range → List ℕ
bases rs = map (λ r. r.base) rs

-- a base is that of a range at the same place
base_at : (rs : List Range) (i b : ℕ) → slice_get (bases rs) i ≡ Some b → (r : Range) × (slice_get rs i ≡ Some r) × (b ≡ r.base)
base_at [] i b e = cc
base_at (r ∷ rs) zero b e = (r, refl, cc)
base_at (r ∷ rs) (suc i) b e = base_at rs i b e

-- or of a range among them
base_of : (rs : List Range) (b : ℕ) → Among b (bases rs) → (r : Range) × Among r rs × (b ≡ r.base)
base_of [] b a = absurd a
base_of (r ∷ rs) b (inl e) = (r, inl refl, e)
base_of (r ∷ rs) b (inr a) = let found = base_of rs b a in (found.0, inr found.1, found.2)

-- a range has at least four addresses
four : (r : Range) → IsRange r → 4 ≤ r.size
four r g = let least : 2 ^ 2 ≤ 2 ^ g.power = pow_mono g.some in omega (arith, least, g.size_is)

-- its base among them
holds_base : (r : Range) (b : ℕ) → IsRange r → b ≡ r.base → RangeHolds r b
holds_base r b g e = (omega (arith, e), omega (arith, e, four r g))

-- ranges that share no address are few
few_ranges : (rs : List Range) → AllOf IsRange rs
    → ((i j a : ℕ) (r s : Range) → slice_get rs i ≡ Some r → slice_get rs j ≡ Some s → RangeHolds r a → RangeHolds s a → i ≡ j) → length rs < 2 ^ 32
few_ranges rs good differ = omega (arith, at_most_below (2 ^ 32 - 3) (bases rs) once below, bases_long rs) where
  bases_long : (rs : List Range) → length (bases rs) ≡ length rs
  bases_long [] = refl
  bases_long (r ∷ rs) = ap suc (bases_long rs)

  once : Once (bases rs)
  once = once_by_places (bases rs) (λ i j b p q. by i j b (base_at rs i b p) (base_at rs j b q)) where
    by : (i j b : ℕ) → (r : Range) × (slice_get rs i ≡ Some r) × (b ≡ r.base) → (s : Range) × (slice_get rs j ≡ Some s) × (b ≡ s.base) → i ≡ j
    by i j b p q = differ i j b p.0 q.0 p.1 q.1 (holds_base p.0 b (one_of_all IsRange rs p.0 good (among_at rs i p.0 p.1)) p.2) (holds_base q.0 b (one_of_all IsRange rs q.0 good (among_at rs j q.0 q.1)) q.2)

  below : (b : ℕ) → Among b (bases rs) → b < 2 ^ 32 - 3
  below b a =
      let found = base_of rs b a in
      let is = one_of_all IsRange rs found.0 good found.1 in
      omega (arith, found.2, four found.0 is, is.ends)

-- ---- the whole

-- A valid crossbar with its ranges is good.
pub is_crossbar : (x : XbarDesc) (ranges : List NodeRanges) → IsValidCrossbar x → AreRangesOf x ranges → IsCrossbar (crossbar_of x ranges)
is_crossbar x ranges valid are = record {
  name = name_each x.name valid.name;
  clock = name_each x.clock valid.clock;
  nodes = nodes_named x.nodes valid.nodes;
  few = valid.few_nodes;
  reaches = λ h d i j. device_has x d (valid.devices_only h d (connects_is x h d i j));
  once = λ h i. let is = host_is x h i in subst Once (sym (reach_is x h is.0 is.1)) (once_by_places is.0.to (λ i j d p q. valid.once h i j d is.0 is.1 p q));
  some_device = λ h i. let c = valid.some_device h (host_is x h i) in some_of (reach x h) c.0 (connects_has x h c.0 c.1);
  some_host = λ d i. let c = valid.some_host d (device_is x d i) in
      some_of (feeders x d) c.0 (feeder_has x c.0 d (connects_host x c.0 d c.1) (connects_has x c.0 d c.1));
  ranges = λ d i. let is = device_is x d i in let rs = has_ranges x ranges d are.count is in subst (AllOf IsRange) (sym (node_ranges x ranges d rs.0 rs.1)) (are.shapes d rs.0 is rs.1);
  some_range = λ d i. let is = device_is x d i in let rs = has_ranges x ranges d are.count is in subst (λ z. IsSomeOf z) (sym (node_ranges x ranges d rs.0 rs.1)) (are.some d rs.0 is rs.1);
  few_ranges = λ d i. let is = device_is x d i in let rs = has_ranges x ranges d are.count is in
      subst (λ z. length z < 2 ^ 32) (sym (node_ranges x ranges d rs.0 rs.1)) (few_ranges rs.0.ranges (are.shapes d rs.0 is rs.1) (λ i j a r s p q. are.differ d i j a rs.0 r s is rs.1 p q));
  apart = λ h d e a i j k s t.
      let c = connects_is x h d i j in
      let b = connects_is x h e i k in
      are.apart h d e a c b (has_address x ranges d a are.count (valid.devices_only h d c) s) (has_address x ranges e a are.count (valid.devices_only h e b) t);
}
