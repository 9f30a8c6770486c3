-- The way over nested crossbars, by the ranges of the devices on it.
use Rattle.std.proofs.Common.{Bool, List, [], arith, codes, eqb, false, inl, inr, length, refl, subst, true, ℕ, ◌++◌, ◌+◌, ◌<◌, ◌∙◌, ◌∷◌, ◌≡◌, ◌≤◌, ◌⊎◌}
use Rattle.std.proofs.lemmas.Bool.{cases_lt, eqb-true}
use Rattle.cg_desc.specs.Merged.{EndAt}
use Rattle.cg_desc.specs.Ranges.{RangeHolds, SomeHolds}
use Rattle.cg_desc.specs.Reach.{ConnectsAt, HasRanges, HaveRanges, IsInnerHost, IsPlain, Leads, NoCircle, Reaches, interface, more, nested, nothing, outside}
use Rattle.cg_desc.specs.declared.crossbar.NodeDesc.{NodeDesc}
use Rattle.cg_desc.specs.declared.crossbar.Range.{Range}
use Rattle.cg_desc.specs.declared.top.MergedTop.{MergedTop}
use Rattle.cg_desc.specs.declared.top.NodeEnd.TheVariants.{Face, Outside, Xbar}
use Rattle.cg_space.proofs.AllRanged.{all_ranged}
use Rattle.cg_space.proofs.Mapping.{connected}
use Rattle.cg_space.proofs.OneList.{has_once, one_to}
use Rattle.cg_space.proofs.Sound.{one_end, one_node}
use Rattle.cg_space.specs.Inner.Sound.{IsSound}
use Rattle.cg_svspec.specs.Bits.{Bits}
use Rattle.cg_svspec.specs.Links.{Link, device_link, host_link, inside, is_device_request, leaves, spelled}
use Rattle.cg_svspec.specs.Names.{Among, is_among}
use Rattle.cg_svspec.specs.Tree.{Connection, Module}
use Rattle.cg_svspec.specs.Value.{connection_at}
use Rattle.cg_svspec.specs.Walk.{End, Position, Way, between, between_at, error, goes, held_at, next, on, outer_link, position, same_place, within}
use Rattle.cg_topspec.proofs.Built.{IsCrossbar, IsDevice, Joined}
use Rattle.cg_topspec.proofs.ListLemmas.{in_back, in_front, in_parts}
use Rattle.cg_topspec.proofs.Nodes.{node_in_range}
use Rattle.cg_topspec.proofs.Texts.{ends_itself}
use Rattle.cg_topspec.proofs.Way.{AtEntry, next_within}
use Rattle.cg_topspec.specs.Top.{NodeId, end_of, is_host, node_of}
use Rattle.cg_svspec.specs.Walk as walk

-- ---- the first module's part of the way

-- What the links of the first module are: each crossbar is an instance at an entry of its own, each device has a link of its own, and
-- from it the way goes on to the host that it joins, or to where the device is.
pub record Links (m : MergedTop) (first : Module) (ms : List Module) : Type 0 where
  pub entry : ℕ → ℕ
  pub entries_differ : (x y : ℕ) → entry x ≡ entry y → x ≡ y
  pub module_of : ℕ → Module
  pub connections : ℕ → List Connection
  pub at_entry : (x : ℕ) → x < length m.xbars → AtEntry first ms (entry x) (module_of x) (connections x)
  pub is_crossbar : (x : ℕ) → x < length m.xbars → IsCrossbar m x (module_of x)
  pub outer : NodeId → Link
  pub outers_differ : (d e : NodeId) → IsDevice m d → IsDevice m e → (outer d).request ≡ (outer e).request → d ≡ e
  pub goes_over : (d : NodeId) → IsDevice m d
      → between_at first (outer_link (connection_at (device_link (node_of m d).name).request (connections d.xbar)) (connection_at (device_link (node_of m d).name).response (connections d.xbar)))
      ≡ on (position between (outer d))
  pub joins : (d k : NodeId) → IsDevice m d → Joined m d k → (request : Bits) (way : List Position)
      → next (first ∷ ms) request way (position between (outer d)) ≡ on (position (within (entry k.xbar)) (host_link (node_of m k).name))
  pub target : NodeId → walk.End
  pub arrives : (d : NodeId) → IsDevice m d → IsPlain (end_of m d) → (request : Bits) (way : List Position)
      → Way (first ∷ ms) request way (position between (outer d)) (target d)

-- the way was at no link of a crossbar to which crossbar x leads
pub record IsFresh (m : MergedTop) (first : Module) (ms : List Module) (links : Links m first ms) (x : ℕ) (way : List Position) : Type 0 where
  pub inside_none : (y : ℕ) → Leads m x y → held_at (within (links.entry y)) way ≡ []
  pub between_none : (d : NodeId) → IsDevice m d → Leads m x d.xbar → is_among (held_at between way) (links.outer d).request ≡ false

pub other_place : (i j : ℕ) → (i ≡ j → ⊥) → same_place (within i) (within j) ≡ false
other_place i j h = by (eqb i j) refl where
  by : (b : Bool) → eqb i j ≡ b → b ≡ false
  by true e = absurd (h (eqb-true i j e))
  by false e = refl

is_device_port : (name : List ℕ) → is_device_request (device_link name).request ≡ true
is_device_port name = ends_itself (codes "d_" ++ spelled name) (codes "_req")

-- out of a crossbar over the link of device d, at the first module's link of d
pub leaving : (m : MergedTop) (first : Module) (ms : List Module) (links : Links m first ms) (d : NodeId) → IsDevice m d → (request : Bits) (way : List Position)
    → inside (links.module_of d.xbar) request (held_at (within (links.entry d.xbar)) way) (device_link (node_of m d).name) ≡ leaves
    → next (first ∷ ms) request way (position (within (links.entry d.xbar)) (device_link (node_of m d).name)) ≡ on (position between (links.outer d))
leaving m first ms links d is request way away =
    let there = node_in_range m d is.0 in
    next_within first ms (links.entry d.xbar) (links.module_of d.xbar) (links.connections d.xbar) request way (device_link (node_of m d).name) (links.at_entry d.xbar there)
    ∙ rw (away, (links.is_crossbar d.xbar there).goes d is refl, is_device_port (node_of m d).name) (links.goes_over d is)

-- ---- ranges of devices and of what is behind them

left_holds : (rs ss : List Range) (a : ℕ) → SomeHolds rs a → SomeHolds (rs ++ ss) a
left_holds rs ss a holds = (holds.0, in_front holds.0 rs ss holds.1, holds.2)

right_holds : (rs ss : List Range) (a : ℕ) → SomeHolds ss a → SomeHolds (rs ++ ss) a
right_holds rs ss a holds = (holds.0, in_back holds.0 rs ss holds.1, holds.2)

pub either_holds : (rs ss : List Range) (a : ℕ) → SomeHolds (rs ++ ss) a → SomeHolds rs a ⊎ SomeHolds ss a
either_holds rs ss a holds = by (in_parts holds.0 rs ss holds.1) where
  by : Among holds.0 rs ⊎ Among holds.0 ss → SomeHolds rs a ⊎ SomeHolds ss a
  by (inl b) = inl (holds.0, b, holds.2)
  by (inr b) = inr (holds.0, b, holds.2)

-- devices have what one of them has
part_holds : (m : MergedTop) → IsSound m → (x : ℕ) (ds : List ℕ) (rs : List Range) (d a : ℕ) (ls : List Range) → HaveRanges m x ds rs → Among d ds → HasRanges m x d ls → SomeHolds ls a
    → SomeHolds rs a
part_holds m sound x [] rs d a ls nothing among has holds = absurd among
part_holds m sound x (c ∷ ds) rs d a ls (more {rs = r1} {ss = r2} _ first have) (inl is) has holds =
    let same : ls ≡ r1 = has_once m sound x c ls r1 (subst (λ k. HasRanges m x k ls) is has) first in
    left_holds r1 r2 a (subst (λ (l : List Range). SomeHolds l a) same holds)
part_holds m sound x (c ∷ ds) rs d a ls (more {rs = r1} {ss = r2} _ first have) (inr among) has holds = right_holds r1 r2 a (part_holds m sound x ds r2 d a ls have among has holds)

-- a nested device has the ranges of what the inner host connects to
nested_have : (m : MergedTop) → IsSound m → (x d y k : ℕ) (inner : NodeDesc) (rs : List Range) → EndAt m x d (Xbar y) → IsInnerHost m x y k inner → HasRanges m x d rs
    → HaveRanges m y inner.to rs
nested_have m sound x d y k inner rs stands is (interface i f base face other face_is base_is) = absurd (let h = one_end m x d (Xbar y) (Face i f) stands other in cc)
nested_have m sound x d y k inner rs stands is (outside node at other) = absurd (let h = one_end m x d (Xbar y) Outside stands other in cc)
nested_have m sound x d y k inner rs stands is (nested z l host other is_host have) =
    let both = one_to m sound x z y l k host inner (one_end m x d (Xbar z) (Xbar y) other stands) is_host is in
    subst (λ c. HaveRanges m c inner.to rs) both.0 (subst (λ (to : List ℕ). HaveRanges m z to rs) both.1 have)

-- a device to which the host connects has the address
pub record ConnectsTo (m : MergedTop) (x h a : ℕ) : Type 0 where
  pub device : ℕ
  pub connects : ConnectsAt m x h device
  pub ranges : List Range
  pub has : HasRanges m x device ranges
  pub holds : SomeHolds ranges a

-- what a host reaches with an address it reaches over a device that has the address
pub over_device : (m : MergedTop) → IsSound m → NoCircle m → (x h z e a : ℕ) (ls : List Range) → Reaches m x h z e → HasRanges m z e ls → SomeHolds ls a → ConnectsTo m x h a
over_device m sound free x h z e a ls (Reaches.straight end c stands plain) has holds = record { device = e; connects = c; ranges = ls; has = has; holds = holds }
over_device m sound free x h z e a ls (Reaches.nested d y k inner c stands is onward) has holds =
    let behind = over_device m sound free y k z e a ls onward has holds in
    let own = all_ranged m sound free x d (connected m x h d sound c) in
    let same : behind.connects.host ≡ inner = one_node m y k behind.connects.host inner behind.connects.is is.is in
    record {
      device = d;
      connects = c;
      ranges = own.0;
      has = own.1;
      holds = part_holds m sound y inner.to own.0 behind.device a behind.ranges (nested_have m sound x d y k inner own.0 stands is own.1)
          (subst (λ (n : NodeDesc). Among behind.device n.to) same behind.connects.connects) behind.has behind.holds;
    }

-- ---- whether a device has the address

range_decides : (r : Range) (a : ℕ) → RangeHolds r a ⊎ (RangeHolds r a → ⊥)
range_decides r a = by (cases_lt a r.base) (cases_lt a (r.base + r.size)) where
  by : (a < r.base) ⊎ (r.base ≤ a) → (a < r.base + r.size) ⊎ (r.base + r.size ≤ a) → RangeHolds r a ⊎ (RangeHolds r a → ⊥)
  by (inl low) q = inr (λ h. omega (arith, low, h.0))
  by (inr from) (inl to) = inl (from, to)
  by (inr from) (inr high) = inr (λ h. omega (arith, high, h.1))

pub some_decides : (rs : List Range) (a : ℕ) → SomeHolds rs a ⊎ (SomeHolds rs a → ⊥)
some_decides [] a = inr (λ h. h.1)
some_decides (r ∷ rs) a = by (range_decides r a) (some_decides rs a) where
  by : RangeHolds r a ⊎ (RangeHolds r a → ⊥) → SomeHolds rs a ⊎ (SomeHolds rs a → ⊥) → SomeHolds (r ∷ rs) a ⊎ (SomeHolds (r ∷ rs) a → ⊥)
  by (inl h) q = inl (r, inl refl, h)
  by (inr none) (inl h) = inl (h.0, inr h.1, h.2)
  by (inr none) (inr never) = inr neither where
    neither : SomeHolds (r ∷ rs) a → ⊥
    neither (s, inl e, h) = none (subst (λ (t : Range). RangeHolds t a) e h)
    neither (s, inr b, h) = never (s, b, h)
