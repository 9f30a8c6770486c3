-- Regions of ports: which bits are in one, and when two share one.
use Rattle.std.proofs.Common.{◌≡◌, ◌≢◌, ℕ, ◌+◌, ◌-◌, ◌<◌, ◌≤◌, ◌⊎◌, Bool, true, false, ◌&&◌, eqb, List, Option, Some, None, inl, inr, refl, sym, ap, subst, ◌∙◌, arith}
use Rattle.std.specs.Prelude.{min}
use Rattle.std.specs.List.{slice_get}
use Rattle.std.proofs.lemmas.Bool.{and_parts, cases_lt, eqb-true, false≢true, ltb-true}
use Rattle.std.proofs.lemmas.Bool.Decides.{nat_tests}
use Rattle.cg_desc.specs.declared.block.IoDesc.{IoDesc}
use Rattle.cg_desc.specs.declared.top.MergedTop.{MergedTop}
use Rattle.cg_desc.proofs.Numbered.{item_at, same_item}
use Rattle.cg_irq.specs.declared.bits.Bit.{Bit}
use Rattle.cg_pinmux.specs.Checks.{has_one_bit, has_one_in, meets}
use Rattle.cg_pinmux.specs.Pins.{IsPortBit}
use Rattle.cg_pinmux.specs.Regions.{InPart, InRegion, IsNormal, ports_of}
use Rattle.cg_pinmux.specs.Signals.{PortIs}
use Rattle.cg_pinmux.specs.declared.region.Region.{Region}
use Rattle.cg_pinmux.proofs.Looking.{port_there, ports_are}

-- a bit of a port of an instance
pub port_bit : (m : MergedTop) (b : Bit) (port : IoDesc) → PortIs (ports_of m b.inst) b.item port → b.bit < port.width → IsPortBit m b port
port_bit m b port there within = let has = port_there m b.inst b.item port there in record { block = has.block; block_is = has.at; is = has.is; within = within }

pub bit_port : (m : MergedTop) (b : Bit) (port : IoDesc) → IsPortBit m b port → PortIs (ports_of m b.inst) b.item port
bit_port m b port p = subst (λ (ios : List IoDesc). PortIs ios b.item port) (sym (ports_are m b.inst p.block p.block_is)) p.is

-- ---- one bit of a region

-- bit `low` of a port of the region is in it
pub has_low : (ports : List IoDesc) (g : Region) → IsNormal ports g → (p : ℕ) → g.first ≤ p → p < g.end → InPart ports g p g.low
has_low ports g normal p from to =
    let there = item_at ports p (let last = normal.there in omega (arith, last)) in
    record {
      from_first = from;
      before_end = to;
      from_low = omega arith;
      before_high = normal.some_bit;
      port = there.0;
      is = there.1;
      within = normal.each p there.0 from to there.1;
    }

-- the first bit of a region
abbrev pub first_bit : Region → Bit
first_bit g = record { inst = g.inst; item = g.first; bit = g.low }

pub has_first : (m : MergedTop) (g : Region) → IsNormal (ports_of m g.inst) g → InRegion m g (first_bit g)
has_first m g normal = record { instance = refl; part = has_low (ports_of m g.inst) g normal g.first (omega arith) normal.some_port }

-- ---- two regions

-- the parts of a test
both : (a b : Bool) → (a && b) ≡ true → (a ≡ true) × (b ≡ true)
both a b is = and_parts a b is

record Meet (a b : Region) : Type 0 where
  inst : a.inst ≡ b.inst
  port : a.first < b.end
  port' : b.first < a.end
  bit : a.low < b.high
  bit' : b.low < a.high

meet_is : (a b : Region) → meets a b ≡ true → Meet a b
unfolding meets
meet_is a b is =
    let one = both _ _ is in
    let two = both _ _ one.1 in
    let three = both _ _ two.1 in
    let four = both _ _ three.1 in
    record { inst = eqb-true _ _ one.0; port = ltb-true _ _ two.0; port' = ltb-true _ _ three.0; bit = ltb-true _ _ four.0; bit' = ltb-true _ _ four.1 }

is_meet : (a b : Region) → Meet a b → meets a b ≡ true
unfolding meets
is_meet a b m = grind (arith, nat_tests, m.inst, m.port, m.port', m.bit, m.bit')

-- the greater of two numbers
top_of : (a b : ℕ) → (n : ℕ) × (a ≤ n) × (b ≤ n) × ((n ≡ a) ⊎ (n ≡ b))
top_of a b = by (cases_lt a b) where
  by : (a < b) ⊎ (b ≤ a) → (n : ℕ) × (a ≤ n) × (b ≤ n) × ((n ≡ a) ⊎ (n ≡ b))
  by (inl less) = (b, omega arith, omega arith, inr refl)
  by (inr more) = (a, omega arith, more, inl refl)

-- a bit at a place of a region
in_part : (ports : List IoDesc) (g : Region) → IsNormal ports g → (p k : ℕ) (port : IoDesc) → g.first ≤ p → p < g.end → g.low ≤ k → k < g.high → PortIs ports p port → k < port.width → InPart ports g p k
in_part ports g normal p k port from to low high is within = record { from_first = from; before_end = to; from_low = low; before_high = high; port = port; is = is; within = within }

-- regions that meet share a bit
pub share : (m : MergedTop) (a b : Region) → IsNormal (ports_of m a.inst) a → IsNormal (ports_of m b.inst) b → meets a b ≡ true → (x : Bit) × InRegion m a x × InRegion m b x
share m a b na nb is =
    let meet = meet_is a b is in
    let nb' = subst (λ (i : ℕ). IsNormal (ports_of m i) b) (sym meet.inst) nb in
    let p = top_of a.first b.first in
    let k = top_of a.low b.low in
    let end_a : p.0 < a.end = below_one p.0 a.first b.first a.end p.3 na.some_port meet.port' in
    let end_b : p.0 < b.end = below_one p.0 a.first b.first b.end p.3 meet.port nb.some_port in
    let high_a : k.0 < a.high = below_one k.0 a.low b.low a.high k.3 na.some_bit meet.bit' in
    let high_b : k.0 < b.high = below_one k.0 a.low b.low b.high k.3 meet.bit nb.some_bit in
    let there = item_at (ports_of m a.inst) p.0 (let last = na.there in omega (arith, last, end_a)) in
    let wide_a = na.each p.0 there.0 p.1 end_a there.1 in
    let wide_b = nb'.each p.0 there.0 p.2 end_b there.1 in
    let within : k.0 < there.0.width = below_one k.0 a.low b.low there.0.width k.3 wide_a wide_b in
    let part_a = in_part (ports_of m a.inst) a na p.0 k.0 there.0 p.1 end_a k.1 high_a there.1 within in
    let part_b = in_part (ports_of m a.inst) b nb' p.0 k.0 there.0 p.2 end_b k.2 high_b there.1 within in (
      record { inst = a.inst; item = p.0; bit = k.0 },
      record { instance = refl; part = part_a },
      record { instance = meet.inst; part = subst (λ (i : ℕ). InPart (ports_of m i) b p.0 k.0) meet.inst part_b },
    )
  where
    below_one : (n a b top : ℕ) → (n ≡ a) ⊎ (n ≡ b) → a < top → b < top → n < top
    below_one n a b top (inl is) p q = omega (arith, is, p)
    below_one n a b top (inr is) p q = omega (arith, is, q)

-- regions that share a bit meet
pub shared : (m : MergedTop) (a b : Region) (x : Bit) → InRegion m a x → InRegion m b x → meets a b ≡ true
shared m a b x in_a in_b = is_meet a b (record {
  inst = sym in_a.instance ∙ in_b.instance;
  port = let p = in_a.part.from_first in let q = in_b.part.before_end in omega (arith, p, q);
  port' = let p = in_b.part.from_first in let q = in_a.part.before_end in omega (arith, p, q);
  bit = let p = in_a.part.from_low in let q = in_b.part.before_high in omega (arith, p, q);
  bit' = let p = in_b.part.from_low in let q = in_a.part.before_high in omega (arith, p, q);
})

-- ---- regions of one bit

-- the bit of a region of one
pub one_bit : (m : MergedTop) (g : Region) → has_one_bit (ports_of m g.inst) g ≡ true → (x : Bit) → InRegion m g x → x ≡ first_bit g
unfolding has_one_bit
one_bit m g one x within = by (slice_get (ports_of m g.inst) g.first) refl one where
  bit_is : (port : IoDesc) → PortIs (ports_of m g.inst) g.first port → g.end - g.first ≡ 1 → min port.width g.high ≡ g.low + 1 → x ≡ first_bit g
  bit_is port there ports bits =
      let part = within.part in
      let first = part.from_first in
      let last = part.before_end in
      let item : x.item ≡ g.first = omega (arith, first, last, ports) in
      let same : part.port ≡ port = same_item (ports_of m g.inst) g.first part.port port (subst (λ (p : ℕ). PortIs (ports_of m g.inst) p part.port) item part.is) there in
      let wide : x.bit < port.width = subst (λ (io : IoDesc). x.bit < io.width) same part.within in
      let high = part.before_high in
      let low = part.from_low in
      let bit : x.bit ≡ g.low = least x.bit g.low port.width g.high low wide high bits in
      let inst = within.instance in
      λ i. record { inst = inst i; item = item i; bit = bit i }
    where
      least : (k low width high : ℕ) → low ≤ k → k < width → k < high → min width high ≡ low + 1 → k ≡ low
      least k low width high p q r s = grind (arith, nat_tests)

  by : (o : Option IoDesc) → slice_get (ports_of m g.inst) g.first ≡ o → has_one_in g o ≡ true → x ≡ first_bit g
  by None there is = absurd (false≢true is)
  by (Some port) there is = let parts = both _ _ is in bit_is port there (eqb-true _ _ parts.0) (eqb-true _ _ parts.1)

-- a region that has not one bit alone has another
pub two_bits : (m : MergedTop) (g : Region) → IsNormal (ports_of m g.inst) g → has_one_bit (ports_of m g.inst) g ≡ false → (x : Bit) × InRegion m g x × (first_bit g ≢ x)
unfolding has_one_bit
two_bits m g normal none = by (cases_lt (g.first + 1) g.end) where
  next_bit : Bit
  next_bit = record { inst = g.inst; item = g.first; bit = g.low + 1 }

  -- its one port has another bit
  wide : (there : (port : IoDesc) × PortIs (ports_of m g.inst) g.first port) → g.end - g.first ≡ 1 → (x : Bit) × InRegion m g x × (first_bit g ≢ x)
  wide (port, is) ports =
      let low = normal.each g.first port (omega arith) normal.some_port is in
      let high = normal.some_bit in
      let test : has_one_in g (Some port) ≡ false = subst (λ (o : Option IoDesc). has_one_in g o ≡ false) is none in
      let more = another port.width g.high g.low (g.end - g.first) low high ports test in
      let part = in_part (ports_of m g.inst) g normal g.first (g.low + 1) port (omega arith) normal.some_port (omega arith) more.1 is more.0 in
      (next_bit, record { instance = refl; part = part }, λ same. let e : g.low ≡ g.low + 1 = ap (λ (b : Bit). b.bit) same in omega (arith, e))
    where
      another : (width high low ports : ℕ) → low < width → low < high → ports ≡ 1 → (eqb ports 1 && eqb (min width high) (low + 1)) ≡ false → (low + 1 < width) × (low + 1 < high)
      another width high low ports a b one is = (grind (arith, nat_tests), grind (arith, nat_tests))

  by : (g.first + 1 < g.end) ⊎ (g.end ≤ g.first + 1) → (x : Bit) × InRegion m g x × (first_bit g ≢ x)
  by (inl more) = (
    record { inst = g.inst; item = g.first + 1; bit = g.low },
    record { instance = refl; part = has_low (ports_of m g.inst) g normal (g.first + 1) (omega arith) more },
    λ same. let e : g.first ≡ g.first + 1 = ap (λ (b : Bit). b.item) same in omega (arith, e),
  )
  by (inr most) =
      let some = normal.some_port in
      wide (item_at (ports_of m g.inst) g.first (let last = normal.there in omega (arith, last, some))) (omega (arith, most, some))
