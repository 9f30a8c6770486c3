-- The listed bits of the muxed signals are just those that have numbers, in their order.
use Rattle.std.proofs.Common.{◌≡◌, ◌≢◌, ℕ, zero, suc, ◌+◌, ◌-◌, ◌<◌, ◌≤◌, ◌⊎◌, Bool, true, false, cond, List, [], ◌∷◌, length, map, Option, Some, None, inl, inr, refl, sym, ap, subst, ◌∙◌, arith}
use Rattle.std.specs.Prelude.{min}
use Rattle.std.specs.List.{slice_get}
use Rattle.std.proofs.lemmas.Bool.{false≢true}
use Rattle.std.proofs.lemmas.Bool.Decides.{nat_tests}
use Rattle.std.proofs.lemmas.List.{length-map}
use Rattle.std.proofs.lemmas.Option.{slice_get_within}
use Rattle.cg_svspec.specs.Names.{Among}
use Rattle.cg_desc.specs.declared.block.IoDesc.{IoDesc}
use Rattle.cg_desc.specs.declared.block.IoDir.{IoDir}
use Rattle.cg_desc.specs.declared.block.IoDir.TheVariants.{In, Out, InOut}
use Rattle.cg_desc.specs.declared.top.Joint.{Joint}
use Rattle.cg_desc.specs.declared.top.Joint.TheVariants.{Muxed, Direct, Manual}
use Rattle.cg_desc.specs.declared.top.MergedTop.{MergedTop}
use Rattle.cg_desc.specs.declared.top.SignalDesc.{SignalDesc}
use Rattle.cg_desc.proofs.Numbered.{item_at, same_item}
use Rattle.cg_irq.specs.declared.bits.Bit.{Bit}
use Rattle.cg_pinmux.specs.Listed.{below, bit_at, bits_below, bits_of_joint, bits_of_port, bits_of_region, bits_of_signal, side_bits, takes}
use Rattle.cg_pinmux.specs.Pins.{AreNumbered, AreSignalBits, IsInput, IsOutput, SignalBit, SignalBitBefore, SignalIs}
use Rattle.cg_pinmux.specs.Regions.{InPart, InRegion, IsRegion, ports_of}
use Rattle.cg_pinmux.specs.Resolved.{AreResolved, IsResolved}
use Rattle.cg_pinmux.specs.Signals.{HasBit, PortIs}
use Rattle.cg_pinmux.specs.Violations.{PassesLimit}
use Rattle.cg_pinmux.specs.declared.numbered.Side.{Side}
use Rattle.cg_pinmux.specs.declared.numbered.Side.TheVariants.{Inputs, Outputs}
use Rattle.cg_pinmux.specs.declared.region.Region.{Region}
use Rattle.cg_pinmux.specs.declared.resolved.Resolved.{Resolved}
use Rattle.cg_pinmux.proofs.Lists.{Rises, all_among, among_all, among_below, below_among, map_below, numbers_by_rises, rises_below}
use Rattle.cg_pinmux.proofs.Members.{bit_port, port_bit}
use Rattle.cg_pinmux.proofs.OneMap.{one_uses}

-- ---- images

pub among_image : {X Y : Type 0} (v : X → Y) (xs : List X) (x : X) → Among x xs → Among (v x) (map v xs)
among_image v [] x among = absurd among
among_image v (z ∷ xs) x (inl is) = inl (ap v is)
among_image v (z ∷ xs) x (inr among) = inr (among_image v xs x among)

pub image_among : {X Y : Type 0} (v : X → Y) (xs : List X) (y : Y) → Among y (map v xs) → (x : X) × Among x xs × (y ≡ v x)
image_among v [] y among = absurd among
image_among v (x ∷ xs) y (inl is) = (x, inl refl, is)
image_among v (x ∷ xs) y (inr among) = let one = image_among v xs y among in (one.0, inr one.1, one.2)

pub rises_image : {X Y : Type 0} (R : X → X → Type 0) (S : Y → Y → Type 0) (v : X → Y) → ((a b : X) → R a b → S (v a) (v b)) → (xs : List X) → Rises R xs → Rises S (map v xs)
rises_image R S v keeps [] up = tt
rises_image {X} {Y} R S v keeps (x ∷ xs) up = (
  among_all (S (v x)) (map v xs) (λ y among. let one = image_among v xs y among in subst (S (v x)) (sym one.2) (keeps x one.0 (all_among (R x) xs one.0 up.0 one.1))),
  rises_image R S v keeps xs up.1,
)

pub below_same : {X : Type 0} (f g : ℕ → List X) → ((i : ℕ) → f i ≡ g i) → (n : ℕ) → below f n ≡ below g n
unfolding below
below_same f g same zero = refl
below_same f g same (suc n) = let front = below_same f g same n in let last = same n in cc

-- ---- sides

-- the bits that have numbers on a side
abbrev pub IsOn : Side → MergedTop → SignalBit → Type 0
IsOn Inputs m u = IsInput m u
IsOn Outputs m u = IsOutput m u

-- a port's direction is one of the side's
abbrev pub Takes : Side → IoDir → Type 0
Takes Inputs dir = dir ≢ Out
Takes Outputs dir = dir ≢ In

takes_is : (side : Side) (dir : IoDir) → takes side dir ≡ true → Takes side dir
takes_is Inputs In is = λ e. cc
takes_is Inputs Out is = absurd (false≢true is)
takes_is Inputs InOut is = λ e. cc
takes_is Outputs In is = absurd (false≢true is)
takes_is Outputs Out is = λ e. cc
takes_is Outputs InOut is = λ e. cc

is_takes : (side : Side) (dir : IoDir) → Takes side dir → takes side dir ≡ true
is_takes Inputs In t = refl
is_takes Inputs Out t = absurd (t refl)
is_takes Inputs InOut t = refl
is_takes Outputs In t = absurd (t refl)
is_takes Outputs Out t = refl
is_takes Outputs InOut t = refl

-- ---- the bits of a region

abbrev PartBefore : Bit → Bit → Type 0
PartBefore a b = (a.item < b.item) ⊎ ((a.item ≡ b.item) × (a.bit < b.bit))

-- what a port has of a region
record InPort (g : Region) (p : ℕ) (port : IoDesc) (b : Bit) : Type 0 where
  inst : b.inst ≡ g.inst
  item : b.item ≡ p
  low : g.low ≤ b.bit
  high : b.bit < g.high
  within : b.bit < port.width

short : (k width high low : ℕ) → k < min width high - low → (low + k < width) × (low + k < high)
short k width high low less = (grind (arith, nat_tests), grind (arith, nat_tests))

long : (k width high low : ℕ) → low ≤ k → k < width → k < high → k - low < min width high - low
long k width high low from a b = grind (arith, nat_tests)

in_port : (g : Region) (p : ℕ) (port : IoDesc) (b : Bit) → Among b (bits_of_port g p port) → InPort g p port b
unfolding bits_of_port
in_port g p port b among =
    let one = among_below (λ k. bit_at g.inst p (g.low + k) ∷ []) (min port.width g.high - g.low) b among in
    by one.number one.less one.found
  where
    by : (k : ℕ) → k < min port.width g.high - g.low → Among b (bit_at g.inst p (g.low + k) ∷ []) → InPort g p port b
    by k less (inr none) = absurd none
    by k less (inl is) =
        let ends = short k port.width g.high g.low less in
        let bit : b.bit ≡ g.low + k = ap (λ (x : Bit). x.bit) is in
        record {
          inst = ap (λ (x : Bit). x.inst) is;
          item = ap (λ (x : Bit). x.item) is;
          low = omega (arith, bit);
          high = let h = ends.1 in omega (arith, bit, h);
          within = let h = ends.0 in omega (arith, bit, h);
        }

port_in : (g : Region) (p : ℕ) (port : IoDesc) (b : Bit) → InPort g p port b → Among b (bits_of_port g p port)
unfolding bits_of_port
port_in g p port b i =
    let inst = i.inst in
    let item = i.item in
    let low = i.low in
    let bit : b.bit ≡ g.low + (b.bit - g.low) = omega (arith, low) in
    below_among (λ k. bit_at g.inst p (g.low + k) ∷ []) (min port.width g.high - g.low) b (b.bit - g.low) (long b.bit port.width g.high g.low i.low i.within i.high)
    (inl (λ k. record { inst = inst k; item = item k; bit = bit k }))

port_rises : (g : Region) (p : ℕ) (port : IoDesc) → Rises PartBefore (bits_of_port g p port)
unfolding bits_of_port
port_rises g p port = rises_below PartBefore (λ k. bit_at g.inst p (g.low + k) ∷ []) (min port.width g.high - g.low) (λ k. (tt, tt)) across where
  across : (i j : ℕ) (x y : Bit) → i < j → Among x (bit_at g.inst p (g.low + i) ∷ []) → Among y (bit_at g.inst p (g.low + j) ∷ []) → PartBefore x y
  across i j x y less (inr none) other = absurd none
  across i j x y less (inl is) (inr none) = absurd none
  across i j x y less (inl is) (inl also) =
      let item_x : x.item ≡ p = ap (λ (b : Bit). b.item) is in
      let item_y : y.item ≡ p = ap (λ (b : Bit). b.item) also in
      let bit_x : x.bit ≡ g.low + i = ap (λ (b : Bit). b.bit) is in
      let bit_y : y.bit ≡ g.low + j = ap (λ (b : Bit). b.bit) also in
      inr (item_x ∙ sym item_y, omega (arith, bit_x, bit_y, less))

-- those of a side
record OnPort (side : Side) (g : Region) (p : ℕ) (o : Option IoDesc) (b : Bit) : Type 0 where
  port : IoDesc
  is : o ≡ Some port
  side_is : Takes side port.dir
  has : InPort g p port b

on_port : (side : Side) (g : Region) (p : ℕ) (o : Option IoDesc) (b : Bit) → Among b (side_bits side g p o) → OnPort side g p o b
on_port side g p None b among = absurd among
on_port side g p (Some port) b among = by (takes side port.dir) refl among where
  by : (t : Bool) → takes side port.dir ≡ t → Among b (cond t (bits_of_port g p port) []) → OnPort side g p (Some port) b
  by true is among = record { port = port; is = refl; side_is = takes_is side port.dir is; has = in_port g p port b among }
  by false is among = absurd among

port_on : (side : Side) (g : Region) (p : ℕ) (port : IoDesc) (b : Bit) → Takes side port.dir → InPort g p port b → Among b (side_bits side g p (Some port))
port_on side g p port b side_is has = subst (λ (t : Bool). Among b (cond t (bits_of_port g p port) [])) (sym (is_takes side port.dir side_is)) (port_in g p port b has)

side_rises : (side : Side) (g : Region) (p : ℕ) (o : Option IoDesc) → Rises PartBefore (side_bits side g p o)
side_rises side g p None = tt
side_rises side g p (Some port) = by (takes side port.dir) where
  by : (t : Bool) → Rises PartBefore (cond t (bits_of_port g p port) [])
  by true = port_rises g p port
  by false = tt

-- a bit of a region on a side
pub record OnRegion (m : MergedTop) (side : Side) (g : Region) (b : Bit) : Type 0 where
  pub in_region : InRegion m g b
  pub side_is : Takes side in_region.part.port.dir

pub in_region : (m : MergedTop) (side : Side) (g : Region) (b : Bit) → Among b (bits_of_region m side g) → OnRegion m side g b
unfolding bits_of_region
in_region m side g b among =
    let one = among_below (λ k. side_bits side g (g.first + k) (slice_get (ports_of m g.inst) (g.first + k))) (g.end - g.first) b among in
    let on = on_port side g (g.first + one.number) (slice_get (ports_of m g.inst) (g.first + one.number)) b one.found in
    let item = on.has.item in
    let less = one.less in
    let part : InPart (ports_of m g.inst) g b.item b.bit = record {
      from_first = omega (arith, item);
      before_end = omega (arith, item, less);
      from_low = on.has.low;
      before_high = on.has.high;
      port = on.port;
      is = subst (λ (p : ℕ). PortIs (ports_of m g.inst) p on.port) (sym item) on.is;
      within = on.has.within;
    } in
    record { in_region = record { instance = on.has.inst; part = part }; side_is = on.side_is }

pub region_in : (m : MergedTop) (side : Side) (g : Region) (b : Bit) → OnRegion m side g b → Among b (bits_of_region m side g)
unfolding bits_of_region
region_in m side g b on =
    let part = on.in_region.part in
    let from = part.from_first in
    let to = part.before_end in
    let place : g.first + (b.item - g.first) ≡ b.item = omega (arith, from) in
    let has : InPort g b.item part.port b = record { inst = on.in_region.instance; item = refl; low = part.from_low; high = part.before_high; within = part.within } in
    let here = port_on side g b.item part.port b on.side_is has in
    let at : slice_get (ports_of m g.inst) b.item ≡ Some part.port = part.is in
    let found = subst (λ (o : Option IoDesc). Among b (side_bits side g b.item o)) (sym at) here in
    below_among (λ k. side_bits side g (g.first + k) (slice_get (ports_of m g.inst) (g.first + k))) (g.end - g.first) b (b.item - g.first) (omega (arith, from, to))
    (subst (λ (p : ℕ). Among b (side_bits side g p (slice_get (ports_of m g.inst) p))) (sym place) found)

region_rises : (m : MergedTop) (side : Side) (g : Region) → Rises PartBefore (bits_of_region m side g)
unfolding bits_of_region
region_rises m side g =
    rises_below PartBefore (λ k. side_bits side g (g.first + k) (slice_get (ports_of m g.inst) (g.first + k))) (g.end - g.first)
    (λ k. side_rises side g (g.first + k) (slice_get (ports_of m g.inst) (g.first + k))) across
  where
    across : (i j : ℕ) (x y : Bit) → i < j → Among x (side_bits side g (g.first + i) (slice_get (ports_of m g.inst) (g.first + i)))
        → Among y (side_bits side g (g.first + j) (slice_get (ports_of m g.inst) (g.first + j))) → PartBefore x y
    across i j x y less a b =
        let item_x = (on_port side g (g.first + i) (slice_get (ports_of m g.inst) (g.first + i)) x a).has.item in
        let item_y = (on_port side g (g.first + j) (slice_get (ports_of m g.inst) (g.first + j)) y b).has.item in
        inl (omega (arith, item_x, item_y, less))

-- ---- the bits of a signal

joint_rises : (m : MergedTop) (side : Side) (joint : Joint) (o : Option Region) → Rises PartBefore (bits_of_joint m side joint o)
joint_rises m side Muxed (Some g) = region_rises m side g
joint_rises m side Muxed None = tt
joint_rises m side Direct o = tt
joint_rises m side Manual o = tt

signal_rises : (m : MergedTop) (side : Side) (o : Option Resolved) → Rises PartBefore (bits_of_signal m side o)
signal_rises m side None = tt
signal_rises m side (Some r) = joint_rises m side r.joint r.region

record OnJoint (m : MergedTop) (side : Side) (joint : Joint) (o : Option Region) (b : Bit) : Type 0 where
  region : Region
  is : o ≡ Some region
  muxed : joint ≡ Muxed
  on : OnRegion m side region b

on_joint : (m : MergedTop) (side : Side) (joint : Joint) (o : Option Region) (b : Bit) → Among b (bits_of_joint m side joint o) → OnJoint m side joint o b
on_joint m side Muxed (Some g) b among = record { region = g; is = refl; muxed = refl; on = in_region m side g b among }
on_joint m side Muxed None b among = absurd among
on_joint m side Direct o b among = absurd among
on_joint m side Manual o b among = absurd among

joint_on : (m : MergedTop) (side : Side) (joint : Joint) (o : Option Region) (b : Bit) → OnJoint m side joint o b → Among b (bits_of_joint m side joint o)
joint_on m side joint o b j =
    let here : Among b (bits_of_joint m side Muxed (Some j.region)) = region_in m side j.region b j.on in
    rw (j.muxed, j.is) here

-- ---- signals with their bits

abbrev pub tagged : ℕ → List Bit → List SignalBit
tagged s bits = map (λ b. record { signal = s; bit = b }) bits

-- the bits of the signals below n, each with its signal
unfoldable pub uses_below : MergedTop → Side → List Resolved → ℕ → List SignalBit
uses_below m side rs n = below (λ s. tagged s (bits_of_signal m side (slice_get rs s))) n

untag : (s : ℕ) (bits : List Bit) → map (λ (u : SignalBit). u.bit) (tagged s bits) ≡ bits
untag s [] = refl
untag s (b ∷ bits) = ap (λ (xs : List Bit). b ∷ xs) (untag s bits)

pub uses_bits : (m : MergedTop) (side : Side) (rs : List Resolved) (n : ℕ) → map (λ (u : SignalBit). u.bit) (uses_below m side rs n) ≡ bits_below m side rs n
unfolding uses_below
uses_bits m side rs n =
    map_below (λ (u : SignalBit). u.bit) (λ s. tagged s (bits_of_signal m side (slice_get rs s))) n
    ∙ below_same (λ s. map (λ (u : SignalBit). u.bit) (tagged s (bits_of_signal m side (slice_get rs s)))) (λ s. bits_of_signal m side (slice_get rs s)) (λ s. untag s (bits_of_signal m side (slice_get rs s))) n

uses_rise : (m : MergedTop) (side : Side) (rs : List Resolved) (n : ℕ) → Rises SignalBitBefore (uses_below m side rs n)
unfolding uses_below
uses_rise m side rs n = rises_below SignalBitBefore (λ s. tagged s (bits_of_signal m side (slice_get rs s))) n
    (λ s. rises_image PartBefore SignalBitBefore (λ b. record { signal = s; bit = b }) (λ a b before. inr (refl, before)) (bits_of_signal m side (slice_get rs s)) (signal_rises m side (slice_get rs s)))
    across
  where
    signal_of : (s : ℕ) (bits : List Bit) (u : SignalBit) → Among u (tagged s bits) → u.signal ≡ s
    signal_of s bits u among = let one = image_among (λ (b : Bit). record { signal = s; bit = b }) bits u among in ap (λ (x : SignalBit). x.signal) one.2

    across : (i j : ℕ) (x y : SignalBit) → i < j → Among x (tagged i (bits_of_signal m side (slice_get rs i))) → Among y (tagged j (bits_of_signal m side (slice_get rs j))) → SignalBitBefore x y
    across i j x y less a b =
        let at_x = signal_of i (bits_of_signal m side (slice_get rs i)) x a in
        let at_y = signal_of j (bits_of_signal m side (slice_get rs j)) y b in
        inl (omega (arith, at_x, at_y, less))

-- ---- what signals have

-- what the signal of a bit has
record SignalHas (m : MergedTop) (side : Side) (u : SignalBit) : Type 0 where
  signal : SignalDesc
  is : SignalIs m u.signal signal
  muxed : signal.joint ≡ Muxed
  has : HasBit m signal u.bit
  port : IoDesc
  there : PortIs (ports_of m u.bit.inst) u.bit.item port
  within : u.bit.bit < port.width
  side_is : Takes side port.dir

has_on : (m : MergedTop) (side : Side) (u : SignalBit) → SignalHas m side u → IsOn side m u
has_on m Inputs u h = record { signal = h.signal; is = h.is; muxed = h.muxed; has = h.has; port = h.port; of_port = port_bit m u.bit h.port h.there h.within; direction = h.side_is }
has_on m Outputs u h = record { signal = h.signal; is = h.is; muxed = h.muxed; has = h.has; port = h.port; of_port = port_bit m u.bit h.port h.there h.within; direction = h.side_is }

on_has : (m : MergedTop) (side : Side) (u : SignalBit) → IsOn side m u → SignalHas m side u
on_has m Inputs u i = record { signal = i.signal; is = i.is; muxed = i.muxed; has = i.has; port = i.port; there = bit_port m u.bit i.port i.of_port; within = i.of_port.within; side_is = i.direction }
on_has m Outputs u i = record { signal = i.signal; is = i.is; muxed = i.muxed; has = i.has; port = i.port; there = bit_port m u.bit i.port i.of_port; within = i.of_port.within; side_is = i.direction }

module _ (m : MergedTop) (side : Side) (rs : List Resolved) (are : AreResolved m rs) where
  -- the signal that is kept
  signal_at : (s : ℕ) (r : Resolved) → slice_get rs s ≡ Some r → (signal : SignalDesc) × SignalIs m s signal
  signal_at s r there = let within = slice_get_within rs s r there in let count = are.count in item_at m.top.signals s (omega (arith, within, count))

  kept_at : (s : ℕ) (signal : SignalDesc) → SignalIs m s signal → (r : Resolved) × (slice_get rs s ≡ Some r)
  kept_at s signal is = let within = slice_get_within m.top.signals s signal is in let count = are.count in item_at rs s (omega (arith, within, count))

  in_uses : (n : ℕ) (u : SignalBit) → Among u (uses_below m side rs n) → IsOn side m u × (u.signal < n)
  unfolding uses_below
  in_uses n u among =
      let one = among_below (λ s. tagged s (bits_of_signal m side (slice_get rs s))) n u among in
      let image = image_among (λ (b : Bit). record { signal = one.number; bit = b }) (bits_of_signal m side (slice_get rs one.number)) u one.found in
      let at : u.signal ≡ one.number = ap (λ (x : SignalBit). x.signal) image.2 in
      let bit : u.bit ≡ image.0 = ap (λ (x : SignalBit). x.bit) image.2 in
      let less = one.less in
      (by (slice_get rs one.number) refl at bit image.1, omega (arith, at, less))
    where
      by : {s : ℕ} {b : Bit} (o : Option Resolved) → slice_get rs s ≡ o → u.signal ≡ s → u.bit ≡ b → Among b (bits_of_signal m side o) → IsOn side m u
      by None there at bit among = absurd among
      by {s} {b} (Some r) there at bit among =
          let on = on_joint m side r.joint r.region b among in
          let signal = signal_at s r there in
          let kept = are.each s signal.0 r signal.1 there in
          let region : IsRegion m signal.0 (Some on.region) = subst (IsRegion m signal.0) on.is kept.region in
          let part = on.on.in_region.part in
          let inst = on.on.in_region.instance in
          has_on m side u (record {
            signal = signal.0;
            is = subst (λ (k : ℕ). SignalIs m k signal.0) (sym at) signal.1;
            muxed = sym kept.joint ∙ on.muxed;
            has = subst (HasBit m signal.0) (sym bit) ((region.just b).1 on.on.in_region);
            port = part.port;
            there = subst (λ (x : Bit). PortIs (ports_of m x.inst) x.item part.port) (sym bit) (subst (λ (i : ℕ). PortIs (ports_of m i) b.item part.port) (sym inst) part.is);
            within = subst (λ (x : Bit). x.bit < part.port.width) (sym bit) part.within;
            side_is = on.on.side_is;
          })

  uses_in : (n : ℕ) (u : SignalBit) → IsOn side m u → u.signal < n → Among u (uses_below m side rs n)
  unfolding uses_below
  uses_in n u on less =
      let h = on_has m side u on in
      let r = kept_at u.signal h.signal h.is in
      let kept = are.each u.signal h.signal r.0 h.is r.1 in
      let bits : Among u.bit (bits_of_signal m side (Some r.0)) = by h r.0 kept r.0.region refl in
      let bits' : Among u.bit (bits_of_signal m side (slice_get rs u.signal)) = subst (λ (o : Option Resolved). Among u.bit (bits_of_signal m side o)) (sym r.1) bits in
      below_among (λ s. tagged s (bits_of_signal m side (slice_get rs s))) n u u.signal less (among_image (λ (b : Bit). record { signal = u.signal; bit = b }) (bits_of_signal m side (slice_get rs u.signal)) u.bit bits')
    where
      by : (h : SignalHas m side u) (r : Resolved) → IsResolved m h.signal r → (o : Option Region) → r.region ≡ o → Among u.bit (bits_of_signal m side (Some r))
      by h r kept None is = let none : IsRegion m h.signal None = subst (IsRegion m h.signal) is kept.region in absurd (none u.bit h.has)
      by h r kept (Some g) is =
          let region : IsRegion m h.signal (Some g) = subst (IsRegion m h.signal) is kept.region in
          let within = (region.just u.bit).0 h.has in
          let there : PortIs (ports_of m g.inst) u.bit.item h.port = subst (λ (i : ℕ). PortIs (ports_of m i) u.bit.item h.port) within.instance h.there in
          let same : h.port ≡ within.part.port = same_item (ports_of m g.inst) u.bit.item h.port within.part.port there within.part.is in
          let on : OnRegion m side g u.bit = record { in_region = within; side_is = subst (λ (io : IoDesc). Takes side io.dir) same h.side_is } in
          joint_on m side r.joint r.region u.bit (record { region = g; is = is; muxed = kept.joint ∙ h.muxed; on = on })

  -- the bits of the signals below n
  pub uses_are : (n : ℕ) → AreSignalBits (λ u. IsOn side m u × (u.signal < n)) (uses_below m side rs n)
  uses_are n = record {
    members = λ u. (in_uses n u, λ on. uses_in n u on.0 on.1);
    in_order = numbers_by_rises SignalBitBefore (uses_below m side rs n) (uses_rise m side rs n);
  }

  -- those up to signal s
  uses_up_to : (s : ℕ) → AreSignalBits (λ u. IsOn side m u × (u.signal ≤ s)) (uses_below m side rs (suc s))
  uses_up_to s = let are_they = uses_are (suc s) in record {
    members = λ u. (λ among. let on = (are_they.members u).0 among in let less = on.1 in (on.0, omega (arith, less)), λ on. let most = on.1 in (are_they.members u).1 (on.0, omega (arith, most)));
    in_order = are_they.in_order;
  }

  count_is : (n : ℕ) → length (uses_below m side rs n) ≡ length (bits_below m side rs n)
  count_is n = sym (length-map (uses_below m side rs n) (λ (u : SignalBit). u.bit)) ∙ ap length (uses_bits m side rs n)

  -- the signals up to s pass the limit
  pub passes_limit : (s : ℕ) → PassesLimit (IsOn side m) s → 65536 < length (bits_below m side rs (suc s))
  passes_limit s (bits, are_bits, more) =
      let same = one_uses (λ u. IsOn side m u × (u.signal ≤ s)) bits (uses_below m side rs (suc s)) are_bits (uses_up_to s) in
      let count = ap length same ∙ count_is (suc s) in
      omega (arith, count, more)

  pub limit_passes : (s : ℕ) → 65536 < length (bits_below m side rs (suc s)) → PassesLimit (IsOn side m) s
  limit_passes s more = let count = count_is (suc s) in (uses_below m side rs (suc s), uses_up_to s, omega (arith, count, more))

  -- all of them
  pub numbered : (bits : List Bit) → bits ≡ bits_below m side rs (length rs) → AreNumbered (IsOn side m) bits
  numbered bits is = record {
    uses = uses_below m side rs (length rs);
    just = record {
      members = λ u. (λ among. (((uses_are (length rs)).members u).0 among).0, λ on. ((uses_are (length rs)).members u).1 (on, within u on));
      in_order = (uses_are (length rs)).in_order;
    };
    bits_are = uses_bits m side rs (length rs) ∙ sym is;
  } where
    within : (u : SignalBit) → IsOn side m u → u.signal < length rs
    within u on =
        let h = on_has m side u on in
        let r = kept_at u.signal h.signal h.is in
        slice_get_within rs u.signal r.0 r.1
