-- The crossbar that is written out meets every premise of the law, so that the law is not empty.
use Rattle.std.proofs.Common.{◌≡◌, ℕ, zero, suc, ◌+◌, ◌^◌, ◌≤◌, ◌<◌, Bool, true, false, cond, ◌⊎◌, inl, inr, List, [], ◌∷◌, ◌++◌, refl, ap, sym, subst, ◌∙◌, length, arith, codes, Option, Some, None}
use Rattle.std.specs.Prelude.{slice_get}
use Rattle.std.specs.Str.{bytes_eq}
use Rattle.cg_svspec.specs.Names.{Among, first_repeat, module_names}
use Rattle.cg_svspec.specs.Printable.{AllOf, IsSomeOf}
use Rattle.cg_desc.specs.Crossbar.{NodeIs, IsHost, IsDevice, Connects, IsShortName, IsNodeName, IsValidRange, IsValidNode, IsValidCrossbar}
use Rattle.cg_desc.specs.declared.crossbar.Range.{Range}
use Rattle.cg_desc.specs.declared.crossbar.NodeDesc.{NodeDesc}
use Rattle.cg_desc.specs.declared.crossbar.NodeRanges.{NodeRanges}
use Rattle.cg_busspec.specs.CrossbarMeaning.{CrossbarMeans}
use Rattle.cg_busspec.specs.Ranges.{IsRange, RangeHolds, RangesAre, HasAddress, AreRangesOf}
use Rattle.cg_busspec.proofs.Examples.{somewhere, range, host_node, device_node, ranges_of, small, small_ranges, small_module, small_names}
use Rattle.cg_busspec.proofs.Law.{crossbar_module_means}

-- ---- the four nodes

-- a host on the crossbar's clock
abbrev cpu : NodeDesc
cpu = host_node (codes "cpu") (codes "clk_i") (2 ∷ 3 ∷ [])

-- a host on another
abbrev dma : NodeDesc
dma = host_node (codes "dma") (codes "clk_dma") (3 ∷ [])

-- a device on another
abbrev uart : NodeDesc
uart = device_node (codes "io.uart") (codes "clk_io")

-- a device on the crossbar's
abbrev ram : NodeDesc
ram = device_node (codes "ram") (codes "clk_i")

-- a node by its number
data Numbered : ℕ → NodeDesc → Type 0 where
  zeroth : Numbered 0 cpu
  first : Numbered 1 dma
  second : Numbered 2 uart
  third : Numbered 3 ram

-- there are no others
numbered : (i : ℕ) (n : NodeDesc) → NodeIs small i n → Numbered i n
numbered zero n e = let same : cpu ≡ n = cc in subst (Numbered 0) same zeroth
numbered (suc zero) n e = let same : dma ≡ n = cc in subst (Numbered 1) same first
numbered (suc (suc zero)) n e = let same : uart ≡ n = cc in subst (Numbered 2) same second
numbered (suc (suc (suc zero))) n e = let same : ram ≡ n = cc in subst (Numbered 3) same third
numbered (suc (suc (suc (suc i)))) n e = cc

-- who connects to whom
data Connected : ℕ → ℕ → Type 0 where
  cpu_uart : Connected 0 2
  cpu_ram : Connected 0 3
  dma_ram : Connected 1 3

-- what the first host connects to
from_cpu : (d : ℕ) → Among d (2 ∷ 3 ∷ []) → Connected 0 d
from_cpu d (inl e) = subst (Connected 0) (sym e) cpu_uart
from_cpu d (inr (inl e)) = subst (Connected 0) (sym e) cpu_ram
from_cpu d (inr (inr a)) = absurd a

-- and the second
from_dma : (d : ℕ) → Among d (3 ∷ []) → Connected 1 d
from_dma d (inl e) = subst (Connected 1) (sym e) dma_ram
from_dma d (inr a) = absurd a

-- there are no other pairs
connected : (h d : ℕ) → Connects small h d → Connected h d
connected h d c = by h c.0 (numbered h c.0 c.1) c.2 c.3 where
  by : (h : ℕ) (n : NodeDesc) → Numbered h n → n.host ≡ true → Among d n.to → Connected h d
  by _ _ zeroth t a = from_cpu d a
  by _ _ first t a = from_dma d a
  by _ _ second t a = absurd a
  by _ _ third t a = absurd a

-- the devices
data Device : ℕ → Type 0 where
  is_uart : Device 2
  is_ram : Device 3

-- there are no others
device : (d : ℕ) → IsDevice small d → Device d
device d is = by d is.0 (numbered d is.0 is.1) is.2 where
  by : (d : ℕ) (n : NodeDesc) → Numbered d n → n.host ≡ false → Device d
  by _ _ zeroth t = cc
  by _ _ first t = cc
  by _ _ second t = is_uart
  by _ _ third t = is_ram

-- ---- the crossbar is valid

-- each node is valid
valid_node : (i : ℕ) (n : NodeDesc) → Numbered i n → IsValidNode n
valid_node _ _ zeroth = record {
  name = inl (((refl, (refl, (refl, tt))), refl), omega arith);
  clock = (((refl, (refl, (refl, (refl, (refl, tt))))), refl), omega arith);
  few_ranges = omega arith;
  ranges = λ r a. absurd a;
}
valid_node _ _ first = record {
  name = inl (((refl, (refl, (refl, tt))), refl), omega arith);
  clock = (((refl, (refl, (refl, (refl, (refl, (refl, (refl, tt))))))), refl), omega arith);
  few_ranges = omega arith;
  ranges = λ r a. absurd a;
}
valid_node _ _ second = record {
  name = inr (codes "io", codes "uart", (((refl, (refl, tt)), refl), omega arith), (((refl, (refl, (refl, (refl, tt)))), refl), omega arith), refl);
  clock = (((refl, (refl, (refl, (refl, (refl, (refl, tt)))))), refl), omega arith);
  few_ranges = omega arith;
  ranges = λ r a. absurd a;
}
valid_node _ _ third = record {
  name = inl (((refl, (refl, (refl, tt))), refl), omega arith);
  clock = (((refl, (refl, (refl, (refl, (refl, tt))))), refl), omega arith);
  few_ranges = omega arith;
  ranges = λ r a. absurd a;
}

-- so is each member
valid_member : (n : NodeDesc) → Among n small.nodes → IsValidNode n
valid_member n (inl e) = subst IsValidNode (sym e) (valid_node 0 cpu zeroth)
valid_member n (inr (inl e)) = subst IsValidNode (sym e) (valid_node 1 dma first)
valid_member n (inr (inr (inl e))) = subst IsValidNode (sym e) (valid_node 2 uart second)
valid_member n (inr (inr (inr (inl e)))) = subst IsValidNode (sym e) (valid_node 3 ram third)
valid_member n (inr (inr (inr (inr a)))) = absurd a

-- a name tells its node's number
abbrev number_of : List ℕ → ℕ
number_of n = cond (bytes_eq n (codes "cpu")) 0 (cond (bytes_eq n (codes "dma")) 1 (cond (bytes_eq n (codes "ram")) 3 2))

-- it is the number
number_by_name : (i : ℕ) (n : NodeDesc) → Numbered i n → number_of n.name ≡ i
number_by_name _ _ zeroth = refl
number_by_name _ _ first = refl
number_by_name _ _ second = refl
number_by_name _ _ third = refl

-- of a host's devices, a number tells its place
place_of_two : (i d : ℕ) → slice_get (2 ∷ 3 ∷ []) i ≡ Some d → d ≡ i + 2
place_of_two zero d e = let same : 2 ≡ d = cc in omega (arith, same)
place_of_two (suc zero) d e = let same : 3 ≡ d = cc in omega (arith, same)
place_of_two (suc (suc i)) d e = cc

-- of one device
place_of_one : (i d : ℕ) → slice_get (3 ∷ []) i ≡ Some d → i ≡ 0
place_of_one zero d e = refl
place_of_one (suc i) d e = cc

-- so each device stands once
once : (h i j d : ℕ) (n : NodeDesc) → Numbered h n → slice_get n.to i ≡ Some d → slice_get n.to j ≡ Some d → i ≡ j
once _ i j d _ zeroth p q = omega (arith, place_of_two i d p, place_of_two j d q)
once _ i j d _ first p q = omega (arith, place_of_one i d p, place_of_one j d q)
once _ i j d _ second p q = cc
once _ i j d _ third p q = cc

-- what a host connects to is a device
devices_only : (h d : ℕ) → Connected h d → IsDevice small d
devices_only _ _ cpu_uart = (uart, refl, refl)
devices_only _ _ cpu_ram = (ram, refl, refl)
devices_only _ _ dma_ram = (ram, refl, refl)

-- a device connects to none
no_device_of_device : (i : ℕ) (n : NodeDesc) → Numbered i n → n.host ≡ false → n.to ≡ []
no_device_of_device _ _ zeroth t = cc
no_device_of_device _ _ first t = cc
no_device_of_device _ _ second t = refl
no_device_of_device _ _ third t = refl

-- each host to some
some_device : (h : ℕ) (n : NodeDesc) → Numbered h n → n.host ≡ true → (d : ℕ) × Connects small h d
some_device _ _ zeroth t = (2, (cpu, refl, refl, inl refl))
some_device _ _ first t = (3, (dma, refl, refl, inl refl))
some_device _ _ second t = cc
some_device _ _ third t = cc

-- and to each device some host
some_host : (d : ℕ) → Device d → (h : ℕ) × Connects small h d
some_host _ is_uart = (0, (cpu, refl, refl, inl refl))
some_host _ is_ram = (1, (dma, refl, refl, inl refl))

-- all together
small_is_valid : IsValidCrossbar small
small_is_valid = record {
  name = (((refl, (refl, (refl, (refl, tt)))), refl), omega arith);
  clock = (((refl, (refl, (refl, (refl, (refl, tt))))), refl), omega arith);
  few_nodes = omega arith;
  nodes = valid_member;
  names_differ = λ i j a b p q e. sym (number_by_name i a (numbered i a p)) ∙ (ap number_of e ∙ number_by_name j b (numbered j b q));
  devices_only = λ h d c. devices_only h d (connected h d c);
  once = λ h i j d n e p q. once h i j d n (numbered h n e) p q;
  only_hosts = λ i n e t. no_device_of_device i n (numbered i n e) t;
  some_device = λ h is. some_device h is.0 (numbered h is.0 is.1) is.2;
  some_host = λ d is. some_host d (device d is);
}

-- ---- its ranges

-- the ranges of its devices
data DeviceRanges : ℕ → NodeRanges → Type 0 where
  of_uart : DeviceRanges 2 (ranges_of (range 1073741824 64 ∷ []))
  of_ram : DeviceRanges 3 (ranges_of (range 268435456 4096 ∷ range 536870912 65536 ∷ []))

-- there are no others
device_ranges : (d : ℕ) (rs : NodeRanges) → Device d → RangesAre small_ranges d rs → DeviceRanges d rs
device_ranges _ rs is_uart e = let same : ranges_of (range 1073741824 64 ∷ []) ≡ rs = cc in subst (DeviceRanges 2) same of_uart
device_ranges _ rs is_ram e = let same : ranges_of (range 268435456 4096 ∷ range 536870912 65536 ∷ []) ≡ rs = cc in subst (DeviceRanges 3) same of_ram

-- there are some
some_range : (d : ℕ) (rs : NodeRanges) → DeviceRanges d rs → IsSomeOf rs.ranges
some_range _ _ of_uart = tt
some_range _ _ of_ram = tt

-- of good shape
shapes : (d : ℕ) (rs : NodeRanges) → DeviceRanges d rs → AllOf IsRange rs.ranges
shapes _ _ of_uart = (record { power = 6; size_is = refl; some = omega arith; turn = 16777216; aligned = refl; ends = omega arith }, tt)
shapes _ _ of_ram = (
  record { power = 12; size_is = refl; some = omega arith; turn = 65536; aligned = refl; ends = omega arith },
  (record { power = 16; size_is = refl; some = omega arith; turn = 8192; aligned = refl; ends = omega arith }, tt),
)

-- an address that two ranges hold
both_hold : (b s c t a : ℕ) → b + s ≤ c → RangeHolds (range b s) a → RangeHolds (range c t) a → ⊥
both_hold b s c t a apart p q = absurd (omega (arith, p.1, q.0, apart))

-- one range has one place
one_range : (i j : ℕ) (x r s : Range) → slice_get (x ∷ []) i ≡ Some r → slice_get (x ∷ []) j ≡ Some s → i ≡ j
one_range zero zero x r s p q = refl
one_range zero (suc j) x r s p q = cc
one_range (suc i) j x r s p q = cc

-- two ranges apart hold no address both
two_ranges : (b t c u a i j : ℕ) (r s : Range) → b + t ≤ c → slice_get (range b t ∷ range c u ∷ []) i ≡ Some r → slice_get (range b t ∷ range c u ∷ []) j ≡ Some s
    → RangeHolds r a → RangeHolds s a → i ≡ j
two_ranges b t c u a zero zero r s apart p q k l = refl
two_ranges b t c u a (suc zero) (suc zero) r s apart p q k l = refl
two_ranges b t c u a zero (suc zero) r s apart p q k l =
    let low : range b t ≡ r = cc in let high : range c u ≡ s = cc in
    absurd (both_hold b t c u a apart (subst (λ z. RangeHolds z a) (sym low) k) (subst (λ z. RangeHolds z a) (sym high) l))
two_ranges b t c u a (suc zero) zero r s apart p q k l =
    let high : range c u ≡ r = cc in let low : range b t ≡ s = cc in
    absurd (both_hold b t c u a apart (subst (λ z. RangeHolds z a) (sym low) l) (subst (λ z. RangeHolds z a) (sym high) k))
two_ranges b t c u a (suc (suc i)) j r s apart p q k l = cc
two_ranges b t c u a zero (suc (suc j)) r s apart p q k l = cc
two_ranges b t c u a (suc zero) (suc (suc j)) r s apart p q k l = cc

-- so no device has an address twice
ranges_differ : (d i j a : ℕ) (rs : NodeRanges) (r s : Range) → DeviceRanges d rs → slice_get rs.ranges i ≡ Some r → slice_get rs.ranges j ≡ Some s → RangeHolds r a → RangeHolds s a → i ≡ j
ranges_differ _ i j a _ r s of_uart p q k l = one_range i j (range 1073741824 64) r s p q
ranges_differ _ i j a _ r s of_ram p q k l = two_ranges 268435456 4096 536870912 65536 a i j r s (omega arith) p q k l

-- the addresses of the two devices
uart_low : (a : ℕ) → HasAddress small_ranges 2 a → 1073741824 ≤ a
uart_low a h = by h.0 (device_ranges 2 h.0 is_uart h.1) h.2 h.3 h.4 where
  in_one : (r : Range) → Among r (range 1073741824 64 ∷ []) → RangeHolds r a → 1073741824 ≤ a
  in_one r (inl e) k = (subst (λ z. RangeHolds z a) e k).0
  in_one r (inr m) k = absurd m

  by : (rs : NodeRanges) → DeviceRanges 2 rs → (r : Range) → Among r rs.ranges → RangeHolds r a → 1073741824 ≤ a
  by _ of_uart r m k = in_one r m k

-- and of the second below
ram_high : (a : ℕ) → HasAddress small_ranges 3 a → a < 1073741824
ram_high a h = by h.0 (device_ranges 3 h.0 is_ram h.1) h.2 h.3 h.4 where
  in_two : (r : Range) → Among r (range 268435456 4096 ∷ range 536870912 65536 ∷ []) → RangeHolds r a → a < 1073741824
  in_two r (inl e) k = let h = (subst (λ z. RangeHolds z a) e k).1 in omega (arith, h)
  in_two r (inr (inl e)) k = let h = (subst (λ z. RangeHolds z a) e k).1 in omega (arith, h)
  in_two r (inr (inr m)) k = absurd m

  by : (rs : NodeRanges) → DeviceRanges 3 rs → (r : Range) → Among r rs.ranges → RangeHolds r a → a < 1073741824
  by _ of_ram r m k = in_two r m k

-- so no host has an address twice
apart : (h d e a : ℕ) → Connected h d → Connected h e → HasAddress small_ranges d a → HasAddress small_ranges e a → d ≡ e
apart _ _ _ a cpu_uart cpu_uart p q = refl
apart _ _ _ a cpu_uart cpu_ram p q = absurd (omega (arith, uart_low a p, ram_high a q))
apart _ _ _ a cpu_ram cpu_uart p q = absurd (omega (arith, uart_low a q, ram_high a p))
apart _ _ _ a cpu_ram cpu_ram p q = refl
apart _ _ _ a dma_ram dma_ram p q = refl

-- all together
small_ranges_are : AreRangesOf small small_ranges
small_ranges_are = record {
  count = refl;
  some = λ d rs is e. some_range d rs (device_ranges d rs (device d is) e);
  shapes = λ d rs is e. shapes d rs (device_ranges d rs (device d is) e);
  differ = λ d i j a rs r s is e p q k l. ranges_differ d i j a rs r s (device_ranges d rs (device d is) e) p q k l;
  apart = λ h d e a c b p q. apart h d e a (connected h d c) (connected h e b) p q;
}

-- So its module is the crossbar.
small_means : CrossbarMeans small_module small small_ranges
small_means = crossbar_module_means small small_ranges small_is_valid small_ranges_are small_names
