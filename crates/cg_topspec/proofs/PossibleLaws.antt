-- The premises of the laws are met by the plain top: its ties, no violation, no clash, and its modules.
use Rattle.std.proofs.Common.{List, None, Some, [], ap, arith, codes, false, inl, inr, length, refl, slice_get, subst, suc, sym, true, zero, ℕ, ◌<◌, ◌∷◌, ◌≡◌, ◌⊎◌}
use Rattle.cg_busspec.specs.Crossbar.{crossbar_of as with_ranges, devices, feeders, has_fifo, hosts, is_joined, label, reach}
use Rattle.cg_busspec.specs.CrossbarModule.{bundle, clocks, crossbar_entries, crossbar_module, crossbar_ports, joined_link, lane, power_of, range_term, socket_link, split_instance}
use Rattle.cg_clkrst.specs.Ports.{TiePort, clock_of, uses_of}
use Rattle.cg_clkrst.specs.Ties.{HasSource}
use Rattle.cg_clkrst.specs.declared.tie.Tie.{Tie}
use Rattle.cg_desc.specs.Crossbar.{Connects, NodeIs}
use Rattle.cg_desc.specs.Merged.{BlockAt, EndAt, NodeAt}
use Rattle.cg_desc.specs.Ranges.{IsRange}
use Rattle.cg_desc.specs.Reach.{HasRanges, interface, nested, outside}
use Rattle.cg_desc.specs.declared.block.LaidBlock.{LaidBlock}
use Rattle.cg_desc.specs.declared.crossbar.NodeDesc.{NodeDesc}
use Rattle.cg_desc.specs.declared.crossbar.NodeRanges.{NodeRanges}
use Rattle.cg_desc.specs.declared.crossbar.Range.{Range}
use Rattle.cg_desc.specs.declared.crossbar.XbarDesc.{XbarDesc}
use Rattle.cg_desc.specs.declared.top.NodeEnd.TheVariants.{Outside}
use Rattle.cg_space.specs.Answers.{AreNodeRanges}
use Rattle.cg_space.specs.Rows.{IsMapHost}
use Rattle.cg_space.specs.Violations.{DeviceAt, IsBadList, NoViolation, ShareWithin, SharesWithEarlier, Violates}
use Rattle.cg_svspec.specs.Bits.{Bits}
use Rattle.cg_svspec.specs.Names.{Among, first_repeat, module_names}
use Rattle.cg_svspec.specs.Tree.{Module}
use Rattle.cg_svspec.specs.Walk.{module_named}
use Rattle.cg_topspec.proofs.Examples.{no_numbers, no_pins}
use Rattle.cg_topspec.proofs.Law.{requests_come}
use Rattle.cg_topspec.proofs.Possible.{both, cpu, either, end_is_outside, in_main, main, node_in_main, nothing_there, only, plain, plain_is_merged, ram, used, words}
use Rattle.cg_topspec.specs.Clashes.{clash_lists, file_names, first_clash, known_modules}
use Rattle.cg_topspec.specs.Fits.{FitsTop}
use Rattle.cg_topspec.specs.Modules.{HasCrossbarModule, HasModules}
use Rattle.cg_topspec.specs.Nets.{own_link}
use Rattle.cg_topspec.specs.TopModule.{top_module}
use Rattle.cg_topspec.specs.Ways.{Comes}
use Rattle.cg_clkrst.specs.declared.tie.Owner.TheVariants as owner

abbrev clock : Tie
clock = record { owner = owner.Xbar 0; reset = false; port = codes "k"; source = codes "s" }

no_block : (i : ℕ) (block : LaidBlock) → BlockAt plain i block → ⊥
no_block i block at = nothing_there at.0 i at.1

abbrev main_clock : TiePort
main_clock = clock_of (owner.Xbar 0) (codes "k")

same_port : (p : TiePort) → Among p (uses_of plain) → Among p (main_clock ∷ [])
same_port p (inl e) = inl e
same_port p (inr (inl e)) = inl e
same_port p (inr (inr (inl e))) = inl e
same_port p (inr (inr (inr a))) = absurd a

port_used : (p : TiePort) → Among p (main_clock ∷ []) → Among p (uses_of plain)
port_used p (inl e) = inl e
port_used p (inr a) = absurd a

fits : FitsTop plain no_numbers (clock ∷ []) no_pins
fits = record {
  merged = plain_is_merged;
  numbers_are = record {
    interrupts = record { members = λ b. (λ a. absurd a, λ is. absurd (no_block b.inst is.is.0 is.is.1)); in_order = λ i j a b p q less. absurd (nothing_there a i p) };
    alerts = record { members = λ b. (λ a. absurd a, λ is. absurd (no_block b.inst is.is.0 is.is.1)); in_order = λ i j a b p q less. absurd (nothing_there a i p) };
  };
  ties_are = record {
    ports = record { members = λ p. (port_used p, same_port p); in_order = λ i j a b p q less. absurd (omega (arith, less, (only main_clock a i p).0, (only main_clock b j q).0)) };
    sources = (HasSource.crossbar_clock 0 used (codes "k") (codes "s") refl (record { named = refl; there = inl refl }), tt);
  };
  pins_are = record {
    inputs = record { uses = []; just = record { members = λ b. (λ a. absurd a, λ is. absurd (nothing_there is.signal b.signal is.is)); in_order = λ i j a b p q less. absurd (nothing_there a i p) }; bits_are = refl };
    outputs = record { uses = []; just = record { members = λ b. (λ a. absurd a, λ is. absurd (nothing_there is.signal b.signal is.is)); in_order = λ i j a b p q less. absurd (nothing_there a i p) }; bits_are = refl };
    pads = record { uses = []; members = λ t. (λ a. absurd a, λ is. absurd (nothing_there is.signal t.signal is.is)); in_order = λ i j a b p q less. absurd (nothing_there a i p); ties_are = refl };
  };
}

no_clash : first_clash (clash_lists plain no_numbers (clock ∷ []) no_pins) ≡ None
unfolding clash_lists known_modules file_names top_module own_link
no_clash = refl

-- ---- no violation

words_fit : IsRange words
words_fit = record { power = 4; size_is = refl; some = omega arith; turn = 1; aligned = refl; ends = omega arith }

-- a device is the one that is there
the_device : (n : ℕ) (node : NodeDesc) → ((n ≡ 0) × (cpu ≡ node)) ⊎ ((n ≡ 1) × (ram ≡ node)) → node.host ≡ false → (n ≡ 1) × (ram ≡ node)
the_device n node (inl k) e = absurd (both node.host e (ap (λ (d : NodeDesc). d.host) (sym k.1)))
the_device n node (inr k) e = k

ranges_are : (x n : ℕ) (rs : List Range) → n ≡ 1 → HasRanges plain x n rs → words ∷ [] ≡ rs
ranges_are x n rs one (interface i f base face stands face_is base_is) = absurd (let bad = end_is_outside x n _ stands in cc)
ranges_are x n rs one (outside node at stands) = by (node_in_main n node (in_main x n node at).1) where
  by : ((n ≡ 0) × (cpu ≡ node)) ⊎ ((n ≡ 1) × (ram ≡ node)) → words ∷ [] ≡ node.ranges
  by (inl k) = absurd (omega (arith, k.0, one))
  by (inr k) = ap (λ (d : NodeDesc). d.ranges) k.1
ranges_are x n rs one (nested y k host stands inner have) = absurd (let bad = end_is_outside x n _ stands in cc)

device_is : (x n : ℕ) (xbar : XbarDesc) (node : NodeDesc) → DeviceAt plain x n xbar node → (n ≡ 1) × (ram ≡ node) × (main ≡ xbar)
device_is x n xbar node d =
    let c = only main xbar x d.crossbar_is in
    let k = the_device n node (node_in_main n node (subst (λ (z : XbarDesc). NodeIs z n node) (sym c.1) d.is)) d.is_device in (k.0, k.1, c.1)

unbroken : NoViolation plain
unbroken f (Violates.circle x n xbar node device round) = absurd (let bad = end_is_outside x n _ round.stands in cc)
unbroken f (Violates.bad_range x n xbar node free device (rs, has, bad)) = wrong (subst IsBadList (sym (ranges_are x n rs (device_is x n xbar node device).0 has)) bad) where
  wrong : IsBadList (words ∷ []) → ⊥
  wrong (inl e) = absurd cc
  wrong (inr (r, inl e, not)) = not (subst IsRange (sym e) words_fit)
  wrong (inr (r, inr a, not)) = a
unbroken f (Violates.overlap x n xbar node free device (rs, has, shared)) = by shared where
  one : n ≡ 1
  one = (device_is x n xbar node device).0

  xbar_is : main ≡ xbar
  xbar_is = (device_is x n xbar node device).2

  its : words ∷ [] ≡ rs
  its = ranges_are x n rs (device_is x n xbar node device).0 has

  to_one : (h d : ℕ) → Connects xbar h d → d ≡ 1
  to_one h d c = pick (node_in_main h c.0 (subst (λ (z : XbarDesc). NodeIs z h c.0) (sym (device_is x n xbar node device).2) c.1)) c.3 where
    pick : ((h ≡ 0) × (cpu ≡ c.0)) ⊎ ((h ≡ 1) × (ram ≡ c.0)) → Among d c.0.to → d ≡ 1
    pick (inl k) a = of (subst (λ (z : NodeDesc). Among d z.to) (sym k.1) a) where
      of : Among d (1 ∷ []) → d ≡ 1
      of (inl e) = e
      of (inr b) = absurd b
    pick (inr k) a = absurd (subst (λ (z : NodeDesc). Among d z.to) (sym k.1) a)

  by : ShareWithin rs ⊎ SharesWithEarlier plain x n xbar rs → ⊥
  by (inl (j, s)) =
      let at_i = only words s.earlier s.i (subst (λ (l : List Range). slice_get l s.i ≡ Some s.earlier) (sym (ranges_are x n rs (device_is x n xbar node device).0 has)) s.earlier_is) in
      let at_j = only words s.later j (subst (λ (l : List Range). slice_get l j ≡ Some s.later) (sym (ranges_are x n rs (device_is x n xbar node device).0 has)) s.later_is) in
      absurd (omega (arith, s.order, at_i.0, at_j.0))
  by (inr s) = absurd (omega (arith, s.order, to_one s.host s.device s.to_earlier, (device_is x n xbar node device).0))

-- ---- its modules

abbrev main_ranges : List NodeRanges
main_ranges = record { ranges = [] } ∷ record { ranges = words ∷ [] } ∷ []

abbrev main_module : Module
main_module = crossbar_module (with_ranges main main_ranges)

main_found : module_named (top_module plain no_numbers (clock ∷ []) no_pins ∷ main_module ∷ []) (codes "xbar_m") ≡ Some main_module
unfolding crossbar_module top_module
main_found = refl

main_names : first_repeat (module_names main_module) ≡ None
unfolding crossbar_module crossbar_ports crossbar_entries clocks hosts devices label reach feeders is_joined has_fifo socket_link joined_link lane power_of range_term split_instance bundle
main_names = refl

its_ranges : AreNodeRanges plain 0 main_ranges
its_ranges = record {
  count = λ xbar at. ap (λ (c : XbarDesc). length c.nodes) (only main xbar 0 at).1;
  devices = λ n node entry at device there. a_device n node entry at device there;
  hosts = λ n node entry at host there. a_host n node entry (node_in_main n node (in_main 0 n node at).1) host there;
} where
  a_device : (n : ℕ) (node : NodeDesc) (entry : NodeRanges) → NodeAt plain 0 n node → node.host ≡ false → slice_get main_ranges n ≡ Some entry → HasRanges plain 0 n entry.ranges
  a_device n node entry at device there =
      let k = the_device n node (node_in_main n node (in_main 0 n node at).1) device in
      by k.0 k.1 (either (record { ranges = [] }) (record { ranges = words ∷ [] }) entry n there) where
        by : n ≡ 1 → ram ≡ node → ((n ≡ 0) × (record { ranges = [] } ≡ entry)) ⊎ ((n ≡ 1) × (record { ranges = words ∷ [] } ≡ entry)) → HasRanges plain 0 n entry.ranges
        by one same (inl e) = absurd (omega (arith, one, e.0))
        by one same (inr e) =
            subst (λ (r : NodeRanges). HasRanges plain 0 n r.ranges) e.1
            (subst (λ (d : NodeDesc). HasRanges plain 0 n d.ranges) (sym same) (outside node at (subst (λ k. EndAt plain 0 k Outside) (sym one) (record { ends = Outside ∷ Outside ∷ [] }, refl, refl))))

  a_host : (n : ℕ) (node : NodeDesc) (entry : NodeRanges) → ((n ≡ 0) × (cpu ≡ node)) ⊎ ((n ≡ 1) × (ram ≡ node)) → node.host ≡ true → slice_get main_ranges n ≡ Some entry → entry.ranges ≡ []
  a_host n node entry (inr k) host there = absurd (both node.host (ap (λ (d : NodeDesc). d.host) (sym k.1)) host)
  a_host n node entry (inl k) host there = by (either (record { ranges = [] }) (record { ranges = words ∷ [] }) entry n there) where
    by : ((n ≡ 0) × (record { ranges = [] } ≡ entry)) ⊎ ((n ≡ 1) × (record { ranges = words ∷ [] } ≡ entry)) → entry.ranges ≡ []
    by (inl e) = ap (λ (r : NodeRanges). r.ranges) (sym e.1)
    by (inr e) = absurd (omega (arith, k.0, e.0))

its_modules : HasModules plain (top_module plain no_numbers (clock ∷ []) no_pins ∷ main_module ∷ [])
its_modules = record { crossbars = at; registers = λ block face a b. absurd a; types = λ block a. absurd a } where
  at : (x : ℕ) → x < 1 → HasCrossbarModule plain (top_module plain no_numbers (clock ∷ []) no_pins ∷ main_module ∷ []) x
  at zero less = record { ranges = main_ranges; are_its = its_ranges; found = main_found; no_repeat = main_names }
  at (suc x) less = absurd (omega (arith, less))

-- ---- so the law speaks of it

-- every request of its host comes to what the address map says
plain_requests : (request : Bits) → length request ≡ 70 → Comes plain no_numbers (clock ∷ []) no_pins (main_module ∷ []) 0 0 (codes "c") request
plain_requests request sized = requests_come plain no_numbers (clock ∷ []) no_pins (main_module ∷ []) fits unbroken no_clash its_modules 0 0 host request sized where
  host : IsMapHost plain 0 0
  host = record { host = cpu; is = record { crossbar = main; crossbar_is = refl; is = refl }; is_host = refl; end = Outside; stands = (record { ends = Outside ∷ Outside ∷ [] }, refl, refl); plain = tt }
