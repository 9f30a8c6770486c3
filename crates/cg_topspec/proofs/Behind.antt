-- The modules behind the top module, as the way needs them.
use Rattle.std.proofs.Common.{List, None, Option, Some, [], ap, arith, codes, false, flat_map, get_or, inl, inr, length, map, refl, slice_get, subst, sym, true, ℕ, ◌++◌, ◌<◌, ◌∙◌, ◌∷◌, ◌≡◌}
use Rattle.std.specs.Str.{bytes_eq}
use Rattle.cg_busspec.proofs.Described.{device_has, host_has}
use Rattle.cg_busspec.proofs.Law.{crossbar_module_means}
use Rattle.cg_busspec.proofs.Named.{d_link_is, h_link_is}
use Rattle.cg_busspec.proofs.NumberLists.{among_flat}
use Rattle.cg_busspec.specs.Crossbar.{crossbar_of as with_ranges, devices, hosts}
use Rattle.cg_busspec.specs.CrossbarModule.{clock_port, clocks, crossbar_module, crossbar_ports, d_link, device_ports, h_link, host_ports}
use Rattle.cg_desc.proofs.Numbered.{item_among}
use Rattle.cg_desc.specs.Crossbar.{IsValidCrossbar, NodeIs}
use Rattle.cg_desc.specs.Ends.{CrossbarIs}
use Rattle.cg_desc.specs.Merged.{BlockAt, IsMerged, design_of}
use Rattle.cg_desc.specs.declared.block.LaidBlock.{LaidBlock}
use Rattle.cg_desc.specs.declared.crossbar.NodeDesc.{NodeDesc}
use Rattle.cg_desc.specs.declared.crossbar.NodeRanges.{NodeRanges}
use Rattle.cg_desc.specs.declared.crossbar.XbarDesc.{XbarDesc}
use Rattle.cg_desc.specs.declared.top.MergedTop.{MergedTop}
use Rattle.cg_space.proofs.Tabling.{all_at}
use Rattle.cg_svspec.proofs.NamesLemmas.{name_is_itself}
use Rattle.cg_space.specs.Violations.{NoViolation}
use Rattle.cg_svspec.specs.Links.{Link, answer_to, comes_in, device_link, goes_out, has_port, host_link, spelled}
use Rattle.cg_svspec.specs.Names.{Among}
use Rattle.cg_svspec.specs.Register.{input_port, output_port}
use Rattle.cg_svspec.specs.Tree.{Module, Port}
use Rattle.cg_svspec.specs.Walk.{module_named}
use Rattle.cg_svspec.specs.WellFormed.{ends_with}
use Rattle.cg_topspec.proofs.Arrivals.{port_there}
use Rattle.cg_topspec.proofs.Built.{Built, HasCrossbars, IsCrossbar, IsNode, top_module}
use Rattle.cg_topspec.proofs.ListLemmas.{in_back, in_front}
use Rattle.cg_topspec.proofs.Nets.{answer_of_request}
use Rattle.cg_topspec.proofs.Relations.{crossbar_is, get_or_is, item_of, node_fact}
use Rattle.cg_topspec.proofs.Shapes.{node_ranges_fit}
use Rattle.cg_topspec.proofs.Texts.{ends_itself}
use Rattle.cg_topspec.specs.Modules.{HasCrossbarModule, HasModules}
use Rattle.cg_topspec.specs.Top.{NodeId, block_of, crossbar_of, is_host, no_block, no_instance, node_of}
use Rattle.cg_topspec.specs.TopModule.{crossbar_module_name}

-- ---- ports of a crossbar's module

in_ports : (x : XbarDesc) (ranges : List NodeRanges) (p : Port) → Among p (crossbar_ports x) → has_port (crossbar_module (with_ranges x ranges)).ports p.input p.width p.name ≡ true
unfolding crossbar_module
in_ports x ranges p a = port_there (crossbar_ports x) p.input p.width p.name a

host_port_in : (x : XbarDesc) (h : ℕ) (p : Port) → Among h (hosts x) → Among p (host_ports x h) → Among p (crossbar_ports x)
unfolding crossbar_ports
host_port_in x h p i a = in_back p (map clock_port (clocks x)) _ (in_front p (flat_map (host_ports x) (hosts x)) _ (among_flat (host_ports x) (hosts x) h p i a))

device_port_in : (x : XbarDesc) (d : ℕ) (p : Port) → Among d (devices x) → Among p (device_ports x d) → Among p (crossbar_ports x)
unfolding crossbar_ports
device_port_in x d p i a = in_back p (map clock_port (clocks x)) _ (in_back p (flat_map (host_ports x) (hosts x)) _ (among_flat (device_ports x) (devices x) d p i a))

host_comes : (x : XbarDesc) (ranges : List NodeRanges) (h : ℕ) (host : NodeDesc) → NodeIs x h host → host.host ≡ true → comes_in (crossbar_module (with_ranges x ranges)) (host_link host.name) ≡ true
host_comes x ranges h host is is_host =
    let i = host_has x h host is is_host in
    let q : has_port (crossbar_module (with_ranges x ranges)).ports true 70 (h_link x h).request ≡ true =
    in_ports x ranges (input_port 70 (h_link x h).request) (host_port_in x h (input_port 70 (h_link x h).request) i (inl refl)) in
    let r : has_port (crossbar_module (with_ranges x ranges)).ports false 33 (h_link x h).response ≡ true =
    in_ports x ranges (output_port 33 (h_link x h).response) (host_port_in x h (output_port 33 (h_link x h).response) i (inr (inl refl))) in
    let l = h_link_is x h host is in
    let q' : has_port (crossbar_module (with_ranges x ranges)).ports true 70 (host_link host.name).request ≡ true =
    subst (λ (k : Link). has_port (crossbar_module (with_ranges x ranges)).ports true 70 k.request ≡ true) l q in
    let r' : has_port (crossbar_module (with_ranges x ranges)).ports false 33 (host_link host.name).response ≡ true =
    subst (λ (k : Link). has_port (crossbar_module (with_ranges x ranges)).ports false 33 k.response ≡ true) l r in
    let answer : bytes_eq (host_link host.name).response (answer_to (host_link host.name).request) ≡ true =
    ap (bytes_eq (host_link host.name).response) (answer_of_request (codes "h_" ++ spelled host.name)) ∙ name_is_itself (host_link host.name).response in
    rw (q', r', answer) refl

device_goes : (x : XbarDesc) (ranges : List NodeRanges) (d : ℕ) (device : NodeDesc) → NodeIs x d device → device.host ≡ false → goes_out (crossbar_module (with_ranges x ranges)) (device_link device.name) ≡ true
device_goes x ranges d device is is_device =
    let i = device_has x d (device, is, is_device) in
    let q : has_port (crossbar_module (with_ranges x ranges)).ports false 70 (d_link x d).request ≡ true =
    in_ports x ranges (output_port 70 (d_link x d).request) (device_port_in x d (output_port 70 (d_link x d).request) i (inl refl)) in
    let r : has_port (crossbar_module (with_ranges x ranges)).ports true 33 (d_link x d).response ≡ true =
    in_ports x ranges (input_port 33 (d_link x d).response) (device_port_in x d (input_port 33 (d_link x d).response) i (inr (inl refl))) in
    let l = d_link_is x d device is in
    let q' : has_port (crossbar_module (with_ranges x ranges)).ports false 70 (device_link device.name).request ≡ true =
    subst (λ (k : Link). has_port (crossbar_module (with_ranges x ranges)).ports false 70 k.request ≡ true) l q in
    let r' : has_port (crossbar_module (with_ranges x ranges)).ports true 33 (device_link device.name).response ≡ true =
    subst (λ (k : Link). has_port (crossbar_module (with_ranges x ranges)).ports true 33 k.response ≡ true) l r in
    let answer : bytes_eq (device_link device.name).response (answer_to (device_link device.name).request) ≡ true =
    ap (bytes_eq (device_link device.name).response) (answer_of_request (codes "d_" ++ spelled device.name)) ∙ name_is_itself (device_link device.name).response in
    let end : ends_with (device_link device.name).request (codes "_req") ≡ true = ends_itself (codes "d_" ++ spelled device.name) (codes "_req") in
    rw (q', r', answer, end) refl

-- ---- crossbars

module_or_empty : Option Module → Module
module_or_empty None = record { name = []; ports = []; entries = [] }
module_or_empty (Some m) = m

is_crossbar_module : (m : MergedTop) → IsMerged m → NoViolation m → (modules : List Module) (x : ℕ) → x < length m.xbars → (c : HasCrossbarModule m modules x)
    → IsCrossbar m x (crossbar_module (with_ranges (crossbar_of m x) c.ranges))
is_crossbar_module m merged none modules x less c = record {
  comes = λ h is here.
      let at = node_fact m h is.0 in
      host_comes (crossbar_of m x) c.ranges h.node (node_of m h) (subst (λ y. NodeIs (crossbar_of m y) h.node (node_of m h)) here (in_its m h is.0)) is.1;
  goes = λ d is here. device_goes (crossbar_of m x) c.ranges d.node (node_of m d) (subst (λ y. NodeIs (crossbar_of m y) d.node (node_of m d)) here (in_its m d is.0)) is.1;
  ranges = c.ranges;
  are_ranges = c.are_its;
  carries = (crossbar_module_means (crossbar_of m x) c.ranges valid (node_ranges_fit m none x (crossbar_of m x) c.ranges at_x valid c.are_its) c.no_repeat).carries;
} where
  at_x : CrossbarIs (design_of m) x (crossbar_of m x)
  at_x = item_of m.xbars x _ less

  valid : IsValidCrossbar (crossbar_of m x)
  valid = all_at IsValidCrossbar m.xbars x (crossbar_of m x) merged.crossbars at_x

  in_its : (m : MergedTop) (n : NodeId) → IsNode m n → NodeIs (crossbar_of m n.xbar) n.node (node_of m n)
  in_its m n is = let at = node_fact m n is in subst (λ (c : XbarDesc). NodeIs c n.node (node_of m n)) (sym (crossbar_is m n.xbar at.crossbar at.crossbar_is)) at.is

-- the block of an instance is one of the blocks
pub block_among : (m : MergedTop) → IsMerged m → (i : ℕ) → i < length m.top.insts → BlockAt m i (block_of m i)
block_among m merged i less =
    let kind = item_of m.kinds i (length m.blocks) (omega (arith, less, merged.kinds.count)) in
    let inst = item_of m.top.insts i no_instance less in
    let known = merged.kinds.each i (get_or m.kinds i (length m.blocks)) (get_or m.top.insts i no_instance) inst kind in
    let block : block_of m i ≡ known.0 = get_or_is m.blocks (get_or m.kinds i (length m.blocks)) no_block known.0 known.1.is in
    (get_or m.kinds i (length m.blocks), kind, subst (λ (b : LaidBlock). slice_get m.blocks (get_or m.kinds i (length m.blocks)) ≡ Some b) (sym block) known.1.is)

pub has_crossbars : (top : Built) → IsMerged top.merged → NoViolation top.merged → (ms : List Module) → HasModules top.merged (top_module top ∷ ms) → HasCrossbars top ms
unfolding module_or_empty
has_crossbars top merged none ms has = record {
  module_of = λ x. module_or_empty (module_named (top_module top ∷ ms) (crossbar_module_name top.merged x));
  named = λ x less. let c = has.crossbars x less in c.found ∙ ap (λ o. Some (module_or_empty o)) (sym c.found);
  is = λ x less. let c = has.crossbars x less in
      subst (λ o. IsCrossbar top.merged x (module_or_empty o)) (sym c.found) (is_crossbar_module top.merged merged none (top_module top ∷ ms) x less c);
  blocks_unnamed = λ i less. let at = block_among top.merged merged i less in has.types (block_of top.merged i) (item_among top.merged.blocks at.0 (block_of top.merged i) at.2);
}
