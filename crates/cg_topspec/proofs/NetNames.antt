-- The names of a top module's nets, ports and instances are names.
use Rattle.std.proofs.Common.{Bool, List, None, Option, Some, codes, cond, false, length, not, refl, true, ℕ, ◌&&◌, ◌++◌, ◌<◌, ◌≡◌}
use Rattle.cg_desc.specs.Crossbar.{IsShortName}
use Rattle.cg_desc.specs.Merged.{IsMerged}
use Rattle.cg_desc.specs.declared.block.AlertDesc.{AlertDesc}
use Rattle.cg_desc.specs.declared.block.IntrDesc.{IntrDesc}
use Rattle.cg_desc.specs.declared.block.IoDesc.{IoDesc}
use Rattle.cg_desc.specs.declared.top.MergedTop.{MergedTop}
use Rattle.cg_desc.specs.declared.top.NodeEnd.{NodeEnd}
use Rattle.cg_desc.specs.declared.top.NodeEnd.TheVariants.{Face, Host, Outside, Xbar}
use Rattle.cg_svspec.proofs.Runs.{each_passes}
use Rattle.cg_svspec.proofs.WellNames.{prefix_name, word_characters}
use Rattle.cg_svspec.specs.Characters.{Each, IsName, is_name_character}
use Rattle.cg_svspec.specs.Links.{Link, device_link, host_link, spelled}
use Rattle.cg_svspec.specs.Names.{Among}
use Rattle.cg_topspec.proofs.Built.{IsNode}
use Rattle.cg_topspec.proofs.EachItem.{each_item}
use Rattle.cg_topspec.proofs.ListLemmas.{found_in}
use Rattle.cg_topspec.proofs.Nodes.{node_in_range, node_of_all}
use Rattle.cg_topspec.proofs.PartNames.{IsPin, alert_valid, both_each, crossbar_each, input_valid, instance_each, interrupt_valid, node_each, output_valid, short_each, underscored}
use Rattle.cg_topspec.specs.Nets.{Pin, alert_net, clock_net, input_pins, interrupt_net, joined_link, link_of, or_own, output_pins, own_link, pin_input_net, pin_output_net, reset_net, with_ends}
use Rattle.cg_topspec.specs.Top.{NodeId, block_of, crossbar_of, end_of, instance_of, is_crossbar, is_host, node_of, nodes_in, outer_device}
use Rattle.cg_topspec.specs.TopModule.{port_link}

-- ---- links

pub record LinkNamed (l : Link) : Type 0 where
  pub request : IsName l.request
  pub response : IsName l.response

ends_named : (base : List ℕ) → Each is_name_character base → LinkNamed (with_ends (codes "x_" ++ base))
ends_named base e = record {
  request = named (codes "_req") (each_passes is_name_character (codes "_req") refl);
  response = named (codes "_rsp") (each_passes is_name_character (codes "_rsp") refl);
} where
  named : (end : List ℕ) → Each is_name_character end → IsName (codes "x_" ++ (base ++ end))
  named end f = prefix_name (codes "x_") (base ++ end) refl refl (both_each base end e f)

kind_each : (b : Bool) → Each is_name_character (cond b (codes "_h_") (codes "_d_"))
kind_each true = each_passes is_name_character (codes "_h_") refl
kind_each false = each_passes is_name_character (codes "_d_") refl

module _ (m : MergedTop) (merged : IsMerged m) where
  pub own_named : (n : NodeId) → IsNode m n → LinkNamed (own_link m n)
  unfolding own_link
  own_named n there =
      ends_named ((crossbar_of m n.xbar).name ++ (cond (is_host m n) (codes "_h_") (codes "_d_") ++ spelled (node_of m n).name))
      (both_each (crossbar_of m n.xbar).name _ (crossbar_each m merged n.xbar (node_in_range m n there))
      (both_each (cond (is_host m n) (codes "_h_") (codes "_d_")) (spelled (node_of m n).name) (kind_each (is_host m n)) (node_each m merged n there)))

  -- the link that a crossbar's instance has for a node
  pub link_named : (n : NodeId) → IsNode m n → LinkNamed (link_of m n)
  link_named n there = by (is_host m n) (end_of m n) where
    own : LinkNamed (own_link m n)
    own = own_named n there

    outer : (x : ℕ) (o : Option NodeId) → outer_device m x n.xbar ≡ o → LinkNamed (or_own (own_link m n) m o)
    outer x None e = own
    outer x (Some d) e =
        own_named d (node_of_all m x d (found_in (λ n'. not (is_host m n') && is_crossbar n.xbar (end_of m n')) (nodes_in m x) d e).0)

    by : (host : Bool) (e : NodeEnd) → LinkNamed (joined_link m n host e)
    by true (Xbar x) = outer x (outer_device m x n.xbar) refl
    by true (Face i f) = own
    by true (Host i f) = own
    by true Outside = own
    by false (Xbar x) = own
    by false (Face i f) = own
    by false (Host i f) = own
    by false Outside = own

  pub port_named : (n : NodeId) → IsNode m n → LinkNamed (port_link m n)
  port_named n there = side (is_host m n) where
    side : (b : Bool) → LinkNamed (cond b (host_link (node_of m n).name) (device_link (node_of m n).name))
    side true = record {
      request = prefix_name (codes "h_") (spelled (node_of m n).name ++ codes "_req") refl refl
          (both_each _ _ (node_each m merged n there) (each_passes is_name_character (codes "_req") refl));
      response = prefix_name (codes "h_") (spelled (node_of m n).name ++ codes "_rsp") refl refl
          (both_each _ _ (node_each m merged n there) (each_passes is_name_character (codes "_rsp") refl));
    }
    side false = record {
      request = prefix_name (codes "d_") (spelled (node_of m n).name ++ codes "_req") refl refl
          (both_each _ _ (node_each m merged n there) (each_passes is_name_character (codes "_req") refl));
      response = prefix_name (codes "d_") (spelled (node_of m n).name ++ codes "_rsp") refl refl
          (both_each _ _ (node_each m merged n there) (each_passes is_name_character (codes "_rsp") refl));
    }

  -- ---- clocks and resets

  pub clock_named : (source : List ℕ) → Among source m.top.sources → IsName (clock_net source)
  clock_named source a = prefix_name (codes "clk_") source refl refl (short_each source (each_item IsShortName m.top.sources merged.top.sources source a))

  pub reset_named : (source : List ℕ) → Among source m.top.resets → IsName (reset_net source)
  reset_named source a = prefix_name (codes "rst_") source refl refl (short_each source (each_item IsShortName m.top.resets merged.top.resets source a))

  -- ---- nets of instances

  module _ (i : ℕ) (less : i < length m.top.insts) where
    pub interrupt_named : (x : IntrDesc) → Among x (block_of m i).desc.intrs → IsName (interrupt_net (instance_of m i).name x)
    interrupt_named x a =
        prefix_name (codes "i_") ((instance_of m i).name ++ (codes "_" ++ x.name)) refl refl
        (both_each (instance_of m i).name _ (instance_each m merged i less)
        (underscored x.name (word_characters x.name (interrupt_valid m merged i less x a).name)))

    pub alert_named : (x : AlertDesc) → Among x (block_of m i).desc.alerts → IsName (alert_net (instance_of m i).name x)
    alert_named x a =
        prefix_name (codes "a_") ((instance_of m i).name ++ (codes "_" ++ x.name)) refl refl
        (both_each (instance_of m i).name _ (instance_each m merged i less) (underscored x.name (word_characters x.name (alert_valid m merged i less x a))))

    pin_each : (end : List ℕ) → Each is_name_character end → (p : IoDesc) → IsPin p
        → Each is_name_character ((instance_of m i).name ++ (codes "_" ++ (p.name ++ end)))
    pin_each end e p valid =
        both_each (instance_of m i).name _ (instance_each m merged i less) (underscored (p.name ++ end) (both_each p.name end (short_each p.name valid.name) e))

    pub pin_input_named : (p : Pin) → Among p (input_pins (block_of m i)) → IsName (pin_input_net (instance_of m i).name p.port)
    pin_input_named p a =
        prefix_name (codes "p_") _ refl refl (pin_each (codes "_i") (each_passes is_name_character (codes "_i") refl) p.port (input_valid m merged i less p a))

    pub pin_output_named : (p : Pin) → Among p (output_pins (block_of m i)) → IsName (pin_output_net (instance_of m i).name p.port)
    pin_output_named p a =
        prefix_name (codes "p_") _ refl refl (pin_each (codes "_o") (each_passes is_name_character (codes "_o") refl) p.port (output_valid m merged i less p a))
