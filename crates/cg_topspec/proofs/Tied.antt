-- The connections of a top's instances: clocks and resets from their sources, interrupts, alerts and pins to their own nets.
use Rattle.std.proofs.Common.{List, Some, ap, filter, length, map, sym, true, ℕ, ◌<◌, ◌∙◌, ◌≡◌}
use Rattle.std.proofs.lemmas.Bool.{eq-eqb}
use Rattle.cg_clkrst.specs.Ports.{TiePort}
use Rattle.cg_clkrst.specs.Ties.{HasSource, port_of as tie_port}
use Rattle.cg_clkrst.specs.declared.tie.Owner.{Owner}
use Rattle.cg_clkrst.specs.declared.tie.Tie.{Tie}
use Rattle.cg_desc.specs.declared.top.MergedTop.{MergedTop}
use Rattle.cg_irq.specs.declared.bits.IrqMap.{IrqMap}
use Rattle.cg_pinmux.specs.declared.map.PinMap.{PinMap}
use Rattle.cg_svspec.specs.Names.{Among}
use Rattle.cg_svspec.specs.Register.{input_port}
use Rattle.cg_svspec.specs.Tree.{Connection, net}
use Rattle.cg_svspec.specs.Value.{connection_at}
use Rattle.cg_topspec.proofs.ApartNames.{clock_only}
use Rattle.cg_topspec.proofs.Arrivals.{connection_found}
use Rattle.cg_topspec.proofs.Built.{NamesApart}
use Rattle.cg_topspec.specs.TopModule.{crossbar_connections, instance_connections, top_ports}
use Rattle.cg_topspec.proofs.ListLemmas.{in_back, in_front, in_map}
use Rattle.cg_topspec.proofs.Nets.{in_those}
use Rattle.cg_topspec.proofs.NoClash.{source_of, names_apart}
use Rattle.cg_topspec.specs.Fits.{FitsTop}
use Rattle.cg_topspec.specs.NetLaws.{ConnectionsAre, ConnectionsHold}
use Rattle.cg_topspec.specs.Nets.{clock_net, input_pins, output_pins, reset_net}
use Rattle.cg_topspec.specs.Top.{block_of, instance_of}
use Rattle.cg_topspec.specs.TopModule.{alert_connection, clock_ports, crossbar_clock, crossbar_ties, face_connections, host_connections, instance_ties, interrupt_connection, is_instance, is_listed, net_connections, pin_input_connection, pin_output_connection, reset_ports, source_net, tie_connection}
use Rattle.cg_clkrst.specs.declared.tie.Owner.TheVariants as owner

pub instance_itself : (i : ℕ) (o : Owner) → o ≡ owner.Inst i → is_instance i o ≡ true
instance_itself i (owner.Inst j) e = let same : j ≡ i = cc in eq-eqb j i same
instance_itself i (owner.Xbar x) e = absurd cc

pub listed_itself : (x : ℕ) (o : Owner) → o ≡ owner.Xbar x → is_listed x o ≡ true
listed_itself x (owner.Inst j) e = absurd cc
listed_itself x (owner.Xbar y) e = let same : y ≡ x = cc in eq-eqb y x same

-- a source's net is a port of the top
pub source_is_port : (m : MergedTop) (numbers : IrqMap) (pins : PinMap) (port : TiePort) (source : List ℕ) → HasSource m port source → Among (input_port 1 (source_net port.reset source)) (top_ports m numbers pins)
source_is_port m numbers pins port source (HasSource.instance_clock i d p s at is) = in_front _ (clock_ports m) _ (in_map (λ k. input_port 1 (clock_net k)) m.top.sources s is.there)
source_is_port m numbers pins port source (HasSource.instance_reset i d p s at is) =
    in_back _ (clock_ports m) _ (in_front _ (reset_ports m) _ (in_map (λ k. input_port 1 (reset_net k)) m.top.resets s is.there))
source_is_port m numbers pins port source (HasSource.crossbar_clock y listed p s at is) = in_front _ (clock_ports m) _ (in_map (λ k. input_port 1 (clock_net k)) m.top.sources s is.there)

module _ (m : MergedTop) (numbers : IrqMap) (ties : List Tie) (pins : PinMap) (fits : FitsTop m numbers ties pins)
    (names : NamesApart (record { merged = m; numbers = numbers; ties = ties; pins = pins })) where
  port_there_for : (t : Tie) → Among t ties → Among (input_port 1 (source_net t.reset t.source)) (top_ports m numbers pins)
  port_there_for t a = source_is_port m numbers pins (tie_port t) t.source (source_of m ties fits.ties_are t a)

  -- a connection of an instance is found by its name
  found : (i : ℕ) → i < length m.top.insts → (c : Connection) → Among c (instance_connections m ties i) → connection_at c.name (instance_connections m ties i) ≡ Some c.value
  found i less c a = connection_found (instance_connections m ties i) (names.block_ports i less) c a

  -- those of its nets
  in_nets : (i : ℕ) (c : Connection) → Among c (net_connections (instance_of m i).name (block_of m i)) → Among c (instance_connections m ties i)
  in_nets i c a = in_back c (instance_ties ties i) _ (in_back c (face_connections m i 0 (block_of m i).faces) _ (in_back c (host_connections m i 0 (block_of m i).desc.hosts) _ a))

  its_connections : ConnectionsAre m numbers ties pins
  its_connections = record {
    instances = λ t i a own less. (
      found i less (tie_connection t) (in_front _ (instance_ties ties i) _ (in_map tie_connection (filter (λ k. is_instance i k.owner) ties) t (in_those (λ k. is_instance i k.owner) ties t a (instance_itself i t.owner own)))),
      port_there_for t a,
    );
    crossbars = λ t x a own less. (
      connection_found (crossbar_connections m ties x) (names.crossbar_ports x less) (crossbar_clock t)
          (in_front _ (crossbar_ties ties x) _ (in_map crossbar_clock (filter (λ k. is_listed x k.owner) ties) t (in_those (λ k. is_listed x k.owner) ties t a (listed_itself x t.owner own))))
          ∙ ap (λ b. Some (net (source_net b t.source))) (sym (clock_only m x (tie_port t) t.source (source_of m ties fits.ties_are t a) own)),
      port_there_for t a,
    );
    interrupts = λ i interrupt less a.
        found i less (interrupt_connection (instance_of m i).name interrupt) (in_nets i _ (in_front _ (map (interrupt_connection (instance_of m i).name) (block_of m i).desc.intrs) _
        (in_map (interrupt_connection (instance_of m i).name) (block_of m i).desc.intrs interrupt a)));
    alerts = λ i alert less a.
        found i less (alert_connection (instance_of m i).name alert) (in_nets i _ (in_back _ (map (interrupt_connection (instance_of m i).name) (block_of m i).desc.intrs) _
        (in_front _ (map (alert_connection (instance_of m i).name) (block_of m i).desc.alerts) _ (in_map (alert_connection (instance_of m i).name) (block_of m i).desc.alerts alert a))));
    pins_in = λ i p less a.
        found i less (pin_input_connection (instance_of m i).name p) (in_nets i _ (in_back _ (map (interrupt_connection (instance_of m i).name) (block_of m i).desc.intrs) _
        (in_back _ (map (alert_connection (instance_of m i).name) (block_of m i).desc.alerts) _ (in_front _ (map (pin_input_connection (instance_of m i).name) (input_pins (block_of m i))) _
        (in_map (pin_input_connection (instance_of m i).name) (input_pins (block_of m i)) p a)))));
    pins_out = λ i p less a.
        found i less (pin_output_connection (instance_of m i).name p) (in_nets i _ (in_back _ (map (interrupt_connection (instance_of m i).name) (block_of m i).desc.intrs) _
        (in_back _ (map (alert_connection (instance_of m i).name) (block_of m i).desc.alerts) _ (in_back _ (map (pin_input_connection (instance_of m i).name) (input_pins (block_of m i))) _
        (in_map (pin_output_connection (instance_of m i).name) (output_pins (block_of m i)) p a)))));
  }

pub connections_hold : ConnectionsHold
connections_hold m numbers ties pins ms fits none has =
    its_connections m numbers ties pins fits (names_apart (record { merged = m; numbers = numbers; ties = ties; pins = pins }) fits.ties_are none ms has)
