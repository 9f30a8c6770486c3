-- The module of a top: ports, wires, assigns and instances in their order and spelling (OpenTitan Top Generation Tool).
use Rattle.std.specs.Prelude.{ℕ, suc, eqb, ◌&&◌, Bool, true, false, cond, List, [], ◌∷◌, ◌++◌, codes, map, reverse, length, filter, flat_map, Option, Some, None}
use Rattle.cg_busspec.specs.CrossbarModule.{link_wires, connection, number_parameter, halvings}
use Rattle.cg_clkrst.specs.declared.tie.Owner.{Owner}
use Rattle.cg_clkrst.specs.declared.tie.Owner.TheVariants as owner
use Rattle.cg_clkrst.specs.declared.tie.Tie.{Tie}
use Rattle.cg_desc.specs.declared.block.AlertDesc.{AlertDesc}
use Rattle.cg_desc.specs.declared.block.HostFace.{HostFace}
use Rattle.cg_desc.specs.declared.block.IntrDesc.{IntrDesc}
use Rattle.cg_desc.specs.declared.block.LaidBlock.{LaidBlock}
use Rattle.cg_desc.specs.declared.block.LaidFace.{LaidFace}
use Rattle.cg_desc.specs.declared.top.MergedTop.{MergedTop}
use Rattle.cg_desc.specs.declared.top.NodeEnd.{NodeEnd}
use Rattle.cg_desc.specs.declared.top.NodeEnd.TheVariants.{Xbar, Outside}
use Rattle.cg_irq.specs.declared.bits.Bit.{Bit}
use Rattle.cg_irq.specs.declared.bits.IrqMap.{IrqMap}
use Rattle.cg_pinmux.specs.declared.map.PadTie.{PadTie}
use Rattle.cg_pinmux.specs.declared.map.PinMap.{PinMap}
use Rattle.cg_svspec.specs.Links.{Link, host_link, device_link}
use Rattle.cg_svspec.specs.Register.{input_port, output_port}
use Rattle.cg_svspec.specs.Tree.{Expression, net, lit, cat, expressions, Port, Parameter, Connection, Entry, wire, drive, assign, inst, Module}
use Rattle.cg_svspec.specs.Walk.{address_width_name, response_name}
use Rattle.cg_topspec.specs.Nets.{clock_net, reset_net, own_link, link_of, bit_at, interrupt_net, alert_net, interrupt_bit, alert_bit, pin_input_net, pin_output_net, gives_out, port_of, pin_output_bit, Pin, input_pins, output_pins}
use Rattle.cg_topspec.specs.Top.{NodeId, counting, crossbar_of, node_of, end_of, is_host, ordered_in, ordered, crossbar_numbers, instance_numbers, instance_of, block_of, device_node, host_node}

-- ---- 1: ports

-- a node outside the top has its link at two ports
abbrev pub end_ports : Bool → Link → NodeEnd → List Port
end_ports true l Outside = input_port 70 l.request ∷ output_port 33 l.response ∷ []
end_ports false l Outside = output_port 70 l.request ∷ input_port 33 l.response ∷ []
end_ports host l e = []

abbrev pub node_ports : MergedTop → NodeId → List Port
node_ports m n = end_ports (is_host m n) (own_link m n) (end_of m n)

-- a port with a bit for each of these, where there are any
abbrev pub vector_port : {A : Type 0} → (ℕ → List ℕ → Port) → List ℕ → List A → List Port
vector_port port name [] = []
vector_port port name (x ∷ xs) = port (length (x ∷ xs)) name ∷ []

-- numbers of interrupt sources start at 1, and bit 0 stands for none
abbrev pub number_ports : IrqMap → List Port
number_ports numbers = output_port (suc (length numbers.intr)) (codes "intr_src") ∷ vector_port output_port (codes "alert_src") numbers.alert

abbrev pub pin_ports : MergedTop → PinMap → List Port
pin_ports m pins =
    vector_port input_port (codes "mio_in") pins.ins ++ (vector_port output_port (codes "mio_out") pins.outs
    ++ (vector_port input_port (codes "pad_in") m.top.pads ++ vector_port output_port (codes "pad_out") m.top.pads))

abbrev pub clock_ports : MergedTop → List Port
clock_ports m = map (λ source. input_port 1 (clock_net source)) m.top.sources

abbrev pub reset_ports : MergedTop → List Port
reset_ports m = map (λ reset. input_port 1 (reset_net reset)) m.top.resets

abbrev pub top_ports : MergedTop → IrqMap → PinMap → List Port
top_ports m numbers pins =
    clock_ports m ++ (reset_ports m ++ (flat_map (node_ports m) (ordered m) ++ (number_ports numbers ++ pin_ports m pins)))

-- ---- 2: wires

-- a node in the top has its link as two wires, but for a host that stands for an outer crossbar
abbrev pub end_wires : Bool → Link → NodeEnd → List Entry
end_wires host l Outside = []
end_wires true l (Xbar x) = []
end_wires host l e = link_wires l

abbrev pub node_wires : MergedTop → NodeId → List Entry
node_wires m n = end_wires (is_host m n) (own_link m n) (end_of m n)

abbrev pub interrupt_wires : MergedTop → ℕ → List Entry
interrupt_wires m i = map (λ interrupt. wire interrupt.width (interrupt_net (instance_of m i).name interrupt)) (block_of m i).desc.intrs

abbrev pub alert_wires : MergedTop → ℕ → List Entry
alert_wires m i = map (λ alert. wire 1 (alert_net (instance_of m i).name alert)) (block_of m i).desc.alerts

abbrev pub pin_output_wires : MergedTop → ℕ → List Entry
pin_output_wires m i = map (λ p. wire p.port.width (pin_output_net (instance_of m i).name p.port)) (output_pins (block_of m i))

-- several bits, the first lowest
abbrev pub bits_of : List Expression → Expression
bits_of xs = cat (expressions (reverse xs))

-- two bits are one
abbrev pub is_bit : Bit → Bit → Bool
is_bit a b = eqb a.inst b.inst && (eqb a.item b.item && eqb a.bit b.bit)

-- the number of the first of these bits that is this one, where the first has number k
abbrev pub muxed_number : Bit → ℕ → List Bit → Option ℕ
muxed_number b k [] = None
muxed_number b k (c ∷ cs) = cond (is_bit c b) (Some k) (muxed_number b (suc k) cs)

-- the pad to which the bit is tied
abbrev pub pad_number : Bit → List PadTie → Option ℕ
pad_number b [] = None
pad_number b (t ∷ ts) = cond (is_bit t.bit b) (Some t.pad) (pad_number b ts)

-- what a bit that goes in is given: its bit of `mio_in`, else its pad, else 0
abbrev pub pin_source : MergedTop → PinMap → Bit → Expression
pin_source m pins b = muxed (muxed_number b 0 pins.ins) where
  direct : Option ℕ → Expression
  direct (Some pad) = bit_at (codes "pad_in") (length m.top.pads) pad
  direct None = lit 1 0

  muxed : Option ℕ → Expression
  muxed (Some k) = bit_at (codes "mio_in") (length pins.ins) k
  muxed None = direct (pad_number b pins.pads)

-- bit k of a port of an instance
abbrev pub port_bit : ℕ → ℕ → ℕ → Bit
port_bit i p k = record { inst = i; item = p; bit = k }

abbrev pub pin_input_wire : MergedTop → PinMap → ℕ → Pin → Entry
pin_input_wire m pins i p =
    drive p.port.width (pin_input_net (instance_of m i).name p.port) (bits_of (map (λ k. pin_source m pins (port_bit i p.number k)) (counting 0 p.port.width)))

abbrev pub pin_input_wires : MergedTop → PinMap → ℕ → List Entry
pin_input_wires m pins i = map (pin_input_wire m pins i) (input_pins (block_of m i))

abbrev pub instance_wires : MergedTop → PinMap → ℕ → List Entry
instance_wires m pins i = interrupt_wires m i ++ (alert_wires m i ++ (pin_output_wires m i ++ pin_input_wires m pins i))

-- ---- 3: assigns

-- an output with these bits, the first lowest, where there are any
abbrev pub vector_assign : List ℕ → List Expression → List Entry
vector_assign name [] = []
vector_assign name (x ∷ xs) = assign name (bits_of (x ∷ xs)) ∷ []

-- the bit that is tied to a pad and goes out
abbrev pub pad_driver : MergedTop → ℕ → List PadTie → Expression
pad_driver m pad [] = lit 1 0
pad_driver m pad (t ∷ ts) = cond (eqb t.pad pad && gives_out (port_of m t.bit).dir) (pin_output_bit m t.bit) (pad_driver m pad ts)

abbrev pub pad_outputs : MergedTop → PinMap → List Expression
pad_outputs m pins = map (λ pad. pad_driver m pad pins.pads) (counting 0 (length m.top.pads))

abbrev pub top_assigns : MergedTop → IrqMap → PinMap → List Entry
top_assigns m numbers pins =
    vector_assign (codes "intr_src") (lit 1 0 ∷ map (interrupt_bit m) numbers.intr) ++ (vector_assign (codes "alert_src") (map (alert_bit m) numbers.alert)
    ++ (vector_assign (codes "mio_out") (map (pin_output_bit m) pins.outs) ++ vector_assign (codes "pad_out") (pad_outputs m pins)))

-- ---- 4: instances of blocks

-- the ties of an instance, and of a crossbar
abbrev pub is_instance : ℕ → Owner → Bool
is_instance i (owner.Inst j) = eqb j i
is_instance i (owner.Xbar x) = false

abbrev pub is_listed : ℕ → Owner → Bool
is_listed x (owner.Inst j) = false
is_listed x (owner.Xbar y) = eqb y x

abbrev pub source_net : Bool → List ℕ → List ℕ
source_net true source = reset_net source
source_net false source = clock_net source

abbrev pub tie_connection : Tie → Connection
tie_connection t = connection t.port (net (source_net t.reset t.source))

abbrev pub instance_ties : List Tie → ℕ → List Connection
instance_ties ties i = map tie_connection (filter (λ t. is_instance i t.owner) ties)

-- the connections of an interface to a link: of a device interface, and of a host interface
abbrev pub face_request : Option (List ℕ) → List ℕ
face_request None = codes "tl_req_i"
face_request (Some f) = f ++ codes "_tl_req_i"

abbrev pub host_face_request : Option (List ℕ) → List ℕ
host_face_request None = codes "tl_h_req_o"
host_face_request (Some f) = f ++ codes "_tl_req_o"

abbrev pub host_face_response : Option (List ℕ) → List ℕ
host_face_response None = codes "tl_h_rsp_i"
host_face_response (Some f) = f ++ codes "_tl_rsp_i"

abbrev pub link_connections : List ℕ → List ℕ → Link → List Connection
link_connections request response l = connection request (net l.request) ∷ connection response (net l.response) ∷ []

-- an interface that a node stands for is connected to that node's link, and any other is not connected
abbrev pub joined_at : MergedTop → List ℕ → List ℕ → Option NodeId → List Connection
joined_at m request response None = []
joined_at m request response (Some n) = link_connections request response (own_link m n)

-- interfaces of instance i, the first of which has number f
abbrev pub face_connections : MergedTop → ℕ → ℕ → List LaidFace → List Connection
face_connections m i f [] = []
face_connections m i f (face ∷ faces) = joined_at m (face_request face.name) (response_name face.name) (device_node m i f) ++ face_connections m i (suc f) faces

abbrev pub host_connections : MergedTop → ℕ → ℕ → List HostFace → List Connection
host_connections m i f [] = []
host_connections m i f (face ∷ faces) = joined_at m (host_face_request face.name) (host_face_response face.name) (host_node m i f) ++ host_connections m i (suc f) faces

abbrev pub interrupt_connection : List ℕ → IntrDesc → Connection
interrupt_connection name interrupt = connection (codes "intr_" ++ (interrupt.name ++ codes "_o")) (net (interrupt_net name interrupt))

abbrev pub alert_connection : List ℕ → AlertDesc → Connection
alert_connection name alert = connection (codes "alert_" ++ (alert.name ++ codes "_o")) (net (alert_net name alert))

abbrev pub pin_input_connection : List ℕ → Pin → Connection
pin_input_connection name p = connection (codes "cio_" ++ (p.port.name ++ codes "_i")) (net (pin_input_net name p.port))

abbrev pub pin_output_connection : List ℕ → Pin → Connection
pin_output_connection name p = connection (codes "cio_" ++ (p.port.name ++ codes "_o")) (net (pin_output_net name p.port))

-- the interrupts, alerts and pins of an instance of this name
abbrev pub net_connections : List ℕ → LaidBlock → List Connection
net_connections name b =
    map (interrupt_connection name) b.desc.intrs ++ (map (alert_connection name) b.desc.alerts
    ++ (map (pin_input_connection name) (input_pins b) ++ map (pin_output_connection name) (output_pins b)))

abbrev pub instance_connections : MergedTop → List Tie → ℕ → List Connection
instance_connections m ties i =
    instance_ties ties i ++ (face_connections m i 0 (block_of m i).faces ++ (host_connections m i 0 (block_of m i).desc.hosts
    ++ net_connections (instance_of m i).name (block_of m i)))

-- how many address bits an interface has: the base-2 logarithm of its size
abbrev pub address_width : LaidFace → Parameter
address_width face = number_parameter (address_width_name face.name) (halvings 32 face.size)

abbrev pub instance_entry : MergedTop → List Tie → ℕ → Entry
instance_entry m ties i = inst (block_of m i).desc.name (map address_width (block_of m i).faces) (codes "u_" ++ (instance_of m i).name) (instance_connections m ties i)

-- ---- 5: instances of crossbars

abbrev pub crossbar_clock : Tie → Connection
crossbar_clock t = connection (codes "c_" ++ t.port) (net (clock_net t.source))

abbrev pub crossbar_ties : List Tie → ℕ → List Connection
crossbar_ties ties x = map crossbar_clock (filter (λ t. is_listed x t.owner) ties)

-- a node's link in the crossbar's own module
abbrev pub port_link : MergedTop → NodeId → Link
port_link m n = cond (is_host m n) (host_link (node_of m n).name) (device_link (node_of m n).name)

abbrev pub node_connections : MergedTop → NodeId → List Connection
node_connections m n = link_connections (port_link m n).request (port_link m n).response (link_of m n)

abbrev pub crossbar_connections : MergedTop → List Tie → ℕ → List Connection
crossbar_connections m ties x = crossbar_ties ties x ++ flat_map (node_connections m) (ordered_in m x)

abbrev pub crossbar_module_name : MergedTop → ℕ → List ℕ
crossbar_module_name m x = codes "xbar_" ++ (crossbar_of m x).name

abbrev pub crossbar_entry : MergedTop → List Tie → ℕ → Entry
crossbar_entry m ties x = inst (crossbar_module_name m x) [] (codes "u_xbar_" ++ (crossbar_of m x).name) (crossbar_connections m ties x)

-- ---- the whole

-- what stands above the instances
abbrev pub top_nets : MergedTop → IrqMap → PinMap → List Entry
top_nets m numbers pins =
    flat_map (node_wires m) (ordered m) ++ (flat_map (instance_wires m pins) (instance_numbers m) ++ top_assigns m numbers pins)

abbrev pub top_instances : MergedTop → List Tie → List Entry
top_instances m ties = map (instance_entry m ties) (instance_numbers m) ++ map (crossbar_entry m ties) (crossbar_numbers m)

abbrev pub top_entries : MergedTop → IrqMap → List Tie → PinMap → List Entry
top_entries m numbers ties pins = top_nets m numbers pins ++ top_instances m ties

abbrev pub top_module_name : MergedTop → List ℕ
top_module_name m = codes "top_" ++ m.top.name

unfoldable pub top_module : MergedTop → IrqMap → List Tie → PinMap → Module
top_module m numbers ties pins = record { name = top_module_name m; ports = top_ports m numbers pins; entries = top_entries m numbers ties pins }
