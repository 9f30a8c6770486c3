-- The definitions at work: the texts of two small tops, and pins of all joints.
use Rattle.std.proofs.Common.{◌≡◌, ℕ, Bool, true, false, List, [], ◌∷◌, Some, None, refl, codes}
use Rattle.cg_busspec.specs.CrossbarModule.{connection, number_parameter}
use Rattle.cg_clkrst.specs.declared.tie.Owner.{Owner}
use Rattle.cg_clkrst.specs.declared.tie.Owner.TheVariants as owner
use Rattle.cg_clkrst.specs.declared.tie.Tie.{Tie}
use Rattle.cg_desc.specs.declared.block.HostFace.{HostFace}
use Rattle.cg_desc.specs.declared.block.HwAccess.TheVariants.{Hro}
use Rattle.cg_desc.specs.declared.block.IntrDesc.{IntrDesc}
use Rattle.cg_desc.specs.declared.block.IoDesc.{IoDesc}
use Rattle.cg_desc.specs.declared.block.IoDir.TheVariants.{In, Out, InOut}
use Rattle.cg_desc.specs.declared.block.Item.TheVariants as item
use Rattle.cg_desc.specs.declared.block.LaidBlock.{LaidBlock}
use Rattle.cg_desc.specs.declared.block.LaidFace.{LaidFace}
use Rattle.cg_desc.specs.declared.block.RegDesc.{RegDesc}
use Rattle.cg_desc.specs.declared.block.SwAccess.TheVariants.{Rw}
use Rattle.cg_desc.specs.declared.crossbar.NodeDesc.{NodeDesc}
use Rattle.cg_desc.specs.declared.crossbar.XbarDesc.{XbarDesc}
use Rattle.cg_desc.specs.declared.place.At.{At}
use Rattle.cg_desc.specs.declared.top.InstDesc.{InstDesc}
use Rattle.cg_desc.specs.declared.top.MergedTop.{MergedTop}
use Rattle.cg_desc.specs.declared.top.NodeEnd.TheVariants.{Face, Host, Xbar}
use Rattle.cg_desc.specs.declared.top.TopDesc.{TopDesc}
use Rattle.cg_desc.specs.declared.top.XbarUse.{XbarUse}
use Rattle.cg_irq.specs.declared.bits.Bit.{Bit}
use Rattle.cg_irq.specs.declared.bits.IrqMap.{IrqMap}
use Rattle.cg_pinmux.specs.declared.map.PinMap.{PinMap}
use Rattle.cg_svspec.specs.Register.{input_port, output_port}
use Rattle.cg_svspec.specs.Tree.{net, cut, lit, cat, none, more, wire, drive, assign, inst}
use Rattle.cg_topspec.specs.Clashes.{clash_lists, first_clash, known_modules, file_names}
use Rattle.cg_topspec.specs.Nets.{own_link, link_of}
use Rattle.cg_topspec.specs.Top.{node_id}
use Rattle.cg_topspec.specs.TopModule.{instance_entry, crossbar_entry, top_ports, top_assigns, pin_ports, number_ports, top_module, instance_wires}

-- ---- parts of the examples

abbrev pub nowhere : At
nowhere = record { byte = 0; line = 1; column = 1 }

abbrev pub block : List ℕ → List HostFace → List IntrDesc → List IoDesc → List LaidFace → LaidBlock
block name hosts intrs ios faces = record {
  desc = record {
    file = 0;
    name = name;
    clocking = record { clock = codes "clk_i"; reset = Some (codes "rst_ni") } ∷ [];
    faces = [];
    hosts = hosts;
    intrs = intrs;
    intrs_at = nowhere;
    alerts = [];
    alerts_at = nowhere;
    auto_intr = true;
    auto_alert = true;
    ios = ios;
    at = nowhere;
  };
  faces = faces;
}

abbrev pub sole_host : List HostFace
sole_host = record { name = None } ∷ []

abbrev pub instance : List ℕ → List ℕ → InstDesc
instance name kind = record {
  name = name;
  kind = kind;
  clocks = record { port = codes "clk_i"; source = codes "main" } ∷ [];
  resets = record { port = codes "rst_ni"; source = codes "sys" } ∷ [];
  base = [];
  bases = [];
  at = nowhere;
}

abbrev pub node : List ℕ → Bool → Bool → List ℕ → NodeDesc
node name host xbar to = record { name = name; host = host; xbar = xbar; clock = codes "clk_i"; ranges = []; to = to; at = nowhere }

abbrev pub crossbar : List ℕ → List NodeDesc → XbarDesc
crossbar name nodes = record { file = 0; name = name; clock = codes "clk_i"; nodes = nodes; at = nowhere }

abbrev pub listed : List ℕ → XbarUse
listed name = record { name = name; space = codes "hart"; clocks = record { port = codes "clk_i"; source = codes "main" } ∷ []; at = nowhere }

abbrev pub top_of : List ℕ → List InstDesc → List XbarUse → List (List ℕ) → TopDesc
top_of name insts xbars pads = record {
  file = 0;
  name = name;
  sources = codes "main" ∷ [];
  resets = codes "sys" ∷ [];
  spaces = [];
  insts = insts;
  xbars = xbars;
  pads = pads;
  signals = [];
  at = nowhere;
}

abbrev pub clock_tie : Owner → Tie
clock_tie o = record { owner = o; reset = false; port = codes "clk_i"; source = codes "main" }

abbrev pub reset_tie : Owner → Tie
reset_tie o = record { owner = o; reset = true; port = codes "rst_ni"; source = codes "sys" }

abbrev pub bit : ℕ → ℕ → ℕ → Bit
bit i p k = record { inst = i; item = p; bit = k }

abbrev pub register : List ℕ → RegDesc
register name = record {
  name = name;
  fields = record { name = name; msb = 31; lsb = 0; sw = Rw; hw = Hro; resval = 0; mubi = false; at = nowhere } ∷ [];
  regwen = None;
  regwen_at = nowhere;
  hwext = false;
  hwqe = false;
  hwre = false;
  shadowed = false;
  at = nowhere;
}

abbrev pub register_face : LaidFace
register_face = record { name = None; size = 4; rows = record { first = 0; words = 1; item = item.Reg (register (codes "DATA")) } ∷ [] }

abbrev pub window_face : LaidFace
window_face = record { name = None; size = 16; rows = record { first = 0; words = 4; item = item.Window (record { name = codes "BUF"; items = 4; byte_write = false; sw = Rw; at = nowhere }) } ∷ [] }

abbrev pub no_pins : PinMap
no_pins = record { ins = []; outs = []; pads = [] }

-- ---- a top with two interrupts: instance cpu with a host interface, and a and b with a device interface and an interrupt `i` each

abbrev pub interrupt : IntrDesc
interrupt = record { name = codes "i"; width = 1; status = false; at = nowhere }

abbrev two : MergedTop
two = record {
  top = top_of (codes "two") (instance (codes "cpu") (codes "cpu") ∷ instance (codes "a") (codes "ta") ∷ instance (codes "b") (codes "tb") ∷ []) (listed (codes "main") ∷ []) [];
  xbars = crossbar (codes "main") (node (codes "cpu") true false (1 ∷ 2 ∷ []) ∷ node (codes "a") false false [] ∷ node (codes "b") false false [] ∷ []) ∷ [];
  blocks = block (codes "cpu") sole_host [] [] [] ∷ block (codes "ta") [] (interrupt ∷ []) [] (register_face ∷ []) ∷ block (codes "tb") [] (interrupt ∷ []) [] (register_face ∷ []) ∷ [];
  kinds = 0 ∷ 1 ∷ 2 ∷ [];
  ends = record { ends = Host 0 0 ∷ Face 1 0 ∷ Face 2 0 ∷ [] } ∷ [];
}

abbrev two_numbers : IrqMap
two_numbers = record { intr = bit 1 0 0 ∷ bit 2 0 0 ∷ []; alert = [] }

abbrev two_ties : List Tie
two_ties =
    clock_tie (owner.Inst 0) ∷ reset_tie (owner.Inst 0) ∷ clock_tie (owner.Inst 1) ∷ reset_tie (owner.Inst 1) ∷ clock_tie (owner.Inst 2) ∷ reset_tie (owner.Inst 2)
    ∷ clock_tie (owner.Xbar 0) ∷ []

-- `output [2:0] intr_src`, and no other vector
two_vectors : number_ports two_numbers ≡ output_port 3 (codes "intr_src") ∷ []
two_vectors = refl

-- `assign intr_src = {i_b_i, i_a_i, 1'h0};`
two_assigns : top_assigns two two_numbers no_pins ≡ assign (codes "intr_src") (cat (more (net (codes "i_b_i")) (more (net (codes "i_a_i")) (more (lit 1 0) none)))) ∷ []
two_assigns = refl

two_ports : top_ports two two_numbers no_pins ≡ input_port 1 (codes "clk_main") ∷ input_port 1 (codes "rst_sys") ∷ output_port 3 (codes "intr_src") ∷ []
two_ports = refl

two_instance : instance_entry two two_ties 1 ≡
    inst (codes "ta") (number_parameter (codes "Aw") 2 ∷ []) (codes "u_a")
    (connection (codes "clk_i") (net (codes "clk_main")) ∷ connection (codes "rst_ni") (net (codes "rst_sys"))
    ∷ connection (codes "tl_req_i") (net (codes "x_main_d_a_req")) ∷ connection (codes "tl_rsp_o") (net (codes "x_main_d_a_rsp"))
    ∷ connection (codes "intr_i_o") (net (codes "i_a_i")) ∷ [])
unfolding own_link
two_instance = refl

two_host_instance : instance_entry two two_ties 0 ≡
    inst (codes "cpu") [] (codes "u_cpu")
    (connection (codes "clk_i") (net (codes "clk_main")) ∷ connection (codes "rst_ni") (net (codes "rst_sys"))
    ∷ connection (codes "tl_h_req_o") (net (codes "x_main_h_cpu_req")) ∷ connection (codes "tl_h_rsp_i") (net (codes "x_main_h_cpu_rsp")) ∷ [])
unfolding own_link
two_host_instance = refl

two_names_differ : first_clash (clash_lists two two_numbers two_ties no_pins) ≡ None
unfolding clash_lists known_modules file_names top_module own_link
two_names_differ = refl

-- ---- a top of two crossbars: hosts cpu and dma at `main`, whose devices are the memory ram and the nested crossbar `peri`, whose device is uart0

abbrev pub duo : MergedTop
duo = record {
  top = top_of (codes "duo") (instance (codes "cpu") (codes "core") ∷ instance (codes "dma") (codes "core") ∷ instance (codes "ram") (codes "mem") ∷ instance (codes "uart0") (codes "uart") ∷ [])
      (listed (codes "main") ∷ listed (codes "peri") ∷ []) [];
  xbars =
      crossbar (codes "main") (node (codes "cpu") true false (2 ∷ 3 ∷ []) ∷ node (codes "dma") true false (2 ∷ []) ∷ node (codes "ram") false false [] ∷ node (codes "peri") false true [] ∷ [])
      ∷ crossbar (codes "peri") (node (codes "main") true true (1 ∷ []) ∷ node (codes "uart0") false false [] ∷ []) ∷ [];
  blocks = block (codes "core") sole_host [] [] [] ∷ block (codes "mem") [] [] [] (window_face ∷ []) ∷ block (codes "uart") [] [] [] (register_face ∷ []) ∷ [];
  kinds = 0 ∷ 0 ∷ 1 ∷ 2 ∷ [];
  ends = record { ends = Host 0 0 ∷ Host 1 0 ∷ Face 2 0 ∷ Xbar 1 ∷ [] } ∷ record { ends = Xbar 0 ∷ Face 3 0 ∷ [] } ∷ [];
}

abbrev pub no_numbers : IrqMap
no_numbers = record { intr = []; alert = [] }

abbrev pub duo_ties : List Tie
duo_ties =
    clock_tie (owner.Inst 0) ∷ reset_tie (owner.Inst 0) ∷ clock_tie (owner.Inst 1) ∷ reset_tie (owner.Inst 1) ∷ clock_tie (owner.Inst 2) ∷ reset_tie (owner.Inst 2)
    ∷ clock_tie (owner.Inst 3) ∷ reset_tie (owner.Inst 3) ∷ clock_tie (owner.Xbar 0) ∷ clock_tie (owner.Xbar 1) ∷ []

-- a nested crossbar's host takes the outer crossbar's device's link
duo_nested_link : (link_of duo (node_id 1 0)).request ≡ codes "x_main_d_peri_req"
unfolding own_link
duo_nested_link = refl

duo_inner_crossbar : crossbar_entry duo duo_ties 1 ≡
    inst (codes "xbar_peri") [] (codes "u_xbar_peri")
    (connection (codes "c_clk_i") (net (codes "clk_main"))
    ∷ connection (codes "h_main_req") (net (codes "x_main_d_peri_req")) ∷ connection (codes "h_main_rsp") (net (codes "x_main_d_peri_rsp"))
    ∷ connection (codes "d_uart0_req") (net (codes "x_peri_d_uart0_req")) ∷ connection (codes "d_uart0_rsp") (net (codes "x_peri_d_uart0_rsp")) ∷ [])
unfolding own_link
duo_inner_crossbar = refl

duo_names_differ : first_clash (clash_lists duo no_numbers duo_ties no_pins) ≡ None
unfolding clash_lists known_modules file_names top_module own_link
duo_names_differ = refl

-- ---- pins of all joints: a port of two bits that is muxed, one that is both and muxed, an input and an output of one bit each that are tied to pads, and a port that the top does not join

abbrev pin : List ℕ → ℕ → IoDesc
pin name width = record { name = name; width = width; dir = In }

abbrev pad_block : LaidBlock
pad_block = block (codes "io") [] []
    (record { name = codes "rx"; width = 2; dir = In } ∷ record { name = codes "dbg"; width = 1; dir = In } ∷ record { name = codes "tx"; width = 1; dir = Out }
    ∷ record { name = codes "sda"; width = 1; dir = InOut } ∷ [])
    []

abbrev pads : MergedTop
pads = record {
  top = top_of (codes "pads") (instance (codes "u") (codes "io") ∷ []) [] (codes "P0" ∷ codes "P1" ∷ codes "P2" ∷ []);
  xbars = [];
  blocks = pad_block ∷ [];
  kinds = 0 ∷ [];
  ends = [];
}

-- rx and sda are muxed, tx is tied to P0 and dbg to P2
abbrev pads_pins : PinMap
pads_pins = record { ins = bit 0 0 0 ∷ bit 0 0 1 ∷ bit 0 3 0 ∷ []; outs = bit 0 3 0 ∷ []; pads = record { bit = bit 0 2 0; pad = 0 } ∷ record { bit = bit 0 1 0; pad = 2 } ∷ [] }

pads_ports : pin_ports pads pads_pins ≡ input_port 3 (codes "mio_in") ∷ output_port 1 (codes "mio_out") ∷ input_port 3 (codes "pad_in") ∷ output_port 3 (codes "pad_out") ∷ []
pads_ports = refl

-- outputs, then inputs: `wire [1:0] p_u_rx_i = {mio_in[1:1], mio_in[0:0]};`
pads_wires : instance_wires pads pads_pins 0 ≡
    wire 1 (codes "p_u_tx_o") ∷ wire 1 (codes "p_u_sda_o")
    ∷ drive 2 (codes "p_u_rx_i") (cat (more (cut (codes "mio_in") 1 1) (more (cut (codes "mio_in") 0 0) none)))
    ∷ drive 1 (codes "p_u_dbg_i") (cat (more (cut (codes "pad_in") 2 2) none))
    ∷ drive 1 (codes "p_u_sda_i") (cat (more (cut (codes "mio_in") 2 2) none)) ∷ []
pads_wires = refl

-- an input is 0 where no signal has it, and so is a pad without an output
pads_unused : instance_wires pads no_pins 0 ≡
    wire 1 (codes "p_u_tx_o") ∷ wire 1 (codes "p_u_sda_o") ∷ drive 2 (codes "p_u_rx_i") (cat (more (lit 1 0) (more (lit 1 0) none)))
    ∷ drive 1 (codes "p_u_dbg_i") (cat (more (lit 1 0) none)) ∷ drive 1 (codes "p_u_sda_i") (cat (more (lit 1 0) none)) ∷ []
pads_unused = refl

pads_assigns : top_assigns pads no_numbers pads_pins ≡
    assign (codes "intr_src") (cat (more (lit 1 0) none)) ∷ assign (codes "mio_out") (cat (more (net (codes "p_u_sda_o")) none))
    ∷ assign (codes "pad_out") (cat (more (lit 1 0) (more (lit 1 0) (more (net (codes "p_u_tx_o")) none)))) ∷ []
pads_assigns = refl

pads_instance : instance_entry pads [] 0 ≡
    inst (codes "io") [] (codes "u_u")
    (connection (codes "cio_rx_i") (net (codes "p_u_rx_i")) ∷ connection (codes "cio_dbg_i") (net (codes "p_u_dbg_i")) ∷ connection (codes "cio_sda_i") (net (codes "p_u_sda_i"))
    ∷ connection (codes "cio_tx_o") (net (codes "p_u_tx_o")) ∷ connection (codes "cio_sda_o") (net (codes "p_u_sda_o")) ∷ [])
unfolding own_link
pads_instance = refl
