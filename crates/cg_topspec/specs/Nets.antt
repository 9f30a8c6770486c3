-- The names of a top module's nets, and the bits of them.
use Rattle.std.specs.Prelude.{ℕ, suc, eqb, Bool, true, false, cond, List, [], ◌∷◌, ◌++◌, codes, filter, get_or, Option, Some, None}
use Rattle.cg_desc.specs.declared.block.AlertDesc.{AlertDesc}
use Rattle.cg_desc.specs.declared.block.IntrDesc.{IntrDesc}
use Rattle.cg_desc.specs.declared.block.IoDesc.{IoDesc}
use Rattle.cg_desc.specs.declared.block.IoDir.{IoDir}
use Rattle.cg_desc.specs.declared.block.IoDir.TheVariants.{In, Out, InOut}
use Rattle.cg_desc.specs.declared.block.LaidBlock.{LaidBlock}
use Rattle.cg_desc.specs.declared.top.MergedTop.{MergedTop}
use Rattle.cg_desc.specs.declared.top.NodeEnd.{NodeEnd}
use Rattle.cg_desc.specs.declared.top.NodeEnd.TheVariants.{Xbar}
use Rattle.cg_irq.specs.declared.bits.Bit.{Bit}
use Rattle.cg_svspec.specs.Links.{Link, link, spelled}
use Rattle.cg_svspec.specs.Tree.{Expression, net, cut}
use Rattle.cg_topspec.specs.Top.{NodeId, crossbar_of, node_of, end_of, is_host, outer_device, instance_of, block_of, no_place}

-- ---- clocks and resets

abbrev pub clock_net : List ℕ → List ℕ
clock_net source = codes "clk_" ++ source

abbrev pub reset_net : List ℕ → List ℕ
reset_net source = codes "rst_" ++ source

-- ---- links

-- what the names of a node's link begin with: `x_<crossbar>_h_<node>` for a host, and `x_<crossbar>_d_<node>` for a device
abbrev pub link_base : MergedTop → NodeId → List ℕ
link_base m n = codes "x_" ++ ((crossbar_of m n.xbar).name ++ (cond (is_host m n) (codes "_h_") (codes "_d_") ++ spelled (node_of m n).name))

abbrev pub with_ends : List ℕ → Link
with_ends base = link (base ++ codes "_req") (base ++ codes "_rsp")

unfoldable pub own_link : MergedTop → NodeId → Link
own_link m n = with_ends (link_base m n)

-- the link of the outer crossbar's device, where there is one
abbrev pub or_own : Link → MergedTop → Option NodeId → Link
or_own own m None = own
or_own own m (Some d) = own_link m d

abbrev pub joined_link : MergedTop → NodeId → Bool → NodeEnd → Link
joined_link m n true (Xbar x) = or_own (own_link m n) m (outer_device m x n.xbar)
joined_link m n _ e = own_link m n

-- The link that the instance of the crossbar has for a node: a host that stands for an outer crossbar has that one's device's link, and
-- any other node has its own.
abbrev pub link_of : MergedTop → NodeId → Link
link_of m n = joined_link m n (is_host m n) (end_of m n)

-- ---- bits

-- bit k of a net of this width: the bare name where it is its only one
abbrev pub bit_at : List ℕ → ℕ → ℕ → Expression
bit_at name width k = cond (eqb width 1) (net name) (cut name k k)

-- ---- interrupts and alerts

abbrev pub interrupt_net : List ℕ → IntrDesc → List ℕ
interrupt_net inst interrupt = codes "i_" ++ (inst ++ (codes "_" ++ interrupt.name))

abbrev pub alert_net : List ℕ → AlertDesc → List ℕ
alert_net inst alert = codes "a_" ++ (inst ++ (codes "_" ++ alert.name))

abbrev pub no_interrupt : IntrDesc
no_interrupt = record { name = []; width = 1; status = false; at = no_place }

abbrev pub no_alert : AlertDesc
no_alert = record { name = []; at = no_place }

-- a bit of an instance's interrupt, and of its alert
abbrev pub interrupt_bit : MergedTop → Bit → Expression
interrupt_bit m b = of_interrupt (get_or (block_of m b.inst).desc.intrs b.item no_interrupt) where
  of_interrupt : IntrDesc → Expression
  of_interrupt interrupt = bit_at (interrupt_net (instance_of m b.inst).name interrupt) interrupt.width b.bit

abbrev pub alert_bit : MergedTop → Bit → Expression
alert_bit m b = net (alert_net (instance_of m b.inst).name (get_or (block_of m b.inst).desc.alerts b.item no_alert))

-- ---- ports that go to pins

abbrev pub pin_input_net : List ℕ → IoDesc → List ℕ
pin_input_net inst port = codes "p_" ++ (inst ++ (codes "_" ++ (port.name ++ codes "_i")))

abbrev pub pin_output_net : List ℕ → IoDesc → List ℕ
pin_output_net inst port = codes "p_" ++ (inst ++ (codes "_" ++ (port.name ++ codes "_o")))

abbrev pub no_port : IoDesc
no_port = record { name = []; width = 1; dir = In }

-- a port that is an input or both takes bits in, and one that is an output or both gives bits out
abbrev pub takes_in : IoDir → Bool
takes_in In = true
takes_in Out = false
takes_in InOut = true

abbrev pub gives_out : IoDir → Bool
gives_out In = false
gives_out Out = true
gives_out InOut = true

-- the port of a bit
abbrev pub port_of : MergedTop → Bit → IoDesc
port_of m b = get_or (block_of m b.inst).desc.ios b.item no_port

-- a bit of an instance's port that gives bits out
abbrev pub pin_output_bit : MergedTop → Bit → Expression
pin_output_bit m b = bit_at (pin_output_net (instance_of m b.inst).name (port_of m b)) (port_of m b).width b.bit

-- a port with its number in its block's list
pub record Pin : Type 0 where
  pub number : ℕ
  pub port : IoDesc

-- the ports with their numbers, the first of which is this one
abbrev pub numbered : ℕ → List IoDesc → List Pin
numbered p [] = []
numbered p (io ∷ ios) = record { number = p; port = io } ∷ numbered (suc p) ios

-- the block's ports that take bits in, and those that give bits out, in the order of its list
abbrev pub input_pins : LaidBlock → List Pin
input_pins b = filter (λ p. takes_in p.port.dir) (numbered 0 b.desc.ios)

abbrev pub output_pins : LaidBlock → List Pin
output_pins b = filter (λ p. gives_out p.port.dir) (numbered 0 b.desc.ios)
