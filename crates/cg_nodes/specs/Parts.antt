-- Which parts a crossbar has, and in which order they stand (OpenTitan Crossbar Tool).
use Rattle.std.specs.Prelude.{◌≡◌, ◌≢◌, ◌↔◌, ℕ, ◌<◌, List}
use Rattle.cg_svspec.specs.Names.{Among}
use Rattle.cg_desc.specs.Crossbar.{NodeIs, IsHost, IsDevice, Connects}
use Rattle.cg_desc.specs.declared.crossbar.NodeDesc.{NodeDesc}
use Rattle.cg_desc.specs.declared.crossbar.XbarDesc.{XbarDesc}
use Rattle.cg_nodes.specs.Order.{Rises}
use Rattle.cg_nodes.specs.declared.parts.Part.{Part}
use Rattle.cg_nodes.specs.declared.parts.Part.TheVariants.{HostFifo, Split, Join, DeviceFifo}

-- ---- which parts there are

-- node i has a clock that is not the crossbar's
abbrev pub HasOtherClock : XbarDesc → ℕ → Type 0
HasOtherClock x i = (node : NodeDesc) × NodeIs x i node × (node.clock ≢ x.clock)

-- two different hosts connect to device d
abbrev pub HasTwoHosts : XbarDesc → ℕ → Type 0
HasTwoHosts x d = (a : ℕ) × (b : ℕ) × (a ≢ b) × Connects x a d × Connects x b d

-- The part is one of the crossbar's: a FIFO at each node whose clock is not the crossbar's, a 1-to-N socket behind each host,
-- and an M-to-1 socket before each device to which more than one host connects.
pub data IsPartOf (x : XbarDesc) : Part → Type 0 where
  host_fifo : (h : ℕ) → IsHost x h → HasOtherClock x h → IsPartOf x (HostFifo h)
  split : (h : ℕ) → IsHost x h → IsPartOf x (Split h)
  join : (d : ℕ) → IsDevice x d → HasTwoHosts x d → IsPartOf x (Join d)
  device_fifo : (d : ℕ) → IsDevice x d → HasOtherClock x d → IsPartOf x (DeviceFifo d)

-- ---- in which order

-- the hosts' side comes before the devices' side
abbrev pub side : Part → ℕ
side (HostFifo h) = 0
side (Split h) = 0
side (Join d) = 1
side (DeviceFifo d) = 1

-- the number of the node at which the part stands
abbrev pub node_of : Part → ℕ
node_of (HostFifo h) = h
node_of (Split h) = h
node_of (Join d) = d
node_of (DeviceFifo d) = d

-- a request passes a host's FIFO before its socket, and a device's socket before its FIFO
abbrev pub step : Part → ℕ
step (HostFifo h) = 0
step (Split h) = 1
step (Join d) = 0
step (DeviceFifo d) = 1

-- a part stands before another: by side, then by node, then by the way of a request
pub data Precedes (p q : Part) : Type 0 where
  by_side : side p < side q → Precedes p q
  by_node : side p ≡ side q → node_of p < node_of q → Precedes p q
  by_step : side p ≡ side q → node_of p ≡ node_of q → step p < step q → Precedes p q

-- The list has exactly the crossbar's parts, each before all that stand behind it, so each once.
pub record IsParts (x : XbarDesc) (parts : List Part) : Type 0 where
  pub members : (p : Part) → Among p parts ↔ IsPartOf x p
  pub in_order : Rises Precedes parts
