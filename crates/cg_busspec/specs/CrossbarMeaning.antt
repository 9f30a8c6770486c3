-- What a crossbar's module means: where the requests of its hosts end, and which parts stand in it.
use Rattle.std.specs.Prelude.{◌≡◌, ◌≢◌, ℕ, ◌<◌, ◌≤◌, true, false, length, List, [], ◌∷◌, ◌++◌, codes, slice_get, Option, Some, None}
use Rattle.cg_svspec.specs.Bits.{Bits, bits}
use Rattle.cg_svspec.specs.Links.{Link, link, spelled, host_link, device_link}
use Rattle.cg_svspec.specs.Names.{Among}
use Rattle.cg_svspec.specs.Register.{output_port}
use Rattle.cg_svspec.specs.Tree.{Expression, net, Parameter, Connection, inst, Module}
use Rattle.cg_svspec.specs.Value.{Values, Valuation, connection_at}
use Rattle.cg_svspec.specs.Walk.{outside, error, Walks}
use Rattle.cg_svspec.specs.WellFormed.{WellFormed, HasValuation, split_name, join_name, fifo_name}
use Rattle.cg_desc.specs.Crossbar.{NodeIs, IsHost, IsDevice, Connects}
use Rattle.cg_desc.specs.declared.crossbar.NodeDesc.{NodeDesc}
use Rattle.cg_desc.specs.declared.crossbar.NodeRanges.{NodeRanges}
use Rattle.cg_desc.specs.declared.crossbar.XbarDesc.{XbarDesc}
use Rattle.cg_busspec.specs.Passage.{Passes}
use Rattle.cg_busspec.specs.Ranges.{HasAddress, address_of}

-- node h is this host
abbrev pub HostIs : XbarDesc → ℕ → NodeDesc → Type 0
HostIs x h host = NodeIs x h host × (host.host ≡ true)

-- node d is this device
abbrev pub DeviceIs : XbarDesc → ℕ → NodeDesc → Type 0
DeviceIs x d device = NodeIs x d device × (device.host ≡ false)

-- none of the devices that host h connects to has the address
abbrev pub NoneHas : XbarDesc → List NodeRanges → ℕ → ℕ → Type 0
NoneHas x ranges h a = (d : ℕ) → Connects x h d → HasAddress ranges d a → ⊥

-- ---- where requests end

-- Every request of a host ends, unchanged, at the port of the device that the host connects to and that has the address in a range, and
-- in an error where there is none.
pub record Routes (m : Module) (x : XbarDesc) (ranges : List NodeRanges) : Type 0 where
  pub reaches : (h d : ℕ) (host device : NodeDesc) (request : Bits) → HostIs x h host → NodeIs x d device → Connects x h d → length request ≡ 70 → HasAddress ranges d (address_of request)
      → (k : ℕ) × (slice_get m.ports k ≡ Some (output_port 70 (device_link device.name).request)) × Walks (m ∷ []) host.name request (outside k)
  pub reaches_none : (h : ℕ) (host : NodeDesc) (request : Bits) → HostIs x h host → length request ≡ 70 → NoneHas x ranges h (address_of request) → Walks (m ∷ []) host.name request error

-- The same inside the module, wherever it stands: from each host's link a request leaves by the link of the device that has its address,
-- or is stuck where there is none.
pub record Carries (m : Module) (x : XbarDesc) (ranges : List NodeRanges) : Type 0 where
  pub carries : (h d : ℕ) (host device : NodeDesc) (request : Bits) → HostIs x h host → NodeIs x d device → Connects x h d → length request ≡ 70 → HasAddress ranges d (address_of request)
      → Passes m request [] (host_link host.name) (Some (device_link device.name))
  pub stops : (h : ℕ) (host : NodeDesc) (request : Bits) → HostIs x h host → length request ≡ 70 → NoneHas x ranges h (address_of request) → Passes m request [] (host_link host.name) None

-- ---- the selects

-- place j of a host's devices is the first whose device has the address in a range; behind them all where there is none
pub record IsFirstWith (ranges : List NodeRanges) (devices : List ℕ) (a j : ℕ) : Type 0 where
  pub within : j ≤ length devices
  pub has : (d : ℕ) → slice_get devices j ≡ Some d → HasAddress ranges d a
  pub none_before : (i d : ℕ) → i < j → slice_get devices i ≡ Some d → HasAddress ranges d a → ⊥

-- In every valuation the select at a host's 1-to-N socket has the number of the first of the host's devices that has the address of the
-- request there, and that of all its devices where there is none.
abbrev pub Selects : Module → XbarDesc → List NodeRanges → Type 0
Selects m x ranges =
    (h : ℕ) (host : NodeDesc) (ps : List Parameter) (cs : List Connection) (s q : List ℕ) (inputs given v next : Values)
    → HostIs x h host → Among (inst split_name ps (codes "u_s_" ++ spelled host.name) cs) m.entries
    → connection_at (codes "sel_i") cs ≡ Some (net s) → connection_at (codes "req_i") cs ≡ Some (net q)
    → Valuation m inputs given v next → length (v q) ≡ 70
    → (j : ℕ) × IsFirstWith ranges host.to (address_of (v q)) j × (v s ≡ bits 8 j)

-- ---- the parts

-- the net at the connection is the port of this clock
abbrev pub ClockAt : List ℕ → List ℕ → List Connection → Type 0
ClockAt port clock cs = connection_at port cs ≡ Some (net (codes "c_" ++ clock))

-- The instance of this module and name, with these connections, is a part of the crossbar: a FIFO between the clock of a node and another
-- one of the crossbar, a 1-to-N socket of a host, or an M-to-1 socket of a device to which two hosts connect.
pub data IsPart (x : XbarDesc) : List ℕ → List ℕ → List Connection → Type 0 where
  host_fifo : (h : ℕ) (host : NodeDesc) (cs : List Connection) → HostIs x h host → host.clock ≢ x.clock → ClockAt (codes "clk_h_i") host.clock cs → ClockAt (codes "clk_d_i") x.clock cs
      → IsPart x fifo_name (codes "u_hf_" ++ spelled host.name) cs
  split_socket : (h : ℕ) (host : NodeDesc) (cs : List Connection) → HostIs x h host → ClockAt (codes "clk_i") x.clock cs → IsPart x split_name (codes "u_s_" ++ spelled host.name) cs
  join_socket : (d a b : ℕ) (device : NodeDesc) (cs : List Connection) → DeviceIs x d device → a ≢ b → Connects x a d → Connects x b d → ClockAt (codes "clk_i") x.clock cs
      → IsPart x join_name (codes "u_m_" ++ spelled device.name) cs
  device_fifo : (d : ℕ) (device : NodeDesc) (cs : List Connection) → DeviceIs x d device → device.clock ≢ x.clock → ClockAt (codes "clk_h_i") x.clock cs
      → ClockAt (codes "clk_d_i") device.clock cs → IsPart x fifo_name (codes "u_df_" ++ spelled device.name) cs

-- there is an instance of this module and name
abbrev pub HasInstance : Module → List ℕ → List ℕ → Type 0
HasInstance m part name = (ps : List Parameter) × (cs : List Connection) × Among (inst part ps name cs) m.entries

-- The instances of the module are parts of the crossbar, and each part is one: FIFOs stand exactly where clocks differ, and M-to-1 sockets
-- exactly where more than one host connects.
pub record PartsStand (m : Module) (x : XbarDesc) : Type 0 where
  pub each_is : (part name : List ℕ) (ps : List Parameter) (cs : List Connection) → Among (inst part ps name cs) m.entries → IsPart x part name cs
  pub host_fifos : (h : ℕ) (host : NodeDesc) → HostIs x h host → host.clock ≢ x.clock → HasInstance m fifo_name (codes "u_hf_" ++ spelled host.name)
  pub split_sockets : (h : ℕ) (host : NodeDesc) → HostIs x h host → HasInstance m split_name (codes "u_s_" ++ spelled host.name)
  pub join_sockets : (d a b : ℕ) (device : NodeDesc) → DeviceIs x d device → a ≢ b → Connects x a d → Connects x b d → HasInstance m join_name (codes "u_m_" ++ spelled device.name)
  pub device_fifos : (d : ℕ) (device : NodeDesc) → DeviceIs x d device → device.clock ≢ x.clock → HasInstance m fifo_name (codes "u_df_" ++ spelled device.name)

-- ---- the whole

-- The module is the crossbar.
pub record CrossbarMeans (m : Module) (x : XbarDesc) (ranges : List NodeRanges) : Type 0 where
  pub well_formed : WellFormed m
  pub has_valuation : HasValuation m
  pub routes : Routes m x ranges
  pub carries : Carries m x ranges
  pub selects : Selects m x ranges
  pub parts : PartsStand m x
