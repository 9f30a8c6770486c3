-- Where the requests of a top's hosts come to in its modules: where the address map says.
use Rattle.std.specs.Prelude.{◌≡◌, ℕ, ◌+◌, ◌%◌, ◌^◌, List, ◌∷◌, length, map, slice_get, Some, None}
use Rattle.cg_busspec.specs.CrossbarModule.{connection}
use Rattle.cg_busspec.specs.Ranges.{address_of}
use Rattle.cg_clkrst.specs.declared.tie.Tie.{Tie}
use Rattle.cg_desc.specs.AddressMap.{IsPlaceFor}
use Rattle.cg_desc.specs.Merged.{EndAt, FaceAt}
use Rattle.cg_desc.specs.Target.{Target, register, word, error as no_target, IsTarget}
use Rattle.cg_desc.specs.declared.address.Place.{Place}
use Rattle.cg_desc.specs.declared.address.Place.TheVariants.{Reg as register_at, Word as word_at, Outside as outside_at, Error}
use Rattle.cg_desc.specs.declared.block.LaidFace.{LaidFace}
use Rattle.cg_desc.specs.declared.top.MergedTop.{MergedTop}
use Rattle.cg_desc.specs.declared.top.NodeEnd.TheVariants.{Face, Outside}
use Rattle.cg_irq.specs.declared.bits.IrqMap.{IrqMap}
use Rattle.cg_pinmux.specs.declared.map.PinMap.{PinMap}
use Rattle.cg_space.specs.Rows.{IsMapHost}
use Rattle.cg_space.specs.Violations.{NoViolation}
use Rattle.cg_svspec.specs.Bits.{Bits}
use Rattle.cg_svspec.specs.Tree.{net, lit, Module}
use Rattle.cg_svspec.specs.Value.{connection_at, parameter_at}
use Rattle.cg_svspec.specs.Links.{port_number}
use Rattle.cg_svspec.specs.Walk.{Walks, face, outside, error, address_width_name, response_name}
use Rattle.cg_topspec.specs.Clashes.{clash_lists, first_clash}
use Rattle.cg_topspec.specs.Fits.{FitsTop}
use Rattle.cg_topspec.specs.Modules.{HasModules}
use Rattle.cg_topspec.specs.Nets.{own_link}
use Rattle.cg_topspec.specs.Top.{node_id, block_of}
use Rattle.cg_topspec.specs.TopModule.{top_ports, top_nets, top_module, address_width, face_request, instance_connections}

-- what a target of an interface is in the address map
abbrev pub target_place : ℕ → ℕ → Target → Place
target_place i f (register r) = register_at i f r
target_place i f (word r k) = word_at i f r k
target_place i f no_target = Error

-- ---- at an interface

-- Connection j of instance i brings the requests of its device interface f, from the link of device d of crossbar z, to which the
-- response leads back; the interface's parameter is how many address bits it has.
pub record MeetsInterface (m : MergedTop) (ties : List Tie) (i f j z d : ℕ) (interface : LaidFace) : Type 0 where
  pub interface_is : FaceAt m i f interface
  pub stands : EndAt m z d (Face i f)
  pub request_is : slice_get (instance_connections m ties i) j ≡ Some (connection (face_request interface.name) (net (own_link m (node_id z d)).request))
  pub response_is : connection_at (response_name interface.name) (instance_connections m ties i) ≡ Some (net (own_link m (node_id z d)).response)
  pub width : ℕ
  pub size_is : interface.size ≡ 2 ^ width
  pub width_is : parameter_at (address_width_name interface.name) (map address_width (block_of m i).faces) ≡ Some (lit 0 width)

-- ---- where a request comes to

-- A request of a host comes to nothing, where nothing is at its address; or to the port of a device outside, which is there; or to an
-- interface of an instance, where there is what the low bits of the address are in the interface, which may be nothing.
pub data Comes (m : MergedTop) (numbers : IrqMap) (ties : List Tie) (pins : PinMap) (ms : List Module) (x h : ℕ) (host : List ℕ) (request : Bits) : Type 0 where
  to_nothing : IsPlaceFor m x h (address_of request) Error → Walks (top_module m numbers ties pins ∷ ms) host request error → Comes m numbers ties pins ms x h host request
  to_port : (z d : ℕ) → EndAt m z d Outside → IsPlaceFor m x h (address_of request) (outside_at z d)
      → Walks (top_module m numbers ties pins ∷ ms) host request (outside (port_number (top_ports m numbers pins) (own_link m (node_id z d)).request))
      → Comes m numbers ties pins ms x h host request
  to_interface : (i f j z d : ℕ) (interface : LaidFace) (target : Target) → MeetsInterface m ties i f j z d interface
      → IsTarget interface (address_of request % interface.size) target → IsPlaceFor m x h (address_of request) (target_place i f target)
      → Walks (top_module m numbers ties pins ∷ ms) host request (face (length (top_nets m numbers pins) + i) j) → Comes m numbers ties pins ms x h host request

-- In the module of a merged top, with its numbers, ties and pins, that breaks no rule on ranges and no name of which stands twice in
-- a list, with its crossbars' and blocks' modules behind it, every request of every host that stands for no crossbar comes to what
-- the address map says.
abbrev pub RequestsCome : Type 0
RequestsCome =
    (m : MergedTop) (numbers : IrqMap) (ties : List Tie) (pins : PinMap) (ms : List Module) → FitsTop m numbers ties pins → NoViolation m
    → first_clash (clash_lists m numbers ties pins) ≡ None → HasModules m (top_module m numbers ties pins ∷ ms)
    → (x h : ℕ) (at : IsMapHost m x h) (request : Bits) → length request ≡ 70 → Comes m numbers ties pins ms x h at.host.name request
