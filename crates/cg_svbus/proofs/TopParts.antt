-- The parts of a top's module, case by case.
use Rattle.std.proofs.Common.{◌≡◌, ℕ, Bool, true, false, List, [], ◌∷◌, length, map, reverse, refl, ap, ◌∙◌, ◌<◌, ◌++◌, arith, codes, Option, Some, None}
use Rattle.cg_busspec.specs.CrossbarModule.{link_wires}
use Rattle.cg_desc.specs.declared.top.NodeEnd.{NodeEnd}
use Rattle.cg_desc.specs.declared.top.NodeEnd.TheVariants.{Face, Host, Xbar, Outside}
use Rattle.cg_irq.specs.declared.bits.IrqMap.{IrqMap}
use Rattle.cg_pinmux.specs.declared.map.PinMap.{PinMap}
use Rattle.cg_sv.specs.Views.{expression_of, parameter_of}
use Rattle.cg_clkrst.specs.declared.tie.Tie.{Tie}
use Rattle.cg_desc.specs.declared.top.MergedTop.{MergedTop}
use Rattle.cg_sv.specs.declared.tree.Expr.{Expr}
use Rattle.cg_sv.specs.declared.tree.Param.{Param}
use Rattle.cg_svxbar.proofs.Bundles.{map_reverse}
use Rattle.cg_svbus.specs.TopViewed.{counted_port, has_wires, face_port}
use Rattle.cg_svspec.specs.Links.{Link}
use Rattle.cg_svspec.specs.Tree.{Module, Port, Expression, Parameter, Connection, Entry, assign, inst, cat, expressions}
use Rattle.cg_svspec.specs.Walk.{response_name}
use Rattle.cg_svspec.specs.Names.{module_names}
use Rattle.cg_svspec.specs.WellFormed.{connection_names}
use Rattle.cg_topspec.specs.Clashes.{known_modules, file_names, port_lists, clash_lists}
use Rattle.cg_topspec.specs.Nets.{link_of}
use Rattle.cg_topspec.specs.Top.{NodeId, crossbar_of, instance_of, block_of, instance_numbers}
use Rattle.cg_topspec.specs.TopModule.{end_ports, end_wires, vector_port, vector_assign, bits_of, face_request, host_face_request, host_face_response, address_width, instance_connections, instance_entry, crossbar_connections, crossbar_module_name, crossbar_entry, link_connections, node_connections, port_link, top_module}

-- ---- ports

-- only a node outside the top has ports
pub device_face_ports : (b : Bool) (l : Link) (i f : ℕ) → end_ports b l (Face i f) ≡ []
device_face_ports true l i f = refl
device_face_ports false l i f = refl

pub host_face_ports : (b : Bool) (l : Link) (i f : ℕ) → end_ports b l (Host i f) ≡ []
host_face_ports true l i f = refl
host_face_ports false l i f = refl

pub crossbar_ports : (b : Bool) (l : Link) (x : ℕ) → end_ports b l (Xbar x) ≡ []
crossbar_ports true l x = refl
crossbar_ports false l x = refl

pub ruleset ports_of_ends = (device_face_ports, host_face_ports, crossbar_ports)

-- a port by how many bits it has
pub counted : {A : Type 0} (port : ℕ → List ℕ → Port) (name : List ℕ) (xs : List A) → vector_port port name xs ≡ counted_port port name (length xs)
counted port name [] = refl
counted port name (x ∷ xs) = refl

pub ruleset counted_ports = (counted)

-- ---- bits

-- parts in the reverse order are the bits in their order
pub reversed : (x : Expr) (ps rs : List Expr) → rs ≡ reverse ps → expression_of x ≡ cat (expressions (map expression_of rs)) → expression_of x ≡ bits_of (map expression_of ps)
reversed x ps rs turned e = e ∙ ap (λ z. cat (expressions z)) (ap (map expression_of) turned ∙ map_reverse expression_of ps)

-- an output by its bits
pub assigned : (name : List ℕ) (xs : List Expression) → 0 < length xs → vector_assign name xs ≡ assign name (bits_of xs) ∷ []
assigned name [] some = absurd (omega (arith, some))
assigned name (x ∷ xs) some = refl

-- ---- wires

pub wires_of_ends : (b : Bool) (l : Link) (e : NodeEnd) → has_wires b e ≡ true → end_wires b l e ≡ link_wires l
wires_of_ends true l Outside has = cc
wires_of_ends false l Outside has = cc
wires_of_ends true l (Xbar x) has = cc
wires_of_ends false l (Xbar x) has = refl
wires_of_ends true l (Face i f) has = refl
wires_of_ends false l (Face i f) has = refl
wires_of_ends true l (Host i f) has = refl
wires_of_ends false l (Host i f) has = refl

pub no_wires_of_ends : (b : Bool) (l : Link) (e : NodeEnd) → has_wires b e ≡ false → end_wires b l e ≡ []
no_wires_of_ends true l Outside has = refl
no_wires_of_ends false l Outside has = refl
no_wires_of_ends true l (Xbar x) has = refl
no_wires_of_ends false l (Xbar x) has = cc
no_wires_of_ends true l (Face i f) has = cc
no_wires_of_ends false l (Face i f) has = cc
no_wires_of_ends true l (Host i f) has = cc
no_wires_of_ends false l (Host i f) has = cc

pub ruleset wires_by_ends = (wires_of_ends, no_wires_of_ends)

-- ---- interfaces

pub request_spelled : (f : Option (List ℕ)) → face_port (codes "tl_req_i") (codes "_tl_req_i") f ≡ face_request f
request_spelled None = refl
request_spelled (Some f) = refl

pub response_spelled : (f : Option (List ℕ)) → face_port (codes "tl_rsp_o") (codes "_tl_rsp_o") f ≡ response_name f
response_spelled None = refl
response_spelled (Some f) = refl

pub host_request_spelled : (f : Option (List ℕ)) → face_port (codes "tl_h_req_o") (codes "_tl_req_o") f ≡ host_face_request f
host_request_spelled None = refl
host_request_spelled (Some f) = refl

pub host_response_spelled : (f : Option (List ℕ)) → face_port (codes "tl_h_rsp_i") (codes "_tl_rsp_i") f ≡ host_face_response f
host_response_spelled None = refl
host_response_spelled (Some f) = refl

pub ruleset spelled_faces = (request_spelled, response_spelled, host_request_spelled, host_response_spelled)

-- ---- instances

pub instance_made : (m : MergedTop) (ties : List Tie) (i : ℕ) (old new : List Entry) (ps : List Parameter) (cs : List Connection)
    → ps ≡ map address_width (block_of m i).faces → cs ≡ instance_connections m ties i
    → new ≡ old ++ inst (block_of m i).desc.name ps (codes "u_" ++ (instance_of m i).name) cs ∷ [] → new ≡ old ++ instance_entry m ties i ∷ []
instance_made m ties i old new ps cs params conns e =
    e ∙ (ap (λ z. old ++ inst (block_of m i).desc.name z (codes "u_" ++ (instance_of m i).name) cs ∷ []) params
    ∙ ap (λ z. old ++ inst (block_of m i).desc.name (map address_width (block_of m i).faces) (codes "u_" ++ (instance_of m i).name) z ∷ []) conns)

pub crossbar_made : (m : MergedTop) (ties : List Tie) (x : ℕ) (old new : List Entry) (ps : List Param) (cs : List Connection)
    → ps ≡ [] → cs ≡ crossbar_connections m ties x
    → new ≡ old ++ inst (crossbar_module_name m x) (map parameter_of ps) (codes "u_xbar_" ++ (crossbar_of m x).name) cs ∷ [] → new ≡ old ++ crossbar_entry m ties x ∷ []
crossbar_made m ties x old new ps cs params conns e =
    e ∙ (ap (λ z. old ++ inst (crossbar_module_name m x) (map parameter_of z) (codes "u_xbar_" ++ (crossbar_of m x).name) cs ∷ []) params
    ∙ ap (λ z. old ++ inst (crossbar_module_name m x) [] (codes "u_xbar_" ++ (crossbar_of m x).name) z ∷ []) conns)

pub node_connected : (m : MergedTop) (n : NodeId) (port link : Link) (old new : List Connection) → port ≡ port_link m n → link ≡ link_of m n
    → new ≡ old ++ link_connections port.request port.response link → new ≡ old ++ node_connections m n
node_connected m n port link old new port_is link_is e =
    e ∙ (ap (λ (z : Link). old ++ link_connections z.request z.response link) port_is
    ∙ ap (λ (z : Link). old ++ link_connections (port_link m n).request (port_link m n).response z) link_is)

-- ---- names

pub lists_made : (m : MergedTop) (irq : IrqMap) (ties : List Tie) (pins : PinMap) (made : Module) (insts : List ℕ) (lists : List (List (List ℕ)))
    → insts ≡ instance_numbers m → made ≡ top_module m irq ties pins
    → lists ≡ known_modules m ∷ file_names m ∷ (map (λ i. connection_names (instance_connections m ties i)) insts ++ (module_names made ∷ []))
    → lists ≡ clash_lists m irq ties pins
unfolding clash_lists
lists_made m irq ties pins made insts lists numbers is e =
    e ∙ (ap (λ (z : List ℕ). known_modules m ∷ file_names m ∷ (map (λ i. connection_names (instance_connections m ties i)) z ++ (module_names made ∷ []))) numbers
    ∙ ap (λ (z : Module). known_modules m ∷ file_names m ∷ (port_lists m ties ++ (module_names z ∷ []))) is)
