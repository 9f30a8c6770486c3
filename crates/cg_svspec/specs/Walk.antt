-- The way of a request of 70 bits from a host over links, from the modules alone: inside crossbars over FIFOs and sockets, and between
-- crossbars over the nets of the first module, up to a device interface of an instance or to a port of the first module. The first
-- module is a top module, or one crossbar alone.
use Rattle.std.specs.Prelude.{◌≡◌, ℕ, suc, ◌-◌, ◌≤◌, eqb, Bool, true, false, not, cond, ◌&&◌, ◌||◌, List, [], ◌∷◌, ◌++◌, length, take, slice_get, codes, Option, Some, None}
use Rattle.std.specs.Str.{bytes_eq}
use Rattle.cg_svspec.specs.Bits.{Bits}
use Rattle.cg_svspec.specs.Tree.{Expression, net, lit, Parameter, Connection, Entry, wire, drive, assign, inst, Module}
use Rattle.cg_svspec.specs.Names.{is_among}
use Rattle.cg_svspec.specs.Value.{connection_at, parameter_at}
use Rattle.cg_svspec.specs.Register.{IsRegister}
use Rattle.cg_svspec.specs.WellFormed.{inputs_of, outputs_of, ends_with}
use Rattle.cg_svspec.specs.Links.{Link, link, answer_to, is_host_request, is_device_request, comes_in, goes_out, port_number, host_link, nets_of, is_net, Onward, to, leaves, stuck, inside}

-- where a walk ends
pub data End : Type 0 where
  -- at a device interface of an instance: the number of the instance's entry in the first module, and that of the connection in it
  face : ℕ → ℕ → End
  -- at a port of the first module, by its number
  outside : ℕ → End
  -- the request reaches nothing, or its response does not lead back
  error : End
  -- there is no such host
  no_host : End
  -- the way needs a module that is not there
  no_module : End

-- ---- what a net of the first module leads to

-- the first module with this name
abbrev pub module_named : List Module → List ℕ → Option Module
module_named [] n = None
module_named (m ∷ ms) n = cond (bytes_eq m.name n) (Some m) (module_named ms n)

-- An instance whose module is there is a crossbar.
abbrev pub is_some_module : Option Module → Bool
is_some_module None = false
is_some_module (Some m) = true

-- just this net
abbrev pub is_bare : Option Expression → List ℕ → Bool
is_bare (Some (net n)) q = bytes_eq n q
is_bare _ q = false

-- The number of the first connection whose name counts and which has this net. Of two connections of one name the first counts.
abbrev pub connection_number : (List ℕ → Bool) → List ℕ → List Connection → ℕ → List Connection → Option ℕ
connection_number counts q cs j [] = None
connection_number counts q cs j (d ∷ ds) = cond (counts d.name && is_bare (connection_at d.name cs) q) (Some j) (connection_number counts q cs (suc j) ds)

-- At a crossbar the requests of its hosts count, and at any other instance each connection.
abbrev pub counts_at : Bool → List ℕ → Bool
counts_at true name = is_host_request name
counts_at false name = true

abbrev pub here_or : ℕ → Option (ℕ × ℕ) → Option ℕ → Option (ℕ × ℕ)
here_or i later (Some j) = Some (i, j)
here_or i later None = later

-- Where a net leads to: the first connection that counts, in the order of entries, by its entry's number and its own; the first of the
-- entries has number i.
abbrev pub arrival : List Module → List ℕ → ℕ → List Entry → Option (ℕ × ℕ)
arrival ms q i [] = None
arrival ms q i (wire w n ∷ es) = arrival ms q (suc i) es
arrival ms q i (drive w n x ∷ es) = arrival ms q (suc i) es
arrival ms q i (assign n x ∷ es) = arrival ms q (suc i) es
arrival ms q i (inst m ps n cs ∷ es) = here_or i (arrival ms q (suc i) es) (connection_number (counts_at (is_some_module (module_named ms m))) q cs 0 cs)

-- ---- positions

-- where a link is
pub data Place : Type 0 where
  -- in the first module, among its instances
  between : Place
  -- in the first module, which is a crossbar itself
  alone : Place
  -- in the crossbar that the first module's entry of this number is
  within : ℕ → Place

pub record Position : Type 0 where
  pub place : Place
  pub link : Link

abbrev pub position : Place → Link → Position
position p l = record { place = p; link = l }

abbrev pub same_place : Place → Place → Bool
same_place between between = true
same_place alone alone = true
same_place (within i) (within j) = eqb i j
same_place _ _ = false

-- the way was at this link: at its request, in the same place
abbrev pub was_at : List Position → Position → Bool
was_at [] p = false
was_at (x ∷ xs) p = (same_place x.place p.place && bytes_eq x.link.request p.link.request) || was_at xs p

-- the nets of this place at which the way was, which hold the request
abbrev pub held_at : Place → List Position → List (List ℕ)
held_at p [] = []
held_at p (x ∷ xs) = cond (same_place x.place p) (x.link.request ∷ held_at p xs) (held_at p xs)

-- A device interface that the way comes to: its instance's module, parameters and connections, and the interface's name, if it has
-- one.
pub record Reached : Type 0 where
  pub part : List ℕ
  pub parameters : List Parameter
  pub connections : List Connection
  pub interface : Option (List ℕ)

-- how a way goes on from a position
pub data Next : Type 0 where
  -- to the next link
  on : Position → Next
  ends : End → Next
  -- at the interface with these numbers of its entry and connection
  meets : ℕ → ℕ → Reached → Next

-- ---- the steps

-- an output port of the first module
abbrev pub out_at : Module → Link → Next
out_at first l = cond (goes_out first l) (ends (outside (port_number first.ports l.request))) (ends error)

-- in the first module, which is a crossbar
abbrev pub step_alone : Module → Link → Onward → Next
step_alone first l (to next) = on (position alone next)
step_alone first l leaves = out_at first l
step_alone first l stuck = ends error

-- the nets at two connections
abbrev pub outer_link : Option Expression → Option Expression → Option Link
outer_link (Some (net q)) (Some (net r)) = Some (link q r)
outer_link _ _ = None

-- on a link of the first module
abbrev pub between_at : Module → Option Link → Next
between_at first None = ends error
between_at first (Some l) = cond (is_net (nets_of first) 70 l.request && is_net (nets_of first) 33 l.response) (on (position between l)) (ends error)

-- In crossbar m, which is entry i of the first module and has these connections. It is left over the ports of a device.
abbrev pub step_within : Module → ℕ → Module → List Connection → Link → Onward → Next
step_within first i m cs l (to next) = on (position (within i) next)
step_within first i m cs l leaves =
    cond (goes_out m l && is_device_request l.request) (between_at first (outer_link (connection_at l.request cs) (connection_at l.response cs))) (ends error)
step_within first i m cs l stuck = ends error

-- the interface to which a connection belongs: `tl_req_i` to that without a name, `<interface>_tl_req_i` to a named one
abbrev pub interface_of : List ℕ → Option (Option (List ℕ))
interface_of n =
    cond (bytes_eq n (codes "tl_req_i")) (Some None)
    (cond (ends_with n (codes "_tl_req_i")) (Some (Some (take (length n - 9) n))) None)

-- an instance that is no crossbar, at its connection j: an interface, or an instance whose module the way needs
abbrev pub met : ℕ → ℕ → List ℕ → List Parameter → List Connection → Option (Option (List ℕ)) → Next
met i j m ps cs None = ends no_module
met i j m ps cs (Some f) = meets i j (record { part = m; parameters = ps; connections = cs; interface = f })

-- a host of crossbar m: the way enters it over the host's ports
abbrev pub enter : ℕ → Module → List Connection → Link → Link → Next
enter i m cs l h = cond (comes_in m h && is_bare (connection_at h.response cs) l.response) (on (position (within i) h)) (ends error)

-- connection j of entry i
abbrev pub arrive_at : List Module → ℕ → ℕ → Link → Option Entry → Next
arrive_at ms i j l (Some (inst m ps n cs)) = by (module_named ms m) (slice_get cs j) where
  by : Option Module → Option Connection → Next
  by _ None = ends error
  by None (Some c) = met i j m ps cs (interface_of c.name)
  by (Some x) (Some c) = enter i x cs l (link c.name (answer_to c.name))
arrive_at ms i j l _ = ends error

-- what the net leads to; where it leads to nothing, the end is an error
abbrev pub arrive : List Module → Module → Link → Option (ℕ × ℕ) → Next
arrive ms first l None = ends error
arrive ms first l (Some at) = arrive_at ms at.0 at.1 l (slice_get first.entries at.0)

-- From a position; `way` has all positions so far, this one among them. In the first module an output port counts before instances.
unfoldable pub next : List Module → Bits → List Position → Position → Next
next [] request way p = ends no_host
next (first ∷ ms) request way p = by p.place where
  inner : ℕ → Option Entry → Next
  inner i (Some (inst m ps n cs)) = found (module_named (first ∷ ms) m) where
    found : Option Module → Next
    found None = ends error
    found (Some x) = step_within first i x cs p.link (inside x request (held_at (within i) way) p.link)
  inner i _ = ends error

  by : Place → Next
  by alone = step_alone first p.link (inside first request (held_at alone way) p.link)
  by (within i) = inner i (slice_get first.entries i)
  by between = cond (is_among (outputs_of first.ports) p.link.request) (out_at first p.link) (arrive (first ∷ ms) first p.link (arrival (first ∷ ms) p.link.request 0 first.entries))

-- ---- the way

-- the register module of an interface: `<type>_reg_top`, or `<type>_<interface>_reg_top`
abbrev pub register_name : List ℕ → Option (List ℕ) → List ℕ
register_name m None = m ++ codes "_reg_top"
register_name m (Some f) = m ++ (codes "_" ++ (f ++ codes "_reg_top"))

-- the parameter that tells how many address bits the interface has: `Aw`, or `Aw_<interface>`
abbrev pub address_width_name : Option (List ℕ) → List ℕ
address_width_name None = codes "Aw"
address_width_name (Some f) = codes "Aw_" ++ f

-- the connection that takes the interface's response
abbrev pub response_name : Option (List ℕ) → List ℕ
response_name None = codes "tl_rsp_o"
response_name (Some f) = f ++ codes "_tl_rsp_o"

-- The interface has its register module, and from 2 to 32 address bits.
pub record IsFace (modules : List Module) (r : Reached) : Type 0 where
  pub registers : Module
  pub found : module_named modules (register_name r.part r.interface) ≡ Some registers
  pub is_register : IsRegister registers
  pub width : ℕ
  pub width_is : parameter_at (address_width_name r.interface) r.parameters ≡ Some (lit 0 width)
  pub some : 2 ≤ width
  pub few : width ≤ 32

-- its response leads back to the link
abbrev pub answers : Reached → Link → Bool
answers r l = is_bare (connection_at (response_name r.interface) r.connections) l.response

-- The request goes from position p, to which it comes over the positions in `way`, to the end.
pub data Way (modules : List Module) (request : Bits) : List Position → Position → End → Type 0 where
  goes : {way : List Position} {p q : Position} {e : End} → next modules request (p ∷ way) p ≡ on q → was_at (p ∷ way) q ≡ false → Way modules request (p ∷ way) q e
      → Way modules request way p e
  -- it comes back to a link
  comes_back : {way : List Position} {p q : Position} → next modules request (p ∷ way) p ≡ on q → was_at (p ∷ way) q ≡ true → Way modules request way p error
  ended : {way : List Position} {p : Position} {e : End} → next modules request (p ∷ way) p ≡ ends e → Way modules request way p e
  -- it comes to a device interface, whose response leads back
  reached : {way : List Position} {p : Position} {i j : ℕ} {r : Reached} → next modules request (p ∷ way) p ≡ meets i j r → IsFace modules r → answers r p.link ≡ true
      → Way modules request way p (face i j)
  -- to one whose response does not
  lost : {way : List Position} {p : Position} {i j : ℕ} {r : Reached} → next modules request (p ∷ way) p ≡ meets i j r → IsFace modules r → answers r p.link ≡ false
      → Way modules request way p error
  -- to one without its register module or its width
  missing : {way : List Position} {p : Position} {i j : ℕ} {r : Reached} → next modules request (p ∷ way) p ≡ meets i j r → (IsFace modules r → ⊥)
      → Way modules request way p no_module

-- ---- hosts

-- the net is at the request of a device of the crossbar with these connections
abbrev pub is_device_net : List ℕ → List Connection → List Connection → Bool
is_device_net q cs [] = false
is_device_net q cs (d ∷ ds) = (is_device_request d.name && is_bare (connection_at d.name cs) q) || is_device_net q cs ds

-- it is at one of some crossbar
abbrev pub comes_from_crossbar : List Module → List Entry → List ℕ → Bool
comes_from_crossbar ms [] q = false
comes_from_crossbar ms (wire w n ∷ es) q = comes_from_crossbar ms es q
comes_from_crossbar ms (drive w n x ∷ es) q = comes_from_crossbar ms es q
comes_from_crossbar ms (assign n x ∷ es) q = comes_from_crossbar ms es q
comes_from_crossbar ms (inst m ps n cs ∷ es) q = (is_some_module (module_named ms m) && is_device_net q cs cs) || comes_from_crossbar ms es q

-- a net that is at no device of a crossbar
abbrev pub is_host_net : List Module → Module → Option Expression → Bool
is_host_net ms first (Some (net q)) = not (comes_from_crossbar ms first.entries q)
is_host_net ms first _ = false

abbrev pub is_some_net : Option Expression → Bool
is_some_net (Some (net q)) = true
is_some_net _ = false

-- into crossbar m, which is entry i and has these connections, over its host's ports
abbrev pub start_within : ℕ → Module → List Connection → Link → Next
start_within i m cs h = cond (comes_in m h && is_some_net (connection_at h.response cs)) (on (position (within i) h)) (ends error)

abbrev pub start_or : Next → Bool → ℕ → Option Module → List Connection → Link → Next
start_or later is i None cs h = later
start_or later is i (Some m) cs h = cond is (start_within i m cs h) later

-- into the first crossbar, in the order of entries, that has the host
abbrev pub host_crossbar : List Module → Module → Link → ℕ → List Entry → Next
host_crossbar ms first h i [] = ends no_host
host_crossbar ms first h i (wire w n ∷ es) = host_crossbar ms first h (suc i) es
host_crossbar ms first h i (drive w n x ∷ es) = host_crossbar ms first h (suc i) es
host_crossbar ms first h i (assign n x ∷ es) = host_crossbar ms first h (suc i) es
host_crossbar ms first h i (inst m ps n cs ∷ es) = start_or (host_crossbar ms first h (suc i) es) (is_host_net ms first (connection_at h.request cs)) i (module_named ms m) cs h

-- Where a host's requests come in. An input of the first module itself counts first, whatever its width.
unfoldable pub start : List Module → List ℕ → Next
start [] host = ends no_host
start (first ∷ ms) host =
    cond (is_among (inputs_of first.ports) (host_link host).request)
    (cond (comes_in first (host_link host)) (on (position alone (host_link host))) (ends error))
    (host_crossbar (first ∷ ms) first (host_link host) 0 first.entries)

-- A request of the host, a list of 70 bits, ends there.
pub data Walks (modules : List Module) (host : List ℕ) (request : Bits) : End → Type 0 where
  walks : {p : Position} {e : End} → start modules host ≡ on p → Way modules request [] p e → Walks modules host request e
  never : {e : End} → start modules host ≡ ends e → Walks modules host request e

-- A walk has at most one end.
abbrev pub WalkHasOneEnd : Type 0
WalkHasOneEnd = (modules : List Module) (host : List ℕ) (request : Bits) (a b : End) → Walks modules host request a → Walks modules host request b → a ≡ b
