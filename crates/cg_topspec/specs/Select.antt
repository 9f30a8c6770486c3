-- One clock of a top with one request of a host: the steps of all device interfaces, and the response.
use Rattle.std.specs.Prelude.{◌≡◌, ℕ, ◌+◌, ◌%◌, eqb, Bool, true, false, cond, ◌&&◌, List, ◌∷◌, take, drop, length, slice_get, Option, Some, None}
use Rattle.cg_busspec.specs.Ranges.{address_of}
use Rattle.cg_clkrst.specs.declared.tie.Tie.{Tie}
use Rattle.cg_desc.specs.AddressMap.{IsPlaceFor}
use Rattle.cg_desc.specs.BlockStep.{AccessKind, idle, read, write, Access, BlockStep}
use Rattle.cg_desc.specs.Merged.{EndAt, FaceAt}
use Rattle.cg_desc.specs.Target.{Target, IsTarget}
use Rattle.cg_desc.specs.declared.address.Place.TheVariants.{Error}
use Rattle.cg_desc.specs.declared.block.LaidFace.{LaidFace}
use Rattle.cg_desc.specs.declared.top.MergedTop.{MergedTop}
use Rattle.cg_desc.specs.declared.top.NodeEnd.TheVariants.{Face}
use Rattle.cg_irq.specs.declared.bits.IrqMap.{IrqMap}
use Rattle.cg_pinmux.specs.declared.map.PinMap.{PinMap}
use Rattle.cg_regspec.specs.Meaning.{Carries, bit_of, state_in, hardware_in, outcome_in}
use Rattle.cg_regspec.specs.NetNames.{reg_error, reg_rdata}
use Rattle.cg_space.specs.Rows.{IsMapHost}
use Rattle.cg_space.specs.Violations.{NoViolation}
use Rattle.cg_svspec.specs.Bits.{Bits, zeros, ones}
use Rattle.cg_svspec.specs.Links.{number}
use Rattle.cg_svspec.specs.Tree.{Parameter, Connection, inst, Module}
use Rattle.cg_svspec.specs.Value.{Values, Valuation, HasWidths}
use Rattle.cg_svspec.specs.Walk.{End, face, error, Walks, IsFace, interface_of, module_named}
use Rattle.cg_topspec.specs.Clashes.{clash_lists, first_clash}
use Rattle.cg_topspec.specs.Fits.{FitsTop}
use Rattle.cg_topspec.specs.Modules.{HasModules}
use Rattle.cg_topspec.specs.TopModule.{top_module, top_nets}
use Rattle.cg_topspec.specs.Ways.{MeetsInterface, target_place}

-- ---- accesses

-- the kind of a request with these bits of valid and write
abbrev pub kind_of : Bool → Bool → AccessKind
kind_of false w = idle
kind_of true false = read
kind_of true true = write

-- a request at an interface that has so many address bits: of the address it has just those
abbrev pub access_of : ℕ → Bits → Access
access_of width request = record {
  kind = kind_of (bit_of (drop 69 request)) (bit_of (drop 68 request));
  address = number (take width (drop 32 request));
  data_in = take 32 request;
  strobes = take 4 (drop 64 request);
}

abbrev pub no_access : Access
no_access = record { kind = idle; address = 0; data_in = zeros 32; strobes = zeros 4 }

-- a request that ends so ends at connection j of entry i
abbrev pub ends_at : End → ℕ → ℕ → Bool
ends_at (face a b) i j = eqb a i && eqb b j
ends_at _ i j = false

-- the access at an interface: the request where it ends there, else none
abbrev pub access_at : End → ℕ → ℕ → ℕ → Bits → Access
access_at end i j width request = cond (ends_at end i j) (access_of width request) no_access

-- ---- a clock

-- Connection j of entry i of the first module brings the requests of a device interface, which has its register module.
pub record InterfaceAt (first : Module) (ms : List Module) (i j : ℕ) : Type 0 where
  pub part : List ℕ
  pub parameters : List Parameter
  pub name : List ℕ
  pub connections : List Connection
  pub interface : Option (List ℕ)
  pub at : Connection
  pub entry_is : slice_get first.entries i ≡ Some (inst part parameters name connections)
  pub no_module : module_named (first ∷ ms) part ≡ None
  pub connection_is : slice_get connections j ≡ Some at
  pub interface_is : interface_of at.name ≡ Some interface
  pub is_face : IsFace (first ∷ ms) (record { part = part; parameters = parameters; connections = connections; interface = interface })

-- A clock with one request of a host. Every device interface's register module makes a step: that at which the request ends with the
-- request, of whose address it has the low bits alone, and every other one without an access.
pub record Selects (first : Module) (ms : List Module) (host : List ℕ) (request : Bits) (end : End) (inputs states v next : ℕ → ℕ → Values) : Type 0 where
  pub walks : Walks (first ∷ ms) host request end
  pub widths : (i j : ℕ) (f : InterfaceAt first ms i j) → HasWidths f.is_face.registers (inputs i j) (states i j)
  pub carries : (i j : ℕ) (f : InterfaceAt first ms i j) → Carries (inputs i j) (access_at end i j f.is_face.width request)
  pub steps : (i j : ℕ) (f : InterfaceAt first ms i j) → Valuation f.is_face.registers (inputs i j) (states i j) (v i j) (next i j)

-- ---- what the steps are

-- the number of an instance's entry
abbrev pub instance_place : MergedTop → IrqMap → PinMap → ℕ → ℕ
instance_place m numbers pins i = length (top_nets m numbers pins) + i

-- Device interface f of instance i, for which device d of crossbar z stands, steps as its register block. Where the request ends at it,
-- the access is the request with the low address bits, and what they are in the interface is what the address map says of the
-- address; else there is no access.
pub record InterfaceSteps (m : MergedTop) (numbers : IrqMap) (ties : List Tie) (pins : PinMap) (x h : ℕ) (request : Bits) (end : End) (inputs states v next : ℕ → ℕ → Values)
    (i f z d : ℕ) (interface : LaidFace) : Type 0 where
  pub number : ℕ
  pub meets : MeetsInterface m ties i f number z d interface
  pub access : Access
  pub target : Target
  pub target_is : IsTarget interface access.address target
  pub steps : BlockStep interface target access (state_in (states (instance_place m numbers pins i) number)) (hardware_in (inputs (instance_place m numbers pins i) number))
      (outcome_in (v (instance_place m numbers pins i) number) (next (instance_place m numbers pins i) number))
  pub unreached : ends_at end (instance_place m numbers pins i) number ≡ false → access ≡ no_access
  pub reached : ends_at end (instance_place m numbers pins i) number ≡ true
      → (access ≡ access_of meets.width request) × (access.address ≡ address_of request % interface.size) × IsPlaceFor m x h (address_of request) (target_place i f target)

-- what a law of clocks takes for given: the top and its modules, a host, and a clock with a request of it
pub record IsClock (m : MergedTop) (numbers : IrqMap) (ties : List Tie) (pins : PinMap) (ms : List Module) (x h : ℕ) (request : Bits) (end : End) (inputs states v next : ℕ → ℕ → Values) : Type 0 where
  pub fits : FitsTop m numbers ties pins
  pub unbroken : NoViolation m
  pub no_clash : first_clash (clash_lists m numbers ties pins) ≡ None
  pub modules : HasModules m (top_module m numbers ties pins ∷ ms)
  pub host : IsMapHost m x h
  pub sized : length request ≡ 70
  pub selects : Selects (top_module m numbers ties pins) ms host.host.name request end inputs states v next

-- each device interface that a node of a crossbar stands for steps so
abbrev pub SelectMeans : Type 0
SelectMeans =
    (m : MergedTop) (numbers : IrqMap) (ties : List Tie) (pins : PinMap) (ms : List Module) (x h : ℕ) (request : Bits) (end : End) (inputs states v next : ℕ → ℕ → Values)
    → IsClock m numbers ties pins ms x h request end inputs states v next → (i f z d : ℕ) (interface : LaidFace) → EndAt m z d (Face i f) → FaceAt m i f interface
    → InterfaceSteps m numbers ties pins x h request end inputs states v next i f z d interface

-- ---- the response

-- the request is valid
abbrev pub is_valid : Bits → Bool
is_valid request = bit_of (drop 69 request)

-- the response to a request that ends so: what the interface there answers, and an error with data all ones where it comes to nothing
abbrev pub AnswersWith : End → (ℕ → ℕ → Values) → Bool → Bits → Type 0
AnswersWith (face i j) v e d = (e ≡ bit_of (v i j reg_error)) × (d ≡ v i j reg_rdata)
AnswersWith error v e d = (e ≡ true) × (d ≡ ones 32)
AnswersWith _ v e d = ⊥

-- where nothing is at the address, a valid request is answered by an error with data all ones
abbrev pub ErrorsAnswer : Type 0
ErrorsAnswer =
    (m : MergedTop) (numbers : IrqMap) (ties : List Tie) (pins : PinMap) (ms : List Module) (x h : ℕ) (request : Bits) (end : End) (inputs states v next : ℕ → ℕ → Values)
    → IsClock m numbers ties pins ms x h request end inputs states v next → is_valid request ≡ true → IsPlaceFor m x h (address_of request) Error
    → (e : Bool) (d : Bits) → AnswersWith end v e d → (e ≡ true) × (d ≡ ones 32)
