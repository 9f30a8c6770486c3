-- When a description, and when an item, is valid: what its maker promises and later layers rely on.
use Rattle.std.specs.Prelude.{◌≡◌, ℕ, ◌^◌, ◌<◌, ◌≤◌, true, false, List, [], ◌∷◌, ◌++◌, length, Option, Some, None}
use Rattle.cg_svspec.specs.Characters.{IsName, IsWord}
use Rattle.cg_svspec.specs.Printable.{AllOf}
use Rattle.cg_desc.specs.Laid.{FieldsFit, HasField, IsWindowAccess}
use Rattle.cg_desc.specs.declared.block.FieldDesc.{FieldDesc}
use Rattle.cg_desc.specs.declared.block.RegDesc.{RegDesc}
use Rattle.cg_desc.specs.declared.block.MultiDesc.{MultiDesc}
use Rattle.cg_desc.specs.declared.block.WindowDesc.{WindowDesc}
use Rattle.cg_desc.specs.declared.block.Written.{Written}
use Rattle.cg_desc.specs.declared.block.Written.TheVariants as written
use Rattle.cg_desc.specs.declared.block.Item.{Item}
use Rattle.cg_desc.specs.declared.block.Item.TheVariants.{Reg, Window, SkipTo, Reserved}
use Rattle.cg_desc.specs.declared.block.IntrDesc.{IntrDesc}
use Rattle.cg_desc.specs.declared.block.AlertDesc.{AlertDesc}
use Rattle.cg_desc.specs.declared.block.ClockDesc.{ClockDesc}
use Rattle.cg_desc.specs.declared.block.FaceDesc.{FaceDesc}
use Rattle.cg_desc.specs.declared.block.HostFace.{HostFace}
use Rattle.cg_desc.specs.declared.block.IoDesc.{IoDesc}
use Rattle.cg_desc.specs.declared.block.IoDir.{IoDir}
use Rattle.cg_desc.specs.declared.block.IoDir.TheVariants.{In, Out, InOut}
use Rattle.cg_desc.specs.declared.block.BlockDesc.{BlockDesc}

-- a name of at most 40 characters
abbrev pub IsShortName : List ℕ → Type 0
IsShortName name = IsName name × (length name ≤ 40)

-- there is no name, or such a one
abbrev pub IsShortNameIfAny : Option (List ℕ) → Type 0
IsShortNameIfAny None = Unit {0}
IsShortNameIfAny (Some name) = IsShortName name

-- a name, where there is one, has at most 40 characters
abbrev pub IsShortIfAny : Option (List ℕ) → Type 0
IsShortIfAny None = Unit {0}
IsShortIfAny (Some name) = length name ≤ 40

-- ---- entries and items

-- a register has a field at least, and its fields stand in order, share no bit and fit
pub record IsValidRegister (r : RegDesc) : Type 0 where
  pub name : IsWord r.name
  pub some_field : HasField r.fields
  pub fields : FieldsFit 0 r.fields

abbrev pub HasOneField : List FieldDesc → Type 0
HasOneField (f ∷ []) = Unit {0}
HasOneField _ = ⊥

-- Copies of a valid register, from 1 to 4,096. Only those of one field are compacted, and none that have gates of their own.
pub record IsValidMultireg (m : MultiDesc) : Type 0 where
  pub register : IsValidRegister m.reg
  pub some_copy : 0 < m.count
  pub few_copies : m.count ≤ 4096
  pub sole : m.compact ≡ true → HasOneField m.reg.fields
  pub one_gate : m.compact ≡ true → m.regwen_multi ≡ false

pub record IsValidWindow (w : WindowDesc) : Type 0 where
  pub name : IsWord w.name
  pub access : IsWindowAccess w.sw
  pub some_item : 0 < w.items
  pub few_items : w.items ≤ 2 ^ 22

abbrev pub IsValidEntry : Written → Type 0
IsValidEntry (written.Reg r) = IsValidRegister r
IsValidEntry (written.Multi m) = IsValidMultireg m
IsValidEntry (written.Window w) = IsValidWindow w
IsValidEntry (written.SkipTo to at) = Unit {0}
IsValidEntry (written.Reserved words at) = Unit {0}

abbrev pub IsValidItem : Item → Type 0
IsValidItem (Reg r) = IsValidRegister r
IsValidItem (Window w) = IsValidWindow w
IsValidItem (SkipTo to at) = Unit {0}
IsValidItem (Reserved words at) = Unit {0}

-- ---- interrupts, alerts and interfaces

pub record IsValidInterrupt (i : IntrDesc) : Type 0 where
  pub name : IsWord i.name
  pub some_bit : 0 < i.width
  pub few_bits : i.width ≤ 32

abbrev pub IsValidAlert : AlertDesc → Type 0
IsValidAlert a = IsWord a.name

-- the interface has no name, or a good one
abbrev pub IsNameIfAny : Option (List ℕ) → Type 0
IsNameIfAny None = Unit {0}
IsNameIfAny (Some name) = IsName name

pub record IsValidInterface (f : FaceDesc) : Type 0 where
  pub name : IsNameIfAny f.name
  pub entries : AllOf IsValidEntry f.entries

-- no two interfaces have one name, and no two have none
abbrev pub InterfacesDiffer : List FaceDesc → Type 0
InterfacesDiffer [] = Unit {0}
InterfacesDiffer (f ∷ fs) = AllOf (λ g. ¬ (f.name ≡ g.name)) fs × InterfacesDiffer fs

-- no two host interfaces have one name, and no two have none
abbrev pub HostsDiffer : List HostFace → Type 0
HostsDiffer [] = Unit {0}
HostsDiffer (h ∷ hs) = AllOf (λ g. ¬ (h.name ≡ g.name)) hs × HostsDiffer hs

-- ---- clocks and pins

pub record IsValidClock (c : ClockDesc) : Type 0 where
  pub clock : IsShortName c.clock
  pub reset : IsShortNameIfAny c.reset

-- a port of this direction, of 1 to 64 bits
pub record IsValidPin (dir : IoDir) (p : IoDesc) : Type 0 where
  pub name : IsShortName p.name
  pub some_bit : 0 < p.width
  pub few_bits : p.width ≤ 64
  pub direction : p.dir ≡ dir

-- inputs stand first, then outputs, then ports that are both, at most 64 of each
pub record AreValidPins (pins : List IoDesc) : Type 0 where
  pub inputs : List IoDesc
  pub outputs : List IoDesc
  pub inouts : List IoDesc
  pub stand : pins ≡ inputs ++ (outputs ++ inouts)
  pub valid_inputs : AllOf (IsValidPin In) inputs
  pub valid_outputs : AllOf (IsValidPin Out) outputs
  pub valid_inouts : AllOf (IsValidPin InOut) inouts
  pub few_inputs : length inputs ≤ 64
  pub few_outputs : length outputs ≤ 64
  pub few_inouts : length inouts ≤ 64

-- ---- blocks

pub record IsValidBlock (b : BlockDesc) : Type 0 where
  pub name : IsName b.name
  pub short_name : length b.name ≤ 40
  pub clocks : AllOf IsValidClock b.clocking
  pub some_clock : 0 < length b.clocking
  pub few_clocks : length b.clocking ≤ 64
  pub interrupts : AllOf IsValidInterrupt b.intrs
  pub alerts : AllOf IsValidAlert b.alerts
  pub interfaces : AllOf IsValidInterface b.faces
  pub few_interfaces : length b.faces ≤ 8
  pub interfaces_differ : InterfacesDiffer b.faces
  pub short_interrupts : AllOf (λ i. length i.name ≤ 40) b.intrs
  pub short_alerts : AllOf (λ a. length a.name ≤ 40) b.alerts
  pub short_interfaces : AllOf (λ f. IsShortIfAny f.name) b.faces
  pub hosts : AllOf (λ h. IsShortNameIfAny h.name) b.hosts
  pub hosts_differ : HostsDiffer b.hosts
  pub pins : AreValidPins b.ios
