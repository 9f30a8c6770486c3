-- The C header of a top: where its interfaces are, and the numbers of interrupts, alerts and pins (OpenTitan Top Generation Tool).
use Rattle.std.specs.Prelude.{ℕ, suc, eqb, cond, List, [], ◌∷◌, ◌++◌, map, flat_map, get_or, codes, unwrap_or, Option, Some, None}
use Rattle.std.specs.Fmt.{decimal}
use Rattle.cg_desc.specs.FoundBase.{found_base}
use Rattle.cg_desc.specs.declared.block.IntrDesc.{IntrDesc}
use Rattle.cg_desc.specs.declared.block.LaidFace.{LaidFace}
use Rattle.cg_desc.specs.declared.top.MergedTop.{MergedTop}
use Rattle.cg_hdrspec.specs.BlockHeader.{Definition, in_hexadecimal, in_decimal, behind, upper, line, definitions_text}
use Rattle.cg_irq.specs.declared.bits.Bit.{Bit}
use Rattle.cg_irq.specs.declared.bits.IrqMap.{IrqMap}
use Rattle.cg_pinmux.specs.declared.map.PinMap.{PinMap}
use Rattle.cg_topspec.specs.Nets.{no_alert, no_interrupt, port_of}
use Rattle.cg_topspec.specs.Top.{block_of, instance_of, instance_numbers}

-- ---- names, all in upper case

-- what all names of a top begin with
abbrev pub top_prefix : List ℕ → List ℕ
top_prefix top = codes "TOP_" ++ upper top

-- the name of an instance's interface, behind that of the instance where it has one
unfoldable pub interface_name : List ℕ → List ℕ → Option (List ℕ) → List ℕ
interface_name top inst None = behind (top_prefix top) (upper inst)
interface_name top inst (Some interface) = behind (behind (top_prefix top) (upper inst)) (upper interface)

abbrev pub base_of : List ℕ → List ℕ
base_of interface = interface ++ codes "_BASE_ADDR"

abbrev pub size_of : List ℕ → List ℕ
size_of interface = interface ++ codes "_SIZE_BYTES"

-- the number of a bit, behind the name where there is more than one
abbrev pub with_bit : List ℕ → ℕ → ℕ → List ℕ
with_bit name width bit = cond (eqb width 1) name (behind name (decimal bit))

-- the name of a bit of an instance's interrupt, alert or port, behind the word for its kind
unfoldable pub bit_name : List ℕ → List ℕ → List ℕ → List ℕ → ℕ → ℕ → List ℕ
bit_name top kind inst item width bit = with_bit (behind (behind (behind (top_prefix top) kind) (upper inst)) (upper item)) width bit

-- the name of the guard
unfoldable pub guard_of : List ℕ → List ℕ
guard_of top = codes "_" ++ (top_prefix top ++ codes "_H_")

-- ---- the definitions, in their order

-- the base and the size of device interface f of instance i
unfoldable pub interface_definitions : MergedTop → ℕ → ℕ → LaidFace → List Definition
interface_definitions m i f face =
    in_hexadecimal (base_of (interface_name m.top.name (instance_of m i).name face.name)) (unwrap_or (found_base m i f) 0)
    ∷ in_hexadecimal (size_of (interface_name m.top.name (instance_of m i).name face.name)) face.size
    ∷ []

-- those of the interfaces of an instance, from this one on
abbrev pub interfaces_from : MergedTop → ℕ → ℕ → List LaidFace → List Definition
interfaces_from m i f [] = []
interfaces_from m i f (face ∷ faces) = interface_definitions m i f face ++ interfaces_from m i (suc f) faces

abbrev pub instance_definitions : MergedTop → ℕ → List Definition
instance_definitions m i = interfaces_from m i 0 (block_of m i).faces

-- bits with their numbers, from this one on
abbrev pub numbered_from : (ℕ → Bit → Definition) → ℕ → List Bit → List Definition
numbered_from define n [] = []
numbered_from define n (b ∷ bs) = define n b ∷ numbered_from define (suc n) bs

-- a bit of an instance's interrupt, of its alert, or of a port
unfoldable pub interrupt_definition : MergedTop → ℕ → Bit → Definition
interrupt_definition m n b = of_interrupt (get_or (block_of m b.inst).desc.intrs b.item no_interrupt) where
  of_interrupt : IntrDesc → Definition
  of_interrupt interrupt = in_decimal (bit_name m.top.name (codes "IRQ") (instance_of m b.inst).name interrupt.name interrupt.width b.bit) n

unfoldable pub alert_definition : MergedTop → ℕ → Bit → Definition
alert_definition m n b =
    in_decimal (bit_name m.top.name (codes "ALERT") (instance_of m b.inst).name (get_or (block_of m b.inst).desc.alerts b.item no_alert).name 1 b.bit) n

unfoldable pub pin_definition : List ℕ → MergedTop → ℕ → Bit → Definition
pin_definition kind m n b = in_decimal (bit_name m.top.name kind (instance_of m b.inst).name (port_of m b).name (port_of m b).width b.bit) n

-- Those of a top: its interfaces; then interrupts, numbered from 1, alerts, and the inputs and outputs that pins are chosen for, from 0.
unfoldable pub top_definitions : MergedTop → IrqMap → PinMap → List Definition
top_definitions m numbers pins =
    flat_map (instance_definitions m) (instance_numbers m)
    ++ (numbered_from (interrupt_definition m) 1 numbers.intr
    ++ (numbered_from (alert_definition m) 0 numbers.alert
    ++ (numbered_from (pin_definition (codes "MIO_IN") m) 0 pins.ins
    ++ numbered_from (pin_definition (codes "MIO_OUT") m) 0 pins.outs)))

-- the names that a top's header defines, with its guard
unfoldable pub top_header_names : MergedTop → IrqMap → PinMap → List (List ℕ)
top_header_names m numbers pins = guard_of m.top.name ∷ map (λ d. d.name) (top_definitions m numbers pins)

-- ---- the text

unfoldable pub top_header_text : MergedTop → IrqMap → PinMap → List ℕ
top_header_text m numbers pins =
    line (codes "// Generated by chipgen.")
    ++ (codes "#ifndef " ++ (line (guard_of m.top.name)
    ++ (codes "#define " ++ (line (guard_of m.top.name)
    ++ (definitions_text (top_definitions m numbers pins) ++ line (codes "#endif"))))))
