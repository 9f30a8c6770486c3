-- The bits of a top's instances as whole lists.
use Rattle.std.specs.Prelude.{ℕ, zero, suc, ◌+◌, List, [], ◌∷◌, ◌++◌, map, slice_get, Option, Some, None}
use Rattle.cg_desc.specs.declared.block.LaidBlock.{LaidBlock}
use Rattle.cg_desc.specs.declared.top.MergedTop.{MergedTop}
use Rattle.cg_irq.specs.declared.bits.Bit.{Bit}

-- ---- widths

-- how many bits each interrupt of a block has
unfoldable pub interrupt_widths : Option LaidBlock → List ℕ
interrupt_widths None = []
interrupt_widths (Some block) = map (λ interrupt. interrupt.width) block.desc.intrs

-- an alert has one
unfoldable pub alert_widths : Option LaidBlock → List ℕ
alert_widths None = []
alert_widths (Some block) = map (λ alert. 1) block.desc.alerts

-- the widths of the instances, by the numbers of their blocks
unfoldable pub widths_of : (Option LaidBlock → List ℕ) → MergedTop → List (List ℕ)
widths_of widths m = map (λ k. widths (slice_get m.blocks k)) m.kinds

-- how many bits items of these widths have together
abbrev pub bit_count : List ℕ → ℕ
bit_count [] = 0
bit_count (w ∷ ws) = w + bit_count ws

-- ---- bits

-- so many bits of item k of instance i, from bit b on
unfoldable pub item_bits : ℕ → ℕ → ℕ → ℕ → List Bit
item_bits i k b zero = []
item_bits i k b (suc n) = record { inst = i; item = k; bit = b } ∷ item_bits i k (suc b) n

-- the bits of items of these widths of instance i, from item k on
unfoldable pub list_bits : ℕ → ℕ → List ℕ → List Bit
list_bits i k [] = []
list_bits i k (w ∷ ws) = item_bits i k 0 w ++ list_bits i (suc k) ws

-- the bits of the instances from number i on
unfoldable pub bits_of : ℕ → List (List ℕ) → List Bit
bits_of i [] = []
bits_of i (ws ∷ wss) = list_bits i 0 ws ++ bits_of (suc i) wss
