-- Whether there is room for the fields of automatic registers, and what is found where there is none.
use Rattle.std.proofs.Common.{ℕ, ◌≡◌, ◌<◌, ◌≤◌, nat_le, true, [], inl, inr, length, sum_by, ap, ◌∙◌}
use Rattle.std.proofs.lemmas.Bool.{and_from, and_parts, cases_lt, le-leb, leb-true}
use Rattle.cg_desc.specs.declared.block.BlockDesc.{BlockDesc}
use Rattle.cg_desc.specs.Items.{items_of_block, items_of_faces}
use Rattle.cg_finding.specs.Finding.{Finding, finding}
use Rattle.cg_expand.specs.Violations.{Violates, alerts, interrupt_bits, interrupts}
use Rattle.cg_expand.specs.Parts.Automatic.{automatic_with, has_room}
use Rattle.cg_expand.proofs.AutomaticItems.{with_fields}

pub room_for_interrupts : (b : BlockDesc) → has_room b ≡ true → sum_by (λ i. i.width) b.intrs ≤ 32
unfolding has_room interrupt_bits
room_for_interrupts b room = leb-true (interrupt_bits b) 32 (and_parts (nat_le (interrupt_bits b) 32) (nat_le (length b.alerts) 32) room).0

pub room_for_alerts : (b : BlockDesc) → has_room b ≡ true → length b.alerts ≤ 32
unfolding has_room
room_for_alerts b room = leb-true (length b.alerts) 32 (and_parts (nat_le (interrupt_bits b) 32) (nat_le (length b.alerts) 32) room).1

not_more : (n : ℕ) → ¬ (32 < n) → n ≤ 32
not_more n never = elim (cases_lt 32 n) [ inl more ↦ absurd (never more) | inr few ↦ few ]

-- a block that breaks nothing has room
pub room_where_whole : (b : BlockDesc) → ((f : Finding) → ¬ Violates b f) → has_room b ≡ true
unfolding has_room
room_where_whole b whole =
    and_from (nat_le (interrupt_bits b) 32) (nat_le (length b.alerts) 32)
    (le-leb (interrupt_bits b) 32 (not_more (interrupt_bits b) (λ more. whole (finding 4 42 b.intrs_at []) (interrupts more))))
    (le-leb (length b.alerts) 32 (not_more (length b.alerts) (λ more. whole (finding 4 42 b.alerts_at []) (alerts more))))

-- with room, the items that are made are the block's
pub items_with_room : (b : BlockDesc) → has_room b ≡ true → items_of_faces (automatic_with (has_room b) b) b.faces ≡ items_of_block b
items_with_room b room = ap (λ wanted. items_of_faces (automatic_with wanted b) b.faces) room ∙ ap (λ front. items_of_faces front b.faces) (with_fields b)
