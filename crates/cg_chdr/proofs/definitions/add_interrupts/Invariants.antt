use Rattle.std.proofs.Common.{◌≡◌, ◌+◌, ◌++◌, drop, map}
use Rattle.cg_blkhdr.specs.Views.{definition_of}
use Rattle.cg_tophdr.specs.TopHeader.{numbered_from, interrupt_definition}
use Rattle.cg_chdr.proofs.definitions.add_interrupts.Given as goal

-- the definitions so far, and then those of the bits that are left, are all
abbrev pub invariant-loop-index : goal.invariant-loop-index
invariant-loop-index l =
    map definition_of l.definitions ++ numbered_from (interrupt_definition l.top) (l.index + 1) (drop l.index l.bits)
    ≡ map definition_of l.fn.definitions ++ numbered_from (interrupt_definition l.top) 1 l.bits
