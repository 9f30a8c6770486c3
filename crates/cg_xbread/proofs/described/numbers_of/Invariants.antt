use Rattle.std.proofs.Common.{◌≡◌, ◌++◌, drop, map}
use Rattle.cg_xbread.specs.Described.{number_of}
use Rattle.cg_xbread.specs.Written.{text_of}
use Rattle.cg_xbread.proofs.described.numbers_of.Given as goal

-- the numbers so far and those of the elements that are left are all
abbrev pub invariant-loop-element : goal.invariant-loop-element
invariant-loop-element l =
    l.numbers ++ map (λ e. number_of l.nodes (text_of e)) (drop l.element-index l.elements) ≡ map (λ e. number_of l.nodes (text_of e)) l.elements
