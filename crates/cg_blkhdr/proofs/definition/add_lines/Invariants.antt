use Rattle.std.proofs.Common.{◌≡◌, ◌++◌, drop, map}
use Rattle.cg_hdrspec.specs.BlockHeader.{definitions_text}
use Rattle.cg_blkhdr.specs.Views.{definition_of}
use Rattle.cg_blkhdr.proofs.definition.add_lines.Given as goal

-- the text so far, and then the lines of the definitions that are left, are all lines
abbrev pub invariant-loop-definition : goal.invariant-loop-definition
invariant-loop-definition l =
    l.out ++ definitions_text (map definition_of (drop l.definition-index l.definitions)) ≡ l.fn.out ++ definitions_text (map definition_of l.definitions)
