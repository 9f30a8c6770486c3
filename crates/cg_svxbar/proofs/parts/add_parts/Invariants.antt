use Rattle.std.proofs.Common.{◌≡◌, ◌++◌, drop, map}
use Rattle.cg_sv.specs.Views.{entry_of}
use Rattle.cg_svxbar.specs.Viewed.{part_entry}
use Rattle.cg_svxbar.proofs.parts.add_parts.Given as goal

-- the entries so far, and then those of the parts that are left, are all entries
abbrev pub invariant-loop-part : goal.invariant-loop-part
invariant-loop-part l = map entry_of l.entries ++ map (part_entry l.xbar) (drop l.part-index l.parts) ≡ map entry_of l.fn.entries ++ map (part_entry l.xbar) l.parts
