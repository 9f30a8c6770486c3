use Rattle.std.proofs.Common.{◌≡◌, ◌++◌, drop}
use Rattle.std.specs.Prelude.{flat_map}
use Rattle.cg_topspec.specs.Clashes.{type_files}
use Rattle.cg_svbus.proofs.top_lists.add_types_files.Given as goal

-- the files so far, and then those of the types that are left, are all
abbrev pub invariant-loop-block : goal.invariant-loop-block
invariant-loop-block l =
    l.files ++ flat_map type_files (drop l.block-index l.top.blocks) ≡ l.fn.files ++ flat_map type_files l.top.blocks
