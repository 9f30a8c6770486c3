use Rattle.std.proofs.Common.{◌≡◌, ◌++◌, drop, map}
use Rattle.cg_design.specs.Files.{block_file}
use Rattle.cg_keep.proofs.names.add_block_files.Given as goal

-- the names so far, and then those of the types that are left, are all
abbrev pub invariant-loop-kind : goal.invariant-loop-kind
invariant-loop-kind l = l.names ++ map block_file (drop l.kind-index l.types) ≡ l.fn.names ++ map block_file l.types
