use Rattle.std.proofs.Common.{◌≡◌, ◌++◌, drop, map}
use Rattle.cg_rows_tops.proofs.build.block_names.Given as goal

-- the names so far and those of what is left are all
abbrev pub invariant-loop-block : goal.invariant-loop-block
invariant-loop-block l = l.names ++ map (λ x. x.desc.name) (drop l.block-index l.blocks) ≡ map (λ x. x.desc.name) l.blocks
