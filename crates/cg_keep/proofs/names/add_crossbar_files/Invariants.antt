use Rattle.std.proofs.Common.{◌≡◌, ◌++◌, drop, map}
use Rattle.cg_design.specs.Files.{crossbar_file}
use Rattle.cg_keep.proofs.names.add_crossbar_files.Given as goal

-- the names so far, and then those of the crossbars that are left, are all
abbrev pub invariant-loop-xbar : goal.invariant-loop-xbar
invariant-loop-xbar l = l.names ++ map (λ u. crossbar_file u.name) (drop l.xbar-index l.xbars) ≡ l.fn.names ++ map (λ u. crossbar_file u.name) l.xbars
