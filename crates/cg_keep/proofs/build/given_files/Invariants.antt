use Rattle.std.proofs.Common.{◌≡◌, ◌++◌, drop, map, option_map}
use Rattle.std.specs.FinMap as fin
use Rattle.cg_keep.proofs.build.given_files.Given as goal

-- what there is of the files so far, and then of those that are left, is what there is of all
abbrev pub invariant-loop-name : goal.invariant-loop-name
invariant-loop-name l =
    map (option_map (λ b. b.now)) l.given.items ++ map (fin.get l.files) (drop l.name-index l.names) ≡ map (fin.get l.files) l.names
