use Rattle.std.proofs.Common.{◌≡◌, ◌++◌, drop, map, codes}
use Rattle.cg_svbus.proofs.top_lists.add_modules_files.Given as goal

-- the files so far, and then those of the modules that are left, are all
abbrev pub invariant-loop-name : goal.invariant-loop-name
invariant-loop-name l =
    l.files ++ map (λ name. name ++ codes ".sv") (drop l.name-index l.modules) ≡ l.fn.files ++ map (λ name. name ++ codes ".sv") l.modules
