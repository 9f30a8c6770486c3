use Rattle.std.proofs.Common.{◌≡◌, ◌++◌, drop, map}
use Rattle.cg_regspec.specs.RegisterModule.{register_module_name}
use Rattle.cg_topspec.specs.Clashes.{register_names}
use Rattle.cg_svbus.proofs.top_lists.register_names.Given as goal

-- the names so far, and then those of the interfaces that are left, are all
abbrev pub invariant-loop-face : goal.invariant-loop-face
invariant-loop-face l =
    l.names ++ map (λ face. register_module_name l.block.desc.name face.name) (drop l.face-index l.block.faces) ≡ register_names l.block
