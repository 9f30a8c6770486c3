use Rattle.std.proofs.Common.{◌≡◌, ◌++◌, map, drop}
use Rattle.cg_sv.specs.Views.{module_of}
use Rattle.cg_regspec.specs.RegisterModule.{module_of_face, modules_of}
use Rattle.cg_block.specs.Outputs.{first_clash}
use Rattle.cg_block.proofs.texts.modules.Given as goal

-- the modules so far and those that are left are the block's, and none so far has a clash
abbrev pub invariant-loop-face : goal.invariant-loop-face
invariant-loop-face l =
    (map module_of l.modules ++ map (module_of_face l.laid) (drop l.face l.laid.faces) ≡ modules_of l.laid)
    × (first_clash (map (module_of_face l.laid) (drop l.face l.laid.faces)) ≡ first_clash (modules_of l.laid))
