use Rattle.std.proofs.Common.{[], ap, ◌∙◌, sym, subst, map}
use Rattle.cg_sv.specs.Views.{module_of}
use Rattle.cg_outputs.specs.Inner.{put_outputs}
use Rattle.cg_outputs.specs.Outputs.{AreOutputs}
use Rattle.cg_block.specs.Outputs.{IsRegisterOutput}
use Rattle.cg_block.specs.Unit.{module_output}
use Rattle.cg_block.proofs.BlockFiles.{modules_put}
use Rattle.cg_block.proofs.Differing.{register_texts_differ, in_order}
use Rattle.cg_block.proofs.Meanings.{good_printable}
use Rattle.cg_block.proofs.outputs.register_outputs.Goals as goal

-- the modules are well formed, hence printable
pub put_modules-requires : goal.put_modules-requires
put_modules-requires c =
    good_printable c.register_module_means.ensures c.requires.0 c.args.unit.now.tree c.args.unit.now.laid _ c.requires.1.is_good (ap (map module_of) c.as_slice.ensures ∙ c.requires.1.modules)

-- their texts are the block's, in order
pub returns : goal.returns
returns c =
    let laid = c.args.unit.now.laid in
    let same = ap (map module_of) c.as_slice.ensures ∙ c.requires.1.modules in
    subst (AreOutputs (IsRegisterOutput laid))
    (sym (c.in_ok-put_modules.ensures ∙ ap (λ os. put_outputs os (map module_output (map module_of c.as_slice.result.now))) c.new-outputs.ensures ∙ modules_put laid c.as_slice.result.now [] same))
    (in_order laid (register_texts_differ c.requires.0 c.args.unit.now.tree laid c.requires.1.is_good))
