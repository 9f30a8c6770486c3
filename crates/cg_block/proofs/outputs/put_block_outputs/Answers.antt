use Rattle.std.proofs.Common.{ap, ◌∙◌, map}
use Rattle.cg_sv.specs.Views.{module_of}
use Rattle.cg_block.proofs.BlockFiles.{block_put}
use Rattle.cg_block.proofs.Meanings.{good_printable}
use Rattle.cg_block.proofs.outputs.put_block_outputs.Goals as goal

-- the modules are well formed, hence printable
pub put_modules-requires : goal.put_modules-requires
put_modules-requires c =
    good_printable c.register_module_means.ensures c.requires.0 c.args.tree.now c.args.laid.now _ c.requires.1.is_good (ap (map module_of) c.as_slice.ensures ∙ c.requires.1.modules)

-- the files are put in the places of their names
pub returns : goal.returns
returns c =
    block_put c.put_modules.result c.args.tree.now c.args.laid.now c.as_slice.result.now c.args.outputs.now c.put_by_name.new.files c.put_by_name-2.new.files _ c.in_ok-header_of.field-0 c.in_ok-completed_of.field-0
    c.in_ok-header_of.ensures c.in_ok-completed_of.ensures c.in_ok-put_by_name.ensures.ok c.in_ok-put_by_name-2.ensures.ok (ap (map module_of) c.as_slice.ensures ∙ c.requires.1.modules)
    c.put_modules.ensures
