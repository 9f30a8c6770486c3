use Rattle.cg_rows_texts.proofs.Interfaces.{interface_named}
use Rattle.cg_svreg.proofs.Printing.{interface_module_is_name, made_printable}
use Rattle.cg_rows_texts.proofs.modules.module_text.Goals as goal

pub reg_module-requires-clause-laid : goal.reg_module-requires-clause-laid
reg_module-requires-clause-laid c = (interface_named c.args.block.now c.args.face c.requires.named c.requires.within).1

pub print-requires : goal.print-requires
print-requires c =
    let good = interface_named c.args.block.now c.args.face c.requires.named c.requires.within in
    record {
      printable = made_printable c.register_module_means.ensures _ _ _ (interface_module_is_name _ _ c.requires.named.block good.0) good.1
          c.in_ok-module.ensures.made c.in_ok-module.ensures.apart;
    }
