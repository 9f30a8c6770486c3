use Rattle.std.proofs.Common.{◌∙◌}
use Rattle.cg_blkread.proofs.NameSets.{one_name}
use Rattle.cg_blkread.proofs.shape.names_of.Goals as goal

pub loop-interface-preserved : goal.loop-interface-preserved
loop-interface-preserved c = λ n.
    one_name c.args.interfaces.now c.loop-interface.interface-index c.interface-item.result _ c.in-Some.name.now c.loop-interface.names.keys c.insert.new.self.keys n
    c.loop-interface-test.true c.interface-item.is c.in-Some.ensures (λ m. c.in_ok-insert.ensures.updates.0 (record { ref_ptr = (0, 0); now = m }))
    ∙ c.loop-interface.invariant n
