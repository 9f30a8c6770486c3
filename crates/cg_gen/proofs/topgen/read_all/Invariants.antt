use Rattle.std.proofs.Common.{◌≡◌}
use Rattle.cg_gen.specs.Gathering.{GatheredTo, shown}
use Rattle.cg_gen.proofs.topgen.read_all.Given as goal

-- the names so far were read, and nothing was changed
abbrev pub invariant-loop-name : goal.invariant-loop-name
invariant-loop-name g l =
    record {
      gathered : GatheredTo l.name-index l.folder l.names (shown (g.S.Store.content l.fn.store) (g.S.Store.asked l.fn.store) (g.S.Store.read_faults l.fn.store))
          (shown (g.S.Store.content l.store) (g.S.Store.asked l.store) (g.S.Store.read_faults l.store)) l.fn.keep l.keep;
      same : g.S.Store.content l.store ≡ g.S.Store.content l.fn.store;
      changes : g.S.Store.change_faults l.store ≡ g.S.Store.change_faults l.fn.store;
    }
