use Rattle.std.proofs.Common.{◌≤◌, length, arith}
use Rattle.cg_space.proofs.Linking.{nested_there}
use Rattle.cg_space.proofs.Tabling.{below_ready, rank_done, set_length, table_kept, table_put}
use Rattle.cg_space.proofs.table.add_rank.Goals as goal
use Rattle.cg_space.proofs.table.add_rank.Goals.{then-ranks-xbar+in_ok-tables, else-ranks-xbar}

pub table_of-requires-clause-below : goal.table_of-requires-clause-below
table_of-requires-clause-below c =
    below_ready c.args.top.now c.args.ranks.now c.loop-xbar.tables c.args.rank c.loop-xbar.xbar c.loop-xbar.invariant.below c.if-ranks-xbar.true
    c.requires.fall (λ x y nests. nested_there c.args.top.now x y c.requires.sound nests)

pub loop-xbar-preserved : goal.loop-xbar-preserved
loop-xbar-preserved c = elim c.if-ranks-xbar.branch [
  | then-ranks-xbar+in_ok-tables w ↦ record {
    all = rw w.tables-is (set_length c.loop-xbar.tables c.loop-xbar.xbar w.in_ok-tables.field-0 (length c.args.top.now.xbars) c.loop-xbar.invariant.all);
    below = rw w.tables-is (table_put c.args.top.now c.args.ranks.now c.loop-xbar.tables c.args.rank c.loop-xbar.xbar w.in_ok-tables.field-0
        c.loop-xbar.invariant.all w.in_ok-tables.ensures c.loop-xbar.invariant.below);
  }
  | else-ranks-xbar w ↦ record {
    all = rw w.tables-is c.loop-xbar.invariant.all;
    below = rw w.tables-is (table_kept c.args.top.now c.args.ranks.now c.loop-xbar.tables c.args.rank c.loop-xbar.xbar w.if-ranks-xbar.false c.loop-xbar.invariant.below);
  }
]

pub returns-clause-below : goal.returns-clause-below
returns-clause-below c =
    let all : length c.args.top.now.xbars ≤ c.loop-xbar.xbar = omega (arith, c.len-xbar-end.ensures, c.loop-xbar-test.false) in
    rank_done c.args.top.now c.args.ranks.now c.loop-xbar.tables c.args.rank c.loop-xbar.xbar all c.loop-xbar.invariant.below
