use Rattle.std.proofs.Common.{arith}
use Rattle.std.proofs.lemmas.Nat.{pow_pos}
use Rattle.cg_layout.proofs.Ends.{least_from_rest}
use Rattle.cg_layout.proofs.offsets.row_extent.Goals as goal

pub returns-clause-first : goal.returns-clause-first
returns-clause-first c =
    let whole = c.next_multiple_of-first.ensures in
    least_from_rest c.args.span c.args.low _ (omega (arith, c.requires.power.1, pow_pos c.requires.power.0)) whole.multiple whole.lower_bound whole.upper_bound
