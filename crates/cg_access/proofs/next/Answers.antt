use Rattle.std.proofs.Common.{◌<◌, ◌^◌}
use Rattle.std.proofs.lemmas.Nat.{or_lt, pow_pos}
use Rattle.cg_access.proofs.WordLemmas.{cond-below}
use Rattle.cg_access.proofs.next.Goals as goal

pub returns-in-Rw1s-clause-within : goal.returns-in-Rw1s-clause-within
returns-in-Rw1s-clause-within c =
    let w = c.args.width in
    let held : c.pick-held.result < 2 ^ w
    = rw c.pick-held.ensures (cond-below w c.args.de c.args.d c.args.q c.requires.hardware_within c.requires.value_within) in
    let set : c.pick-in-Rw1s.result < 2 ^ w
    = rw c.pick-in-Rw1s.ensures (cond-below w c.args.we c.args.wd 0 c.requires.written_within (pow_pos w)) in
    or_lt w c.pick-held.result c.pick-in-Rw1s.result held set
