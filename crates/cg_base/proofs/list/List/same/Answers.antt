use Rattle.std.proofs.Common.{◌≡◌, rules}
use Rattle.std.specs.Cmp.Lexicographic.{pointwise}
use Rattle.std.proofs.lemmas.Slice.Eq.{slice_eq-Decides}
use Rattle.cg_base.proofs.list.List.same.Goals as goal

pub returns : goal.returns
returns g c =
    let each : c.eq.result ≡ pointwise g.T.PartialEq.eq c.args.self.now c.args.other.now = search rules in
    slice_eq-Decides c.requires c.args.self.now c.args.other.now c.eq.result each
