use Rattle.std.specs.Str.{bytes_eq}
use Rattle.cg_svcheck.specs.Lookups.{has}
use Rattle.cg_svcheck.proofs.Moving.{set_more}
use Rattle.cg_svcheck.proofs.sets.Names.add.Goals as goal

pub returns : goal.returns
returns c = λ n. set_more (bytes_eq c.args.name.now n) _ (has c.args.self.now n) (c.in_ok-insert.ensures.updates.0 (record { ref_ptr = (0, 0); now = n }))
