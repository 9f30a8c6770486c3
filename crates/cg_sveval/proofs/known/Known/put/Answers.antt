use Rattle.std.proofs.Common.{[]}
use Rattle.std.specs.Str.{bytes_eq}
use Rattle.std.proofs.lemmas.Map.Text.{hash_map_updates_str}
use Rattle.cg_sveval.proofs.TableSteps.{put_in}
use Rattle.cg_sveval.proofs.known.Known.put.Goals as goal

pub returns : goal.returns
returns c = λ n.
    put_in (λ value. value.items) [] (bytes_eq c.args.name.now n) c.args.value _ (hash_map_updates_str c.args.name.now c.args.self.now.values c.insert.new.self _ c.in_ok-insert.ensures.updates n)
