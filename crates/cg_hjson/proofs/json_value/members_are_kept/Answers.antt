use Rattle.cg_hjson.specs.Json.{json_of}
use Rattle.cg_hjson.proofs.JsonMembers.{kept}
use Rattle.cg_hjson.proofs.json_value.members_are_kept.Goals as goal

pub returns : goal.returns
unfolding json_of
returns c = λ ms at key. kept key ms
