use Rattle.cg_base.proofs.FileMapLemmas.{files_inserted}
use Rattle.std.specs.String.{string_bytes}
use Rattle.cg_base.proofs.file_map.FileMap.insert.Goals as goal

pub returns-clause-ok : goal.returns-clause-ok
returns-clause-ok c =
    rw (← c.in_ok-name.ensures.ok, ← c.self.view_is)
    (files_inserted (string_bytes c.in_ok-name.name) c.self.inside.files c.insert.new.self c.args.bytes c.in_ok-insert.ensures.updates)
