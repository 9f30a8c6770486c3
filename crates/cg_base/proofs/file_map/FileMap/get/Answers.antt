use Rattle.std.proofs.Common.{rules}
use Rattle.cg_base.proofs.FileMapLemmas.{get-files_of_entries}
use Rattle.cg_base.proofs.file_map.FileMap.get.Goals as goal

pub returns-in-Some : goal.returns-in-Some
returns-in-Some c = rw (← c.self.view_is, get-files_of_entries) (search rules)

pub returns-in-None : goal.returns-in-None
returns-in-None c = rw (← c.self.view_is, get-files_of_entries) (search rules)
