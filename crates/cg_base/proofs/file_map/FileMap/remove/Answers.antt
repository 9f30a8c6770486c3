use Rattle.std.proofs.Common.{◌∙◌, ap}
use Rattle.std.specs.FinMap as fin
use Rattle.cg_base.proofs.FileMapLemmas.{files_removed}
use Rattle.cg_base.proofs.file_map.FileMap.remove.Goals as goal

pub returns : goal.returns
returns c =
    files_removed c.args.name.now c.self.inside.files c.remove.new.self c.remove.ensures.updates
    ∙ ap (λ m. fin.remove m c.args.name.now) c.self.view_is
