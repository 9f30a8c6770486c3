use Rattle.cg_chip.proofs.Tops.{own_put}
use Rattle.cg_chip.proofs.whole.top_files.Goals as goal

-- three files are put
pub returns : goal.returns
returns c = λ chip name text header completed.
    own_put chip c.args.top.now c.args.texts.module c.args.texts.header c.args.texts.completed _ _ _ _ _ _ _ name text header completed c.in_ok-top_file.ensures c.in_ok-top_file-2.ensures
    c.in_ok-top_file-3.ensures c.new-outputs.ensures c.in_ok-put_by_name.ensures.ok c.in_ok-put_by_name-2.ensures.ok c.in_ok-put_by_name-3.ensures.ok
