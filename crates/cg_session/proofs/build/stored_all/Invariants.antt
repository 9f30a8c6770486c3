use Rattle.std.proofs.Common.{◌≡◌, ◌++◌, drop}
use Rattle.cg_session.specs.Play.{stored_all}
use Rattle.cg_session.proofs.build.stored_all.Given as goal

-- the copies so far and those that are left are all
abbrev pub invariant-loop-file : goal.invariant-loop-file
invariant-loop-file l = l.copies ++ stored_all l.dir (drop l.file-index l.files) ≡ stored_all l.dir l.files
