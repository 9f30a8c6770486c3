use Rattle.std.proofs.Common.{◌≡◌, ◌++◌, drop}
use Rattle.cg_gen.proofs.topgen.copies.Given as goal

-- the copies so far, and then the files that are left, are all
abbrev pub invariant-loop-file : goal.invariant-loop-file
invariant-loop-file l = l.copies ++ drop l.file-index l.files ≡ l.files
