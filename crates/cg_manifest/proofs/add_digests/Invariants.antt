use Rattle.std.proofs.Common.{◌≡◌, ◌++◌, drop}
use Rattle.std.specs.List.{flat_map}
use Rattle.cg_manifest.specs.Manifest.{digest_line}
use Rattle.cg_manifest.proofs.add_digests.Given as goal

-- the lines so far, and then those of the files that are left, are all lines
abbrev pub invariant-loop-file : goal.invariant-loop-file
invariant-loop-file l = l.text ++ flat_map digest_line (drop l.file-index l.files) ≡ l.fn.text ++ flat_map digest_line l.files
