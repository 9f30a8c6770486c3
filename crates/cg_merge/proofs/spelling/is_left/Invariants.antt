use Rattle.std.proofs.Common.{◌≡◌, drop, false}
use Rattle.cg_merge.specs.Spelling.{is_left}
use Rattle.cg_merge.proofs.spelling.is_left.Given as goal

-- what is left is compared with the bytes that are left
abbrev pub invariant-loop-byte : goal.invariant-loop-byte
invariant-loop-byte l = is_left l.rest.owed l.rest.bytes.now (drop l.byte-index l.other) ≡ is_left false l.name l.other
