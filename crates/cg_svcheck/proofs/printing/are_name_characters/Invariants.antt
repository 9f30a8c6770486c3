use Rattle.std.proofs.Common.{◌≡◌, drop}
use Rattle.std.specs.List.{list_all}
use Rattle.cg_svspec.specs.Characters.{is_name_character}
use Rattle.cg_svcheck.proofs.printing.are_name_characters.Given as goal

-- what the bytes that are left say is what all say
abbrev pub invariant-loop-byte : goal.invariant-loop-byte
invariant-loop-byte l = list_all is_name_character (drop l.byte-index l.bytes) ≡ list_all is_name_character l.bytes
