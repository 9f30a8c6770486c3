use Rattle.std.proofs.Common.{◌≡◌, drop}
use Rattle.cg_svspec.specs.Tree.{none}
use Rattle.cg_regspec.specs.RegisterModule.{word_parts}
use Rattle.cg_svreg.specs.Parts.{from_low}
use Rattle.cg_svreg.proofs.words.register_word.Given as goal

-- the fields that are left, above the parts so far, make the word
abbrev pub invariant-loop-field : goal.invariant-loop-field
invariant-loop-field l =
    word_parts l.register l.from (from_low l.parts.items) (drop l.field-index l.fields) ≡ word_parts l.register 0 none l.fields
