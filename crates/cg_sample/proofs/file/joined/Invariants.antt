use Rattle.std.proofs.Common.{◌≡◌, ◌++◌, ◌∷◌, [], drop}
use Rattle.std.specs.List.{flat_map}
use Rattle.cg_sample.proofs.file.joined.Given as goal

-- the text so far, and then the lines that are left, are all lines
abbrev pub invariant-loop-line : goal.invariant-loop-line
invariant-loop-line l =
    l.text ++ flat_map (λ line. line ++ 10 ∷ []) (drop l.line-index l.lines) ≡ flat_map (λ line. line ++ 10 ∷ []) l.lines
