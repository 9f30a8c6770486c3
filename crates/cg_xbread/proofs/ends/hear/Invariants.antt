use Rattle.std.proofs.Common.{◌≡◌, ℕ, ◌||◌, List, drop}
use Rattle.cg_xbread.proofs.Heard.{lists_name}
use Rattle.cg_keys.proofs.SeenNames.{has}
use Rattle.cg_xbread.proofs.ends.hear.Given as goal

-- a name is in the set or that of an element that is left, exactly where it was there or is that of one of all
abbrev pub invariant-loop-element : goal.invariant-loop-element
invariant-loop-element l =
    (name : List ℕ) → (has l.names.keys name || lists_name (drop l.element-index l.elements) name) ≡ (has l.initial.names.keys name || lists_name l.elements name)
