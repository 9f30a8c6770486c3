-- How two names are compared by their spellings, byte by byte.
use Rattle.std.specs.Prelude.{ℕ, Bool, true, false, eqb, cond, List, [], ◌∷◌, Option, Some, None}
use Rattle.cg_svspec.specs.Links.{spelled}
use Rattle.cg_merge.specs.declared.spelling.Rest.{Rest}

-- what is left of a spelling: that of these bytes, behind an underscore that is owed for a dot
abbrev pub left : Bool → List ℕ → List ℕ
left true bytes = 95 ∷ spelled bytes
left false bytes = spelled bytes

abbrev pub Left : Type 0
Left = Bool × List ℕ

-- what is left, as far as there is something
abbrev pub left_of : Option Rest → Option Left
left_of None = None
left_of (Some r) = Some (r.owed, r.bytes.now)

-- what is left behind one byte of a spelling, if it is this one
unfoldable pub behind_byte : Bool → List ℕ → ℕ → Option Left
behind_byte true bytes b = cond (eqb b 95) (Some (false, bytes)) None
behind_byte false [] b = None
behind_byte false (c ∷ cs) b = cond (eqb c 46) (cond (eqb b 95) (Some (true, cs)) None) (cond (eqb b c) (Some (false, cs)) None)

abbrev pub behind_next : Option Left → ℕ → Option Left
behind_next None b = None
behind_next (Some r) b = behind_byte r.0 r.1 b

-- what is left behind the spelling of one byte
unfoldable pub behind_spelled : Bool → List ℕ → ℕ → Option Left
behind_spelled owed bytes b = cond (eqb b 46) (behind_next (behind_byte owed bytes 95) 95) (behind_byte owed bytes b)

abbrev pub is_empty : List ℕ → Bool
is_empty [] = true
is_empty (b ∷ bs) = false

-- what is left, as far as there is something, passes this test
abbrev pub left_passes : (Bool → List ℕ → Bool) → Option Left → Bool
left_passes p None = false
left_passes p (Some r) = p r.0 r.1

-- what is left is the spelling of these bytes
abbrev pub is_left : Bool → List ℕ → List ℕ → Bool
is_left owed bytes [] = cond owed false (is_empty bytes)
is_left owed bytes (b ∷ bs) = left_passes (λ o cs. is_left o cs bs) (behind_spelled owed bytes b)
