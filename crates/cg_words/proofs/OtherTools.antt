-- Words that begin with no tool's name.
use Rattle.std.proofs.Common.{◌≡◌, ◌≤◌, Bool, true, false, List, [], ◌∷◌, None, map, length, get_or, codes, arith, refl, subst}
use Rattle.std.specs.Str.{bytes_eq}
use Rattle.std.proofs.lemmas.Slice.Eq.{bytes_eq-Decides}
use Rattle.clap.specs.Walk.{Text}
use Rattle.cg_words.specs.Words.Reading.{command_by, command_of}

-- the name of no tool
pub record IsOther (name : Text) : Type 0 where
  pub not_regtool : name ≡ codes "regtool" → ⊥
  pub not_tlgen : name ≡ codes "tlgen" → ⊥
  pub not_topgen : name ≡ codes "topgen" → ⊥
  pub not_session : name ≡ codes "session" → ⊥
  pub not_probe : name ≡ codes "probe" → ⊥
  pub not_sample : name ≡ codes "sample" → ⊥

is_false : (b : Bool) → (b ≡ true → ⊥) → b ≡ false
is_false true never = absurd (never refl)
is_false false never = refl

-- texts that differ
differs : (a b : Text) → (a ≡ b → ⊥) → bytes_eq a b ≡ false
differs a b apart = is_false (bytes_eq a b) (λ same. apart ((bytes_eq-Decides a b).0 same))

command_by-other : (name : Text) (words : List Text) → IsOther name → command_by name words ≡ None
command_by-other name words other =
    rw (
      differs name (codes "regtool") other.not_regtool,
      differs name (codes "tlgen") other.not_tlgen,
      differs name (codes "topgen") other.not_topgen,
      differs name (codes "session") other.not_session,
      differs name (codes "probe") other.not_probe,
      differs name (codes "sample") other.not_sample,
    ) refl

-- such words are no command
pub command_of-other : {X : Type 0} (text : X → Text) (xs : List X) (x : X) → 1 ≤ length xs → x ≡ get_or xs 0 x → IsOther (text x)
    → command_of (map text xs) ≡ None
command_of-other text [] x some first other = absurd (omega arith)
command_of-other text (y ∷ ys) x some first other = command_by-other (text y) (map text ys) (subst (λ z. IsOther (text z)) first other)
