-- Two names have one spelling where they are found to.
use Rattle.std.proofs.Common.{◌≡◌, ◌≢◌, ℕ, Bool, true, false, eqb, cond, List, [], ◌∷◌, Option, Some, None, refl, sym, ap, ◌∙◌}
use Rattle.std.specs.Bool.{Decides}
use Rattle.std.specs.Str.{bytes_eq}
use Rattle.std.proofs.lemmas.Bool.{false≢true}
use Rattle.std.proofs.lemmas.Bool.Decides.{Decides-eqb}
use Rattle.std.proofs.lemmas.Slice.Eq.{bytes_eq-Decides}
use Rattle.cg_svspec.specs.Links.{spelled}
use Rattle.cg_merge.specs.Spelling.{Left, behind_byte, behind_next, behind_spelled, is_empty, is_left, left, left_passes}

-- what follows a byte: this, or the byte does not stand there
abbrev Follows : List ℕ → ℕ → Option Left → Type 0
Follows text b None = (more : List ℕ) → text ≢ b ∷ more
Follows text b (Some r) = text ≡ b ∷ left r.0 r.1

-- by a comparison
follows_if : (text : List ℕ) (b c : ℕ) (r : Left) → text ≡ c ∷ left r.0 r.1 → Follows text b (cond (eqb b c) (Some r) None)
follows_if text b c r is = by (eqb b c) (Decides-eqb b c) where
  by : (t : Bool) → Decides t (b ≡ c) → Follows text b (cond t (Some r) None)
  by true d = is ∙ ap (λ x. x ∷ left r.0 r.1) (sym (d.0 refl))
  by false d = λ more says. let e : c ∷ left r.0 r.1 ≡ b ∷ more = sym is ∙ says in let same : b ≡ c = cc in false≢true (d.1 same)

follows : (owed : Bool) (bytes : List ℕ) (b : ℕ) → Follows (left owed bytes) b (behind_byte owed bytes b)
unfolding behind_byte
follows true bytes b = follows_if (95 ∷ spelled bytes) b 95 (false, bytes) refl
follows false [] b = λ more says. cc
follows false (c ∷ cs) b = by (eqb c 46) refl where
  by : (t : Bool) → eqb c 46 ≡ t → Follows (cond t (95 ∷ 95 ∷ spelled cs) (c ∷ spelled cs)) b (cond t (cond (eqb b 95) (Some (true, cs)) None) (cond (eqb b c) (Some (false, cs)) None))
  by true is = follows_if (95 ∷ 95 ∷ spelled cs) b 95 (true, cs) refl
  by false is = follows_if (c ∷ spelled cs) b c (false, cs) refl

-- what is left, and these bytes
abbrev Same : Option Left → List ℕ → Type 0
Same None text = ⊥
Same (Some r) text = left r.0 r.1 ≡ text

-- one byte in front
step : (text rest : List ℕ) (b : ℕ) (o : Option Left) → Follows text b o → (text ≡ b ∷ rest → Same o rest) × (Same o rest → text ≡ b ∷ rest)
step text rest b None f = (λ is. absurd (f rest is), λ same. absurd same)
step text rest b (Some r) f = (λ is. let e : b ∷ left r.0 r.1 ≡ b ∷ rest = sym f ∙ is in cc, λ same. f ∙ ap (λ x. b ∷ x) same)

-- two bytes in front
two : (text rest : List ℕ) (a b : ℕ) (o : Option Left) → Follows text a o → (text ≡ a ∷ b ∷ rest → Same (behind_next o b) rest) × (Same (behind_next o b) rest → text ≡ a ∷ b ∷ rest)
two text rest a b None f = (λ is. absurd (f (b ∷ rest) is), λ same. absurd same)
two text rest a b (Some r) f =
    let first = step text (b ∷ rest) a (Some r) f in
    let second = step (left r.0 r.1) rest b (behind_byte r.0 r.1 b) (follows r.0 r.1 b) in
    (λ is. second.0 (first.0 is), λ same. first.1 (second.1 same))

-- the spelling of one byte in front
spelled_step : (owed : Bool) (bytes : List ℕ) (b : ℕ) (bs : List ℕ) → (left owed bytes ≡ spelled (b ∷ bs) → Same (behind_spelled owed bytes b) (spelled bs)) × (Same (behind_spelled owed bytes b) (spelled bs) → left owed bytes ≡ spelled (b ∷ bs))
unfolding behind_spelled
spelled_step owed bytes b bs = by (eqb b 46) where
  by : (t : Bool) → (left owed bytes ≡ cond t (95 ∷ 95 ∷ spelled bs) (b ∷ spelled bs) → Same (cond t (behind_next (behind_byte owed bytes 95) 95) (behind_byte owed bytes b)) (spelled bs))
      × (Same (cond t (behind_next (behind_byte owed bytes 95) 95) (behind_byte owed bytes b)) (spelled bs) → left owed bytes ≡ cond t (95 ∷ 95 ∷ spelled bs) (b ∷ spelled bs))
  by true = two (left owed bytes) (spelled bs) 95 95 (behind_byte owed bytes 95) (follows owed bytes 95)
  by false = step (left owed bytes) (spelled bs) b (behind_byte owed bytes b) (follows owed bytes b)

-- nothing is left
nothing_left : (owed : Bool) (bytes : List ℕ) → Decides (cond owed false (is_empty bytes)) (left owed bytes ≡ [])
nothing_left true bytes = (λ is. absurd (false≢true is), λ is. cc)
nothing_left false [] = (λ is. refl, λ is. refl)
nothing_left false (c ∷ cs) = by (eqb c 46) where
  by : (t : Bool) → Decides false (cond t (95 ∷ 95 ∷ spelled cs) (c ∷ spelled cs) ≡ [])
  by true = (λ is. absurd (false≢true is), λ is. cc)
  by false = (λ is. absurd (false≢true is), λ is. cc)

-- what is left is the other's spelling
pub decides_left : (owed : Bool) (bytes other : List ℕ) → Decides (is_left owed bytes other) (left owed bytes ≡ spelled other)
decides_left owed bytes [] = nothing_left owed bytes
decides_left owed bytes (b ∷ bs) =
    let go = spelled_step owed bytes b bs in
    let rest = by (λ o cs. decides_left o cs bs) (behind_spelled owed bytes b) in
    (λ is. go.1 (rest.0 is), λ is. rest.1 (go.0 is))
  where
    by : ((o : Bool) (cs : List ℕ) → Decides (is_left o cs bs) (left o cs ≡ spelled bs)) → (o : Option Left) → Decides (left_passes (λ p cs. is_left p cs bs) o) (Same o (spelled bs))
    by more None = (λ is. absurd (false≢true is), λ is. absurd is)
    by more (Some r) = more r.0 r.1

one_bool : {P : Type 0} (a b : Bool) → Decides a P → Decides b P → a ≡ b
one_bool true true d e = refl
one_bool true false d e = sym (e.1 (d.0 refl))
one_bool false true d e = d.1 (e.0 refl)
one_bool false false d e = refl

-- so the two have one spelling
pub same_is_left : (name other : List ℕ) → is_left false name other ≡ bytes_eq (spelled name) (spelled other)
same_is_left name other = one_bool _ _ (decides_left false name other) (bytes_eq-Decides (spelled name) (spelled other))
