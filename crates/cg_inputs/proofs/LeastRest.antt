-- How much of a line is still to come.
use Rattle.std.proofs.Common.{◌≡◌, ℕ, ◌+◌, ◌-◌, ◌≤◌, Bool, true, false, cond, List, [], ◌∷◌, ◌++◌, length, length-append, Option, Some, None, refl, ap, sym, subst, ◌∙◌, append_assoc, arith, codes}
use Rattle.std.specs.Prelude.{leb, nat_lt, ◌&&◌}
use Rattle.std.specs.List.{list_all}
use Rattle.std.proofs.lemmas.Bool.Decides.{nat_tests}
use Rattle.cg_svspec.specs.Characters.{Each, is_digit}
use Rattle.cg_svspec.proofs.Runs.{both_pass, no_longer}
use Rattle.cg_inputs.specs.Lines.{is_file_character, is_file_name, is_length, Line, put, del, build, finish, Says}
use Rattle.cg_inputs.specs.Reading.{cut, least_rest, rest_behind_put, rest_of_put, without}
use Rattle.cg_inputs.proofs.LineLaws.{name_lacks}
use Rattle.cg_inputs.proofs.Nexts.{no_feed, feed_first}
use Rattle.cg_inputs.proofs.Pieces.{is_not, cut_at, cut_parts, front_of}

name_long : (name : List ℕ) → is_file_name name ≡ true → 1 ≤ length name
unfolding is_file_name
name_long name h =
    let l = (both_pass (leb 1 (length name)) (leb (length name) 64) (both_pass (list_all is_file_character name) (leb 1 (length name) && leb (length name) 64) h).1).0 in
    grind (arith, nat_tests)

digits_long : (ds : List ℕ) → is_length ds ≡ true → 1 ≤ length ds
unfolding is_length
digits_long ds h =
    let l = (both_pass (leb 1 (length ds)) (leb (length ds) 8) (both_pass (list_all is_digit ds) (leb 1 (length ds) && leb (length ds) 8) h).1).0 in
    grind (arith, nat_tests)

-- a line that says something has at least three bytes
line_long : (text : List ℕ) (l : Line) → Says text l → 3 ≤ length text
line_long text build h = rw h (omega arith)
line_long text finish h = rw h (omega arith)
line_long text (del name) h = rw h.1 (omega arith)
line_long text (put name count) h = rw h.4 (omega arith)

-- behind the word of a put stand a name, a blank and digits
record IsPut (text : List ℕ) : Type 0 where
  name : List ℕ
  digits : List ℕ
  is_name : is_file_name name ≡ true
  is_digits : is_length digits ≡ true
  is : text ≡ name ++ (32 ∷ digits)

-- the first character of a text, where there is one
first : List ℕ → ℕ
first [] = 0
first (c ∷ cs) = c

is_put : (text : List ℕ) (l : Line) → Says (codes "put " ++ text) l → IsPut text
unfolding first
is_put text build h = let bad : ◌≡◌ {A = ℕ} 112 98 = ap first h in absurd (omega (arith, bad))
is_put text finish h = let bad : ◌≡◌ {A = ℕ} 112 101 = ap first h in absurd (omega (arith, bad))
is_put text (del name) h = let bad : ◌≡◌ {A = ℕ} 112 100 = ap first h.1 in absurd (omega (arith, bad))
is_put text (put name count) h =
    record { name = name; digits = h.0; is_name = h.1; is_digits = h.2; is = behind text (name ++ (32 ∷ h.0)) h.4 }
  where
    behind : (a b : List ℕ) → codes "put " ++ a ≡ codes "put " ++ b → a ≡ b
    behind a b e = cc

no_blank : (t more : List ℕ) → Each (is_not 32) t → IsPut (t ++ more) → rest_of_put t None ≤ length more + 1
no_blank [] more each p =
    let n = name_long p.name p.is_name in let d = digits_long p.digits p.is_digits in
    omega (arith, ap length p.is, length-append p.name (32 ∷ p.digits))
no_blank (c ∷ t) more each p =
    let d = digits_long p.digits p.is_digits in
    let front : length (c ∷ t) ≤ length p.name = no_longer (is_not 32) p.name (c ∷ t) (32 ∷ p.digits) more each refl (sym p.is) in
    omega (arith, ap length p.is, length-append p.name (32 ∷ p.digits), length-append (c ∷ t) more)

blank : (t more : List ℕ) (parts : List ℕ × List ℕ) → cut 32 t ≡ Some parts → IsPut (t ++ more) → rest_of_put t (Some parts) ≤ length more + 1
blank t more parts e p = go parts.1 refl
  where
    go : (ds : List ℕ) → parts.1 ≡ ds → rest_of_put t (Some (parts.0, ds)) ≤ length more + 1
    go [] k =
        let d = digits_long p.digits p.is_digits in
        let whole : t ≡ parts.0 ++ (32 ∷ []) = cut_parts 32 t parts e ∙ ap (λ r. parts.0 ++ (32 ∷ r)) k in
        let same : t ++ more ≡ parts.0 ++ (32 ∷ more) = ap (λ x. x ++ more) whole ∙ append_assoc parts.0 (32 ∷ []) more in
        let a : cut 32 (t ++ more) ≡ Some (parts.0, more) = ap (cut 32) same ∙ cut_at 32 parts.0 more (feed_first 32 t parts e) in
        let b : cut 32 (t ++ more) ≡ Some (p.name, p.digits) = ap (cut 32) p.is ∙ cut_at 32 p.name p.digits (name_lacks 32 p.name refl p.is_name) in
        let is : more ≡ p.digits = second (parts.0, more) (p.name, p.digits) (sym a ∙ b) in
        omega (arith, ap length is)
      where
        second : (x y : List ℕ × List ℕ) → Some x ≡ Some y → x.1 ≡ y.1
        second x y e = cc
    go (d ∷ ds) k = omega arith

put_least : (t more : List ℕ) (o : Option (List ℕ × List ℕ)) → cut 32 t ≡ o → IsPut (t ++ more) → rest_of_put t o ≤ length more + 1
put_least t more None e p = no_blank t more (no_feed 32 t e) p
put_least t more (Some parts) e p = blank t more parts e p

-- a line that says something has at least so many bytes more
pub least_holds : (text more : List ℕ) (l : Line) → Says (text ++ more) l → least_rest text ≤ length more + 1
unfolding least_rest
least_holds text more l h = go (nat_lt (length text) 4) refl
  where
    behind : (o : Option (List ℕ)) → without (codes "put ") text ≡ o → rest_behind_put o ≤ length more + 1
    behind None e = omega arith
    behind (Some t) e =
        let is : text ≡ codes "put " ++ t = front_of (codes "put ") text t e in
        put_least t more (cut 32 t) refl (is_put (t ++ more) l (subst (λ x. Says x l) (ap (λ x. x ++ more) is) h))

    go : (b : Bool) → nat_lt (length text) 4 ≡ b → cond b (4 - length text) (rest_behind_put (without (codes "put ") text)) ≤ length more + 1
    go true e = omega (arith, line_long (text ++ more) l h, length-append text more)
    go false e = behind (without (codes "put ") text) refl
