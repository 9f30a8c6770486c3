-- A line says what is computed of it.
use Rattle.std.proofs.Common.{◌≡◌, ℕ, Bool, true, false, cond, ◌&&◌, not, List, [], ◌∷◌, ◌++◌, length, ◌≤◌, length-append, Option, Some, None, refl, ap, sym, subst, ◌∙◌, arith, codes}
use Rattle.std.specs.Prelude.{eqb, leb}
use Rattle.std.specs.Str.{bytes_eq}
use Rattle.std.specs.List.{list_all}
use Rattle.std.specs.Str.Parse.{digits_value}
use Rattle.std.proofs.lemmas.Bool.Decides.{nat_tests}
use Rattle.std.proofs.lemmas.Slice.Eq.{bytes_eq-Decides}
use Rattle.cg_svspec.specs.Characters.{Each, is_digit}
use Rattle.cg_svspec.proofs.Runs.{both_pass}
use Rattle.cg_inputs.proofs.Pieces.{is_not, front_of, cut_at, cut_parts}
use Rattle.cg_inputs.specs.Lines.{is_file_character, is_file_name, is_length, Line, put, del, build, finish, Says}
use Rattle.cg_inputs.specs.Reading.{without, cut, sized, with_put, with_del, line_of}

-- a character of a name is no other one that is none
name_is_not : (c d : ℕ) → is_file_character c ≡ false → is_file_character d ≡ true → is_not c d ≡ true
name_is_not c d h k = go (eqb d c) refl
  where
    go : (b : Bool) → eqb d c ≡ b → not b ≡ true
    go false e = refl
    go true e = let same : d ≡ c = grind (arith, nat_tests) in let bad : true ≡ false = sym k ∙ (ap is_file_character same ∙ h) in cc

all_not : (c : ℕ) (xs : List ℕ) → is_file_character c ≡ false → list_all is_file_character xs ≡ true → Each (is_not c) xs
all_not c [] h k = tt
all_not c (x ∷ xs) h k = let both = both_pass (is_file_character x) (list_all is_file_character xs) k in (name_is_not c x h both.0, all_not c xs h both.1)

-- no character of a name is one that is none
pub name_lacks : (c : ℕ) (name : List ℕ) → is_file_character c ≡ false → is_file_name name ≡ true → Each (is_not c) name
unfolding is_file_name
name_lacks c name h k = all_not c name h (both_pass _ _ k).0

digit_is_not : (c : ℕ) → is_digit c ≡ true → is_not 10 c ≡ true
digit_is_not c h = grind (arith, nat_tests)

digits_not : (xs : List ℕ) → list_all is_digit xs ≡ true → Each (is_not 10) xs
digits_not [] k = tt
digits_not (x ∷ xs) k = let both = both_pass (is_digit x) (list_all is_digit xs) k in (digit_is_not x both.0, digits_not xs both.1)

-- no digit of a length is a line feed
pub length_lacks : (digits : List ℕ) → is_length digits ≡ true → Each (is_not 10) digits
unfolding is_length
length_lacks digits k = digits_not digits (both_pass _ _ k).0

pub each_more : (p : ℕ → Bool) (xs ys : List ℕ) → Each p xs → Each p ys → Each p (xs ++ ys)
each_more p [] ys a b = b
each_more p (x ∷ xs) ys a b = (a.0, each_more p xs ys a.1 b)

-- what a line says is computed
pub said : (text : List ℕ) (l : Line) → Says text l → line_of text ≡ Some l
unfolding line_of without
said text build h = rw h refl
said text finish h = rw h refl
said text (del name) h = rw (h.1, h.0) refl
said text (put name count) h = rw (h.4, cut_at 32 name h.0 (name_lacks 32 name refl h.1), h.1, h.2, h.3) refl

same_bytes : (xs ys : List ℕ) → bytes_eq xs ys ≡ true → xs ≡ ys
same_bytes xs ys h = (bytes_eq-Decides xs ys).0 h

-- what is computed of a line it says
pub says : (text : List ℕ) (l : Line) → line_of text ≡ Some l → Says text l
unfolding line_of
says text l h = first (bytes_eq text (codes "build")) refl h
  where
    of_sized : (rest : List ℕ) (o : Option (List ℕ × List ℕ)) → text ≡ codes "put " ++ rest → cut 32 rest ≡ o → sized o ≡ Some l → Says text l
    of_sized rest None e c k = cc
    of_sized rest (Some p) e c k = go (is_file_name p.0) (is_length p.1) refl refl k
      where
        go : (a b : Bool) → is_file_name p.0 ≡ a → is_length p.1 ≡ b → cond (a && b) (Some (put p.0 (digits_value 10 p.1))) None ≡ Some l → Says text l
        go true true x y k =
            let is : put p.0 (digits_value 10 p.1) ≡ l = cc in
            let whole : text ≡ codes "put " ++ (p.0 ++ (32 ∷ p.1)) = e ∙ ap (λ t. codes "put " ++ t) (cut_parts 32 rest p c) in
            subst (λ m. Says text m) is (p.1, x, y, refl, whole)
        go true false x y k = cc
        go false b x y k = cc

    of_put : (o : Option (List ℕ)) → without (codes "put ") text ≡ o → with_put o ≡ Some l → Says text l
    of_put None e k = cc
    of_put (Some rest) e k = of_sized rest (cut 32 rest) (front_of (codes "put ") text rest e) refl k

    of_del : (o : Option (List ℕ)) → without (codes "del ") text ≡ o → with_del o text ≡ Some l → Says text l
    of_del None e k = of_put (without (codes "put ") text) refl k
    of_del (Some name) e k = go (is_file_name name) refl k
      where
        go : (b : Bool) → is_file_name name ≡ b → cond b (Some (del name)) None ≡ Some l → Says text l
        go true x k = let is : del name ≡ l = cc in subst (λ m. Says text m) is (x, front_of (codes "del ") text name e)
        go false x k = cc

    second : (b : Bool) → bytes_eq text (codes "end") ≡ b → cond b (Some finish) (with_del (without (codes "del ") text) text) ≡ Some l → Says text l
    second true e k = let is : finish ≡ l = cc in subst (λ m. Says text m) is (same_bytes text (codes "end") e)
    second false e k = of_del (without (codes "del ") text) refl k

    first : (b : Bool) → bytes_eq text (codes "build") ≡ b
        → cond b (Some build) (cond (bytes_eq text (codes "end")) (Some finish) (with_del (without (codes "del ") text) text)) ≡ Some l → Says text l
    first true e k = let is : build ≡ l = cc in subst (λ m. Says text m) is (same_bytes text (codes "build") e)
    first false e k = second (bytes_eq text (codes "end")) refl k

-- a line that says something has no line feed
pub line_lacks : (text : List ℕ) (l : Line) → Says text l → Each (is_not 10) text
line_lacks text build h = rw h (refl, (refl, (refl, (refl, (refl, tt)))))
line_lacks text finish h = rw h (refl, (refl, (refl, tt)))
line_lacks text (del name) h = rw h.1 (refl, (refl, (refl, (refl, name_lacks 10 name refl h.0))))
line_lacks text (put name count) h =
    rw h.4 (refl, (refl, (refl, (refl, each_more (is_not 10) name (32 ∷ h.0) (name_lacks 10 name refl h.1) (refl, length_lacks h.0 h.2)))))

-- a line says one thing
pub one_thing : (text : List ℕ) (l m : Line) → Says text l → Says text m → l ≡ m
one_thing text l m a b = let e : Some l ≡ Some m = sym (said text l a) ∙ said text m b in cc

name_short : (name : List ℕ) → is_file_name name ≡ true → length name ≤ 64
unfolding is_file_name
name_short name h = let l = (both_pass (leb 1 (length name)) (leb (length name) 64) (both_pass (list_all is_file_character name) (leb 1 (length name) && leb (length name) 64) h).1).1 in grind (arith, nat_tests)

digits_short : (ds : List ℕ) → is_length ds ≡ true → length ds ≤ 8
unfolding is_length
digits_short ds h = let l = (both_pass (leb 1 (length ds)) (leb (length ds) 8) (both_pass (list_all is_digit ds) (leb 1 (length ds) && leb (length ds) 8) h).1).1 in grind (arith, nat_tests)

-- a line that says something is short
pub line_short : (text : List ℕ) (l : Line) → Says text l → length text ≤ 77
line_short text build h = rw h (omega arith)
line_short text finish h = rw h (omega arith)
line_short text (del name) h = let n = name_short name h.0 in rw h.1 (omega arith)
line_short text (put name count) h =
    let n = name_short name h.1 in let d = digits_short h.0 h.2 in rw h.4 (omega (arith, length-append name (32 ∷ h.0)))
