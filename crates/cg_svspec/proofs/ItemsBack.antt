-- The tokens of widths, ports, parameters and connections are read back.
use Rattle.std.proofs.Common.{◌≡◌, ℕ, zero, suc, ◌-◌, ◌<◌, eqb, cond, Bool, true, false, List, [], ◌∷◌, ◌++◌, length, refl, ap, ◌∙◌, arith, append_assoc, length-append, Some, codes}
use Rattle.std.proofs.lemmas.Bool.Decides.{nat_tests}
use Rattle.cg_svspec.specs.Tokens.{Token, word, num, mark}
use Rattle.cg_svspec.specs.Tokens as token
use Rattle.cg_svspec.specs.Tree.{net, cut, lit, cat, inv, any, and, or, equal, pick, Port, Parameter, Connection}
use Rattle.cg_svspec.specs.Grammar.{range_tokens, port_tokens, ports_after, ports_tokens, value_tokens, parameter_tokens, parameters_after, parameters_tokens, connection_tokens, connections_after, connections_tokens}
use Rattle.cg_svspec.specs.Printable.{IsSomeOf, AllOf, IsWidth, IsPrintablePort, IsNumberOrLiteral, IsPrintableParameter, IsPrintableConnection}
use Rattle.cg_svspec.specs.Parse.{Found, next_is, items_after, items_at, width_at, port_of, port_at, value_at, parameter_at, parameters_at, connection_at}
use Rattle.cg_svspec.proofs.ExpressionBack.{whole_expression_back}

-- the tokens behind the first item of a list, up to the closing parenthesis
record AreItems {A : Type 0} (tokens : A → List Token) (after : List A → List Token) : Type 0 where
  end : after [] ≡ mark 41 ∷ []
  step : (x : A) (xs : List A) → after (x ∷ xs) ≡ mark 44 ∷ (tokens x ++ after xs)

-- each such item is read back
abbrev EachBack : {A : Type 0} → (A → Type 0) → (A → List Token) → (List Token → Found A) → Type 0
EachBack {A} P tokens read = (x : A) → P x → (ts : List Token) → read (tokens x ++ ts) ≡ Some (x, ts)

-- each item has a token
items_below : {A : Type 0} (tokens : A → List Token) (after : List A → List Token) → AreItems tokens after → (xs : List A) → length xs < length (after xs)
items_below tokens after are [] = rw are.end (omega arith)
items_below tokens after are (x ∷ xs) = rw (are.step x xs) (omega (arith, items_below tokens after are xs, length-append (tokens x) (after xs)))

-- the items behind the first one
items_after_back : {A : Type 0} (P : A → Type 0) (tokens : A → List Token) (read : List Token → Found A) (after : List A → List Token) → AreItems tokens after → EachBack P tokens read → (xs : List A) → AllOf P xs → (k : ℕ) → length xs < k → (ts : List Token) → items_after read 41 k (after xs ++ ts) ≡ Some (xs, ts)
items_after_back P tokens read after are each xs is zero l ts = absurd (omega arith)
items_after_back P tokens read after are each [] is (suc k) l ts = rw are.end refl
items_after_back P tokens read after are each (x ∷ xs) is (suc k) l ts =
    rw (are.step x xs, append_assoc (tokens x) (after xs) ts, each x is.0 (after xs ++ ts), items_after_back P tokens read after are each xs is.1 k (omega arith) ts) refl

-- all items of a list
items_back : {A : Type 0} (P : A → Type 0) (tokens : A → List Token) (read : List Token → Found A) (after : List A → List Token) → AreItems tokens after → EachBack P tokens read → (x : A) (xs : List A) → P x → AllOf P xs → (ts : List Token) → items_at read 41 (tokens x ++ (after xs ++ ts)) ≡ Some (x ∷ xs, ts)
items_back P tokens read after are each x xs first others ts =
    let size : length xs < length (after xs ++ ts) = omega (arith, items_below tokens after are xs, length-append (after xs) ts) in
    rw (each x first (after xs ++ ts), items_after_back P tokens read after are each xs others (length (after xs ++ ts)) size ts) refl

-- a range, or none where the width is 1
either_back : (b : Bool) (w : ℕ) → eqb w 1 ≡ b → IsWidth w → (ts : List Token) → next_is 91 ts ≡ false → width_at (cond b [] (mark 91 ∷ num (w - 1) ∷ mark 58 ∷ num 0 ∷ mark 93 ∷ []) ++ ts) ≡ Some (w, ts)
either_back true w e is ts apart = let one : w ≡ 1 = grind (arith, nat_tests) in rw (apart, one) refl
either_back false w e is ts apart =
    let some : eqb (w - 1) 0 ≡ false = grind (arith, nat_tests) in
    let next : suc (w - 1) ≡ w = grind (arith, nat_tests) in
    rw (some, next) refl

-- a width
pub width_back : (w : ℕ) → IsWidth w → (ts : List Token) → next_is 91 ts ≡ false → width_at (range_tokens w ++ ts) ≡ Some (w, ts)
unfolding range_tokens
width_back w is ts apart = either_back (eqb w 1) w refl is ts apart

-- what stands behind a port's direction
port_of_back : (b : Bool) (w : ℕ) (n : List ℕ) → IsPrintablePort (record { input = b; width = w; name = n }) → (ts : List Token) → port_of b (range_tokens w ++ (word n ∷ ts)) ≡ Some (record { input = b; width = w; name = n }, ts)
port_of_back b w n is ts = rw (width_back w is.0 (word n ∷ ts) refl, is.1.1) refl

-- the direction of a port
side_back : (b : Bool) (ts : List Token) → port_at (word (cond b (codes "input") (codes "output")) ∷ ts) ≡ port_of b ts
side_back true ts = refl
side_back false ts = refl

-- a port
port_back : EachBack IsPrintablePort port_tokens port_at
unfolding port_tokens
port_back p is ts = simp append_assoc (side_back p.input _ ∙ port_of_back p.input p.width p.name is ts)

-- ports are items
ports_are : AreItems port_tokens (λ ps. ports_after ps ++ mark 41 ∷ [])
ports_are = record { end = refl; step = λ p ps. ap (λ z. mark 44 ∷ z) (append_assoc (port_tokens p) (ports_after ps) (mark 41 ∷ [])) }

-- all ports
pub ports_back : (ps : List Port) → IsSomeOf ps → AllOf IsPrintablePort ps → (ts : List Token) → items_at port_at 41 (ports_tokens ps ++ mark 41 ∷ ts) ≡ Some (ps, ts)
ports_back [] some is ts = absurd some
ports_back (p ∷ ps) some is ts = simp append_assoc (simp append_assoc at (items_back IsPrintablePort port_tokens port_at (λ ps. ports_after ps ++ mark 41 ∷ []) ports_are port_back p ps is.0 is.1 ts))

-- a literal, or a plain number where its width is 0
number_back : (b : Bool) (w v : ℕ) → eqb w 0 ≡ b → (ts : List Token) → value_at (cond b (num v) (token.lit w v) ∷ ts) ≡ Some (lit w v, ts)
number_back true w v e ts = let none : w ≡ 0 = grind (arith, nat_tests) in rw none refl
number_back false w v e ts = refl

-- a parameter's value
value_back : EachBack IsNumberOrLiteral value_tokens value_at
value_back (net n) is ts = absurd is
value_back (cut n m l) is ts = absurd is
value_back (lit w v) is ts = number_back (eqb w 0) w v refl ts
value_back (cat xs) is ts = absurd is
value_back (inv x) is ts = absurd is
value_back (any x) is ts = absurd is
value_back (and x y) is ts = absurd is
value_back (or x y) is ts = absurd is
value_back (equal x y) is ts = absurd is
value_back (pick c x y) is ts = absurd is

-- a parameter
parameter_back : EachBack IsPrintableParameter parameter_tokens parameter_at
unfolding parameter_tokens
parameter_back p is ts = simp append_assoc (rw (is.0.1, value_back p.value is.1 (mark 41 ∷ ts)) refl)

-- parameters are items
parameters_are : AreItems parameter_tokens parameters_after
parameters_are = record { end = refl; step = λ p ps. refl }

-- all parameters of an instance, or none
pub parameters_back : (ps : List Parameter) → AllOf IsPrintableParameter ps → (ts : List Token) → next_is 35 ts ≡ false → parameters_at (parameters_tokens ps ++ ts) ≡ Some (ps, ts)
parameters_back [] is ts apart = rw apart refl
parameters_back (p ∷ ps) is ts apart = simp append_assoc (items_back IsPrintableParameter parameter_tokens parameter_at parameters_after parameters_are parameter_back p ps is.0 is.1 ts)

-- a connection
connection_back : EachBack IsPrintableConnection connection_tokens connection_at
unfolding connection_tokens
connection_back c is ts = simp append_assoc (rw (is.0.1, whole_expression_back c.value is.1 (mark 41 ∷ ts) refl) refl)

-- connections are items
connections_are : AreItems connection_tokens (λ cs. connections_after cs ++ mark 41 ∷ [])
connections_are = record { end = refl; step = λ c cs. ap (λ z. mark 44 ∷ z) (append_assoc (connection_tokens c) (connections_after cs) (mark 41 ∷ [])) }

-- all connections of an instance
pub connections_back : (cs : List Connection) → IsSomeOf cs → AllOf IsPrintableConnection cs → (ts : List Token) → items_at connection_at 41 (connections_tokens cs ++ mark 41 ∷ ts) ≡ Some (cs, ts)
connections_back [] some is ts = absurd some
connections_back (c ∷ cs) some is ts = simp append_assoc (simp append_assoc at (items_back IsPrintableConnection connection_tokens connection_at (λ cs. connections_after cs ++ mark 41 ∷ []) connections_are connection_back c cs is.0 is.1 ts))
