-- Tests of an expression by its form, at the program's trees.
use Rattle.std.proofs.Common.{◌≡◌, ℕ, Bool, true, false, not, nat_eq, List, [], ◌∷◌, map, length, None, ◌∙◌, ap, sym, refl, arith}
use Rattle.std.proofs.lemmas.Bool.{eqb-true}
use Rattle.std.specs.Bool.{Decides}
use Rattle.cg_svspec.specs.Tree.{Expression, expressions}
use Rattle.cg_sv.specs.Views.{expression_of, expression_level}
use Rattle.cg_sv.specs.declared.tree.Expr as expr
use Rattle.cg_sv.specs.declared.tree.Expr.{Expr}
use Rattle.cg_sv.specs.declared.tree.Expr.TheOpen as level
use Rattle.cg_sv.specs.declared.tree.Expr.TheVariants as form
use Rattle.cg_svcheck.specs.Printing.{is_number_or_literal, has_part}
use Rattle.cg_svcheck.specs.Plain.{literal_of, net_of}
use Rattle.cg_svcheck.specs.Counting.{driven_count, driven_pass}

-- what equals a test decides what the test decides
pub decided : {P : Type 0} (answer test : Bool) → answer ≡ test → Decides test P → Decides answer P
decided answer test is d = (λ e. d.0 (sym is ∙ e), λ p. is ∙ d.1 p)

-- a concatenation has a part where its list has one
pub has_part_where : (xs : List Expr) (empty : Bool) → empty ≡ nat_eq (length xs) 0 → not empty ≡ has_part (expressions (map expression_of xs))
has_part_where [] empty is = ap not is
has_part_where (x ∷ xs) true is = absurd (omega (arith, eqb-true (length (x ∷ xs)) 0 (sym is)))
has_part_where (x ∷ xs) false is = refl

-- the view goes down one level
one_level : (x : level.Expr-F Expr) → expression_of (expr.roll-Expr x) ≡ expression_level (expr.map-Expr Expr Expression expression_of x)
unfolding expression_of
one_level x = expr.fold-roll-Expr Expression expression_level x

-- a value that is no literal, at one level
other_level : (y : level.Expr-F Expr) → ((w v : ℕ) → y ≡ level.Lit w v → ⊥) → is_number_or_literal (expression_level (expr.map-Expr Expr Expression expression_of y)) ≡ false
other_level (level.Net n) other = refl
other_level (level.Cut n m l) other = refl
other_level (level.Lit w v) other = absurd (other w v refl)
other_level (level.Cat xs) other = refl
other_level (level.Not x) other = refl
other_level (level.Any x) other = refl
other_level (level.And x y) other = refl
other_level (level.Or x y) other = refl
other_level (level.Equal x y) other = refl
other_level (level.Pick c x y) other = refl

-- a value that is no literal is no number either
pub no_literal : (x : Expr) → ((w v : ℕ) → x ≡ form.Lit w v → ⊥) → is_number_or_literal (expression_of x) ≡ false
no_literal x other =
    let y = expr.out-Expr x in
    let here : expression_of x ≡ expression_level (expr.map-Expr Expr Expression expression_of y) = ap expression_of (sym (expr.roll-out-Expr x)) ∙ one_level y in
    ap is_number_or_literal here
    ∙ other_level y (λ w v is. other w v (sym (expr.roll-out-Expr x) ∙ ap expr.roll-Expr is ∙ form.rolls-Lit w v))

-- no literal, at one level
none_literal : (y : level.Expr-F Expr) → ((w v : ℕ) → y ≡ level.Lit w v → ⊥) → literal_of (expression_level (expr.map-Expr Expr Expression expression_of y)) ≡ None
none_literal (level.Net n) other = refl
none_literal (level.Cut n m l) other = refl
none_literal (level.Lit w v) other = absurd (other w v refl)
none_literal (level.Cat xs) other = refl
none_literal (level.Not x) other = refl
none_literal (level.Any x) other = refl
none_literal (level.And x y) other = refl
none_literal (level.Or x y) other = refl
none_literal (level.Equal x y) other = refl
none_literal (level.Pick c x y) other = refl

-- the expression is no literal
pub is_no_literal : (x : Expr) → ((w v : ℕ) → x ≡ form.Lit w v → ⊥) → literal_of (expression_of x) ≡ None
is_no_literal x other =
    let y = expr.out-Expr x in
    let here : expression_of x ≡ expression_level (expr.map-Expr Expr Expression expression_of y) = ap expression_of (sym (expr.roll-out-Expr x)) ∙ one_level y in
    ap literal_of here
    ∙ none_literal y (λ w v is. other w v (sym (expr.roll-out-Expr x) ∙ ap expr.roll-Expr is ∙ form.rolls-Lit w v))

-- no net, at one level
none_net : (y : level.Expr-F Expr) → ((n : List ℕ) → y ≡ level.Net n → ⊥) → net_of (expression_level (expr.map-Expr Expr Expression expression_of y)) ≡ None
none_net (level.Net n) other = absurd (other n refl)
none_net (level.Cut n m l) other = refl
none_net (level.Lit w v) other = refl
none_net (level.Cat xs) other = refl
none_net (level.Not x) other = refl
none_net (level.Any x) other = refl
none_net (level.And x y) other = refl
none_net (level.Or x y) other = refl
none_net (level.Equal x y) other = refl
none_net (level.Pick c x y) other = refl

-- the expression is no net
pub is_no_net : (x : Expr) → ((n : List ℕ) → x ≡ form.Net n → ⊥) → net_of (expression_of x) ≡ None
is_no_net x other =
    let y = expr.out-Expr x in
    let here : expression_of x ≡ expression_level (expr.map-Expr Expr Expression expression_of y) = ap expression_of (sym (expr.roll-out-Expr x)) ∙ one_level y in
    ap net_of here
    ∙ none_net y (λ n is. other n (sym (expr.roll-out-Expr x) ∙ ap expr.roll-Expr is ∙ form.rolls-Net n))

-- what is no net and no concatenation drives nothing, at one level
drives_nothing_level : (name : List ℕ) (y : level.Expr-F Expr) → ((n : List ℕ) → y ≡ level.Net n → ⊥) → ((xs : List Expr) → y ≡ level.Cat xs → ⊥) → driven_count name (expression_level (expr.map-Expr Expr Expression expression_of y)) ≡ 0
drives_nothing_level name (level.Net n) bare parts = absurd (bare n refl)
drives_nothing_level name (level.Cut n m l) bare parts = refl
drives_nothing_level name (level.Lit w v) bare parts = refl
drives_nothing_level name (level.Cat xs) bare parts = absurd (parts xs refl)
drives_nothing_level name (level.Not x) bare parts = refl
drives_nothing_level name (level.Any x) bare parts = refl
drives_nothing_level name (level.And x y) bare parts = refl
drives_nothing_level name (level.Or x y) bare parts = refl
drives_nothing_level name (level.Equal x y) bare parts = refl
drives_nothing_level name (level.Pick c x y) bare parts = refl

-- what is no net and no concatenation drives nothing
pub drives_nothing : (name : List ℕ) (x : Expr) → ((n : List ℕ) → x ≡ form.Net n → ⊥) → ((xs : List Expr) → x ≡ form.Cat xs → ⊥) → driven_count name (expression_of x) ≡ 0
drives_nothing name x bare parts =
    let y = expr.out-Expr x in
    let here : expression_of x ≡ expression_level (expr.map-Expr Expr Expression expression_of y) = ap expression_of (sym (expr.roll-out-Expr x)) ∙ one_level y in
    ap (driven_count name) here
    ∙ drives_nothing_level name y (λ n is. bare n (sym (expr.roll-out-Expr x) ∙ ap expr.roll-Expr is ∙ form.rolls-Net n))
    (λ xs is. parts xs (sym (expr.roll-out-Expr x) ∙ ap expr.roll-Expr is ∙ form.rolls-Cat xs))

-- and passes each test, at one level
passes_all_level : (test : List ℕ → Bool) (y : level.Expr-F Expr) → ((n : List ℕ) → y ≡ level.Net n → ⊥) → ((xs : List Expr) → y ≡ level.Cat xs → ⊥) → driven_pass test (expression_level (expr.map-Expr Expr Expression expression_of y)) ≡ true
passes_all_level test (level.Net n) bare parts = absurd (bare n refl)
passes_all_level test (level.Cut n m l) bare parts = refl
passes_all_level test (level.Lit w v) bare parts = refl
passes_all_level test (level.Cat xs) bare parts = absurd (parts xs refl)
passes_all_level test (level.Not x) bare parts = refl
passes_all_level test (level.Any x) bare parts = refl
passes_all_level test (level.And x y) bare parts = refl
passes_all_level test (level.Or x y) bare parts = refl
passes_all_level test (level.Equal x y) bare parts = refl
passes_all_level test (level.Pick c x y) bare parts = refl

-- and passes each test
pub passes_all : (test : List ℕ → Bool) (x : Expr) → ((n : List ℕ) → x ≡ form.Net n → ⊥) → ((xs : List Expr) → x ≡ form.Cat xs → ⊥) → driven_pass test (expression_of x) ≡ true
passes_all test x bare parts =
    let y = expr.out-Expr x in
    let here : expression_of x ≡ expression_level (expr.map-Expr Expr Expression expression_of y) = ap expression_of (sym (expr.roll-out-Expr x)) ∙ one_level y in
    ap (driven_pass test) here
    ∙ passes_all_level test y (λ n is. bare n (sym (expr.roll-out-Expr x) ∙ ap expr.roll-Expr is ∙ form.rolls-Net n))
    (λ xs is. parts xs (sym (expr.roll-out-Expr x) ∙ ap expr.roll-Expr is ∙ form.rolls-Cat xs))
