-- The view of an expression at each of its forms.
use Rattle.std.proofs.Common.{◌≡◌, ℕ, List, map, ◌∙◌, ap, sym, refl, append_assoc}
use Rattle.std.specs.declared.boxed.Box.{Box}
use Rattle.std.specs.declared.alloc.Global.{Global}
use Rattle.cg_svspec.specs.Tree.{Expression, net, cut, lit, cat, inv, any, and, or, equal, pick, expressions}
use Rattle.cg_svspec.specs.Layout.{expression_text, value_text}
use Rattle.cg_sv.specs.Views.{expression_of, expression_level}
use Rattle.cg_sv.specs.declared.tree.Expr as expr
use Rattle.cg_sv.specs.declared.tree.Expr.{Expr}
use Rattle.cg_sv.specs.declared.tree.Expr.TheOpen as level
use Rattle.cg_sv.specs.declared.tree.Expr.TheVariants as form

-- the view goes down one level
one_level : (x : level.Expr-F Expr) → expression_of (expr.roll-Expr x) ≡ expression_level (expr.map-Expr Expr Expression expression_of x)
unfolding expression_of
one_level x = expr.fold-roll-Expr Expression expression_level x

-- what each form stands for
pub of-Net : (n : List ℕ) → expression_of (form.Net n) ≡ net n
of-Net n = ap expression_of (sym (form.rolls-Net n)) ∙ one_level (level.Net n)

pub of-Cut : (n : List ℕ) (m l : ℕ) → expression_of (form.Cut n m l) ≡ cut n m l
of-Cut n m l = ap expression_of (sym (form.rolls-Cut n m l)) ∙ one_level (level.Cut n m l)

pub of-Lit : (w v : ℕ) → expression_of (form.Lit w v) ≡ lit w v
of-Lit w v = ap expression_of (sym (form.rolls-Lit w v)) ∙ one_level (level.Lit w v)

pub of-Cat : (xs : List Expr) → expression_of (form.Cat xs) ≡ cat (expressions (map expression_of xs))
of-Cat xs = ap expression_of (sym (form.rolls-Cat xs)) ∙ one_level (level.Cat xs)

pub of-Not : (x : Box Expr Global) → expression_of (form.Not x) ≡ inv (expression_of x.value)
of-Not x = ap expression_of (sym (form.rolls-Not x)) ∙ one_level (level.Not x)

pub of-Any : (x : Box Expr Global) → expression_of (form.Any x) ≡ any (expression_of x.value)
of-Any x = ap expression_of (sym (form.rolls-Any x)) ∙ one_level (level.Any x)

pub of-And : (x y : Box Expr Global) → expression_of (form.And x y) ≡ and (expression_of x.value) (expression_of y.value)
of-And x y = ap expression_of (sym (form.rolls-And x y)) ∙ one_level (level.And x y)

pub of-Or : (x y : Box Expr Global) → expression_of (form.Or x y) ≡ or (expression_of x.value) (expression_of y.value)
of-Or x y = ap expression_of (sym (form.rolls-Or x y)) ∙ one_level (level.Or x y)

pub of-Equal : (x y : Box Expr Global) → expression_of (form.Equal x y) ≡ equal (expression_of x.value) (expression_of y.value)
of-Equal x y = ap expression_of (sym (form.rolls-Equal x y)) ∙ one_level (level.Equal x y)

pub of-Pick : (c x y : Box Expr Global) → expression_of (form.Pick c x y) ≡ pick (expression_of c.value) (expression_of x.value) (expression_of y.value)
of-Pick c x y = ap expression_of (sym (form.rolls-Pick c x y)) ∙ one_level (level.Pick c x y)

-- all of these, and lists nested to the right
pub ruleset views = (of-Net, of-Cut, of-Lit, of-Cat, of-Not, of-Any, of-And, of-Or, of-Equal, of-Pick, append_assoc)

-- a value that is no literal, at one level
other_level : (y : level.Expr-F Expr) → ((w v : ℕ) → y ≡ level.Lit w v → ⊥)
    → value_text (expression_level (expr.map-Expr Expr Expression expression_of y)) ≡ expression_text (expression_level (expr.map-Expr Expr Expression expression_of y))
other_level (level.Net n) other = refl
other_level (level.Cut n m l) other = refl
other_level (level.Lit w v) other = absurd (other w v refl)
other_level (level.Cat xs) other = refl
other_level (level.Not x) other = refl
other_level (level.Any x) other = refl
other_level (level.And x y) other = refl
other_level (level.Or x y) other = refl
other_level (level.Equal x y) other = refl
other_level (level.Pick c x y) other = refl

-- a parameter's value that is no literal is spelled as an expression
pub value_text-other : (x : Expr) → ((w v : ℕ) → x ≡ form.Lit w v → ⊥) → value_text (expression_of x) ≡ expression_text (expression_of x)
value_text-other x other =
    let y = expr.out-Expr x in
    let here : expression_of x ≡ expression_level (expr.map-Expr Expr Expression expression_of y) = ap expression_of (sym (expr.roll-out-Expr x)) ∙ one_level y in
    ap value_text here
    ∙ other_level y (λ w v is. other w v (sym (expr.roll-out-Expr x) ∙ ap expr.roll-Expr is ∙ form.rolls-Lit w v))
    ∙ sym (ap expression_text here)
