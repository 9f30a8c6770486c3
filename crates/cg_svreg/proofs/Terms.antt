-- The terms of a window's hit, from the highest bit down.
use Rattle.std.proofs.Common.{◌≡◌, ℕ, suc, ◌+◌, ◌-◌, ◌/◌, ◌^◌, ◌<◌, ◌≤◌, Bool, cond, List, [], ◌∷◌, ◌++◌, map, refl, ap, sym, ◌∙◌}
use Rattle.std.proofs.lemmas.Bool.{le-leb, lt-leb}
use Rattle.cg_svspec.specs.Tree.{Expression, cut, lit, equal, Expressions, more, expressions}
use Rattle.cg_sv.specs.Views.{expression_of}
use Rattle.cg_sv.specs.declared.tree.Expr.{Expr}
use Rattle.cg_regspec.specs.NetNames.{reg_addr}
use Rattle.cg_regspec.specs.RegisterModule.{window_terms}
use Rattle.cg_svreg.specs.Parts.{above}
use Rattle.cg_svreg.proofs.Lists.{above-under, above-none}

-- the term of bit b
abbrev term : ℕ → ℕ → Expression
term b word = equal (cut reg_addr 31 (b + 2)) (lit (30 - b) (word / 2 ^ b))

with_bit : (b left word : ℕ) → 2 ^ b ≤ left → window_terms (suc b) left word ≡ more (term b word) (window_terms b (left - 2 ^ b) (word + 2 ^ b))
unfolding window_terms
with_bit b left word le =
    ap (λ (t : Bool). cond t (more (term b word) (window_terms b (left - 2 ^ b) (word + 2 ^ b))) (window_terms b left word)) (le-leb (2 ^ b) left le)

without_bit : (b left word : ℕ) → left < 2 ^ b → window_terms (suc b) left word ≡ window_terms b left word
unfolding window_terms
without_bit b left word lt =
    ap (λ (t : Bool). cond t (more (term b word) (window_terms b (left - 2 ^ b) (word + 2 ^ b))) (window_terms b left word)) (lt-leb (2 ^ b) left lt)

-- before the first bit
pub first_terms : (terms : List Expr) (left word items first : ℕ) → terms ≡ [] → left ≡ items → word ≡ first
    → above terms (window_terms 23 left word) ≡ window_terms 23 items first
unfolding above
first_terms terms left word items first terms-is left-is word-is = rw (terms-is, left-is, word-is) refl

-- the bit is set: its term comes next
pub next_term : (terms new : List Expr) (x : Expr) (i b size left word : ℕ) (whole : Expressions) → i ≡ suc b → size ≡ 2 ^ b → size ≤ left
    → expression_of x ≡ equal (cut reg_addr 31 (b + 2)) (lit (30 - b) (word / size)) → new ≡ terms ++ x ∷ []
    → above terms (window_terms i left word) ≡ whole → above new (window_terms b (left - size) (word + size)) ≡ whole
next_term terms new x i b size left word whole i-is size-is le x-is new-is before =
    let le-pow : 2 ^ b ≤ left = rw size-is at le in
    let x-term : expression_of x ≡ term b word = rw size-is at x-is in
    rw (size-is, new-is)
    (above-under terms x (window_terms b (left - 2 ^ b) (word + 2 ^ b))
    ∙ ap (λ (y : Expression). above terms (more y (window_terms b (left - 2 ^ b) (word + 2 ^ b)))) x-term
    ∙ ap (above terms) (sym (with_bit b left word le-pow))
    ∙ ap (λ (j : ℕ). above terms (window_terms j left word)) (sym i-is)
    ∙ before)

-- the bit is not set
pub no_term : (terms : List Expr) (i b size left word : ℕ) (whole : Expressions) → i ≡ suc b → size ≡ 2 ^ b → left < size
    → above terms (window_terms i left word) ≡ whole → above terms (window_terms b left word) ≡ whole
no_term terms i b size left word whole i-is size-is lt before =
    let lt-pow : left < 2 ^ b = rw size-is at lt in
    ap (above terms) (sym (without_bit b left word lt-pow)) ∙ ap (λ (j : ℕ). above terms (window_terms j left word)) (sym i-is) ∙ before

-- after the last bit
pub all_terms : (terms : List Expr) (i left word : ℕ) (whole : Expressions) → i ≡ 0 → above terms (window_terms i left word) ≡ whole
    → expressions (map expression_of terms) ≡ whole
unfolding window_terms
all_terms terms i left word whole i-is before =
    sym (above-none terms) ∙ ap (λ (j : ℕ). above terms (window_terms j left word)) (sym i-is) ∙ before
