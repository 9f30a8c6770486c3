-- One entry further down.
use Rattle.std.proofs.Common.{◌≡◌, ℕ, zero, suc, ◌+◌, Bool, true, false, ◌&&◌, List, [], ◌∷◌, ◌++◌, map, take, drop, add-one, ap, sym, refl, ◌∙◌}
use Rattle.cg_svspec.specs.Tree as tree
use Rattle.cg_sv.specs.Views.{entry_of}
use Rattle.cg_sv.specs.declared.tree.Entry.{Entry}
use Rattle.cg_svcheck.specs.Widths.{width_above, is_known}
use Rattle.cg_svcheck.specs.Fitting.{entry_fits, entries_fit}

-- the entries above one more
pub one_more : (es : List Entry) (p : ℕ) (x : Entry) (rest : List Entry) → drop p es ≡ x ∷ rest → (take (suc p) es ≡ take p es ++ x ∷ []) × (drop (suc p) es ≡ rest)
one_more [] zero x rest e = cc
one_more [] (suc p) x rest e = cc
one_more (y ∷ ys) zero x rest e = let head : y ≡ x = cc in let tail : ys ≡ rest = cc in (ap (λ (z : Entry). z ∷ []) head, tail)
one_more (y ∷ ys) (suc p) x rest e = let more = one_more ys p x rest e in (ap (λ (zs : List Entry). y ∷ zs) more.0, more.1)

-- what stands for entries and one more
pub viewed : (es : List Entry) (x : Entry) → map entry_of (es ++ x ∷ []) ≡ map entry_of es ++ entry_of x ∷ []
viewed [] x = refl
viewed (y ∷ ys) x = ap (λ (zs : List tree.Entry). entry_of y ∷ zs) (viewed ys x)

-- an entry that fits
passed : (t whole more : Bool) → t ≡ true → (t && more) ≡ whole → more ≡ whole
passed true whole more p e = e
passed false whole more p e = cc

-- where an entry fits, all fit where those behind it do
pub step : (m : tree.Module) (es front back rest : List Entry) (p : ℕ) (x : Entry) (whole answer : Bool) → front ≡ take p es → back ≡ drop p es → back ≡ x ∷ rest
    → answer ≡ entry_fits (width_above m.ports (map entry_of front)) (is_known m (map entry_of front)) (entry_of x) → answer ≡ true
    → entries_fit m (map entry_of (take p es)) (map entry_of (drop p es)) ≡ whole
    → entries_fit m (map entry_of (take (p + 1) es)) (map entry_of (drop (p + 1) es)) ≡ whole
step m es front back rest p x whole answer front_is back_is here is holds before =
    let at : drop p es ≡ x ∷ rest = sym back_is ∙ here in
    let more = one_more es p x rest at in
    let fits : entry_fits (width_above m.ports (map entry_of (take p es))) (is_known m (map entry_of (take p es))) (entry_of x) ≡ true =
    ap (λ (f : List Entry). entry_fits (width_above m.ports (map entry_of f)) (is_known m (map entry_of f)) (entry_of x)) (sym front_is) ∙ sym is ∙ holds in
    let first : entries_fit m (map entry_of (take p es)) (entry_of x ∷ map entry_of rest) ≡ whole =
    ap (λ (b : List Entry). entries_fit m (map entry_of (take p es)) (map entry_of b)) (sym at) ∙ before in
    let behind : entries_fit m (map entry_of (take p es) ++ entry_of x ∷ []) (map entry_of rest) ≡ whole = passed _ whole _ fits first in
    rw add-one (ap (λ (f : List Entry). entries_fit m (map entry_of f) (map entry_of (drop (suc p) es))) more.0
    ∙ ap (λ (b : List Entry). entries_fit m (map entry_of (take p es ++ x ∷ [])) (map entry_of b)) more.1
    ∙ ap (λ (f : List tree.Entry). entries_fit m f (map entry_of rest)) (viewed (take p es) x)
    ∙ behind)
