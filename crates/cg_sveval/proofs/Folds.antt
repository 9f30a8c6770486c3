-- Changes of tables, one after the other.
use Rattle.std.proofs.Common.{◌≡◌, ℕ, suc, ◌+◌, ◌-◌, ◌<◌, ◌≤◌, Bool, true, false, not, cond, List, [], ◌∷◌, map, take, drop, length, get_or, refl, ap, sym, ◌∙◌, drop-cons, add-one}
use Rattle.std.proofs.lemmas.List.{drop_all}
use Rattle.cg_svspec.specs.Bits.{Bits, bits, any_bit}
use Rattle.cg_svspec.specs.Tree.{Expression, net, cut, lit, cat, inv, any, and, or, equal, pick, Expressions, none, more, Port, wire, drive, assign, inst}
use Rattle.cg_svspec.specs.Value.{Values, eval, eval_parts}
use Rattle.cg_sveval.specs.declared.Cell.{Cell}
use Rattle.cg_sveval.specs.Tables.{Same, cell_value, folded, with_value, with_entry, with_input, with_state_of}

-- the same values before the change give the same after it
abbrev pub Keeps : {X : Type 0} → (X → Values → Values) → Type 0
Keeps {X} f = (x : X) (a b : Values) → Same a b → Same (f x a) (f x b)

mutual
  pub eval_same : (a b : Values) → Same a b → (x : Expression) → eval a x ≡ eval b x
  eval_same a b same (net n) = same n
  eval_same a b same (cut n m l) = ap (λ z. take (suc m - l) (drop l z)) (same n)
  eval_same a b same (lit w k) = refl
  eval_same a b same (cat xs) = parts_same a b same xs
  eval_same a b same (inv x) = ap (map not) (eval_same a b same x)
  eval_same a b same (any x) = ap (λ z. any_bit z ∷ []) (eval_same a b same x)
  eval_same a b same (and x y) = rw (eval_same a b same x, eval_same a b same y) refl
  eval_same a b same (or x y) = rw (eval_same a b same x, eval_same a b same y) refl
  eval_same a b same (equal x y) = rw (eval_same a b same x, eval_same a b same y) refl
  eval_same a b same (pick c x y) = rw (eval_same a b same c, eval_same a b same x, eval_same a b same y) refl

  pub parts_same : (a b : Values) → Same a b → (xs : Expressions) → eval_parts a xs ≡ eval_parts b xs
  parts_same a b same none = refl
  parts_same a b same (more x xs) = rw (eval_same a b same x, parts_same a b same xs) refl

put_same : (name : List ℕ) (v w : Bits) (a b : Values) → v ≡ w → Same a b → Same (with_value name v a) (with_value name w b)
put_same name v w a b e same n = rw (e, same n) refl

pub entry_keeps : Keeps with_entry
entry_keeps (wire w n) a b same = same
entry_keeps (drive w n x) a b same = put_same n (eval a x) (eval b x) a b (eval_same a b same x) same
entry_keeps (assign n x) a b same = put_same n (eval a x) (eval b x) a b (eval_same a b same x) same
entry_keeps (inst m ps k cs) a b same = same

pub input_keeps : (cells : List Cell) → Keeps (with_input cells)
input_keeps cells p a b same = by p.input (bits p.width (cell_value cells p.name)) where
  by : (i : Bool) (v : Bits) → Same (cond i (with_value p.name v a) a) (cond i (with_value p.name v b) b)
  by true v = put_same p.name v v a b refl same
  by false v = same

pub input_put : (cells : List Cell) (p : Port) (name : List ℕ) (v : Bits) (old new : Values) → p.input ≡ true → name ≡ p.name → v ≡ bits p.width (cell_value cells p.name)
    → Same new (with_value name v old) → Same new (with_input cells p old)
input_put cells p name v old new is en ev same n = same n ∙ rw (is, en, ev) refl

pub input_kept : (cells : List Cell) (p : Port) (old : Values) → p.input ≡ false → Same old (with_input cells p old)
input_kept cells p old is n = rw is refl

pub state_keeps : (cells : List Cell) → Keeps (with_state_of cells)
state_keeps cells (wire w n) a b same = same
state_keeps cells (drive w n x) a b same = same
state_keeps cells (assign n x) a b same = same
state_keeps cells (inst m ps k cs) a b same = put_same _ _ _ a b refl same

pub folds_same : {X : Type 0} (f : X → Values → Values) → Keeps f → (a b : Values) → Same a b → (xs : List X) → Same (folded f a xs) (folded f b xs)
folds_same f keeps a b same [] = same
folds_same f keeps a b same (x ∷ xs) = folds_same f keeps (f x a) (f x b) (keeps x a b same) xs

-- a step of a loop over changes
pub fold_next : {T X : Type 0} (view : T → X) (f : X → Values → Values) → Keeps f → (ts : List T) (i : ℕ) (t d : T) (old new start : Values) → i < length ts → t ≡ get_or ts i d
    → Same new (f (view t) old) → Same (folded f old (map view (drop i ts))) (folded f start (map view ts)) → Same (folded f new (map view (drop (i + 1) ts))) (folded f start (map view ts))
fold_next view f keeps ts i t d old new start below is step kept n =
    let cut : drop i ts ≡ t ∷ drop (i + 1) ts = rw add-one (drop-cons ts i d below ∙ ap (λ y. y ∷ drop (suc i) ts) (sym is)) in
    folds_same f keeps new (f (view t) old) step (map view (drop (i + 1) ts)) n ∙ ap (λ z. folded f old (map view z) n) (sym cut) ∙ kept n

-- the end of a loop over changes
pub fold_done : {T X : Type 0} (view : T → X) (f : X → Values → Values) (ts : List T) (i : ℕ) (old start : Values) → length ts ≤ i
    → Same (folded f old (map view (drop i ts))) (folded f start (map view ts)) → Same old (folded f start (map view ts))
fold_done view f ts i old start end kept n = ap (λ z. folded f old (map view z) n) (sym (drop_all i ts end)) ∙ kept n
