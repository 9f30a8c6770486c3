-- Sets of names and tables of widths, one entry further.
use Rattle.std.proofs.Common.{◌≡◌, ℕ, Bool, true, false, ◌||◌, cond, List, Option, Some, None, Bor, ap, sym, refl, ◌∙◌}
use Rattle.std.specs.Bool.{Decides}
use Rattle.std.specs.Option.{is_some, option_copied}
use Rattle.cg_svspec.specs.Names.{Differ, first_repeat}
use Rattle.cg_svspec.proofs.FirstRepeat.{first_repeat_is_first}
use Rattle.cg_svcheck.specs.Widths.{or_else}

-- `||` by a choice
or_cond : (a b : Bool) → cond a true b ≡ (a || b)
or_cond true b = refl
or_cond false b = refl

pub set_more : (a new old : Bool) → new ≡ cond a true old → new ≡ (a || old)
set_more a new old is = is ∙ or_cond a old

-- the test `||` from the other side
or_swap : (a b c : Bool) → (a || (b || c)) ≡ ((b || a) || c)
or_swap true true c = refl
or_swap true false c = refl
or_swap false true c = refl
or_swap false false c = refl

-- a name goes from those that are left to the set
pub name_moved : (x left old new all : Bool) → new ≡ (x || old) → ((x || left) || old) ≡ all → (left || new) ≡ all
name_moved x left old new all is before = ap (λ t. left || t) is ∙ or_swap left x old ∙ before

-- an empty set
pub none_left : (left old all : Bool) → left ≡ false → (left || old) ≡ all → old ≡ all
none_left true old all is before = cc
none_left false old all is before = before

pub none_there : (all old : Bool) → old ≡ false → (all || old) ≡ all
none_there true old is = refl
none_there false old is = is

-- ---- the first width counts

pub width_new : (w : ℕ) (a : Bool) (new old : Option ℕ) → new ≡ cond a (Some w) old → (a ≡ true → old ≡ None) → new ≡ or_else old (cond a (Some w) None)
width_new w true new old is none = is ∙ sym (ap (λ o. or_else o (Some w)) (none refl))
width_new w false new None is none = is
width_new w false new (Some u) is none = is

pub width_old : (w u : ℕ) (a : Bool) (old : Option ℕ) → (a ≡ true → (v : ℕ) × (old ≡ Some v)) → old ≡ or_else old (cond a (Some w) None)
width_old w u true None some = let found = some refl in let e = found.1 in cc
width_old w u false None some = refl
width_old w u a (Some v) some = refl

-- ---- repeats

-- where a name repeats, the names do not differ
pub repeat_decides : (names : List (List ℕ)) (n : List ℕ) → first_repeat names ≡ Some n → Decides false (Differ names)
repeat_decides names n is = (λ e. cc, λ differ. let e = (first_repeat_is_first names).none.1 differ in cc)

pub some_repeat : (names : List (List ℕ)) (found : Option (Bor (List ℕ))) → option_copied found ≡ first_repeat names → is_some found ≡ true → Differ names → ⊥
some_repeat names None is some differ = cc
some_repeat names (Some n) is some differ = let e = (first_repeat_is_first names).none.1 differ in cc

pub no_repeat : (names : List (List ℕ)) (found : Option (Bor (List ℕ))) → option_copied found ≡ first_repeat names → is_some found ≡ false → Differ names
no_repeat names None is none = (first_repeat_is_first names).none.0 (sym is)
no_repeat names (Some n) is none = cc
