-- The width that is computed is the width that an expression has.
use Rattle.std.proofs.Common.{◌≡◌, ℕ, suc, ◌+◌, ◌-◌, ◌^◌, ◌<◌, ◌≤◌, Bool, true, false, ◌&&◌, cond, eqb, leb, ltb, inl, inr, Option, Some, None, List, [], ◌∷◌, refl, sym, ap, subst, ◌∙◌}
use Rattle.std.specs.Bool.{Decides}
use Rattle.std.specs.Str.{bytes_eq}
use Rattle.std.proofs.lemmas.Bool.{ltb-true, leb-true, eqb-true, lt-ltb, le-leb, eq-eqb}
use Rattle.cg_svspec.specs.Tree.{Expression, net, cut, lit, cat, inv, any, and, or, equal, pick, Expressions, none, more}
use Rattle.cg_svspec.specs.Names.{Among}
use Rattle.cg_svspec.specs.WellFormed.{Net, Declares, HasWidth, PartsHaveWidth, Uses, UsesAll}
use Rattle.cg_svspec.proofs.NamesLemmas.{same_name, name_is_itself}
use Rattle.cg_svspec.proofs.Widths.{OneWidth}
use Rattle.cg_svcheck.specs.Widths.{width_at, cut_width, one_bit, agreed, picked, added, bounded, width_of, sum_of_widths, uses_only, parts_use_only}
use Rattle.cg_svcheck.proofs.Deciding.{decides_true, decides_both, decides_three}

-- ---- nets

-- the answers are just the declared widths
pub record Agrees (e : List ℕ → Option ℕ) (nets : List Net) : Type 0 where
  pub sound : (n : List ℕ) (w : ℕ) → e n ≡ Some w → Declares nets n w
  pub complete : (n : List ℕ) (w : ℕ) → Declares nets n w → e n ≡ Some w

-- the first net of the name is one
first_declares : (nets : List Net) (n : List ℕ) (w : ℕ) → width_at nets n ≡ Some w → Declares nets n w
first_declares [] n w is = cc
first_declares (x ∷ xs) n w is = by (first_declares xs n w) (bytes_eq x.name n) refl is where
  by : (width_at xs n ≡ Some w → Declares xs n w) → (b : Bool) → bytes_eq x.name n ≡ b → cond b (Some x.width) (width_at xs n) ≡ Some w → Declares (x ∷ xs) n w
  by later true same is = let wide : x.width ≡ w = cc in inl (same_name x.name n same, wide)
  by later false other is = inr (later is)

-- a declared net has a first
declared_found : (nets : List Net) (n : List ℕ) (w : ℕ) → Declares nets n w → (u : ℕ) × (width_at nets n ≡ Some u)
declared_found [] n w d = absurd d
declared_found (x ∷ xs) n w d = by (declared_found xs n w) (bytes_eq x.name n) refl d where
  by : (Declares xs n w → (u : ℕ) × (width_at xs n ≡ Some u)) → (b : Bool) → bytes_eq x.name n ≡ b → Declares (x ∷ xs) n w → (u : ℕ) × (cond b (Some x.width) (width_at xs n) ≡ Some u)
  by later true same d = (x.width, refl)
  by later false other (inl e) = let same = name_is_itself n in let also : bytes_eq x.name n ≡ true = rw (e.0) same in cc
  by later false other (inr d) = later d

-- where no net has two widths, the first net has the declared one
pub agrees : (nets : List Net) → OneWidth nets → Agrees (width_at nets) nets
agrees nets one = record {
  sound = first_declares nets;
  complete = λ n w d. let found = declared_found nets n w d in found.1 ∙ ap Some (one n found.0 w (first_declares nets n found.0 found.1) d);
}

-- ---- widths of parts

cut_sound : (m l w : ℕ) (o : Option ℕ) → cut_width m l o ≡ Some w → (u : ℕ) × (o ≡ Some u) × (1 < u) × (m < u) × (l ≤ m) × (w ≡ suc m - l)
cut_sound m l w None is = cc
cut_sound m l w (Some u) is = by (ltb 1 u) (ltb m u) (leb l m) refl refl refl is where
  by : (a b c : Bool) → ltb 1 u ≡ a → ltb m u ≡ b → leb l m ≡ c → cond (a && (b && c)) (Some (suc m - l)) None ≡ Some w
      → (z : ℕ) × (Some u ≡ Some z) × (1 < z) × (m < z) × (l ≤ m) × (w ≡ suc m - l)
  by true true true p q r is = (u, refl, ltb-true 1 u p, ltb-true m u q, leb-true l m r, (let e : suc m - l ≡ w = cc in sym e))
  by true true false p q r is = cc
  by true false c p q r is = cc
  by false b c p q r is = cc

cut_complete : (m l w u : ℕ) → 1 < u → m < u → l ≤ m → w ≡ suc m - l → cut_width m l (Some u) ≡ Some w
cut_complete m l w u p q r is = rw (lt-ltb 1 u p, lt-ltb m u q, le-leb l m r) (ap Some (sym is))

one_sound : (w : ℕ) (o : Option ℕ) → one_bit o ≡ Some w → (w ≡ 1) × ((u : ℕ) × (o ≡ Some u))
one_sound w None is = cc
one_sound w (Some u) is = let e : 1 ≡ w = cc in (sym e, (u, refl))

agreed_sound : (p q : Option ℕ) (w : ℕ) → agreed p q ≡ Some w → (p ≡ Some w) × (q ≡ Some w)
agreed_sound None q w is = cc
agreed_sound (Some a) None w is = cc
agreed_sound (Some a) (Some b) w is = by (eqb a b) refl is where
  by : (t : Bool) → eqb a b ≡ t → cond t (Some a) None ≡ Some w → (Some a ≡ Some w) × (Some b ≡ Some w)
  by true same is = (is, ap Some (sym (eqb-true a b same)) ∙ is)
  by false other is = cc

agreed_complete : (w : ℕ) → agreed (Some w) (Some w) ≡ Some w
agreed_complete w = rw (eq-eqb w w refl) refl

picked_sound : (p q : Option ℕ) (w : ℕ) → picked p q ≡ Some w → (p ≡ Some 1) × (q ≡ Some w)
picked_sound None q w is = cc
picked_sound (Some a) q w is = by (eqb a 1) refl is where
  by : (t : Bool) → eqb a 1 ≡ t → cond t q None ≡ Some w → (Some a ≡ Some 1) × (q ≡ Some w)
  by true same is = (ap Some (eqb-true a 1 same), is)
  by false other is = cc

added_sound : (p q : Option ℕ) (w : ℕ) → added p q ≡ Some w → (a : ℕ) × (b : ℕ) × (p ≡ Some a) × (q ≡ Some b) × (w ≡ a + b)
added_sound None q w is = cc
added_sound (Some a) None w is = cc
added_sound (Some a) (Some b) w is = let e : a + b ≡ w = cc in (a, b, refl, refl, sym e)

bounded_sound : (o : Option ℕ) (w : ℕ) → bounded o ≡ Some w → (w < 2 ^ 32) × (o ≡ Some w)
bounded_sound None w is = cc
bounded_sound (Some u) w is = by (ltb u (2 ^ 32)) refl is where
  by : (t : Bool) → ltb u (2 ^ 32) ≡ t → cond t (Some u) None ≡ Some w → (w < 2 ^ 32) × (Some u ≡ Some w)
  by true below is = let e : u ≡ w = cc in (subst (λ z. z < 2 ^ 32) e (ltb-true u (2 ^ 32) below), is)
  by false other is = cc

bounded_complete : (w : ℕ) → w < 2 ^ 32 → bounded (Some w) ≡ Some w
bounded_complete w below = rw (lt-ltb w (2 ^ 32) below) refl

-- ---- expressions

mutual
  pub width_sound : (e : List ℕ → Option ℕ) (nets : List Net) → Agrees e nets → (x : Expression) (w : ℕ) → width_of e x ≡ Some w → HasWidth nets x w
  width_sound e nets agree (net n) w is = agree.sound n w is
  width_sound e nets agree (cut n m l) w is = let c = cut_sound m l w (e n) is in (c.0, agree.sound n c.0 c.1, c.2, c.3, c.4, c.5)
  width_sound e nets agree (lit k v) w is = let same : k ≡ w = cc in sym same
  width_sound e nets agree (cat xs) w is = let b = bounded_sound (sum_of_widths e xs) w is in (b.0, sum_sound e nets agree xs w b.1)
  width_sound e nets agree (inv x) w is = width_sound e nets agree x w is
  width_sound e nets agree (any x) w is = let o = one_sound w (width_of e x) is in (o.0, (o.1.0, width_sound e nets agree x o.1.0 o.1.1))
  width_sound e nets agree (and x y) w is =
      let both = agreed_sound (width_of e x) (width_of e y) w is in (width_sound e nets agree x w both.0, width_sound e nets agree y w both.1)
  width_sound e nets agree (or x y) w is =
      let both = agreed_sound (width_of e x) (width_of e y) w is in (width_sound e nets agree x w both.0, width_sound e nets agree y w both.1)
  width_sound e nets agree (equal x y) w is =
      let o = one_sound w (agreed (width_of e x) (width_of e y)) is in
      let both = agreed_sound (width_of e x) (width_of e y) o.1.0 o.1.1 in
      (o.0, (o.1.0, width_sound e nets agree x o.1.0 both.0, width_sound e nets agree y o.1.0 both.1))
  width_sound e nets agree (pick c x y) w is =
      let chosen = picked_sound (width_of e c) (agreed (width_of e x) (width_of e y)) w is in
      let both = agreed_sound (width_of e x) (width_of e y) w chosen.1 in
      (width_sound e nets agree c 1 chosen.0, width_sound e nets agree x w both.0, width_sound e nets agree y w both.1)

  sum_sound : (e : List ℕ → Option ℕ) (nets : List Net) → Agrees e nets → (xs : Expressions) (w : ℕ) → sum_of_widths e xs ≡ Some w → PartsHaveWidth nets xs w
  sum_sound e nets agree none w is = let same : 0 ≡ w = cc in sym same
  sum_sound e nets agree (more x xs) w is =
      let s = added_sound (width_of e x) (sum_of_widths e xs) w is in
      (s.0, s.1, width_sound e nets agree x s.0 s.2, sum_sound e nets agree xs s.1 s.3, s.4)

mutual
  pub width_complete : (e : List ℕ → Option ℕ) (nets : List Net) → Agrees e nets → (x : Expression) (w : ℕ) → HasWidth nets x w → width_of e x ≡ Some w
  width_complete e nets agree (net n) w h = agree.complete n w h
  width_complete e nets agree (cut n m l) w h = ap (cut_width m l) (agree.complete n h.0 h.1) ∙ cut_complete m l w h.0 h.2 h.3 h.4 h.5
  width_complete e nets agree (lit k v) w h = ap Some (sym h)
  width_complete e nets agree (cat xs) w h = ap bounded (sum_complete e nets agree xs w h.1) ∙ bounded_complete w h.0
  width_complete e nets agree (inv x) w h = width_complete e nets agree x w h
  width_complete e nets agree (any x) w h = ap one_bit (width_complete e nets agree x h.1.0 h.1.1) ∙ ap Some (sym h.0)
  width_complete e nets agree (and x y) w h = rw (width_complete e nets agree x w h.0, width_complete e nets agree y w h.1) (agreed_complete w)
  width_complete e nets agree (or x y) w h = rw (width_complete e nets agree x w h.0, width_complete e nets agree y w h.1) (agreed_complete w)
  width_complete e nets agree (equal x y) w h =
      rw (width_complete e nets agree x h.1.0 h.1.1, width_complete e nets agree y h.1.0 h.1.2) (ap one_bit (agreed_complete h.1.0) ∙ ap Some (sym h.0))
  width_complete e nets agree (pick c x y) w h =
      rw (width_complete e nets agree c 1 h.0, width_complete e nets agree x w h.1, width_complete e nets agree y w h.2) (agreed_complete w)

  sum_complete : (e : List ℕ → Option ℕ) (nets : List Net) → Agrees e nets → (xs : Expressions) (w : ℕ) → PartsHaveWidth nets xs w → sum_of_widths e xs ≡ Some w
  sum_complete e nets agree none w h = ap Some (sym h)
  sum_complete e nets agree (more x xs) w h =
      rw (width_complete e nets agree x h.0 h.2, sum_complete e nets agree xs h.1 h.3) (ap Some (sym h.4))

-- ---- used nets

-- the test tells which nets are known
abbrev pub Tells : (List ℕ → Bool) → List (List ℕ) → Type 0
Tells k known = (n : List ℕ) → Decides (k n) (Among n known)

mutual
  pub uses_decides : (k : List ℕ → Bool) (known : List (List ℕ)) → Tells k known → (x : Expression) → Decides (uses_only k x) (Uses known x)
  uses_decides k known tells (net n) = tells n
  uses_decides k known tells (cut n m l) = tells n
  uses_decides k known tells (lit w v) = decides_true tt
  uses_decides k known tells (cat xs) = parts_use_decides k known tells xs
  uses_decides k known tells (inv x) = uses_decides k known tells x
  uses_decides k known tells (any x) = uses_decides k known tells x
  uses_decides k known tells (and x y) = decides_both (uses_decides k known tells x) (uses_decides k known tells y)
  uses_decides k known tells (or x y) = decides_both (uses_decides k known tells x) (uses_decides k known tells y)
  uses_decides k known tells (equal x y) = decides_both (uses_decides k known tells x) (uses_decides k known tells y)
  uses_decides k known tells (pick c x y) = decides_three (uses_decides k known tells c) (uses_decides k known tells x) (uses_decides k known tells y)

  parts_use_decides : (k : List ℕ → Bool) (known : List (List ℕ)) → Tells k known → (xs : Expressions) → Decides (parts_use_only k xs) (UsesAll known xs)
  parts_use_decides k known tells none = decides_true tt
  parts_use_decides k known tells (more x xs) = decides_both (uses_decides k known tells x) (parts_use_decides k known tells xs)
