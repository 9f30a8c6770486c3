-- Members with different keys are put into a JSON object in either order.
use Rattle.std.proofs.Common.{◌≡◌, ℕ, List, refl, sym, ap, ◌∙◌, Ordering, Less, Equal, Greater, false, is_eq, bytes_eq, true≢false}
use Rattle.std.specs.Ordering.{nat_cmp, ordering_reverse}
use Rattle.std.specs.Cmp.Lexicographic.{slice_cmp}
use Rattle.std.proofs.lemmas.Cmp.{nat_list_cmp_total}
use Rattle.std.proofs.lemmas.Map.Text.{is_eq-slice_cmp}
use Rattle.std.proofs.lemmas.Slice.Eq.{bytes_eq-Decides}
use Rattle.serde_json.specs.Data.{Data, Members, no_members, member, put}

abbrev cmp : List ℕ → List ℕ → Ordering
cmp k l = slice_cmp nat_cmp k l

-- texts that tie are the same
tied : (k l : List ℕ) → cmp k l ≡ Equal → k ≡ l
tied k l e = (bytes_eq-Decides k l).0 (sym (is_eq-slice_cmp k l) ∙ ap is_eq e)

-- the order turned
turned : (k l : List ℕ) (o : Ordering) → cmp k l ≡ o → cmp l k ≡ ordering_reverse o
turned k l o e = nat_list_cmp_total.antisymm l k ∙ ap ordering_reverse e

-- the key k is below the key l: three keys in order
module _ (k l m : List ℕ) (d e f : Data) (ms : Members) (below : cmp k l ≡ Less) where
  -- both go on behind m, or one of them stops there
  behind : (o : Ordering) → cmp k m ≡ o → cmp l m ≡ Greater → put k d (put l e ms) ≡ put l e (put k d ms) →
      put k d (put l e (member m f ms)) ≡ put l e (put k d (member m f ms))
  behind Less km lm more = rw (lm, km, turned k l Less below, lm) refl
  behind Equal km lm more = rw (lm, km, lm) refl
  behind Greater km lm more = rw (lm, km, lm) (ap (member m f) more)

  -- both stand before m, or l stands there
  at_member : (o : Ordering) → cmp l m ≡ o → put k d (put l e ms) ≡ put l e (put k d ms) →
      put k d (put l e (member m f ms)) ≡ put l e (put k d (member m f ms))
  at_member Less lm more =
      let km = nat_list_cmp_total.trans k l m below lm in
      rw (lm, below, km, turned k l Less below, lm) refl
  at_member Equal lm more =
      let km : cmp k m ≡ Less = ap (cmp k) (sym (tied l m lm)) ∙ below in
      rw (lm, km, turned k l Less below, lm) refl
  at_member Greater lm more = behind (cmp k m) refl lm more

-- the lower key goes in before or behind the higher one
in_order : (k l : List ℕ) (d e : Data) (ms : Members) → cmp k l ≡ Less → put k d (put l e ms) ≡ put l e (put k d ms)
in_order k l d e no_members below = rw (below, turned k l Less below) refl
in_order k l d e (member m f ms) below = at_member k l m d e f ms below (cmp l m) refl (in_order k l d e ms below)

either_order : (o : Ordering) (k l : List ℕ) (d e : Data) (ms : Members) → cmp k l ≡ o → bytes_eq k l ≡ false → put k d (put l e ms) ≡ put l e (put k d ms)
either_order Less k l d e ms is other = in_order k l d e ms is
either_order Equal k l d e ms is other = absurd (true≢false (ap is_eq (sym is) ∙ (is_eq-slice_cmp k l ∙ other)))
either_order Greater k l d e ms is other = sym (in_order l k e d ms (turned k l Greater is))

-- two members whose keys differ
pub put-put : (k l : List ℕ) (d e : Data) (ms : Members) → bytes_eq k l ≡ false → put k d (put l e ms) ≡ put l e (put k d ms)
put-put k l d e ms other = either_order (cmp k l) k l d e ms refl other
