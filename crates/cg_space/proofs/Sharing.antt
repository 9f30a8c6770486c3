-- The extents of ranges, one sweep over them, and the first range that shares an address with an earlier one.
use Rattle.std.proofs.Common.{◌≡◌, ℕ, zero, suc, ◌+◌, ◌<◌, ◌≤◌, eqb, Bool, cond, get_or, List, [], ◌∷◌, ◌++◌, ◌⊎◌, inl, inr, Some, None, length, slice_get, refl, sym, ap, ◌∙◌, subst, arith}
use Rattle.std.specs.List.Sorted.{IsPermutation}
use Rattle.std.proofs.lemmas.Bool.{cases_lt, cases_order, eq-eqb, ne_eqb}
use Rattle.std.proofs.lemmas.List.Sorted.{IsPermutation-sym, sum_by-IsPermutation}
use Rattle.std.proofs.lemmas.List.Sums.{sum_by-append, sum_by_push}
use Rattle.std.proofs.lemmas.Option.{get_or_from_slice_get, slice_get-get_or, slice_get_within}
use Rattle.cg_svspec.specs.Names.{Among}
use Rattle.cg_desc.specs.Ranges.{RangeHolds}
use Rattle.cg_desc.specs.declared.crossbar.Range.{Range}
use Rattle.cg_space.specs.Inner.Extents.{AreExtents, HaveAddresses, IsExtent, Meet, Rise, count_at}
use Rattle.cg_space.specs.Shared.{IsFirstShared, SharesAt}
use Rattle.cg_space.specs.declared.shared.Extent.{Extent}
use Rattle.cg_space.proofs.Growing.{either_part, left_part, right_part}
use Rattle.cg_space.proofs.HostRows.{among_moved}
use Rattle.cg_space.proofs.Looking.{among_at, at_among, below_next}

-- ---- how many are at a place

abbrev one_if : ℕ → Extent → ℕ
one_if p x = cond (eqb x.place p) 1 0

counted : (p : ℕ) (x : Extent) (xs : List Extent) → count_at p (x ∷ xs) ≡ one_if p x + count_at p xs
counted p x xs = omega (arith, sum_by-append (one_if p) (x ∷ []) xs)

pushed : (p : ℕ) (xs : List Extent) (x : Extent) → count_at p (xs ++ x ∷ []) ≡ count_at p xs + one_if p x
pushed p xs x = sum_by_push (one_if p) xs x

abbrev chosen : Bool → ℕ
chosen b = cond b 1 0

there : (p : ℕ) (x : Extent) → x.place ≡ p → one_if p x ≡ 1
there p x is = ap chosen (eq-eqb x.place p is)

elsewhere : (p : ℕ) (x : Extent) → (x.place ≡ p → ⊥) → one_if p x ≡ 0
elsewhere p x not = ap chosen (ne_eqb x.place p not)

one_counted : (p : ℕ) (xs : List Extent) (i : ℕ) (e : Extent) → slice_get xs i ≡ Some e → e.place ≡ p → 1 ≤ count_at p xs
one_counted p [] i e at is = absurd cc
one_counted p (x ∷ xs) zero e at is = let same : x ≡ e = cc in omega (arith, counted p x xs, there p x (ap (λ (y : Extent). y.place) same ∙ is))
one_counted p (x ∷ xs) (suc i) e at is = omega (arith, counted p x xs, one_counted p xs i e at is)

two_counted : (p : ℕ) (xs : List Extent) (i j : ℕ) (e f : Extent) → i < j → slice_get xs i ≡ Some e → slice_get xs j ≡ Some f → e.place ≡ p → f.place ≡ p → 2 ≤ count_at p xs
two_counted p [] i j e f less at_e at_f e_is f_is = absurd cc
two_counted p (x ∷ xs) i zero e f less at_e at_f e_is f_is = absurd (omega (arith, less))
two_counted p (x ∷ xs) zero (suc j) e f less at_e at_f e_is f_is =
    let same : x ≡ e = cc in omega (arith, counted p x xs, there p x (ap (λ (y : Extent). y.place) same ∙ e_is), one_counted p xs j f at_f f_is)
two_counted p (x ∷ xs) (suc i) (suc j) e f less at_e at_f e_is f_is =
    omega (arith, counted p x xs, two_counted p xs i j e f (omega (arith, less)) at_e at_f e_is f_is)

-- ---- the extents of the first k ranges

pub record Collected (ranges : List Range) (k : ℕ) (extents : List Extent) : Type 0 where
  pub each : (e : Extent) → Among e extents → IsExtent ranges e
  pub all : (place : ℕ) (range : Range) → place < k → slice_get ranges place ≡ Some range → 0 < range.size → (e : Extent) × Among e extents × (e.place ≡ place)
  pub once : (place : ℕ) → count_at place extents ≤ 1
  pub later : (place : ℕ) → k ≤ place → count_at place extents ≡ 0

pub collected_none : (ranges : List Range) → Collected ranges 0 []
collected_none ranges = record {
  each = λ e none. absurd none;
  all = λ place range less. absurd (omega (arith, less));
  once = λ place. omega arith;
  later = λ place above. refl;
}

pub extent_at : (ranges : List Range) (k : ℕ) (d : Range) (x : Extent) → k < length ranges → 0 < (get_or ranges k d).size → x.place ≡ k → x.first ≡ (get_or ranges k d).base
    → x.end ≡ (get_or ranges k d).base + (get_or ranges k d).size → IsExtent ranges x
extent_at ranges k d x less some place first end = record {
  range = get_or ranges k d;
  range_is = subst (λ i. slice_get ranges i ≡ Some (get_or ranges k d)) (sym place) (slice_get-get_or ranges k d less);
  first = first;
  end = end;
  some = omega (arith, first, end, some);
}

pub collected_push : (ranges : List Range) (k : ℕ) (old new : List Extent) (x : Extent) → IsExtent ranges x → x.place ≡ k → new ≡ old ++ x ∷ [] → Collected ranges k old → Collected ranges (k + 1) new
collected_push ranges k old new x is at grown before = subst (λ (es : List Extent). Collected ranges (k + 1) es) (sym grown) (record {
  each = λ e among. elim (either_part old (x ∷ []) e among) [ inl l ↦ before.each e l | inr r ↦ last e r ];
  all = λ place range less there some. elim (below_next place k less) [
    | inl below ↦ let found = before.all place range below there some in (found.0, left_part old (x ∷ []) found.0 found.1, found.2)
    | inr same ↦ (x, right_part old (x ∷ []) x (inl refl), at ∙ sym same)
  ];
  once = λ place. one place (cases_order place k);
  later = λ place above. omega (arith, pushed place old x, before.later place (omega (arith, above)), elsewhere place x (λ same. omega (arith, same, at, above)));
}) where
  last : (e : Extent) → Among e (x ∷ []) → IsExtent ranges e
  last e (inl same) = subst (λ (y : Extent). IsExtent ranges y) (sym same) is
  last e (inr none) = absurd none

  one : (place : ℕ) → (place ≡ k) ⊎ ((place < k) ⊎ (k < place)) → count_at place (old ++ x ∷ []) ≤ 1
  one place (inl same) = omega (arith, pushed place old x, before.later place (omega (arith, same)), there place x (at ∙ sym same))
  one place (inr (inl less)) = omega (arith, pushed place old x, before.once place, elsewhere place x (λ same. omega (arith, same, at, less)))
  one place (inr (inr more)) = omega (arith, pushed place old x, before.once place, elsewhere place x (λ same. omega (arith, same, at, more)))

pub collected_skip : (ranges : List Range) (k : ℕ) (d : Range) (old new : List Extent) → k < length ranges → (get_or ranges k d).size ≤ 0 → new ≡ old → Collected ranges k old
    → Collected ranges (k + 1) new
collected_skip ranges k d old new less_k none same_list before = subst (λ (es : List Extent). Collected ranges (k + 1) es) (sym same_list) (record {
  each = before.each;
  all = λ place other less there some. elim (below_next place k less) [
    | inl below ↦ before.all place other below there some
    | inr same ↦ absurd (omega (arith, none, some, ap (λ (r : Range). r.size) (get_or_from_slice_get ranges place other d there), ap (λ i. (get_or ranges i d).size) same))
  ];
  once = before.once;
  later = λ place above. before.later place (omega (arith, above));
})

-- all of them, and then in another order
pub all_collected : (ranges : List Range) (k : ℕ) (extents sorted : List Extent) → length ranges ≤ k → Collected ranges k extents → IsPermutation extents sorted → AreExtents ranges sorted
all_collected ranges k extents sorted all before moves = record {
  each = λ e among. before.each e (among_moved sorted extents e (IsPermutation-sym extents sorted moves) among);
  all = λ place range there some.
      let found = before.all place range (omega (arith, all, slice_get_within ranges place range there)) there some in
      (found.0, among_moved extents sorted found.0 moves found.1, found.2);
  once = λ place. omega (arith, before.once place, sum_by-IsPermutation (one_if place) extents sorted moves);
}

pub have_addresses : (ranges : List Range) (extents : List Extent) → AreExtents ranges extents → HaveAddresses extents
have_addresses ranges extents are i e at = (are.each e (at_among extents i e at)).some

-- ---- the sweep

-- It has passed the first k extents, of which no two share an address, and `end` is the last end of those that count.
pub record Swept (extents : List Extent) (count k end : ℕ) : Type 0 where
  pub apart : (i j : ℕ) (e f : Extent) → i < j → j < k → slice_get extents i ≡ Some e → slice_get extents j ≡ Some f → e.place < count → f.place < count → e.end ≤ f.first
  pub ends : (i : ℕ) (e : Extent) → i < k → slice_get extents i ≡ Some e → e.place < count → e.end ≤ end
  pub held : (end ≡ 0) ⊎ ((i : ℕ) × (i < k) × (e : Extent) × (slice_get extents i ≡ Some e) × (e.place < count) × (e.end ≡ end))

pub swept_none : (extents : List Extent) (count : ℕ) → Swept extents count 0 0
swept_none extents count = record {
  apart = λ i j e f order less. absurd (omega (arith, less));
  ends = λ i e less. absurd (omega (arith, less));
  held = inl refl;
}

same_extent : (extents : List Extent) (i k : ℕ) (e x : Extent) → i ≡ k → slice_get extents i ≡ Some e → slice_get extents k ≡ Some x → e ≡ x
same_extent extents i k e x same at_e at_x = cc

pub swept_skip : (extents : List Extent) (count k end : ℕ) (x : Extent) → slice_get extents k ≡ Some x → count ≤ x.place → Swept extents count k end → Swept extents count (k + 1) end
swept_skip extents count k end x at above before = record {
  apart = λ i j e f order less at_e at_f e_counts f_counts. elim (below_next j k less) [
    | inl below ↦ before.apart i j e f order below at_e at_f e_counts f_counts
    | inr same ↦ absurd (not f (same_extent extents j k f x same at_f at) f_counts)
  ];
  ends = λ i e less at_e counts. elim (below_next i k less) [
    | inl below ↦ before.ends i e below at_e counts
    | inr same ↦ absurd (not e (same_extent extents i k e x same at_e at) counts)
  ];
  held = elim before.held [ inl none ↦ inl none | inr h ↦ inr (h.0, omega (arith, h.1), h.2, h.3, h.4, h.5) ];
} where
  not : (e : Extent) → e ≡ x → e.place < count → ⊥
  not e same counts = omega (arith, counts, above, ap (λ (y : Extent). y.place) same)

pub swept_on : (extents : List Extent) (count k end : ℕ) (x : Extent) → slice_get extents k ≡ Some x → x.place < count → end ≤ x.first → x.first < x.end → Swept extents count k end
    → Swept extents count (k + 1) x.end
swept_on extents count k end x at counts behind some before = record {
  apart = λ i j e f order less at_e at_f e_counts f_counts. elim (below_next j k less) [
    | inl below ↦ before.apart i j e f order below at_e at_f e_counts f_counts
    | inr same ↦ omega (
      arith,
      before.ends i e (omega (arith, order, same)) at_e e_counts,
      behind,
      ap (λ (y : Extent). y.first) (same_extent extents j k f x same at_f at),
    )
  ];
  ends = λ i e less at_e e_counts. elim (below_next i k less) [
    | inl below ↦ omega (arith, before.ends i e below at_e e_counts, behind, some)
    | inr same ↦ omega (arith, ap (λ (y : Extent). y.end) (same_extent extents i k e x same at_e at))
  ];
  held = inr (k, omega arith, x, at, counts, refl);
}

pub swept_meets : (extents : List Extent) (count k end : ℕ) (x : Extent) → slice_get extents k ≡ Some x → x.place < count → x.first < end → Swept extents count k end → Meet extents count
swept_meets extents count k end x at counts meets before = by before.held where
  by : (end ≡ 0) ⊎ ((i : ℕ) × (i < k) × (e : Extent) × (slice_get extents i ≡ Some e) × (e.place < count) × (e.end ≡ end)) → Meet extents count
  by (inl none) = absurd (omega (arith, none, meets))
  by (inr h) = record {
    i = h.0;
    j = k;
    order = h.1;
    before = h.2;
    behind = x;
    before_is = h.3;
    behind_is = at;
    before_counts = h.4;
    behind_counts = counts;
    meets = omega (arith, meets, h.5);
  }

pub swept_all : (extents : List Extent) (count k end : ℕ) → length extents ≤ k → Swept extents count k end → ¬ Meet extents count
swept_all extents count k end all swept m =
    omega (
      arith,
      m.meets,
      swept.apart m.i m.j m.before m.behind m.order (omega (arith, all, slice_get_within extents m.j m.behind m.behind_is)) m.before_is m.behind_is m.before_counts
          m.behind_counts,
    )

-- ---- of extents, and of ranges

rising : (extents : List Extent) (i j : ℕ) (e f : Extent) → Rise extents → i < j → slice_get extents i ≡ Some e → slice_get extents j ≡ Some f → e.first ≤ f.first
rising extents i j e f rise order at_e at_f =
    omega (
      arith,
      rise i j e (omega (arith, order)) (slice_get_within extents j f at_f),
      ap (λ (y : Extent). y.first) (get_or_from_slice_get extents i e e at_e),
      ap (λ (y : Extent). y.first) (get_or_from_slice_get extents j f e at_f),
    )

holds : (ranges : List Range) (e : Extent) (a : ℕ) → (is : IsExtent ranges e) → e.first ≤ a → a < e.end → RangeHolds is.range a
holds ranges e a is from below = (omega (arith, is.first, from), omega (arith, is.end, below))

pub shared_of : (ranges : List Range) (extents : List Extent) (count : ℕ) → AreExtents ranges extents → Rise extents → Meet extents count → (j : ℕ) × (j < count) × SharesAt ranges j
shared_of ranges extents count are rise m = by (cases_order m.before.place m.behind.place) where
  left : IsExtent ranges m.before
  left = are.each m.before (at_among extents m.i m.before m.before_is)

  right : IsExtent ranges m.behind
  right = are.each m.behind (at_among extents m.j m.behind m.behind_is)

  left_holds : RangeHolds left.range m.behind.first
  left_holds = holds ranges m.before m.behind.first left (rising extents m.i m.j m.before m.behind rise m.order m.before_is m.behind_is) m.meets

  right_holds : RangeHolds right.range m.behind.first
  right_holds = holds ranges m.behind m.behind.first right (omega arith) right.some

  by : (m.before.place ≡ m.behind.place) ⊎ ((m.before.place < m.behind.place) ⊎ (m.behind.place < m.before.place)) → (j : ℕ) × (j < count) × SharesAt ranges j
  by (inl same) = absurd (omega (
    arith,
    are.once m.behind.place,
    two_counted m.behind.place extents m.i m.j m.before m.behind m.order m.before_is m.behind_is same refl,
  ))
  by (inr (inl less)) = (
    m.behind.place,
    m.behind_counts,
    record {
      i = m.before.place;
      order = less;
      earlier = left.range;
      later = right.range;
      earlier_is = left.range_is;
      later_is = right.range_is;
      address = m.behind.first;
      earlier_holds = left_holds;
      later_holds = right_holds;
    },
  )
  by (inr (inr more)) = (
    m.before.place,
    m.before_counts,
    record {
      i = m.behind.place;
      order = more;
      earlier = right.range;
      later = left.range;
      earlier_is = right.range_is;
      later_is = left.range_is;
      address = m.behind.first;
      earlier_holds = right_holds;
      later_holds = left_holds;
    },
  )

-- an extent of the range at a place
record Found (ranges : List Range) (extents : List Extent) (place : ℕ) (range : Range) : Type 0 where
  at : ℕ
  extent : Extent
  extent_is : slice_get extents at ≡ Some extent
  place_is : extent.place ≡ place
  first : extent.first ≡ range.base
  end : extent.end ≡ range.base + range.size

of_place : (ranges : List Range) (place : ℕ) (range : Range) (e : Extent) → (is : IsExtent ranges e) → e.place ≡ place → slice_get ranges place ≡ Some range → is.range ≡ range
of_place ranges place range e is same there = let given = is.range_is in cc

found : (ranges : List Range) (extents : List Extent) (place : ℕ) (range : Range) (a : ℕ) → AreExtents ranges extents → slice_get ranges place ≡ Some range → RangeHolds range a
    → Found ranges extents place range
found ranges extents place range a are there holds =
    let it = are.all place range there (omega (arith, holds.0, holds.1)) in
    let at = among_at extents it.0 it.1 in
    let is = are.each it.0 it.1 in
    let same : is.range ≡ range = of_place ranges place range it.0 is it.2 there in
    record {
      at = at.0;
      extent = it.0;
      extent_is = at.1;
      place_is = it.2;
      first = is.first ∙ ap (λ (r : Range). r.base) same;
      end = is.end ∙ ap (λ (r : Range). r.base + r.size) same;
    }

pub meet_of : (ranges : List Range) (extents : List Extent) (count j : ℕ) → AreExtents ranges extents → j < count → SharesAt ranges j → Meet extents count
meet_of ranges extents count j are less s = by (cases_order left.at right.at) where
  left : Found ranges extents s.i s.earlier
  left = found ranges extents s.i s.earlier s.address are s.earlier_is s.earlier_holds

  right : Found ranges extents j s.later
  right = found ranges extents j s.later s.address are s.later_is s.later_holds

  by : (left.at ≡ right.at) ⊎ ((left.at < right.at) ⊎ (right.at < left.at)) → Meet extents count
  by (inl same) = absurd (omega (
    arith,
    s.order,
    left.place_is,
    right.place_is,
    ap (λ (y : Extent). y.place) (same_extent extents left.at right.at left.extent right.extent same left.extent_is right.extent_is),
  ))
  by (inr (inl order)) = record {
    i = left.at;
    j = right.at;
    order = order;
    before = left.extent;
    behind = right.extent;
    before_is = left.extent_is;
    behind_is = right.extent_is;
    before_counts = omega (arith, left.place_is, s.order, less);
    behind_counts = omega (arith, right.place_is, less);
    meets = omega (arith, right.first, s.later_holds.0, left.end, s.earlier_holds.1);
  }
  by (inr (inr order)) = record {
    i = right.at;
    j = left.at;
    order = order;
    before = right.extent;
    behind = left.extent;
    before_is = right.extent_is;
    behind_is = left.extent_is;
    before_counts = omega (arith, right.place_is, less);
    behind_counts = omega (arith, left.place_is, s.order, less);
    meets = omega (arith, left.first, s.earlier_holds.0, right.end, s.later_holds.1);
  }

-- ---- the search for the least place

-- the first `high` places have two ranges that share an address, and the first `low` have none
pub record Between (extents : List Extent) (low high : ℕ) : Type 0 where
  pub order : low < high
  pub below : ¬ Meet extents low
  pub within : Meet extents high

pub none_meet : (extents : List Extent) → ¬ Meet extents 0
none_meet extents m = omega (arith, m.before_counts)

pub first_at : (ranges : List Range) (extents : List Extent) (low high : ℕ) → AreExtents ranges extents → Rise extents → high ≤ low + 1 → Between extents low high → IsFirstShared ranges (Some low)
first_at ranges extents low high are rise close b = (by (shared_of ranges extents high are rise b.within), λ k less s. b.below (meet_of ranges extents low k are less s)) where
  by : (j : ℕ) × (j < high) × SharesAt ranges j → SharesAt ranges low
  by f = elim (cases_lt f.0 low) [
    | inl less ↦ absurd (b.below (meet_of ranges extents low f.0 are less f.2))
    | inr more ↦ let same : f.0 ≡ low = omega (arith, more, f.1, close) in subst (λ k. SharesAt ranges k) same f.2
  ]

pub none_at_all : (ranges : List Range) (extents : List Extent) (count : ℕ) → AreExtents ranges extents → length ranges ≤ count → ¬ Meet extents count → IsFirstShared ranges None
none_at_all ranges extents count are all none j s = none (meet_of ranges extents count j are (omega (arith, all, slice_get_within ranges j s.later s.later_is)) s)
