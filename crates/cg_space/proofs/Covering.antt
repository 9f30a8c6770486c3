-- What is kept of two lists of ranges, one after the other.
use Rattle.std.proofs.Common.{◌≡◌, ℕ, ◌↔◌, Bool, true, false, ◌&&◌, ◌||◌, not, IsTrue, Result, Ok, Err, OnOk, List, [], ◌∷◌, ◌++◌, ◌⊎◌, inl, inr, refl, sym, ◌∙◌}
use Rattle.std.proofs.lemmas.Bool.{false≢true}
use Rattle.cg_svspec.specs.Printable.{AllOf}
use Rattle.cg_desc.specs.Ranges.{IsRange}
use Rattle.cg_desc.specs.declared.crossbar.Range.{Range}
use Rattle.cg_space.specs.Inner.Regions.{Covers, IsRegion, Shares}
use Rattle.cg_space.specs.Inner.Coverages.{HasBad, HaveAddress, IsCoverage, Meet, MeetWithin}
use Rattle.cg_space.specs.declared.region.Cell.{Cell}
use Rattle.cg_space.specs.declared.coverage.Coverage.{Coverage}

in_either : (xs ys : List Range) (a : ℕ) → HaveAddress (xs ++ ys) a → HaveAddress xs a ⊎ HaveAddress ys a
in_either [] ys a h = inr h
in_either (x ∷ xs) ys a (inl h) = inl (inl h)
in_either (x ∷ xs) ys a (inr h) = elim (in_either xs ys a h) [ inl l ↦ inl (inr l) | inr r ↦ inr r ]

in_left : (xs ys : List Range) (a : ℕ) → HaveAddress xs a → HaveAddress (xs ++ ys) a
in_left [] ys a h = absurd h
in_left (x ∷ xs) ys a (inl h) = inl h
in_left (x ∷ xs) ys a (inr h) = inr (in_left xs ys a h)

in_right : (xs ys : List Range) (a : ℕ) → HaveAddress ys a → HaveAddress (xs ++ ys) a
in_right [] ys a h = h
in_right (x ∷ xs) ys a h = inr (in_right xs ys a h)

bad_either : (xs ys : List Range) → HasBad (xs ++ ys) → HasBad xs ⊎ HasBad ys
bad_either [] ys h = inr h
bad_either (x ∷ xs) ys (inl h) = inl (inl h)
bad_either (x ∷ xs) ys (inr h) = elim (bad_either xs ys h) [ inl l ↦ inl (inr l) | inr r ↦ inr r ]

bad_left : (xs ys : List Range) → HasBad xs → HasBad (xs ++ ys)
bad_left [] ys h = absurd h
bad_left (x ∷ xs) ys (inl h) = inl h
bad_left (x ∷ xs) ys (inr h) = inr (bad_left xs ys h)

bad_right : (xs ys : List Range) → HasBad ys → HasBad (xs ++ ys)
bad_right [] ys h = h
bad_right (x ∷ xs) ys h = inr (bad_right xs ys h)

-- ---- sharing within two lists

abbrev Three : List Range → List Range → Type 0
Three xs ys = MeetWithin xs ⊎ (MeetWithin ys ⊎ Meet xs ys)

within_head : (x : Range) (xs ys : List Range) → Meet (x ∷ []) (xs ++ ys) → Three (x ∷ xs) ys
within_head x xs ys m =
    elim m.left [
      | inl here ↦ elim (in_either xs ys m.address m.right) [
        | inl l ↦ inl (inl (record { address = m.address; left = m.left; right = l }))
        | inr r ↦ inr (inr (record { address = m.address; left = inl here; right = r }))
      ]
      | inr none ↦ absurd none
    ]

within_more : (x : Range) (xs ys : List Range) → Three xs ys → Three (x ∷ xs) ys
within_more x xs ys (inl l) = inl (inr l)
within_more x xs ys (inr (inl r)) = inr (inl r)
within_more x xs ys (inr (inr m)) = inr (inr (record { address = m.address; left = inr m.left; right = m.right }))

within_either : (xs ys : List Range) → MeetWithin (xs ++ ys) → Three xs ys
within_either [] ys h = inr (inl h)
within_either (x ∷ xs) ys (inl m) = within_head x xs ys m
within_either (x ∷ xs) ys (inr h) = within_more x xs ys (within_either xs ys h)

within_left : (xs ys : List Range) → MeetWithin xs → MeetWithin (xs ++ ys)
within_left [] ys h = absurd h
within_left (x ∷ xs) ys (inl m) = inl (record { address = m.address; left = m.left; right = in_left xs ys m.address m.right })
within_left (x ∷ xs) ys (inr h) = inr (within_left xs ys h)

within_right : (xs ys : List Range) → MeetWithin ys → MeetWithin (xs ++ ys)
within_right [] ys h = h
within_right (x ∷ xs) ys h = inr (within_right xs ys h)

within_both : (xs ys : List Range) (a : ℕ) → HaveAddress xs a → HaveAddress ys a → MeetWithin (xs ++ ys)
within_both [] ys a l r = absurd l
within_both (x ∷ xs) ys a (inl here) r = inl (record { address = a; left = inl here; right = in_right xs ys a r })
within_both (x ∷ xs) ys a (inr there) r = inr (within_both xs ys a there r)

-- ---- tests

or_either : (a b : Bool) → (a || b) ≡ true → (a ≡ true) ⊎ (b ≡ true)
or_either true b h = inl refl
or_either false b h = inr h

or_left : (a b : Bool) → a ≡ true → (a || b) ≡ true
or_left true b h = refl
or_left false b h = absurd (false≢true h)

or_right : (a b : Bool) → b ≡ true → (a || b) ≡ true
or_right true b h = refl
or_right false b h = h

and_both : (a b : Bool) → (a && b) ≡ true → (a ≡ true) × (b ≡ true)
and_both true b h = (refl, h)
and_both false b h = absurd (false≢true h)

both_and : (a b : Bool) → a ≡ true → b ≡ true → (a && b) ≡ true
both_and true b h k = k
both_and false b h k = absurd (false≢true h)

empty_left : (xs ys : List Range) → xs ++ ys ≡ [] → xs ≡ []
empty_left [] ys h = refl
empty_left (x ∷ xs) ys h = absurd (cc)

empty_both : (xs ys : List Range) → xs ≡ [] → ys ≡ [] → xs ++ ys ≡ []
empty_both xs ys h k = rw h k

-- what both have, by addresses
meet_of : (rs ss : List Range) (s t : Coverage) → IsCoverage rs s → IsCoverage ss t → Shares s.cells t.cells → Meet rs ss
meet_of rs ss s t p q shares = record {
  address = shares.address;
  left = (p.covers shares.address).0 shares.in_left;
  right = (q.covers shares.address).0 shares.in_right;
}

shares_of : (rs ss : List Range) (s t : Coverage) → IsCoverage rs s → IsCoverage ss t → Meet rs ss → Shares s.cells t.cells
shares_of rs ss s t p q meet = record {
  address = meet.address;
  in_left = (p.covers meet.address).1 meet.left;
  in_right = (q.covers meet.address).1 meet.right;
}

neither : (a b : Bool) → (a || b) ≡ false → (a ≡ false) × (b ≡ false)
neither true b h = absurd (false≢true (sym h))
neither false b h = (refl, h)

all_both : (xs ys : List Range) → AllOf IsRange xs → AllOf IsRange ys → AllOf IsRange (xs ++ ys)
all_both [] ys p q = q
all_both (x ∷ xs) ys p q = (p.0, all_both xs ys p.1 q)

-- one list behind another
pub coverage_add : (rs ss : List Range) (s t : Coverage) (cells : List Cell) (shared : Bool) (ranges : List Range) → IsCoverage rs s → IsCoverage ss t → IsRegion cells
    → ((a : ℕ) → Covers cells a ↔ (Covers s.cells a ⊎ Covers t.cells a)) → (IsTrue shared ↔ Shares s.cells t.cells)
    → (not ((s.is_bad || t.is_bad) || ((s.is_shared || t.is_shared) || shared)) ≡ true → ranges ≡ s.ranges ++ t.ranges)
    → IsCoverage (rs ++ ss) (record { cells = cells; is_empty = s.is_empty && t.is_empty; is_bad = s.is_bad || t.is_bad; is_shared = (s.is_shared || t.is_shared) || shared; ranges = ranges })
coverage_add rs ss s t cells shared ranges p q region covers told appends = record {
  region = region;
  covers = λ a. (
    λ h. elim ((covers a).0 h) [ inl l ↦ in_left rs ss a ((p.covers a).0 l) | inr r ↦ in_right rs ss a ((q.covers a).0 r) ],
    λ h. (covers a).1 (elim (in_either rs ss a h) [ inl l ↦ inl ((p.covers a).1 l) | inr r ↦ inr ((q.covers a).1 r) ]),
  );
  empty = (
    λ h. let both = and_both s.is_empty t.is_empty h in empty_both rs ss (p.empty.0 both.0) (q.empty.0 both.1),
    λ h. let left = empty_left rs ss h in both_and s.is_empty t.is_empty (p.empty.1 left) (q.empty.1 (rw left at h)),
  );
  bad = (
    λ h. elim (or_either s.is_bad t.is_bad h) [ inl l ↦ bad_left rs ss (p.bad.0 l) | inr r ↦ bad_right rs ss (q.bad.0 r) ],
    λ h. elim (bad_either rs ss h) [ inl l ↦ or_left s.is_bad t.is_bad (p.bad.1 l) | inr r ↦ or_right s.is_bad t.is_bad (q.bad.1 r) ],
  );
  good = λ h. let both = neither s.is_bad t.is_bad h in all_both rs ss (p.good both.0) (q.good both.1);
  shared = (
    λ h. elim (or_either (s.is_shared || t.is_shared) shared h) [
      | inl one ↦ elim (or_either s.is_shared t.is_shared one) [
        | inl l ↦ within_left rs ss (p.shared.0 l)
        | inr r ↦ within_right rs ss (q.shared.0 r)
      ]
      | inr two ↦ let m = meet_of rs ss s t p q (told.0 two) in within_both rs ss m.address m.left m.right
    ],
    λ h. elim (within_either rs ss h) [
      | inl l ↦ or_left (s.is_shared || t.is_shared) shared (or_left s.is_shared t.is_shared (p.shared.1 l))
      | inr (inl r) ↦ or_left (s.is_shared || t.is_shared) shared (or_right s.is_shared t.is_shared (q.shared.1 r))
      | inr (inr m) ↦ or_right (s.is_shared || t.is_shared) shared (told.1 (shares_of rs ss s t p q m))
    ],
  );
  listed = λ good apart.
      let goods = neither s.is_bad t.is_bad good in
      let aparts = neither (s.is_shared || t.is_shared) shared apart in
      let both = neither s.is_shared t.is_shared aparts.0 in
      let wanted : not ((s.is_bad || t.is_bad) || ((s.is_shared || t.is_shared) || shared)) ≡ true = rw (good, apart) refl in
      let left : s.ranges ≡ rs = p.listed goods.0 both.0 in
      let right : t.ranges ≡ ss = q.listed goods.1 both.1 in
      appends wanted ∙ rw (left, right) refl;
}

pub on_ok : {A E P Q : Type 0} (r : Result A E) → OnOk r P → (P → Q) → OnOk r Q
on_ok (Ok a) p f = f p
on_ok (Err e) p f = p
