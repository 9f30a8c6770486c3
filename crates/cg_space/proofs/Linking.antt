-- Which crossbars stand in which.
use Rattle.std.proofs.Common.{◌≡◌, ◌↔◌, ℕ, zero, suc, ◌+◌, ◌<◌, ◌≤◌, ◌⊎◌, inl, inr, List, [], ◌∷◌, ◌++◌, Option, Some, None, length, get_or, slice_get, refl, sym, ap, ◌∙◌, subst, arith}
use Rattle.std.proofs.lemmas.Bool.{cases_lt}
use Rattle.std.proofs.lemmas.Option.{slice_get_within, slice_get-get_or}
use Rattle.cg_svspec.specs.Names.{Among}
use Rattle.cg_svspec.specs.Printable.{AllOf}
use Rattle.cg_desc.specs.Ends.{CrossbarIs}
use Rattle.cg_desc.specs.Merged.{design_of}
use Rattle.cg_desc.specs.Reach.{Leads, Nests, NoCircle}
use Rattle.cg_desc.specs.declared.crossbar.XbarDesc.{XbarDesc}
use Rattle.cg_desc.specs.declared.top.MergedTop.{MergedTop}
use Rattle.cg_space.specs.Inner.Graph.{AllWithin, HasNoLoop, IsLink, IsReached}
use Rattle.cg_space.specs.Inner.Sound.{HasNode, IsNestedAt, IsSound}
use Rattle.cg_space.specs.Inner.Tables.{AreLinks, those}
use Rattle.cg_space.proofs.Growing.{either_part, left_part, right_part}
use Rattle.cg_space.proofs.Sound.{one_there, xbar_within}

-- ---- the nodes of one crossbar

place_there : {X : Type 0} (xs : List X) (i : ℕ) → i < length xs → (x : X) × (slice_get xs i ≡ Some x)
place_there [] i less = absurd (omega (arith, less))
place_there (y ∷ ys) zero less = (y, refl)
place_there (y ∷ ys) (suc i) less = place_there ys i (omega (arith, less))

-- of a crossbar that is read
pub nodes_there : (m : MergedTop) (x n : ℕ) (d : XbarDesc) → x < length m.xbars → (n < length (get_or m.xbars x d).nodes) ↔ HasNode m x n
nodes_there m x n d h =
    let is : slice_get m.xbars x ≡ Some (get_or m.xbars x d) = slice_get-get_or m.xbars x d h in (
      λ less. let at = place_there (get_or m.xbars x d).nodes n less in (at.0, record { crossbar = get_or m.xbars x d; crossbar_is = is; is = at.1 }),
      λ has. slice_get_within (get_or m.xbars x d).nodes n has.0 (subst (λ (c : XbarDesc). slice_get c.nodes n ≡ Some has.0) (one_there m.xbars x has.1.crossbar (get_or m.xbars x d) has.1.crossbar_is is) has.1.is),
    )

pub count_there : (m : MergedTop) (x : ℕ) (d other : XbarDesc) → x < length m.xbars → CrossbarIs (design_of m) x other
    → length (get_or m.xbars x d).nodes ≡ length other.nodes
count_there m x d other h is =
    ap (λ (c : XbarDesc). length c.nodes) (one_there m.xbars x (get_or m.xbars x d) other (slice_get-get_or m.xbars x d h) is)

-- one of the first k nodes is a device that stands for crossbar y
abbrev pub NestsBelow : MergedTop → ℕ → ℕ → ℕ → Type 0
NestsBelow m x k y = (n : ℕ) × (n < k) × IsNestedAt m x n y

in_those : (found : Option ℕ) (y : ℕ) → Among y (those found) ↔ (found ≡ Some y)
in_those None y = (λ among. absurd among, λ is. absurd cc)
in_those (Some z) y = (λ among. elim among [ inl is ↦ ap Some (sym is) | inr none ↦ absurd none ], λ is. let e : z ≡ y = cc in inl (sym e))

pub nests_start : (m : MergedTop) (x y : ℕ) → Among y [] ↔ NestsBelow m x 0 y
nests_start m x y = (λ among. absurd among, λ below. absurd (omega (arith, below.1)))

pub nests_more : (m : MergedTop) (x k : ℕ) (old new : List ℕ) (found : Option ℕ) → ((y : ℕ) → (found ≡ Some y) ↔ IsNestedAt m x k y) → new ≡ old ++ those found
    → ((y : ℕ) → Among y old ↔ NestsBelow m x k y) → (y : ℕ) → Among y new ↔ NestsBelow m x (k + 1) y
nests_more m x k old new found exact is all y = (
  λ among. elim (either_part old (those found) y (rw is at among)) [
    | inl l ↦ let below = (all y).0 l in (below.0, omega (arith, below.1), below.2)
    | inr r ↦ (k, omega arith, (exact y).0 ((in_those found y).0 r))
  ],
  λ below. rw is (by_case below (cases_lt below.0 k)),
) where
  by_case : (below : NestsBelow m x (k + 1) y) → (below.0 < k) ⊎ (k ≤ below.0) → Among y (old ++ those found)
  by_case below (inl less) = left_part old (those found) y ((all y).1 (below.0, less, below.2))
  by_case below (inr more) =
      let same : below.0 ≡ k = omega (arith, more, below.1) in
      right_part old (those found) y ((in_those found y).1 ((exact y).1 (subst (λ n. IsNestedAt m x n y) same below.2)))

pub nests_all : (m : MergedTop) (x k : ℕ) (inner : List ℕ) → ((n : ℕ) → (n < k) ↔ HasNode m x n) → ((y : ℕ) → Among y inner ↔ NestsBelow m x k y)
    → (y : ℕ) → Among y inner ↔ Nests m x y
nests_all m x k inner nodes all y = (
  λ among. let below = (all y).0 among in record {
    number = below.0;
    device = below.2.0.0;
    is = below.2.0.1;
    is_device = below.2.0.2;
    stands = below.2.1;
  },
  λ nests. (all y).1 (nests.number, (nodes nests.number).1 (nests.device, nests.is), ((nests.device, nests.is, nests.is_device), nests.stands)),
)

-- ---- all crossbars

-- the first x crossbars have their links
pub record LinksBelow (m : MergedTop) (x : ℕ) (links : List (List ℕ)) : Type 0 where
  pub count : length links ≡ x
  pub each : (z y : ℕ) → z < x → IsLink links z y ↔ Nests m z y

get_left : (xs : List (List ℕ)) (ys : List (List ℕ)) (i : ℕ) → i < length xs → get_or (xs ++ ys) i [] ≡ get_or xs i []
get_left [] ys i less = absurd (omega (arith, less))
get_left (x ∷ xs) ys zero less = refl
get_left (x ∷ xs) ys (suc i) less = get_left xs ys i (omega (arith, less))

get_last : (xs : List (List ℕ)) (x : List ℕ) → get_or (xs ++ x ∷ []) (length xs) [] ≡ x
get_last [] x = refl
get_last (y ∷ ys) x = get_last ys x

one_longer : (xs : List (List ℕ)) (x : List ℕ) → length (xs ++ x ∷ []) ≡ length xs + 1
one_longer [] x = refl
one_longer (y ∷ ys) x = omega (arith, one_longer ys x)

pub links_more : (m : MergedTop) (x : ℕ) (old new : List (List ℕ)) (inner : List ℕ) → ((y : ℕ) → Among y inner ↔ Nests m x y) → new ≡ old ++ inner ∷ []
    → LinksBelow m x old → LinksBelow m (x + 1) new
links_more m x old new inner exact is below = record {
  count = rw is (one_longer old inner ∙ ap (λ n. n + 1) below.count);
  each = λ z y less. rw is (by_case z y less (cases_lt z x));
} where
  by_case : (z y : ℕ) → z < x + 1 → (z < x) ⊎ (x ≤ z) → IsLink (old ++ inner ∷ []) z y ↔ Nests m z y
  by_case z y under (inl less) = rw (get_left old (inner ∷ []) z (omega (arith, less, below.count))) (below.each z y less)
  by_case z y under (inr more) =
      let same : z ≡ length old = omega (arith, more, under, below.count) in
      let here : z ≡ x = omega (arith, more, under) in
      let got : get_or (old ++ inner ∷ []) z [] ≡ inner = ap (λ n. get_or (old ++ inner ∷ []) n []) same ∙ get_last old inner in
      rw got (subst (λ n. Among y inner ↔ Nests m n y) (sym here) (exact y))

past_end : (xs : List (List ℕ)) (i y : ℕ) → length xs ≤ i → ¬ IsLink xs i y
past_end [] i y above among = among
past_end (x ∷ xs) zero y above among = absurd (omega (arith, above))
past_end (x ∷ xs) (suc i) y above among = past_end xs i y (omega (arith, above)) among

pub links_all : (m : MergedTop) (links : List (List ℕ)) → LinksBelow m (length m.xbars) links → AreLinks m links
links_all m links below = record { count = below.count; each = λ x y. by_case x y (cases_lt x (length m.xbars)) } where
  by_case : (x y : ℕ) → (x < length m.xbars) ⊎ (length m.xbars ≤ x) → IsLink links x y ↔ Nests m x y
  by_case x y (inl less) = below.each x y less
  by_case x y (inr more) = (
    λ link. absurd (past_end links x y (omega (arith, more, below.count)) link),
    λ nests. absurd (omega (arith, more, xbar_within m x nests.number (nests.device, nests.is))),
  )

-- ---- what the links say

-- a crossbar that stands in another is there
pub nested_there : (m : MergedTop) (x y : ℕ) → IsSound m → Nests m x y → y < length m.xbars
nested_there m x y sound nests =
    let inner = sound.inner x nests.number y ((nests.device, nests.is, nests.is_device), nests.stands) in
    xbar_within m y inner.0 (inner.1, inner.2.is)

all_within_by : (n : ℕ) (links : List (List ℕ)) → ((x y : ℕ) → IsLink links x y → y < n) → AllOf (AllOf (λ k. k < n)) links
all_within_by n [] h = tt
all_within_by n (to ∷ links) h = (each to (λ y among. h 0 y among), all_within_by n links (λ x y link. h (suc x) y link)) where
  each : (ks : List ℕ) → ((y : ℕ) → Among y ks → y < n) → AllOf (λ k. k < n) ks
  each [] h = tt
  each (k ∷ ks) h = (h k (inl refl), each ks (λ y among. h y (inr among)))

pub links_within : (m : MergedTop) (links : List (List ℕ)) → IsSound m → AreLinks m links → AllWithin links
links_within m links sound are = all_within_by (length links) links (λ x y link. omega (arith, are.count, nested_there m x y sound ((are.each x y).0 link)))

pub reached_leads : (m : MergedTop) (links : List (List ℕ)) (x y : ℕ) → AreLinks m links → IsReached links x y → Leads m x y
reached_leads m links x y are IsReached.itself = Leads.itself
reached_leads m links x y are (IsReached.onward k link on) = Leads.onward k ((are.each x k).0 link) (reached_leads m links k y are on)

pub leads_reached : (m : MergedTop) (links : List (List ℕ)) (x y : ℕ) → AreLinks m links → Leads m x y → IsReached links x y
leads_reached m links x y are Leads.itself = IsReached.itself
leads_reached m links x y are (Leads.onward k nests on) = IsReached.onward k ((are.each x k).1 nests) (leads_reached m links k y are on)

pub no_loop : (m : MergedTop) (links : List (List ℕ)) → AreLinks m links → NoCircle m → HasNoLoop links
no_loop m links are free x k link reached = free x k ((are.each x k).0 link) (reached_leads m links k x are reached)
