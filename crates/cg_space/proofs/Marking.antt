-- After enough rounds just what is reached is marked.
use Rattle.std.proofs.Common.{◌≡◌, ◌≢◌, ℕ, zero, suc, ◌+◌, ◌<◌, ◌≤◌, Bool, true, false, cond, List, [], ◌∷◌, ◌++◌, ◌⊎◌, inl, inr, length, get_or, replicate, set, refl, sym, ap, ◌∙◌, subst, arith}
use Rattle.std.proofs.lemmas.Bool.{false≢true}
use Rattle.std.proofs.lemmas.List.{length-replicate, length-set, get_or-set_same, get_or-set_other}
use Rattle.cg_svspec.specs.Printable.{AllOf}
use Rattle.cg_svspec.specs.Names.{Among}
use Rattle.cg_space.specs.Inner.Graph.{IsLink, IsReached, AllWithin, HasNoLoop}
use Rattle.cg_space.specs.Inner.Marks.{count, grow, rank, rounds, set_all}

-- the number is marked
abbrev pub Marked : List Bool → ℕ → Type 0
Marked marks x = get_or marks x false ≡ true

marked_within : (marks : List Bool) (x : ℕ) → Marked marks x → x < length marks
marked_within [] x h = cc
marked_within (m ∷ ms) zero h = omega arith
marked_within (m ∷ ms) (suc x) h = omega (arith, marked_within ms x h)

-- ---- marks are only added

abbrev pub Within : List Bool → List Bool → Type 0
Within marks more = (x : ℕ) → Marked marks x → Marked more x

set_same : (marks : List Bool) (k : ℕ) → k < length marks → Marked (set marks k true) k
set_same marks k h = get_or-set_same marks k true false h

set_keeps_by : (marks : List Bool) (k x : ℕ) → (x ≡ k) ⊎ (x ≢ k) → Marked marks x → Marked (set marks k true) x
set_keeps_by marks k x (inl is) h = subst (λ (y : ℕ). Marked (set marks k true) y) (sym is) (set_same marks k (subst (λ (y : ℕ). y < length marks) is (marked_within marks x h)))
set_keeps_by marks k x (inr other) h = get_or-set_other marks k x true false other ∙ h

pub differ : (x k : ℕ) → (x ≡ k) ⊎ (x ≢ k)
differ zero zero = inl refl
differ zero (suc k) = inr (λ e. omega (arith, e))
differ (suc x) zero = inr (λ e. omega (arith, e))
differ (suc x) (suc k) = elim (differ x k) [ inl is ↦ inl (ap suc is) | inr other ↦ inr (λ e. other (omega (arith, e))) ]

set_keeps : (marks : List Bool) (k : ℕ) → Within marks (set marks k true)
set_keeps marks k x h = set_keeps_by marks k x (differ x k) h

set_all_keeps : (marks : List Bool) (ks : List ℕ) → Within marks (set_all marks ks)
set_all_keeps marks [] x h = h
set_all_keeps marks (k ∷ ks) x h = set_all_keeps (set marks k true) ks x (set_keeps marks k x h)

pub set_all_length : (marks : List Bool) (ks : List ℕ) → length (set_all marks ks) ≡ length marks
set_all_length marks [] = refl
set_all_length marks (k ∷ ks) = set_all_length (set marks k true) ks ∙ length-set marks k true

set_all_marks : (marks : List Bool) (ks : List ℕ) (k : ℕ) → AllOf (λ k. k < length marks) ks → Among k ks → Marked (set_all marks ks) k
set_all_marks marks [] k within among = absurd among
set_all_marks marks (j ∷ ks) k within (inl is) =
    set_all_keeps (set marks j true) ks k (subst (λ (y : ℕ). Marked (set marks j true) y) (sym is) (set_same marks j within.0))
set_all_marks marks (j ∷ ks) k within (inr among) =
    set_all_marks (set marks j true) ks k (subst (λ (n : ℕ). AllOf (λ k. k < n) ks) (sym (length-set marks j true)) within.1) among

-- one of a round
one : List Bool → ℕ → List ℕ → List Bool
one marks x to = cond (get_or marks x false) (set_all marks to) marks

one_keeps_by : (b : Bool) (marks : List Bool) (to : List ℕ) → Within marks (cond b (set_all marks to) marks)
one_keeps_by true marks to x h = set_all_keeps marks to x h
one_keeps_by false marks to x h = h

one_length_by : (b : Bool) (marks : List Bool) (to : List ℕ) → length (cond b (set_all marks to) marks) ≡ length marks
one_length_by true marks to = set_all_length marks to
one_length_by false marks to = refl

pub grow_length : (marks : List Bool) (x : ℕ) (links : List (List ℕ)) → length (grow marks x links) ≡ length marks
grow_length marks x [] = refl
grow_length marks x (to ∷ links) = grow_length (cond (get_or marks x false) (set_all marks to) marks) (suc x) links ∙ one_length_by (get_or marks x false) marks to

grow_keeps : (marks : List Bool) (x : ℕ) (links : List (List ℕ)) → Within marks (grow marks x links)
grow_keeps marks x [] y h = h
grow_keeps marks x (to ∷ links) y h =
    grow_keeps (cond (get_or marks x false) (set_all marks to) marks) (suc x) links y (one_keeps_by (get_or marks x false) marks to y h)

-- where a marked number leads is marked by a round
grow_marks_by : (marks : List Bool) (from : ℕ) (links : List (List ℕ)) (i k : ℕ) → AllOf (AllOf (λ k. k < length marks)) links → Marked marks (from + i)
    → Among k (get_or links i []) → Marked (grow marks from links) k
grow_marks_by marks from [] i k within h among = absurd among
grow_marks_by marks from (to ∷ links) zero k within h among =
    let here : Marked (cond (get_or marks from false) (set_all marks to) marks) k =
    (let e : get_or marks from false ≡ true = subst (λ (n : ℕ). Marked marks n) (omega arith) h in rw e (set_all_marks marks to k within.0 among)) in
    grow_keeps (cond (get_or marks from false) (set_all marks to) marks) (suc from) links k here
grow_marks_by marks from (to ∷ links) (suc i) k within h among =
    let now = cond (get_or marks from false) (set_all marks to) marks in
    grow_marks_by now (suc from) links i k
    (subst (λ (n : ℕ). AllOf (AllOf (λ k. k < n)) links) (sym (one_length_by (get_or marks from false) marks to)) within.1)
    (subst (λ (n : ℕ). Marked now n) (omega arith) (one_keeps_by (get_or marks from false) marks to (from + suc i) h)) among

pub grow_marks : (marks : List Bool) (links : List (List ℕ)) (x k : ℕ) → length marks ≡ length links → AllWithin links → Marked marks x → IsLink links x k
    → Marked (grow marks 0 links) k
grow_marks marks links x k e within h leads =
    grow_marks_by marks 0 links x k (subst (λ (n : ℕ). AllOf (AllOf (λ k. k < n)) links) (sym e) within) (subst (λ (n : ℕ). Marked marks n) (omega arith) h) leads

-- ---- what is marked is reached

-- all that is marked is so
abbrev pub Sound : (ℕ → Type 0) → List Bool → Type 0
Sound P marks = (x : ℕ) → Marked marks x → P x

-- what is so leads to what is so
abbrev pub IsKept : (ℕ → Type 0) → List (List ℕ) → Type 0
IsKept P links = (x k : ℕ) → P x → IsLink links x k → P k

set_sound_by : (P : ℕ → Type 0) (marks : List Bool) (k x : ℕ) → (x ≡ k) ⊎ (x ≢ k) → Sound P marks → P k → Marked (set marks k true) x → P x
set_sound_by P marks k x (inl is) sound here h = subst (λ (y : ℕ). P y) (sym is) here
set_sound_by P marks k x (inr other) sound here h = sound x (sym (get_or-set_other marks k x true false other) ∙ h)

pub set_sound : (P : ℕ → Type 0) (marks : List Bool) (k : ℕ) → Sound P marks → P k → Sound P (set marks k true)
set_sound P marks k sound here x h = set_sound_by P marks k x (differ x k) sound here h

set_all_sound : (P : ℕ → Type 0) (marks : List Bool) (ks : List ℕ) → Sound P marks → ((k : ℕ) → Among k ks → P k) → Sound P (set_all marks ks)
set_all_sound P marks [] sound all = sound
set_all_sound P marks (k ∷ ks) sound all = set_all_sound P (set marks k true) ks (set_sound P marks k sound (all k (inl refl))) (λ j among. all j (inr among))

one_sound_by : (P : ℕ → Type 0) (b : Bool) (marks : List Bool) (ks : List ℕ) → Sound P marks → (b ≡ true → (k : ℕ) → Among k ks → P k) → Sound P (cond b (set_all marks ks) marks)
one_sound_by P true marks ks sound all = set_all_sound P marks ks sound (all refl)
one_sound_by P false marks ks sound all = sound

grow_sound_by : (P : ℕ → Type 0) (all : List (List ℕ)) (marks : List Bool) (x : ℕ) (links : List (List ℕ)) → IsKept P all → Sound P marks
    → ((i k : ℕ) → Among k (get_or links i []) → IsLink all (x + i) k) → Sound P (grow marks x links)
grow_sound_by P all marks x [] kept sound same = sound
grow_sound_by P all marks x (to ∷ links) kept sound same =
    grow_sound_by P all (cond (get_or marks x false) (set_all marks to) marks) (suc x) links kept
    (one_sound_by P (get_or marks x false) marks to sound (λ e k among. kept x k (sound x e) (subst (λ (n : ℕ). IsLink all n k) (omega arith) (same 0 k among))))
    (λ i k among. subst (λ (n : ℕ). IsLink all n k) (omega arith) (same (suc i) k among))

pub grow_sound : (P : ℕ → Type 0) (links : List (List ℕ)) (marks : List Bool) → IsKept P links → Sound P marks → Sound P (grow marks 0 links)
grow_sound P links marks kept sound = grow_sound_by P links marks 0 links kept sound (λ i k among. subst (λ (n : ℕ). IsLink links n k) (omega arith) among)

pub rounds_sound : (P : ℕ → Type 0) (links : List (List ℕ)) (marks : List Bool) (n : ℕ) → IsKept P links → Sound P marks → Sound P (rounds links marks n)
rounds_sound P links marks zero kept sound = sound
rounds_sound P links marks (suc n) kept sound = grow_sound P links (rounds links marks n) kept (rounds_sound P links marks n kept sound)

reaches_then : {links : List (List ℕ)} {x y z : ℕ} → IsReached links x y → IsReached links y z → IsReached links x z
reaches_then IsReached.itself after = after
reaches_then (IsReached.onward k leads on) after = IsReached.onward k leads (reaches_then on after)

pub reaches_is_kept : (links : List (List ℕ)) (from : ℕ) → IsKept (IsReached links from) links
reaches_is_kept links from x k reaches leads = reaches_then reaches (IsReached.onward k leads IsReached.itself)

-- what holds of a number and is kept holds of all that is reached
pub reached_is : {links : List (List ℕ)} {x y : ℕ} (P : ℕ → Type 0) → IsKept P links → P x → IsReached links x y → P y
reached_is P kept here IsReached.itself = here
reached_is P kept here (IsReached.onward k leads on) = reached_is P kept (kept _ k here leads) on

-- ---- counts

count_length : (marks : List Bool) → count marks ≤ length marks
count_length [] = omega arith
count_length (true ∷ ms) = omega (arith, count_length ms)
count_length (false ∷ ms) = omega (arith, count_length ms)

tail_within : (m n : Bool) (ms ns : List Bool) → Within (m ∷ ms) (n ∷ ns) → Within ms ns
tail_within m n ms ns within x h = within (suc x) h

pub count_within : (ms ns : List Bool) → length ms ≡ length ns → Within ms ns → count ms ≤ count ns
count_within [] ns e within = omega arith
count_within (m ∷ ms) [] e within = absurd (omega arith)
count_within (true ∷ ms) (true ∷ ns) e within = omega (arith, count_within ms ns (omega arith) (tail_within true true ms ns within))
count_within (false ∷ ms) (true ∷ ns) e within = omega (arith, count_within ms ns (omega arith) (tail_within false true ms ns within))
count_within (false ∷ ms) (false ∷ ns) e within = count_within ms ns (omega arith) (tail_within false false ms ns within)
count_within (true ∷ ms) (false ∷ ns) e within = absurd (false≢true (within 0 refl))

-- one more is marked, or none
pub strictly_within : (ms ns : List Bool) (x : ℕ) → length ms ≡ length ns → Within ms ns → get_or ms x false ≡ false → Marked ns x → count ms < count ns
strictly_within [] [] x e within h k = absurd (false≢true k)
strictly_within [] (n ∷ ns) x e within h k = absurd (omega arith)
strictly_within (m ∷ ms) [] x e within h k = absurd (omega arith)
strictly_within (false ∷ ms) (true ∷ ns) zero e within h k = omega (arith, count_within ms ns (omega arith) (tail_within false true ms ns within))
strictly_within (true ∷ ms) (n ∷ ns) zero e within h k = absurd (false≢true (sym h))
strictly_within (false ∷ ms) (false ∷ ns) zero e within h k = absurd (false≢true k)
strictly_within (true ∷ ms) (true ∷ ns) (suc x) e within h k = omega (arith, strictly_within ms ns x (omega arith) (tail_within true true ms ns within) h k)
strictly_within (false ∷ ms) (true ∷ ns) (suc x) e within h k = omega (arith, strictly_within ms ns x (omega arith) (tail_within false true ms ns within) h k)
strictly_within (false ∷ ms) (false ∷ ns) (suc x) e within h k = strictly_within ms ns x (omega arith) (tail_within false false ms ns within) h k
strictly_within (true ∷ ms) (false ∷ ns) (suc x) e within h k = absurd (false≢true (within 0 refl))

-- ---- enough rounds

marked_or_not : (marks : List Bool) (x : ℕ) (b : Bool) → get_or marks x false ≡ b → Marked marks x ⊎ (get_or marks x false ≡ false)
marked_or_not marks x true e = inl e
marked_or_not marks x false e = inr e

rounds_length : (links : List (List ℕ)) (marks : List Bool) (n : ℕ) → length (rounds links marks n) ≡ length marks
rounds_length links marks zero = refl
rounds_length links marks (suc n) = grow_length (rounds links marks n) 0 links ∙ rounds_length links marks n

rounds_keep : (links : List (List ℕ)) (marks : List Bool) (n : ℕ) → Within marks (rounds links marks n)
rounds_keep links marks zero x h = h
rounds_keep links marks (suc n) x h = grow_keeps (rounds links marks n) 0 links x (rounds_keep links marks n x h)

-- where a round marks no more, the marks lead to marks
closed_by_count : (links : List (List ℕ)) (marks : List Bool) → length marks ≡ length links → AllWithin links → count (grow marks 0 links) ≤ count marks
    → IsKept (Marked marks) links
closed_by_count links marks e within few x k h leads =
    elim (marked_or_not marks k (get_or marks k false) refl) [
      | inl is ↦ is
      | inr none ↦
          let more = strictly_within marks (grow marks 0 links) k (sym (grow_length marks 0 links)) (grow_keeps marks 0 links) none (grow_marks marks links x k e within h leads) in
          absurd (omega (arith, more, few))
    ]

cases_order : (m n : ℕ) → (m < n) ⊎ (n ≤ m)
cases_order m zero = inr (omega arith)
cases_order zero (suc n) = inl (omega arith)
cases_order (suc m) (suc n) = elim (cases_order m n) [ inl less ↦ inl (omega (arith, less)) | inr more ↦ inr (omega (arith, more)) ]

-- a round over marks that lead to marks marks no more
still_closed : (links : List (List ℕ)) (marks : List Bool) → IsKept (Marked marks) links → IsKept (Marked (grow marks 0 links)) links
still_closed links marks kept x k h leads =
    grow_keeps marks 0 links k (kept x k (grow_sound (Marked marks) links marks kept (λ y m. m) x h) leads)

closed_or_many : (links : List (List ℕ)) (marks : List Bool) (n : ℕ) → length marks ≡ length links → AllWithin links → 0 < count marks
    → IsKept (Marked (rounds links marks n)) links ⊎ (n < count (rounds links marks n))
closed_or_many links marks zero e within some = inr some
closed_or_many links marks (suc n) e within some =
    elim (closed_or_many links marks n e within some) [
      | inl closed ↦ inl (still_closed links (rounds links marks n) closed)
      | inr many ↦ elim (cases_order (count (rounds links marks n)) (count (grow (rounds links marks n) 0 links))) [
        | inl more ↦ inr (omega (arith, more, many))
        | inr few ↦ inl (still_closed links (rounds links marks n) (closed_by_count links (rounds links marks n) (rounds_length links marks n ∙ e) within few))
      ]
    ]

-- after as many rounds as there are numbers
pub closed : (links : List (List ℕ)) (marks : List Bool) → length marks ≡ length links → AllWithin links → 0 < count marks
    → IsKept (Marked (rounds links marks (length links))) links
closed links marks e within some =
    elim (closed_or_many links marks (length links) e within some) [
      | inl is ↦ is
      | inr many ↦ absurd (omega (arith, many, count_length (rounds links marks (length links)), rounds_length links marks (length links), e))
    ]

some_marked : (marks : List Bool) (x : ℕ) → Marked marks x → 0 < count marks
some_marked [] x h = absurd (false≢true h)
some_marked (true ∷ ms) x h = omega arith
some_marked (false ∷ ms) zero h = absurd (false≢true h)
some_marked (false ∷ ms) (suc x) h = some_marked ms x h

none_marked : (n x : ℕ) → get_or (replicate n false) x false ≡ false
none_marked zero x = refl
none_marked (suc n) zero = refl
none_marked (suc n) (suc x) = none_marked n x

-- the marks of which the first round takes one
abbrev pub begun : ℕ → ℕ → List Bool
begun n from = set (replicate n false) from true

begun_length : (n from : ℕ) → length (begun n from) ≡ n
begun_length n from = length-set (replicate n false) from true ∙ length-replicate n false

begun_marked : (n from : ℕ) → from < n → Marked (begun n from) from
begun_marked n from h = set_same (replicate n false) from (subst (λ (m : ℕ). from < m) (sym (length-replicate n false)) h)

-- just what is reached is marked
pub marked_is_reached : (links : List (List ℕ)) (from x : ℕ) → Marked (rounds links (begun (length links) from) (length links)) x → IsReached links from x
marked_is_reached links from x h =
    rounds_sound (IsReached links from) links (begun (length links) from) (length links) (reaches_is_kept links from)
    (set_sound (IsReached links from) (replicate (length links) false) from (λ y m. absurd (false≢true (sym (none_marked (length links) y) ∙ m))) IsReached.itself) x h

pub reached_is_marked : (links : List (List ℕ)) (from x : ℕ) → from < length links → AllWithin links → IsReached links from x
    → Marked (rounds links (begun (length links) from) (length links)) x
reached_is_marked links from x h within reaches =
    let first = begun_marked (length links) from h in
    reached_is (Marked (rounds links (begun (length links) from) (length links)))
    (closed links (begun (length links) from) (begun_length (length links) from) within (some_marked (begun (length links) from) from first))
    (rounds_keep links (begun (length links) from) (length links) from first) reaches

pub all_rounds_length : (links : List (List ℕ)) (from : ℕ) → length (rounds links (begun (length links) from) (length links)) ≡ length links
all_rounds_length links from = rounds_length links (begun (length links) from) (length links) ∙ begun_length (length links) from

-- ---- ranks

abbrev all_marks : List (List ℕ) → ℕ → List Bool
all_marks links from = rounds links (begun (length links) from) (length links)

not_marked : (marks : List Bool) (x : ℕ) (b : Bool) → get_or marks x false ≡ b → ¬ Marked marks x → get_or marks x false ≡ false
not_marked marks x true e none = absurd (none e)
not_marked marks x false e none = e

leads_within : (n : ℕ) (links : List (List ℕ)) (x k : ℕ) → AllOf (AllOf (λ k. k < n)) links → IsLink links x k → k < n
leads_within n [] x k within leads = absurd leads
leads_within n (to ∷ links) zero k within leads = among_within to within.0 leads where
  among_within : (ks : List ℕ) → AllOf (λ k. k < n) ks → Among k ks → k < n
  among_within [] all among = absurd among
  among_within (j ∷ ks) all (inl is) = subst (λ (i : ℕ). i < n) (sym is) all.0
  among_within (j ∷ ks) all (inr among) = among_within ks all.1 among
leads_within n (to ∷ links) (suc x) k within leads = leads_within n links x k within.1 leads

-- where there is no circle, what a number leads to reaches less
pub rank_falls : (links : List (List ℕ)) (x k : ℕ) → AllWithin links → HasNoLoop links → x < length links → IsLink links x k → rank links k < rank links x
rank_falls links x k within free h leads =
    let kh : k < length links = leads_within (length links) links x k within leads in
    strictly_within (all_marks links k) (all_marks links x) x (all_rounds_length links k ∙ sym (all_rounds_length links x))
    (λ y m. reached_is_marked links x y h within (IsReached.onward k leads (marked_is_reached links k y m)))
    (not_marked (all_marks links k) x (get_or (all_marks links k) x false) refl (λ m. free x k leads (marked_is_reached links k x m)))
    (reached_is_marked links x x h within IsReached.itself)

pub rank_within : (links : List (List ℕ)) (x : ℕ) → rank links x ≤ length links
rank_within links x = omega (arith, count_length (all_marks links x), all_rounds_length links x)

pub ranks_more : (xs : List ℕ) (y : ℕ) (f : ℕ → ℕ) (new : List ℕ) → new ≡ xs ++ y ∷ [] → y ≡ f (length xs) → ((x : ℕ) → x < length xs → get_or xs x 0 ≡ f x)
    → (x : ℕ) → x < suc (length xs) → get_or new x 0 ≡ f x
ranks_more xs y f new e is all x h = elim (cases_order x (length xs)) [
  | inl below ↦ rw e (get_or-append_left xs (y ∷ []) x 0 below ∙ all x below)
  | inr above ↦ let last : x ≡ length xs = omega arith in rw (e, last) (get_or_last xs y ∙ is)
] where
  get_or-append_left : (us bs : List ℕ) (i d : ℕ) → i < length us → get_or (us ++ bs) i d ≡ get_or us i d
  get_or-append_left [] bs i d h = absurd (omega arith)
  get_or-append_left (a ∷ us) bs zero d h = refl
  get_or-append_left (a ∷ us) bs (suc i) d h = get_or-append_left us bs i d (omega arith)

  get_or_last : (us : List ℕ) (b : ℕ) → get_or (us ++ b ∷ []) (length us) 0 ≡ b
  get_or_last [] b = refl
  get_or_last (a ∷ us) b = get_or_last us b
