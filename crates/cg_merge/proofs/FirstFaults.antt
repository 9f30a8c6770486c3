-- The first fault of several files is the earliest of each one's first.
use Rattle.std.proofs.Common.{◌≡◌, ◌+◌, ◌<◌, ◌≤◌, ◌⊎◌, ℕ, Bool, true, false, length, Option, Some, None, inl, inr, refl, sym, ap, subst, ◌∙◌, arith}
use Rattle.std.specs.Ordering.{is_gt, ordering_reverse}
use Rattle.std.specs.declared.cmp.Ordering.{Ordering}
use Rattle.std.specs.declared.cmp.Ordering.TheVariants.{Less, Equal, Greater}
use Rattle.std.proofs.lemmas.Bool.{cases_lt, false≢true}
use Rattle.std.proofs.lemmas.Cmp.{upto}
use Rattle.std.proofs.lemmas.Option.{slice_get_within}
use Rattle.cg_desc.specs.Ends.{CrossbarIs}
use Rattle.cg_desc.specs.Faults.{Before, fault_cmp}
use Rattle.cg_desc.specs.Top.{Design}
use Rattle.cg_desc.specs.declared.crossbar.XbarDesc.{XbarDesc}
use Rattle.cg_desc.specs.declared.fault.Fault.{Fault}
use Rattle.cg_desc.proofs.FaultOrder.{before_transitive, fault_cmp-Less, fault_cmp_total}
use Rattle.cg_desc.proofs.Numbered.{same_item}
use Rattle.cg_finding.specs.Finding.{Finding, in_file}
use Rattle.cg_finding.specs.Told.{TellsFirst}
use Rattle.cg_finding.proofs.Firsts.{first_of_is_first}
use Rattle.cg_finding.proofs.Told.{none_broken}
use Rattle.cg_merge.specs.Faults.{KeepsEarlier, TellsFault, fault_of}
use Rattle.cg_merge.specs.Violations.{BreaksCrossbar, BreaksTop, Violates}

-- ---- the order

-- not before is not after, seen from the other
greater_less : (a b : Ordering) → a ≡ ordering_reverse b → is_gt a ≡ true → b ≡ Less
greater_less a Less e h = refl
greater_less a Equal e h = absurd (false≢true (sym (ap is_gt e) ∙ h))
greater_less a Greater e h = absurd (false≢true (sym (ap is_gt e) ∙ h))

not_after : (f g : Fault) → ¬ Before g f → is_gt (fault_cmp f g) ≡ false
not_after f g none = by (is_gt (fault_cmp f g)) refl where
  by : (b : Bool) → is_gt (fault_cmp f g) ≡ b → b ≡ false
  by true is = absurd (none ((fault_cmp-Less g f).0 (greater_less (fault_cmp f g) (fault_cmp g f) (fault_cmp_total.antisymm f g) is)))
  by false is = refl

less_greater : (a b : Ordering) → a ≡ ordering_reverse b → b ≡ Less → is_gt a ≡ true
less_greater a Less e h = ap is_gt e
less_greater a Equal e h = cc
less_greater a Greater e h = cc

is_after : (f g : Fault) → Before g f → is_gt (fault_cmp f g) ≡ true
is_after f g before = less_greater (fault_cmp f g) (fault_cmp g f) (fault_cmp_total.antisymm f g) ((fault_cmp-Less g f).1 before)

-- what is not before one that is not before a third is not before the third
not_before_trans : (f g h : Fault) → ¬ Before g f → ¬ Before h g → ¬ Before h f
not_before_trans f g h no_gf no_hg before =
    false≢true (sym (upto fault_cmp_total f g h (not_after f g no_gf) (not_after g h no_hg)) ∙ is_after f h before)

-- ---- the first of two

pub tells_both : (V W : Fault → Type 0) (a b kept : Option Fault) → KeepsEarlier a b kept → TellsFault a V → TellsFault b W → TellsFault kept (λ f. V f ⊎ W f)
tells_both V W None None kept is t u = subst (λ o. TellsFault o (λ f. V f ⊎ W f)) (sym is) (λ f broken. elim broken [ inl v ↦ t f v | inr w ↦ u f w ])
tells_both V W None (Some g) kept is t u =
    subst (λ o. TellsFault o (λ f. V f ⊎ W f)) (sym is) (record { violates = inr u.violates; least = λ other broken. elim broken [ inl v ↦ absurd (t other v) | inr w ↦ u.least other w ] })
tells_both V W (Some f) None kept is t u =
    subst (λ o. TellsFault o (λ f. V f ⊎ W f)) (sym is) (record { violates = inl t.violates; least = λ other broken. elim broken [ inl v ↦ t.least other v | inr w ↦ absurd (u other w) ] })
tells_both V W (Some f) (Some g) kept (inl (before, is)) t u =
    subst (λ o. TellsFault o (λ f. V f ⊎ W f)) (sym is)
    (record { violates = inr u.violates; least = λ other broken. elim broken [ inl v ↦ (λ sooner. t.least other v (before_transitive other g f sooner before)) | inr w ↦ u.least other w ] })
tells_both V W (Some f) (Some g) kept (inr (none, is)) t u =
    subst (λ o. TellsFault o (λ f. V f ⊎ W f)) (sym is)
    (record { violates = inl t.violates; least = λ other broken. elim broken [ inl v ↦ t.least other v | inr w ↦ not_before_trans f g other none (u.least other w) ] })

-- the same said another way
pub fault_as : (V W : Fault → Type 0) (told : Option Fault) → TellsFault told V → ((f : Fault) → V f → W f) → ((f : Fault) → W f → V f) → TellsFault told W
fault_as V W None t to from = λ f w. t f (from f w)
fault_as V W (Some f) t to from = record { violates = to f t.violates; least = λ other w. t.least other (from other w) }

-- ---- one file

abbrev pub InFile : ℕ → (Finding → Type 0) → Fault → Type 0
InFile file B fault = (f : Finding) × (fault ≡ in_file file f) × B f

pub tells_file : (B : Finding → Type 0) (file : ℕ) (told : Option Finding) → TellsFirst told B → TellsFault (fault_of file told) (InFile file B)
tells_file B file None t = λ fault broken. none_broken t broken.0 broken.2
tells_file B file (Some g) t =
    let first = first_of_is_first t.faults g (sym t.first) in
    record {
      violates = (g, refl, t.sound g first.among);
      least = λ other broken. subst (λ h. ¬ Before h (in_file file g)) (sym broken.1) (first.least file broken.0 (t.complete broken.0 broken.2));
    }

-- ---- the files of a top

-- the top's file breaks it, or one of the first n crossbars'
abbrev pub ViolatesBelow : Design → ℕ → Fault → Type 0
ViolatesBelow d n fault =
    InFile d.top.file (BreaksTop d) fault ⊎ ((x : ℕ) × (xbar : XbarDesc) × (x < n) × CrossbarIs d x xbar × InFile xbar.file (BreaksCrossbar d x xbar) fault)

pub below_none : (d : Design) (told : Option Fault) → TellsFault told (InFile d.top.file (BreaksTop d)) → TellsFault told (ViolatesBelow d 0)
below_none d told t = fault_as (InFile d.top.file (BreaksTop d)) (ViolatesBelow d 0) told t (λ f b. inl b) (λ f b. elim b [ inl top ↦ top | inr none ↦ absurd (omega (arith, none.2)) ])

pub below_next : (d : Design) (n : ℕ) (xbar : XbarDesc) (told here kept : Option Fault) → CrossbarIs d n xbar → KeepsEarlier told here kept → TellsFault told (ViolatesBelow d n)
    → TellsFault here (InFile xbar.file (BreaksCrossbar d n xbar)) → TellsFault kept (ViolatesBelow d (n + 1))
below_next d n xbar told here kept there is t u = fault_as (λ f. ViolatesBelow d n f ⊎ InFile xbar.file (BreaksCrossbar d n xbar) f) (ViolatesBelow d (n + 1)) kept (tells_both (ViolatesBelow d n) (InFile xbar.file (BreaksCrossbar d n xbar)) told here kept is t u) to from where
  to : (f : Fault) → ViolatesBelow d n f ⊎ InFile xbar.file (BreaksCrossbar d n xbar) f → ViolatesBelow d (n + 1) f
  to f (inl (inl top)) = inl top
  to f (inl (inr (x, b, less, is, breaks))) = inr (x, b, omega (arith, less), is, breaks)
  to f (inr breaks) = inr (n, xbar, omega arith, there, breaks)

  last : (f : Fault) (x : ℕ) (b : XbarDesc) → n ≤ x → x < n + 1 → CrossbarIs d x b → InFile b.file (BreaksCrossbar d x b) f → InFile xbar.file (BreaksCrossbar d n xbar) f
  last f x b above below is breaks =
      let same : x ≡ n = omega arith in
      let mine : CrossbarIs d n b = subst (λ y. CrossbarIs d y b) same is in
      let one : b ≡ xbar = same_item d.xbars n b xbar mine there in
      subst (λ (c : XbarDesc). InFile c.file (BreaksCrossbar d n c) f) one (subst (λ y. InFile b.file (BreaksCrossbar d y b) f) same breaks)

  from : (f : Fault) → ViolatesBelow d (n + 1) f → ViolatesBelow d n f ⊎ InFile xbar.file (BreaksCrossbar d n xbar) f
  from f (inl top) = inl (inl top)
  from f (inr (x, b, below, is, breaks)) = by (cases_lt x n) where
    by : (x < n) ⊎ (n ≤ x) → ViolatesBelow d n f ⊎ InFile xbar.file (BreaksCrossbar d n xbar) f
    by (inl less) = inl (inr (x, b, less, is, breaks))
    by (inr above) = inr (last f x b above below is breaks)

pub below_all : (d : Design) (n : ℕ) (told : Option Fault) → length d.xbars ≤ n → TellsFault told (ViolatesBelow d n) → TellsFault told (Violates d)
below_all d n told most t = fault_as (ViolatesBelow d n) (Violates d) told t to from where
  to : (f : Fault) → ViolatesBelow d n f → Violates d f
  to f (inl (g, is, breaks)) = subst (Violates d) (sym is) (Violates.in_top g breaks)
  to f (inr (x, xbar, less, there, (g, is, breaks))) = subst (Violates d) (sym is) (Violates.in_crossbar x xbar g there breaks)

  from : (f : Fault) → Violates d f → ViolatesBelow d n f
  from _ (Violates.in_top g breaks) = inl (g, refl, breaks)
  from _ (Violates.in_crossbar x xbar g there breaks) = let within = slice_get_within d.xbars x xbar there in inr (x, xbar, omega arith, there, (g, refl, breaks))
