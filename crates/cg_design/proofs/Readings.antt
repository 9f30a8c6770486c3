-- Files that are read one after the other: what is told is the first of all that they break.
use Rattle.std.proofs.Common.{◌≡◌, ◌⊎◌, ℕ, ◌+◌, ◌<◌, ◌≤◌, List, [], ◌∷◌, ◌++◌, length, Option, Some, None, Result, Ok, Err, inl, inr, sym, ap, subst, ◌∙◌, arith, length-append}
use Rattle.std.specs.List.{slice_get}
use Rattle.std.proofs.lemmas.Bool.{cases_lt}
use Rattle.cg_desc.specs.Faults.{Before}
use Rattle.cg_desc.specs.declared.fault.DescFault.{DescFault}
use Rattle.cg_desc.specs.declared.fault.DescFault.TheVariants as refusal
use Rattle.cg_desc.specs.declared.fault.Fault.{Fault}
use Rattle.cg_desc.proofs.Numbered.{same_item}
use Rattle.cg_files.specs.Files.{File}
use Rattle.cg_finding.specs.Finding.{Finding, in_file}
use Rattle.cg_finding.specs.Violations.{IsFirstViolation}
use Rattle.cg_merge.specs.Faults.{KeepsEarlier, TellsFault}
use Rattle.cg_merge.proofs.FirstFaults.{InFile, fault_as, tells_both}
use Rattle.cg_design.specs.Breaks.{Finds}
use Rattle.cg_design.specs.Files.{FileIs}
use Rattle.cg_design.specs.Inner.Reading.{Adds, AreDescribed, AreRead, BreaksBelow}
use Rattle.cg_design.specs.declared.reading.Reading.{Reading}
use Rattle.cg_design.proofs.Rows.{one_more}

-- ---- what one file tells

-- a refusal that names the first violation tells the first fault of the file
tells_refused : (B : Finding → Type 0) (number : ℕ) (fault : Fault) (f : Finding) → fault ≡ in_file number f → IsFirstViolation B f → TellsFault (Some fault) (InFile number B)
tells_refused B number fault f is first = record {
  violates = (f, is, first.violates);
  least = λ other broken. subst (λ o. ¬ Before o fault) (sym broken.1) (subst (λ g. ¬ Before (in_file number broken.0) g) (sym is) (first.least number broken.0 broken.2));
}

-- what is kept beside nothing
keeps_same : (o kept : Option Fault) → kept ≡ o → KeepsEarlier o None kept
keeps_same None kept is = is
keeps_same (Some f) kept is = is

-- and beside a fault there is one
kept_some : (o : Option Fault) (fault : Fault) (kept : Option Fault) → KeepsEarlier o (Some fault) kept → kept ≡ None → ⊥
kept_some None fault kept keeps none = let e : Some fault ≡ None = sym keeps ∙ none in absurd cc
kept_some (Some f) fault kept (inl (before, is)) none = let e : Some fault ≡ None = sym is ∙ none in absurd cc
kept_some (Some f) fault kept (inr (later, is)) none = let e : Some f ≡ None = sym is ∙ none in absurd cc

module _ (K A : Type 0) (Breaks : K → File → Finding → Type 0) (Describes : K → File → A → Type 0) (kinds : List K) (files : List File) where
  -- ---- the first faults

  -- no file is read
  pub read_none : (r : Reading A) → r.found ≡ [] → r.first ≡ None → AreRead Breaks Describes kinds files 0 r
  read_none r empty none = record {
    told = subst (λ o. TellsFault o (BreaksBelow Breaks kinds files 0)) (sym none) (λ f broken. let below = broken.below in absurd (omega arith));
    described = λ e. record {
      count = ap length empty;
      each = λ i kind file x kind_is file_is there. let bad : slice_get [] i ≡ Some x = subst (λ xs. slice_get xs i ≡ Some x) empty there in absurd cc;
    };
  }

  module _ (n : ℕ) (kind : K) (file : File) (kind_is : slice_get kinds n ≡ Some kind) (file_is : FileIs files n file) where
    below_more : (f : Fault) → BreaksBelow Breaks kinds files n f ⊎ InFile file.number (Breaks kind file) f → BreaksBelow Breaks kinds files (n + 1) f
    below_more f (inl b) =
        let below = b.below in
        record { number = b.number; below = omega arith; kind = b.kind; kind_is = b.kind_is; file = b.file; file_is = b.file_is; finding = b.finding; breaks = b.breaks; is = b.is }
    below_more f (inr (g, is, breaks)) =
        record { number = n; below = omega arith; kind = kind; kind_is = kind_is; file = file; file_is = file_is; finding = g; breaks = breaks; is = is }

    last : (f : Fault) (b : BreaksBelow Breaks kinds files (n + 1) f) → b.number ≡ n → InFile file.number (Breaks kind file) f
    last f b same =
        let one_kind : b.kind ≡ kind = same_item kinds n b.kind kind (subst (λ k. slice_get kinds k ≡ Some b.kind) same b.kind_is) kind_is in
        let one_file : b.file ≡ file = same_item files n b.file file (subst (λ k. slice_get files k ≡ Some b.file) same b.file_is) file_is in
        (b.finding, b.is ∙ ap (λ (x : File). in_file x.number b.finding) one_file, subst (λ x. Breaks kind x b.finding) one_file (subst (λ k. Breaks k b.file b.finding) one_kind b.breaks))

    below_less : (f : Fault) → BreaksBelow Breaks kinds files (n + 1) f → BreaksBelow Breaks kinds files n f ⊎ InFile file.number (Breaks kind file) f
    below_less f b = by (cases_lt b.number n) where
      by : (b.number < n) ⊎ (n ≤ b.number) → BreaksBelow Breaks kinds files n f ⊎ InFile file.number (Breaks kind file) f
      by (inl less) = inl (record { number = b.number; below = less; kind = b.kind; kind_is = b.kind_is; file = b.file; file_is = b.file_is; finding = b.finding; breaks = b.breaks; is = b.is })
      by (inr most) = let below = b.below in let same : b.number ≡ n = omega arith in inr (last f b same)

    -- what one more file tells
    tells_next : (first here kept : Option Fault) → KeepsEarlier first here kept → TellsFault first (BreaksBelow Breaks kinds files n) → TellsFault here (InFile file.number (Breaks kind file))
        → TellsFault kept (BreaksBelow Breaks kinds files (n + 1))
    tells_next first here kept keeps t u =
        fault_as (λ f. BreaksBelow Breaks kinds files n f ⊎ InFile file.number (Breaks kind file) f) (BreaksBelow Breaks kinds files (n + 1)) kept
        (tells_both (BreaksBelow Breaks kinds files n) (InFile file.number (Breaks kind file)) first here kept keeps t u) below_more below_less

    -- ---- what is described

    described_next : (items : List A) (x : A) → AreDescribed Describes kinds files n items → Describes kind file x → AreDescribed Describes kinds files (n + 1) (items ++ (x ∷ []))
    described_next items x are here = record { count = length-append items (x ∷ []) ∙ ap (λ k. k + 1) are.count; each = each } where
      each : (i : ℕ) (k : K) (g : File) (y : A) → slice_get kinds i ≡ Some k → FileIs files i g → slice_get (items ++ (x ∷ [])) i ≡ Some y → Describes k g y
      each i k g y k_is g_is there = by (one_more items x y i there) where
        by : (slice_get items i ≡ Some y) ⊎ ((i ≡ length items) × (x ≡ y)) → Describes k g y
        by (inl before) = are.each i k g y k_is g_is before
        by (inr (place, same)) =
            let at : i ≡ n = place ∙ are.count in
            let one_kind : kind ≡ k = same_item kinds n kind k kind_is (subst (λ j. slice_get kinds j ≡ Some k) at k_is) in
            let one_file : file ≡ g = same_item files n file g file_is (subst (λ j. slice_get files j ≡ Some g) at g_is) in
            subst (λ z. Describes k g z) same (subst (λ z. Describes k z x) one_file (subst (λ z. Describes z file x) one_kind here))

    -- ---- both

    -- one more file is read
    pub read_next : ((x : A) (f : Finding) → Describes kind file x → ¬ Breaks kind file f) → (old new : Reading A) (read : Result A DescFault) → Finds read file.number (Breaks kind file) (Describes kind file)
        → Adds old read new → AreRead Breaks Describes kinds files n old → AreRead Breaks Describes kinds files (n + 1) new
    read_next apart old new (Ok x) here (found, first) are = record {
      told = tells_next old.first None new.first (keeps_same old.first new.first first) are.told (λ fault broken. apart x broken.0 here broken.2);
      described = λ none. subst (AreDescribed Describes kinds files (n + 1)) (sym found) (described_next old.found x (are.described (sym first ∙ none)) here);
    }
    read_next apart old new (Err (refusal.Fault fault)) (f, is, first) (found, keeps) are = record {
      told = tells_next old.first (Some fault) new.first keeps are.told (tells_refused (Breaks kind file) file.number fault f is first);
      described = λ none. absurd (kept_some old.first fault new.first keeps none);
    }
    read_next apart old new (Err refusal.Memory) here adds are = absurd adds
