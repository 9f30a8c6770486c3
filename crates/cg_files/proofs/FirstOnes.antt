-- What a file breaks first.
use Rattle.std.proofs.Common.{◌≡◌, ◌<◌, ℕ, List, [], Some, None, sym, ◌∙◌, ap, subst, inl, inr, arith, refl}
use Rattle.std.specs.Str.{chars, IsUtf8, IsValidUpTo}
use Rattle.cg_docspec.specs.Place.{Place}
use Rattle.cg_docspec.specs.SyntaxFault.{NoDocument, TooDeep, too_deep as deep, no_document as none_there}
use Rattle.cg_docspec.proofs.Answering.Answers.{one_answer}
use Rattle.cg_desc.specs.Faults.{Before}
use Rattle.cg_desc.proofs.FaultOrder.{before_irreflexive}
use Rattle.cg_desc.specs.declared.fault.DescFault.{DescFault}
use Rattle.cg_desc.specs.declared.fault.DescFault.TheVariants.{Fault, Memory}
use Rattle.cg_keys.specs.Duplicates.{at_of}
use Rattle.cg_finding.specs.Finding.{Finding, finding, in_file}
use Rattle.cg_finding.specs.Rules as rules
use Rattle.cg_finding.specs.Refusal.{Names}
use Rattle.cg_finding.specs.Violations.{IsFirstViolation, RefusesFirst}
use Rattle.cg_files.specs.Files.{File, IsText, IsTooLarge, BreaksFile, absent, too_large, not_utf8, no_document, too_deep, place_behind}
use Rattle.cg_files.proofs.OneTree.{same_bytes, not_text, not_large}

-- a refusal that names the first violation
pub named : (e : DescFault) (number : ℕ) (V : Finding → Type 0) (f : Finding) → Names e number f → IsFirstViolation V f → RefusesFirst e number V
named (Fault fault) number V f names first = (f, names, first)
named Memory number V f names first = tt

-- what stands at the start and has the lower rule is not behind
start_first : (file : ℕ) (f g : Finding) → f.phase ≡ g.phase → f.at.byte ≡ 0 → f.rule < g.rule → ¬ Before (in_file file g) (in_file file f)
unfolding Before
start_first file f g phase byte less (inl earlier) = absurd (omega arith)
start_first file f g phase byte less (inr (same, inl earlier)) = absurd (omega arith)
start_first file f g phase byte less (inr (same, inr (also, inl earlier))) = absurd (omega arith)
start_first file f g phase byte less (inr (same, inr (also, inr (there, inl earlier)))) = absurd (omega arith)
start_first file f g phase byte less (inr (same, inr (also, inr (there, inr (rule', names))))) = absurd (omega arith)

-- the only violation is the first
alone : (V : Finding → Type 0) (f : Finding) → V f → ((g : Finding) → V g → g ≡ f) → IsFirstViolation V f
alone V f is only = record { violates = is; least = λ file g also before. before_irreflexive (in_file file f) (subst (λ h. Before (in_file file h) (in_file file f)) (only g also) before) }

-- a file that is absent
pub first_absent : (file : File) → file.given ≡ None → IsFirstViolation (BreaksFile file) (rules.file_absent)
first_absent file none = alone (BreaksFile file) _ (absent none) only where
  bad : (bytes : List ℕ) → file.given ≡ Some bytes → ⊥
  bad bytes is = let e : Some bytes ≡ None = sym is ∙ none in cc

  only : (g : Finding) → BreaksFile file g → g ≡ rules.file_absent
  only _ (absent also) = refl
  only _ (too_large bytes is many) = absurd (bad bytes is)
  only _ (not_utf8 bytes good is invalid) = absurd (bad bytes is)
  only _ (no_document bytes at text is) = absurd (bad bytes text.given)
  only _ (too_deep bytes at text is) = absurd (bad bytes text.given)

-- a file that is too large
pub first_large : (file : File) (bytes : List ℕ) → file.given ≡ Some bytes → IsTooLarge file.before bytes → IsFirstViolation (BreaksFile file) (rules.file_too_large)
first_large file bytes is many = record { violates = too_large bytes is many; least = least } where
  no_text : (other : List ℕ) → IsText file other → ⊥
  no_text other text = not_large file other text (subst (IsTooLarge file.before) (same_bytes file.given bytes other is text.given) many)

  least : (number : ℕ) (g : Finding) → BreaksFile file g → ¬ Before (in_file number g) (in_file number (rules.file_too_large))
  least number _ (absent none) = let e : Some bytes ≡ None = sym is ∙ none in cc
  least number _ (too_large other also large) = before_irreflexive (in_file number (rules.file_too_large))
  least number _ (not_utf8 other good also invalid) = start_first number (rules.file_too_large) (finding 0 12 (place_behind other good) []) refl refl (omega arith)
  least number _ (no_document other at text none) = absurd (no_text other text)
  least number _ (too_deep other at text opens) = absurd (no_text other text)

-- the bytes are good up to one place alone
one_front : (bytes : List ℕ) (n m : ℕ) → IsValidUpTo bytes n → IsValidUpTo bytes m → ¬ (n < m)
one_front bytes n m a b less = a.longest m less b.front

same_front : (bytes : List ℕ) (n m : ℕ) → IsValidUpTo bytes n → IsValidUpTo bytes m → n ≡ m
same_front bytes n m a b =
    let up = one_front bytes n m a b in
    let down = one_front bytes m n b a in
    grind (arith, up, down)

-- a file that is not UTF-8
pub first_not_utf8 : (file : File) (bytes : List ℕ) (good : ℕ) → file.given ≡ Some bytes → ¬ IsTooLarge file.before bytes → IsValidUpTo bytes good
    → IsFirstViolation (BreaksFile file) (finding 0 12 (place_behind bytes good) [])
first_not_utf8 file bytes good is few invalid = alone (BreaksFile file) _ (not_utf8 bytes good is invalid) only where
  no_text : (other : List ℕ) → IsText file other → ⊥
  no_text other text = not_text bytes good invalid (subst IsUtf8 (same_bytes file.given other bytes text.given is) text.utf8)

  only : (g : Finding) → BreaksFile file g → g ≡ finding 0 12 (place_behind bytes good) []
  only _ (absent none) = let e : Some bytes ≡ None = sym is ∙ none in absurd (cc)
  only _ (too_large other also many) = absurd (few (subst (IsTooLarge file.before) (same_bytes file.given other bytes also is) many))
  only _ (not_utf8 other m also bad) =
      let same : other ≡ bytes = same_bytes file.given other bytes also is in
      let place : m ≡ good = same_front bytes m good (subst (λ b. IsValidUpTo b m) same bad) invalid in
      (λ i. finding 0 12 (place_behind (same i) (place i)) [])
  only _ (no_document other at text none) = absurd (no_text other text)
  only _ (too_deep other at text opens) = absurd (no_text other text)

-- a text that is no document
pub first_no_document : (file : File) (bytes : List ℕ) (at : Place) → IsText file bytes → NoDocument (chars bytes) at
    → IsFirstViolation (BreaksFile file) (finding 1 15 (at_of at) [])
first_no_document file bytes at text is = alone (BreaksFile file) _ (no_document bytes at text is) only where
  only : (g : Finding) → BreaksFile file g → g ≡ finding 1 15 (at_of at) []
  only _ (absent none) = let e : Some bytes ≡ None = sym text.given ∙ none in absurd (cc)
  only _ (too_large other also many) = absurd (not_large file bytes text (subst (IsTooLarge file.before) (same_bytes file.given other bytes also text.given) many))
  only _ (not_utf8 other m also bad) = absurd (not_text other m bad (subst IsUtf8 (same_bytes file.given bytes other text.given also) text.utf8))
  only _ (no_document other place text' none) =
      let same : other ≡ bytes = same_bytes file.given other bytes text'.given text.given in
      let e : none_there place ≡ none_there at = one_answer (chars bytes) (none_there place) (none_there at) (subst (λ b. NoDocument (chars b) place) same none) is in
      let there : place ≡ at = cc in
      ap (λ p. finding 1 15 (at_of p) []) there
  only _ (too_deep other place text' opens) =
      let same : other ≡ bytes = same_bytes file.given other bytes text'.given text.given in
      let e : deep place ≡ none_there at = one_answer (chars bytes) (deep place) (none_there at) (subst (λ b. TooDeep (chars b) place) same opens) is in
      absurd (cc)

-- a text that is too deep
pub first_too_deep : (file : File) (bytes : List ℕ) (at : Place) → IsText file bytes → TooDeep (chars bytes) at
    → IsFirstViolation (BreaksFile file) (finding 1 16 (at_of at) [])
first_too_deep file bytes at text is = alone (BreaksFile file) _ (too_deep bytes at text is) only where
  only : (g : Finding) → BreaksFile file g → g ≡ finding 1 16 (at_of at) []
  only _ (absent none) = let e : Some bytes ≡ None = sym text.given ∙ none in absurd (cc)
  only _ (too_large other also many) = absurd (not_large file bytes text (subst (IsTooLarge file.before) (same_bytes file.given other bytes also text.given) many))
  only _ (not_utf8 other m also bad) = absurd (not_text other m bad (subst IsUtf8 (same_bytes file.given bytes other text.given also) text.utf8))
  only _ (no_document other place text' none) =
      let same : other ≡ bytes = same_bytes file.given other bytes text'.given text.given in
      let e : none_there place ≡ deep at = one_answer (chars bytes) (none_there place) (deep at) (subst (λ b. NoDocument (chars b) place) same none) is in
      absurd (cc)
  only _ (too_deep other place text' opens) =
      let same : other ≡ bytes = same_bytes file.given other bytes text'.given text.given in
      let e : deep place ≡ deep at = one_answer (chars bytes) (deep place) (deep at) (subst (λ b. TooDeep (chars b) place) same opens) is in
      let there : place ≡ at = cc in
      ap (λ p. finding 1 16 (at_of p) []) there
