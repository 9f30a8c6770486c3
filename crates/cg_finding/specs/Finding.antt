-- What breaks a rule in one file, in which order it comes, and which is the first.
use Rattle.std.specs.Prelude.{ℕ, cond, List, [], ◌∷◌, ◌++◌, Option, Some, None}
use Rattle.std.specs.Ordering.{nat_cmp, then_cmp, on, is_gt}
use Rattle.std.specs.declared.cmp.Ordering.{Ordering}
use Rattle.std.specs.Cmp.Lexicographic.{slice_cmp}
pub use Rattle.cg_svspec.specs.Names.{Among}
use Rattle.cg_desc.specs.Faults.{Before}
use Rattle.cg_desc.specs.declared.fault.Fault.{Fault}
use Rattle.cg_desc.specs.declared.place.At.{At}

-- a rule, read in this phase, that a file breaks at a place; its line ends in this name
pub record Finding : Type 0 where
  pub phase : ℕ
  pub rule : ℕ
  pub at : At
  pub name : List ℕ

-- a rule of a phase that is broken at a place
abbrev pub finding : ℕ → ℕ → At → List ℕ → Finding
finding phase rule at name = record { phase = phase; rule = rule; at = at; name = name }

-- the fault that a finding is in the file of this number
abbrev pub in_file : ℕ → Finding → Fault
in_file file f = record { phase = f.phase; rule = f.rule; file = file; at = f.at; name = f.name }

-- the order of phase, then byte place, then rule, then the bytes of the name
unfoldable pub finding_cmp : Finding → Finding → Ordering
finding_cmp =
    then_cmp (on (λ f. f.phase) nat_cmp)
    (then_cmp (on (λ f. f.at.byte) nat_cmp)
    (then_cmp (on (λ f. f.rule) nat_cmp)
    (on (λ f. f.name) (slice_cmp nat_cmp))))

-- the earlier of two findings
abbrev pub the_earlier : Finding → Finding → Finding
the_earlier f g = cond (is_gt (finding_cmp f g)) g f

-- the earlier of two findings, as far as there are two
unfoldable pub earlier : Option Finding → Option Finding → Option Finding
earlier None g = g
earlier (Some f) None = Some f
earlier (Some f) (Some g) = Some (the_earlier f g)

-- the first of these findings
unfoldable pub first_of : List Finding → Option Finding
first_of [] = None
first_of (f ∷ fs) = earlier (Some f) (first_of fs)

-- the finding is one of these
abbrev pub In : Finding → List Finding → Type 0
In f fs = Among f fs

-- the finding is one of these, and as faults of one file none of these is before it
pub record IsFirst (f : Finding) (fs : List Finding) : Type 0 where
  pub among : In f fs
  pub least : (file : ℕ) (g : Finding) → In g fs → ¬ Before (in_file file g) (in_file file f)

-- what each item breaks together with the items before it, where `before` stand before them all
unfoldable pub each_after : {X : Type 0} → (List X → X → List Finding) → List X → List X → List Finding
each_after f before [] = []
each_after f before (x ∷ xs) = f before x ++ each_after f (before ++ x ∷ []) xs

-- the findings of one phase, or those of the later phases where it has none
abbrev pub of_least_phase : List Finding → List Finding → List Finding
of_least_phase [] later = later
of_least_phase (f ∷ fs) later = f ∷ fs
