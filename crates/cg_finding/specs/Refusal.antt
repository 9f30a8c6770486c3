-- What a check of a file answers, by the list of all that the file breaks.
use Rattle.std.specs.Prelude.{ℕ, ◌≡◌, List, [], Result, Ok, Err}
use Rattle.cg_desc.specs.declared.fault.DescFault.{DescFault}
use Rattle.cg_desc.specs.declared.fault.DescFault.TheVariants.{Fault, Memory}
use Rattle.cg_finding.specs.Finding.{Finding, in_file, IsFirst}

-- a refusal names this finding of this file; want of memory says nothing
abbrev pub Names : DescFault → ℕ → Finding → Type 0
Names (Fault fault) file f = fault ≡ in_file file f
Names Memory file f = Unit {0}

-- a refusal names the first of these findings of this file; want of memory says nothing
abbrev pub Refuses : DescFault → ℕ → List Finding → Type 0
Refuses (Fault fault) file fs = (f : Finding) × (fault ≡ in_file file f) × IsFirst f fs
Refuses Memory file fs = Unit {0}

-- a value that is right, where nothing is broken; or a refusal that names the first of what is broken
abbrev pub Answers : {X : Type 0} → Result X DescFault → ℕ → List Finding → (X → Type 0) → Type 0
Answers (Ok x) file fs IsRight = (fs ≡ []) × IsRight x
Answers (Err e) file fs IsRight = Refuses e file fs
