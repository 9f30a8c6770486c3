-- What is answered about names that shall differ.
use Rattle.std.specs.Prelude.{◌≡◌, ℕ, List, ◌++◌, codes, Option, Some, None, Result, Ok, Err}
use Rattle.cg_sv.specs.declared.fault.SvRegFault.{SvRegFault}
use Rattle.cg_sv.specs.declared.fault.SvRegFault.TheVariants.{Clash, Memory}

-- A value where no name repeats an earlier one; the first such name where one does; and want of memory at any names.
abbrev pub Answers : {A : Type 0} → Result A SvRegFault → Option (List ℕ) → Type 0
Answers (Ok x) repeat = repeat ≡ None
Answers (Err (Clash name)) repeat = repeat ≡ Some name
Answers (Err Memory) repeat = Unit {0}

-- the sentence that says what is wrong
abbrev pub fault_text : SvRegFault → List ℕ
fault_text (Clash name) = codes "the name " ++ (name ++ codes " is declared twice")
fault_text Memory = codes "out of memory"
