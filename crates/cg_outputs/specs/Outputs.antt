-- The outputs of a build: exactly those that are meant, in the order of their names.
use Rattle.std.specs.Prelude.{◌≡◌, ◌↔◌, List, [], ◌∷◌}
use Rattle.std.specs.Ordering.{nat_cmp}
use Rattle.std.specs.Cmp.Lexicographic.{slice_cmp}
use Rattle.std.specs.declared.cmp.Ordering.TheVariants.{Less}
use Rattle.cg_svspec.specs.Names.{Among}
use Rattle.cg_outputs.specs.declared.out_file.OutFile.{OutFile}

-- the name of the first is before that of the second, by their bytes
abbrev pub NameBefore : OutFile → OutFile → Type 0
NameBefore a b = slice_cmp nat_cmp a.name b.name ≡ Less

-- each name is before those of all later files
abbrev pub Rises : List OutFile → Type 0
Rises [] = Unit {0}
Rises (o ∷ os) = ((p : OutFile) → Among p os → NameBefore o p) × Rises os

-- the list has exactly the outputs that are meant, each once, in the order of their names
pub record AreOutputs (IsOutput : OutFile → Type 0) (outputs : List OutFile) : Type 0 where
  pub member : (o : OutFile) → Among o outputs ↔ IsOutput o
  pub rises : Rises outputs

-- no two of these files have one name
abbrev pub NamesDiffer : List OutFile → Type 0
NamesDiffer [] = Unit {0}
NamesDiffer (o ∷ os) = ((p : OutFile) → Among p os → ¬ (o.name ≡ p.name)) × NamesDiffer os

-- two lists of the same files in the order of their names are the same
abbrev pub OutputsAreOneList : Type 0
OutputsAreOneList = (xs ys : List OutFile) → Rises xs → Rises ys → ((o : OutFile) → Among o xs ↔ Among o ys) → xs ≡ ys
