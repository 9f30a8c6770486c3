-- The names under which outputs stand in the store, and the lines that are told.
use Rattle.std.specs.Prelude.{ℕ, List, [], ◌∷◌, ◌++◌, codes}
use Rattle.std.specs.Fmt.{decimal}

-- a text as a line
abbrev pub line : List ℕ → List ℕ
line text = text ++ 10 ∷ []

-- how many files were written and removed
abbrev pub built_line : ℕ → ℕ → List ℕ
built_line written removed = line (codes "built " ++ (decimal written ++ (codes " " ++ decimal removed)))

-- an output's name in the store: the folder, `/` and its file name
abbrev pub stored_name : List ℕ → List ℕ → List ℕ
stored_name dir name = dir ++ (47 ∷ name)
