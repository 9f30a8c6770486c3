-- Files in memory, seen as a finite map.
use Rattle.std.specs.Prelude.{List, ℕ, map, string_bytes}
use Rattle.std.specs.Coded.{Coded, coded_list, coded_ℕ}
use Rattle.std.specs.FinMap as fin
use Rattle.std.specs.declared.string.String.{String}
use Rattle.cg_base.specs.Outside.{Files, files_of}

-- the files of a map's entries, by the bytes of their names
abbrev pub files_of_entries : {A : Type 0} → List (String A × List ℕ) → Files
files_of_entries entries = files_of (map (λ e. (string_bytes e.0, e.1)) entries)

-- the code of files, by which a proof tells them apart
abbrev pub files_code : Coded Files
files_code = fin.code (coded_list coded_ℕ) (coded_list coded_ℕ)
