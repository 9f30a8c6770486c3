-- The line of a fault.
use Rattle.std.specs.Prelude.{◌==◌, ℕ, List, [], ◌∷◌, ◌++◌, Option, codes, find, unwrap_or}
use Rattle.std.specs.Option.{option_map}
use Rattle.std.specs.Fmt.{decimal}
use Rattle.cg_desc.specs.declared.place.At.{At}
use Rattle.cg_desc.specs.declared.fault.Fault.{Fault}

-- the rules, and what a line says of each
abbrev pub phrases : List (ℕ × List ℕ)
phrases =
    (10, codes "file absent")
    ∷ (11, codes "too large")
    ∷ (12, codes "not UTF-8")
    ∷ (15, codes "not a document")
    ∷ (16, codes "too deep")
    ∷ (20, codes "duplicate key")
    ∷ (21, codes "missing key")
    ∷ (22, codes "wrong kind")
    ∷ (24, codes "not a number")
    ∷ (25, codes "bad name")
    ∷ (26, codes "outside the profile")
    ∷ (27, codes "not built yet")
    ∷ (30, codes "bad bits")
    ∷ (31, codes "fields overlap")
    ∷ (32, codes "reset value too wide")
    ∷ (33, codes "no fields or items")
    ∷ (34, codes "name twice")
    ∷ (35, codes "unknown regwen")
    ∷ (36, codes "bad regwen")
    ∷ (37, codes "bad count")
    ∷ (38, codes "too many")
    ∷ (39, codes "skip back")
    ∷ (40, codes "bad window")
    ∷ (41, codes "past the end")
    ∷ (42, codes "too many interrupt bits")
    ∷ (50, codes "node twice")
    ∷ (51, codes "unknown node")
    ∷ (52, codes "host without device")
    ∷ (53, codes "device without host")
    ∷ (54, codes "bad range")
    ∷ (55, codes "ranges overlap")
    ∷ (56, codes "crossbars in a circle")
    ∷ (57, codes "bad space")
    ∷ (60, codes "name twice")
    ∷ (62, codes "base missing")
    ∷ (63, codes "bad clock")
    ∷ (64, codes "bad reset")
    ∷ (65, codes "bad pin")
    ∷ (66, codes "too many sources")
    ∷ (70, codes "generated names clash")
    ∷ []

-- what a line says of a rule
unfoldable pub phrase_of : ℕ → Option (List ℕ)
phrase_of rule = option_map (λ row. row.1) (find (λ row. row.0 == rule) phrases)

-- `<file>:<line>:<column>: fault <rule>: <phrase>`
abbrev pub line_head : List ℕ → At → ℕ → List ℕ → List ℕ
line_head file at rule phrase =
    file ++ (codes ":" ++ (decimal at.line ++ (codes ":" ++ (decimal at.column
    ++ (codes ": fault " ++ (decimal rule ++ (codes ": " ++ phrase)))))))

-- the name after a colon, where there is one
abbrev pub name_part : List ℕ → List ℕ
name_part [] = []
name_part (c ∷ cs) = codes ": " ++ (c ∷ cs)

-- the line of a fault in the file of this name, without its line feed
abbrev pub fault_line : List ℕ → Fault → List ℕ
fault_line file fault =
    line_head file fault.at fault.rule (unwrap_or (phrase_of fault.rule) []) ++ name_part fault.name
