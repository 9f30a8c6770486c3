-- Names in a set, and widths in a table.
use Rattle.std.specs.Prelude.{◌≡◌, ℕ, Bool, true, not, ◌||◌, cond, ltb, List, [], ◌∷◌, bytes_eq, Option, Some, None}
use Rattle.std.specs.HashMap.{get_by}
use Rattle.std.specs.HashSet.{contains_by}
use Rattle.cg_svspec.specs.Names.{Differ, is_among}
use Rattle.cg_svspec.specs.Tree.{Expressions, none, more, Port, Entry, wire, drive, assign, inst, Module}
use Rattle.cg_svspec.specs.WellFormed.{AllAmong, NoneAmong, drivers_of, inputs_of, outputs_of, wires_of}
use Rattle.cg_svcheck.specs.Counting.{expressions_count}
use Rattle.cg_svcheck.specs.Plain.{net_of}
use Rattle.cg_svcheck.specs.Widths.{or_else, width_at, wire_nets}
use Rattle.cg_svcheck.specs.declared.known.Known.{Known}
use Rattle.cg_svcheck.specs.declared.sets.Names.{Names}

-- the set has the name
abbrev pub has : Names → List ℕ → Bool
has names n = contains_by (λ k. bytes_eq n k.now) names.seen

-- the set has just these names
abbrev pub Holds : Names → List (List ℕ) → Type 0
Holds set names = (n : List ℕ) → has set n ≡ is_among names n

-- the name, if there is one, and then those behind it
abbrev pub with_name : Option (List ℕ) → List (List ℕ) → List (List ℕ)
with_name None ns = ns
with_name (Some n) ns = n ∷ ns

-- the names of the parts that are bare nets
abbrev pub bare_names : Expressions → List (List ℕ)
bare_names none = []
bare_names (more x xs) = with_name (net_of x) (bare_names xs)

-- the width of a net in the table
abbrev pub width_in : Known → List ℕ → Option ℕ
width_in table n = get_by (λ k. bytes_eq n k.now) table.widths

-- the net is known in the table
abbrev pub known_in : Known → List ℕ → Bool
known_in table = has table.known

-- the width, where the name is this one
abbrev pub width_of_name : List ℕ → ℕ → List ℕ → Option ℕ
width_of_name name width n = cond (bytes_eq name n) (Some width) None

-- The table has these widths and known nets.
pub record HasNets (table : Known) (widths : List ℕ → Option ℕ) (known : List ℕ → Bool) : Type 0 where
  pub widths_are : (n : List ℕ) → width_in table n ≡ widths n
  pub known_are : (n : List ℕ) → known_in table n ≡ known n

-- it has what the entry declares and drives besides
abbrev pub HasEntry : Entry → Known → Known → Type 0
HasEntry x old new =
    HasNets new (λ n. or_else (width_in old n) (width_at (wire_nets (x ∷ [])) n)) (λ n. ltb 0 (expressions_count n (x ∷ [])) || known_in old n)

-- ---- drivers, where nets are driven that pass a test

-- an output passes, and an input does not
abbrev pub is_port_in : (List ℕ → Bool) → Port → Bool
is_port_in driven p = cond p.input (not (driven p.name)) (driven p.name)

-- a wire passes
abbrev pub is_wire_in : (List ℕ → Bool) → Entry → Bool
is_wire_in driven (wire w n) = driven n
is_wire_in driven (drive w n x) = driven n
is_wire_in driven (assign n x) = true
is_wire_in driven (inst k ps n cs) = true

-- no net has two drivers, each output and each wire has one, and no input
abbrev pub AreDrivenWell : Module → Type 0
AreDrivenWell m =
    Differ (drivers_of m)
    × ((AllAmong (outputs_of m.ports) (drivers_of m) × NoneAmong (inputs_of m.ports) (drivers_of m)) × AllAmong (wires_of m.entries) (drivers_of m))
