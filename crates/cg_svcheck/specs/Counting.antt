-- How often names are declared and nets are driven.
use Rattle.std.specs.Prelude.{ℕ, ◌+◌, Bool, true, false, not, ◌&&◌, ◌||◌, cond, ltb, List, [], ◌∷◌, codes, Option, Some, None}
use Rattle.std.specs.List.{list_all}
use Rattle.std.specs.Str.{bytes_eq}
use Rattle.cg_svspec.specs.WellFormed.{ends_with, begins_with, is_output, inputs_of}
use Rattle.cg_svspec.specs.Tree.{Expression, net, cat, Expressions, none, more, Port, Connection, Entry, wire, drive, assign, inst, Module}
use Rattle.cg_svcheck.specs.Plain.{net_of}

-- 1 where the test holds
abbrev pub one_if : Bool → ℕ
one_if b = cond b 1 0

-- the name of a connection that may be an output
abbrev pub is_output_name : List ℕ → Bool
is_output_name n = ends_with n (codes "_o") || ((begins_with n (codes "h_") && ends_with n (codes "_rsp")) || (begins_with n (codes "d_") && ends_with n (codes "_req")))

-- ---- drivers of a net

-- 1 where the name is this one
abbrev pub names_it : List ℕ → Option (List ℕ) → ℕ
names_it n None = 0
names_it n (Some m) = one_if (bytes_eq m n)

-- there is a name
abbrev pub is_name : Option (List ℕ) → Bool
is_name None = false
is_name (Some m) = true

-- each part is a bare net
abbrev pub all_bare : Expressions → Bool
all_bare none = true
all_bare (more x xs) = is_name (net_of x) && all_bare xs

-- how often the name is that of a bare part
abbrev pub bare_count : List ℕ → Expressions → ℕ
bare_count n none = 0
bare_count n (more x xs) = names_it n (net_of x) + bare_count n xs

-- how often an output that is connected so drives the net
abbrev pub driven_count : List ℕ → Expression → ℕ
driven_count n (net m) = one_if (bytes_eq m n)
driven_count n (cat xs) = cond (all_bare xs) (bare_count n xs) 0
driven_count n x = 0

-- how often the outputs among the connections drive it
abbrev pub connections_count : List (List ℕ) → List ℕ → List ℕ → List Connection → ℕ
connections_count inputs m n [] = 0
connections_count inputs m n (c ∷ cs) = cond (is_output inputs m c) (driven_count n c.value) 0 + connections_count inputs m n cs

-- how often instances drive it
abbrev pub instances_count : List (List ℕ) → List ℕ → List Entry → ℕ
instances_count inputs n [] = 0
instances_count inputs n (wire w m ∷ es) = instances_count inputs n es
instances_count inputs n (drive w m x ∷ es) = instances_count inputs n es
instances_count inputs n (assign m x ∷ es) = instances_count inputs n es
instances_count inputs n (inst m ps k cs ∷ es) = connections_count inputs m n cs + instances_count inputs n es

-- how often expressions drive it
abbrev pub expressions_count : List ℕ → List Entry → ℕ
expressions_count n [] = 0
expressions_count n (wire w m ∷ es) = expressions_count n es
expressions_count n (drive w m x ∷ es) = one_if (bytes_eq m n) + expressions_count n es
expressions_count n (assign m x ∷ es) = one_if (bytes_eq m n) + expressions_count n es
expressions_count n (inst m ps k cs ∷ es) = expressions_count n es

-- how often it is driven
unfoldable pub drivers_count : Module → List ℕ → ℕ
drivers_count m n = expressions_count n m.entries + instances_count (inputs_of m.ports) n m.entries

-- ---- each driver

-- the name passes, if there is one
abbrev pub name_passes : (List ℕ → Bool) → Option (List ℕ) → Bool
name_passes p None = true
name_passes p (Some m) = p m

abbrev pub bare_pass : (List ℕ → Bool) → Expressions → Bool
bare_pass p none = true
bare_pass p (more x xs) = name_passes p (net_of x) && bare_pass p xs

-- each net that an output drives passes the test
abbrev pub driven_pass : (List ℕ → Bool) → Expression → Bool
driven_pass p (net m) = p m
driven_pass p (cat xs) = not (all_bare xs) || bare_pass p xs
driven_pass p x = true

abbrev pub connections_pass : List (List ℕ) → List ℕ → (List ℕ → Bool) → List Connection → Bool
connections_pass inputs m p [] = true
connections_pass inputs m p (c ∷ cs) = (not (is_output inputs m c) || driven_pass p c.value) && connections_pass inputs m p cs

-- each net that the entry drives passes the test
abbrev pub entry_passes : List (List ℕ) → (List ℕ → Bool) → Entry → Bool
entry_passes inputs p (wire w m) = true
entry_passes inputs p (drive w m x) = p m
entry_passes inputs p (assign m x) = p m
entry_passes inputs p (inst m ps k cs) = connections_pass inputs m p cs

-- the net has at most one driver
unfoldable pub is_driven_once : Module → List ℕ → Bool
is_driven_once m n = ltb (drivers_count m n) 2

-- the net has a driver
unfoldable pub is_driven : Module → List ℕ → Bool
is_driven m n = ltb 0 (drivers_count m n)

-- each driven net has one driver alone
unfoldable pub drivers_differ : Module → Bool
drivers_differ m = list_all (entry_passes (inputs_of m.ports) (is_driven_once m)) m.entries

-- an output is driven, and an input is not
abbrev pub is_port_driven : Module → Port → Bool
is_port_driven m p = cond p.input (not (is_driven m p.name)) (is_driven m p.name)

-- a wire is driven
abbrev pub is_wire_driven : Module → Entry → Bool
is_wire_driven m (wire w n) = is_driven m n
is_wire_driven m (drive w n x) = is_driven m n
is_wire_driven m (assign n x) = true
is_wire_driven m (inst k ps n cs) = true

-- ---- names

abbrev pub ports_count : List ℕ → List Port → ℕ
ports_count n [] = 0
ports_count n (p ∷ ps) = one_if (bytes_eq p.name n) + ports_count n ps

abbrev pub entries_count : List ℕ → List Entry → ℕ
entries_count n [] = 0
entries_count n (wire w m ∷ es) = one_if (bytes_eq m n) + entries_count n es
entries_count n (drive w m x ∷ es) = one_if (bytes_eq m n) + entries_count n es
entries_count n (assign m x ∷ es) = entries_count n es
entries_count n (inst k ps m cs ∷ es) = one_if (bytes_eq m n) + entries_count n es

-- the name is declared at most once
unfoldable pub is_declared_once : Module → List ℕ → Bool
is_declared_once m n = ltb (ports_count n m.ports + entries_count n m.entries) 2

-- the port's name is
abbrev pub is_port_once : Module → Port → Bool
is_port_once m p = is_declared_once m p.name

-- the entry's name is
abbrev pub is_entry_once : Module → Entry → Bool
is_entry_once m (wire w n) = is_declared_once m n
is_entry_once m (drive w n x) = is_declared_once m n
is_entry_once m (assign n x) = true
is_entry_once m (inst k ps n cs) = is_declared_once m n

-- each declared name is declared once
unfoldable pub names_differ : Module → Bool
names_differ m = list_all (is_port_once m) m.ports && list_all (is_entry_once m) m.entries
