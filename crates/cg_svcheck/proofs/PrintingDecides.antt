-- The tests of Printing decide what is printable.
use Rattle.std.proofs.Common.{◌≡◌, ℕ, suc, ◌-◌, ◌^◌, ◌<◌, ◌≤◌, max, Bool, true, false, not, ◌&&◌, cond, eqb, ltb, List, [], ◌∷◌, refl, arith}
use Rattle.std.specs.Bool.{Decides}
use Rattle.std.specs.List.{list_all}
use Rattle.cg_svspec.specs.Characters.{is_name_character, is_keyword, Each, IsWord, IsName}
use Rattle.cg_svspec.specs.Tree.{Expression, net, cut, lit, cat, inv, any, and, or, equal, pick, Expressions, none, more, Port, Parameter, Connection, Entry, wire, drive, assign, inst, Module}
use Rattle.cg_svspec.specs.Printable.{IsLiteral, IsSomeOf, IsPrintableExpression, ArePrintable, depth, depth_of_parts, IsExpression, IsWidth, IsPrintablePort, IsNumberOrLiteral, IsPrintableParameter, IsPrintableConnection, IsPrintableEntry, IsPrintable}
use Rattle.cg_svcheck.specs.Printing.{is_word, is_name, is_literal, has_part, printable_above, parts_within, is_width, is_number_or_literal, is_expression, is_printable_port, is_printable_parameter, is_printable_connection, is_some_of, is_printable_entry, is_printable}
use Rattle.cg_svcheck.proofs.Deciding.{decides_true, decides_false, decides_as, decides_both, decides_three, decides_five, decides_all, decides_lt, decides_le}

-- ---- names and numbers

-- a test that fails, as one that is false
is_false : (b : Bool) → Decides (not b) (b ≡ false)
is_false true = decides_false (λ e. cc)
is_false false = decides_true refl

each_decides : (p : ℕ → Bool) (xs : List ℕ) → Decides (list_all p xs) (Each p xs)
each_decides p [] = decides_true tt
each_decides p (x ∷ xs) = decides_both (λ e. e, λ e. e) (each_decides p xs)

word_decides : (w : List ℕ) → Decides (is_word w) (IsWord w)
word_decides [] = decides_false (λ h. h)
word_decides (c ∷ cs) = decides_both (λ e. e, λ e. e) (each_decides is_name_character cs)

pub name_decides : (w : List ℕ) → Decides (is_name w) (IsName w)
unfolding is_name
name_decides w = decides_both (word_decides w) (is_false (is_keyword w))

literal_decides : (w v : ℕ) → Decides (is_literal w v) (IsLiteral w v)
unfolding is_literal
literal_decides w v = decides_three (decides_lt 0 w) (decides_le w 32) (decides_lt v (2 ^ w))

width_decides : (w : ℕ) → Decides (is_width w) (IsWidth w)
unfolding is_width
width_decides w = decides_both (decides_lt 0 w) (decides_le w (2 ^ 16))

-- ---- expressions

-- the expression is printable, and so deep at most
abbrev Within : ℕ → Expression → Type 0
Within d x = IsPrintableExpression x × (depth x ≤ d)

-- a test one level further down
deeper : (d : ℕ) (x : Expression) {b : Bool} → Decides b (IsPrintableExpression x × (depth x ≤ suc (d - 1))) → 0 < depth x → Decides (ltb 0 d && b) (Within d x)
deeper d x {b} test some = decides_as (decides_both (decides_lt 0 d) test) up down where
  up : (0 < d) × (IsPrintableExpression x × (depth x ≤ suc (d - 1))) → Within d x
  up h = (h.1.0, omega (arith, h.0, h.1.1))

  down : Within d x → (0 < d) × (IsPrintableExpression x × (depth x ≤ suc (d - 1)))
  down h = (omega (arith, h.1, some), (h.0, omega (arith, h.1, some)))

-- each expression has a depth
some_depth : (x : Expression) → 0 < depth x
some_depth (net n) = omega arith
some_depth (cut n m l) = omega arith
some_depth (lit w v) = omega arith
some_depth (cat xs) = omega arith
some_depth (inv x) = omega arith
some_depth (any x) = omega arith
some_depth (and x y) = omega arith
some_depth (or x y) = omega arith
some_depth (equal x y) = omega arith
some_depth (pick c x y) = omega arith

-- a fact of an expression of depth 1
shallow : {P : Type 0} {b : Bool} (d : ℕ) → Decides b P → Decides b (P × (1 ≤ suc d))
shallow d test = decides_as test (λ p. (p, omega arith)) (λ h. h.0)

-- of one with a part
one_part : {b : Bool} (d : ℕ) (x : Expression) → Decides b (Within d x) → Decides b (IsPrintableExpression x × (suc (depth x) ≤ suc d))
one_part d x test = decides_as test (λ h. (h.0, omega (arith, h.1))) (λ h. (h.0, omega (arith, h.1)))

-- with two
two_parts : {a b : Bool} (d : ℕ) (x y : Expression) → Decides a (Within d x) → Decides b (Within d y)
    → Decides (a && b) ((IsPrintableExpression x × IsPrintableExpression y) × (suc (max (depth x) (depth y)) ≤ suc d))
two_parts d x y first second = decides_as (decides_both first second) up down where
  up : Within d x × Within d y → (IsPrintableExpression x × IsPrintableExpression y) × (suc (max (depth x) (depth y)) ≤ suc d)
  up h = ((h.0.0, h.1.0), omega (arith, h.0.1, h.1.1))

  down : (IsPrintableExpression x × IsPrintableExpression y) × (suc (max (depth x) (depth y)) ≤ suc d) → Within d x × Within d y
  down h = ((h.0.0, omega (arith, h.1)), (h.0.1, omega (arith, h.1)))

-- with three
three_parts : {a b c : Bool} (d : ℕ) (x y z : Expression) → Decides a (Within d x) → Decides b (Within d y) → Decides c (Within d z)
    → Decides (a && (b && c)) ((IsPrintableExpression x × IsPrintableExpression y × IsPrintableExpression z) × (suc (max (depth x) (max (depth y) (depth z))) ≤ suc d))
three_parts d x y z first second third = decides_as (decides_both first (decides_both second third)) up down where
  up : Within d x × (Within d y × Within d z)
      → (IsPrintableExpression x × IsPrintableExpression y × IsPrintableExpression z) × (suc (max (depth x) (max (depth y) (depth z))) ≤ suc d)
  up h = ((h.0.0, h.1.0.0, h.1.1.0), omega (arith, h.0.1, h.1.0.1, h.1.1.1))

  down : (IsPrintableExpression x × IsPrintableExpression y × IsPrintableExpression z) × (suc (max (depth x) (max (depth y) (depth z))) ≤ suc d)
      → Within d x × (Within d y × Within d z)
  down h = ((h.0.0, omega (arith, h.1)), ((h.0.1, omega (arith, h.1)), (h.0.2, omega (arith, h.1))))

-- a concatenation
some_parts : {b : Bool} (d : ℕ) (xs : Expressions) → Decides b (ArePrintable xs × (depth_of_parts xs ≤ d))
    → Decides (has_part xs && b) (IsPrintableExpression (cat xs) × (suc (depth_of_parts xs) ≤ suc d))
some_parts d none test = decides_false (λ h. h.0)
some_parts d (more x xs) test = decides_as test (λ h. (h.0, omega (arith, h.1))) (λ h. (h.0, omega (arith, h.1)))

mutual
  above_decides : (d : ℕ) (x : Expression) → Decides (printable_above d x) (IsPrintableExpression x × (depth x ≤ suc d))
  above_decides d (net n) = shallow d (name_decides n)
  above_decides d (cut n m l) = shallow d (decides_three (name_decides n) (decides_lt m (2 ^ 16)) (decides_lt l (2 ^ 16)))
  above_decides d (lit w v) = shallow d (literal_decides w v)
  above_decides d (cat xs) = some_parts d xs (parts_decide d xs)
  above_decides d (inv x) = one_part d x (deeper d x (above_decides (d - 1) x) (some_depth x))
  above_decides d (any x) = one_part d x (deeper d x (above_decides (d - 1) x) (some_depth x))
  above_decides d (and x y) = two_parts d x y (deeper d x (above_decides (d - 1) x) (some_depth x)) (deeper d y (above_decides (d - 1) y) (some_depth y))
  above_decides d (or x y) = two_parts d x y (deeper d x (above_decides (d - 1) x) (some_depth x)) (deeper d y (above_decides (d - 1) y) (some_depth y))
  above_decides d (equal x y) = two_parts d x y (deeper d x (above_decides (d - 1) x) (some_depth x)) (deeper d y (above_decides (d - 1) y) (some_depth y))
  above_decides d (pick c x y) = three_parts d c x y (deeper d c (above_decides (d - 1) c) (some_depth c)) (deeper d x (above_decides (d - 1) x) (some_depth x)) (deeper d y (above_decides (d - 1) y) (some_depth y))

  parts_decide : (d : ℕ) (xs : Expressions) → Decides (parts_within d xs) (ArePrintable xs × (depth_of_parts xs ≤ d))
  parts_decide d none = decides_true (tt, omega arith)
  parts_decide d (more x xs) = decides_as (decides_both (deeper d x (above_decides (d - 1) x) (some_depth x)) (parts_decide d xs))
      (λ h. ((h.0.0, h.1.0), omega (arith, h.0.1, h.1.1)))
      (λ h. ((h.0.0, omega (arith, h.1)), (h.0.1, omega (arith, h.1))))

expression_decides : (x : Expression) → Decides (is_expression x) (IsExpression x)
unfolding is_expression
expression_decides x = deeper 128 x (above_decides 127 x) (some_depth x)

-- ---- entries

value_decides : (x : Expression) → Decides (is_number_or_literal x) (IsNumberOrLiteral x)
value_decides (lit w v) = by (eqb w 0) where
  by : (b : Bool) → Decides (cond b (ltb v (2 ^ 16)) (is_literal w v)) (cond b (v < 2 ^ 16) (IsLiteral w v))
  by true = decides_lt v (2 ^ 16)
  by false = literal_decides w v
value_decides (net n) = decides_false (λ h. h)
value_decides (cut n m l) = decides_false (λ h. h)
value_decides (cat xs) = decides_false (λ h. h)
value_decides (inv x) = decides_false (λ h. h)
value_decides (any x) = decides_false (λ h. h)
value_decides (and x y) = decides_false (λ h. h)
value_decides (or x y) = decides_false (λ h. h)
value_decides (equal x y) = decides_false (λ h. h)
value_decides (pick c x y) = decides_false (λ h. h)

port_decides : (p : Port) → Decides (is_printable_port p) (IsPrintablePort p)
unfolding is_printable_port
port_decides p = decides_both (width_decides p.width) (name_decides p.name)

parameter_decides : (p : Parameter) → Decides (is_printable_parameter p) (IsPrintableParameter p)
unfolding is_printable_parameter
parameter_decides p = decides_both (name_decides p.name) (value_decides p.value)

connection_decides : (c : Connection) → Decides (is_printable_connection c) (IsPrintableConnection c)
unfolding is_printable_connection
connection_decides c = decides_both (name_decides c.name) (expression_decides c.value)

some_decides : {A : Type 0} (xs : List A) → Decides (is_some_of xs) (IsSomeOf xs)
some_decides [] = decides_false (λ h. h)
some_decides (x ∷ xs) = decides_true tt

entry_decides : (e : Entry) → Decides (is_printable_entry e) (IsPrintableEntry e)
entry_decides (wire w n) = decides_both (width_decides w) (name_decides n)
entry_decides (drive w n x) = decides_three (width_decides w) (name_decides n) (expression_decides x)
entry_decides (assign n x) = decides_both (name_decides n) (expression_decides x)
entry_decides (inst m ps n cs) =
    decides_five (name_decides m) (decides_all is_printable_parameter IsPrintableParameter parameter_decides ps) (name_decides n) (some_decides cs)
    (decides_all is_printable_connection IsPrintableConnection connection_decides cs)

-- The test decides whether a module is printable.
pub printable_decides : (m : Module) → Decides (is_printable m) (IsPrintable m)
unfolding is_printable
printable_decides m = decides_as
    (decides_both (name_decides m.name)
    (decides_both (some_decides m.ports)
    (decides_both (decides_all is_printable_port IsPrintablePort port_decides m.ports) (decides_all is_printable_entry IsPrintableEntry entry_decides m.entries))))
    (λ h. record { name = h.0; some_port = h.1.0; ports = h.1.1.0; entries = h.1.1.1 })
    (λ p. (p.name, (p.some_port, (p.ports, p.entries))))
