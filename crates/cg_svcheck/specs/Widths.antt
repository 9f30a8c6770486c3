-- Tests that compute: the width of an expression, and which nets it uses.
use Rattle.std.specs.Prelude.{ℕ, suc, ◌+◌, ◌-◌, ◌^◌, Bool, true, ◌&&◌, ◌||◌, cond, eqb, leb, ltb, List, [], ◌∷◌, Option, Some, None}
use Rattle.std.specs.Str.{bytes_eq}
use Rattle.cg_svspec.specs.Tree.{Expression, net, cut, lit, cat, inv, any, and, or, equal, pick, Expressions, none, more, Port, Entry, wire, drive, assign, inst, Module}
use Rattle.cg_svspec.specs.Names.{is_among}
use Rattle.cg_svcheck.specs.Counting.{instances_count, expressions_count}
use Rattle.cg_svspec.specs.WellFormed.{Net, stated, port_nets, inputs_of}

-- the width of the first net with the name
abbrev pub width_at : List Net → List ℕ → Option ℕ
width_at [] n = None
width_at (x ∷ xs) n = cond (bytes_eq x.name n) (Some x.width) (width_at xs n)

-- the nets that these entries declare
abbrev pub wire_nets : List Entry → List Net
wire_nets [] = []
wire_nets (wire w n ∷ es) = stated n w ∷ wire_nets es
wire_nets (drive w n x ∷ es) = stated n w ∷ wire_nets es
wire_nets (assign n x ∷ es) = wire_nets es
wire_nets (inst m ps n cs ∷ es) = wire_nets es

-- the first, or else the second
abbrev pub or_else : Option ℕ → Option ℕ → Option ℕ
or_else None q = q
or_else (Some w) q = Some w

-- the width of the net that the ports, or else these entries above, declare by the name
unfoldable pub width_above : List Port → List Entry → List ℕ → Option ℕ
width_above ports above n = or_else (width_at (port_nets ports) n) (width_at (wire_nets above) n)

-- a cut of a net of this width
abbrev pub cut_width : ℕ → ℕ → Option ℕ → Option ℕ
cut_width m l None = None
cut_width m l (Some u) = cond (ltb 1 u && (ltb m u && leb l m)) (Some (suc m - l)) None

-- one bit, where the part has a width
abbrev pub one_bit : Option ℕ → Option ℕ
one_bit None = None
one_bit (Some u) = Some 1

-- the one width of both
abbrev pub agreed : Option ℕ → Option ℕ → Option ℕ
agreed None q = None
agreed (Some a) None = None
agreed (Some a) (Some b) = cond (eqb a b) (Some a) None

-- this width, where the condition has one bit
abbrev pub picked : Option ℕ → Option ℕ → Option ℕ
picked None q = None
picked (Some a) q = cond (eqb a 1) q None

-- the sum of both
abbrev pub added : Option ℕ → Option ℕ → Option ℕ
added None q = None
added (Some a) None = None
added (Some a) (Some b) = Some (a + b)

-- the width, where it is below 2^32
abbrev pub bounded : Option ℕ → Option ℕ
bounded None = None
bounded (Some w) = cond (ltb w (2 ^ 32)) (Some w) None

abbrev mutual
  -- the width of an expression, where nets have these
  pub width_of : (List ℕ → Option ℕ) → Expression → Option ℕ
  width_of e (net n) = e n
  width_of e (cut n m l) = cut_width m l (e n)
  width_of e (lit w v) = Some w
  width_of e (cat xs) = bounded (sum_of_widths e xs)
  width_of e (inv x) = width_of e x
  width_of e (any x) = one_bit (width_of e x)
  width_of e (and x y) = agreed (width_of e x) (width_of e y)
  width_of e (or x y) = agreed (width_of e x) (width_of e y)
  width_of e (equal x y) = one_bit (agreed (width_of e x) (width_of e y))
  width_of e (pick c x y) = picked (width_of e c) (agreed (width_of e x) (width_of e y))

  -- of its parts together
  pub sum_of_widths : (List ℕ → Option ℕ) → Expressions → Option ℕ
  sum_of_widths e none = Some 0
  sum_of_widths e (more x xs) = added (width_of e x) (sum_of_widths e xs)

abbrev mutual
  -- the expression uses only nets that pass the test
  pub uses_only : (List ℕ → Bool) → Expression → Bool
  uses_only k (net n) = k n
  uses_only k (cut n m l) = k n
  uses_only k (lit w v) = true
  uses_only k (cat xs) = parts_use_only k xs
  uses_only k (inv x) = uses_only k x
  uses_only k (any x) = uses_only k x
  uses_only k (and x y) = uses_only k x && uses_only k y
  uses_only k (or x y) = uses_only k x && uses_only k y
  uses_only k (equal x y) = uses_only k x && uses_only k y
  uses_only k (pick c x y) = uses_only k c && (uses_only k x && uses_only k y)

  pub parts_use_only : (List ℕ → Bool) → Expressions → Bool
  parts_use_only k none = true
  parts_use_only k (more x xs) = uses_only k x && parts_use_only k xs

-- the net is an input, one that an instance drives, or one that these entries above drive by an expression
unfoldable pub is_known : Module → List Entry → List ℕ → Bool
is_known m above n =
    is_among (inputs_of m.ports) n || (ltb 0 (instances_count (inputs_of m.ports) n m.entries) || ltb 0 (expressions_count n above))
