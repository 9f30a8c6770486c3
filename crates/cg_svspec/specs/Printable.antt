-- A module is printable where it is a tree of the grammar: every name, number, width, literal and depth is within its rule,
-- a parameter's value is a literal or a plain number, and no list of which the grammar needs one member is empty.
use Rattle.std.specs.Prelude.{ℕ, suc, max, eqb, cond, ◌<◌, ◌≤◌, ◌^◌, List, [], ◌∷◌}
use Rattle.cg_svspec.specs.Characters.{IsName}
use Rattle.cg_svspec.specs.Tree.{Expression, net, cut, lit, cat, inv, any, and, or, equal, pick, Expressions, none, more, Port, Parameter, Connection, Entry, wire, drive, assign, inst, Module}

-- a literal has 1 to 32 bits and a value below 2^width
abbrev pub IsLiteral : ℕ → ℕ → Type 0
IsLiteral w v = (0 < w) × (w ≤ 32) × (v < 2 ^ w)

-- at least one
abbrev pub IsSomeOf : {A : Type 0} → List A → Type 0
IsSomeOf [] = ⊥
IsSomeOf (x ∷ xs) = Unit {0}

-- each member meets the fact
abbrev pub AllOf : {A : Type 0} → (A → Type 0) → List A → Type 0
AllOf P [] = Unit {0}
AllOf P (x ∷ xs) = P x × AllOf P xs

abbrev mutual
  -- names, numbers and literals within their rules, and no empty concatenation
  pub IsPrintableExpression : Expression → Type 0
  IsPrintableExpression (net n) = IsName n
  IsPrintableExpression (cut n m l) = IsName n × (m < 2 ^ 16) × (l < 2 ^ 16)
  IsPrintableExpression (lit w v) = IsLiteral w v
  IsPrintableExpression (cat none) = ⊥
  IsPrintableExpression (cat (more x xs)) = IsPrintableExpression x × ArePrintable xs
  IsPrintableExpression (inv x) = IsPrintableExpression x
  IsPrintableExpression (any x) = IsPrintableExpression x
  IsPrintableExpression (and x y) = IsPrintableExpression x × IsPrintableExpression y
  IsPrintableExpression (or x y) = IsPrintableExpression x × IsPrintableExpression y
  IsPrintableExpression (equal x y) = IsPrintableExpression x × IsPrintableExpression y
  IsPrintableExpression (pick c x y) = IsPrintableExpression c × IsPrintableExpression x × IsPrintableExpression y

  pub ArePrintable : Expressions → Type 0
  ArePrintable none = Unit {0}
  ArePrintable (more x xs) = IsPrintableExpression x × ArePrintable xs

abbrev mutual
  -- a name, a cut and a literal have depth 1, and any other expression has one more than its deepest part
  pub depth : Expression → ℕ
  depth (net n) = 1
  depth (cut n m l) = 1
  depth (lit w v) = 1
  depth (cat xs) = suc (depth_of_parts xs)
  depth (inv x) = suc (depth x)
  depth (any x) = suc (depth x)
  depth (and x y) = suc (max (depth x) (depth y))
  depth (or x y) = suc (max (depth x) (depth y))
  depth (equal x y) = suc (max (depth x) (depth y))
  depth (pick c x y) = suc (max (depth c) (max (depth x) (depth y)))

  pub depth_of_parts : Expressions → ℕ
  depth_of_parts none = 0
  depth_of_parts (more x xs) = max (depth x) (depth_of_parts xs)

-- the expression is one of the grammar
abbrev pub IsExpression : Expression → Type 0
IsExpression x = IsPrintableExpression x × (depth x ≤ 128)

-- a width of 1, or a range whose number is at least 1 and below 2^16
abbrev pub IsWidth : ℕ → Type 0
IsWidth w = (0 < w) × (w ≤ 2 ^ 16)

abbrev pub IsPrintablePort : Port → Type 0
IsPrintablePort p = IsWidth p.width × IsName p.name

-- a literal, or a plain number below 2^16
abbrev pub IsNumberOrLiteral : Expression → Type 0
IsNumberOrLiteral (lit w v) = cond (eqb w 0) (v < 2 ^ 16) (IsLiteral w v)
IsNumberOrLiteral x = ⊥

abbrev pub IsPrintableParameter : Parameter → Type 0
IsPrintableParameter p = IsName p.name × IsNumberOrLiteral p.value

abbrev pub IsPrintableConnection : Connection → Type 0
IsPrintableConnection c = IsName c.name × IsExpression c.value

abbrev pub IsPrintableEntry : Entry → Type 0
IsPrintableEntry (wire w n) = IsWidth w × IsName n
IsPrintableEntry (drive w n x) = IsWidth w × IsName n × IsExpression x
IsPrintableEntry (assign n x) = IsName n × IsExpression x
IsPrintableEntry (inst m ps n cs) = IsName m × AllOf IsPrintableParameter ps × IsName n × IsSomeOf cs × AllOf IsPrintableConnection cs

pub record IsPrintable (m : Module) : Type 0 where
  pub name : IsName m.name
  pub some_port : IsSomeOf m.ports
  pub ports : AllOf IsPrintablePort m.ports
  pub entries : AllOf IsPrintableEntry m.entries
