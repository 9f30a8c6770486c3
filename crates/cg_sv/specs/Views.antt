-- What the program's trees stand for: the trees of the grammar, without where they lie in memory.
use Rattle.std.specs.Prelude.{ℕ, List, map, Some, None}
use Rattle.cg_svspec.specs.Tree as tree
use Rattle.cg_sv.specs.declared.tree.Expr as expr
use Rattle.cg_sv.specs.declared.tree.Expr.TheOpen as level
use Rattle.cg_sv.specs.declared.tree.Port as port
use Rattle.cg_sv.specs.declared.tree.Param as param
use Rattle.cg_sv.specs.declared.tree.Conn as conn
use Rattle.cg_sv.specs.declared.tree.Entry as entry
use Rattle.cg_sv.specs.declared.tree.Entry.TheVariants as entries
use Rattle.cg_sv.specs.declared.tree.Module as whole

-- one level of an expression whose parts are viewed
abbrev pub expression_level : level.Expr-F tree.Expression → tree.Expression
expression_level (level.Net n) = tree.net n
expression_level (level.Cut n m l) = tree.cut n m l
expression_level (level.Lit w v) = tree.lit w v
expression_level (level.Cat xs) = tree.cat (tree.expressions xs)
expression_level (level.Not x) = tree.inv x.value
expression_level (level.Any x) = tree.any x.value
expression_level (level.And x y) = tree.and x.value y.value
expression_level (level.Or x y) = tree.or x.value y.value
expression_level (level.Equal x y) = tree.equal x.value y.value
expression_level (level.Pick c x y) = tree.pick c.value x.value y.value

-- the expression for which a value of the program stands
unfoldable pub expression_of : expr.Expr → tree.Expression
expression_of = expr.fold-Expr tree.Expression expression_level

-- a parameter with this name and value
abbrev pub parameter : List ℕ → tree.Expression → tree.Parameter
parameter n x = record { name = n; value = x }

-- a connection with this name and value
abbrev pub connection : List ℕ → tree.Expression → tree.Connection
connection n x = record { name = n; value = x }

-- the port for which a value of the program stands
abbrev pub port_of : port.Port → tree.Port
port_of p = record { input = p.input; width = p.width; name = p.name }

-- the parameter for which a value of the program stands
abbrev pub parameter_of : param.Param → tree.Parameter
parameter_of p = parameter p.name (expression_of p.value)

-- the connection for which a value of the program stands
abbrev pub connection_of : conn.Conn → tree.Connection
connection_of c = connection c.name (expression_of c.value)

-- the entry for which a value of the program stands: a wire with an expression is driven by it
abbrev pub entry_of : entry.Entry → tree.Entry
entry_of (entries.Wire w n None) = tree.wire w n
entry_of (entries.Wire w n (Some x)) = tree.drive w n (expression_of x)
entry_of (entries.Assign n x) = tree.assign n (expression_of x)
entry_of (entries.Inst m ps n cs) = tree.inst m (map parameter_of ps) n (map connection_of cs)

-- the module for which a value of the program stands
abbrev pub module_of : whole.Module → tree.Module
module_of m = record { name = m.name; ports = map port_of m.ports; entries = map entry_of m.entries }
