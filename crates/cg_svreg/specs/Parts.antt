-- The parts of a concatenation, as they are put together.
use Rattle.std.specs.Prelude.{ℕ, ◌-◌, eqb, cond, List, [], ◌∷◌, map, reverse}
use Rattle.cg_svspec.specs.Tree.{Expression, net, Expressions, more, expressions}
use Rattle.cg_sv.specs.Views.{expression_of}
use Rattle.cg_sv.specs.declared.tree.Expr.{Expr}
use Rattle.cg_regspec.specs.NetNames.{rd}
use Rattle.cg_regspec.specs.RegisterModule.{all_ones}

-- what stands for parts that stand lowest first
unfoldable pub from_low : List Expr → Expressions
from_low parts = expressions (map expression_of (reverse parts))

-- what stands for parts that stand highest first, with others under them
unfoldable pub above : List Expr → Expressions → Expressions
above [] below = below
above (x ∷ xs) below = more (expression_of x) (above xs below)

-- what is read where no row from this number on is hit
unfoldable pub read_before : ℕ → Expression
read_before i = cond (eqb i 0) all_ones (net (rd (i - 1)))
