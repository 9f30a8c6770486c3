-- What a printed text stands for.
use Rattle.std.proofs.Common.{◌≡◌, ℕ, List, [], ◌∷◌, sym, subst}
use Rattle.cg_svspec.specs.Tree.{Module}
use Rattle.cg_svspec.specs.Printable.{IsPrintable}
use Rattle.cg_svspec.specs.Layout.{module_text}
use Rattle.cg_svspec.specs.Stands.{Stands}
use Rattle.cg_svspec.proofs.PrintedModules.{printed_stands}

-- a text that is a printable module's stands for just that module
pub stands_as_printed : (t : List ℕ) (m : Module) → IsPrintable m → t ≡ module_text m → Stands t (m ∷ [])
stands_as_printed t m printable is = let P : List ℕ → Type 0 = λ u. Stands u (m ∷ []) in subst P (sym is) (printed_stands m printable)
