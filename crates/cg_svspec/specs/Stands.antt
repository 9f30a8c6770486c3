-- What a text stands for.
use Rattle.std.specs.Prelude.{◌≡◌, ℕ, List, [], ◌∷◌}
use Rattle.cg_svspec.specs.Tree.{Module}
use Rattle.cg_svspec.specs.Tokens.{Reads}
use Rattle.cg_svspec.specs.Grammar.{modules_tokens}
use Rattle.cg_svspec.specs.Printable.{IsPrintable, AllOf}
use Rattle.cg_svspec.specs.Layout.{module_text}

-- The text stands for these modules: its tokens are theirs by the grammar, of which each is a tree.
pub record Stands (text : List ℕ) (modules : List Module) : Type 0 where
  pub trees : AllOf IsPrintable modules
  pub reads : Reads text (modules_tokens modules)

-- what is printed stands for just the module that was printed
abbrev pub PrintedTextStands : Type 0
PrintedTextStands = (m : Module) → IsPrintable m → Stands (module_text m) (m ∷ [])

-- a text stands for at most one list of modules
abbrev pub TextStandsForOneList : Type 0
TextStandsForOneList = (text : List ℕ) (ms ns : List Module) → Stands text ms → Stands text ns → ms ≡ ns
