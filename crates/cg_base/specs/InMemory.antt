-- What the fakes in memory are seen as.
use Rattle.std.specs.Prelude.{ℕ, List}
use Rattle.cg_base.specs.Outside.{Files}
use Rattle.cg_base.specs.declared.calls.Calls.{Calls}

-- a store: its files, and its calls of both kinds
pub record StoreInMemory : Type 0 where
  pub files : Files
  pub reads : Calls
  pub changes : Calls

-- a source: the bytes that are left, and its calls
pub record SourceInMemory : Type 0 where
  pub left : List ℕ
  pub calls : Calls

-- a sink: the bytes that it took, and its calls
pub record SinkInMemory : Type 0 where
  pub held : List ℕ
  pub calls : Calls
