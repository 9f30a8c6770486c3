-- The bits and pads that a top's signals name (OpenTitan Top Generation Tool, pinmux and pinout).
use Rattle.std.specs.Prelude.{◌≡◌, ◌≢◌, ℕ, ◌<◌, List, [], ◌++◌, codes, decimal, map, slice_get, Some}
use Rattle.cg_desc.specs.Merged.{BlockAt}
use Rattle.cg_desc.specs.declared.block.IoDesc.{IoDesc}
use Rattle.cg_desc.specs.declared.block.LaidBlock.{LaidBlock}
use Rattle.cg_desc.specs.declared.top.MergedTop.{MergedTop}
use Rattle.cg_desc.specs.declared.top.SignalDesc.{SignalDesc}
use Rattle.cg_irq.specs.declared.bits.Bit.{Bit}

-- name i of the list is this one, and none before it is
pub record IsFirstOf (names : List (List ℕ)) (name : List ℕ) (i : ℕ) : Type 0 where
  pub is : slice_get names i ≡ Some name
  pub first : (j : ℕ) → j < i → slice_get names j ≢ Some name

-- port p is this one
abbrev pub PortIs : List IoDesc → ℕ → IoDesc → Type 0
PortIs ios p io = slice_get ios p ≡ Some io

-- the first port of this name is port p, which has bit k
pub record HasPort (ios : List IoDesc) (name : List ℕ) (p k : ℕ) : Type 0 where
  pub first : IsFirstOf (map (λ io. io.name) ios) name p
  pub port : IoDesc
  pub is : PortIs ios p port
  pub within : k < port.width

-- Bit k of port p is one of those that a signal's `port` names: nothing names all ports, `p` all bits of the first port of that name, and
-- `p[k]` bit k of it, k without leading zeros.
pub data NamesBit (ios : List IoDesc) : List ℕ → ℕ → ℕ → Type 0 where
  of_all : (p k : ℕ) (io : IoDesc) → PortIs ios p io → k < io.width → NamesBit ios [] p k
  of_port : (name : List ℕ) (p k : ℕ) → HasPort ios name p k → NamesBit ios name p k
  one : (name : List ℕ) (p k : ℕ) → HasPort ios name p k → NamesBit ios (name ++ (codes "[" ++ (decimal k ++ codes "]"))) p k

-- the names of a top's instances
abbrev pub instance_names : MergedTop → List (List ℕ)
instance_names m = map (λ inst. inst.name) m.top.insts

-- the signal names this bit of the instance that it names
pub record HasBit (m : MergedTop) (s : SignalDesc) (b : Bit) : Type 0 where
  pub instance : IsFirstOf (instance_names m) s.inst b.inst
  pub block : LaidBlock
  pub block_is : BlockAt m b.inst block
  pub names : NamesBit block.desc.ios s.port b.item b.bit

-- the pad that the signal names: the first of that name
pub record HasPad (m : MergedTop) (s : SignalDesc) (k : ℕ) : Type 0 where
  pub name : List ℕ
  pub written : s.pad ≡ Some name
  pub first : IsFirstOf m.top.pads name k
