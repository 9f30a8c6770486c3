-- The clock and reset ports of a top, in the order in which they are used.
use Rattle.std.specs.Prelude.{◌≡◌, ◌≢◌, ◌↔◌, ℕ, suc, ◌<◌, ◌≤◌, Bool, true, false, List, [], ◌∷◌, ◌++◌, flat_map, map, slice_get, Option, Some, None}
use Rattle.cg_svspec.specs.Names.{Among}
use Rattle.cg_desc.specs.declared.block.ClockDesc.{ClockDesc}
use Rattle.cg_desc.specs.declared.block.LaidBlock.{LaidBlock}
use Rattle.cg_desc.specs.declared.crossbar.XbarDesc.{XbarDesc}
use Rattle.cg_desc.specs.declared.top.MergedTop.{MergedTop}
use Rattle.cg_desc.specs.declared.top.XbarUse.{XbarUse}
use Rattle.cg_clkrst.specs.declared.tie.Owner.{Owner}
use Rattle.cg_clkrst.specs.declared.tie.Owner.TheVariants.{Inst, Xbar}

-- a port of an owner: a reset port, or a clock port
pub record TiePort : Type 0 where
  pub owner : Owner
  pub reset : Bool
  pub port : List ℕ

abbrev pub clock_of : Owner → List ℕ → TiePort
clock_of owner name = record { owner = owner; reset = false; port = name }

abbrev pub reset_of : Owner → List ℕ → TiePort
reset_of owner name = record { owner = owner; reset = true; port = name }

-- ---- where ports are used

-- an entry of `clocking` uses its clock, then its reset, if it has one
abbrev pub entry_uses : Owner → ClockDesc → List TiePort
entry_uses owner c = clock_of owner c.clock ∷ resets c.reset where
  resets : Option (List ℕ) → List TiePort
  resets None = []
  resets (Some r) = reset_of owner r ∷ []

abbrev pub block_uses : ℕ → Option LaidBlock → List TiePort
block_uses i None = []
block_uses i (Some block) = flat_map (entry_uses (Inst i)) block.desc.clocking

-- a crossbar uses its own clock, then those of its nodes in order
abbrev pub crossbar_uses : ℕ → Option XbarDesc → List TiePort
crossbar_uses x None = []
crossbar_uses x (Some xbar) = map (clock_of (Xbar x)) (xbar.clock ∷ map (λ node. node.clock) xbar.nodes)

-- the instances from number i on, by the numbers of their blocks
abbrev pub instance_uses : List LaidBlock → ℕ → List ℕ → List TiePort
instance_uses blocks i [] = []
instance_uses blocks i (k ∷ ks) = block_uses i (slice_get blocks k) ++ instance_uses blocks (suc i) ks

-- the crossbars that the top lists, from number x on
abbrev pub listed_uses : List XbarDesc → ℕ → List XbarUse → List TiePort
listed_uses xbars x [] = []
listed_uses xbars x (u ∷ us) = crossbar_uses x (slice_get xbars x) ++ listed_uses xbars (suc x) us

-- the ports of a top as they are used: those of its instances, then those of its crossbars
abbrev pub uses_of : MergedTop → List TiePort
uses_of m = instance_uses m.blocks 0 m.kinds ++ listed_uses m.xbars 0 m.top.xbars

-- ---- each port once

-- one port is used before another: at a place up to which the other is not used
abbrev pub IsUsedBefore : List TiePort → TiePort → TiePort → Type 0
IsUsedBefore uses a b = (i : ℕ) × (slice_get uses i ≡ Some a) × ((j : ℕ) → j ≤ i → slice_get uses j ≢ Some b)

-- just the ports that are used, each before all that are first used later, so each once
pub record ArePorts (uses ports : List TiePort) : Type 0 where
  pub members : (p : TiePort) → Among p ports ↔ Among p uses
  pub in_order : (i j : ℕ) (a b : TiePort) → slice_get ports i ≡ Some a → slice_get ports j ≡ Some b → i < j → IsUsedBefore uses a b
