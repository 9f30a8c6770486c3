-- The clock and reset ports of a top with their sources (OpenTitan Top Generation Tool).
use Rattle.std.specs.Prelude.{◌≡◌, ℕ, cond, List, [], ◌∷◌, map, slice_get, Option, Some, None}
use Rattle.std.specs.Str.{bytes_eq}
use Rattle.cg_svspec.specs.Names.{Among}
use Rattle.cg_svspec.specs.Printable.{AllOf}
use Rattle.cg_desc.specs.Ends.{InstanceIs}
use Rattle.cg_desc.specs.Merged.{design_of}
use Rattle.cg_desc.specs.declared.top.InstDesc.{InstDesc}
use Rattle.cg_desc.specs.declared.top.MergedTop.{MergedTop}
use Rattle.cg_desc.specs.declared.top.NamePair.{NamePair}
use Rattle.cg_desc.specs.declared.top.XbarUse.{XbarUse}
use Rattle.cg_clkrst.specs.Ports.{TiePort, clock_of, reset_of, uses_of, ArePorts}
use Rattle.cg_clkrst.specs.declared.tie.Owner.TheVariants.{Inst, Xbar}
use Rattle.cg_clkrst.specs.declared.tie.Tie.{Tie}

-- ---- sources

-- the source that is named for a port
abbrev pub source_for : List NamePair → List ℕ → Option (List ℕ)
source_for [] port = None
source_for (p ∷ ps) port = cond (bytes_eq p.port port) (Some p.source) (source_for ps port)

-- a source is named for the port, and is one of these
pub record IsSourceFor (known : List (List ℕ)) (pairs : List NamePair) (port source : List ℕ) : Type 0 where
  pub named : source_for pairs port ≡ Some source
  pub there : Among source known

-- The source that the top names for a port: for an instance's clock and for a crossbar's one of the clocks, for an instance's reset one of
-- the resets.
pub data HasSource (m : MergedTop) : TiePort → List ℕ → Type 0 where
  instance_clock : (i : ℕ) (inst : InstDesc) (port source : List ℕ) → InstanceIs (design_of m) i inst → IsSourceFor m.top.sources inst.clocks port source
      → HasSource m (clock_of (Inst i) port) source
  instance_reset : (i : ℕ) (inst : InstDesc) (port source : List ℕ) → InstanceIs (design_of m) i inst → IsSourceFor m.top.resets inst.resets port source
      → HasSource m (reset_of (Inst i) port) source
  crossbar_clock : (x : ℕ) (listed : XbarUse) (port source : List ℕ) → slice_get m.top.xbars x ≡ Some listed → IsSourceFor m.top.sources listed.clocks port source
      → HasSource m (clock_of (Xbar x) port) source

-- ---- ties

-- the port of a tie
abbrev pub port_of : Tie → TiePort
port_of t = record { owner = t.owner; reset = t.reset; port = t.port }

-- the ports of the top, each once, with their sources
pub record AreTies (m : MergedTop) (ties : List Tie) : Type 0 where
  pub ports : ArePorts (uses_of m) (map port_of ties)
  pub sources : AllOf (λ t. HasSource m (port_of t) t.source) ties
