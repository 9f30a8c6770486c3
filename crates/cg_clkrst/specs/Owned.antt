-- The ports of one owner, and what is named for them.
use Rattle.std.specs.Prelude.{◌≡◌, ◌↔◌, ◌⊎◌, ◌&&◌, ℕ, Bool, true, false, cond, List, ◌++◌, map, take}
use Rattle.std.specs.Bool.{beq}
use Rattle.std.specs.Str.{bytes_eq}
use Rattle.cg_svspec.specs.Names.{Among}
use Rattle.cg_svspec.specs.Printable.{AllOf}
use Rattle.cg_desc.specs.declared.place.At.{At}
use Rattle.cg_desc.specs.declared.top.MergedTop.{MergedTop}
use Rattle.cg_desc.specs.declared.top.NamePair.{NamePair}
use Rattle.cg_desc.specs.declared.top.TopDesc.{TopDesc}
use Rattle.cg_finding.specs.Finding.{Finding}
use Rattle.cg_finding.specs.Rules as rules
use Rattle.cg_irq.specs.Walked.{SomeBreaks}
use Rattle.cg_clkrst.specs.Ports.{ArePorts, TiePort, instance_uses, listed_uses, uses_of}
use Rattle.cg_clkrst.specs.Ties.{HasSource, IsSourceFor, port_of}
use Rattle.cg_clkrst.specs.Violations.{LacksSource}
use Rattle.cg_clkrst.specs.declared.owned.Owned.{Owned}
use Rattle.cg_clkrst.specs.declared.ports.Port.{Port}
use Rattle.cg_clkrst.specs.declared.tie.Owner.{Owner}
use Rattle.cg_clkrst.specs.declared.tie.Owner.TheVariants.{Inst, Xbar}
use Rattle.cg_clkrst.specs.declared.tie.Tie.{Tie}

-- ---- ports

-- a port of this owner
abbrev pub port_at : Owner → Port → TiePort
port_at owner p = record { owner = owner; reset = p.reset; port = p.name.now }

-- two ports of one owner are one
unfoldable pub is_same : Port → Port → Bool
is_same p q = beq p.reset q.reset && bytes_eq p.name.now q.name.now

-- just the ports of this owner
abbrev pub AreOwn : MergedTop → Owner → List TiePort → Type 0
AreOwn m owner ports = (p : TiePort) → Among p ports ↔ (Among p (uses_of m) × (p.owner ≡ owner))

-- ---- sources

-- by an owner's lists: a reset's source is one of the top's resets, and a clock's one of its clocks
abbrev pub Names : TopDesc → List NamePair → List NamePair → Bool → List ℕ → List ℕ → Type 0
Names top clocks resets true port source = IsSourceFor top.resets resets port source
Names top clocks resets false port source = IsSourceFor top.sources clocks port source

-- the lists are those that the top has for the owner
abbrev pub AreFor : MergedTop → Owned → Type 0
AreFor m o = (reset : Bool) (port source : List ℕ) → HasSource m (record { owner = o.owner; reset = reset; port = port }) source ↔ Names m.top o.clocks.now o.resets.now reset port source

-- ---- what an owner breaks

-- a clock or a reset lacks its source
abbrev pub lack_of : At → TiePort → Finding
lack_of at p = cond p.reset (rules.bad_reset at p.port) (rules.bad_clock at p.port)

-- one of the owner's ports does, told at this place
pub record OwnerLacks (m : MergedTop) (owner : Owner) (at : At) (f : Finding) : Type 0 where
  pub port : TiePort
  pub own : port.owner ≡ owner
  pub lacks : LacksSource m port
  pub is : f ≡ lack_of at port

-- one of the ports of an instance or of a listed crossbar does
abbrev pub BreaksTop : MergedTop → Finding → Type 0
BreaksTop m f = SomeBreaks (λ i inst. OwnerLacks m (Inst i) inst.at) m.top.insts f ⊎ SomeBreaks (λ x listed. OwnerLacks m (Xbar x) listed.at) m.top.xbars f

-- this port of the owner does
abbrev pub LacksAt : MergedTop → Owned → Port → Finding → Type 0
LacksAt m o p f = ((source : List ℕ) → HasSource m (port_at o.owner p) source → ⊥) × (f ≡ lack_of o.at (port_at o.owner p))

-- each of the ports has its source
abbrev pub HaveSources : MergedTop → List TiePort → Type 0
HaveSources m ports = (p : TiePort) → Among p ports → (source : List ℕ) × HasSource m p source

-- ---- ties

-- no port is one of both
abbrev pub AreApart : List TiePort → List TiePort → Type 0
AreApart uses ports = (p : TiePort) → Among p uses → Among p ports → ⊥

-- the ports that are used, each once, with their sources
pub record AreTied (m : MergedTop) (uses : List TiePort) (ties : List Tie) : Type 0 where
  pub ports : ArePorts uses (map port_of ties)
  pub sources : AllOf (λ t. HasSource m (port_of t) t.source) ties

-- the ports of the instances and of the crossbars that are listed before number x
abbrev pub uses_before : MergedTop → ℕ → List TiePort
uses_before m x = instance_uses m.blocks 0 m.kinds ++ listed_uses m.xbars 0 (take x m.top.xbars)
