-- How the rules on signals are tested, and what the walks over signals give.
use Rattle.std.specs.Prelude.{◌≡◌, ℕ, suc, ◌<◌, ◌≤◌, ◌-◌, ◌+◌, Bool, true, false, ◌&&◌, ◌||◌, not, eqb, nat_lt, nat_le, min, List, length, slice_get, Option, Some, None}
use Rattle.std.specs.List.{list_any}
use Rattle.cg_svspec.specs.Printable.{AllOf}
use Rattle.cg_desc.specs.declared.block.IoDesc.{IoDesc}
use Rattle.cg_desc.specs.declared.top.Joint.{Joint}
use Rattle.cg_desc.specs.declared.top.Joint.TheVariants.{Muxed, Direct, Manual}
use Rattle.cg_desc.specs.declared.top.MergedTop.{MergedTop}
use Rattle.cg_desc.specs.declared.top.SignalDesc.{SignalDesc}
use Rattle.cg_finding.specs.Finding.{Finding}
use Rattle.cg_finding.specs.Rules as rules
use Rattle.cg_pinmux.specs.Listed.{bits_below}
use Rattle.cg_pinmux.specs.Pins.{SignalIs}
use Rattle.cg_pinmux.specs.Regions.{IsNormal, ports_of}
use Rattle.cg_pinmux.specs.Violations.{BreaksSignal}
use Rattle.cg_pinmux.specs.declared.numbered.Numbered.{Numbered}
use Rattle.cg_pinmux.specs.declared.numbered.Side.{Side}
use Rattle.cg_pinmux.specs.declared.numbered.Side.TheVariants.{Inputs, Outputs}
use Rattle.cg_pinmux.specs.declared.pinning.Looked.{Looked}
use Rattle.cg_pinmux.specs.Resolved.{AreResolved}
use Rattle.cg_pinmux.specs.declared.region.Region.{Region}
use Rattle.cg_pinmux.specs.declared.resolved.Resolved.{Resolved}

-- ---- regions

-- regions of one instance whose ports meet and whose bits meet
unfoldable pub meets : Region → Region → Bool
meets a b = eqb a.inst b.inst && (nat_lt a.first b.end && (nat_lt b.first a.end && (nat_lt a.low b.high && nat_lt b.low a.high)))

abbrev pub has_one_in : Region → Option IoDesc → Bool
has_one_in g None = false
has_one_in g (Some port) = eqb (g.end - g.first) 1 && eqb (min port.width g.high) (g.low + 1)

-- the region has one port, of which one bit is in it
unfoldable pub has_one_bit : List IoDesc → Region → Bool
has_one_bit ports g = has_one_in g (slice_get ports g.first)

-- a region that is there has bits
abbrev pub IsNormalIfAny : MergedTop → Option Region → Type 0
IsNormalIfAny m None = Unit {0}
IsNormalIfAny m (Some g) = IsNormal (ports_of m g.inst) g

abbrev pub AreNormal : MergedTop → List Resolved → Type 0
AreNormal m rs = AllOf (λ r. IsNormalIfAny m r.region) rs

-- ---- numbers

-- The bits are those of the signals up to `full_from`: with that muxed signal they are first more than 65,536, or it is the number of all
-- signals.
pub record IsNumbered (m : MergedTop) (side : Side) (rs : List Resolved) (n : Numbered) : Type 0 where
  pub most : n.full_from ≤ length rs
  pub few : (s : ℕ) → s ≤ n.full_from → length (bits_below m side rs s) ≤ 65536
  pub full : n.full_from < length rs → 65536 < length (bits_below m side rs (suc n.full_from))
  pub all : n.full_from ≡ length rs → n.bits ≡ bits_below m side rs (length rs)

-- ---- tests

abbrev pub is_manual : Joint → Bool
is_manual Manual = true
is_manual Muxed = false
is_manual Direct = false

abbrev pub is_direct : Joint → Bool
is_direct Direct = true
is_direct Muxed = false
is_direct Manual = false

abbrev pub is_muxed : Joint → Bool
is_muxed Muxed = true
is_muxed Direct = false
is_muxed Manual = false

abbrev pub regions_meet : Option Region → Option Region → Bool
regions_meet (Some a) (Some b) = meets a b
regions_meet _ _ = false

abbrev pub same_pad : Option ℕ → Option ℕ → Bool
same_pad (Some a) (Some b) = eqb a b
same_pad _ _ = false

-- neither is manual, and they share a bit
unfoldable pub share_bit : Resolved → Resolved → Bool
share_bit a b = not (is_manual a.joint) && (not (is_manual b.joint) && regions_meet a.region b.region)

-- both are direct, and they have one pad
unfoldable pub share_pad : Resolved → Resolved → Bool
share_pad a b = is_direct a.joint && (is_direct b.joint && same_pad a.pad b.pad)

-- an earlier signal has a bit or a pad of this one, where they may not
abbrev pub is_taken : List Resolved → Resolved → Bool
is_taken earlier r = list_any (λ other. share_bit other r) earlier || list_any (λ other. share_pad other r) earlier

abbrev pub is_none : {X : Type 0} → Option X → Bool
is_none None = true
is_none (Some x) = false

-- what a signal of this joint names is not what it asks for
abbrev pub unfits : MergedTop → Joint → Option ℕ → Option Region → Bool
unfits m joint pad None = true
unfits m Direct pad (Some g) = is_none pad || not (has_one_bit (ports_of m g.inst) g)
unfits m Muxed pad (Some g) = false
unfits m Manual pad (Some g) = false

abbrev pub is_unfit : MergedTop → Resolved → Bool
is_unfit m r = unfits m r.joint r.pad r.region

-- with a muxed signal a vector has too many bits
abbrev pub is_too_many : ℕ → Resolved → Numbered → Numbered → Bool
is_too_many s r ins outs = is_muxed r.joint && (nat_le ins.full_from s || nat_le outs.full_from s)

-- ---- what is told

-- a signal breaks a rule, and it is told so
pub record SomeBreaks (m : MergedTop) (f : Finding) : Type 0 where
  pub number : ℕ
  pub signal : SignalDesc
  pub is : SignalIs m number signal
  pub breaks : BreaksSignal m number signal
  pub told : f ≡ rules.bad_pin signal.at signal.inst

-- ---- all of them

-- the signals are those of the top, and the bits are numbered by them
pub record AreLooked (m : MergedTop) (l : Looked) : Type 0 where
  pub resolved : AreResolved m l.signals
  pub ins : IsNumbered m Inputs l.signals l.ins
  pub outs : IsNumbered m Outputs l.signals l.outs
