-- Signals as they are looked up once: a region, a pad and how they are joined.
use Rattle.std.specs.Prelude.{◌≡◌, ℕ, List, length, slice_get, Some}
use Rattle.cg_desc.specs.declared.top.MergedTop.{MergedTop}
use Rattle.cg_desc.specs.declared.top.SignalDesc.{SignalDesc}
use Rattle.cg_pinmux.specs.Pins.{SignalIs}
use Rattle.cg_pinmux.specs.Regions.{IsPad, IsRegion}
use Rattle.cg_pinmux.specs.declared.resolved.Resolved.{Resolved}

-- what is kept of a signal
pub record IsResolved (m : MergedTop) (s : SignalDesc) (r : Resolved) : Type 0 where
  pub joint : r.joint ≡ s.joint
  pub region : IsRegion m s r.region
  pub pad : IsPad m s r.pad

-- each signal of the top is looked up
pub record AreResolved (m : MergedTop) (rs : List Resolved) : Type 0 where
  pub count : length rs ≡ length m.top.signals
  pub each : (s : ℕ) (signal : SignalDesc) (r : Resolved) → SignalIs m s signal → slice_get rs s ≡ Some r → IsResolved m signal r
