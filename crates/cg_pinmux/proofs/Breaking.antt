-- The rules on signals, as they are tested.
use Rattle.std.proofs.Common.{◌≡◌, ◌≢◌, ℕ, zero, suc, ◌<◌, ◌≤◌, ◌⊎◌, Bool, true, false, not, ◌&&◌, ◌||◌, nat_le, List, [], ◌∷◌, length, take, Option, Some, None, inl, inr, refl, sym, subst, ◌∙◌, arith}
use Rattle.std.specs.Bool.{Decides}
use Rattle.std.specs.List.{list_any, slice_get}
use Rattle.std.proofs.lemmas.Bool.{cases_lt, eq-eqb, eqb-true, false≢true}
use Rattle.std.proofs.lemmas.Bool.Decides.{nat_tests}
use Rattle.std.proofs.lemmas.Option.{slice_get_within}
use Rattle.cg_desc.specs.declared.top.Joint.{Joint}
use Rattle.cg_desc.specs.declared.top.Joint.TheVariants.{Muxed, Direct, Manual}
use Rattle.cg_desc.specs.declared.top.MergedTop.{MergedTop}
use Rattle.cg_desc.specs.declared.top.SignalDesc.{SignalDesc}
use Rattle.cg_desc.proofs.Numbered.{item_at, one_passes, passes_one}
use Rattle.cg_irq.specs.declared.bits.Bit.{Bit}
use Rattle.cg_pinmux.specs.Checks.{IsNormalIfAny, IsNumbered, has_one_bit, is_direct, is_manual, is_muxed, is_none, is_taken, is_too_many, is_unfit, regions_meet, same_pad, share_bit, share_pad, unfits}
use Rattle.cg_pinmux.specs.Listed.{bits_of_signal}
use Rattle.cg_pinmux.specs.Pins.{IsInput, IsOutput, SignalIs}
use Rattle.cg_pinmux.specs.Regions.{IsPad, IsRegion, IsRegionOf, ports_of}
use Rattle.cg_pinmux.specs.Resolved.{AreResolved, IsResolved}
use Rattle.cg_pinmux.specs.Signals.{HasBit, HasPad}
use Rattle.cg_pinmux.specs.Violations.{BreaksSignal, PassesLimit}
use Rattle.cg_pinmux.specs.declared.numbered.Numbered.{Numbered}
use Rattle.cg_pinmux.specs.declared.numbered.Side.{Side}
use Rattle.cg_pinmux.specs.declared.numbered.Side.TheVariants.{Inputs, Outputs}
use Rattle.cg_pinmux.specs.declared.region.Region.{Region}
use Rattle.cg_pinmux.specs.declared.resolved.Resolved.{Resolved}
use Rattle.cg_pinmux.proofs.Lists.{length_below}
use Rattle.cg_pinmux.proofs.Looking.{one_pad}
use Rattle.cg_pinmux.proofs.Members.{first_bit, has_first, one_bit, share, shared, two_bits}
use Rattle.cg_pinmux.proofs.Uses.{IsOn, limit_passes, passes_limit}

-- ---- tests

pub decides_as : {P Q : Type 0} (b : Bool) → Decides b P → (P → Q) → (Q → P) → Decides b Q
decides_as b d to from = (λ is. to (d.0 is), λ q. d.1 (from q))

decides_not : {P : Type 0} (b : Bool) → Decides b P → Decides (not b) (¬ P)
decides_not true d = (λ e. absurd (false≢true e), λ none. absurd (none (d.0 refl)))
decides_not false d = (λ e p. false≢true (d.1 p), λ none. refl)

decides_either : {P Q : Type 0} (a b : Bool) → Decides a P → Decides b Q → Decides (a || b) (P ⊎ Q)
decides_either true b d e = (λ is. inl (d.0 refl), λ is. refl)
decides_either false b d e = (λ is. inr (e.0 is), λ either. elim either [ inl p ↦ absurd (false≢true (d.1 p)) | inr q ↦ e.1 q ])

decides_both : {P Q : Type 0} (a b : Bool) → Decides a P → Decides b Q → Decides (a && b) (P × Q)
decides_both true b d e = (λ is. (d.0 refl, e.0 is), λ both. e.1 both.1)
decides_both false b d e = (λ is. absurd (false≢true is), λ both. d.1 both.0)

decides_manual : (j : Joint) → Decides (is_manual j) (j ≡ Manual)
decides_manual Manual = (λ is. refl, λ is. refl)
decides_manual Muxed = (λ is. absurd (false≢true is), λ is. cc)
decides_manual Direct = (λ is. absurd (false≢true is), λ is. cc)

decides_direct : (j : Joint) → Decides (is_direct j) (j ≡ Direct)
decides_direct Direct = (λ is. refl, λ is. refl)
decides_direct Muxed = (λ is. absurd (false≢true is), λ is. cc)
decides_direct Manual = (λ is. absurd (false≢true is), λ is. cc)

decides_muxed : (j : Joint) → Decides (is_muxed j) (j ≡ Muxed)
decides_muxed Muxed = (λ is. refl, λ is. refl)
decides_muxed Direct = (λ is. absurd (false≢true is), λ is. cc)
decides_muxed Manual = (λ is. absurd (false≢true is), λ is. cc)

-- of the joint of a signal
of_joint : (P : Joint → Type 0) (b : Bool) (r : Resolved) (signal : SignalDesc) → r.joint ≡ signal.joint → Decides b (P r.joint) → Decides b (P signal.joint)
of_joint P b r signal same d = subst (λ (j : Joint). Decides b (P j)) same d

-- ---- what a signal has

normal_of : (m : MergedTop) (signal : SignalDesc) (o : Option Region) → IsRegion m signal o → IsNormalIfAny m o
normal_of m signal None region = tt
normal_of m signal (Some g) region = region.normal

-- ---- what a signal alone breaks

-- two bits
record HasTwo (m : MergedTop) (signal : SignalDesc) : Type 0 where
  a : Bit
  b : Bit
  has_a : HasBit m signal a
  has_b : HasBit m signal b
  differ : a ≢ b

-- it names nothing, or is direct and has no pad or two bits
abbrev Unfit : MergedTop → SignalDesc → Type 0
Unfit m signal = ((b : Bit) → HasBit m signal b → ⊥) ⊎ ((signal.joint ≡ Direct) × (((k : ℕ) → HasPad m signal k → ⊥) ⊎ HasTwo m signal))

decides_no_pad : (m : MergedTop) (signal : SignalDesc) (o : Option ℕ) → IsPad m signal o → Decides (is_none o) ((k : ℕ) → HasPad m signal k → ⊥)
decides_no_pad m signal None pad = (λ is. pad, λ none. refl)
decides_no_pad m signal (Some k) pad = (λ is. absurd (false≢true is), λ none. absurd (none k pad))

decides_two : (m : MergedTop) (signal : SignalDesc) (g : Region) → IsRegionOf m signal g → Decides (not (has_one_bit (ports_of m g.inst) g)) (HasTwo m signal)
decides_two m signal g region = by (has_one_bit (ports_of m g.inst) g) refl where
  by : (t : Bool) → has_one_bit (ports_of m g.inst) g ≡ t → Decides (not t) (HasTwo m signal)
  by true is = (
    λ e. absurd (false≢true e),
    λ two. absurd (two.differ (one_bit m g is two.a ((region.just two.a).0 two.has_a) ∙ sym (one_bit m g is two.b ((region.just two.b).0 two.has_b)))),
  )
  by false is =
      let other = two_bits m g region.normal is in (
        λ e. record { a = first_bit g; b = other.0; has_a = (region.just (first_bit g)).1 (has_first m g region.normal); has_b = (region.just other.0).1 other.1; differ = other.2 },
        λ two. refl,
      )

decides_unfit : (m : MergedTop) (signal : SignalDesc) (r : Resolved) → IsResolved m signal r → Decides (is_unfit m r) (Unfit m signal)
decides_unfit m signal r kept = by r.region r.joint kept.region kept.joint where
  has_bit : (g : Region) → IsRegionOf m signal g → ((b : Bit) → HasBit m signal b → ⊥) → ⊥
  has_bit g region none = none (first_bit g) ((region.just (first_bit g)).1 (has_first m g region.normal))

  other_joint : (g : Region) (j : Joint) → IsRegionOf m signal g → j ≡ signal.joint → (j ≡ Direct → ⊥) → Unfit m signal → ⊥
  other_joint g j region same other (inl none) = has_bit g region none
  other_joint g j region same other (inr (direct, rest)) = other (same ∙ direct)

  by : (o : Option Region) (j : Joint) → IsRegion m signal o → j ≡ signal.joint → Decides (unfits m j r.pad o) (Unfit m signal)
  by None j region same = (λ is. inl region, λ unfit. refl)
  by (Some g) Muxed region same = (λ is. absurd (false≢true is), λ unfit. absurd (other_joint g Muxed region same (λ e. cc) unfit))
  by (Some g) Manual region same = (λ is. absurd (false≢true is), λ unfit. absurd (other_joint g Manual region same (λ e. cc) unfit))
  by (Some g) Direct region same =
      decides_as (is_none r.pad || not (has_one_bit (ports_of m g.inst) g)) (decides_either _ _ (decides_no_pad m signal r.pad kept.pad) (decides_two m signal g region))
      (λ broken. inr (sym same, broken))
      (λ unfit. elim unfit [ inl none ↦ absurd (has_bit g region none) | inr direct ↦ direct.1 ])

-- ---- two signals

decides_meet : (m : MergedTop) (earlier signal : SignalDesc) (a b : Option Region) → IsRegion m earlier a → IsRegion m signal b
    → Decides (regions_meet a b) ((x : Bit) × HasBit m earlier x × HasBit m signal x)
decides_meet m earlier signal None b ra rb = (λ is. absurd (false≢true is), λ both. absurd (ra both.0 both.1))
decides_meet m earlier signal (Some a) None ra rb = (λ is. absurd (false≢true is), λ both. absurd (rb both.0 both.2))
decides_meet m earlier signal (Some a) (Some b) ra rb = (
  λ is. let x = share m a b ra.normal rb.normal is in (x.0, (ra.just x.0).1 x.1, (rb.just x.0).1 x.2),
  λ both. shared m a b both.0 ((ra.just both.0).0 both.1) ((rb.just both.0).0 both.2),
)

decides_same_pad : (m : MergedTop) (earlier signal : SignalDesc) (a b : Option ℕ) → IsPad m earlier a → IsPad m signal b
    → Decides (same_pad a b) ((k : ℕ) × HasPad m earlier k × HasPad m signal k)
decides_same_pad m earlier signal None b pa pb = (λ is. absurd (false≢true is), λ both. absurd (pa both.0 both.1))
decides_same_pad m earlier signal (Some a) None pa pb = (λ is. absurd (false≢true is), λ both. absurd (pb both.0 both.2))
decides_same_pad m earlier signal (Some a) (Some b) pa pb = (
  λ is. (a, pa, subst (HasPad m signal) (sym (eqb-true a b is)) pb),
  λ both. let e : a ≡ both.0 = one_pad m earlier a both.0 pa both.1 in let f : both.0 ≡ b = one_pad m signal both.0 b both.2 pb in eq-eqb a b (e ∙ f),
)

-- two signals that are not manual share a bit
abbrev SharesBit : MergedTop → SignalDesc → SignalDesc → Type 0
SharesBit m earlier signal = (earlier.joint ≢ Manual) × ((signal.joint ≢ Manual) × ((x : Bit) × HasBit m earlier x × HasBit m signal x))

-- two direct signals have one pad
abbrev SharesPad : MergedTop → SignalDesc → SignalDesc → Type 0
SharesPad m earlier signal = (earlier.joint ≡ Direct) × ((signal.joint ≡ Direct) × ((k : ℕ) × HasPad m earlier k × HasPad m signal k))

decides_shares_bit : (m : MergedTop) (earlier signal : SignalDesc) (a b : Resolved) → IsResolved m earlier a → IsResolved m signal b → Decides (share_bit a b) (SharesBit m earlier signal)
unfolding share_bit
decides_shares_bit m earlier signal a b ka kb =
    decides_both (not (is_manual a.joint)) (not (is_manual b.joint) && regions_meet a.region b.region)
    (of_joint (λ j. j ≢ Manual) _ a earlier ka.joint (decides_not (is_manual a.joint) (decides_manual a.joint)))
    (decides_both (not (is_manual b.joint)) (regions_meet a.region b.region) (of_joint (λ j. j ≢ Manual) _ b signal kb.joint (decides_not (is_manual b.joint) (decides_manual b.joint)))
    (decides_meet m earlier signal a.region b.region ka.region kb.region))

decides_shares_pad : (m : MergedTop) (earlier signal : SignalDesc) (a b : Resolved) → IsResolved m earlier a → IsResolved m signal b → Decides (share_pad a b) (SharesPad m earlier signal)
unfolding share_pad
decides_shares_pad m earlier signal a b ka kb =
    decides_both (is_direct a.joint) (is_direct b.joint && same_pad a.pad b.pad) (of_joint (λ j. j ≡ Direct) _ a earlier ka.joint (decides_direct a.joint))
    (decides_both (is_direct b.joint) (same_pad a.pad b.pad) (of_joint (λ j. j ≡ Direct) _ b signal kb.joint (decides_direct b.joint))
    (decides_same_pad m earlier signal a.pad b.pad ka.pad kb.pad))

-- ---- the earlier ones

before_is : {X : Type 0} (xs : List X) (n i : ℕ) (x : X) → slice_get (take n xs) i ≡ Some x → (i < n) × (slice_get xs i ≡ Some x)
before_is [] zero i x is = cc
before_is [] (suc n) i x is = cc
before_is (y ∷ xs) zero i x is = cc
before_is (y ∷ xs) (suc n) zero x is = (omega arith, is)
before_is (y ∷ xs) (suc n) (suc i) x is = let there = before_is xs n i x is in let less = there.0 in (omega arith, there.1)

is_before : {X : Type 0} (xs : List X) (n i : ℕ) (x : X) → i < n → slice_get xs i ≡ Some x → slice_get (take n xs) i ≡ Some x
is_before [] n i x less is = cc
is_before (y ∷ xs) zero i x less is = absurd (omega arith)
is_before (y ∷ xs) (suc n) zero x less is = is
is_before (y ∷ xs) (suc n) (suc i) x less is = is_before xs n i x (omega arith) is

-- an earlier signal is so
record Earlier (m : MergedTop) (P : SignalDesc → Type 0) (s : ℕ) : Type 0 where
  number : ℕ
  earlier : SignalDesc
  before : number < s
  is : SignalIs m number earlier
  holds : P earlier

module _ (m : MergedTop) (rs : List Resolved) (are : AreResolved m rs) where
  signal_for : (s : ℕ) (r : Resolved) → slice_get rs s ≡ Some r → (signal : SignalDesc) × SignalIs m s signal
  signal_for s r there = let within = slice_get_within rs s r there in let count = are.count in item_at m.top.signals s (omega (arith, within, count))

  kept_for : (s : ℕ) (signal : SignalDesc) → SignalIs m s signal → (r : Resolved) × (slice_get rs s ≡ Some r)
  kept_for s signal is = let within = slice_get_within m.top.signals s signal is in let count = are.count in item_at rs s (omega (arith, within, count))

  pub normal_at : (s : ℕ) (r : Resolved) → slice_get rs s ≡ Some r → IsNormalIfAny m r.region
  normal_at s r there = let signal = signal_for s r there in normal_of m signal.0 r.region (are.each s signal.0 r signal.1 there).region

  decides_earlier : (P : SignalDesc → Type 0) (p : Resolved → Bool) → ((earlier : SignalDesc) (other : Resolved) → IsResolved m earlier other → Decides (p other) (P earlier)) → (s : ℕ)
      → Decides (list_any p (take s rs)) (Earlier m P s)
  decides_earlier P p each s = (to, from) where
    to : list_any p (take s rs) ≡ true → Earlier m P s
    to is =
        let one = one_passes p (take s rs) is in
        let before = before_is rs s one.0 one.1 one.2 in
        let signal = signal_for one.0 one.1 before.1 in
        record { number = one.0; earlier = signal.0; before = before.0; is = signal.1; holds = (each signal.0 one.1 (are.each one.0 signal.0 one.1 signal.1 before.1)).0 one.3 }

    from : Earlier m P s → list_any p (take s rs) ≡ true
    from e =
        let r = kept_for e.number e.earlier e.is in
        passes_one p (take s rs) e.number r.0 (is_before rs s e.number r.0 e.before r.1) ((each e.earlier r.0 (are.each e.number e.earlier r.0 e.is r.1)).1 e.holds)

  decides_taken : (s : ℕ) (signal : SignalDesc) (r : Resolved) → IsResolved m signal r
      → Decides (is_taken (take s rs) r) (Earlier m (λ e. SharesBit m e signal) s ⊎ Earlier m (λ e. SharesPad m e signal) s)
  decides_taken s signal r kept =
      decides_either (list_any (λ other. share_bit other r) (take s rs)) (list_any (λ other. share_pad other r) (take s rs))
      (decides_earlier (λ e. SharesBit m e signal) (λ other. share_bit other r) (λ e other k. decides_shares_bit m e signal other r k kept) s)
      (decides_earlier (λ e. SharesPad m e signal) (λ other. share_pad other r) (λ e other k. decides_shares_pad m e signal other r k kept) s)

  -- ---- too many bits

  decides_full : (side : Side) (n : Numbered) → IsNumbered m side rs n → (s : ℕ) → s < length rs → Decides (nat_le n.full_from s) (PassesLimit (IsOn side m) s)
  decides_full side n numbered s within = by (cases_lt s n.full_from) where
    by : (s < n.full_from) ⊎ (n.full_from ≤ s) → Decides (nat_le n.full_from s) (PassesLimit (IsOn side m) s)
    by (inl less) =
        let few = numbered.few (suc s) (omega arith) in
        (λ is. absurd (not_less is), λ passes. let more = passes_limit m side rs are s passes in absurd (omega (arith, few, more)))
      where
        not_less : nat_le n.full_from s ≡ true → ⊥
        not_less is = let most : n.full_from ≤ s = grind (arith, nat_tests) in omega (arith, most, less)
    by (inr most) =
        let full = numbered.full (omega (arith, most, within)) in
        let more = length_below (λ k. bits_of_signal m side (slice_get rs k)) (suc n.full_from) (suc s) (omega (arith, most)) in
        (λ is. limit_passes m side rs are s (omega (arith, full, more)), λ passes. grind (arith, nat_tests))

  decides_too_many : (ins outs : Numbered) → IsNumbered m Inputs rs ins → IsNumbered m Outputs rs outs → (s : ℕ) → s < length rs → (signal : SignalDesc) (r : Resolved) → IsResolved m signal r
      → Decides (is_too_many s r ins outs) ((signal.joint ≡ Muxed) × (PassesLimit (IsInput m) s ⊎ PassesLimit (IsOutput m) s))
  decides_too_many ins outs are_ins are_outs s within signal r kept =
      decides_both (is_muxed r.joint) (nat_le ins.full_from s || nat_le outs.full_from s) (of_joint (λ j. j ≡ Muxed) _ r signal kept.joint (decides_muxed r.joint))
      (decides_either (nat_le ins.full_from s) (nat_le outs.full_from s) (decides_full Inputs ins are_ins s within) (decides_full Outputs outs are_outs s within))

  -- ---- all rules

  abbrev AllBreaks : ℕ → SignalDesc → Type 0
  AllBreaks s signal =
      (Unfit m signal ⊎ (Earlier m (λ e. SharesBit m e signal) s ⊎ Earlier m (λ e. SharesPad m e signal) s))
      ⊎ ((signal.joint ≡ Muxed) × (PassesLimit (IsInput m) s ⊎ PassesLimit (IsOutput m) s))

  breaks_to : (s : ℕ) (signal : SignalDesc) → AllBreaks s signal → BreaksSignal m s signal
  breaks_to s signal (inl (inl (inl none))) = BreaksSignal.names_nothing none
  breaks_to s signal (inl (inl (inr (direct, inl none)))) = BreaksSignal.no_pad direct none
  breaks_to s signal (inl (inl (inr (direct, inr two)))) = BreaksSignal.two_bits two.a two.b direct two.has_a two.has_b two.differ
  breaks_to s signal (inl (inr (inl e))) = let h = e.holds in BreaksSignal.bit_twice e.number e.earlier h.1.1.0 e.before e.is h.0 h.1.0 h.1.1.1 h.1.1.2
  breaks_to s signal (inl (inr (inr e))) = let h = e.holds in BreaksSignal.pad_twice e.number h.1.1.0 e.earlier e.before e.is h.0 h.1.0 h.1.1.1 h.1.1.2
  breaks_to s signal (inr (muxed, inl passes)) = BreaksSignal.too_many_inputs muxed passes
  breaks_to s signal (inr (muxed, inr passes)) = BreaksSignal.too_many_outputs muxed passes

  breaks_from : (s : ℕ) (signal : SignalDesc) → BreaksSignal m s signal → AllBreaks s signal
  breaks_from s signal (BreaksSignal.names_nothing none) = inl (inl (inl none))
  breaks_from s signal (BreaksSignal.two_bits a b direct has_a has_b differ) = inl (inl (inr (direct, inr (record { a = a; b = b; has_a = has_a; has_b = has_b; differ = differ }))))
  breaks_from s signal (BreaksSignal.no_pad direct none) = inl (inl (inr (direct, inl none)))
  breaks_from s signal (BreaksSignal.pad_twice k pad earlier less is a b has also) =
      inl (inr (inr (record { number = k; earlier = earlier; before = less; is = is; holds = (a, (b, (pad, has, also))) })))
  breaks_from s signal (BreaksSignal.bit_twice k earlier bit less is a b has also) =
      inl (inr (inl (record { number = k; earlier = earlier; before = less; is = is; holds = (a, (b, (bit, has, also))) })))
  breaks_from s signal (BreaksSignal.too_many_inputs muxed passes) = inr (muxed, inl passes)
  breaks_from s signal (BreaksSignal.too_many_outputs muxed passes) = inr (muxed, inr passes)

  pub decides_breaks : (ins outs : Numbered) → IsNumbered m Inputs rs ins → IsNumbered m Outputs rs outs → (s : ℕ) (r : Resolved) → slice_get rs s ≡ Some r → (signal : SignalDesc) → SignalIs m s signal
      → Decides ((is_unfit m r || is_taken (take s rs) r) || is_too_many s r ins outs) (BreaksSignal m s signal)
  decides_breaks ins outs are_ins are_outs s r there signal is =
      let kept = are.each s signal r is there in
      let within = slice_get_within rs s r there in
      decides_as _
      (decides_either (is_unfit m r || is_taken (take s rs) r) (is_too_many s r ins outs)
      (decides_either (is_unfit m r) (is_taken (take s rs) r) (decides_unfit m signal r kept) (decides_taken s signal r kept))
      (decides_too_many ins outs are_ins are_outs s within signal r kept))
      (breaks_to s signal) (breaks_from s signal)
