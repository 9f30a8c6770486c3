-- The bits of the direct signals with their pads, and the pins of a top that breaks no rule.
use Rattle.std.proofs.Common.{◌≡◌, ℕ, suc, ◌+◌, ◌<◌, ◌≤◌, ◌⊎◌, Bool, true, false, List, [], ◌∷◌, ◌++◌, length, map, Option, Some, None, inl, inr, refl, sym, ap, subst, ◌∙◌, arith}
use Rattle.std.specs.List.{slice_get}
use Rattle.std.proofs.lemmas.Bool.{cases_lt}
use Rattle.std.proofs.lemmas.List.{append-nil}
use Rattle.std.proofs.lemmas.Option.{slice_get_within}
use Rattle.cg_svspec.specs.Names.{Among}
use Rattle.cg_desc.specs.declared.fault.Fault.{Fault}
use Rattle.cg_desc.specs.declared.top.Joint.{Joint}
use Rattle.cg_desc.specs.declared.top.Joint.TheVariants.{Muxed, Direct, Manual}
use Rattle.cg_desc.specs.declared.top.MergedTop.{MergedTop}
use Rattle.cg_desc.specs.declared.top.SignalDesc.{SignalDesc}
use Rattle.cg_desc.proofs.Numbered.{item_at}
use Rattle.cg_irq.specs.declared.bits.Bit.{Bit}
use Rattle.cg_pinmux.specs.Checks.{IsNumbered, has_one_bit}
use Rattle.cg_pinmux.specs.Listed.{below, bits_below, bits_of_joint, bits_of_signal, tie_for, tie_of, ties_below, ties_of, ties_of_signal}
use Rattle.cg_pinmux.specs.Pins.{AreNumbered, ArePadTies, IsPadTie, SignalIs, SignalPad}
use Rattle.cg_pinmux.specs.Regions.{IsPad, IsRegion, IsRegionOf, ports_of}
use Rattle.cg_pinmux.specs.Resolved.{AreResolved, IsResolved}
use Rattle.cg_pinmux.specs.Signals.{HasBit, HasPad}
use Rattle.cg_pinmux.specs.Violations.{BreaksSignal, IsPinned, PassesLimit, Violates}
use Rattle.cg_pinmux.specs.declared.map.PadTie.{PadTie}
use Rattle.cg_pinmux.specs.declared.numbered.Numbered.{Numbered}
use Rattle.cg_pinmux.specs.declared.numbered.Side.{Side}
use Rattle.cg_pinmux.specs.declared.numbered.Side.TheVariants.{Inputs, Outputs}
use Rattle.cg_pinmux.specs.declared.region.Region.{Region}
use Rattle.cg_pinmux.specs.declared.resolved.Resolved.{Resolved}
use Rattle.cg_pinmux.proofs.Lists.{Rises, among_below, below_among, below_next, below_none, map_below, numbers_by_rises, rises_below}
use Rattle.cg_pinmux.proofs.Looking.{one_pad}
use Rattle.cg_pinmux.proofs.Members.{first_bit, has_first, one_bit, two_bits}
use Rattle.cg_pinmux.proofs.Uses.{IsOn, among_image, below_same, image_among, limit_passes, numbered}

-- ---- one signal after the other

pub ties_none : (rs : List Resolved) (ties : List PadTie) → ties ≡ [] → ties ≡ ties_below rs 0
ties_none rs ties is = is ∙ sym (below_none (λ s. ties_of_signal (slice_get rs s)))

pub ties_next : (rs : List Resolved) (n : ℕ) (r : Resolved) (ties new : List PadTie) → slice_get rs n ≡ Some r → ties ≡ ties_below rs n → new ≡ ties ++ ties_of (tie_of r) → new ≡ ties_below rs (n + 1)
ties_next rs n r ties new there is so =
    let here : ties_of_signal (slice_get rs n) ≡ ties_of (tie_of r) = ap ties_of_signal there in
    let next : ties_below rs (suc n) ≡ ties_below rs n ++ ties_of_signal (slice_get rs n) = below_next (λ s. ties_of_signal (slice_get rs s)) n in
    let one : suc n ≡ n + 1 = omega arith in
    so ∙ ap (λ (xs : List PadTie). xs ++ ties_of (tie_of r)) is ∙ ap (λ (xs : List PadTie). ties_below rs n ++ xs) (sym here) ∙ sym next ∙ ap (ties_below rs) one

-- ---- ties with their signals

abbrev tagged_ties : ℕ → List PadTie → List SignalPad
tagged_ties s ties = map (λ t. record { signal = s; tie = t }) ties

-- what a tie is made of
record TieOf (r : Resolved) (t : PadTie) : Type 0 where
  region : Region
  region_is : r.region ≡ Some region
  joint_is : r.joint ≡ Direct
  pad_is : r.pad ≡ Some t.pad
  bit_is : t.bit ≡ first_bit region

tie_made : (r : Resolved) (t : PadTie) → Among t (ties_of (tie_of r)) → TieOf r t
tie_made r t among = by r.joint r.region r.pad refl refl refl among where
  by : (j : Joint) (g : Option Region) (k : Option ℕ) → r.joint ≡ j → r.region ≡ g → r.pad ≡ k → Among t (ties_of (tie_for j g k)) → TieOf r t
  by Direct (Some g) (Some k) joint region pad (inl is) = record {
    region = g;
    region_is = region;
    joint_is = joint;
    pad_is = pad ∙ ap Some (sym (ap (λ (x : PadTie). x.pad) is));
    bit_is = ap (λ (x : PadTie). x.bit) is;
  }
  by Direct (Some g) (Some k) joint region pad (inr none) = absurd none
  by Direct (Some g) None joint region pad among = absurd among
  by Direct None k joint region pad among = absurd among
  by Muxed g k joint region pad among = absurd among
  by Manual g k joint region pad among = absurd among

made_tie : (r : Resolved) (t : PadTie) → TieOf r t → Among t (ties_of (tie_of r))
made_tie r t made =
    let bit = made.bit_is in
    let here : Among t (ties_of (tie_for Direct (Some made.region) (Some t.pad))) = inl (λ i. record { bit = bit i; pad = t.pad }) in
    rw (made.joint_is, made.region_is, made.pad_is) here

module _ (m : MergedTop) (rs : List Resolved) (are : AreResolved m rs) (unbroken : (f : Fault) → ¬ Violates m f) where
  unbroken_at : (s : ℕ) (signal : SignalDesc) → SignalIs m s signal → BreaksSignal m s signal → ⊥
  unbroken_at s signal is breaks = unbroken _ (Violates.at_signal s signal is breaks)

  signal_for : (s : ℕ) (r : Resolved) → slice_get rs s ≡ Some r → (signal : SignalDesc) × SignalIs m s signal
  signal_for s r there = let within = slice_get_within rs s r there in let count = are.count in item_at m.top.signals s (omega (arith, within, count))

  kept_for : (s : ℕ) (signal : SignalDesc) → SignalIs m s signal → (r : Resolved) × (slice_get rs s ≡ Some r)
  kept_for s signal is = let within = slice_get_within m.top.signals s signal is in let count = are.count in item_at rs s (omega (arith, within, count))

  -- a tie of a signal that is kept is one of the top's
  tie_is : (s : ℕ) (r : Resolved) (t : PadTie) → slice_get rs s ≡ Some r → TieOf r t → IsPadTie m (record { signal = s; tie = t })
  tie_is s r t there made =
      let signal = signal_for s r there in
      let kept = are.each s signal.0 r signal.1 there in
      let region : IsRegionOf m signal.0 made.region = subst (IsRegion m signal.0) made.region_is kept.region in
      record {
        signal = signal.0;
        is = signal.1;
        direct = sym kept.joint ∙ made.joint_is;
        has = subst (HasBit m signal.0) (sym made.bit_is) ((region.just (first_bit made.region)).1 (has_first m made.region region.normal));
        pad = subst (IsPad m signal.0) made.pad_is kept.pad;
      }

  -- a direct signal's bit is the first of its region
  only_bit : (s : ℕ) (signal : SignalDesc) (g : Region) (b : Bit) → SignalIs m s signal → signal.joint ≡ Direct → IsRegionOf m signal g → HasBit m signal b → b ≡ first_bit g
  only_bit s signal g b is direct region has = by (has_one_bit (ports_of m g.inst) g) refl where
    by : (t : Bool) → has_one_bit (ports_of m g.inst) g ≡ t → b ≡ first_bit g
    by true one = one_bit m g one b ((region.just b).0 has)
    by false several =
        let other = two_bits m g region.normal several in
        absurd (unbroken_at s signal is (BreaksSignal.two_bits (first_bit g) other.0 direct ((region.just (first_bit g)).1 (has_first m g region.normal)) ((region.just other.0).1 other.1) other.2))

  is_tie : (u : SignalPad) → IsPadTie m u → (r : Resolved) × (slice_get rs u.signal ≡ Some r) × TieOf r u.tie
  is_tie u i =
      let r = kept_for u.signal i.signal i.is in
      let kept = are.each u.signal i.signal r.0 i.is r.1 in
      (r.0, r.1, by r.0 kept r.0.region r.0.pad refl refl)
    where
      by : (r : Resolved) → IsResolved m i.signal r → (g : Option Region) (k : Option ℕ) → r.region ≡ g → r.pad ≡ k → TieOf r u.tie
      by r kept None k region pad = absurd (let none : IsRegion m i.signal None = subst (IsRegion m i.signal) region kept.region in none u.tie.bit i.has)
      by r kept (Some g) None region pad = absurd (let none : IsPad m i.signal None = subst (IsPad m i.signal) pad kept.pad in none u.tie.pad i.pad)
      by r kept (Some g) (Some k) region pad =
          let of_region : IsRegionOf m i.signal g = subst (IsRegion m i.signal) region kept.region in
          let of_pad : HasPad m i.signal k = subst (IsPad m i.signal) pad kept.pad in
          record {
            region = g;
            region_is = region;
            joint_is = kept.joint ∙ i.direct;
            pad_is = pad ∙ ap Some (one_pad m i.signal k u.tie.pad of_pad i.pad);
            bit_is = only_bit u.signal i.signal g u.tie.bit i.is i.direct of_region i.has;
          }

  abbrev ties_at : ℕ → List SignalPad
  ties_at s = tagged_ties s (ties_of_signal (slice_get rs s))

  in_ties : (s : ℕ) (u : SignalPad) → Among u (ties_at s) → (u.signal ≡ s) × IsPadTie m u
  in_ties s u among = by (slice_get rs s) refl among where
    by : (o : Option Resolved) → slice_get rs s ≡ o → Among u (tagged_ties s (ties_of_signal o)) → (u.signal ≡ s) × IsPadTie m u
    by None there among = absurd among
    by (Some r) there among =
        let image = image_among (λ (t : PadTie). record { signal = s; tie = t }) (ties_of (tie_of r)) u among in
        let at : u.signal ≡ s = ap (λ (x : SignalPad). x.signal) image.2 in
        (at, subst (IsPadTie m) (sym image.2) (tie_is s r image.0 there (tie_made r image.0 image.1)))

  ties_in : (u : SignalPad) → IsPadTie m u → Among u (ties_at u.signal)
  ties_in u i =
      let one = is_tie u i in
      let here : Among u (tagged_ties u.signal (ties_of_signal (Some one.0))) = among_image (λ (t : PadTie). record { signal = u.signal; tie = t }) (ties_of (tie_of one.0)) u.tie (made_tie one.0 u.tie one.2) in
      subst (λ (o : Option Resolved). Among u (tagged_ties u.signal (ties_of_signal o))) (sym one.1) here

  untag : (s : ℕ) (ties : List PadTie) → map (λ (u : SignalPad). u.tie) (tagged_ties s ties) ≡ ties
  untag s [] = refl
  untag s (t ∷ ties) = ap (λ (xs : List PadTie). t ∷ xs) (untag s ties)

  ties_rise : (s : ℕ) → Rises (λ (x y : SignalPad). x.signal < y.signal) (ties_at s)
  ties_rise s = by (slice_get rs s) where
    one : (o : Option PadTie) → Rises (λ (x y : SignalPad). x.signal < y.signal) (tagged_ties s (ties_of o))
    one None = tt
    one (Some t) = (tt, tt)

    by : (o : Option Resolved) → Rises (λ (x y : SignalPad). x.signal < y.signal) (tagged_ties s (ties_of_signal o))
    by None = tt
    by (Some r) = one (tie_of r)

  -- the ties of all signals
  pub are_ties : ArePadTies m (ties_below rs (length rs))
  are_ties = record {
    uses = below_ties;
    members = λ u. (to u, from u);
    in_order = numbers_by_rises (λ (x y : SignalPad). x.signal < y.signal) below_ties (rises_below (λ (x y : SignalPad). x.signal < y.signal) ties_at (length rs) ties_rise across);
    ties_are = map_below (λ (u : SignalPad). u.tie) ties_at (length rs)
        ∙ below_same (λ s. map (λ (u : SignalPad). u.tie) (ties_at s)) (λ s. ties_of_signal (slice_get rs s)) (λ s. untag s (ties_of_signal (slice_get rs s))) (length rs);
  } where
    below_ties : List SignalPad
    below_ties = below ties_at (length rs)

    to : (u : SignalPad) → Among u below_ties → IsPadTie m u
    to u among = let one = among_below ties_at (length rs) u among in (in_ties one.number u one.found).1

    from : (u : SignalPad) → IsPadTie m u → Among u below_ties
    from u i =
        let r = kept_for u.signal i.signal i.is in
        below_among ties_at (length rs) u u.signal (slice_get_within rs u.signal r.0 r.1) (ties_in u i)

    across : (i j : ℕ) (x y : SignalPad) → i < j → Among x (ties_at i) → Among y (ties_at j) → x.signal < y.signal
    across i j x y less a b = let at_x = (in_ties i x a).0 in let at_y = (in_ties j y b).0 in omega (arith, at_x, at_y, less)

  -- ---- all numbers are given

  -- a signal with which bits are first too many is muxed
  muxed_at : (side : Side) (s : ℕ) (r : Resolved) → slice_get rs s ≡ Some r → length (bits_below m side rs s) ≤ 65536 → 65536 < length (bits_below m side rs (suc s)) → r.joint ≡ Muxed
  muxed_at side s r there few more = by r.joint refl where
    same : (j : Joint) → r.joint ≡ j → bits_of_joint m side j r.region ≡ [] → ⊥
    same j joint none =
        let here : bits_of_signal m side (slice_get rs s) ≡ [] = ap (bits_of_signal m side) there ∙ ap (λ (x : Joint). bits_of_joint m side x r.region) joint ∙ none in
        let next : bits_below m side rs (suc s) ≡ bits_below m side rs s ++ bits_of_signal m side (slice_get rs s) = below_next (λ k. bits_of_signal m side (slice_get rs k)) s in
        let count = ap length (next ∙ ap (λ (xs : List Bit). bits_below m side rs s ++ xs) here ∙ append-nil (bits_below m side rs s)) in
        omega (arith, count, few, more)

    by : (j : Joint) → r.joint ≡ j → r.joint ≡ Muxed
    by Muxed is = is
    by Direct is = absurd (same Direct is refl)
    by Manual is = absurd (same Manual is refl)

  passes_breaks : (side : Side) (s : ℕ) (signal : SignalDesc) → signal.joint ≡ Muxed → PassesLimit (IsOn side m) s → BreaksSignal m s signal
  passes_breaks Inputs s signal muxed passes = BreaksSignal.too_many_inputs muxed passes
  passes_breaks Outputs s signal muxed passes = BreaksSignal.too_many_outputs muxed passes

  all_numbered : (side : Side) (n : Numbered) → IsNumbered m side rs n → n.full_from ≡ length rs
  all_numbered side n are_numbered = by (cases_lt n.full_from (length rs)) where
    by : (n.full_from < length rs) ⊎ (length rs ≤ n.full_from) → n.full_from ≡ length rs
    by (inr most) = let limit = are_numbered.most in omega (arith, most, limit)
    by (inl less) =
        let r = item_at rs n.full_from less in
        let signal = signal_for n.full_from r.0 r.1 in
        let kept = are.each n.full_from signal.0 r.0 signal.1 r.1 in
        let muxed = muxed_at side n.full_from r.0 r.1 (are_numbered.few n.full_from (omega arith)) (are_numbered.full less) in
        absurd (unbroken_at n.full_from signal.0 signal.1 (passes_breaks side n.full_from signal.0 (sym kept.joint ∙ muxed) (limit_passes m side rs are n.full_from (are_numbered.full less))))

  pub are_numbers : (side : Side) (n : Numbered) → IsNumbered m side rs n → AreNumbered (IsOn side m) n.bits
  are_numbers side n are_numbered = numbered m side rs are n.bits (are_numbered.all (all_numbered side n are_numbered))

  -- the pins
  pub pinned : (ins outs : Numbered) (ties : List PadTie) → IsNumbered m Inputs rs ins → IsNumbered m Outputs rs outs → ties ≡ ties_below rs (length rs)
      → IsPinned m (record { ins = ins.bits; outs = outs.bits; pads = ties })
  pinned ins outs ties are_ins are_outs is = record {
    unbroken = unbroken;
    are_its = record {
      inputs = are_numbers Inputs ins are_ins;
      outputs = are_numbers Outputs outs are_outs;
      pads = subst (ArePadTies m) (sym is) are_ties;
    };
  }
