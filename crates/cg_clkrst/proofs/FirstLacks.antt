-- The first port that lacks its source.
use Rattle.std.proofs.Common.{◌≡◌, ◌↔◌, ◌<◌, ◌⊎◌, ℕ, Bool, true, false, List, [], get_or, length, map, Option, Some, None, Err, inl, inr, refl, sym, ap, subst, ◌∙◌}
use Rattle.std.specs.List.{slice_get}
use Rattle.std.proofs.lemmas.Option.{get_or_from_slice_get, slice_get-get_or, slice_get_within}
use Rattle.cg_desc.specs.declared.fault.DescFault.{DescFault}
use Rattle.cg_desc.specs.declared.fault.DescFault.TheVariants as refusal
use Rattle.cg_desc.specs.declared.fault.Fault.{Fault}
use Rattle.cg_desc.specs.declared.place.At.{At}
use Rattle.cg_desc.specs.declared.top.InstDesc.{InstDesc}
use Rattle.cg_desc.specs.declared.top.MergedTop.{MergedTop}
use Rattle.cg_desc.specs.declared.top.NamePair.{NamePair}
use Rattle.cg_desc.specs.declared.top.XbarUse.{XbarUse}
use Rattle.cg_desc.proofs.Numbered.{image_at, image_of, item_among, item_at, item_number, same_item}
use Rattle.cg_finding.specs.Finding.{Finding, in_file}
use Rattle.cg_finding.specs.Refusal.{Refuses}
use Rattle.cg_finding.specs.Told.{TellsFirst}
use Rattle.cg_finding.proofs.Told.{none_broken, tells_as, tells_nothing, tells_one}
use Rattle.cg_irq.specs.Instances.{HasBlocks}
use Rattle.cg_irq.specs.Walked.{SomeBreaks}
use Rattle.cg_irq.proofs.Walks.{first_fault}
use Rattle.cg_clkrst.specs.Owned.{AreFor, AreOwn, BreaksTop, HaveSources, LacksAt, Names, OwnerLacks, lack_of, port_at}
use Rattle.cg_clkrst.specs.Ports.{TiePort, clock_of, reset_of, uses_of}
use Rattle.cg_clkrst.specs.Ties.{HasSource}
use Rattle.cg_clkrst.specs.Violations.{LacksSource, Ties, Violates}
use Rattle.cg_clkrst.specs.declared.owned.Owned.{Owned}
use Rattle.cg_clkrst.specs.declared.ports.Port.{Port}
use Rattle.cg_clkrst.specs.declared.tie.Owner.{Owner}
use Rattle.cg_clkrst.specs.declared.tie.Owner.TheVariants.{Inst, Xbar}
use Rattle.cg_clkrst.proofs.NamedSources.{HasAt, at_has, decide_names, has_at}
use Rattle.cg_clkrst.proofs.Owners.{OfInstance, OfListed, in_uses, no_both}

-- an item that is read is read again
pub read_again : {X : Type 0} (xs : List X) (i : ℕ) (d : X) → i < length xs → get_or xs i d ≡ get_or xs i (get_or xs i d)
read_again xs i d less = sym (get_or_from_slice_get xs i (get_or xs i d) (get_or xs i d) (slice_get-get_or xs i d less))

-- ---- one port

module _ (m : MergedTop) (o : Owned) (p : Port) (are : AreFor m o) (found : Option (List ℕ)) (is : (source : List ℕ) → (found ≡ Some source) ↔ Names m.top o.clocks.now o.resets.now p.reset p.name.now source) where
  pub has_one : (source : List ℕ) → found ≡ Some source → HasSource m (port_at o.owner p) source
  has_one source e = (are p.reset p.name.now source).1 ((is source).0 e)

  pub lacks_not : (source : List ℕ) → found ≡ Some source → TellsFirst None (LacksAt m o p)
  lacks_not source e = tells_nothing (λ f lacks. lacks.0 source (has_one source e))

  pub has_none : found ≡ None → (source : List ℕ) → HasSource m (port_at o.owner p) source → ⊥
  has_none none source has = let e : None ≡ Some source = sym none ∙ (is source).1 ((are p.reset p.name.now source).0 has) in cc

  pub lacks : found ≡ None → TellsFirst (Some (lack_of o.at (port_at o.owner p))) (LacksAt m o p)
  lacks none = tells_one (lack_of o.at (port_at o.owner p)) (has_none none, refl) (λ f broken. broken.1)

-- ---- one owner

pub owner_lacks : (m : MergedTop) (o : Owned) (ports : List Port) {told : Option Finding} → AreOwn m o.owner (map (port_at o.owner) ports) → TellsFirst told (SomeBreaks (λ k p. LacksAt m o p) ports)
    → TellsFirst told (OwnerLacks m o.owner o.at)
owner_lacks m o ports own t = tells_as t to from where
  to : (f : Finding) → SomeBreaks (λ k p. LacksAt m o p) ports f → OwnerLacks m o.owner o.at f
  to f (i, p, there, (none, is)) =
      let among = item_among (map (port_at o.owner) ports) i (port_at o.owner p) (image_at (port_at o.owner) ports i p there) in
      record { port = port_at o.owner p; own = refl; lacks = record { used = ((own (port_at o.owner p)).0 among).0; none = none }; is = is }

  from : (f : Finding) → OwnerLacks m o.owner o.at f → SomeBreaks (λ k p. LacksAt m o p) ports f
  from f lacks =
      let at = item_number (map (port_at o.owner) ports) lacks.port ((own lacks.port).1 (lacks.lacks.used, lacks.own)) in
      let one = image_of (port_at o.owner) ports at.0 lacks.port at.1 in
      (at.0, one.0, one.1, (subst (λ q. (source : List ℕ) → HasSource m q source → ⊥) (sym one.2) lacks.lacks.none, lacks.is ∙ ap (lack_of o.at) (sym one.2)))

-- an owner without ports lacks nothing
pub nothing_lacks : (m : MergedTop) (owner : Owner) (at : At) → AreOwn m owner [] → TellsFirst None (OwnerLacks m owner at)
nothing_lacks m owner at own = tells_nothing (λ f lacks. (own lacks.port).1 (lacks.lacks.used, lacks.own))

-- ---- the fault of a top

violates_instance : (m : MergedTop) (i : ℕ) (inst : InstDesc) → slice_get m.top.insts i ≡ Some inst → (p : TiePort) → p.owner ≡ Inst i → LacksSource m p → Violates m (in_file m.top.file (lack_of inst.at p))
violates_instance m i inst there p own lacks = by p.reset refl where
  by : (b : Bool) → p.reset ≡ b → Violates m (in_file m.top.file (lack_of inst.at p))
  by true is =
      let same : reset_of (Inst i) p.port ≡ p = (λ t. record { owner = sym own t; reset = sym is t; port = p.port }) in
      subst (λ q. Violates m (in_file m.top.file (lack_of inst.at q))) same (Violates.instance_reset i inst p.port there (subst (LacksSource m) (sym same) lacks))
  by false is =
      let same : clock_of (Inst i) p.port ≡ p = (λ t. record { owner = sym own t; reset = sym is t; port = p.port }) in
      subst (λ q. Violates m (in_file m.top.file (lack_of inst.at q))) same (Violates.instance_clock i inst p.port there (subst (LacksSource m) (sym same) lacks))

violates_crossbar : (m : MergedTop) (x : ℕ) (listed : XbarUse) → slice_get m.top.xbars x ≡ Some listed → (p : TiePort) → p.owner ≡ Xbar x → LacksSource m p → Violates m (in_file m.top.file (lack_of listed.at p))
violates_crossbar m x listed there p own lacks = by (in_uses m p lacks.used) where
  by : OfInstance m m.kinds p ⊎ OfListed m m.top.xbars p → Violates m (in_file m.top.file (lack_of listed.at p))
  by (inl one) = absurd (no_both one.inst x (sym one.own ∙ own))
  by (inr one) =
      let is = one.clock in
      let same : clock_of (Xbar x) p.port ≡ p = (λ t. record { owner = sym own t; reset = sym is t; port = p.port }) in
      subst (λ q. Violates m (in_file m.top.file (lack_of listed.at q))) same (Violates.crossbar_clock x listed p.port there (subst (LacksSource m) (sym same) lacks))

violates_to : (m : MergedTop) (f : Finding) → BreaksTop m f → Violates m (in_file m.top.file f)
violates_to m f (inl (i, inst, there, breaks)) = subst (λ g. Violates m (in_file m.top.file g)) (sym breaks.is) (violates_instance m i inst there breaks.port breaks.own breaks.lacks)
violates_to m f (inr (x, listed, there, breaks)) = subst (λ g. Violates m (in_file m.top.file g)) (sym breaks.is) (violates_crossbar m x listed there breaks.port breaks.own breaks.lacks)

violates_from : (m : MergedTop) (fault : Fault) → Violates m fault → (f : Finding) × (fault ≡ in_file m.top.file f) × BreaksTop m f
violates_from m _ (Violates.instance_clock i inst port there lacks) = (_, refl, inl (i, inst, there, record { port = clock_of (Inst i) port; own = refl; lacks = lacks; is = refl }))
violates_from m _ (Violates.instance_reset i inst port there lacks) = (_, refl, inl (i, inst, there, record { port = reset_of (Inst i) port; own = refl; lacks = lacks; is = refl }))
violates_from m _ (Violates.crossbar_clock x listed port there lacks) = (_, refl, inr (x, listed, there, record { port = clock_of (Xbar x) port; own = refl; lacks = lacks; is = refl }))

pub first_told : (m : MergedTop) (g : Finding) (t : TellsFirst (Some g) (BreaksTop m)) (e : DescFault) → Refuses e m.top.file t.faults → Ties (Err e) m
first_told m g t (refusal.Fault fault) refuses = first_fault (Violates m) (BreaksTop m) m.top.file (violates_to m) (violates_from m) g t fault refuses
first_told m g t refusal.Memory refuses = tt

pub unbroken : (m : MergedTop) → TellsFirst None (BreaksTop m) → (f : Fault) → ¬ Violates m f
unbroken m t f broken = let one = violates_from m f broken in none_broken t one.0 one.2

-- ---- each port has its source where nothing is broken

-- a port of an owner that is there, with its lists, has a source or none
decide_source : (m : MergedTop) (p : TiePort) (owner : Owner) (clocks resets : List NamePair) → p.owner ≡ owner
    → ((port source : List ℕ) (reset : Bool) → HasAt m owner reset port source ↔ Names m.top clocks resets reset port source)
    → ((source : List ℕ) × HasSource m p source) ⊎ ((source : List ℕ) → HasSource m p source → ⊥)
decide_source m p owner clocks resets own lists = by (decide_names m.top clocks resets p.reset p.port) where
  same : record { owner = owner; reset = p.reset; port = p.port } ≡ p
  same = λ t. record { owner = sym own t; reset = p.reset; port = p.port }

  by : ((source : List ℕ) × Names m.top clocks resets p.reset p.port source) ⊎ ((source : List ℕ) → Names m.top clocks resets p.reset p.port source → ⊥)
      → ((source : List ℕ) × HasSource m p source) ⊎ ((source : List ℕ) → HasSource m p source → ⊥)
  by (inl (source, is)) = inl (source, subst (λ q. HasSource m q source) same (at_has m owner p.reset p.port source ((lists p.port source p.reset).1 is)))
  by (inr none) = inr (λ source has. none source ((lists p.port source p.reset).0 (subst (λ w. HasAt m w p.reset p.port source) own (has_at m p source has))))

instance_lists : (m : MergedTop) (i : ℕ) (inst : InstDesc) → slice_get m.top.insts i ≡ Some inst → (port source : List ℕ) (reset : Bool) → HasAt m (Inst i) reset port source ↔ Names m.top inst.clocks inst.resets reset port source
instance_lists m i inst there port source reset = (to, λ is. (inst, there, is)) where
  to : HasAt m (Inst i) reset port source → Names m.top inst.clocks inst.resets reset port source
  to (other, at, is) = subst (λ (x : InstDesc). Names m.top x.clocks x.resets reset port source) (same_item m.top.insts i other inst at there) is

crossbar_lists : (m : MergedTop) (x : ℕ) (listed : XbarUse) → slice_get m.top.xbars x ≡ Some listed → (port source : List ℕ) (reset : Bool) → HasAt m (Xbar x) reset port source ↔ Names m.top listed.clocks [] reset port source
crossbar_lists m x listed there port source reset = (to, λ is. (listed, there, is)) where
  to : HasAt m (Xbar x) reset port source → Names m.top listed.clocks [] reset port source
  to (other, at, is) = subst (λ (y : XbarUse). Names m.top y.clocks [] reset port source) (same_item m.top.xbars x other listed at there) is

pub have_sources : (m : MergedTop) → HasBlocks m → TellsFirst None (BreaksTop m) → HaveSources m (uses_of m)
have_sources m has t p among = by (in_uses m p among) where
  instance : (one : OfInstance m m.kinds p) (inst : InstDesc) → slice_get m.top.insts one.inst ≡ Some inst → ((source : List ℕ) × HasSource m p source) ⊎ ((source : List ℕ) → HasSource m p source → ⊥)
      → (source : List ℕ) × HasSource m p source
  instance one inst there (inl found) = found
  instance one inst there (inr none) =
      absurd (none_broken t (lack_of inst.at p) (inl (one.inst, inst, there, record { port = p; own = one.own; lacks = record { used = among; none = none }; is = refl })))

  crossbar : (one : OfListed m m.top.xbars p) → ((source : List ℕ) × HasSource m p source) ⊎ ((source : List ℕ) → HasSource m p source → ⊥) → (source : List ℕ) × HasSource m p source
  crossbar one (inl found) = found
  crossbar one (inr none) = absurd (none_broken t (lack_of one.item.at p) (inr (one.xbar, one.item, one.is, record { port = p; own = one.own; lacks = record { used = among; none = none }; is = refl })))

  by : OfInstance m m.kinds p ⊎ OfListed m m.top.xbars p → (source : List ℕ) × HasSource m p source
  by (inl one) =
      let inst = item_at m.top.insts one.inst (subst (λ n. one.inst < n) has.count (slice_get_within m.kinds one.inst one.kind one.is)) in
      instance one inst.0 inst.1 (decide_source m p (Inst one.inst) inst.0.clocks inst.0.resets one.own (instance_lists m one.inst inst.0 inst.1))
  by (inr one) = crossbar one (decide_source m p (Xbar one.xbar) one.item.clocks [] one.own (crossbar_lists m one.xbar one.item one.is))
