-- The ports of ties: each has a good name, and each instance and each crossbar has one.
use Rattle.std.proofs.Common.{List, None, Option, Some, [], ap, arith, filter, flat_map, inl, length, map, refl, slice_get, subst, suc, sym, zero, ℕ, ◌+◌, ◌<◌, ◌∙◌, ◌∷◌, ◌≡◌}
use Rattle.std.proofs.lemmas.List.{length-map}
use Rattle.cg_clkrst.specs.Ports.{TiePort, block_uses, clock_of, crossbar_uses, entry_uses, instance_uses, listed_uses, uses_of}
use Rattle.cg_clkrst.specs.Ties.{AreTies}
use Rattle.cg_clkrst.specs.declared.tie.Owner.{Owner}
use Rattle.cg_clkrst.specs.declared.tie.Owner.TheVariants.{Inst, Xbar}
use Rattle.cg_clkrst.specs.declared.tie.Tie.{Tie}
use Rattle.cg_desc.specs.Crossbar.{IsShortName, IsValidCrossbar}
use Rattle.cg_desc.specs.Merged.{IsMerged, IsValidLaidBlock}
use Rattle.cg_desc.specs.Valid.{IsShortNameIfAny, IsValidClock}
use Rattle.cg_desc.specs.declared.block.ClockDesc.{ClockDesc}
use Rattle.cg_desc.specs.declared.block.LaidBlock.{LaidBlock}
use Rattle.cg_desc.specs.declared.crossbar.NodeDesc.{NodeDesc}
use Rattle.cg_desc.specs.declared.crossbar.XbarDesc.{XbarDesc}
use Rattle.cg_desc.specs.declared.top.MergedTop.{MergedTop}
use Rattle.cg_desc.specs.declared.top.XbarUse.{XbarUse}
use Rattle.cg_space.proofs.Tabling.{all_at}
use Rattle.cg_svspec.proofs.Parts.{all_join}
use Rattle.cg_svspec.specs.Names.{Among}
use Rattle.cg_svspec.specs.Printable.{AllOf, IsSomeOf}
use Rattle.cg_topspec.proofs.Behind.{block_among}
use Rattle.cg_topspec.proofs.EachItem.{each_flat, each_item, each_mapped, some_item}
use Rattle.cg_topspec.proofs.ListLemmas.{from_map, in_back, in_front, in_map}
use Rattle.cg_topspec.proofs.Nets.{in_those}
use Rattle.cg_topspec.proofs.Relations.{item_of}
use Rattle.cg_topspec.proofs.Tied.{instance_itself, listed_itself}
use Rattle.cg_topspec.specs.Top.{block_of, crossbar_of, no_crossbar}
use Rattle.cg_topspec.specs.TopModule.{crossbar_clock, crossbar_ties, instance_ties, is_instance, is_listed, tie_connection}
use Rattle.cg_clkrst.specs.Ties.{port_of as tie_port}

clocking_named : (o : Owner) (cs : List ClockDesc) → AllOf IsValidClock cs → AllOf (λ p. IsShortName p.port) (flat_map (entry_uses o) cs)
clocking_named o cs all =
    each_flat (λ p. IsShortName p.port) (entry_uses o) cs
    (λ c a. let valid = each_item IsValidClock cs all c a in
    reset c valid.clock c.reset refl valid.reset) where
      reset : (c : ClockDesc) → IsShortName c.clock → (r : Option (List ℕ)) → c.reset ≡ r → IsShortNameIfAny c.reset
          → AllOf (λ p. IsShortName p.port) (entry_uses o c)
      reset c k None e h = rw e (k, tt)
      reset c k (Some r) e h = let short : IsShortName r = subst IsShortNameIfAny e h in rw e (k, (short, tt))

block_named : (i : ℕ) (blocks : List LaidBlock) → AllOf IsValidLaidBlock blocks → (k : ℕ) → AllOf (λ p. IsShortName p.port) (block_uses i (slice_get blocks k))
block_named i blocks all k = by (slice_get blocks k) refl where
  by : (o : Option LaidBlock) → slice_get blocks k ≡ o → AllOf (λ p. IsShortName p.port) (block_uses i o)
  by None e = tt
  by (Some b) e = clocking_named (Inst i) b.desc.clocking (all_at IsValidLaidBlock blocks k b all e).block.clocks

instances_named : (blocks : List LaidBlock) → AllOf IsValidLaidBlock blocks → (i : ℕ) (ks : List ℕ)
    → AllOf (λ p. IsShortName p.port) (instance_uses blocks i ks)
instances_named blocks all i [] = tt
instances_named blocks all i (k ∷ ks) =
    all_join (λ p. IsShortName p.port) (block_uses i (slice_get blocks k)) (instance_uses blocks (suc i) ks) (block_named i blocks all k)
    (instances_named blocks all (suc i) ks)

crossbar_named : (x : ℕ) (xbars : List XbarDesc) → AllOf IsValidCrossbar xbars → (k : ℕ) → AllOf (λ p. IsShortName p.port) (crossbar_uses x (slice_get xbars k))
crossbar_named x xbars all k = by (slice_get xbars k) refl where
  by : (o : Option XbarDesc) → slice_get xbars k ≡ o → AllOf (λ p. IsShortName p.port) (crossbar_uses x o)
  by None e = tt
  by (Some b) e =
      let valid = all_at IsValidCrossbar xbars k b all e in (
        valid.clock,
        each_mapped (λ p. IsShortName p.port) (clock_of (Xbar x)) (map (λ (n : NodeDesc). n.clock) b.nodes)
            (λ c a. let from = from_map (λ (n : NodeDesc). n.clock) b.nodes c a in subst IsShortName (sym from.2) (valid.nodes from.0 from.1).clock),
      )

listed_named : (xbars : List XbarDesc) → AllOf IsValidCrossbar xbars → (x : ℕ) (us : List XbarUse) → AllOf (λ p. IsShortName p.port) (listed_uses xbars x us)
listed_named xbars all x [] = tt
listed_named xbars all x (u ∷ us) =
    all_join (λ p. IsShortName p.port) (crossbar_uses x (slice_get xbars x)) (listed_uses xbars (suc x) us) (crossbar_named x xbars all x)
    (listed_named xbars all (suc x) us)

-- ---- each instance, and each crossbar, uses a clock

first_clock : (o : Owner) (cs : List ClockDesc) → 0 < length cs → (p : TiePort) × Among p (flat_map (entry_uses o) cs) × (p.owner ≡ o)
first_clock o [] some = absurd (omega (arith, some))
first_clock o (c ∷ cs) some = (clock_of o c.clock, inl refl, refl)

instance_uses_clock : (blocks : List LaidBlock) → AllOf IsValidLaidBlock blocks → (s : ℕ) (ks : List ℕ) (i k : ℕ) (b : LaidBlock) → slice_get ks i ≡ Some k
    → slice_get blocks k ≡ Some b
    → (p : TiePort) × Among p (instance_uses blocks s ks) × (p.owner ≡ Inst (s + i))
instance_uses_clock blocks all s [] i k b at is = absurd cc
instance_uses_clock blocks all s (j ∷ ks) zero k b at is =
    let same : j ≡ k = cc in
    let c = first_clock (Inst s) b.desc.clocking (all_at IsValidLaidBlock blocks k b all is).block.some_clock in
    let here : slice_get blocks j ≡ Some b = subst (λ n. slice_get blocks n ≡ Some b) (sym same) is in
    (c.0, in_front c.0 (block_uses s (slice_get blocks j)) _ (subst (λ o. Among c.0 (block_uses s o)) (sym here) c.1), c.2 ∙ ap Inst (start s)) where
      start : (s : ℕ) → s ≡ s + 0
      start s = omega arith
instance_uses_clock blocks all s (j ∷ ks) (suc i) k b at is =
    let c = instance_uses_clock blocks all (suc s) ks i k b at is in
    (c.0, in_back c.0 (block_uses s (slice_get blocks j)) _ c.1, c.2 ∙ ap Inst (step s i)) where
      step : (s i : ℕ) → suc s + i ≡ s + suc i
      step s i = omega arith

crossbar_uses_clock : (xbars : List XbarDesc) (s : ℕ) (us : List XbarUse) (x : ℕ) (b : XbarDesc) → x < length us → slice_get xbars (s + x) ≡ Some b
    → (p : TiePort) × Among p (listed_uses xbars s us) × (p.owner ≡ Xbar (s + x))
crossbar_uses_clock xbars s [] x b less is = absurd (omega (arith, less))
crossbar_uses_clock xbars s (u ∷ us) zero b less is =
    let here : slice_get xbars s ≡ Some b = subst (λ n. slice_get xbars n ≡ Some b) (start s) is in (
      clock_of (Xbar s) b.clock,
      in_front _ (crossbar_uses s (slice_get xbars s)) _
          (subst (λ o. Among (clock_of (Xbar s) b.clock) (crossbar_uses s o)) (sym here) (inl refl)),
      ap Xbar (sym (start s)),
    ) where
      start : (s : ℕ) → s + 0 ≡ s
      start s = omega arith
crossbar_uses_clock xbars s (u ∷ us) (suc x) b less is =
    let c = crossbar_uses_clock xbars (suc s) us x b (omega (arith, less)) (subst (λ n. slice_get xbars n ≡ Some b) (step s x) is) in
    (c.0, in_back c.0 (crossbar_uses s (slice_get xbars s)) _ c.1, c.2 ∙ ap Xbar (sym (step s x))) where
      step : (s x : ℕ) → s + suc x ≡ suc s + x
      step s x = omega arith

from_start : (i : ℕ) → 0 + i ≡ i
from_start i = omega arith

module _ (m : MergedTop) (merged : IsMerged m) (ties : List Tie) (are : AreTies m ties) where
  pub tie_named : (t : Tie) → Among t ties → IsShortName t.port
  tie_named t a =
      each_item (λ p. IsShortName p.port) (uses_of m)
      (all_join (λ p. IsShortName p.port) (instance_uses m.blocks 0 m.kinds) (listed_uses m.xbars 0 m.top.xbars)
      (instances_named m.blocks merged.blocks 0 m.kinds)
      (listed_named m.xbars merged.crossbars 0 m.top.xbars))
      (tie_port t) ((are.ports.members (tie_port t)).0 (in_map tie_port ties t a))

  -- a port that is used has its tie
  tied : (p : TiePort) → Among p (uses_of m) → (t : Tie) × Among t ties × (p ≡ tie_port t)
  tied p a = from_map tie_port ties p ((are.ports.members p).1 a)

  pub instance_tied : (i : ℕ) → i < length m.top.insts → IsSomeOf (instance_ties ties i)
  instance_tied i less =
      let at = block_among m merged i less in
      let c = instance_uses_clock m.blocks merged.blocks 0 m.kinds i at.0 (block_of m i) at.1 at.2 in
      let t = tied c.0 (in_front c.0 (instance_uses m.blocks 0 m.kinds) (listed_uses m.xbars 0 m.top.xbars) c.1) in
      let own : t.0.owner ≡ Inst i = sym (ap (λ (p : TiePort). p.owner) t.2) ∙ (c.2 ∙ ap Inst (from_start i)) in
      some_item (instance_ties ties i) (tie_connection t.0)
      (in_map tie_connection (filter (λ (k : Tie). is_instance i k.owner) ties) t.0
      (in_those (λ (k : Tie). is_instance i k.owner) ties t.0 t.1 (instance_itself i t.0.owner own)))

  pub crossbar_tied : (x : ℕ) → x < length m.xbars → IsSomeOf (crossbar_ties ties x)
  crossbar_tied x less =
      let as_many : length m.xbars ≡ length m.top.xbars = sym (length-map m.xbars (λ (b : XbarDesc). b.name)) ∙
      (ap length merged.files.crossbars ∙ length-map m.top.xbars (λ (u : XbarUse). u.name)) in
      let c = crossbar_uses_clock m.xbars 0 m.top.xbars x (crossbar_of m x) (omega (arith, less, as_many))
      (subst (λ k. slice_get m.xbars k ≡ Some (crossbar_of m x)) (sym (from_start x)) (item_of m.xbars x no_crossbar less)) in
      let t = tied c.0 (in_back c.0 (instance_uses m.blocks 0 m.kinds) (listed_uses m.xbars 0 m.top.xbars) c.1) in
      let own : t.0.owner ≡ Xbar x = sym (ap (λ (p : TiePort). p.owner) t.2) ∙ (c.2 ∙ ap Xbar (from_start x)) in
      some_item (crossbar_ties ties x) (crossbar_clock t.0)
      (in_map crossbar_clock (filter (λ (k : Tie). is_listed x k.owner) ties) t.0
      (in_those (λ (k : Tie). is_listed x k.owner) ties t.0 t.1 (listed_itself x t.0.owner own)))
