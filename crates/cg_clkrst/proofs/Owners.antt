-- Which ports are whose.
use Rattle.std.proofs.Common.{◌≡◌, ◌+◌, ◌<◌, ◌⊎◌, ℕ, zero, suc, Bool, true, false, List, [], ◌∷◌, ◌++◌, map, take, Option, Some, None, inl, inr, refl, sym, ap, subst, ◌∙◌, arith}
use Rattle.std.specs.Prelude.{flat_map}
use Rattle.std.specs.List.{slice_get}
use Rattle.std.proofs.lemmas.List.{append-nil, append_assoc}
use Rattle.cg_svspec.specs.Names.{Among}
use Rattle.cg_desc.specs.declared.block.ClockDesc.{ClockDesc}
use Rattle.cg_desc.specs.declared.block.LaidBlock.{LaidBlock}
use Rattle.cg_desc.specs.declared.crossbar.NodeDesc.{NodeDesc}
use Rattle.cg_desc.specs.declared.crossbar.XbarDesc.{XbarDesc}
use Rattle.cg_desc.specs.declared.top.MergedTop.{MergedTop}
use Rattle.cg_desc.specs.declared.top.XbarUse.{XbarUse}
use Rattle.cg_desc.proofs.Numbered.{same_item}
use Rattle.cg_irq.proofs.Order.{among_either, among_left, among_right}
use Rattle.cg_clkrst.specs.Owned.{AreApart, AreOwn, uses_before}
use Rattle.cg_clkrst.specs.Ports.{TiePort, block_uses, clock_of, crossbar_uses, entry_uses, instance_uses, listed_uses, uses_of}
use Rattle.cg_clkrst.specs.declared.tie.Owner.{Owner}
use Rattle.cg_clkrst.specs.declared.tie.Owner.TheVariants.{Inst, Xbar}

-- ---- owners

abbrev number_of : Owner → ℕ
number_of (Inst i) = i
number_of (Xbar x) = x

abbrev is_instance : Owner → Bool
is_instance (Inst i) = true
is_instance (Xbar x) = false

pub same_instance : (i j : ℕ) → Inst i ≡ Inst j → i ≡ j
same_instance i j is = ap number_of is

pub same_crossbar : (x y : ℕ) → Xbar x ≡ Xbar y → x ≡ y
same_crossbar x y is = ap number_of is

pub no_both : (i x : ℕ) → Inst i ≡ Xbar x → ⊥
no_both i x is = let e : true ≡ false = ap is_instance is in cc

-- ---- a block's ports and a crossbar's are theirs

entry_owner : (owner : Owner) (clock : List ℕ) (reset : Option (List ℕ)) (p : TiePort) → Among p (entry_uses owner (record { clock = clock; reset = reset })) → p.owner ≡ owner
entry_owner owner clock None p (inl is) = ap (λ (q : TiePort). q.owner) is
entry_owner owner clock None p (inr none) = absurd none
entry_owner owner clock (Some r) p (inl is) = ap (λ (q : TiePort). q.owner) is
entry_owner owner clock (Some r) p (inr (inl is)) = ap (λ (q : TiePort). q.owner) is
entry_owner owner clock (Some r) p (inr (inr none)) = absurd none

entries_owner : (owner : Owner) (cs : List ClockDesc) (p : TiePort) → Among p (flat_map (entry_uses owner) cs) → p.owner ≡ owner
entries_owner owner [] p among = absurd among
entries_owner owner (c ∷ cs) p among = elim (among_either p (entry_uses owner c) (flat_map (entry_uses owner) cs) among) [
  | inl here ↦ entry_owner owner c.clock c.reset p here
  | inr later ↦ entries_owner owner cs p later
]

pub block_owner : (i : ℕ) (o : Option LaidBlock) (p : TiePort) → Among p (block_uses i o) → p.owner ≡ Inst i
block_owner i None p among = absurd among
block_owner i (Some block) p among = entries_owner (Inst i) block.desc.clocking p among

clocks_owner : (owner : Owner) (names : List (List ℕ)) (p : TiePort) → Among p (map (clock_of owner) names) → (p.owner ≡ owner) × (p.reset ≡ false)
clocks_owner owner [] p among = absurd among
clocks_owner owner (n ∷ ns) p (inl is) = (ap (λ (q : TiePort). q.owner) is, ap (λ (q : TiePort). q.reset) is)
clocks_owner owner (n ∷ ns) p (inr among) = clocks_owner owner ns p among

pub crossbar_owner : (x : ℕ) (o : Option XbarDesc) (p : TiePort) → Among p (crossbar_uses x o) → (p.owner ≡ Xbar x) × (p.reset ≡ false)
crossbar_owner x None p among = absurd among
crossbar_owner x (Some xbar) p among = clocks_owner (Xbar x) (xbar.clock ∷ map (λ (node : NodeDesc). node.clock) xbar.nodes) p among

-- ---- lists of owners, by their numbers

abbrev numbered : {X : Type 0} → (ℕ → X → List TiePort) → ℕ → List X → List TiePort
numbered g i [] = []
numbered g i (x ∷ xs) = g i x ++ numbered g (suc i) xs

record InNumbered {X : Type 0} (g : ℕ → X → List TiePort) (i : ℕ) (xs : List X) (p : TiePort) : Type 0 where
  pub place : ℕ
  pub number : ℕ
  pub sum : number ≡ i + place
  pub item : X
  pub is : slice_get xs place ≡ Some item
  pub among : Among p (g number item)

in_numbered : {X : Type 0} (g : ℕ → X → List TiePort) (i : ℕ) (xs : List X) (p : TiePort) → Among p (numbered g i xs) → InNumbered g i xs p
in_numbered g i [] p among = absurd among
in_numbered g i (x ∷ xs) p among = elim (among_either p (g i x) (numbered g (suc i) xs) among) [
  | inl here ↦ record { place = 0; number = i; sum = omega arith; item = x; is = refl; among = here }
  | inr later ↦ let rest = in_numbered g (suc i) xs p later in record { place = suc rest.place; number = rest.number; sum = omega (arith, rest.sum); item = rest.item; is = rest.is; among = rest.among }
]

numbered_has : {X : Type 0} (g : ℕ → X → List TiePort) (i n j : ℕ) (xs : List X) (x : X) (p : TiePort) → n ≡ i + j → slice_get xs j ≡ Some x → Among p (g n x) → Among p (numbered g i xs)
numbered_has g i n j [] x p sum is among = cc
numbered_has g i n zero (y ∷ xs) x p sum is among =
    let same : y ≡ x = cc in
    let here : n ≡ i = omega (arith, sum) in
    among_left p (g i y) (numbered g (suc i) xs) (subst (λ z. Among p (g i z)) (sym same) (subst (λ k. Among p (g k x)) here among))
numbered_has g i n (suc j) (y ∷ xs) x p sum is among =
    among_right p (g i y) (numbered g (suc i) xs) (numbered_has g (suc i) n j xs x p (omega (arith, sum)) is among)

numbered_next : {X : Type 0} (g : ℕ → X → List TiePort) (i n j : ℕ) (xs : List X) (x : X) → n ≡ i + j → slice_get xs j ≡ Some x → numbered g i (take (suc j) xs) ≡ numbered g i (take j xs) ++ g n x
numbered_next g i n j [] x sum is = cc
numbered_next g i n zero (y ∷ xs) x sum is =
    let same : y ≡ x = cc in
    let here : i ≡ n = omega (arith, sum) in
    append-nil (g i y) ∙ (λ t. g (here t) (same t))
numbered_next g i n (suc j) (y ∷ xs) x sum is =
    ap (λ l. g i y ++ l) (numbered_next g (suc i) n j xs x (omega (arith, sum)) is) ∙ sym (append_assoc (g i y) (numbered g (suc i) (take j xs)) (g n x))

-- ---- of the instances and the crossbars

abbrev of_instance : MergedTop → ℕ → ℕ → List TiePort
of_instance m i k = block_uses i (slice_get m.blocks k)

abbrev of_listed : MergedTop → ℕ → XbarUse → List TiePort
of_listed m x u = crossbar_uses x (slice_get m.xbars x)

as_instances : (m : MergedTop) (i : ℕ) (ks : List ℕ) → instance_uses m.blocks i ks ≡ numbered (of_instance m) i ks
as_instances m i [] = refl
as_instances m i (k ∷ ks) = ap (λ l. block_uses i (slice_get m.blocks k) ++ l) (as_instances m (suc i) ks)

as_listed : (m : MergedTop) (x : ℕ) (us : List XbarUse) → listed_uses m.xbars x us ≡ numbered (of_listed m) x us
as_listed m x [] = refl
as_listed m x (u ∷ us) = ap (λ l. crossbar_uses x (slice_get m.xbars x) ++ l) (as_listed m (suc x) us)

-- a port of an instance, with the number of its block
pub record OfInstance (m : MergedTop) (kinds : List ℕ) (p : TiePort) : Type 0 where
  pub inst : ℕ
  pub kind : ℕ
  pub is : slice_get kinds inst ≡ Some kind
  pub own : p.owner ≡ Inst inst
  pub among : Among p (block_uses inst (slice_get m.blocks kind))

pub in_instances : (m : MergedTop) (kinds : List ℕ) (p : TiePort) → Among p (instance_uses m.blocks 0 kinds) → OfInstance m kinds p
in_instances m kinds p among =
    let one = in_numbered (of_instance m) 0 kinds p (subst (Among p) (as_instances m 0 kinds) among) in
    let same : one.place ≡ one.number = omega (arith, one.sum) in
    record {
      inst = one.number;
      kind = one.item;
      is = subst (λ k. slice_get kinds k ≡ Some one.item) same one.is;
      own = block_owner one.number (slice_get m.blocks one.item) p one.among;
      among = one.among;
    }

-- a clock of a listed crossbar
pub record OfListed (m : MergedTop) (listed : List XbarUse) (p : TiePort) : Type 0 where
  pub xbar : ℕ
  pub item : XbarUse
  pub is : slice_get listed xbar ≡ Some item
  pub own : p.owner ≡ Xbar xbar
  pub clock : p.reset ≡ false
  pub among : Among p (crossbar_uses xbar (slice_get m.xbars xbar))

pub in_listed : (m : MergedTop) (listed : List XbarUse) (p : TiePort) → Among p (listed_uses m.xbars 0 listed) → OfListed m listed p
in_listed m listed p among =
    let one = in_numbered (of_listed m) 0 listed p (subst (Among p) (as_listed m 0 listed) among) in
    let same : one.place ≡ one.number = omega (arith, one.sum) in
    let own = crossbar_owner one.number (slice_get m.xbars one.number) p one.among in
    record { xbar = one.number; item = one.item; is = subst (λ k. slice_get listed k ≡ Some one.item) same one.is; own = own.0; clock = own.1; among = one.among }

pub in_uses : (m : MergedTop) (p : TiePort) → Among p (uses_of m) → OfInstance m m.kinds p ⊎ OfListed m m.top.xbars p
in_uses m p among = elim (among_either p (instance_uses m.blocks 0 m.kinds) (listed_uses m.xbars 0 m.top.xbars) among) [
  | inl here ↦ inl (in_instances m m.kinds p here)
  | inr there ↦ inr (in_listed m m.top.xbars p there)
]

-- ---- just an owner's ports

pub instance_own : (m : MergedTop) (i k : ℕ) → slice_get m.kinds i ≡ Some k → AreOwn m (Inst i) (block_uses i (slice_get m.blocks k))
instance_own m i k kind p = (to, from) where
  to : Among p (block_uses i (slice_get m.blocks k)) → Among p (uses_of m) × (p.owner ≡ Inst i)
  to among = (
    among_left p (instance_uses m.blocks 0 m.kinds) (listed_uses m.xbars 0 m.top.xbars)
        (subst (Among p) (sym (as_instances m 0 m.kinds)) (numbered_has (of_instance m) 0 i i m.kinds k p (omega arith) kind among)),
    block_owner i (slice_get m.blocks k) p among,
  )

  by : p.owner ≡ Inst i → OfInstance m m.kinds p ⊎ OfListed m m.top.xbars p → Among p (block_uses i (slice_get m.blocks k))
  by own (inl one) =
      let same : one.inst ≡ i = same_instance one.inst i (sym one.own ∙ own) in
      let there : slice_get m.kinds i ≡ Some one.kind = subst (λ n. slice_get m.kinds n ≡ Some one.kind) same one.is in
      let number : one.kind ≡ k = same_item m.kinds i one.kind k there kind in
      subst (λ n. Among p (block_uses i (slice_get m.blocks n))) number (subst (λ n. Among p (block_uses n (slice_get m.blocks one.kind))) same one.among)
  by own (inr one) = absurd (no_both i one.xbar (sym own ∙ one.own))

  from : Among p (uses_of m) × (p.owner ≡ Inst i) → Among p (block_uses i (slice_get m.blocks k))
  from h = by h.1 (in_uses m p h.0)

pub crossbar_own : (m : MergedTop) (x : ℕ) (u : XbarUse) → slice_get m.top.xbars x ≡ Some u → AreOwn m (Xbar x) (crossbar_uses x (slice_get m.xbars x))
crossbar_own m x u there p = (to, from) where
  to : Among p (crossbar_uses x (slice_get m.xbars x)) → Among p (uses_of m) × (p.owner ≡ Xbar x)
  to among = (
    among_right p (instance_uses m.blocks 0 m.kinds) (listed_uses m.xbars 0 m.top.xbars)
        (subst (Among p) (sym (as_listed m 0 m.top.xbars)) (numbered_has (of_listed m) 0 x x m.top.xbars u p (omega arith) there among)),
    (crossbar_owner x (slice_get m.xbars x) p among).0,
  )

  by : p.owner ≡ Xbar x → OfInstance m m.kinds p ⊎ OfListed m m.top.xbars p → Among p (crossbar_uses x (slice_get m.xbars x))
  by own (inl one) = absurd (no_both one.inst x (sym one.own ∙ own))
  by own (inr one) =
      let same : one.xbar ≡ x = same_crossbar one.xbar x (sym one.own ∙ own) in
      subst (λ n. Among p (crossbar_uses n (slice_get m.xbars n))) same one.among

  from : Among p (uses_of m) × (p.owner ≡ Xbar x) → Among p (crossbar_uses x (slice_get m.xbars x))
  from h = by h.1 (in_uses m p h.0)

-- ---- one more owner

taken_below : {X : Type 0} (n i : ℕ) (xs : List X) (x : X) → slice_get (take n xs) i ≡ Some x → i < n
taken_below {X} zero i xs x is = let e : slice_get {X = X} [] i ≡ Some x = is in cc
taken_below (suc n) i [] x is = cc
taken_below (suc n) zero (y ∷ xs) x is = omega arith
taken_below (suc n) (suc i) (y ∷ xs) x is = let rest = taken_below n i xs x is in omega (arith, rest)

pub next_instance : (m : MergedTop) (i k : ℕ) → slice_get m.kinds i ≡ Some k
    → instance_uses m.blocks 0 (take (i + 1) m.kinds) ≡ instance_uses m.blocks 0 (take i m.kinds) ++ block_uses i (slice_get m.blocks k)
next_instance m i k kind =
    let next : i + 1 ≡ suc i = omega arith in
    ap (λ n. instance_uses m.blocks 0 (take n m.kinds)) next ∙ as_instances m 0 (take (suc i) m.kinds) ∙ numbered_next (of_instance m) 0 i i m.kinds k (omega arith) kind
    ∙ ap (λ l. l ++ block_uses i (slice_get m.blocks k)) (sym (as_instances m 0 (take i m.kinds)))

pub instance_apart : (m : MergedTop) (i : ℕ) (o : Option LaidBlock) → AreApart (instance_uses m.blocks 0 (take i m.kinds)) (block_uses i o)
instance_apart m i o p before here =
    let one = in_instances m (take i m.kinds) p before in
    let below = taken_below i one.inst m.kinds one.kind one.is in
    let same = same_instance one.inst i (sym one.own ∙ block_owner i o p here) in
    absurd (omega (arith, below, same))

pub next_listed : (m : MergedTop) (x : ℕ) (u : XbarUse) → slice_get m.top.xbars x ≡ Some u → uses_before m (x + 1) ≡ uses_before m x ++ crossbar_uses x (slice_get m.xbars x)
next_listed m x u there =
    let next : x + 1 ≡ suc x = omega arith in
    ap (uses_before m) next
    ∙ ap (λ l. instance_uses m.blocks 0 m.kinds ++ l)
    (as_listed m 0 (take (suc x) m.top.xbars) ∙ numbered_next (of_listed m) 0 x x m.top.xbars u (omega arith) there
    ∙ ap (λ l. l ++ crossbar_uses x (slice_get m.xbars x)) (sym (as_listed m 0 (take x m.top.xbars))))
    ∙ sym (append_assoc (instance_uses m.blocks 0 m.kinds) (listed_uses m.xbars 0 (take x m.top.xbars)) (crossbar_uses x (slice_get m.xbars x)))

pub listed_apart : (m : MergedTop) (x : ℕ) (o : Option XbarDesc) → AreApart (uses_before m x) (crossbar_uses x o)
listed_apart m x o p before here = elim (among_either p (instance_uses m.blocks 0 m.kinds) (listed_uses m.xbars 0 (take x m.top.xbars)) before) [
  | inl instance ↦ let one = in_instances m m.kinds p instance in no_both one.inst x (sym one.own ∙ (crossbar_owner x o p here).0)
  | inr listed ↦
      let one = in_listed m (take x m.top.xbars) p listed in
      let below = taken_below x one.xbar m.top.xbars one.item one.is in
      let same = same_crossbar one.xbar x (sym one.own ∙ (crossbar_owner x o p here).0) in
      absurd (omega (arith, below, same))
]
