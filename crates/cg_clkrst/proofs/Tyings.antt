-- One more port of an owner is tied.
use Rattle.std.proofs.Common.{◌≡◌, ◌+◌, ◌<◌, ◌≤◌, ℕ, Bool, true, false, ◌&&◌, List, [], ◌∷◌, ◌++◌, get_or, length, map, take, Some, None, inl, inr, refl, sym, ap, subst, ◌∙◌}
use Rattle.std.specs.Bool.{beq}
use Rattle.std.specs.List.{list_any, slice_get}
use Rattle.std.specs.Str.{bytes_eq}
use Rattle.std.proofs.lemmas.Bool.{false≢true, or_cases, or_left, or_right}
use Rattle.std.proofs.lemmas.List.{append-nil, append_assoc, map-append, take_all, take_more}
use Rattle.std.proofs.lemmas.Option.{slice_get-get_or}
use Rattle.std.proofs.lemmas.Slice.Eq.{bytes_eq-Decides}
use Rattle.cg_svspec.specs.Names.{Among}
use Rattle.cg_desc.specs.declared.top.MergedTop.{MergedTop}
use Rattle.cg_desc.specs.declared.top.XbarUse.{XbarUse}
use Rattle.cg_desc.proofs.Numbered.{image_at, item_among}
use Rattle.cg_irq.proofs.Order.{among_either, among_right}
use Rattle.cg_clkrst.specs.Owned.{AreApart, AreOwn, AreTied, HaveSources, is_same, port_at, uses_before}
use Rattle.cg_clkrst.specs.Ports.{TiePort, crossbar_uses, instance_uses, listed_uses, uses_of}
use Rattle.cg_clkrst.specs.Ties.{HasSource}
use Rattle.cg_clkrst.specs.declared.ports.Port.{Port}
use Rattle.cg_clkrst.specs.declared.tie.Owner.{Owner}
use Rattle.cg_clkrst.specs.declared.tie.Tie.{Tie}
use Rattle.cg_clkrst.proofs.Owners.{next_listed}
use Rattle.cg_clkrst.proofs.PortLists.{tied_again, tied_first}

-- ---- ports that are one

both : (a b : Bool) → (a && b) ≡ true → (a ≡ true) × (b ≡ true)
both true b is = (refl, is)
both false b is = absurd (false≢true is)

equal_bits : (a b : Bool) → beq a b ≡ true → a ≡ b
equal_bits true true is = refl
equal_bits true false is = cc
equal_bits false true is = cc
equal_bits false false is = refl

bits_equal : (a b : Bool) → a ≡ b → beq a b ≡ true
bits_equal true true is = refl
bits_equal true false is = cc
bits_equal false true is = cc
bits_equal false false is = refl

and_of : (a b : Bool) → a ≡ true → b ≡ true → (a && b) ≡ true
and_of a b x y = rw (x, y) refl

module _ (owner : Owner) (p : Port) where
  same_port : (q : Port) → is_same q p ≡ true → port_at owner p ≡ port_at owner q
  unfolding is_same
  same_port q is =
      let two = both (beq q.reset p.reset) (bytes_eq q.name.now p.name.now) is in
      let reset = equal_bits q.reset p.reset two.0 in
      let name = (bytes_eq-Decides q.name.now p.name.now).0 two.1 in
      λ i. record { owner = owner; reset = sym reset i; port = sym name i }

  port_same : (q : Port) → port_at owner p ≡ port_at owner q → is_same q p ≡ true
  unfolding is_same
  port_same q is =
      and_of (beq q.reset p.reset) (bytes_eq q.name.now p.name.now) (bits_equal q.reset p.reset (sym (ap (λ (t : TiePort). t.reset) is)))
      ((bytes_eq-Decides q.name.now p.name.now).1 (sym (ap (λ (t : TiePort). t.port) is)))

  pub is_used : (qs : List Port) → list_any (λ q. is_same q p) qs ≡ true → Among (port_at owner p) (map (port_at owner) qs)
  is_used [] is = absurd (false≢true is)
  is_used (q ∷ qs) is = elim (or_cases (is_same q p) (list_any (λ q. is_same q p) qs) is) [
    | inl here ↦ inl (same_port q here)
    | inr there ↦ inr (is_used qs there)
  ]

  pub used_is : (qs : List Port) → Among (port_at owner p) (map (port_at owner) qs) → list_any (λ q. is_same q p) qs ≡ true
  used_is [] among = absurd among
  used_is (q ∷ qs) (inl is) = or_left (is_same q p) (list_any (λ q. is_same q p) qs) (port_same q is)
  used_is (q ∷ qs) (inr among) = or_right (is_same q p) (list_any (λ q. is_same q p) qs) (used_is qs among)

  -- ---- one more port

  pub tie_again : (m : MergedTop) (before : List Port) (uses : List TiePort) (ties : List Tie) → list_any (λ q. is_same q p) before ≡ true → AreTied m (uses ++ map (port_at owner) before) ties
      → AreTied m (uses ++ (map (port_at owner) before ++ port_at owner p ∷ [])) ties
  tie_again m before uses ties is are =
      subst (λ l. AreTied m l ties) (append_assoc uses (map (port_at owner) before) (port_at owner p ∷ []))
      (tied_again m (uses ++ map (port_at owner) before) ties (port_at owner p) are (among_right (port_at owner p) uses (map (port_at owner) before) (is_used before is)))

  pub tie_first : (m : MergedTop) (before : List Port) (uses : List TiePort) (ties new : List Tie) (t : Tie) (source : List ℕ) → list_any (λ q. is_same q p) before ≡ false
      → AreApart uses (port_at owner p ∷ []) → t ≡ record { owner = owner; reset = p.reset; port = p.name.now; source = source } → HasSource m (port_at owner p) source → new ≡ ties ++ t ∷ []
      → AreTied m (uses ++ map (port_at owner) before) ties → AreTied m (uses ++ (map (port_at owner) before ++ port_at owner p ∷ [])) new
  tie_first m before uses ties new t source new_port apart is has pushed are =
      let one : Tie = record { owner = owner; reset = p.reset; port = p.name.now; source = source } in
      rw (pushed, is)
      (subst (λ l. AreTied m l (ties ++ one ∷ [])) (append_assoc uses (map (port_at owner) before) (port_at owner p ∷ []))
      (tied_first m (uses ++ map (port_at owner) before) ties one are
      (λ among. elim (among_either (port_at owner p) uses (map (port_at owner) before) among) [
        | inl old ↦ apart (port_at owner p) old (inl refl)
        | inr own ↦ absurd (false≢true (sym new_port ∙ used_is before own))
      ]) has))

-- ---- one more of an owner's ports

pub port_among : (owner : Owner) (ports : List Port) (n : ℕ) (d : Port) → n < length ports → Among (port_at owner (get_or ports n d)) (map (port_at owner) ports)
port_among owner ports n d less =
    item_among (map (port_at owner) ports) n (port_at owner (get_or ports n d)) (image_at (port_at owner) ports n (get_or ports n d) (slice_get-get_or ports n d less))

pub tie_next : (m : MergedTop) (owner : Owner) (ports : List Port) (n : ℕ) (d : Port) (old new : List Tie) → n < length ports
    → ((uses : List TiePort) → AreTied m (uses ++ map (port_at owner) (take n ports)) old → AreApart uses (port_at owner (get_or ports n d) ∷ [])
    → AreTied m (uses ++ (map (port_at owner) (take n ports) ++ port_at owner (get_or ports n d) ∷ [])) new)
    → (uses : List TiePort) → AreApart uses (map (port_at owner) ports) → AreTied m (uses ++ map (port_at owner) (take n ports)) old → AreTied m (uses ++ map (port_at owner) (take (n + 1) ports)) new
tie_next m owner ports n d old new less step uses apart are =
    let more : map (port_at owner) (take (n + 1) ports) ≡ map (port_at owner) (take n ports) ++ port_at owner (get_or ports n d) ∷ [] =
    ap (map (port_at owner)) (take_more ports n d less) ∙ map-append (port_at owner) (take n ports) (get_or ports n d ∷ []) in
    subst (λ l. AreTied m (uses ++ l) new) (sym more)
    (step uses are (λ p old among. elim among [
      | inl is ↦ apart p old (subst (λ q. Among q (map (port_at owner) ports)) (sym is) (port_among owner ports n d less))
      | inr none ↦ none
    ]))

pub source_among : (m : MergedTop) (owner : Owner) (ports : List Port) (n : ℕ) (d : Port) → n < length ports → HaveSources m (map (port_at owner) ports) → HaveSources m (port_at owner (get_or ports n d) ∷ [])
source_among m owner ports n d less have p (inl is) = have p (subst (λ q. Among q (map (port_at owner) ports)) (sym is) (port_among owner ports n d less))
source_among m owner ports n d less have p (inr none) = absurd none

pub first_ties : (m : MergedTop) (owner : Owner) (ports : List Port) (uses : List TiePort) (ties : List Tie) → AreTied m uses ties → AreTied m (uses ++ map (port_at owner) (take 0 ports)) ties
first_ties m owner ports uses ties are = subst (λ l. AreTied m l ties) (sym (append-nil uses)) are

pub last_ties : (m : MergedTop) (owner : Owner) (ports : List Port) (n : ℕ) (uses : List TiePort) (ties : List Tie) → length ports ≤ n → AreTied m (uses ++ map (port_at owner) (take n ports)) ties
    → AreTied m (uses ++ map (port_at owner) ports) ties
last_ties m owner ports n uses ties most are = subst (λ l. AreTied m (uses ++ map (port_at owner) l) ties) (take_all n ports most) are

-- ---- the ports of an owner have their sources

pub own_sources : (m : MergedTop) (owner : Owner) (ports : List TiePort) → AreOwn m owner ports → HaveSources m (uses_of m) → HaveSources m ports
own_sources m owner ports own have p among = have p ((own p).0 among).0

-- ---- no owner so far, and all

pub before_crossbars : (m : MergedTop) → uses_before m 0 ≡ instance_uses m.blocks 0 m.kinds
before_crossbars m = append-nil (instance_uses m.blocks 0 m.kinds)

pub all_instances : (m : MergedTop) (n : ℕ) (ties : List Tie) → length m.kinds ≤ n → AreTied m (instance_uses m.blocks 0 (take n m.kinds)) ties → AreTied m (uses_before m 0) ties
all_instances m n ties most are = subst (λ l. AreTied m l ties) (ap (instance_uses m.blocks 0) (take_all n m.kinds most) ∙ sym (before_crossbars m)) are

pub all_crossbars : (m : MergedTop) (n : ℕ) (ties : List Tie) → length m.top.xbars ≤ n → AreTied m (uses_before m n) ties → AreTied m (uses_of m) ties
all_crossbars m n ties most are = subst (λ l. AreTied m (instance_uses m.blocks 0 m.kinds ++ listed_uses m.xbars 0 l) ties) (take_all n m.top.xbars most) are

-- a listed crossbar that is not there uses nothing
pub no_crossbar : (m : MergedTop) (x : ℕ) (u : XbarUse) (ties : List Tie) → slice_get m.top.xbars x ≡ Some u → slice_get m.xbars x ≡ None → AreTied m (uses_before m x) ties → AreTied m (uses_before m (x + 1)) ties
no_crossbar m x u ties there none are =
    subst (λ l. AreTied m l ties) (sym (next_listed m x u there ∙ ap (λ o. uses_before m x ++ crossbar_uses x o) none ∙ append-nil (uses_before m x))) are
