-- The source that a top has for a port.
use Rattle.std.proofs.Common.{◌≡◌, ◌↔◌, ◌+◌, ◌<◌, ◌⊎◌, ℕ, suc, Bool, true, false, cond, List, [], ◌∷◌, drop, drop-cons, get_or, length, map, Option, Some, None, inl, inr, refl, sym, ap, subst, ◌∙◌, arith}
use Rattle.std.specs.Bool.{Decides}
use Rattle.std.specs.List.{list_any, slice_get}
use Rattle.std.specs.Str.{bytes_eq}
use Rattle.std.proofs.lemmas.Bool.{false≢true, or_cases, or_left, or_right}
use Rattle.std.proofs.lemmas.Slice.Eq.{bytes_eq-Decides}
use Rattle.cg_svspec.specs.Names.{Among}
use Rattle.cg_svspec.specs.Printable.{AllOf}
use Rattle.cg_desc.specs.Ends.{InstanceIs}
use Rattle.cg_desc.specs.Merged.{design_of}
use Rattle.cg_desc.specs.declared.top.InstDesc.{InstDesc}
use Rattle.cg_desc.specs.declared.top.MergedTop.{MergedTop}
use Rattle.cg_desc.specs.declared.top.NamePair.{NamePair}
use Rattle.cg_desc.specs.declared.top.TopDesc.{TopDesc}
use Rattle.cg_desc.specs.declared.top.XbarUse.{XbarUse}
use Rattle.cg_desc.proofs.Numbered.{same_item}
use Rattle.cg_clkrst.specs.Owned.{AreFor, Names}
use Rattle.cg_clkrst.specs.Ports.{TiePort}
use Rattle.cg_clkrst.specs.Ties.{AreTies, HasSource, IsSourceFor, port_of, source_for}
use Rattle.cg_clkrst.specs.declared.owned.Owned.{Owned}
use Rattle.cg_clkrst.specs.declared.tie.Owner.{Owner}
use Rattle.cg_clkrst.specs.declared.tie.Owner.TheVariants.{Inst, Xbar}
use Rattle.cg_clkrst.specs.declared.tie.Tie.{Tie}
use Rattle.cg_clkrst.proofs.PortLists.{one_list}

-- ---- names that are known

pub known : (names : List (List ℕ)) (n : List ℕ) → Decides (list_any (λ m. bytes_eq m n) names) (Among n names)
known names n = (to names, from names) where
  to : (names : List (List ℕ)) → list_any (λ m. bytes_eq m n) names ≡ true → Among n names
  to [] is = absurd (false≢true is)
  to (m ∷ ms) is = elim (or_cases (bytes_eq m n) (list_any (λ m. bytes_eq m n) ms) is) [
    | inl here ↦ inl (sym ((bytes_eq-Decides m n).0 here))
    | inr there ↦ inr (to ms there)
  ]

  from : (names : List (List ℕ)) → Among n names → list_any (λ m. bytes_eq m n) names ≡ true
  from [] among = absurd among
  from (m ∷ ms) (inl is) = or_left (bytes_eq m n) (list_any (λ m. bytes_eq m n) ms) ((bytes_eq-Decides m n).1 (sym is))
  from (m ∷ ms) (inr among) = or_right (bytes_eq m n) (list_any (λ m. bytes_eq m n) ms) (from ms among)

-- ---- sources

-- the pairs from number i on name what the first of them does, or those behind it
pub source_cut : (pairs : List NamePair) (port : List ℕ) (i : ℕ) (pair d : NamePair) → i < length pairs → pair ≡ get_or pairs i d
    → source_for (drop i pairs) port ≡ cond (bytes_eq pair.port port) (Some pair.source) (source_for (drop (i + 1) pairs) port)
source_cut pairs port i pair d less is =
    let next : suc i ≡ i + 1 = omega arith in
    ap (λ l. source_for l port) (drop-cons pairs i d less)
    ∙ (λ t. cond (bytes_eq (sym is t).port port) (Some (sym is t).source) (source_for (drop (next t) pairs) port))

-- what is found is the source
pub found_named : (names : List (List ℕ)) (pairs : List NamePair) (port found : List ℕ) → source_for pairs port ≡ Some found → list_any (λ m. bytes_eq m found) names ≡ true
    → (source : List ℕ) → (Some found ≡ Some source) ↔ IsSourceFor names pairs port source
found_named names pairs port found is there source = (
  λ e. record { named = is ∙ e; there = (let same : found ≡ source = cc in subst (λ s. Among s names) same ((known names found).0 there)) },
  λ has. sym is ∙ has.named,
)

-- one that is not known is none
pub unknown_named : (names : List (List ℕ)) (pairs : List NamePair) (port found : List ℕ) → source_for pairs port ≡ Some found → list_any (λ m. bytes_eq m found) names ≡ false
    → (source : List ℕ) → (None ≡ Some source) ↔ IsSourceFor names pairs port source
unknown_named names pairs port found is missing source = (
  λ e. cc,
  λ has.
      let same : found ≡ source = (let e : Some found ≡ Some source = sym is ∙ has.named in cc) in
      absurd (false≢true (sym missing ∙ (known names found).1 (subst (λ s. Among s names) (sym same) has.there))),
)

-- there is a source, or none
pub decide_named : (known_names : List (List ℕ)) (pairs : List NamePair) (port : List ℕ) → ((source : List ℕ) × IsSourceFor known_names pairs port source) ⊎ ((source : List ℕ) → IsSourceFor known_names pairs port source → ⊥)
decide_named names pairs port = by (source_for pairs port) refl where
  there : (o : List ℕ) → source_for pairs port ≡ Some o → (b : Bool) → list_any (λ m. bytes_eq m o) names ≡ b
      → ((source : List ℕ) × IsSourceFor names pairs port source) ⊎ ((source : List ℕ) → IsSourceFor names pairs port source → ⊥)
  there o is true among = inl (o, record { named = is; there = (known names o).0 among })
  there o is false missing =
      inr (λ source has.
      let same : o ≡ source = (let e : Some o ≡ Some source = sym is ∙ has.named in cc) in
      false≢true (sym missing ∙ (known names o).1 (subst (λ s. Among s names) (sym same) has.there)))

  by : (o : Option (List ℕ)) → source_for pairs port ≡ o → ((source : List ℕ) × IsSourceFor names pairs port source) ⊎ ((source : List ℕ) → IsSourceFor names pairs port source → ⊥)
  by None is = inr (λ source has. let e : None ≡ Some source = sym is ∙ has.named in cc)
  by (Some o) is = there o is (list_any (λ m. bytes_eq m o) names) refl

pub decide_names : (top : TopDesc) (clocks resets : List NamePair) (reset : Bool) (port : List ℕ)
    → ((source : List ℕ) × Names top clocks resets reset port source) ⊎ ((source : List ℕ) → Names top clocks resets reset port source → ⊥)
decide_names top clocks resets true port = decide_named top.resets resets port
decide_names top clocks resets false port = decide_named top.sources clocks port

one_named : (names : List (List ℕ)) (pairs : List NamePair) (port s t : List ℕ) → IsSourceFor names pairs port s → IsSourceFor names pairs port t → s ≡ t
one_named names pairs port s t a b = let e : Some s ≡ Some t = sym a.named ∙ b.named in cc

one_name : (top : TopDesc) (clocks resets : List NamePair) (reset : Bool) (port s t : List ℕ) → Names top clocks resets reset port s → Names top clocks resets reset port t → s ≡ t
one_name top clocks resets true port s t a b = one_named top.resets resets port s t a b
one_name top clocks resets false port s t a b = one_named top.sources clocks port s t a b

-- ---- by owner

-- the owner is there, and its lists name the source
abbrev pub HasAt : MergedTop → Owner → Bool → List ℕ → List ℕ → Type 0
HasAt m (Inst i) reset port source = (inst : InstDesc) × InstanceIs (design_of m) i inst × Names m.top inst.clocks inst.resets reset port source
HasAt m (Xbar x) reset port source = (listed : XbarUse) × (slice_get m.top.xbars x ≡ Some listed) × Names m.top listed.clocks [] reset port source

pub has_at : (m : MergedTop) (p : TiePort) (source : List ℕ) → HasSource m p source → HasAt m p.owner p.reset p.port source
has_at m _ _ (HasSource.instance_clock i inst port source there is) = (inst, there, is)
has_at m _ _ (HasSource.instance_reset i inst port source there is) = (inst, there, is)
has_at m _ _ (HasSource.crossbar_clock x listed port source there is) = (listed, there, is)

pub at_has : (m : MergedTop) (owner : Owner) (reset : Bool) (port source : List ℕ) → HasAt m owner reset port source → HasSource m (record { owner = owner; reset = reset; port = port }) source
at_has m (Inst i) true port source (inst, there, is) = HasSource.instance_reset i inst port source there is
at_has m (Inst i) false port source (inst, there, is) = HasSource.instance_clock i inst port source there is
at_has m (Xbar x) true port source (listed, there, is) = let e : source_for [] port ≡ Some source = is.named in cc
at_has m (Xbar x) false port source (listed, there, is) = HasSource.crossbar_clock x listed port source there is

one_at : (m : MergedTop) (owner : Owner) (reset : Bool) (port s t : List ℕ) → HasAt m owner reset port s → HasAt m owner reset port t → s ≡ t
one_at m (Inst i) reset port s t (a, at_a, is_a) (b, at_b, is_b) =
    let same = same_item m.top.insts i b a at_b at_a in
    one_name m.top a.clocks a.resets reset port s t is_a (subst (λ (x : InstDesc). Names m.top x.clocks x.resets reset port t) same is_b)
one_at m (Xbar x) reset port s t (a, at_a, is_a) (b, at_b, is_b) =
    let same = same_item m.top.xbars x b a at_b at_a in
    one_name m.top a.clocks [] reset port s t is_a (subst (λ (y : XbarUse). Names m.top y.clocks [] reset port t) same is_b)

-- a port has one source
pub one_source : (m : MergedTop) (p : TiePort) (s t : List ℕ) → HasSource m p s → HasSource m p t → s ≡ t
one_source m p s t a b = one_at m p.owner p.reset p.port s t (has_at m p s a) (has_at m p t b)

-- ---- an owner's lists

pub for_instance : (m : MergedTop) (i : ℕ) (inst : InstDesc) (o : Owned) → slice_get m.top.insts i ≡ Some inst → o.owner ≡ Inst i → o.clocks.now ≡ inst.clocks → o.resets.now ≡ inst.resets → AreFor m o
for_instance m i inst o there owner clocks resets reset port source = rw (owner, clocks, resets) (to, λ is. at_has m (Inst i) reset port source (inst, there, is)) where
  to : HasSource m (record { owner = Inst i; reset = reset; port = port }) source → Names m.top inst.clocks inst.resets reset port source
  to has =
      let one = has_at m _ source has in
      let same = same_item m.top.insts i one.0 inst one.1 there in
      subst (λ (x : InstDesc). Names m.top x.clocks x.resets reset port source) same one.2

pub for_crossbar : (m : MergedTop) (x : ℕ) (listed : XbarUse) (o : Owned) → slice_get m.top.xbars x ≡ Some listed → o.owner ≡ Xbar x → o.clocks.now ≡ listed.clocks → o.resets.now ≡ [] → AreFor m o
for_crossbar m x listed o there owner clocks resets reset port source = rw (owner, clocks, resets) (to, λ is. at_has m (Xbar x) reset port source (listed, there, is)) where
  to : HasSource m (record { owner = Xbar x; reset = reset; port = port }) source → Names m.top listed.clocks [] reset port source
  to has =
      let one = has_at m _ source has in
      let same = same_item m.top.xbars x one.0 listed one.1 there in
      subst (λ (y : XbarUse). Names m.top y.clocks [] reset port source) same one.2

-- ---- one list of ties

same_ties : (m : MergedTop) (a b : List Tie) → map port_of a ≡ map port_of b → AllOf (λ t. HasSource m (port_of t) t.source) a → AllOf (λ t. HasSource m (port_of t) t.source) b → a ≡ b
same_ties m [] [] same of_a of_b = refl
same_ties m [] (y ∷ ys) same of_a of_b = cc
same_ties m (x ∷ xs) [] same of_a of_b = cc
same_ties m (x ∷ xs) (y ∷ ys) same of_a of_b =
    let heads : port_of x ≡ port_of y = cc in
    let tails : map port_of xs ≡ map port_of ys = cc in
    let rest = same_ties m xs ys tails of_a.1 of_b.1 in
    let source = one_source m (port_of x) x.source y.source of_a.0 (subst (λ p. HasSource m p y.source) (sym heads) of_b.0) in
    λ i. record { owner = (heads i).owner; reset = (heads i).reset; port = (heads i).port; source = source i } ∷ rest i

pub one_ties : (m : MergedTop) (a b : List Tie) → AreTies m a → AreTies m b → a ≡ b
one_ties m a b first second = same_ties m a b (one_list _ (map port_of a) (map port_of b) first.ports second.ports) first.sources second.sources
