-- Files that break no rule fit one another.
use Rattle.std.proofs.Common.{◌≡◌, ◌<◌, ◌≤◌, ◌⊎◌, ℕ, Bool, true, false, not, List, [], ◌∷◌, Option, Some, None, inl, inr, refl, sym, ap, subst, ◌∙◌, arith}
use Rattle.std.specs.Bool.{Decides}
use Rattle.std.specs.List.{list_any, slice_get}
use Rattle.std.proofs.lemmas.Bool.{cases_lt, false≢true}
use Rattle.std.proofs.lemmas.Slice.Eq.{bytes_eq-Decides}
use Rattle.cg_svspec.specs.Printable.{IsSomeOf}
use Rattle.cg_desc.specs.Bases.{HasBase}
use Rattle.cg_desc.specs.Ends.{CrossbarIs, InstanceIs, Joins, NamesFace, NodeOf}
use Rattle.cg_desc.specs.FoundBase.{found_base}
use Rattle.cg_desc.specs.Merged.{BasesFit, IsListed, NamesFit, NodesFit, SpacesFit, design_of}
use Rattle.cg_desc.specs.Top.{AreItsFiles, Design}
use Rattle.cg_desc.specs.declared.crossbar.NodeDesc.{NodeDesc}
use Rattle.cg_desc.specs.declared.crossbar.XbarDesc.{XbarDesc}
use Rattle.cg_desc.specs.declared.crossbar.Range.{Range}
use Rattle.cg_desc.specs.declared.fault.Fault.{Fault}
use Rattle.cg_desc.specs.declared.top.MergedTop.{MergedTop}
use Rattle.cg_desc.proofs.FoundBases.{found_is, is_found}
use Rattle.cg_desc.specs.declared.top.InstDesc.{InstDesc}
use Rattle.cg_desc.specs.declared.top.SpaceDesc.{SpaceDesc}
use Rattle.cg_desc.specs.declared.top.XbarUse.{XbarUse}
use Rattle.cg_desc.proofs.Numbered.{image_at, image_of, item_among, item_number, one_passes, same_item}
use Rattle.cg_finding.specs.Finding.{Finding}
use Rattle.cg_merge.specs.Violations.{BreaksInstance, BreaksNode, BreaksSpace, BreaksTop, BreaksUse, StandsBefore, Violates}
use Rattle.cg_merge.specs.Checks.{AreRead}
use Rattle.cg_merge.specs.Nodes.{joins}
use Rattle.cg_merge.proofs.Partners.{decides_alone, decides_joins}
use Rattle.cg_merge.proofs.TopRules.{decides_listed}

-- numbers of which neither is below the other are one
alike : (i j : ℕ) → (i < j → ⊥) → (j < i → ⊥) → i ≡ j
alike i j a b = by (cases_lt i j) (cases_lt j i) where
  by : (i < j) ⊎ (j ≤ i) → (j < i) ⊎ (i ≤ j) → i ≡ j
  by (inl less) e = absurd (a less)
  by (inr more) (inl less) = absurd (b less)
  by (inr more) (inr most) = omega arith

-- what is decided, and not false
is_so : {P : Type 0} (b : Bool) → Decides b P → ((P → ⊥) → ⊥) → P
is_so true d none = d.0 refl
is_so false d none = absurd (none (λ p. false≢true (d.1 p)))

module _ (d : Design) (files : AreItsFiles d) (none : (f : Fault) → Violates d f → ⊥) where
  none_top : (f : Finding) → BreaksTop d f → ⊥
  none_top f breaks = none _ (Violates.in_top f breaks)

  none_node : (x n : ℕ) (node : NodeDesc) (f : Finding) → NodeOf d x n node → BreaksNode d x n node f → ⊥
  none_node x n node f of breaks = none _ (Violates.in_crossbar x of.crossbar f of.crossbar_is (record { number = n; node = node; is = of.is; breaks = breaks }))

  spaces_differ : (i j : ℕ) (a b : SpaceDesc) → slice_get d.top.spaces i ≡ Some a → slice_get d.top.spaces j ≡ Some b → a.name ≡ b.name → i < j → ⊥
  spaces_differ i j a b here there same less = none_top _ (BreaksTop.space j b there (BreaksSpace.twice i a less here same))

  listed : (name : List ℕ) → ((IsListed d.top name → ⊥) → ⊥) → IsListed d.top name
  listed name = is_so _ (decides_listed d.top name)

  -- a crossbar is listed by its name
  use_of : (x : ℕ) (xbar : XbarDesc) → CrossbarIs d x xbar → (u : XbarUse) × (slice_get d.top.xbars x ≡ Some u) × (u.name ≡ xbar.name)
  use_of x xbar is =
      let own = image_at (λ (b : XbarDesc). b.name) d.xbars x xbar is in
      let there = subst (λ (ns : List (List ℕ)). slice_get ns x ≡ Some xbar.name) files.crossbars own in
      image_of (λ (u : XbarUse). u.name) d.top.xbars x xbar.name there

  pub spaces_fit : SpacesFit d
  spaces_fit = record {
    differ = λ i j name here there.
        let a = image_of (λ (s : SpaceDesc). s.name) d.top.spaces i name here in
        let b = image_of (λ (s : SpaceDesc). s.name) d.top.spaces j name there in
        alike i j (spaces_differ i j a.0 b.0 a.1 b.1 (a.2 ∙ sym b.2)) (spaces_differ j i b.0 a.0 b.1 a.1 (b.2 ∙ sym a.2));
    crossbars = λ u among.
        let there = item_number d.top.xbars u among in listed u.space (λ no_space. none_top _ (BreaksTop.listing there.0 u there.1 (BreaksUse.unlisted no_space)));
    bases = λ inst b among base.
        let there = item_number d.top.insts inst among in listed b.space (λ no_space. none_top _ (BreaksTop.instance there.0 inst there.1 (BreaksInstance.unlisted b base no_space)));
    interfaces = λ inst b among base.
        let there = item_number d.top.insts inst among in listed b.space (λ no_space. none_top _ (BreaksTop.instance there.0 inst there.1 (BreaksInstance.interface_unlisted b base no_space)));
    nested = λ x n y node outer inner of device joins here there. same_space x n y node outer inner of device joins here there;
  } where
    texts_alike : (xs ys : List ℕ) → ((xs ≡ ys → ⊥) → ⊥) → xs ≡ ys
    texts_alike xs ys = is_so _ (bytes_eq-Decides xs ys)

    same_space : (x n y : ℕ) (node : NodeDesc) (outer inner : XbarUse) → NodeOf d x n node → node.host ≡ false → Joins d x node y → slice_get d.top.xbars x ≡ Some outer
        → slice_get d.top.xbars y ≡ Some inner → outer.space ≡ inner.space
    same_space x n y node outer inner of device joins here there =
        let own = use_of y joins.inner joins.inner_is in
        let one : own.0 ≡ inner = same_item d.top.xbars y own.0 inner own.1 there in
        let named : inner.name ≡ node.name = sym (ap (λ (u : XbarUse). u.name) one) ∙ own.2 ∙ sym joins.names in
        texts_alike outer.space inner.space
        (λ differ. none_node x n node _ of (BreaksNode.in_another_space outer inner device joins.nested here (item_among d.top.xbars y inner there) named differ))

  -- ---- names

  insts_differ : (i j : ℕ) (a b : InstDesc) → InstanceIs d i a → InstanceIs d j b → a.name ≡ b.name → i < j → ⊥
  insts_differ i j a b here there same less = none_top _ (BreaksTop.instance j b there (BreaksInstance.twice i a less here same))

  uses_differ : (x y : ℕ) (a b : XbarUse) → slice_get d.top.xbars x ≡ Some a → slice_get d.top.xbars y ≡ Some b → a.name ≡ b.name → x < y → ⊥
  uses_differ x y a b here there same less = none_top _ (BreaksTop.listing y b there (BreaksUse.twice x a less here same))

  crossbars_differ : (x y : ℕ) (a b : XbarDesc) → CrossbarIs d x a → CrossbarIs d y b → a.name ≡ b.name → x < y → ⊥
  crossbars_differ x y a b here there same less =
      let u = use_of x a here in
      let w = use_of y b there in
      uses_differ x y u.0 w.0 u.1 w.1 (u.2 ∙ same ∙ sym w.2) less

  pub names_fit : NamesFit d
  names_fit = record {
    instances = λ i j a b here there same. alike i j (insts_differ i j a b here there same) (insts_differ j i b a there here (sym same));
    crossbars = λ x y a b here there same. alike x y (crossbars_differ x y a b here there same) (crossbars_differ y x b a there here (sym same));
    apart = λ inst xbar among there same.
        let place = item_number d.xbars xbar there in
        let u = use_of place.0 xbar place.1 in
        none_top _ (BreaksTop.listing place.0 u.0 u.1 (BreaksUse.instance_has_name inst among (same ∙ sym u.2)));
  }

  -- ---- nodes

  one_place : (x n y k : ℕ) → (StandsBefore x n y k → ⊥) → (StandsBefore y k x n → ⊥) → (x ≡ y) × (n ≡ k)
  one_place x n y k a b =
      let same = alike x y (λ less. a (inl less)) (λ less. b (inl less)) in
      (same, alike n k (λ less. a (inr (same, less))) (λ less. b (inr (sym same, less))))

  joined : (x n : ℕ) (node : NodeDesc) → NodeOf d x n node → node.xbar ≡ true → (y : ℕ) × Joins d x node y
  joined x n node of nested = by (list_any (joins of.crossbar.name node) d.xbars) refl where
    by : (b : Bool) → list_any (joins of.crossbar.name node) d.xbars ≡ b → (y : ℕ) × Joins d x node y
    by true is =
        let one = one_passes (joins of.crossbar.name node) d.xbars is in
        (one.0, (decides_joins d x node of.crossbar of.crossbar_is nested one.0 one.1 one.2).0 one.3)
    by false is =
        absurd (none_node x n node _ of (BreaksNode.without_partner nested ((decides_alone d x node of.crossbar of.crossbar_is nested).0 (ap not is))))

  some_range : (x n : ℕ) (node : NodeDesc) → NodeOf d x n node → node.host ≡ false → node.xbar ≡ false → ((i f : ℕ) → NamesFace d node i f → ⊥) → IsSomeOf node.ranges
  some_range x n node of device plain nameless = by node.ranges refl where
    by : (rs : List Range) → node.ranges ≡ rs → IsSomeOf rs
    by [] bare = absurd (none_node x n node _ of (BreaksNode.names_nothing device plain nameless bare))
    by (r ∷ rs) bare = tt

  pub nodes_fit : NodesFit d
  nodes_fit = record {
    spelled_once = λ x n y k a b of_a of_b plain_a plain_b same.
        alike x y (λ less. none_node y k b _ of_b (BreaksNode.spelled_twice x n a less of_a plain_a plain_b same)) (λ less. none_node x n a _ of_a (BreaksNode.spelled_twice y k b less of_b plain_b plain_a (sym same)));
    one_face = λ x n y k i f a b of_a of_b names_a names_b.
        one_place x n y k (λ before. none_node y k b _ of_b (BreaksNode.interface_twice x n i f a before of_a names_a names_b))
        (λ before. none_node x n a _ of_a (BreaksNode.interface_twice y k i f b before of_b names_b names_a));
    one_host = λ x n y k i f a b of_a of_b names_a names_b.
        one_place x n y k (λ before. none_node y k b _ of_b (BreaksNode.host_interface_twice x n i f a before of_a names_a names_b))
        (λ before. none_node x n a _ of_a (BreaksNode.host_interface_twice y k i f b before of_b names_b names_a));
    joined = λ x n node of nested. joined x n node of nested;
    known = λ x n node of device plain nameless. some_range x n node of device plain nameless;
  }

-- ---- bases

pub bases_fit : (m : MergedTop) → AreRead m → ((f : Fault) → Violates (design_of m) f → ⊥) → BasesFit (design_of m)
bases_fit m read none i f inst block of within = by (found_base m i f) refl where
  nothing : (base : ℕ) → Some base ≡ None → ⊥
  nothing base e = cc

  by : (o : Option ℕ) → found_base m i f ≡ o → (base : ℕ) × HasBase (design_of m) i f base
  by (Some base) is = (base, found_is m read.files read.kinds i f base is)
  by None is =
      absurd (none _ (Violates.in_top _ (BreaksTop.instance i inst of.instance (BreaksInstance.no_base f block of within
      (λ base has. nothing base (sym (is_found m read.files read.kinds i f base has) ∙ is))))))
