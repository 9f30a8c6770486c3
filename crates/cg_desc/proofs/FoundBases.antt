-- The base that is found is the interface's.
use Rattle.std.proofs.Common.{◌≡◌, ℕ, ◌<◌, Bool, true, false, not, ◌&&◌, List, length, Option, Some, None, refl, sym, ap, subst, ◌∙◌, eqb}
use Rattle.std.specs.List.{position, slice_get}
use Rattle.std.proofs.lemmas.Bool.{false≢true}
use Rattle.std.proofs.lemmas.List.{length-map}
use Rattle.std.proofs.lemmas.Option.{slice_get_within}
use Rattle.cg_desc.specs.Bases.{HasNodeFor, IsInSpace, has_one_face, of_crossbar, of_top}
use Rattle.cg_desc.specs.Ends.{CrossbarIs, InstanceIs, IsOf, Means, NamesFace, device_interfaces}
use Rattle.cg_desc.specs.FoundBase.{base_at, block_at, block_of, found_base, found_in, found_of, has_device_for, is_device_for, is_meant, name_of_space, space_at, space_for, space_of_use}
use Rattle.cg_desc.specs.Merged.{AreKinds, BaseIs, FaceAt, IsMerged, design_of}
use Rattle.cg_desc.specs.Top.{AreItsFiles, Design}
use Rattle.cg_desc.specs.declared.block.LaidBlock.{LaidBlock}
use Rattle.cg_desc.specs.declared.block.LaidFace.{LaidFace}
use Rattle.cg_desc.specs.declared.crossbar.NodeDesc.{NodeDesc}
use Rattle.cg_desc.specs.declared.crossbar.XbarDesc.{XbarDesc}
use Rattle.cg_desc.specs.declared.top.InstDesc.{InstDesc}
use Rattle.cg_desc.specs.declared.top.MergedTop.{MergedTop}
use Rattle.cg_desc.specs.declared.top.SpaceDesc.{SpaceDesc}
use Rattle.cg_desc.specs.declared.top.XbarUse.{XbarUse}
use Rattle.cg_desc.proofs.Blocks.{one_block, one_of}
use Rattle.cg_desc.proofs.InterfaceNames.{meant, means}
use Rattle.cg_desc.proofs.Numbered.{IsFirstItem, first_found, found_first, image_at, none_found, one_passes, passes_one, item_at, same_item}

-- ---- one node

-- a device that stands for no crossbar and means an interface
is_device : (host nested meant : Bool) → (not host && (not nested && meant)) ≡ true → (host ≡ false) × (nested ≡ false) × (meant ≡ true)
is_device true nested meant is = absurd (false≢true is)
is_device false true meant is = absurd (false≢true is)
is_device false false meant is = (refl, refl, is)

device_is : (host nested meant : Bool) → host ≡ false → nested ≡ false → meant ≡ true → (not host && (not nested && meant)) ≡ true
device_is host nested meant a b c = rw (a, b, c) refl

-- the block has one interface where its list of names has one
one_name : (block : LaidBlock) → has_one_face block ≡ eqb (length (device_interfaces block)) 1
one_name block = ap (λ n. eqb n 1) (sym (length-map block.faces (λ (f : LaidFace). f.name)))

module _ (d : Design) (files : AreItsFiles d) (i f : ℕ) (inst : InstDesc) (block : LaidBlock) (face : LaidFace) (of : IsOf d i inst block) (at : slice_get block.faces f ≡ Some face) where
  own : slice_get (device_interfaces block) f ≡ Some face.name
  own = image_at (λ (g : LaidFace). g.name) block.faces f face at

  -- a node that the test finds names the interface
  pub device_names : (node : NodeDesc) → is_device_for inst.name (has_one_face block) face.name node ≡ true → NamesFace d node i f
  unfolding is_device_for
  device_names node is =
      let three = is_device node.host node.xbar (is_meant node.name inst.name (has_one_face block) face.name) is in
      let said : is_meant node.name inst.name (eqb (length (device_interfaces block)) 1) face.name ≡ true = subst (λ b. is_meant node.name inst.name b face.name ≡ true) (one_name block) three.2 in
      record {
        device = three.0;
        plain = three.1;
        inst = inst;
        block = block;
        is = of;
        means = means inst.name node.name (device_interfaces block) f face.name own said;
      }

  -- and the test finds each that does
  pub names_device : (node : NodeDesc) → NamesFace d node i f → is_device_for inst.name (has_one_face block) face.name node ≡ true
  unfolding is_device_for
  names_device node names =
      let same = one_of d files i names.inst inst names.block block names.is of in
      let mine = subst (λ (b : LaidBlock). Means inst.name (device_interfaces b) node.name f) same.1 (subst (λ (x : InstDesc). Means x.name (device_interfaces names.block) node.name f) same.0 names.means) in
      let said : is_meant node.name inst.name (has_one_face block) face.name ≡ true =
      subst (λ b. is_meant node.name inst.name b face.name ≡ true) (sym (one_name block)) (meant inst.name node.name (device_interfaces block) f face.name own mine) in
      device_is node.host node.xbar _ names.device names.plain said

  -- ---- one crossbar

  pub crossbar_has : (x : ℕ) (xbar : XbarDesc) → CrossbarIs d x xbar → has_device_for inst.name (has_one_face block) face.name xbar ≡ true → HasNodeFor d x i f
  unfolding has_device_for
  crossbar_has x xbar there is =
      let one = one_passes (is_device_for inst.name (has_one_face block) face.name) xbar.nodes is in
      (one.0, one.1, record { crossbar = xbar; crossbar_is = there; is = one.2 }, device_names one.1 one.3)

  pub has_crossbar : (x : ℕ) (xbar : XbarDesc) → CrossbarIs d x xbar → HasNodeFor d x i f → has_device_for inst.name (has_one_face block) face.name xbar ≡ true
  unfolding has_device_for
  has_crossbar x xbar there (n, node, node_of, names) =
      let same : node_of.crossbar ≡ xbar = same_item d.xbars x node_of.crossbar xbar node_of.crossbar_is there in
      let is : slice_get xbar.nodes n ≡ Some node = subst (λ (y : XbarDesc). slice_get y.nodes n ≡ Some node) same node_of.is in
      passes_one (is_device_for inst.name (has_one_face block) face.name) xbar.nodes n node is (names_device node names)

  -- no crossbar of this number has a node
  has_none : (x : ℕ) → ((xbar : XbarDesc) → slice_get d.xbars x ≡ Some xbar → has_device_for inst.name (has_one_face block) face.name xbar ≡ false) → HasNodeFor d x i f → ⊥
  has_none x none has =
      let node = has.2 in
      false≢true (sym (none node.crossbar node.crossbar_is) ∙ has_crossbar x node.crossbar node.crossbar_is has)

  -- ---- the space

  -- what is found is the interface's space
  found_space : (place : Option ℕ) → position (has_device_for inst.name (has_one_face block) face.name) d.xbars ≡ place → (space : List ℕ) → space_at d.top place ≡ Some space → IsInSpace d i f space
  unfolding space_at name_of_space space_of_use
  found_space None none space is = by (slice_get d.top.spaces 0) refl is where
    by : (o : Option SpaceDesc) → slice_get d.top.spaces 0 ≡ o → name_of_space o ≡ Some space → IsInSpace d i f space
    by None at is = cc
    by (Some first) at is =
        let named : first.name ≡ space = cc in
        subst (IsInSpace d i f) named
        (of_top first at (λ x has. has_none x (λ xbar there. none_found (has_device_for inst.name (has_one_face block) face.name) d.xbars none x xbar there) has))
  found_space (Some x) first space is = by (slice_get d.top.xbars x) refl is where
    by : (o : Option XbarUse) → slice_get d.top.xbars x ≡ o → space_of_use o ≡ Some space → IsInSpace d i f space
    by None at is = cc
    by (Some listed) at is =
        let named : listed.space ≡ space = cc in
        let found = found_first (has_device_for inst.name (has_one_face block) face.name) d.xbars x first in
        subst (IsInSpace d i f) named
        (of_crossbar x listed at (crossbar_has x found.item found.is found.passes) (λ y less has. has_none y (λ xbar there. found.before y xbar less there) has))

  -- and its space is found
  space_found : (space : List ℕ) → IsInSpace d i f space → space_at d.top (position (has_device_for inst.name (has_one_face block) face.name) d.xbars) ≡ Some space
  unfolding space_at space_of_use name_of_space
  space_found _ (of_crossbar x listed at has none) =
      let node = has.2 in
      let first : IsFirstItem (has_device_for inst.name (has_one_face block) face.name) d.xbars x = record {
        item = node.crossbar;
        is = node.crossbar_is;
        passes = has_crossbar x node.crossbar node.crossbar_is has;
        before = λ j xbar less there. not_there j xbar there (none j less);
      } in
      rw (first_found (has_device_for inst.name (has_one_face block) face.name) d.xbars x first, at) refl
    where
      not_there : (j : ℕ) (xbar : XbarDesc) → slice_get d.xbars j ≡ Some xbar → (HasNodeFor d j i f → ⊥) → has_device_for inst.name (has_one_face block) face.name xbar ≡ false
      not_there j xbar there none = by (has_device_for inst.name (has_one_face block) face.name xbar) refl where
        by : (b : Bool) → has_device_for inst.name (has_one_face block) face.name xbar ≡ b → b ≡ false
        by true is = absurd (none (crossbar_has j xbar there is))
        by false is = refl
  space_found _ (of_top first at none) = by (position (has_device_for inst.name (has_one_face block) face.name) d.xbars) refl where
    by : (o : Option ℕ) → position (has_device_for inst.name (has_one_face block) face.name) d.xbars ≡ o → space_at d.top o ≡ Some first.name
    by None is = rw at refl
    by (Some x) is = let found = found_first (has_device_for inst.name (has_one_face block) face.name) d.xbars x is in absurd (none x (crossbar_has x found.item found.is found.passes))

-- ---- the base

-- the block that is found is the instance's
module _ (m : MergedTop) (files : AreItsFiles (design_of m)) (kinds : AreKinds m) (i : ℕ) where
  pub block_there : (inst : InstDesc) (block : LaidBlock) → IsOf (design_of m) i inst block → block_of m i ≡ Some block
  unfolding block_of block_at
  block_there inst block of =
      let within = slice_get_within m.top.insts i inst of.instance in
      let kind = item_at m.kinds i (subst (λ n. i < n) (sym kinds.count) within) in
      let is = kinds.each i kind.0 inst of.instance kind.1 in
      let same = one_block (design_of m) files inst.kind kind.0 of.number is.0 block is.1 of.block_is in
      rw kind.1 (is.1.is ∙ ap Some same.1)

  pub block_is : (inst : InstDesc) (block : LaidBlock) → InstanceIs (design_of m) i inst → block_of m i ≡ Some block → IsOf (design_of m) i inst block
  block_is inst block there is =
      let within = slice_get_within m.top.insts i inst there in
      let kind = item_at m.kinds i (subst (λ n. i < n) (sym kinds.count) within) in
      let own = kinds.each i kind.0 inst there kind.1 in
      let of : IsOf (design_of m) i inst own.0 = record { instance = there; number = kind.0; block_is = own.1 } in
      let e : Some own.0 ≡ Some block = sym (block_there inst own.0 of) ∙ is in
      let same : own.0 ≡ block = cc in
      subst (λ b. IsOf (design_of m) i inst b) same of

  -- what is found in a space is the base there
  in_space : (f base : ℕ) (inst : InstDesc) (block : LaidBlock) (face : LaidFace) → InstanceIs (design_of m) i inst → block_of m i ≡ Some block → slice_get block.faces f ≡ Some face
      → (o : Option (List ℕ)) → space_at m.top (position (has_device_for inst.name (has_one_face block) face.name) m.xbars) ≡ o
      → base_at inst (has_one_face block) face.name o ≡ Some base → BaseIs m i f base
  unfolding base_at
  in_space f base inst block face there own at None found is = cc
  in_space f base inst block face there own at (Some space) found is =
      let of = block_is inst block there own in
      record {
        inst = inst;
        block = block;
        is = of;
        face = face;
        face_is = at;
        space = space;
        in_space = found_space (design_of m) files i f inst block face of at _ refl space found;
        base_is = is;
      }

  -- what is found is the base
  pub found_is : (f base : ℕ) → found_base m i f ≡ Some base → BaseIs m i f base
  unfolding found_base found_of found_in space_for
  found_is f base is = by (slice_get m.top.insts i) refl (block_of m i) refl is where
    with_face : (inst : InstDesc) (block : LaidBlock) → InstanceIs (design_of m) i inst → block_of m i ≡ Some block
        → (o : Option LaidFace) → slice_get block.faces f ≡ o → found_in m (Some inst) block o ≡ Some base → BaseIs m i f base
    with_face inst block there own None at is = cc
    with_face inst block there own (Some face) at is = in_space f base inst block face there own at _ refl is

    by : (o : Option InstDesc) → slice_get m.top.insts i ≡ o → (b : Option LaidBlock) → block_of m i ≡ b → found_of m o b f ≡ Some base → BaseIs m i f base
    by o there None own is = cc
    by None there (Some block) own is = cc
    by (Some inst) there (Some block) own is = with_face inst block there own _ refl is

  -- and the base is found
  pub is_found : (f base : ℕ) → BaseIs m i f base → found_base m i f ≡ Some base
  unfolding found_base found_of found_in space_for base_at
  is_found f base is =
      let space = space_found (design_of m) files i f is.inst is.block is.face is.is is.face_is is.space is.in_space in
      rw (is.is.instance, block_there is.inst is.block is.is, is.face_is, space) is.base_is

  -- an interface has one base
  pub one_base : (f a b : ℕ) → BaseIs m i f a → BaseIs m i f b → a ≡ b
  one_base f a b first second = let e : Some a ≡ Some b = sym (is_found f a first) ∙ is_found f b second in cc

-- ---- in a merged top

-- an interface of a merged top has a base
pub has_base : (m : MergedTop) → IsMerged m → (i f : ℕ) (face : LaidFace) → FaceAt m i f face → (base : ℕ) × BaseIs m i f base
has_base m merged i f face (block, (k, kind, is), at) =
    let inst = item_at m.top.insts i (subst (λ n. i < n) merged.kinds.count (slice_get_within m.kinds i k kind)) in
    let own = merged.kinds.each i k inst.0 inst.1 kind in
    let same : own.0 ≡ block = same_item m.blocks k own.0 block own.1.is is in
    let of : IsOf (design_of m) i inst.0 block = subst (λ b. IsOf (design_of m) i inst.0 b) same (record { instance = inst.1; number = k; block_is = own.1 }) in
    merged.bases i f inst.0 block of (slice_get_within block.faces f face at)

-- and has one alone
pub base_once : (m : MergedTop) → IsMerged m → (i f a b : ℕ) → BaseIs m i f a → BaseIs m i f b → a ≡ b
base_once m merged i f a b first second = one_base m merged.files merged.kinds i f a b first second
