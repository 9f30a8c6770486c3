-- What the nodes of a top's crossbars are found to stand for.
use Rattle.std.proofs.Common.{◌≡◌, ◌+◌, ◌≤◌, ◌⊎◌, ℕ, zero, suc, Bool, true, false, eqb, List, [], ◌∷◌, ◌++◌, length, map, Option, Some, None, Result, Ok, Err, IfOk, inl, inr, refl, sym, ap, subst, ◌∙◌, arith}
use Rattle.std.specs.List.{position, slice_get}
use Rattle.std.proofs.lemmas.Bool.{false≢true}
use Rattle.std.proofs.lemmas.List.{length-append}
use Rattle.cg_desc.specs.Ends.{CrossbarIs, IsOf, StandsFor}
use Rattle.cg_desc.specs.FoundBase.{block_of}
use Rattle.cg_desc.specs.Merged.{AreEnds, EndAt, IsMerged, NodeAt, design_of}
use Rattle.cg_desc.specs.Top.{Design}
use Rattle.cg_desc.specs.declared.block.HostFace.{HostFace}
use Rattle.cg_desc.specs.declared.block.LaidBlock.{LaidBlock}
use Rattle.cg_desc.specs.declared.block.LaidFace.{LaidFace}
use Rattle.cg_desc.specs.declared.crossbar.NodeDesc.{NodeDesc}
use Rattle.cg_desc.specs.declared.crossbar.XbarDesc.{XbarDesc}
use Rattle.cg_desc.specs.declared.top.InstDesc.{InstDesc}
use Rattle.cg_desc.specs.declared.top.MergedTop.{MergedTop}
use Rattle.cg_desc.specs.declared.top.NodeEnd.{NodeEnd}
use Rattle.cg_desc.specs.declared.top.NodeEnd.TheVariants.{Xbar, Outside}
use Rattle.cg_desc.specs.declared.top.XbarEnds.{XbarEnds}
use Rattle.cg_desc.specs.declared.fault.Fault.{Fault}
use Rattle.cg_desc.proofs.Numbered.{found_first, none_found, one_passes, same_item}
use Rattle.cg_merge.specs.Checks.{AreRead}
use Rattle.cg_merge.specs.Merges.{IsMergeOf}
use Rattle.cg_merge.specs.NodeEnds.{AreAllEnds, AreFor}
use Rattle.cg_merge.specs.Nodes.{EndsIn, Names, end_for, interface_names, interface_of, is_node_for, joins}
use Rattle.cg_merge.specs.Violations.{Violates}
use Rattle.cg_merge.proofs.Fits.{bases_fit, names_fit, nodes_fit, spaces_fit}
use Rattle.cg_merge.proofs.NodeRules.{face_names, host_names, names_face, names_host}
use Rattle.cg_merge.proofs.Partners.{decides_joins}
use Rattle.cg_merge.proofs.Repeats.{decides_item, decides_named, named_none}

-- what is so of a value, where there is one
pub if_ok : {X E : Type 0} (P Q : X → Type 0) (r : Result X E) → ((x : X) → P x → Q x) → IfOk r P → IfOk r Q
if_ok P Q (Ok x) up is = up x is
if_ok P Q (Err e) up is = tt

-- ---- at an instance

module _ (m : MergedTop) (read : AreRead m) (host : Bool) (i : ℕ) (node : NodeDesc) (inst : InstDesc) (block : LaidBlock) (of : IsOf (design_of m) i inst block) where
  -- what is found is named
  found_named : {X : Type 0} (v : X → Option (List ℕ)) (xs : List X) → map v xs ≡ interface_names host block → (f : ℕ)
      → position (λ face. is_node_for host inst.name (eqb (length xs) 1) (v face) node) xs ≡ Some f → Names (design_of m) host node i f
  found_named v xs names f is =
      let first = found_first (λ face. is_node_for host inst.name (eqb (length xs) 1) (v face) node) xs f is in
      (decides_item m read host i inst block of v xs names f first.item first.is node).0 first.passes

  -- and where none is found, none is
  none_named : {X : Type 0} (v : X → Option (List ℕ)) (xs : List X) → map v xs ≡ interface_names host block
      → position (λ face. is_node_for host inst.name (eqb (length xs) 1) (v face) node) xs ≡ None → (f : ℕ) → Names (design_of m) host node i f → ⊥
  none_named v xs names none f named =
      let passes = (decides_named m read host i node inst block of v xs names).1 (f, named) in
      let one = one_passes (λ face. is_node_for host inst.name (eqb (length xs) 1) (v face) node) xs passes in
      false≢true (sym (none_found (λ face. is_node_for host inst.name (eqb (length xs) 1) (v face) node) xs none one.0 one.1 one.2) ∙ one.3)

-- the direction of what is named is the node's
own_direction : (d : Design) (host own : Bool) (node : NodeDesc) (i f : ℕ) → node.host ≡ own → Names d host node i f → Names d own node i f
own_direction d host own node i f is names = subst (λ h. Names d h node i f) (sym names.direction ∙ is) names

-- what a node stands for at an instance of a block
pub ends_in : (m : MergedTop) → AreRead m → (i : ℕ) (node : NodeDesc) (inst : InstDesc) (block : LaidBlock) → IsOf (design_of m) i inst block → (o : Option NodeEnd)
    → o ≡ end_for node.host i (interface_of node.host inst block node) → EndsIn (design_of m) node i o
ends_in m read i node inst block of o is = by node.host refl (interface_of node.host inst block node) refl o is where
  hosts : (o : Option ℕ) → node.host ≡ true → interface_of true inst block node ≡ o → EndsIn (design_of m) node i (end_for true i o)
  hosts None own none = λ host f names. none_named m read true i node inst block of (λ (h : HostFace). h.name) block.desc.hosts refl none f (own_direction (design_of m) host true node i f own names)
  hosts (Some f) own found = λ x. StandsFor.host_interface i f (names_host (found_named m read true i node inst block of (λ (h : HostFace). h.name) block.desc.hosts refl f found))

  devices : (o : Option ℕ) → node.host ≡ false → interface_of false inst block node ≡ o → EndsIn (design_of m) node i (end_for false i o)
  devices None own none = λ host f names. none_named m read false i node inst block of (λ (h : LaidFace). h.name) block.faces refl none f (own_direction (design_of m) host false node i f own names)
  devices (Some f) own found = λ x. StandsFor.device_interface i f (names_face (found_named m read false i node inst block of (λ (h : LaidFace). h.name) block.faces refl f found))

  by : (host : Bool) → node.host ≡ host → (f : Option ℕ) → interface_of node.host inst block node ≡ f → (o : Option NodeEnd) → o ≡ end_for node.host i (interface_of node.host inst block node)
      → EndsIn (design_of m) node i o
  by true own f found o is =
      let here : interface_of true inst block node ≡ f = subst (λ h. interface_of h inst block node ≡ f) own found in
      let same : o ≡ end_for true i f = is ∙ ap (end_for node.host i) found ∙ ap (λ h. end_for h i f) own in
      subst (EndsIn (design_of m) node i) (sym same) (hosts f own here)
  by false own f found o is =
      let here : interface_of false inst block node ≡ f = subst (λ h. interface_of h inst block node ≡ f) own found in
      let same : o ≡ end_for false i f = is ∙ ap (end_for node.host i) found ∙ ap (λ h. end_for h i f) own in
      subst (EndsIn (design_of m) node i) (sym same) (devices f own here)

-- and where there is no block
pub ends_nowhere : (m : MergedTop) → AreRead m → (i : ℕ) (node : NodeDesc) → block_of m i ≡ None → EndsIn (design_of m) node i None
ends_nowhere m read i node none host f names = false≢true ((named_none m read host i node none).1 (f, names))

-- ---- outside

-- a node that stands for no crossbar, and names nothing
pub plain_outside : (d : Design) (node : NodeDesc) → node.xbar ≡ false → ((i : ℕ) (host : Bool) (f : ℕ) → Names d host node i f → ⊥) → (x : ℕ) → StandsFor d x node Outside
plain_outside d node plain none x =
    StandsFor.outside (λ i f names. none i false f (face_names names)) (λ i f names. none i true f (host_names names)) (λ y j. false≢true (sym plain ∙ j.nested))

-- ---- at a crossbar

module _ (d : Design) (outer : XbarDesc) (node : NodeDesc) (nested : node.xbar ≡ true) where
  pub joined_is : (y : ℕ) → position (joins outer.name node) d.xbars ≡ Some y → (x : ℕ) → CrossbarIs d x outer → StandsFor d x node (Xbar y)
  joined_is y found x there =
      let first = found_first (joins outer.name node) d.xbars y found in
      StandsFor.crossbar y ((decides_joins d x node outer there nested y first.item first.is).0 first.passes)

  pub none_joined : position (joins outer.name node) d.xbars ≡ None → (x : ℕ) → CrossbarIs d x outer → StandsFor d x node Outside
  none_joined none x there =
      StandsFor.outside (λ i f names. false≢true (sym names.plain ∙ nested)) (λ i f names. false≢true (sym names.plain ∙ nested))
      (λ y j. false≢true (sym (none_found (joins outer.name node) d.xbars none y j.inner j.inner_is) ∙ (decides_joins d x node outer there nested y j.inner j.inner_is).1 j))

-- ---- each in turn

-- the items so far have theirs
pub record SoFar {X Y : Type 0} (R : ℕ → X → Y → Type 0) (xs : List X) (ys : List Y) (n : ℕ) : Type 0 where
  pub count : length ys ≡ n
  pub each : (i : ℕ) (x : X) (y : Y) → slice_get xs i ≡ Some x → slice_get ys i ≡ Some y → R i x y

pub none_yet : {X Y : Type 0} (R : ℕ → X → Y → Type 0) (xs : List X) → SoFar R xs [] 0
none_yet R xs = record { count = refl; each = λ i x y here there. cc }

-- the items before one that is appended, and that one
appended : {Y : Type 0} (ys : List Y) (y z : Y) (i : ℕ) → slice_get (ys ++ y ∷ []) i ≡ Some z → (slice_get ys i ≡ Some z) ⊎ ((i ≡ length ys) × (y ≡ z))
appended [] y z zero is = let same : y ≡ z = cc in inr (refl, same)
appended [] y z (suc i) is = cc
appended (x ∷ xs) y z zero is = inl is
appended (x ∷ xs) y z (suc i) is = elim (appended xs y z i is) [ inl before ↦ inl before | inr last ↦ inr (ap suc last.0, last.1) ]

pub one_more : {X Y : Type 0} (R : ℕ → X → Y → Type 0) (xs : List X) (ys new : List Y) (n : ℕ) (x : X) (y : Y) → slice_get xs n ≡ Some x → SoFar R xs ys n → R n x y
    → new ≡ ys ++ y ∷ [] → SoFar R xs new (n + 1)
one_more {X} {Y} R xs ys new n x y there before here is = subst (λ zs. SoFar R xs zs (n + 1)) (sym is) (record {
  count = length-append ys (y ∷ []) ∙ ap (λ k. k + 1) before.count;
  each = λ i a b at own. each i a b at (appended ys y b i own);
}) where
  each : (i : ℕ) (a : X) (b : Y) → slice_get xs i ≡ Some a → (slice_get ys i ≡ Some b) ⊎ ((i ≡ length ys) × (y ≡ b)) → R i a b
  each i a b at (inl own) = before.each i a b at own
  each i a b at (inr (last, same)) =
      let now : i ≡ n = last ∙ before.count in
      let one : x ≡ a = same_item xs n x a there (subst (λ k. slice_get xs k ≡ Some a) now at) in
      subst (λ c. R i a c) same (subst (λ c. R i c y) one (subst (λ k. R k x y) (sym now) here))

pub all_are : {X Y : Type 0} (R : ℕ → X → Y → Type 0) (xs : List X) (ys : List Y) (n : ℕ) → n ≤ length xs → length xs ≤ n → SoFar R xs ys n → AreFor R xs ys
all_are R xs ys n within most so = record { count = let count = so.count in omega arith; each = so.each }

-- ---- a merged top

-- a top with these ends in the place of its own
abbrev pub with_ends : MergedTop → List XbarEnds → MergedTop
with_ends m ends = record { top = m.top; xbars = m.xbars; blocks = m.blocks; kinds = m.kinds; ends = ends }

-- the ends are those of a merged top
are_ends : (m : MergedTop) → AreAllEnds (design_of m) m.ends → AreEnds m
are_ends m all = record {
  count = all.count;
  counts = λ x xbar ends there at. (all.each x xbar ends there at).count;
  each = λ x n node e of at. each x n node e of at;
} where
  each : (x n : ℕ) (node : NodeDesc) (e : NodeEnd) → NodeAt m x n node → EndAt m x n e → StandsFor (design_of m) x node e
  each x n node e of (ends, there, at) = (all.each x of.crossbar ends of.crossbar_is there).each n node e of.is at

-- with their ends, files that break no rule are merged
is_merged : (m : MergedTop) → AreRead m → ((f : Fault) → Violates (design_of m) f → ⊥) → (ends : List XbarEnds) → AreAllEnds (design_of m) ends → IsMerged (with_ends m ends)
is_merged m read none ends all = record {
  top = read.top;
  files = read.files;
  crossbars = read.crossbars;
  blocks = read.blocks;
  spaces = spaces_fit (design_of m) read.files none;
  names = names_fit (design_of m) read.files none;
  nodes = nodes_fit (design_of m) read.files none;
  bases = bases_fit m read none;
  kinds = record { count = read.kinds.count; each = read.kinds.each };
  ends = are_ends (with_ends m ends) all;
}

pub merged_of : (m : MergedTop) → AreRead m → ((f : Fault) → Violates (design_of m) f → ⊥) → (ends : List XbarEnds) → AreAllEnds (design_of m) ends → IsMergeOf (design_of m) (with_ends m ends)
merged_of m read none ends all = record { unbroken = none; files = refl; merged = is_merged m read none ends all }
