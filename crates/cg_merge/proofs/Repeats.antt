-- Which interface a node names, and which nodes before it name the same, as it is tested.
use Rattle.std.proofs.Common.{◌≡◌, ◌+◌, ◌<◌, ◌≤◌, ◌⊎◌, ℕ, Bool, true, false, not, eqb, ◌&&◌, ◌||◌, List, length, map, Option, Some, None, inl, inr, refl, sym, ap, subst, ◌∙◌, arith}
use Rattle.std.specs.Bool.{Decides}
use Rattle.std.specs.List.{list_any, slice_get}
use Rattle.std.proofs.lemmas.Bool.{cases_lt, false≢true}
use Rattle.std.proofs.lemmas.List.{length-map}
use Rattle.cg_desc.specs.Ends.{IsOf, Means, NodeOf}
use Rattle.cg_desc.specs.FoundBase.{block_of, is_meant}
use Rattle.cg_desc.specs.Merged.{design_of}
use Rattle.cg_desc.specs.Top.{AreItsFiles, Design}
use Rattle.cg_desc.specs.declared.block.LaidBlock.{LaidBlock}
use Rattle.cg_desc.specs.declared.block.LaidFace.{LaidFace}
use Rattle.cg_desc.specs.declared.block.HostFace.{HostFace}
use Rattle.cg_desc.specs.declared.crossbar.NodeDesc.{NodeDesc}
use Rattle.cg_desc.specs.declared.crossbar.XbarDesc.{XbarDesc}
use Rattle.cg_desc.specs.declared.top.InstDesc.{InstDesc}
use Rattle.cg_desc.specs.declared.top.MergedTop.{MergedTop}
use Rattle.cg_desc.proofs.Blocks.{one_of}
use Rattle.cg_desc.proofs.FoundBases.{block_there}
use Rattle.cg_desc.proofs.InterfaceNames.{meant, means}
use Rattle.cg_desc.proofs.Numbered.{image_at, image_of, item_at, one_passes, passes_one, same_item}
use Rattle.cg_merge.specs.Checks.{AreRead}
use Rattle.cg_merge.specs.Nodes.{IsBefore, Names, RepeatsIn, agrees, interface_names, is_node_for, one_before, repeats}
use Rattle.cg_merge.specs.Violations.{StandsBefore}
use Rattle.cg_merge.proofs.TopRules.{before_is, decides_either, is_before}

-- ---- tests

-- both of two
pub decides_both : {P Q : Type 0} (a b : Bool) → Decides a P → Decides b Q → Decides (a && b) (P × Q)
decides_both true b d e = (λ is. (d.0 refl, e.0 is), λ both. e.1 both.1)
decides_both false b d e = (λ is. absurd (false≢true is), λ both. absurd (false≢true (d.1 both.0)))

-- the same said another way
pub decides_as : {P Q : Type 0} (b : Bool) → Decides b P → (P → Q) → (Q → P) → Decides b Q
decides_as b d to from = (λ is. to (d.0 is), λ q. d.1 (from q))

-- one direction
pub decides_direction : (host b : Bool) → Decides (agrees host b) (b ≡ host)
decides_direction true b = (λ is. is, λ is. is)
decides_direction false true = (λ is. absurd (false≢true is), λ is. absurd (false≢true (sym is)))
decides_direction false false = (λ is. refl, λ is. refl)

pub decides_plain : (b : Bool) → Decides (not b) (b ≡ false)
decides_plain true = (λ is. absurd (false≢true is), λ is. absurd (false≢true (sym is)))
decides_plain false = (λ is. refl, λ is. refl)

-- an item passes where one meets what the test decides
pub decides_any : {X : Type 0} {P : X → Type 0} (p : X → Bool) (xs : List X) → ((x : X) → Decides (p x) (P x)) → Decides (list_any p xs) ((i : ℕ) × (x : X) × (slice_get xs i ≡ Some x) × P x)
decides_any p xs d = (
  λ is. let one = one_passes p xs is in (one.0, one.1, one.2, (d one.1).0 one.3),
  λ has. passes_one p xs has.0 has.1 has.2 ((d has.1).1 has.3),
)

-- ---- one node

-- what is meant is there
meant_at : (instance name : List ℕ) (interfaces : List (Option (List ℕ))) (f : ℕ) → Means instance interfaces name f → (own : Option (List ℕ)) × (slice_get interfaces f ≡ Some own)
meant_at instance _ interfaces f (Means.by_name _ interface is) = (Some interface, is)
meant_at instance _ interfaces f (Means.without_name _ is) = (None, is)
meant_at instance _ interfaces _ (Means.only_one one) = item_at interfaces 0 (omega arith)

module _ (d : Design) (files : AreItsFiles d) (host : Bool) (i f : ℕ) (inst : InstDesc) (block : LaidBlock) (own : Option (List ℕ)) (of : IsOf d i inst block)
    (at : slice_get (interface_names host block) f ≡ Some own) where
  -- a node means the interface where it names it
  pub decides_names : (node : NodeDesc) → Decides (is_node_for host inst.name (eqb (length (interface_names host block)) 1) own node) (Names d host node i f)
  unfolding is_node_for
  decides_names node =
      decides_as _
      (decides_both _ _ (decides_direction host node.host) (decides_both _ _ (decides_plain node.xbar) (λ is. is, λ is. is)))
      to from
    where
      to : (node.host ≡ host) × ((node.xbar ≡ false) × (is_meant node.name inst.name (eqb (length (interface_names host block)) 1) own ≡ true)) → Names d host node i f
      to (direction, (plain, said)) = record {
        direction = direction;
        plain = plain;
        inst = inst;
        block = block;
        is = of;
        means = means inst.name node.name (interface_names host block) f own at said;
      }

      from : Names d host node i f → (node.host ≡ host) × ((node.xbar ≡ false) × (is_meant node.name inst.name (eqb (length (interface_names host block)) 1) own ≡ true))
      from names =
          let same = one_of d files i names.inst inst names.block block names.is of in
          let mine = subst (λ (b : LaidBlock). Means inst.name (interface_names host b) node.name f) same.1 (subst (λ (x : InstDesc). Means x.name (interface_names host names.block) node.name f) same.0 names.means) in
          (names.direction, (names.plain, meant inst.name node.name (interface_names host block) f own at mine))

-- ---- nodes before

-- a node that stands before, and meets this
abbrev pub SomeBefore : Design → ℕ → ℕ → (NodeDesc → Type 0) → Type 0
SomeBefore d x n Q = (y : ℕ) × (k : ℕ) × (earlier : NodeDesc) × StandsBefore y k x n × NodeOf d y k earlier × Q earlier

pub decides_before : (d : Design) (x n : ℕ) (xbars : List XbarDesc) (nodes : List NodeDesc) → IsBefore d x n xbars nodes → (p : NodeDesc → Bool) (Q : NodeDesc → Type 0)
    → ((node : NodeDesc) → Decides (p node) (Q node)) → Decides (one_before p xbars nodes) (SomeBefore d x n Q)
unfolding one_before
decides_before d x n xbars nodes before p Q dec =
    decides_as _ (decides_either _ _ (decides_any (λ (xbar : XbarDesc). list_any p xbar.nodes) xbars (λ (xbar : XbarDesc). decides_any p xbar.nodes dec)) (decides_any p nodes dec)) to from
  where
    InCrossbars : Type 0
    InCrossbars = (y : ℕ) × (xbar : XbarDesc) × (slice_get xbars y ≡ Some xbar) × ((k : ℕ) × (node : NodeDesc) × (slice_get xbar.nodes k ≡ Some node) × Q node)

    InOwn : Type 0
    InOwn = (k : ℕ) × (node : NodeDesc) × (slice_get nodes k ≡ Some node) × Q node

    to : InCrossbars ⊎ InOwn → SomeBefore d x n Q
    to (inl (y, xbar, there, (k, node, at, q))) =
        let in_front = before_is d.xbars x y xbar (subst (λ (xs : List XbarDesc). slice_get xs y ≡ Some xbar) before.crossbars there) in
        (y, k, node, inl in_front.0, record { crossbar = xbar; crossbar_is = in_front.1; is = at }, q)
    to (inr (k, node, at, q)) =
        let in_front = before_is before.crossbar.nodes n k node (subst (λ (xs : List NodeDesc). slice_get xs k ≡ Some node) before.own at) in
        (x, k, node, inr (refl, in_front.0), record { crossbar = before.crossbar; crossbar_is = before.is; is = in_front.1 }, q)

    from : SomeBefore d x n Q → InCrossbars ⊎ InOwn
    from (y, k, node, inl less, is, q) =
        inl (y, is.crossbar, subst (λ (xs : List XbarDesc). slice_get xs y ≡ Some is.crossbar) (sym before.crossbars) (is_before d.xbars x y is.crossbar less is.crossbar_is), (k, node, is.is, q))
    from (y, k, node, inr (same, less), is, q) =
        let mine : is.crossbar ≡ before.crossbar = same_item d.xbars x is.crossbar before.crossbar (subst (λ z. slice_get d.xbars z ≡ Some is.crossbar) same is.crossbar_is) before.is in
        let at : slice_get before.crossbar.nodes k ≡ Some node = subst (λ (b : XbarDesc). slice_get b.nodes k ≡ Some node) mine is.is in
        inr (k, node, subst (λ (xs : List NodeDesc). slice_get xs k ≡ Some node) (sym before.own) (is_before before.crossbar.nodes n k node less at), q)

-- ---- an interface as an item of a list

-- a node means an item where it names the interface of its number
pub decides_item : (m : MergedTop) → AreRead m → (host : Bool) (i : ℕ) (inst : InstDesc) (block : LaidBlock) → IsOf (design_of m) i inst block → {X : Type 0} (v : X → Option (List ℕ)) (xs : List X)
    → map v xs ≡ interface_names host block → (f : ℕ) (face : X) → slice_get xs f ≡ Some face → (node : NodeDesc)
    → Decides (is_node_for host inst.name (eqb (length xs) 1) (v face) node) (Names (design_of m) host node i f)
decides_item m read host i inst block of v xs names f face is node =
    subst (λ c. Decides (is_node_for host inst.name (eqb c 1) (v face) node) (Names (design_of m) host node i f)) (ap length (sym names) ∙ length-map xs v)
    (decides_names (design_of m) read.files host i f inst block (v face) of (subst (λ (ns : List (Option (List ℕ))). slice_get ns f ≡ Some (v face)) names (image_at v xs f face is)) node)

-- ---- interfaces that are named again

-- of one direction
abbrev pub Again : Design → Bool → ℕ → ℕ → NodeDesc → ℕ → Type 0
Again d host x n node i = (f : ℕ) × Names d host node i f × SomeBefore d x n (λ earlier. Names d host earlier i f)

pub decides_again : (m : MergedTop) → AreRead m → (host : Bool) (x n i : ℕ) (xbars : List XbarDesc) (nodes : List NodeDesc) → IsBefore (design_of m) x n xbars nodes → (node : NodeDesc) (inst : InstDesc) (block : LaidBlock)
    → IsOf (design_of m) i inst block → {X : Type 0} (v : X → Option (List ℕ)) (xs : List X) → map v xs ≡ interface_names host block
    → Decides (list_any (λ face. repeats host inst.name (eqb (length xs) 1) xbars nodes node (v face)) xs) (Again (design_of m) host x n node i)
decides_again m read host x n i xbars nodes before node inst block of {X} v xs names = (there, back) where
  one : (f : ℕ) (face : X) → slice_get xs f ≡ Some face → (other : NodeDesc) → Decides (is_node_for host inst.name (eqb (length xs) 1) (v face) other) (Names (design_of m) host other i f)
  one f face is other = decides_item m read host i inst block of v xs names f face is other

  both : (f : ℕ) (face : X) → slice_get xs f ≡ Some face
      → Decides (repeats host inst.name (eqb (length xs) 1) xbars nodes node (v face)) (Names (design_of m) host node i f × SomeBefore (design_of m) x n (λ earlier. Names (design_of m) host earlier i f))
  both f face is =
      decides_both _ _ (one f face is node)
      (decides_before (design_of m) x n xbars nodes before (is_node_for host inst.name (eqb (length xs) 1) (v face)) (λ earlier. Names (design_of m) host earlier i f) (one f face is))

  there : list_any (λ face. repeats host inst.name (eqb (length xs) 1) xbars nodes node (v face)) xs ≡ true → Again (design_of m) host x n node i
  there is =
      let passed = one_passes (λ face. repeats host inst.name (eqb (length xs) 1) xbars nodes node (v face)) xs is in
      let facts = (both passed.0 passed.1 passed.2).0 passed.3 in
      (passed.0, facts.0, facts.1)

  face_at : (f : ℕ) → Names (design_of m) host node i f → (face : X) × (slice_get xs f ≡ Some face)
  face_at f named =
      let same = (one_of (design_of m) read.files i named.inst inst named.block block named.is of).1 in
      let inside = meant_at named.inst.name node.name (interface_names host named.block) f named.means in
      let here = subst (λ (ns : List (Option (List ℕ))). slice_get ns f ≡ Some inside.0) (sym names) (subst (λ (b : LaidBlock). slice_get (interface_names host b) f ≡ Some inside.0) same inside.1) in
      let one = image_of v xs f inside.0 here in
      (one.0, one.1)

  back : Again (design_of m) host x n node i → list_any (λ face. repeats host inst.name (eqb (length xs) 1) xbars nodes node (v face)) xs ≡ true
  back (f, named, some) =
      let face = face_at f named in
      passes_one (λ face. repeats host inst.name (eqb (length xs) 1) xbars nodes node (v face)) xs f face.0 face.1 ((both f face.0 face.1).1 (named, some))

-- ---- of an instance

pub decides_repeats : (m : MergedTop) → AreRead m → (x n i : ℕ) (xbars : List XbarDesc) (nodes : List NodeDesc) → IsBefore (design_of m) x n xbars nodes → (node : NodeDesc) (inst : InstDesc) (block : LaidBlock)
    → IsOf (design_of m) i inst block
    → Decides (list_any (λ (face : LaidFace). repeats false inst.name (eqb (length block.faces) 1) xbars nodes node face.name) block.faces
    || list_any (λ (face : HostFace). repeats true inst.name (eqb (length block.desc.hosts) 1) xbars nodes node face.name) block.desc.hosts) (RepeatsIn (design_of m) x n node i)
decides_repeats m read x n i xbars nodes before node inst block of =
    decides_as _
    (decides_either _ _ (decides_again m read false x n i xbars nodes before node inst block of (λ (face : LaidFace). face.name) block.faces refl)
    (decides_again m read true x n i xbars nodes before node inst block of (λ (face : HostFace). face.name) block.desc.hosts refl)) to from where
      made : (host : Bool) → Again (design_of m) host x n node i → RepeatsIn (design_of m) x n node i
      made host (f, names, (y, k, earlier, stands, is, also)) =
          record { host = host; face = f; names = names; y = y; k = k; earlier = earlier; before = stands; is = is; also = also }

      to : Again (design_of m) false x n node i ⊎ Again (design_of m) true x n node i → RepeatsIn (design_of m) x n node i
      to (inl again) = made false again
      to (inr again) = made true again

      by : (host : Bool) → Again (design_of m) host x n node i → Again (design_of m) false x n node i ⊎ Again (design_of m) true x n node i
      by true again = inr again
      by false again = inl again

      from : RepeatsIn (design_of m) x n node i → Again (design_of m) false x n node i ⊎ Again (design_of m) true x n node i
      from r = by r.host (r.face, r.names, (r.y, r.k, r.earlier, r.before, r.is, r.also))

-- where there is no block, nothing is named
pub repeats_none : (m : MergedTop) → AreRead m → (x n i : ℕ) (node : NodeDesc) → block_of m i ≡ None → Decides false (RepeatsIn (design_of m) x n node i)
repeats_none m read x n i node none = (
  λ is. absurd (false≢true is),
  λ r. let e : Some r.names.block ≡ None = sym (block_there m read.files read.kinds i r.names.inst r.names.block r.names.is) ∙ none in cc,
)

-- one more of which it is not so
pub none_more : (P : ℕ → Type 0) (n : ℕ) → ((i : ℕ) → i < n → P i → ⊥) → (P n → ⊥) → (i : ℕ) → i < n + 1 → P i → ⊥
none_more P n before here i less p = by (cases_lt i n) where
  by : (i < n) ⊎ (n ≤ i) → ⊥
  by (inl below) = before i below p
  by (inr above) = let e : i ≡ n = omega arith in here (subst P e p)

-- ---- interfaces that are named

pub decides_named : (m : MergedTop) → AreRead m → (host : Bool) (i : ℕ) (node : NodeDesc) (inst : InstDesc) (block : LaidBlock) → IsOf (design_of m) i inst block → {X : Type 0} (v : X → Option (List ℕ)) (xs : List X)
    → map v xs ≡ interface_names host block → Decides (list_any (λ face. is_node_for host inst.name (eqb (length xs) 1) (v face) node) xs) ((f : ℕ) × Names (design_of m) host node i f)
decides_named m read host i node inst block of {X} v xs names = (there, back) where
  one : (f : ℕ) (face : X) → slice_get xs f ≡ Some face → Decides (is_node_for host inst.name (eqb (length xs) 1) (v face) node) (Names (design_of m) host node i f)
  one f face is = decides_item m read host i inst block of v xs names f face is node

  there : list_any (λ face. is_node_for host inst.name (eqb (length xs) 1) (v face) node) xs ≡ true → (f : ℕ) × Names (design_of m) host node i f
  there is = let passed = one_passes (λ face. is_node_for host inst.name (eqb (length xs) 1) (v face) node) xs is in (passed.0, (one passed.0 passed.1 passed.2).0 passed.3)

  back : (f : ℕ) × Names (design_of m) host node i f → list_any (λ face. is_node_for host inst.name (eqb (length xs) 1) (v face) node) xs ≡ true
  back (f, named) =
      let same = (one_of (design_of m) read.files i named.inst inst named.block block named.is of).1 in
      let inside = meant_at named.inst.name node.name (interface_names host named.block) f named.means in
      let here = subst (λ (ns : List (Option (List ℕ))). slice_get ns f ≡ Some inside.0) (sym names) (subst (λ (b : LaidBlock). slice_get (interface_names host b) f ≡ Some inside.0) same inside.1) in
      let face = image_of v xs f inside.0 here in
      passes_one (λ face. is_node_for host inst.name (eqb (length xs) 1) (v face) node) xs f face.0 face.1 ((one f face.0 face.1).1 named)

pub named_none : (m : MergedTop) → AreRead m → (host : Bool) (i : ℕ) (node : NodeDesc) → block_of m i ≡ None → Decides false ((f : ℕ) × Names (design_of m) host node i f)
named_none m read host i node none = (
  λ is. absurd (false≢true is),
  λ r. let e : Some r.1.block ≡ None = sym (block_there m read.files read.kinds i r.1.inst r.1.block r.1.is) ∙ none in cc,
)
