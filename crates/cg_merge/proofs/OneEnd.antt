-- A node of a merged top stands for one thing.
use Rattle.std.proofs.Common.{◌≡◌, ◌⊎◌, ℕ, zero, suc, Bool, true, false, List, [], ◌∷◌, ◌++◌, length, map, Option, Some, None, inl, inr, refl, sym, ap, subst, ◌∙◌, arith}
use Rattle.std.specs.List.{slice_get}
use Rattle.std.proofs.lemmas.Bool.{false≢true}
use Rattle.std.proofs.lemmas.List.{append-nil}
use Rattle.std.proofs.lemmas.Option.{slice_get_within}
use Rattle.cg_svspec.specs.Characters.{Each, IsWord, is_first, is_name_character}
use Rattle.cg_svspec.specs.Printable.{AllOf}
use Rattle.cg_desc.specs.Ends.{IsOf, Joins, Means, StandsFor}
use Rattle.cg_desc.specs.Merged.{IsMerged, IsValidLaidBlock, design_of}
use Rattle.cg_desc.specs.Top.{IsValidInstance}
use Rattle.cg_desc.specs.Valid.{HostsDiffer, InterfacesDiffer}
use Rattle.cg_desc.specs.declared.block.FaceDesc.{FaceDesc}
use Rattle.cg_desc.specs.declared.block.HostFace.{HostFace}
use Rattle.cg_desc.specs.declared.block.LaidBlock.{LaidBlock}
use Rattle.cg_desc.specs.declared.crossbar.NodeDesc.{NodeDesc}
use Rattle.cg_desc.specs.declared.top.InstDesc.{InstDesc}
use Rattle.cg_desc.specs.declared.top.MergedTop.{MergedTop}
use Rattle.cg_desc.specs.declared.top.NodeEnd.{NodeEnd}
use Rattle.cg_desc.specs.declared.top.NodeEnd.TheVariants.{Face, Host, Xbar}
use Rattle.cg_desc.proofs.Blocks.{one_of}
use Rattle.cg_desc.proofs.Numbered.{image_of}
use Rattle.cg_merge.specs.Nodes.{Names, interface_names}
use Rattle.cg_merge.proofs.InstanceRules.{all_at}
use Rattle.cg_merge.proofs.NodeRules.{face_names, host_names, no_nested}

-- ---- texts before a dot

-- no character is a dot
abbrev Dotless : List ℕ → Type 0
Dotless [] = Unit {0}
Dotless (c ∷ cs) = (c ≡ 46 → ⊥) × Dotless cs

-- nothing, or a dot and more
abbrev Tail : List ℕ → Type 0
Tail [] = Unit {0}
Tail (c ∷ cs) = c ≡ 46

no_dot : (p : ℕ → Bool) → p 46 ≡ false → (c : ℕ) → p c ≡ true → c ≡ 46 → ⊥
no_dot p dot c is same = false≢true (sym dot ∙ subst (λ k. p k ≡ true) same is)

dotless_each : (w : List ℕ) → Each is_name_character w → Dotless w
dotless_each [] each = tt
dotless_each (c ∷ cs) each = (no_dot is_name_character refl c each.0, dotless_each cs each.1)

dotless : (w : List ℕ) → IsWord w → Dotless w
dotless [] word = absurd word
dotless (c ∷ cs) word = (λ same. false≢true (subst (λ k. is_first k ≡ true) same word.0), dotless_each cs word.1)

same_front : (a b r s : List ℕ) → Dotless a → Dotless b → Tail r → Tail s → a ++ r ≡ b ++ s → (a ≡ b) × (r ≡ s)
same_front [] [] r s here there t u e = (refl, e)
same_front [] (c ∷ cs) [] s here there t u e = cc
same_front [] (c ∷ cs) (x ∷ r) s here there t u e = let same : c ≡ x = cc in absurd (there.0 (same ∙ t))
same_front (c ∷ cs) [] r [] here there t u e = cc
same_front (c ∷ cs) [] r (x ∷ s) here there t u e = let same : c ≡ x = cc in absurd (here.0 (same ∙ u))
same_front (c ∷ cs) (b ∷ bs) r s here there t u e =
    let first : c ≡ b = cc in
    let more : cs ++ r ≡ bs ++ s = cc in
    let rest = same_front cs bs r s here.1 there.1 t u more in
    (ap (λ k. k ∷ cs) first ∙ ap (λ ks. b ∷ ks) rest.0, rest.1)

-- ---- an interface by what stands behind the instance's name

-- nothing: the one without a name, or the only one; a dot and a name: the one of that name
abbrev Which : List (Option (List ℕ)) → List ℕ → ℕ → Type 0
Which interfaces [] f = (slice_get interfaces f ≡ Some None) ⊎ ((length interfaces ≡ 1) × (f ≡ 0))
Which interfaces (c ∷ name) f = slice_get interfaces f ≡ Some (Some name)

record Behind (instance : List ℕ) (interfaces : List (Option (List ℕ))) (name : List ℕ) (f : ℕ) : Type 0 where
  rest : List ℕ
  tail : Tail rest
  is : instance ++ rest ≡ name
  which : Which interfaces rest f

behind : (instance name : List ℕ) (interfaces : List (Option (List ℕ))) (f : ℕ) → Means instance interfaces name f → Behind instance interfaces name f
behind instance _ interfaces f (Means.by_name _ interface there) = record { rest = 46 ∷ interface; tail = refl; is = refl; which = there }
behind instance _ interfaces f (Means.without_name _ there) = record { rest = []; tail = tt; is = append-nil instance; which = inl there }
behind instance _ interfaces _ (Means.only_one one) = record { rest = []; tail = tt; is = append-nil instance; which = inr (one, refl) }

-- no two have one name, and no two have none
abbrev OnceEach : List (Option (List ℕ)) → Type 0
OnceEach names = (i j : ℕ) (n : Option (List ℕ)) → slice_get names i ≡ Some n → slice_get names j ≡ Some n → i ≡ j

which_once : (names : List (Option (List ℕ))) → OnceEach names → (rest : List ℕ) (f g : ℕ) → Which names rest f → Which names rest g → f ≡ g
which_once names once [] f g (inl a) (inl b) = once f g None a b
which_once names once [] f g (inl a) (inr (one, zero_is)) = let within = slice_get_within names f None a in omega arith
which_once names once [] f g (inr (one, zero_is)) (inl b) = let within = slice_get_within names g None b in omega arith
which_once names once [] f g (inr (one, a)) (inr (also, b)) = a ∙ sym b
which_once names once (c ∷ name) f g a b = once f g (Some name) a b

-- items whose names differ
abbrev Differ : {X : Type 0} → (X → Option (List ℕ)) → List X → Type 0
Differ v [] = Unit {0}
Differ v (x ∷ xs) = AllOf (λ y. ¬ (v x ≡ v y)) xs × Differ v xs

once_each : {X : Type 0} (v : X → Option (List ℕ)) (xs : List X) → Differ v xs → OnceEach (map v xs)
once_each v [] differ i j n a b = cc
once_each v (x ∷ xs) differ zero zero n a b = refl
once_each v (x ∷ xs) differ zero (suc j) n a b =
    let other = image_of v xs j n b in
    let mine : v x ≡ n = cc in
    absurd (all_at (λ y. ¬ (v x ≡ v y)) xs j other.0 differ.0 other.1 (mine ∙ sym other.2))
once_each v (x ∷ xs) differ (suc i) zero n a b =
    let other = image_of v xs i n a in
    let mine : v x ≡ n = cc in
    absurd (all_at (λ y. ¬ (v x ≡ v y)) xs i other.0 differ.0 other.1 (mine ∙ sym other.2))
once_each v (x ∷ xs) differ (suc i) (suc j) n a b = ap suc (once_each v xs differ.1 i j n a b)

hosts_differ : (hs : List HostFace) → HostsDiffer hs → Differ (λ h. h.name) hs
hosts_differ [] differ = tt
hosts_differ (h ∷ hs) differ = (differ.0, hosts_differ hs differ.1)

faces_differ : (fs : List FaceDesc) → InterfacesDiffer fs → Differ (λ f. f.name) fs
faces_differ [] differ = tt
faces_differ (f ∷ fs) differ = (differ.0, faces_differ fs differ.1)

-- so the interfaces of a valid block
names_once : (host : Bool) (b : LaidBlock) → IsValidLaidBlock b → OnceEach (interface_names host b)
names_once true b valid = once_each (λ (h : HostFace). h.name) b.desc.hosts (hosts_differ b.desc.hosts valid.block.hosts_differ)
names_once false b valid = subst OnceEach (sym valid.named) (once_each (λ (f : FaceDesc). f.name) b.desc.faces (faces_differ b.desc.faces valid.block.interfaces_differ))

-- ---- in a merged top

module _ (m : MergedTop) (merged : IsMerged m) where
  word_of : (i : ℕ) (inst : InstDesc) → slice_get m.top.insts i ≡ Some inst → Dotless inst.name
  word_of i inst there = let valid = all_at IsValidInstance m.top.insts i inst merged.top.instances there in dotless inst.name valid.name.0.0

  -- a node names one interface
  pub one_interface : (host : Bool) (node : NodeDesc) (i f j g : ℕ) → Names (design_of m) host node i f → Names (design_of m) host node j g → (i ≡ j) × (f ≡ g)
  one_interface host node i f j g a b =
      let first = behind a.inst.name node.name (interface_names host a.block) f a.means in
      let second = behind b.inst.name node.name (interface_names host b.block) g b.means in
      let front = same_front a.inst.name b.inst.name first.rest second.rest (word_of i a.inst a.is.instance) (word_of j b.inst b.is.instance) first.tail second.tail (first.is ∙ sym second.is) in
      let place : i ≡ j = merged.names.instances i j a.inst b.inst a.is.instance b.is.instance front.0 in
      let block : a.block ≡ b.block = (one_of (design_of m) merged.files i a.inst b.inst a.block b.block a.is (subst (λ k. IsOf (design_of m) k b.inst b.block) (sym place) b.is)).1 in
      let mine : Which (interface_names host b.block) second.rest f =
      subst (λ r. Which (interface_names host b.block) r f) front.1 (subst (λ (k : LaidBlock). Which (interface_names host k) first.rest f) block first.which) in
      let once = names_once host b.block (all_at IsValidLaidBlock m.blocks b.is.number b.block merged.blocks b.is.block_is.is) in
      (place, which_once (interface_names host b.block) once second.rest f g mine second.which)

  -- and joins one crossbar
  pub one_joined : (x : ℕ) (node : NodeDesc) (y z : ℕ) → Joins (design_of m) x node y → Joins (design_of m) x node z → y ≡ z
  one_joined x node y z a b = merged.names.crossbars y z a.inner b.inner a.inner_is b.inner_is (sym a.names ∙ b.names)

  -- so it stands for one thing
  pub one_end : (x : ℕ) (node : NodeDesc) (e o : NodeEnd) → StandsFor (design_of m) x node e → StandsFor (design_of m) x node o → e ≡ o
  one_end x node _ _ (StandsFor.device_interface i f a) (StandsFor.device_interface j g b) =
      let same = one_interface false node i f j g (face_names a) (face_names b) in ap (λ k. Face k f) same.0 ∙ ap (Face j) same.1
  one_end x node _ _ (StandsFor.device_interface i f a) (StandsFor.host_interface j g b) = absurd (no_nested a.device b.host)
  one_end x node _ _ (StandsFor.device_interface i f a) (StandsFor.crossbar y b) = absurd (no_nested a.plain b.nested)
  one_end x node _ _ (StandsFor.device_interface i f a) (StandsFor.outside face host joined) = absurd (face i f a)
  one_end x node _ _ (StandsFor.host_interface i f a) (StandsFor.device_interface j g b) = absurd (no_nested b.device a.host)
  one_end x node _ _ (StandsFor.host_interface i f a) (StandsFor.host_interface j g b) =
      let same = one_interface true node i f j g (host_names a) (host_names b) in ap (λ k. Host k f) same.0 ∙ ap (Host j) same.1
  one_end x node _ _ (StandsFor.host_interface i f a) (StandsFor.crossbar y b) = absurd (no_nested a.plain b.nested)
  one_end x node _ _ (StandsFor.host_interface i f a) (StandsFor.outside face host joined) = absurd (host i f a)
  one_end x node _ _ (StandsFor.crossbar y a) (StandsFor.device_interface j g b) = absurd (no_nested b.plain a.nested)
  one_end x node _ _ (StandsFor.crossbar y a) (StandsFor.host_interface j g b) = absurd (no_nested b.plain a.nested)
  one_end x node _ _ (StandsFor.crossbar y a) (StandsFor.crossbar z b) = ap Xbar (one_joined x node y z a b)
  one_end x node _ _ (StandsFor.crossbar y a) (StandsFor.outside face host joined) = absurd (joined y a)
  one_end x node _ _ (StandsFor.outside face host joined) (StandsFor.device_interface j g b) = absurd (face j g b)
  one_end x node _ _ (StandsFor.outside face host joined) (StandsFor.host_interface j g b) = absurd (host j g b)
  one_end x node _ _ (StandsFor.outside face host joined) (StandsFor.crossbar y b) = absurd (joined y b)
  one_end x node _ _ (StandsFor.outside face host joined) (StandsFor.outside also too more) = refl
