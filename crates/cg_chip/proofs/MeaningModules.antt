-- The modules that stand behind a top's: each is found by its name, and none has the name of a type.
use Rattle.std.proofs.Common.{List, None, Some, [], ap, arith, codes, flat_map, inl, inr, length, map, refl, slice_get, subst, suc, sym, zero, ℕ, ◌++◌, ◌<◌, ◌∙◌, ◌∷◌, ◌≡◌, ◌⊎◌}
use Rattle.cg_busspec.specs.Crossbar.{crossbar_of as with_ranges}
use Rattle.cg_busspec.specs.CrossbarModule.{crossbar_module}
use Rattle.cg_clkrst.specs.declared.tie.Tie.{Tie}
use Rattle.cg_desc.proofs.Numbered.{item_at}
use Rattle.cg_desc.specs.declared.block.LaidBlock.{LaidBlock}
use Rattle.cg_desc.specs.declared.block.LaidFace.{LaidFace}
use Rattle.cg_desc.specs.declared.crossbar.NodeRanges.{NodeRanges}
use Rattle.cg_desc.specs.declared.crossbar.XbarDesc.{XbarDesc}
use Rattle.cg_desc.specs.declared.top.MergedTop.{MergedTop}
use Rattle.cg_irq.specs.declared.bits.IrqMap.{IrqMap}
use Rattle.cg_pinmux.specs.declared.map.PinMap.{PinMap}
use Rattle.cg_regspec.specs.RegisterModule.{module_of_face, modules_of, register_module, register_module_name}
use Rattle.cg_svspec.proofs.NamesLemmas.{differ_across, differ_back, differ_front, differ_join}
use Rattle.cg_svspec.specs.Names.{Among, Differ, first_repeat, module_names}
use Rattle.cg_svspec.specs.Tree.{Module}
use Rattle.cg_svspec.specs.Walk.{module_named}
use Rattle.cg_topspec.proofs.ApartNames.{no_clash}
use Rattle.cg_topspec.proofs.ListLemmas.{in_back, in_each, in_front, in_map, in_parts}
use Rattle.cg_topspec.proofs.Named.{found_by_name, names_of, not_found}
use Rattle.cg_topspec.proofs.Relations.{item_of}
use Rattle.cg_topspec.specs.Clashes.{clash_lists, crossbar_module_names, first_clash, known_modules, register_names, type_names}
use Rattle.cg_topspec.specs.Modules.{HasCrossbarModule, HasModules, HasRegisterModule}
use Rattle.cg_topspec.specs.Top.{crossbar_of, no_crossbar}
use Rattle.cg_topspec.specs.TopModule.{top_module, top_module_name}
use Rattle.cg_chip.specs.Chip.{AreRangesOfAll}
use Rattle.cg_chip.specs.declared.chip.XbarRanges.{XbarRanges}

-- ---- the list

-- the modules of the crossbars
abbrev pub crossbar_modules : List XbarDesc → List XbarRanges → List Module
crossbar_modules [] rs = []
crossbar_modules (x ∷ xs) [] = []
crossbar_modules (x ∷ xs) (r ∷ rs) = crossbar_module (with_ranges x r.ranges) ∷ crossbar_modules xs rs

-- ---- names of modules

crossbar_name : (x : XbarDesc) (ranges : List NodeRanges) → (crossbar_module (with_ranges x ranges)).name ≡ codes "xbar_" ++ x.name
unfolding crossbar_module
crossbar_name x ranges = refl

register_name : (b : LaidBlock) (face : LaidFace) → (module_of_face b face).name ≡ register_module_name b.desc.name face.name
unfolding register_module
register_name b face = refl

first_name : (m : MergedTop) (numbers : IrqMap) (ties : List Tie) (pins : PinMap) → (top_module m numbers ties pins).name ≡ top_module_name m
unfolding top_module
first_name m numbers ties pins = refl

names_join : (ms ns : List Module) → names_of (ms ++ ns) ≡ names_of ms ++ names_of ns
names_join [] ns = refl
names_join (m ∷ ms) ns = ap (λ names. m.name ∷ names) (names_join ms ns)

no_shorter : (n : ℕ) → suc n ≡ 0 → ⊥
no_shorter n e = cc

one_less : (a b : ℕ) → suc a ≡ suc b → a ≡ b
one_less a b e = cc

crossbar_names : (xs : List XbarDesc) (rs : List XbarRanges) → length rs ≡ length xs → names_of (crossbar_modules xs rs) ≡ map (λ (x : XbarDesc). codes "xbar_" ++ x.name) xs
crossbar_names [] rs count = refl
crossbar_names (x ∷ xs) [] count = absurd (no_shorter (length xs) (sym count))
crossbar_names (x ∷ xs) (r ∷ rs) count =
    λ i. crossbar_name x r.ranges i ∷ crossbar_names xs rs (one_less (length rs) (length xs) count) i

face_names : (b : LaidBlock) (faces : List LaidFace) → names_of (map (module_of_face b) faces) ≡ map (λ (face : LaidFace). register_module_name b.desc.name face.name) faces
face_names b [] = refl
face_names b (face ∷ faces) = λ i. register_name b face i ∷ face_names b faces i

block_names : (bs : List LaidBlock) → names_of (flat_map modules_of bs) ≡ flat_map register_names bs
block_names [] = refl
block_names (b ∷ bs) = names_join (modules_of b) (flat_map modules_of bs) ∙ (λ i. face_names b b.faces i ++ block_names bs i)

-- ---- modules of the list

pub crossbar_among : (xs : List XbarDesc) (rs : List XbarRanges) (x : ℕ) (xbar : XbarDesc) (r : XbarRanges) → slice_get xs x ≡ Some xbar → slice_get rs x ≡ Some r
    → Among (crossbar_module (with_ranges xbar r.ranges)) (crossbar_modules xs rs)
crossbar_among [] rs x xbar r is ranges_are = absurd (nothing_there x is) where
  nothing_there : (x : ℕ) → slice_get {X = XbarDesc} [] x ≡ Some xbar → ⊥
  nothing_there x e = cc
crossbar_among (y ∷ xs) [] x xbar r is ranges_are = absurd (nothing_there x ranges_are) where
  nothing_there : (x : ℕ) → slice_get {X = XbarRanges} [] x ≡ Some r → ⊥
  nothing_there x e = cc
crossbar_among (y ∷ xs) (s ∷ rs) zero xbar r is ranges_are =
    let same : xbar ≡ y = cc in
    let with : r ≡ s = cc in
    inl (λ i. crossbar_module (with_ranges (same i) (with i).ranges))
crossbar_among (y ∷ xs) (s ∷ rs) (suc x) xbar r is ranges_are = inr (crossbar_among xs rs x xbar r is ranges_are)

-- ---- the modules that are there

-- In no module a name stands twice.
pub record AreApart (m : MergedTop) (all : List XbarRanges) : Type 0 where
  pub crossbars : (x : ℕ) (xbar : XbarDesc) (ranges : XbarRanges) → slice_get m.xbars x ≡ Some xbar → slice_get all x ≡ Some ranges
      → first_repeat (module_names (crossbar_module (with_ranges xbar ranges.ranges))) ≡ None
  pub registers : (block : LaidBlock) (face : LaidFace) → Among block m.blocks → Among face block.faces → first_repeat (module_names (module_of_face block face)) ≡ None

module _ (m : MergedTop) (numbers : IrqMap) (ties : List Tie) (pins : PinMap) (all : List XbarRanges) (ranges : AreRangesOfAll m all)
    (none : first_clash (clash_lists m numbers ties pins) ≡ None) where
  abbrev behind : List Module
  behind = crossbar_modules m.xbars all ++ flat_map modules_of m.blocks

  abbrev types_and_registers : List (List ℕ)
  types_and_registers = type_names m ++ flat_map register_names m.blocks

  -- the names of all that is known differ
  known_differ : Differ (known_modules m)
  unfolding clash_lists
  known_differ = no_clash (clash_lists m numbers ties pins) none (known_modules m) (inl refl)

  top_apart : Among (top_module_name m) (crossbar_module_names m ++ types_and_registers) → ⊥
  unfolding known_modules
  top_apart = known_differ.1.1.1.1.0

  others_differ : Differ (crossbar_module_names m ++ types_and_registers)
  unfolding known_modules
  others_differ = known_differ.1.1.1.1.1

  names_behind : names_of behind ≡ crossbar_module_names m ++ flat_map register_names m.blocks
  names_behind =
      names_join (crossbar_modules m.xbars all) (flat_map modules_of m.blocks)
      ∙ (λ i. crossbar_names m.xbars all ranges.count i ++ block_names m.blocks i)

  names_are : names_of (top_module m numbers ties pins ∷ behind) ≡ top_module_name m ∷ (crossbar_module_names m ++ flat_map register_names m.blocks)
  names_are = λ i. first_name m numbers ties pins i ∷ names_behind i

  -- a name behind the top's is that of a crossbar's module or of a register module
  is_known : (n : List ℕ) → Among n (crossbar_module_names m ++ flat_map register_names m.blocks) → Among n (crossbar_module_names m ++ types_and_registers)
  is_known n a = by (in_parts n (crossbar_module_names m) (flat_map register_names m.blocks) a) where
    by : Among n (crossbar_module_names m) ⊎ Among n (flat_map register_names m.blocks) → Among n (crossbar_module_names m ++ (type_names m ++ flat_map register_names m.blocks))
    by (inl x) = in_front n (crossbar_module_names m) _ x
    by (inr r) = in_back n (crossbar_module_names m) _ (in_back n (type_names m) _ r)

  modules_differ : Differ (names_of (top_module m numbers ties pins ∷ behind))
  modules_differ = subst Differ (sym names_are) (
    (λ a. top_apart (is_known (top_module_name m) a)),
    differ_join (crossbar_module_names m) (flat_map register_names m.blocks) (differ_front (crossbar_module_names m) _ others_differ)
        (differ_back (type_names m) _ (differ_back (crossbar_module_names m) _ others_differ))
        (λ n x r. differ_across n (crossbar_module_names m) (type_names m ++ flat_map register_names m.blocks) others_differ x (in_back n (type_names m) _ r)),
  )

  -- a type's name is another one
  type_apart : (n : List ℕ) → Among n (type_names m) → Among n (names_of (top_module m numbers ties pins ∷ behind)) → ⊥
  type_apart n t a = by (subst (Among n) names_are a) where
    by : Among n (top_module_name m ∷ (crossbar_module_names m ++ flat_map register_names m.blocks)) → ⊥
    by (inl e) = top_apart (subst (λ k. Among k (crossbar_module_names m ++ types_and_registers)) e (in_back n (crossbar_module_names m) _ (in_front n (type_names m) _ t)))
    by (inr rest) = further (in_parts n (crossbar_module_names m) (flat_map register_names m.blocks) rest) where
      further : Among n (crossbar_module_names m) ⊎ Among n (flat_map register_names m.blocks) → ⊥
      further (inl x) = differ_across n (crossbar_module_names m) (type_names m ++ flat_map register_names m.blocks) others_differ x (in_front n (type_names m) _ t)
      further (inr r) = differ_across n (type_names m) (flat_map register_names m.blocks) (differ_back (crossbar_module_names m) _ others_differ) t r

  -- each module is what its name finds
  pub finds_each : (its : Module) → Among its (top_module m numbers ties pins ∷ (crossbar_modules m.xbars all ++ flat_map modules_of m.blocks))
      → module_named (top_module m numbers ties pins ∷ (crossbar_modules m.xbars all ++ flat_map modules_of m.blocks)) its.name ≡ Some its
  finds_each = found_by_name (top_module m numbers ties pins ∷ behind) modules_differ

  module _ (apart : AreApart m all) where
    has_crossbar : (x : ℕ) → x < length m.xbars → HasCrossbarModule m (top_module m numbers ties pins ∷ behind) x
    has_crossbar x less =
        let is : slice_get m.xbars x ≡ Some (crossbar_of m x) = item_of m.xbars x no_crossbar less in
        let there = item_at all x (omega (arith, less, ranges.count)) in
        let its : Module = crossbar_module (with_ranges (crossbar_of m x) there.0.ranges) in
        record {
          ranges = there.0.ranges;
          are_its = ranges.each x there.0 there.1;
          found =
              subst (λ n. module_named (top_module m numbers ties pins ∷ behind) n ≡ Some its) (crossbar_name (crossbar_of m x) there.0.ranges)
              (found_by_name (top_module m numbers ties pins ∷ behind) modules_differ its (inr (crossbar_behind x (crossbar_of m x) there.0 is there.1)));
          no_repeat = apart.crossbars x (crossbar_of m x) there.0 is there.1;
        }
      where
        crossbar_behind : (x : ℕ) (xbar : XbarDesc) (r : XbarRanges) → slice_get m.xbars x ≡ Some xbar → slice_get all x ≡ Some r → Among (crossbar_module (with_ranges xbar r.ranges)) behind
        crossbar_behind x xbar r is ranges_are = in_front _ (crossbar_modules m.xbars all) _ (crossbar_among m.xbars all x xbar r is ranges_are)

    has_registers : (block : LaidBlock) (face : LaidFace) → Among block m.blocks → Among face block.faces → HasRegisterModule (top_module m numbers ties pins ∷ behind) block face
    has_registers block face b f = record {
      found =
          subst (λ n. module_named (top_module m numbers ties pins ∷ behind) n ≡ Some (module_of_face block face)) (register_name block face)
          (found_by_name (top_module m numbers ties pins ∷ behind) modules_differ (module_of_face block face) (inr register_behind));
      no_repeat = apart.registers block face b f;
    } where
      register_behind : Among (module_of_face block face) behind
      register_behind = in_back _ (crossbar_modules m.xbars all) _ (in_each modules_of m.blocks block _ b (in_map (module_of_face block) block.faces face f))

    -- each module is found, and none has the name of a type
    pub has_modules : HasModules m (top_module m numbers ties pins ∷ (crossbar_modules m.xbars all ++ flat_map modules_of m.blocks))
    has_modules = record {
      crossbars = has_crossbar;
      registers = has_registers;
      types = λ block b. not_found (top_module m numbers ties pins ∷ behind) block.desc.name
          (type_apart block.desc.name (in_map (λ (b : LaidBlock). b.desc.name) m.blocks block b));
    }
