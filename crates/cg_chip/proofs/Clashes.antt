-- The first name that comes twice in what is written is the first of all that the files break, and where none is found they break nothing.
use Rattle.std.proofs.Common.{◌≡◌, ◌⊎◌, ◌+◌, ◌<◌, ◌≤◌, ℕ, List, [], ◌∷◌, length, Option, Some, None, inl, inr, refl, sym, ap, subst, ◌∙◌, arith}
use Rattle.std.specs.List.{slice_get}
use Rattle.std.proofs.lemmas.Option.{slice_get_within}
use Rattle.std.proofs.lemmas.Bool.{cases_lt}
use Rattle.cg_clkrst.specs.Violations.{Violates as BreaksSources}
use Rattle.cg_irq.specs.Violations.{Violates as BreaksNumbers}
use Rattle.cg_pinmux.specs.Violations.{Violates as BreaksPins}
use Rattle.cg_desc.specs.Faults.{Before}
use Rattle.cg_desc.proofs.FaultOrder.{before_irreflexive}
use Rattle.cg_desc.specs.declared.block.LaidBlock.{LaidBlock}
use Rattle.cg_desc.specs.declared.crossbar.XbarDesc.{XbarDesc}
use Rattle.cg_desc.specs.declared.fault.Fault.{Fault}
use Rattle.cg_finding.specs.Finding.{in_file}
use Rattle.cg_finding.specs.Rules as rules
use Rattle.cg_finding.specs.Violations.{IsFirstFault}
use Rattle.cg_hjson.specs.declared.tree.Tree.{Tree}
use Rattle.cg_block.specs.Outputs as block
use Rattle.cg_crossbar.specs.Outputs as crossbar
use Rattle.cg_design.specs.Files.{numbered}
use Rattle.cg_design.specs.Laws.{MergedIsOne}
use Rattle.cg_chip.specs.Chip.{IsChip}
use Rattle.cg_chip.specs.Inner.{block_fault, blocks_fault, crossbar_fault, crossbars_fault, names_fault, or_later, top_fault}
use Rattle.cg_chip.specs.Laws.{ChipIsOne}
use Rattle.cg_chip.specs.Outputs.{IsBlock, IsCrossbar, top_clash}
use Rattle.cg_chip.specs.Violations.{IsComputed, Violates, design, numbers, sources, pins, top_names, crossbar_names, block_names}
use Rattle.cg_chip.specs.declared.chip.Chip.{Chip}
use Rattle.cg_chip.specs.declared.chip.XbarRanges.{XbarRanges}
use Rattle.cg_chip.proofs.Items.{Earliest, first_in, found_first, found_nowhere, image_none, image_some, or_none, or_some}
use Rattle.cg_chip.proofs.Phases.{IsSound, later_file, of_this}
use Rattle.cg_chip.proofs.Places.{block_place, crossbar_place, top_place}

-- ---- as a first of two lists

pub crossbars_first : (xs : List XbarDesc) (rs : List XbarRanges) → crossbars_fault xs rs ≡ first_in crossbar_fault xs rs
crossbars_first [] rs = refl
crossbars_first (x ∷ xs) [] = refl
crossbars_first (x ∷ xs) (r ∷ rs) = ap (or_later (crossbar_fault x r)) (crossbars_first xs rs)

pub blocks_first : (bs : List LaidBlock) (ts : List Tree) → blocks_fault bs ts ≡ first_in block_fault bs ts
blocks_first [] ts = refl
blocks_first (b ∷ bs) [] = refl
blocks_first (b ∷ bs) (t ∷ ts) = ap (or_later (block_fault b t)) (blocks_first bs ts)

-- ---- clashes of one top

-- a name comes twice in what is written of the top
data Clashes (c : Chip) : Fault → Type 0 where
  in_top : (name : List ℕ) → top_clash c ≡ Some name → Clashes c (in_file c.source.merged.top.file (rules.names_clash c.source.merged.top.at name))
  in_crossbar : (x : ℕ) (xbar : XbarDesc) (ranges : XbarRanges) (name : List ℕ) → IsCrossbar c x xbar ranges → crossbar.clash_of xbar ranges.ranges ≡ Some name
      → Clashes c (in_file xbar.file (rules.names_clash xbar.at name))
  in_block : (k : ℕ) (laid : LaidBlock) (tree : Tree) (name : List ℕ) → IsBlock c k laid tree → block.clash_of laid ≡ Some name
      → Clashes c (in_file laid.desc.file (rules.names_clash tree.at name))

-- what is found in two ways is the same
one_name : (o : Option (List ℕ)) (a b : List ℕ) → o ≡ Some a → o ≡ Some b → b ≡ a
one_name o a b is also = let e : Some a ≡ Some b = sym is ∙ also in cc

never : {X : Type 0} (o : Option X) (a : X) → o ≡ None → o ≡ Some a → ⊥
never o a none is = let bad : None ≡ Some a = sym none ∙ is in cc

same_get : {X : Type 0} (o : Option X) (a b : X) → o ≡ Some a → o ≡ Some b → a ≡ b
same_get o a b is also = let e : Some a ≡ Some b = sym is ∙ also in cc

-- a fault is not before itself
not_before : (f g : Fault) → g ≡ f → ¬ Before g f
not_before f g same before = before_irreflexive f (subst (λ h. Before h f) same before)

module _ (given : List (Option (List ℕ))) (c : Chip) (computed : IsComputed (numbered given) c) where
  abbrev top_file : c.source.merged.top.file ≡ 0
  top_file = top_place given c.source.merged computed.is_chip.merged

  crossbar_file : (x : ℕ) (xbar : XbarDesc) → slice_get c.source.merged.xbars x ≡ Some xbar → xbar.file ≡ 1 + x
  crossbar_file = crossbar_place given c.source.merged computed.is_chip.merged

  block_file : (k : ℕ) (laid : LaidBlock) → slice_get c.source.merged.blocks k ≡ Some laid → laid.desc.file ≡ 1 + length c.source.merged.xbars + k
  block_file = block_place given c.source.merged computed.is_chip.merged

  -- ---- of the top's texts

  top_least : (name : List ℕ) (g : Fault) → top_clash c ≡ Some name → Clashes c g → ¬ Before g (in_file c.source.merged.top.file (rules.names_clash c.source.merged.top.at name))
  top_least name g is (in_top other also) =
      not_before _ _ (ap (λ n. in_file c.source.merged.top.file (rules.names_clash c.source.merged.top.at n)) (one_name (top_clash c) name other is also))
  top_least name g is (in_crossbar x xbar ranges other at also) =
      let low = top_file in
      let high = crossbar_file x xbar at.is in
      later_file _ _ refl (omega (arith, low, high))
  top_least name g is (in_block k laid tree other at also) =
      let low = top_file in
      let high = block_file k laid at.is in
      later_file _ _ refl (omega (arith, low, high))

  -- ---- of the crossbars' texts

  module _ (x : ℕ) (xbar : XbarDesc) (ranges : XbarRanges) (name : List ℕ) (at : IsCrossbar c x xbar ranges) (is : crossbar.clash_of xbar ranges.ranges ≡ Some name) where
    same_crossbar : (y : ℕ) (other : XbarDesc) (its : XbarRanges) (also : List ℕ) → y ≡ x → IsCrossbar c y other its → crossbar.clash_of other its.ranges ≡ Some also
        → in_file other.file (rules.names_clash other.at also) ≡ in_file xbar.file (rules.names_clash xbar.at name)
    same_crossbar y other its also same there found =
        let one : other ≡ xbar = same_get (slice_get c.source.merged.xbars x) other xbar (subst (λ n. slice_get c.source.merged.xbars n ≡ Some other) same there.is) at.is in
        let two : its ≡ ranges = same_get (slice_get c.ranges x) its ranges (subst (λ n. slice_get c.ranges n ≡ Some its) same there.ranges_are) at.ranges_are in
        let three : crossbar.clash_of xbar ranges.ranges ≡ Some also =
        subst (λ (r : XbarRanges). crossbar.clash_of xbar r.ranges ≡ Some also) two (subst (λ (d : XbarDesc). crossbar.clash_of d its.ranges ≡ Some also) one found) in
        ap (λ (d : XbarDesc). in_file d.file (rules.names_clash d.at also)) one
        ∙ ap (λ n. in_file xbar.file (rules.names_clash xbar.at n)) (one_name (crossbar.clash_of xbar ranges.ranges) name also is three)

    crossbar_least : (g : Fault) → top_clash c ≡ None
        → ((y : ℕ) (other : XbarDesc) (its : XbarRanges) → y < x → IsCrossbar c y other its → crossbar.clash_of other its.ranges ≡ None)
        → Clashes c g → ¬ Before g (in_file xbar.file (rules.names_clash xbar.at name))
    crossbar_least g none before (in_top other also) = absurd (never (top_clash c) other none also)
    crossbar_least g none before (in_crossbar y other its also there found) = elim (cases_lt y x) [
      | inl less ↦ absurd (never (crossbar.clash_of other its.ranges) also (before y other its less there) found)
      | inr least ↦ elim (cases_lt x y) [
        | inl more ↦
            let low = crossbar_file x xbar at.is in
            let high = crossbar_file y other there.is in
            later_file _ _ refl (omega (arith, low, high, more))
        | inr most ↦ not_before _ _ (same_crossbar y other its also (omega (arith, least, most)) there found)
      ]
    ]
    crossbar_least g none before (in_block k laid tree other there also) =
        let within = slice_get_within c.source.merged.xbars x xbar at.is in
        let low = crossbar_file x xbar at.is in
        let high = block_file k laid there.is in
        later_file _ _ refl (omega (arith, low, high, within))

  -- ---- of the blocks' texts

  module _ (k : ℕ) (laid : LaidBlock) (tree : Tree) (name : List ℕ) (at : IsBlock c k laid tree) (is : block.clash_of laid ≡ Some name) where
    same_block : (j : ℕ) (other : LaidBlock) (its : Tree) (also : List ℕ) → j ≡ k → IsBlock c j other its → block.clash_of other ≡ Some also
        → in_file other.desc.file (rules.names_clash its.at also) ≡ in_file laid.desc.file (rules.names_clash tree.at name)
    same_block j other its also same there found =
        let one : other ≡ laid = same_get (slice_get c.source.merged.blocks k) other laid (subst (λ n. slice_get c.source.merged.blocks n ≡ Some other) same there.is) at.is in
        let two : its ≡ tree = same_get (slice_get c.source.blocks k) its tree (subst (λ n. slice_get c.source.blocks n ≡ Some its) same there.tree_is) at.tree_is in
        let three : block.clash_of laid ≡ Some also = subst (λ (d : LaidBlock). block.clash_of d ≡ Some also) one found in
        ap (λ (d : LaidBlock). in_file d.desc.file (rules.names_clash its.at also)) one
        ∙ ap (λ (t : Tree). in_file laid.desc.file (rules.names_clash t.at also)) two
        ∙ ap (λ n. in_file laid.desc.file (rules.names_clash tree.at n)) (one_name (block.clash_of laid) name also is three)

    block_least : (g : Fault) → top_clash c ≡ None
        → ((y : ℕ) (other : XbarDesc) (its : XbarRanges) → IsCrossbar c y other its → crossbar.clash_of other its.ranges ≡ None)
        → ((j : ℕ) (other : LaidBlock) (its : Tree) → j < k → IsBlock c j other its → block.clash_of other ≡ None)
        → Clashes c g → ¬ Before g (in_file laid.desc.file (rules.names_clash tree.at name))
    block_least g none crossbars before (in_top other also) = absurd (never (top_clash c) other none also)
    block_least g none crossbars before (in_crossbar y other its also there found) =
        absurd (never (crossbar.clash_of other its.ranges) also (crossbars y other its there) found)
    block_least g none crossbars before (in_block j other its also there found) = elim (cases_lt j k) [
      | inl less ↦ absurd (never (block.clash_of other) also (before j other its less there) found)
      | inr least ↦ elim (cases_lt k j) [
        | inl more ↦
            let low = block_file k laid at.is in
            let high = block_file j other there.is in
            later_file _ _ refl (omega (arith, low, high, more))
        | inr most ↦ not_before _ _ (same_block j other its also (omega (arith, least, most)) there found)
      ]
    ]

  -- ---- the first of them

  module _ (merged_one : MergedIsOne) (chip_one : ChipIsOne) where
    sound : IsSound (numbered given) c.source.merged
    sound = record { spaced = record { merged = computed.is_chip.merged; spaced = computed.is_chip.spaced }; unbroken = computed.unbroken }

    -- what the files break is a clash of this top
    only_clashes : (g : Fault) → Violates (numbered given) g → Clashes c g
    only_clashes g (design broken) = absurd (computed.unbroken g broken)
    only_clashes g (numbers m spaced broken) = absurd (computed.is_chip.numbers.unbroken g (of_this merged_one (numbered given) c.source.merged sound BreaksNumbers m g spaced broken))
    only_clashes g (sources m spaced broken) = absurd (computed.is_chip.ties.unbroken g (of_this merged_one (numbered given) c.source.merged sound BreaksSources m g spaced broken))
    only_clashes g (pins m spaced broken) = absurd (computed.is_chip.pins.unbroken g (of_this merged_one (numbered given) c.source.merged sound BreaksPins m g spaced broken))
    only_clashes _ (top_names d name is clash) =
        let same : c ≡ d = chip_one (numbered given) c d computed.is_chip is in
        subst (λ (e : Chip). Clashes e (in_file d.source.merged.top.file (rules.names_clash d.source.merged.top.at name))) (sym same) (in_top name clash)
    only_clashes _ (crossbar_names d x xbar ranges name is at clash) =
        let same : c ≡ d = chip_one (numbered given) c d computed.is_chip is in
        subst (λ (e : Chip). Clashes e (in_file xbar.file (rules.names_clash xbar.at name))) (sym same) (in_crossbar x xbar ranges name at clash)
    only_clashes _ (block_names d k laid tree name is at clash) =
        let same : c ≡ d = chip_one (numbered given) c d computed.is_chip is in
        subst (λ (e : Chip). Clashes e (in_file laid.desc.file (rules.names_clash tree.at name))) (sym same) (in_block k laid tree name at clash)

    -- where none is found in a crossbar, none comes twice there
    no_crossbar : crossbars_fault c.source.merged.xbars c.ranges ≡ None → (x : ℕ) (xbar : XbarDesc) (ranges : XbarRanges) → IsCrossbar c x xbar ranges
        → crossbar.clash_of xbar ranges.ranges ≡ None
    no_crossbar none x xbar ranges at =
        image_none _ _
        (found_nowhere crossbar_fault c.source.merged.xbars c.ranges (sym (crossbars_first c.source.merged.xbars c.ranges) ∙ none) x xbar ranges at.is at.ranges_are)

    no_block : blocks_fault c.source.merged.blocks c.source.blocks ≡ None → (k : ℕ) (laid : LaidBlock) (tree : Tree) → IsBlock c k laid tree → block.clash_of laid ≡ None
    no_block none k laid tree at =
        image_none _ _
        (found_nowhere block_fault c.source.merged.blocks c.source.blocks (sym (blocks_first c.source.merged.blocks c.source.blocks) ∙ none) k laid tree at.is at.tree_is)

    -- it is that of the top's texts
    of_top : (fault : Fault) → top_fault c ≡ Some fault → IsFirstFault (Violates (numbered given)) fault
    of_top fault is =
        let one = image_some _ (top_clash c) fault is in
        subst (IsFirstFault (Violates (numbered given))) (sym one.2)
        (record { violates = top_names c one.0 computed.is_chip one.1; least = λ g also. top_least one.0 g one.1 (only_clashes g also) })

    -- it is that of the first crossbar that has one
    of_crossbars : (fault : Fault) → top_clash c ≡ None → crossbars_fault c.source.merged.xbars c.ranges ≡ Some fault → IsFirstFault (Violates (numbered given)) fault
    of_crossbars fault none is =
        let first = found_first crossbar_fault c.source.merged.xbars c.ranges fault (sym (crossbars_first c.source.merged.xbars c.ranges) ∙ is) in
        let at : IsCrossbar c first.place first.first first.second = record { is = first.first_is; ranges_are = first.second_is } in
        let one = image_some _ (crossbar.clash_of first.first first.second.ranges) fault first.found in
        subst (IsFirstFault (Violates (numbered given))) (sym one.2)
        (record {
          violates = crossbar_names c first.place first.first first.second one.0 computed.is_chip at one.1;
          least = λ g also. crossbar_least first.place first.first first.second one.0 at one.1 g none
              (λ y other its less there. image_none _ _ (first.before y other its less there.is there.ranges_are)) (only_clashes g also);
        })

    -- it is that of the first block that has one
    of_blocks : (fault : Fault) → top_clash c ≡ None → crossbars_fault c.source.merged.xbars c.ranges ≡ None → blocks_fault c.source.merged.blocks c.source.blocks ≡ Some fault
        → IsFirstFault (Violates (numbered given)) fault
    of_blocks fault none clear is =
        let first = found_first block_fault c.source.merged.blocks c.source.blocks fault (sym (blocks_first c.source.merged.blocks c.source.blocks) ∙ is) in
        let at : IsBlock c first.place first.first first.second = record { is = first.first_is; tree_is = first.second_is } in
        let one = image_some _ (block.clash_of first.first) fault first.found in
        subst (IsFirstFault (Violates (numbered given))) (sym one.2)
        (record {
          violates = block_names c first.place first.first first.second one.0 computed.is_chip at one.1;
          least = λ g also. block_least first.place first.first first.second one.0 at one.1 g none (no_crossbar clear)
              (λ j other its less there. image_none _ _ (first.before j other its less there.is there.tree_is)) (only_clashes g also);
        })

    -- what is found is the first of all
    pub names_first : (fault : Fault) → names_fault c ≡ Some fault → IsFirstFault (Violates (numbered given)) fault
    unfolding names_fault
    names_first fault is =
        elim (or_some (top_fault c) (or_later (crossbars_fault c.source.merged.xbars c.ranges) (blocks_fault c.source.merged.blocks c.source.blocks)) fault is) [
          | inl top ↦ of_top fault top
          | inr later ↦
              let none = image_none _ (top_clash c) later.0 in
              elim (or_some (crossbars_fault c.source.merged.xbars c.ranges) (blocks_fault c.source.merged.blocks c.source.blocks) fault later.1) [
                | inl crossbars ↦ of_crossbars fault none crossbars
                | inr blocks ↦ of_blocks fault none blocks.0 blocks.1
              ]
        ]

    -- nothing is found
    none_of : (g : Fault) → top_clash c ≡ None → crossbars_fault c.source.merged.xbars c.ranges ≡ None → blocks_fault c.source.merged.blocks c.source.blocks ≡ None → ¬ Clashes c g
    none_of g none clear also (in_top name is) = never (top_clash c) name none is
    none_of g none clear also (in_crossbar x xbar ranges name at is) = never (crossbar.clash_of xbar ranges.ranges) name (no_crossbar clear x xbar ranges at) is
    none_of g none clear also (in_block k laid tree name at is) = never (block.clash_of laid) name (no_block also k laid tree at) is

    -- and then nothing is broken
    pub names_apart : names_fault c ≡ None → (g : Fault) → ¬ Violates (numbered given) g
    unfolding names_fault
    names_apart is g broken =
        let top = or_none (top_fault c) (or_later (crossbars_fault c.source.merged.xbars c.ranges) (blocks_fault c.source.merged.blocks c.source.blocks)) is in
        let rest = or_none (crossbars_fault c.source.merged.xbars c.ranges) (blocks_fault c.source.merged.blocks c.source.blocks) top.1 in
        none_of g (image_none _ (top_clash c) top.0) rest.0 rest.1 (only_clashes g broken)

-- no name comes twice in the top's texts
pub top_apart : (c : Chip) → names_fault c ≡ None → top_clash c ≡ None
unfolding names_fault
top_apart c is =
    image_none _ (top_clash c) (or_none (top_fault c) (or_later (crossbars_fault c.source.merged.xbars c.ranges) (blocks_fault c.source.merged.blocks c.source.blocks)) is).0
