-- Files are of one top at most with all that is computed of it.
use Rattle.std.proofs.Common.{List, length, subst, sym, ℕ, ◌+◌, ◌<◌, ◌≡◌, arith, ◌∙◌}
use Rattle.std.proofs.lemmas.Option.{slice_get_within}
use Rattle.cg_clkrst.specs.Ties.{AreTies}
use Rattle.cg_clkrst.specs.declared.tie.Tie.{Tie}
use Rattle.cg_desc.proofs.Numbered.{item_at, same_item}
use Rattle.cg_desc.specs.declared.top.MergedTop.{MergedTop}
use Rattle.cg_files.specs.Files.{File, HasTree}
use Rattle.cg_hjson.specs.declared.tree.Tree.{Tree}
use Rattle.cg_irq.specs.Numbers.{AreNumbers}
use Rattle.cg_irq.specs.declared.bits.IrqMap.{IrqMap}
use Rattle.cg_pinmux.specs.Pins.{ArePins}
use Rattle.cg_pinmux.specs.declared.map.PinMap.{PinMap}
use Rattle.cg_design.specs.Design.{AreMerged, AreTrees}
use Rattle.cg_design.specs.Laws.{MergedIsOne}
use Rattle.cg_chip.specs.Chip.{AreRangesOfAll}
use Rattle.cg_chip.specs.Laws.{ChipIsOne}
use Rattle.cg_chip.proofs.OneRanges.{one_list_of_all, same_lists}

-- the laws of files, of merged tops, and of what is computed of them
pub record OneOfEach : Type 0 where
  pub tree : (file : File) (t u : Tree) → HasTree file t → HasTree file u → t ≡ u
  pub merged : MergedIsOne
  pub numbering : (m : MergedTop) (a b : IrqMap) → AreNumbers m a → AreNumbers m b → a ≡ b
  pub ties : (m : MergedTop) (a b : List Tie) → AreTies m a → AreTies m b → a ≡ b
  pub pins : (m : MergedTop) (a b : PinMap) → ArePins m a → ArePins m b → a ≡ b

module _ (one : OneOfEach) where
  -- the trees of the top's own file
  one_own_tree : (files : List File) (m : MergedTop) (t u : Tree) (ts us : List Tree) → AreTrees files m t ts → AreTrees files m u us → t ≡ u
  one_own_tree files m t u ts us first second =
      let same : second.own ≡ first.own = same_item files 0 second.own first.own second.own_is first.own_is in
      one.tree first.own t u first.has_tree (subst (λ (file : File). HasTree file u) same second.has_tree)

  -- each block has its file
  file_there : (files : List File) (m : MergedTop) → AreMerged files m → (k : ℕ) → k < length m.blocks → 1 + length m.xbars + k < length files
  file_there files m merged k less =
      let design = merged.design in
      omega (arith, less, design.count, design.crossbar_count, design.block_count)

  -- the trees of the blocks' files
  one_list_of_trees : (files : List File) (m : MergedTop) → AreMerged files m → (t u : Tree) (ts us : List Tree) → AreTrees files m t ts → AreTrees files m u us → ts ≡ us
  one_list_of_trees files m merged t u ts us first second =
      same_lists ts us (first.count ∙ sym second.count) (λ k a b here there.
      let within : k < length m.blocks = subst (λ n. k < n) first.count (slice_get_within ts k a here) in
      let file = item_at files (1 + length m.xbars + k) (file_there files m merged k within) in
      one.tree file.0 a b (first.blocks k file.0 a file.1 here) (second.blocks k file.0 b file.1 there))

  pub chip_is_one : ChipIsOne
  chip_is_one files a b first second =
      let merged : a.source.merged ≡ b.source.merged = one.merged files a.source.merged b.source.merged first.merged second.merged in
      let trees : AreTrees files a.source.merged b.source.tree b.source.blocks =
      subst (λ m. AreTrees files m b.source.tree b.source.blocks) (sym merged) second.trees in
      let tree : a.source.tree ≡ b.source.tree =
      one_own_tree files a.source.merged a.source.tree b.source.tree a.source.blocks b.source.blocks first.trees trees in
      let blocks : a.source.blocks ≡ b.source.blocks =
      one_list_of_trees files a.source.merged first.merged a.source.tree b.source.tree a.source.blocks b.source.blocks first.trees trees in
      let ranges : a.ranges ≡ b.ranges =
      one_list_of_all a.source.merged first.merged.merged a.ranges b.ranges first.ranges (subst (λ m. AreRangesOfAll m b.ranges) (sym merged) second.ranges) in
      let irq : a.irq ≡ b.irq =
      one.numbering a.source.merged a.irq b.irq first.numbers.are_its (subst (λ m. AreNumbers m b.irq) (sym merged) second.numbers.are_its) in
      let ties : a.ties ≡ b.ties = one.ties a.source.merged a.ties b.ties first.ties.are_its (subst (λ m. AreTies m b.ties) (sym merged) second.ties.are_its) in
      let pins : a.pins ≡ b.pins = one.pins a.source.merged a.pins b.pins first.pins.are_its (subst (λ m. ArePins m b.pins) (sym merged) second.pins.are_its) in
      λ i. record {
        source = record { tree = tree i; merged = merged i; blocks = blocks i };
        ranges = ranges i;
        irq = irq i;
        ties = ties i;
        pins = pins i;
      }
