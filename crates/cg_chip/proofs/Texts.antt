-- The files that are listed are just the texts that are meant, and no two of them have one name.
use Rattle.std.proofs.Common.{◌≡◌, ◌⊎◌, ◌↔◌, ℕ, zero, suc, List, [], ◌∷◌, ◌++◌, length, map, Option, Some, None, inl, inr, refl, sym, ap, subst, ◌∙◌, append_assoc, codes, arith}
use Rattle.std.specs.List.{flat_map, slice_get}
use Rattle.std.proofs.lemmas.List.{map-append}
use Rattle.cg_svspec.specs.Names.{Among, Differ, first_repeat}
use Rattle.cg_svspec.proofs.NamesLemmas.{among_back, among_front, among_parts, differ_front, none_repeats}
use Rattle.cg_clkrst.specs.declared.tie.Tie.{Tie}
use Rattle.cg_desc.specs.declared.block.LaidBlock.{LaidBlock}
use Rattle.cg_desc.specs.declared.block.LaidFace.{LaidFace}
use Rattle.cg_desc.specs.declared.crossbar.XbarDesc.{XbarDesc}
use Rattle.cg_desc.specs.declared.top.MergedTop.{MergedTop}
use Rattle.cg_hjson.specs.declared.tree.Tree.{Tree}
use Rattle.cg_irq.specs.declared.bits.IrqMap.{IrqMap}
use Rattle.cg_pinmux.specs.declared.map.PinMap.{PinMap}
use Rattle.cg_regspec.specs.RegisterModule.{register_module_name}
use Rattle.cg_topspec.specs.Clashes.{clash_lists, crossbar_module_names, file_names, first_clash, known_modules, or_else, port_lists, register_names, type_files}
use Rattle.cg_topspec.specs.TopModule.{top_module, top_module_name}
use Rattle.cg_svspec.specs.Names.{module_names}
use Rattle.cg_block.specs.Outputs as block
use Rattle.cg_crossbar.specs.Outputs as crossbar
use Rattle.cg_outputs.specs.Inner.{put_outputs}
use Rattle.cg_outputs.specs.Outputs.{AreOutputs, NamesDiffer}
use Rattle.cg_outputs.specs.declared.out_file.OutFile.{OutFile}
use Rattle.cg_outputs.proofs.Rising.{are_outputs}
use Rattle.cg_chip.specs.Inner.{block_texts, crossbar_texts, own_texts, texts_of}
use Rattle.cg_chip.specs.Outputs.{IsBlock, IsCrossbar, IsText, of_top, header_of_top, completed_of_top, of_crossbar, header_of_block, completed_block, of_interface, top_clash, top_text, top_header, completed_top}
use Rattle.cg_chip.specs.declared.chip.Chip.{Chip}
use Rattle.cg_chip.specs.declared.chip.XbarRanges.{XbarRanges}
use Rattle.cg_chip.proofs.Items.{image_in, image_out}

-- ---- which files are listed

-- the text of a crossbar with its ranges
record OfCrossbar (xs : List XbarDesc) (rs : List XbarRanges) (o : OutFile) : Type 0 where
  place : ℕ
  xbar : XbarDesc
  ranges : XbarRanges
  is : slice_get xs place ≡ Some xbar
  ranges_are : slice_get rs place ≡ Some ranges
  text : o ≡ crossbar.crossbar_output xbar ranges.ranges

crossbars_out : (xs : List XbarDesc) (rs : List XbarRanges) (o : OutFile) → Among o (crossbar_texts xs rs) → OfCrossbar xs rs o
crossbars_out [] rs o there = absurd there
crossbars_out (x ∷ xs) [] o there = absurd there
crossbars_out (x ∷ xs) (r ∷ rs) o (inl is) = record { place = 0; xbar = x; ranges = r; is = refl; ranges_are = refl; text = is }
crossbars_out (x ∷ xs) (r ∷ rs) o (inr there) =
    let later = crossbars_out xs rs o there in
    record { place = suc later.place; xbar = later.xbar; ranges = later.ranges; is = later.is; ranges_are = later.ranges_are; text = later.text }

crossbars_in : (xs : List XbarDesc) (rs : List XbarRanges) (k : ℕ) (x : XbarDesc) (r : XbarRanges) → slice_get xs k ≡ Some x → slice_get rs k ≡ Some r
    → Among (crossbar.crossbar_output x r.ranges) (crossbar_texts xs rs)
crossbars_in [] rs k x r is also = cc
crossbars_in (y ∷ ys) [] k x r is also = cc
crossbars_in (y ∷ ys) (s ∷ ss) zero x r is also =
    let one : x ≡ y = cc in
    let two : r ≡ s = cc in
    inl (ap (λ z. crossbar.crossbar_output z r.ranges) one ∙ ap (λ (z : XbarRanges). crossbar.crossbar_output y z.ranges) two)
crossbars_in (y ∷ ys) (s ∷ ss) (suc k) x r is also = inr (crossbars_in ys ss k x r is also)

-- a file of a block with its tree
record OfBlock (bs : List LaidBlock) (ts : List Tree) (o : OutFile) : Type 0 where
  place : ℕ
  laid : LaidBlock
  tree : Tree
  is : slice_get bs place ≡ Some laid
  tree_is : slice_get ts place ≡ Some tree
  among : Among o (block.block_files tree laid)

blocks_out : (bs : List LaidBlock) (ts : List Tree) (o : OutFile) → Among o (block_texts bs ts) → OfBlock bs ts o
blocks_out [] ts o there = absurd there
blocks_out (b ∷ bs) [] o there = absurd there
blocks_out (b ∷ bs) (t ∷ ts) o there = elim (among_parts o (block.block_files t b) (block_texts bs ts) there) [
  | inl here ↦ record { place = 0; laid = b; tree = t; is = refl; tree_is = refl; among = here }
  | inr behind ↦
      let later = blocks_out bs ts o behind in
      record { place = suc later.place; laid = later.laid; tree = later.tree; is = later.is; tree_is = later.tree_is; among = later.among }
]

blocks_in : (bs : List LaidBlock) (ts : List Tree) (k : ℕ) (b : LaidBlock) (t : Tree) (o : OutFile) → slice_get bs k ≡ Some b → slice_get ts k ≡ Some t
    → Among o (block.block_files t b) → Among o (block_texts bs ts)
blocks_in [] ts k b t o is also there = cc
blocks_in (c ∷ cs) [] k b t o is also there = cc
blocks_in (c ∷ cs) (s ∷ ss) zero b t o is also there =
    let one : b ≡ c = cc in
    let two : t ≡ s = cc in
    among_front o (block.block_files s c) (block_texts cs ss) (subst (λ z. Among o (block.block_files s z)) one (subst (λ z. Among o (block.block_files z b)) two there))
blocks_in (c ∷ cs) (s ∷ ss) (suc k) b t o is also there = among_back o (block.block_files s c) (block_texts cs ss) (blocks_in cs ss k b t o is also there)

-- ---- they are those that are meant

block_meant : (c : Chip) (k : ℕ) (laid : LaidBlock) (tree : Tree) (o : OutFile) → IsBlock c k laid tree → Among o (block.block_files tree laid) → IsText c o
block_meant c k laid tree o at (inl is) = subst (IsText c) (sym is) (header_of_block k laid tree at)
block_meant c k laid tree o at (inr (inl is)) = subst (IsText c) (sym is) (completed_block k laid tree at)
block_meant c k laid tree o at (inr (inr there)) =
    let one = image_out (block.register_output laid) laid.faces o there in
    subst (IsText c) (sym one.2) (of_interface k laid tree one.0 at one.1)

behind_meant : (c : Chip) (o : OutFile) → Among o (crossbar_texts c.source.merged.xbars c.ranges) ⊎ Among o (block_texts c.source.merged.blocks c.source.blocks) → IsText c o
behind_meant c o (inl there) =
    let one = crossbars_out c.source.merged.xbars c.ranges o there in
    subst (IsText c) (sym one.text) (of_crossbar one.place one.xbar one.ranges (record { is = one.is; ranges_are = one.ranges_are }))
behind_meant c o (inr there) =
    let one = blocks_out c.source.merged.blocks c.source.blocks o there in
    block_meant c one.place one.laid one.tree o (record { is = one.is; tree_is = one.tree_is }) one.among

own_meant : (c : Chip) (o : OutFile) → Among o (own_texts c) → IsText c o
own_meant c o (inl is) = subst (IsText c) (sym is) of_top
own_meant c o (inr (inl is)) = subst (IsText c) (sym is) header_of_top
own_meant c o (inr (inr (inl is))) = subst (IsText c) (sym is) completed_of_top
own_meant c o (inr (inr (inr none))) = absurd none

abbrev behind : Chip → List OutFile
behind c = crossbar_texts c.source.merged.xbars c.ranges ++ block_texts c.source.merged.blocks c.source.blocks

listed_meant : (c : Chip) (o : OutFile) → Among o (texts_of c) → IsText c o
unfolding texts_of
listed_meant c o there = elim (among_parts o (own_texts c) (behind c) there) [
  | inl own ↦ own_meant c o own
  | inr rest ↦ behind_meant c o (among_parts o (crossbar_texts c.source.merged.xbars c.ranges) (block_texts c.source.merged.blocks c.source.blocks) rest)
]

behind_listed : (c : Chip) (o : OutFile) → Among o (behind c) → Among o (texts_of c)
unfolding texts_of
behind_listed c o there = among_back o (own_texts c) (behind c) there

block_listed : (c : Chip) (k : ℕ) (laid : LaidBlock) (tree : Tree) (o : OutFile) → IsBlock c k laid tree → Among o (block.block_files tree laid) → Among o (texts_of c)
block_listed c k laid tree o at there =
    behind_listed c o
    (among_back o (crossbar_texts c.source.merged.xbars c.ranges) (block_texts c.source.merged.blocks c.source.blocks)
    (blocks_in c.source.merged.blocks c.source.blocks k laid tree o at.is at.tree_is there))

meant_listed : (c : Chip) (o : OutFile) → IsText c o → Among o (texts_of c)
unfolding texts_of
meant_listed c _ of_top = inl refl
meant_listed c _ header_of_top = inr (inl refl)
meant_listed c _ completed_of_top = inr (inr (inl refl))
meant_listed c _ (of_crossbar x xbar ranges at) =
    behind_listed c (crossbar.crossbar_output xbar ranges.ranges)
    (among_front (crossbar.crossbar_output xbar ranges.ranges) (crossbar_texts c.source.merged.xbars c.ranges) (block_texts c.source.merged.blocks c.source.blocks)
    (crossbars_in c.source.merged.xbars c.ranges x xbar ranges at.is at.ranges_are))
meant_listed c _ (header_of_block k laid tree at) = block_listed c k laid tree (block.header_output laid) at (inl refl)
meant_listed c _ (completed_block k laid tree at) = block_listed c k laid tree (block.completed_output tree laid) at (inr (inl refl))
meant_listed c _ (of_interface k laid tree face at there) =
    block_listed c k laid tree (block.register_output laid face) at (inr (inr (image_in (block.register_output laid) laid.faces face there)))

-- ---- their names

abbrev names_of : List OutFile → List (List ℕ)
names_of os = map (λ (o : OutFile). o.name) os

abbrev module_files : List (List ℕ) → List (List ℕ)
module_files names = map (λ name. name ++ codes ".sv") names

crossbar_names : (xs : List XbarDesc) (rs : List XbarRanges) → length rs ≡ length xs → names_of (crossbar_texts xs rs) ≡ module_files (map (λ (x : XbarDesc). codes "xbar_" ++ x.name) xs)
crossbar_names [] rs same = refl
crossbar_names (x ∷ xs) [] same = absurd (omega (arith, same))
crossbar_names (x ∷ xs) (r ∷ rs) same = ap (λ ns. ((codes "xbar_" ++ x.name) ++ codes ".sv") ∷ ns) (crossbar_names xs rs (omega (arith, same)))

face_names : (b : LaidBlock) (faces : List LaidFace) → names_of (map (block.register_output b) faces) ≡ module_files (map (λ (face : LaidFace). register_module_name b.desc.name face.name) faces)
face_names b [] = refl
face_names b (f ∷ fs) = ap (λ ns. (register_module_name b.desc.name f.name ++ codes ".sv") ∷ ns) (face_names b fs)

block_names : (b : LaidBlock) (t : Tree) → names_of (block.block_files t b) ≡ type_files b
block_names b t = ap (λ ns. (b.desc.name ++ codes "_regs.h") ∷ (b.desc.name ++ codes ".gen.hjson") ∷ ns) (face_names b b.faces)

blocks_names : (bs : List LaidBlock) (ts : List Tree) → length ts ≡ length bs → names_of (block_texts bs ts) ≡ flat_map type_files bs
blocks_names [] ts same = refl
blocks_names (b ∷ bs) [] same = absurd (omega (arith, same))
blocks_names (b ∷ bs) (t ∷ ts) same =
    map-append (λ (o : OutFile). o.name) (block.block_files t b) (block_texts bs ts)
    ∙ ap (λ ns. ns ++ names_of (block_texts bs ts)) (block_names b t)
    ∙ ap (λ ns. type_files b ++ ns) (blocks_names bs ts (omega (arith, same)))

-- the names of the texts, and the manifest's, are all names of files
all_names : (c : Chip) → length c.ranges ≡ length c.source.merged.xbars → length c.source.blocks ≡ length c.source.merged.blocks
    → names_of (texts_of c) ++ codes "manifest.txt" ∷ [] ≡ file_names c.source.merged
unfolding texts_of file_names
all_names c ranges trees =
    let m : MergedTop = c.source.merged in
    let rest : names_of (behind c) ≡ module_files (crossbar_module_names m) ++ flat_map type_files m.blocks =
    map-append (λ (o : OutFile). o.name) (crossbar_texts m.xbars c.ranges) (block_texts m.blocks c.source.blocks)
    ∙ ap (λ ns. ns ++ names_of (block_texts m.blocks c.source.blocks)) (crossbar_names m.xbars c.ranges ranges)
    ∙ ap (λ ns. module_files (crossbar_module_names m) ++ ns) (blocks_names m.blocks c.source.blocks trees) in
    let whole : names_of (behind c) ++ codes "manifest.txt" ∷ [] ≡ module_files (crossbar_module_names m) ++ (flat_map type_files m.blocks ++ (codes "manifest.txt" ∷ [])) =
    ap (λ ns. ns ++ codes "manifest.txt" ∷ []) rest ∙ append_assoc (module_files (crossbar_module_names m)) (flat_map type_files m.blocks) (codes "manifest.txt" ∷ []) in
    ap (λ ns. (top_module_name m ++ codes ".sv") ∷ (top_module_name m ++ codes ".h") ∷ (top_module_name m ++ codes ".gen.hjson") ∷ ns) whole

-- ---- they differ where no clash is found

pub neither : (a b : Option (List ℕ)) → or_else a b ≡ None → (a ≡ None) × (b ≡ None)
neither None b is = (refl, is)
neither (Some name) b is = cc

files_differ : (m : MergedTop) (numbers : IrqMap) (ties : List Tie) (pins : PinMap) → first_clash (clash_lists m numbers ties pins) ≡ None → Differ (file_names m)
unfolding clash_lists
files_differ m numbers ties pins is =
    let lists : List (List (List ℕ)) = port_lists m ties ++ (module_names (top_module m numbers ties pins) ∷ []) in
    let behind_first = neither (first_repeat (known_modules m)) (or_else (first_repeat (file_names m)) (first_clash lists)) is in
    none_repeats (file_names m) (neither (first_repeat (file_names m)) (first_clash lists) behind_first.1).0

-- files whose names differ
outputs_differ : (os : List OutFile) → Differ (names_of os) → NamesDiffer os
outputs_differ [] differ = tt
outputs_differ (o ∷ os) differ = (
  λ p there same. differ.0 (subst (λ name. Among name (names_of os)) (sym same) (image_in (λ (q : OutFile). q.name) os p there)),
  outputs_differ os differ.1,
)

-- put in order they are all the texts that are meant, each once
pub texts_are : (c : Chip) → length c.ranges ≡ length c.source.merged.xbars → length c.source.blocks ≡ length c.source.merged.blocks → top_clash c ≡ None
    → AreOutputs (IsText c) (put_outputs [] (texts_of c))
texts_are c ranges trees apart =
    let m : MergedTop = c.source.merged in
    let lists = files_differ m c.irq c.ties c.pins (neither (first_clash (clash_lists m c.irq c.ties c.pins)) _ apart).0 in
    let differ = outputs_differ (texts_of c) (differ_front (names_of (texts_of c)) (codes "manifest.txt" ∷ []) (subst Differ (sym (all_names c ranges trees)) lists)) in
    let put = are_outputs (texts_of c) differ in
    record {
      member = λ o. ((λ there. listed_meant c o ((put.member o).0 there)), (λ is. (put.member o).1 (meant_listed c o is)));
      rises = put.rises;
    }
