-- What the texts of a top stand for, and what its headers say.
use Rattle.std.proofs.Common.{List, [], ℕ, arith, ◌∷◌}
use Rattle.cg_busspec.specs.CrossbarMeaning.{CrossbarMeans}
use Rattle.cg_busspec.specs.Laws.{CrossbarModuleMeans}
use Rattle.cg_outputs.specs.declared.out_file.OutFile.{OutFile}
use Rattle.cg_svspec.specs.Layout.{module_text}
use Rattle.cg_svspec.specs.Names.{Among}
use Rattle.cg_svspec.specs.Stands.{PrintedTextStands, Stands}
use Rattle.cg_svspec.specs.Tree.{Module}
use Rattle.cg_svspec.specs.WellFormed.{WellFormed}
use Rattle.cg_desc.proofs.Numbered.{item_among}
use Rattle.cg_desc.specs.Crossbar.{IsValidCrossbar}
use Rattle.cg_desc.specs.Laid.{IsLaid}
use Rattle.cg_desc.specs.Merged.{IsMerged, IsValidLaidBlock}
use Rattle.cg_desc.specs.Valid.{IsNameIfAny}
use Rattle.cg_desc.specs.declared.block.LaidBlock.{LaidBlock}
use Rattle.cg_desc.specs.declared.block.LaidFace.{LaidFace}
use Rattle.cg_desc.specs.declared.crossbar.XbarDesc.{XbarDesc}
use Rattle.cg_files.specs.Files.{File}
use Rattle.cg_hdrspec.specs.Laws.{BlockHeaderMeans, IsNamed}
use Rattle.cg_hdrspec.specs.Meaning.{HeaderMeans}
use Rattle.cg_hjson.specs.declared.tree.Tree.{Tree}
use Rattle.cg_irq.specs.declared.bits.IrqMap.{IrqMap}
use Rattle.cg_pinmux.specs.declared.map.PinMap.{PinMap}
use Rattle.cg_regspec.specs.Laws.{RegisterModuleMeans}
use Rattle.cg_regspec.specs.Meaning.{RegisterMeans}
use Rattle.cg_regspec.specs.RegisterModule.{module_of_face, register_module_name}
use Rattle.cg_space.proofs.Tabling.{all_at}
use Rattle.cg_tophdr.specs.Laws.{BasesAndOffsetsMeet, NumbersFit, TopHeaderIsMeant}
use Rattle.cg_topspec.proofs.EachItem.{each_item}
use Rattle.cg_topspec.proofs.Shapes.{node_ranges_fit}
use Rattle.cg_topspec.specs.Fits.{FitsTop}
use Rattle.cg_topspec.specs.WellFormed.{HasFewBits, TopModuleIsPrintable, TopModuleIsWellFormed}
use Rattle.cg_block.specs.Outputs as block
use Rattle.cg_crossbar.specs.Outputs as crossbar
use Rattle.cg_chip.specs.Chip.{IsChip}
use Rattle.cg_chip.specs.Meaning.{HeadersAgree, IsBehind, TextsStand, first_module, of_crossbar, of_interface}
use Rattle.cg_chip.specs.Outputs.{IsBlock, IsCrossbar}
use Rattle.cg_chip.specs.declared.chip.Chip.{Chip}
use Rattle.cg_chip.specs.declared.chip.XbarRanges.{XbarRanges}
use Rattle.cg_chip.proofs.MeaningBlocks.{block_valid, faces_named, module_named_well}
use Rattle.cg_chip.proofs.MeaningClashes.{HasNoClash}
use Rattle.cg_chip.proofs.MeaningOrder.{are_in_order, in_order}

-- the laws of printed texts, of modules and of headers
pub record TextLaws : Type 0 where
  pub printed : PrintedTextStands
  pub printable : TopModuleIsPrintable
  pub well_formed : TopModuleIsWellFormed
  pub crossbars : CrossbarModuleMeans
  pub registers : RegisterModuleMeans
  pub headers : BlockHeaderMeans
  pub top_header : TopHeaderIsMeant
  pub meet : BasesAndOffsetsMeet

-- few bits have numbers of 32 bits
numbers_fit : (numbers : IrqMap) (pins : PinMap) → HasFewBits numbers pins → NumbersFit numbers pins
numbers_fit numbers pins few = record {
  interrupts = let most = few.interrupts in omega (arith, most);
  alerts = let most = few.alerts in omega (arith, most);
  inputs = let most = few.inputs in omega (arith, most);
  outputs = let most = few.outputs in omega (arith, most);
}

-- a valid block has names of which a header can be made
named : (b : LaidBlock) → IsValidLaidBlock b → IsNamed b
named b valid = record { block = valid.block.name.0; interfaces = faces_named b valid }

module _ (laws : TextLaws) (files : List File) (c : Chip) (is : IsChip files c) (few : HasFewBits c.irq c.pins) (none : HasNoClash c) where
  merged : IsMerged c.source.merged
  merged = is.merged.merged

  crossbar_means : (x : ℕ) (xbar : XbarDesc) (ranges : XbarRanges) → IsCrossbar c x xbar ranges → CrossbarMeans (crossbar.module_of_crossbar xbar ranges.ranges) xbar ranges.ranges
  crossbar_means x xbar ranges at =
      let valid : IsValidCrossbar xbar = all_at IsValidCrossbar c.source.merged.xbars x xbar merged.crossbars at.is in
      laws.crossbars xbar ranges.ranges valid
      (node_ranges_fit c.source.merged is.spaced x xbar ranges.ranges at.is valid (is.ranges.each x ranges at.ranges_are))
      (none.crossbars x xbar ranges at)

  register_means : (b : LaidBlock) (face : LaidFace) → Among b c.source.merged.blocks → Among face b.faces
      → RegisterMeans (register_module_name b.desc.name face.name) (module_of_face b face) face
  register_means b face among there =
      let valid : IsValidLaidBlock b = block_valid c.source.merged merged b among in
      let good = each_item (λ (l : LaidFace). IsNameIfAny l.name × IsLaid l) b.faces (faces_named b valid) face there in
      laws.registers (register_module_name b.desc.name face.name) face (module_named_well b.desc.name face.name valid.block.name good.0) good.1 (none.modules b face among there)

  block_among : (k : ℕ) (laid : LaidBlock) (tree : Tree) → IsBlock c k laid tree → Among laid c.source.merged.blocks
  block_among k laid tree at = item_among c.source.merged.blocks k laid at.is

  -- a printed module that is well formed is what its text stands for
  stands_alone : (m : Module) → WellFormed m → Stands (module_text m) (m ∷ []) × WellFormed m
  stands_alone m fits = (laws.printed m fits.printable, fits)

  behind_stand : (o : OutFile) (m : Module) → IsBehind c o m → Stands o.bytes (m ∷ []) × WellFormed m
  behind_stand _ _ (of_crossbar x xbar ranges at) = stands_alone (crossbar.module_of_crossbar xbar ranges.ranges) (crossbar_means x xbar ranges at).well_formed
  behind_stand _ _ (of_interface k laid tree face at there) =
      stands_alone (module_of_face laid face) (register_means laid face (block_among k laid tree at) there).well_formed

  pub texts_stand : FitsTop c.source.merged c.irq c.ties c.pins → TextsStand c
  texts_stand fits = record {
    top = laws.printed (first_module c) (laws.printable c.source.merged c.irq c.ties c.pins fits few);
    top_fits = laws.well_formed c.source.merged c.irq c.ties c.pins fits few none.lists;
    behind = behind_stand;
    crossbars = crossbar_means;
    interfaces = λ k laid tree face at there. register_means laid face (block_among k laid tree at) there;
    listed = (in_order c, are_in_order c is.trees.count);
  }

  header_means : (b : LaidBlock) → Among b c.source.merged.blocks → HeaderMeans b (block.header_output b).bytes
  header_means b among = laws.headers b (named b (block_valid c.source.merged merged b among)) (none.headers b among)

  pub headers_agree : HeadersAgree c
  headers_agree = record {
    top = laws.top_header c.source.merged c.irq c.pins merged is.numbers.are_its is.pins.are_its (numbers_fit c.irq c.pins few) none.header;
    blocks = λ k laid tree at. header_means laid (block_among k laid tree at);
    meet = λ x h i f base offset face target host reaches is_target there.
        laws.meet c.source.merged x h i f base offset face target merged is.spaced host reaches is_target there;
  }
