-- What a build's files describe is what the texts of its top are made of.
use Rattle.std.proofs.Common.{◌≡◌, ◌+◌, ◌<◌, ◌≤◌, ℕ, List, length, map, Some, None, refl, sym, ap, subst, ◌∙◌, arith}
use Rattle.std.specs.List.{slice_get}
use Rattle.std.proofs.lemmas.Option.{slice_get_within}
use Rattle.cg_desc.proofs.Numbered.{item_at, same_item}
use Rattle.cg_desc.specs.Merged.{IsValidLaidBlock}
use Rattle.cg_desc.specs.declared.block.BlockDesc.{BlockDesc}
use Rattle.cg_desc.specs.declared.block.LaidBlock.{LaidBlock}
use Rattle.cg_desc.specs.declared.top.MergedTop.{MergedTop}
use Rattle.cg_desc.specs.declared.top.TopDesc.{TopDesc}
use Rattle.cg_done.specs.Completed.{IsReadTop}
use Rattle.cg_files.specs.Files.{File, HasTree}
use Rattle.cg_files.proofs.OneTree.{same_tree}
use Rattle.cg_hjson.specs.Views.{tree_of}
use Rattle.cg_hjson.specs.declared.tree.Tree.{Tree}
use Rattle.cg_jsonspec.specs.Laws.{DocumentsAreSayable}
use Rattle.cg_topread.specs.Described.{top_of}
use Rattle.cg_topread.specs.Violations.{Violates as BreaksTopKeys}
use Rattle.cg_hdrspec.specs.BlockHeader.{header_text}
use Rattle.cg_hdrspec.specs.Laws.{IsNamed}
use Rattle.cg_layout.specs.Lays.{IsLaidBlock}
use Rattle.cg_regspec.specs.RegisterModule.{modules_of}
use Rattle.cg_sv.specs.Views.{module_of}
use Rattle.cg_block.specs.Outputs.{clash_of}
use Rattle.cg_block.specs.Stages.{IsLaidOutAs}
use Rattle.cg_block.specs.Unit.{IsUnitOf, unit_with}
use Rattle.cg_block.specs.declared.texts.BlockTexts.{BlockTexts}
use Rattle.cg_block.proofs.Modules.{few_faces, is_named}
use Rattle.cg_design.specs.Design.{AreMerged, AreTrees}
use Rattle.cg_design.specs.Files.{FileIs}
use Rattle.cg_finding.specs.Finding.{Finding}
use Rattle.cg_chip.specs.Inner.{AreDescribed, IsDescribed}
use Rattle.cg_chip.proofs.Items.{all_at}

module _ (files : List File) (m : MergedTop) (tree : Tree) (trees : List Tree) (are : AreMerged files m) (have : AreTrees files m tree trees) where
  -- the top's file is the one that describes it
  own : are.design.top.file ≡ have.own
  own = same_item files 0 are.design.top.file have.own are.design.top.first have.own_is

  -- and has the tree that it was read from
  own_tree : are.design.top.tree ≡ tree
  own_tree = same_tree have.own are.design.top.tree tree (subst (λ (f : File). HasTree f are.design.top.tree) own are.design.top.describes.has_tree) have.has_tree

  pub read : DocumentsAreSayable → IsReadTop tree
  read sayable = record {
    sound = subst (λ (t : Tree). (f : Finding) → ¬ BreaksTopKeys t f) own_tree are.design.top.describes.sound;
    sayable = sayable have.has_tree.bytes (tree_of tree) have.has_tree.text.utf8 have.has_tree.document;
    shallow = have.has_tree.shallow;
  }

  -- the top is the one that the tree describes
  pub top_described : m.top ≡ top_of m.top.file tree
  unfolding top_of
  top_described =
      let is : m.top ≡ top_of are.design.top.file.number are.design.top.tree = are.design.top.describes.is in
      let number : m.top.file ≡ are.design.top.file.number = ap (λ (t : TopDesc). t.file) is in
      is ∙ ap (top_of are.design.top.file.number) own_tree ∙ ap (λ n. top_of n tree) (sym number)

  -- each block is the one that the tree of its file describes
  pub blocks_described : AreDescribed m.blocks trees
  blocks_described k laid t is also =
      let within = slice_get_within m.blocks k laid is in
      let same : length m.xbars ≡ length m.top.xbars = are.design.crossbar_count in
      let kinds : length m.blocks ≡ length are.design.types = are.design.block_count in
      let count : length files ≡ 1 + length m.top.xbars + length are.design.types = are.design.count in
      let there : k < length are.design.types = omega (arith, within, kinds) in
      let inside : 1 + length m.top.xbars + k < length files = omega (arith, there, count) in
      let kind = item_at are.design.types k there in
      let file = item_at files (1 + length m.top.xbars + k) inside in
      let describes = are.design.blocks k kind.0 file.0 laid (record { kind_is = kind.1; is = file.1 }) is in
      let its : FileIs files (1 + length m.xbars + k) file.0 = subst (λ n. FileIs files (1 + n + k) file.0) (sym same) file.1 in
      let has : HasTree file.0 t = have.blocks k file.0 t its also in
      record {
        valid = all_at IsValidLaidBlock m.blocks k laid are.merged.blocks is;
        file = file.0;
        has_tree = has;
        laid_out = subst (λ u. IsLaidOutAs file.0.number u laid) (same_tree file.0 describes.0 t describes.1.has_tree has) describes.1.laid_out;
      }

-- ---- blocks of which texts can be made

laid_of : (laid : LaidBlock) (tree : Tree) (is : IsDescribed laid tree) → IsLaidBlock laid.desc laid
laid_of laid tree is = subst (λ (b : BlockDesc). IsLaidBlock b laid) (sym is.laid_out.is_laid.description) is.laid_out.is_laid

pub described_few : (laid : LaidBlock) (tree : Tree) → IsDescribed laid tree → length laid.faces < 4294967296
described_few laid tree is = few_faces laid.desc laid is.valid.block (laid_of laid tree is)

pub described_named : (laid : LaidBlock) (tree : Tree) → IsDescribed laid tree → IsNamed laid
described_named laid tree is = is_named laid.desc laid is.valid.block (laid_of laid tree is) is.valid.laid

-- its unit, where no name comes twice
pub described_unit : (laid : LaidBlock) (tree : Tree) (texts : BlockTexts) → IsDescribed laid tree → clash_of laid ≡ None → map module_of texts.modules ≡ modules_of laid
    → texts.header ≡ header_text laid → (file : File) × IsUnitOf file (unit_with tree laid texts)
described_unit laid tree texts is apart modules header = (
  is.file,
  record {
    is_good = record { has_tree = is.has_tree; is_good = record { laid_out = is.laid_out; no_clash = apart } };
    modules = modules;
    header = header;
  },
)
