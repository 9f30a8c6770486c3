-- What is written means the block, by the laws of printed texts, of register modules, of headers and of completed descriptions.
use Rattle.std.proofs.Common.{◌≡◌, List, [], ◌∷◌, sym, subst, inl, inr}
use Rattle.cg_svspec.specs.Names.{Among, first_repeat}
use Rattle.cg_svspec.specs.Printable.{AllOf, IsPrintable}
use Rattle.cg_svspec.specs.Stands.{PrintedTextStands}
use Rattle.cg_svspec.specs.Tree.{Module}
use Rattle.cg_desc.specs.declared.block.BlockDesc.{BlockDesc}
use Rattle.cg_desc.specs.declared.block.LaidBlock.{LaidBlock}
use Rattle.cg_hjson.specs.declared.tree.Tree.{Tree}
use Rattle.cg_blkread.specs.Described.{block_of}
use Rattle.cg_layout.proofs.Whole.{laid_faces}
use Rattle.cg_regspec.specs.Laws.{RegisterModuleMeans}
use Rattle.cg_regspec.specs.RegisterModule.{modules_of, module_of_face}
use Rattle.cg_hdrspec.specs.BlockHeader.{header_names}
use Rattle.cg_hdrspec.specs.Laws.{BlockHeaderMeans}
use Rattle.cg_files.specs.Files.{File}
use Rattle.cg_block.specs.Outputs.{first_clash}
use Rattle.cg_block.specs.Breaks.{IsGoodFile}
use Rattle.cg_block.specs.Laws.{BlockOutputsMean}
use Rattle.cg_block.proofs.Again as again
use Rattle.cg_block.proofs.Again.{builds_same}
use Rattle.cg_block.proofs.Modules.{Acts, all_act, all_printable, is_named, neither}
use Rattle.cg_block.proofs.Valid.{described_is_valid, is_read, items_are_valid}

-- the laws of printed texts, of register modules, of headers, of completed descriptions and of documents
pub record Laws : Type 0 where
  pub printed : PrintedTextStands
  pub modules : RegisterModuleMeans
  pub headers : BlockHeaderMeans
  pub completed : again.Laws

of_all : {X : Type 0} (P : X → Type 0) (xs : List X) (x : X) → AllOf P xs → Among x xs → P x
of_all P [] x all among = absurd among
of_all P (y ∷ ys) x all (inl is) = subst P (sym is) all.0
of_all P (y ∷ ys) x all (inr there) = of_all P ys x all.1 there

pub outputs_mean : Laws → BlockOutputsMean
outputs_mean laws file t laid good =
    let is = good.is_good.laid_out in
    let b : BlockDesc = block_of file.number t in
    let valid = described_is_valid file.number t is.items.block in
    let faces = laid_faces b laid (items_are_valid b valid is.items.sound) is.sound is.is_laid in
    let both = neither (first_clash (modules_of laid)) (first_repeat (header_names laid)) good.is_good.no_clash in
    let acts = all_act laws.modules b laid valid is.is_laid faces both.0 in
    record {
      registers = λ face among. let act = of_all (Acts laid) laid.faces face acts among in
          record { module_of_text = module_of_face laid face; stands = laws.printed (module_of_face laid face) act.well_formed.printable; acts = act };
      header = laws.headers laid (is_named b laid valid is.is_laid faces) both.1;
      completed = record {
        reads_back = laws.completed.reads_back t (is_read laws.completed.documents file t good.has_tree is.items.block);
        again = λ few few_in_all. builds_same laws.completed file t laid good few few_in_all;
      };
    }

-- the modules of a good block can be printed
pub good_printable : RegisterModuleMeans → (file : File) (t : Tree) (laid : LaidBlock) (ms : List Module) → IsGoodFile file t laid → ms ≡ modules_of laid → AllOf IsPrintable ms
good_printable law file t laid ms good made =
    let is = good.is_good.laid_out in
    let b : BlockDesc = block_of file.number t in
    let valid = described_is_valid file.number t is.items.block in
    let faces = laid_faces b laid (items_are_valid b valid is.items.sound) is.sound is.is_laid in
    let both = neither (first_clash (modules_of laid)) (first_repeat (header_names laid)) good.is_good.no_clash in
    all_printable law b laid ms valid is.is_laid faces both.0 made
