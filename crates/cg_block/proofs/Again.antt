-- A completed description in place of its source gives the same files.
use Rattle.std.proofs.Common.{◌≡◌, ℕ, ◌+◌, ◌≤◌, List, [], ◌∷◌, ◌++◌, map, length, codes, refl, sym, ap, ◌∙◌, subst, chars}
use Rattle.cg_docspec.specs.Depth.{Opener}
use Rattle.cg_docspec.specs.Document.{Document}
use Rattle.cg_svspec.specs.Names.{first_repeat}
use Rattle.cg_desc.specs.declared.block.LaidBlock.{LaidBlock}
use Rattle.cg_desc.specs.declared.block.LaidFace.{LaidFace}
use Rattle.cg_hjson.specs.Views.{tree_of}
use Rattle.cg_hjson.specs.declared.tree.Tree.{Tree}
use Rattle.cg_hjson.proofs.SeenWhole.{seen}
use Rattle.cg_blkread.specs.Described.{block_of}
use Rattle.cg_regspec.specs.RegisterModule.{register_module, module_of_face}
use Rattle.cg_jsonspec.specs.Layout.{layout_text}
use Rattle.cg_jsonspec.specs.Laws.{DocumentsAreSayable}
use Rattle.cg_jsonspec.specs.ReadsBack.{ReadsBack}
use Rattle.cg_jsonspec.specs.Said.{unplaced}
use Rattle.cg_blkdone.specs.Completed.{CompletedIsSame, CompletedIsSound, CompletedReadsBack, Completes, Says, completed_text}
use Rattle.cg_blkdone.specs.Full.{full_block}
use Rattle.cg_samespec.specs.Laws.{IsLaidSoundly, ReadFieldsAreApart, SameIsLaid}
use Rattle.cg_samespec.specs.Same.{WriteSame}
use Rattle.cg_files.specs.Files.{File, HasTree, some_file, limit, limit_of_all}
use Rattle.cg_block.specs.Outputs.{clash_of, first_clash, or_else, register_output}
use Rattle.cg_block.specs.Unit.{module_output}
use Rattle.cg_block.specs.Breaks.{IsGoodFile}
use Rattle.cg_block.specs.Meaning.{WritesSame, BuildsSame}
use Rattle.cg_block.proofs.Once.{good_unbroken}
use Rattle.cg_block.proofs.Valid.{is_read}

-- the laws that are needed
pub record Laws : Type 0 where
  pub documents : DocumentsAreSayable
  pub reads_back : CompletedReadsBack
  pub same : CompletedIsSame
  pub sound : CompletedIsSound
  pub apart : ReadFieldsAreApart
  pub laid : SameIsLaid

pub by_modules : (laid : LaidBlock) (faces : List LaidFace) → map (register_output laid) faces ≡ map module_output (map (module_of_face laid) faces)
unfolding register_module
by_modules laid [] = refl
by_modules laid (f ∷ fs) = ap (λ os. register_output laid f ∷ os) (by_modules laid fs)

-- of blocks of which the same is written, and whose completed descriptions are the same, the files are the same
same_files : (t u : Tree) (a b : LaidBlock) → WriteSame a b → full_block u ≡ full_block t → WritesSame t a u b
unfolding completed_text
same_files t u a b same full = record {
  registers = by_modules b b.faces ∙ ap (map module_output) (sym same.modules) ∙ sym (by_modules a a.faces);
  header = λ i. record { name = sym same.block i ++ codes "_regs.h"; bytes = sym same.header i };
  completed = λ i. record { name = sym same.block i ++ codes ".gen.hjson"; bytes = layout_text (full i) };
}

same_clash : (a b : LaidBlock) → WriteSame a b → clash_of b ≡ clash_of a
same_clash a b same = λ i. or_else (first_clash (sym same.modules i)) (first_repeat (sym same.names i))

module _ (laws : Laws) (file : File) (t : Tree) (laid : LaidBlock) (good : IsGoodFile file t laid) (few : length (completed_text t) ≤ limit) (few_in_all : file.before + length (completed_text t) ≤ limit_of_all) where
  abbrev text : List ℕ
  text = completed_text t

  abbrev other_file : File
  other_file = some_file file.number file.before (completed_text t)

  back : ReadsBack (completed_text t) (full_block t)
  back = laws.reads_back t (is_read laws.documents file t good.has_tree good.is_good.laid_out.items.block)

  by_tree : (u : Tree) → tree_of u ≡ back.root → BuildsSame file t laid (completed_text t)
  by_tree u same =
      let is = good.is_good.laid_out in
      let read = is_read laws.documents file t good.has_tree is.items.block in
      let says : Says u (full_block t) = ap unplaced same ∙ back.same in
      let has : HasTree other_file u = record {
        bytes = completed_text t;
        text = record { given = refl; few = few; few_in_all = few_in_all; utf8 = back.utf8 };
        document = subst (Document (chars (completed_text t))) (sym same) back.document;
        shallow = λ at opens. back.shallow at (subst (λ r. Opener r 65 at) same opens);
      } in
      let completes : Completes t u = laws.same t u read says in
      let apart = laws.apart (chars good.has_tree.bytes) t file.number good.has_tree.document is.items.block is.items.sound in
      let soundly : IsLaidSoundly (block_of file.number t) laid = record { items = is.items.sound; offsets = is.sound; is_laid = is.is_laid } in
      let other = laws.laid (block_of file.number t) (block_of file.number u) laid (sym (completes.describes file.number)) apart soundly in
      let good_again : IsGoodFile other_file u other.0 = record {
        has_tree = has;
        is_good = record {
          laid_out = record { items = record { block = laws.sound t u read says; sound = other.1.items }; sound = other.1.offsets; is_laid = other.1.is_laid };
          no_clash = same_clash laid other.0 other.2 ∙ good.is_good.no_clash;
        };
      } in
      record {
        no_fault = λ f. good_unbroken other_file u other.0 f good_again;
        tree = u;
        other = other.0;
        is_good = good_again;
        same = same_files t u laid other.0 other.2 completes.same;
      }

  pub builds_same : BuildsSame file t laid (completed_text t)
  builds_same = let one = seen back.root in by_tree one.0 one.1
