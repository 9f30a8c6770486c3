-- There is one list at most of all that is written of files.
use Rattle.std.proofs.Common.{List, [], ap, subst, sym, ◌++◌, ◌∙◌, ◌∷◌, ◌≡◌}
use Rattle.cg_manifest.specs.Manifest.{manifest_of}
use Rattle.cg_outputs.specs.Outputs.{OutputsAreOneList}
use Rattle.cg_outputs.specs.declared.out_file.OutFile.{OutFile}
use Rattle.cg_chip.specs.Laws.{BuildIsOne, ChipIsOne}
use Rattle.cg_chip.specs.Outputs.{AreWritten}
use Rattle.cg_chip.specs.declared.chip.Chip.{Chip}

written_once : OutputsAreOneList → (c : Chip) (xs ys : List OutFile) → AreWritten c xs → AreWritten c ys → xs ≡ ys
written_once one_list c xs ys first second =
    let texts : first.texts ≡ second.texts =
    one_list first.texts second.texts first.are_texts.rises second.are_texts.rises
    (λ o. (λ a. (second.are_texts.member o).1 ((first.are_texts.member o).0 a), λ a. (first.are_texts.member o).1 ((second.are_texts.member o).0 a))) in
    first.with_manifest ∙ ap (λ ts. ts ++ manifest_of c.source.merged.top.name ts ∷ []) texts ∙ sym second.with_manifest

pub build_is_one : OutputsAreOneList → ChipIsOne → BuildIsOne
build_is_one one_list one_chip files xs ys first second =
    let chip : second.chip ≡ first.chip = one_chip files second.chip first.chip second.is_chip first.is_chip in
    written_once one_list first.chip xs ys first.written (subst (λ c. AreWritten c ys) chip second.written)
