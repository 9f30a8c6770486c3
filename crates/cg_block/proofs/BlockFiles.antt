-- All that is written of a block, put among other files.
use Rattle.std.proofs.Common.{◌≡◌, List, [], ◌∷◌, map, Result, Ok, Err, OnOk, ap, sym, ◌∙◌}
use Rattle.cg_desc.specs.declared.block.LaidBlock.{LaidBlock}
use Rattle.cg_hjson.specs.declared.tree.Tree.{Tree}
use Rattle.cg_outputs.specs.declared.out_file.OutFile.{OutFile}
use Rattle.cg_outputs.specs.Inner.{put_output, put_outputs}
use Rattle.cg_regspec.specs.RegisterModule.{modules_of}
use Rattle.cg_sv.specs.Views.{module_of}
use Rattle.cg_sv.specs.declared.tree.Module.{Module as Made}
use Rattle.cg_block.specs.Outputs.{block_files, completed_output, header_output, register_output}
use Rattle.cg_block.specs.Unit.{module_output}
use Rattle.cg_block.proofs.Again.{by_modules}

-- the texts of a block's modules are those of its interfaces
pub modules_put : (laid : LaidBlock) (made : List Made) (before : List OutFile) → map module_of made ≡ modules_of laid
    → put_outputs before (map module_output (map module_of made)) ≡ put_outputs before (map (register_output laid) laid.faces)
modules_put laid made before same = ap (λ ms. put_outputs before (map module_output ms)) same ∙ ap (put_outputs before) (sym (by_modules laid laid.faces))

all_put : (t : Tree) (laid : LaidBlock) (made : List Made) (before first second : List OutFile) (h k : OutFile) → h ≡ header_output laid → k ≡ completed_output t laid
    → first ≡ put_output h before → second ≡ put_output k first → map module_of made ≡ modules_of laid
    → put_outputs second (map module_output (map module_of made)) ≡ put_outputs before (block_files t laid)
unfolding put_outputs
all_put t laid made before first second h k is_header is_completed put_header put_completed same =
    let header : first ≡ put_output (header_output laid) before = put_header ∙ ap (λ o. put_output o before) is_header in
    let both : second ≡ put_output (completed_output t laid) (put_output (header_output laid) before) = put_completed ∙ ap (λ o. put_output o first) is_completed ∙ ap (put_output (completed_output t laid)) header in
    modules_put laid made second same ∙ ap (λ os. put_outputs os (map (register_output laid) laid.faces)) both

-- the header, the completed description, and then the modules
pub block_put : {E : Type 0} (r : Result (Unit {0}) E) (t : Tree) (laid : LaidBlock) (made : List Made) (before first second all : List OutFile) (h k : OutFile) → h ≡ header_output laid
    → k ≡ completed_output t laid → first ≡ put_output h before → second ≡ put_output k first → map module_of made ≡ modules_of laid
    → OnOk r (all ≡ put_outputs second (map module_output (map module_of made))) → OnOk r (all ≡ put_outputs before (block_files t laid))
block_put (Ok u) t laid made before first second all h k is_header is_completed put_header put_completed same put =
    put ∙ all_put t laid made before first second h k is_header is_completed put_header put_completed same
block_put (Err e) t laid made before first second all h k is_header is_completed put_header put_completed same put = tt
