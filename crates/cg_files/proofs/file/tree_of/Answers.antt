use Rattle.std.proofs.Common.{subst}
use Rattle.std.specs.Str.{chars}
use Rattle.cg_docspec.specs.SyntaxFault.{NoDocument, TooDeep}
use Rattle.cg_hjson.specs.Views.{place_of}
use Rattle.cg_files.specs.Files.{some_file}
use Rattle.cg_files.proofs.FirstOnes.{first_no_document, first_too_deep, named}
use Rattle.cg_files.proofs.file.tree_of.Goals as goal

-- the text is no document
pub returns-in-Err-NotDocument : goal.returns-in-Err-NotDocument
returns-in-Err-NotDocument c =
    let told = rw c.in-Err-NotDocument.field-0-is at c.in-Err-NotDocument.ensures in
    let none = subst (λ b. NoDocument (chars b) (place_of c.in-Err-NotDocument.at)) c.in_ok-text.ensures.0 told.right in
    named _ _ _ _ (rw c.not_a_document.ensures at c.refusal.ensures.names) (first_no_document (some_file c.args.file c.args.before c.args.bytes.now) _ _ c.in_ok-text.ensures.1 none)

-- an opener of depth 65
pub returns-in-Err-TooDeep : goal.returns-in-Err-TooDeep
returns-in-Err-TooDeep c =
    let told = rw c.in-Err-TooDeep.field-0-is at c.in-Err-TooDeep.ensures in
    let deep = subst (λ b. TooDeep (chars b) (place_of c.in-Err-TooDeep.at)) c.in_ok-text.ensures.0 told.right in
    named _ _ _ _ (rw c.too_deep.ensures at c.refusal-in-Err-TooDeep.ensures.names) (first_too_deep (some_file c.args.file c.args.before c.args.bytes.now) _ _ c.in_ok-text.ensures.1 deep)
