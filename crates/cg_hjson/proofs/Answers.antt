-- A call that tells the right answer tells the truth.
use Rattle.std.proofs.Common.{◌≡◌, ℕ, List, Result, Ok, Err, subst}
use Rattle.std.specs.Prelude.{IfOk}
use Rattle.cg_docspec.specs.SyntaxFault.{Answer, IsAnswer}
use Rattle.cg_hjson.specs.declared.tree.Tree.{Tree}
use Rattle.cg_hjson.specs.declared.reader.HjsonFault.{HjsonFault}
use Rattle.cg_hjson.specs.declared.reader.HjsonFault.TheVariants.{NotDocument, TooDeep, Memory}
use Rattle.cg_hjson.specs.Answers.{IsRight, Tells}
use Rattle.cg_hjson.specs.Json.{IntegersFit}
use Rattle.cg_hjson.specs.Views.{tree_of}
use Rattle.cg_hjson.proofs.Fits.{document_fits}

-- the right answer, in the words of the grammar
pub right_by : (text : List ℕ) (a : Answer) (r : Result Tree HjsonFault) → Tells a r → IsAnswer text a → IsRight text r
right_by text a (Ok t) told is = rw told at is
right_by text a (Err (NotDocument at)) told is = rw told at is
right_by text a (Err (TooDeep at)) told is = rw told at is
right_by text a (Err Memory) told is = tt

-- an equal answer is told, too
pub tells_by : (a b : Answer) (r : Result Tree HjsonFault) → a ≡ b → Tells a r → Tells b r
tells_by a b r same told = subst (λ x. Tells x r) same told

-- the integers of a tree that is told are in range
pub fits_by : (text : List ℕ) (r : Result Tree HjsonFault) → IsRight text r → IfOk r (λ t. IntegersFit (tree_of t))
fits_by text (Ok t) right = document_fits text (tree_of t) right.0
fits_by text (Err e) right = tt
