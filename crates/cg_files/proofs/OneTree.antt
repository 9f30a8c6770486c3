-- A file has one tree, and breaks nothing then.
use Rattle.std.proofs.Common.{◌≡◌, ℕ, List, length, Option, Some, None, sym, ◌∙◌, subst, inl, inr, arith}
use Rattle.std.specs.Str.{chars, IsUtf8, IsValidUpTo}
use Rattle.std.proofs.lemmas.List.{take_all}
use Rattle.cg_docspec.specs.Document.{Document}
use Rattle.cg_docspec.specs.SyntaxFault.{TooDeep, too_deep as deep, read}
use Rattle.cg_docspec.proofs.Answering.Answers.{one_answer, one_tree}
use Rattle.cg_hjson.proofs.SeenWhole.{seen_alike}
use Rattle.cg_hjson.specs.Views.{tree_of}
use Rattle.cg_hjson.specs.declared.tree.Tree.{Tree}
use Rattle.cg_finding.specs.Finding.{Finding}
use Rattle.cg_files.specs.Files.{File, IsText, IsTooLarge, HasTree, BreaksFile, absent, too_large, not_utf8, no_document, too_deep}

-- what was given was these bytes alone
pub same_bytes : (o : Option (List ℕ)) (a b : List ℕ) → o ≡ Some a → o ≡ Some b → a ≡ b
same_bytes o a b is also = let e : Some a ≡ Some b = sym is ∙ also in cc

-- bytes of which not all are UTF-8 are none
pub not_text : (bytes : List ℕ) (n : ℕ) → IsValidUpTo bytes n → IsUtf8 bytes → ⊥
not_text bytes n bad good = bad.longest (length bytes) bad.short (subst IsUtf8 (sym (take_all (length bytes) bytes (omega arith))) good)

-- a text is not too large
pub not_large : (file : File) (bytes : List ℕ) → IsText file bytes → IsTooLarge file.before bytes → ⊥
not_large file bytes text (inl many) = absurd (let few = text.few in omega arith)
not_large file bytes text (inr many) = absurd (let few = text.few_in_all in omega arith)

-- a file has one tree
pub same_tree : (file : File) (t u : Tree) → HasTree file t → HasTree file u → t ≡ u
same_tree file t u a b =
    let same : b.bytes ≡ a.bytes = same_bytes file.given b.bytes a.bytes b.text.given a.text.given in
    seen_alike t u (one_tree (chars a.bytes) (tree_of t) (tree_of u) a.document (subst (λ bytes. Document (chars bytes) (tree_of u)) same b.document))

-- a file with a tree breaks nothing
pub unbroken : (file : File) (t : Tree) (f : Finding) → HasTree file t → BreaksFile file f → ⊥
unbroken file t _ has (absent none) = let e : Some has.bytes ≡ None = sym has.text.given ∙ none in cc
unbroken file t _ has (too_large bytes is many) =
    not_large file has.bytes has.text (subst (IsTooLarge file.before) (same_bytes file.given bytes has.bytes is has.text.given) many)
unbroken file t _ has (not_utf8 bytes good is bad) =
    not_text bytes good bad (subst IsUtf8 (same_bytes file.given has.bytes bytes has.text.given is) has.text.utf8)
unbroken file t _ has (no_document bytes at text none) =
    let same = same_bytes file.given has.bytes bytes has.text.given text.given in
    none.no_tree (tree_of t) (subst (λ b. Document (chars b) (tree_of t)) same has.document)
unbroken file t _ has (too_deep bytes at text is) =
    let same : bytes ≡ has.bytes = same_bytes file.given bytes has.bytes text.given has.text.given in
    let e : deep at ≡ read (tree_of t) = one_answer (chars has.bytes) (deep at) (read (tree_of t)) (subst (λ b. TooDeep (chars b) at) same is) (has.document, has.shallow) in
    cc
