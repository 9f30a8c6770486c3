-- Where the bytes before a file are more than all files may have, how many more they are says nothing of the file.
use Rattle.std.proofs.Common.{ℕ, ◌<◌, List, Option, Result, Ok, Err, inl, inr, subst, arith}
use Rattle.cg_desc.specs.declared.crossbar.XbarDesc.{XbarDesc}
use Rattle.cg_desc.specs.declared.fault.DescFault.{DescFault}
use Rattle.cg_files.specs.Files.{BreaksFile, File, HasTree, IsText, absent, limit_of_all, no_document, not_utf8, too_deep, too_large}
use Rattle.cg_finding.specs.Finding.{Finding}
use Rattle.cg_finding.proofs.Stages.{lifted}
use Rattle.cg_hjson.specs.declared.tree.Tree.{Tree}
use Rattle.cg_crossbar.specs.Breaks.{of_description, of_file as crossbar_file_broken}
use Rattle.cg_design.specs.Breaks.{BreaksBlockFile, BreaksCrossbarFile, Finds, of_crossbar}
use Rattle.cg_design.specs.Files.{given_file}
use Rattle.cg_design.specs.Inner.Reading.{DescribesListed, DescribesTyped, IsCountOf}
use Rattle.cg_design.specs.declared.block.BlockSource.{BlockSource}
use Rattle.cg_desc.specs.declared.top.XbarUse.{XbarUse}

-- ---- one file's own rules

-- no text stands behind so many bytes, and so no tree
no_text : (number before : ℕ) (g : Option (List ℕ)) (bytes : List ℕ) → limit_of_all < before → IsText (given_file number before g) bytes → ⊥
no_text number before g bytes many text = let few = text.few_in_all in absurd (omega arith)

no_tree : (number before : ℕ) (g : Option (List ℕ)) (t : Tree) → limit_of_all < before → HasTree (given_file number before g) t → ⊥
no_tree number before g t many has = no_text number before g has.bytes many has.text

file_same : (number a b : ℕ) (g : Option (List ℕ)) → limit_of_all < a → limit_of_all < b → (f : Finding) → BreaksFile (given_file number a g) f → BreaksFile (given_file number b g) f
file_same number a b g many also _ (absent none) = absent none
file_same number a b g many also _ (too_large bytes is large) = too_large bytes is (inr (omega arith))
file_same number a b g many also _ (not_utf8 bytes good is bad) = not_utf8 bytes good is bad
file_same number a b g many also _ (no_document bytes at text none) = absurd (no_text number a g bytes many text)
file_same number a b g many also _ (too_deep bytes at text deep) = absurd (no_text number a g bytes many text)

crossbar_same : (name : List ℕ) (number a b : ℕ) (g : Option (List ℕ)) → limit_of_all < a → limit_of_all < b → (f : Finding) → BreaksCrossbarFile name (given_file number a g) f
    → BreaksCrossbarFile name (given_file number b g) f
crossbar_same name number a b g many also _ (of_crossbar (crossbar_file_broken {f} broken)) = of_crossbar (crossbar_file_broken (file_same number a b g many also f broken))
crossbar_same name number a b g many also _ (of_crossbar (of_description t has broken)) = absurd (no_tree number a g t many has)
crossbar_same name number a b g many also _ (BreaksCrossbarFile.misnamed t has broken) = absurd (no_tree number a g t many has)

block_same : (kind : List ℕ) (number a b : ℕ) (g : Option (List ℕ)) → limit_of_all < a → limit_of_all < b → (f : Finding) → BreaksBlockFile kind (given_file number a g) f
    → BreaksBlockFile kind (given_file number b g) f
block_same kind number a b g many also _ (BreaksBlockFile.of_file {f} broken) = BreaksBlockFile.of_file (file_same number a b g many also f broken)
block_same kind number a b g many also _ (BreaksBlockFile.layout t has broken) = absurd (no_tree number a g t many has)
block_same kind number a b g many also _ (BreaksBlockFile.misnamed t has broken) = absurd (no_tree number a g t many has)

-- ---- what is found

-- what is found by the count is found by the exact number
found_exactly : (A : Type 0) (B : File → Finding → Type 0) (D : File → A → Type 0) (number : ℕ) (g : Option (List ℕ))
    → ((a b : ℕ) → limit_of_all < a → limit_of_all < b → (f : Finding) → B (given_file number a g) f → B (given_file number b g) f)
    → ((a : ℕ) (x : A) → limit_of_all < a → D (given_file number a g) x → ⊥)
    → (counted exact : ℕ) (r : Result A DescFault) → IsCountOf counted exact
    → Finds r number (B (given_file number counted g)) (D (given_file number counted g)) → Finds r number (B (given_file number exact g)) (D (given_file number exact g))
found_exactly A B D number g same none counted exact r (inl e) found = subst (λ k. Finds r number (B (given_file number k g)) (D (given_file number k g))) e found
found_exactly A B D number g same none counted exact (Ok x) (inr (many, also)) found = absurd (none counted x many found)
found_exactly A B D number g same none counted exact (Err e) (inr (many, also)) found =
    lifted (B (given_file number counted g)) (B (given_file number exact g)) e number (same counted exact many also) (λ f h broken. same exact counted also many h) found

pub crossbar_exactly : (listed : XbarUse) (number : ℕ) (g : Option (List ℕ)) (counted exact : ℕ) (r : Result XbarDesc DescFault) → IsCountOf counted exact
    → Finds r number (BreaksCrossbarFile listed.name (given_file number counted g)) (DescribesListed listed (given_file number counted g))
    → Finds r number (BreaksCrossbarFile listed.name (given_file number exact g)) (DescribesListed listed (given_file number exact g))
crossbar_exactly listed number g counted exact r count found =
    found_exactly XbarDesc (BreaksCrossbarFile listed.name) (DescribesListed listed) number g (λ a b. crossbar_same listed.name number a b g)
    (λ a x many is. no_tree number a g is.0.describes.tree many is.0.describes.has_tree) counted exact r count found

pub block_exactly : (kind : List ℕ) (number : ℕ) (g : Option (List ℕ)) (counted exact : ℕ) (r : Result BlockSource DescFault) → IsCountOf counted exact
    → Finds r number (BreaksBlockFile kind (given_file number counted g)) (DescribesTyped kind (given_file number counted g))
    → Finds r number (BreaksBlockFile kind (given_file number exact g)) (DescribesTyped kind (given_file number exact g))
block_exactly kind number g counted exact r count found =
    found_exactly BlockSource (BreaksBlockFile kind) (DescribesTyped kind) number g (λ a b. block_same kind number a b g)
    (λ a s many is. no_tree number a g s.tree many is.0.has_tree) counted exact r count found
