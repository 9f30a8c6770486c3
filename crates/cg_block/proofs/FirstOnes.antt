-- What a stage finds first is what the whole file breaks first.
use Rattle.std.proofs.Common.{◌≡◌, ℕ, List, Some, Result, Ok, Err, IfOk, map, sym, ◌∙◌, ap, subst}
use Rattle.cg_desc.specs.declared.block.BlockDesc.{BlockDesc}
use Rattle.cg_desc.specs.declared.block.LaidBlock.{LaidBlock}
use Rattle.cg_desc.specs.declared.fault.DescFault.{DescFault}
use Rattle.cg_finding.specs.Finding.{Finding, finding}
use Rattle.cg_finding.specs.Violations.{IsFirstViolation, RefusesFirst}
use Rattle.cg_finding.proofs.Stages.{lifted, only_first}
use Rattle.cg_hjson.specs.declared.tree.Tree.{Tree}
use Rattle.cg_blkread.specs.Described.{block_of}
use Rattle.cg_blkread.specs.Reads.{Violates as BreaksKeysOrValues}
use Rattle.cg_expand.specs.Violations.{Violates as BreaksNamesOrCounts}
use Rattle.cg_layout.specs.Violations.{Violates as BreaksOffsetsOrGates}
use Rattle.cg_layout.specs.Lays.{Lays}
use Rattle.cg_layout.proofs.Once.{laid_once}
use Rattle.cg_files.specs.Files.{File, HasTree, BreaksFile}
use Rattle.cg_files.proofs.OneTree.{same_tree, unbroken}
use Rattle.cg_block.specs.Stages.{IsBlock, HasItems, IsLaidOutAs}
use Rattle.cg_block.specs.Outputs.{clash_of}
use Rattle.cg_sv.specs.Views.{module_of}
use Rattle.cg_regspec.specs.RegisterModule.{modules_of}
use Rattle.cg_hdrspec.specs.BlockHeader.{header_text}
use Rattle.cg_block.specs.declared.unit.BlockUnit.{BlockUnit}
use Rattle.cg_block.specs.Unit.{IsUnitOf}
use Rattle.cg_block.specs.Breaks.{IsGoodBlock, BreaksLayout, BreaksTree, BreaksBlock, keys_or_values, names_or_counts, offsets_or_gates, up_to_layout, clash, of_file, of_tree, FindsLayout, FindsInTree, FindsInFile}

module _ (number : ℕ) (t : Tree) where
  keys_alone : (f g : Finding) → BreaksKeysOrValues t f → BreaksLayout number t g → BreaksKeysOrValues t g
  keys_alone f _ broken (keys_or_values also) = also
  keys_alone f _ broken (names_or_counts is also) = absurd (is f broken)
  keys_alone f _ broken (offsets_or_gates has also) = absurd (has.block f broken)

  pub keys_first : (e : DescFault) → RefusesFirst e number (BreaksKeysOrValues t) → RefusesFirst e number (BreaksLayout number t)
  keys_first e refuses = lifted (BreaksKeysOrValues t) (BreaksLayout number t) e number (λ f broken. keys_or_values broken) keys_alone refuses

  names_alone : IsBlock t → (f g : Finding) → BreaksNamesOrCounts (block_of number t) f → BreaksLayout number t g → BreaksNamesOrCounts (block_of number t) g
  names_alone is f _ broken (keys_or_values also) = absurd (is _ also)
  names_alone is f _ broken (names_or_counts is' also) = also
  names_alone is f _ broken (offsets_or_gates has also) = absurd (has.sound f broken)

  pub names_first : IsBlock t → (e : DescFault) → RefusesFirst e number (BreaksNamesOrCounts (block_of number t)) → RefusesFirst e number (BreaksLayout number t)
  names_first is e refuses =
      lifted (BreaksNamesOrCounts (block_of number t)) (BreaksLayout number t) e number (λ f broken. names_or_counts is broken) (names_alone is) refuses

  offsets_alone : HasItems number t → (f g : Finding) → BreaksOffsetsOrGates (block_of number t) f → BreaksLayout number t g → BreaksOffsetsOrGates (block_of number t) g
  offsets_alone has f _ broken (keys_or_values also) = absurd (has.block _ also)
  offsets_alone has f _ broken (names_or_counts is also) = absurd (has.sound _ also)
  offsets_alone has f _ broken (offsets_or_gates has' also) = also

  pub offsets_first : HasItems number t → (e : DescFault) → RefusesFirst e number (BreaksOffsetsOrGates (block_of number t)) → RefusesFirst e number (BreaksLayout number t)
  offsets_first has e refuses =
      lifted (BreaksOffsetsOrGates (block_of number t)) (BreaksLayout number t) e number (λ f broken. offsets_or_gates has broken) (offsets_alone has) refuses

  -- a tree that is laid out breaks nothing up to there
  pub laid_unbroken : (laid : LaidBlock) (f : Finding) → IsLaidOutAs number t laid → ¬ BreaksLayout number t f
  laid_unbroken laid f is (keys_or_values also) = is.items.block f also
  laid_unbroken laid f is (names_or_counts is' also) = is.items.sound f also
  laid_unbroken laid f is (offsets_or_gates has also) = is.sound f also

  layout_alone : (f g : Finding) → BreaksLayout number t f → BreaksTree number t g → BreaksLayout number t g
  layout_alone f _ broken (up_to_layout also) = also
  layout_alone f _ broken (clash laid is also) = absurd (laid_unbroken laid f is broken)

  -- what breaks the layout first breaks the tree first
  pub layout_first : (e : DescFault) → RefusesFirst e number (BreaksLayout number t) → RefusesFirst e number (BreaksTree number t)
  layout_first e refuses = lifted (BreaksLayout number t) (BreaksTree number t) e number (λ f broken. up_to_layout broken) layout_alone refuses

  -- a tree has one layout
  pub one_layout : (a b : LaidBlock) → IsLaidOutAs number t a → IsLaidOutAs number t b → a ≡ b
  one_layout a b is also = laid_once (block_of number t) a b is.is_laid also.is_laid

  clash_alone : (laid : LaidBlock) (told : List ℕ) → IsLaidOutAs number t laid → clash_of laid ≡ Some told → (g : Finding) → BreaksTree number t g → g ≡ finding 12 70 t.at told
  clash_alone laid told is comes _ (up_to_layout {f} also) = absurd (laid_unbroken laid f is also)
  clash_alone laid told is comes _ (clash {name} laid' is' also) =
      let e : Some name ≡ Some told = sym also ∙ ap clash_of (one_layout laid' laid is' is) ∙ comes in
      let same : name ≡ told = cc in
      ap (λ n. finding 12 70 t.at n) same

  -- a name that comes twice is told
  pub clash_first : (laid : LaidBlock) (name : List ℕ) → IsLaidOutAs number t laid → clash_of laid ≡ Some name → IsFirstViolation (BreaksTree number t) (finding 12 70 t.at name)
  clash_first laid name is comes = only_first (BreaksTree number t) _ (clash laid is comes) (clash_alone laid name is comes)

-- ---- from the description to the tree

-- the block's items laid out, or the first fault of their offsets and gates
pub laid_found : (number : ℕ) (t : Tree) (r : Result LaidBlock DescFault) → HasItems number t → Lays r (block_of number t) → FindsLayout r number t (λ laid. IsLaidOutAs number t laid)
unfolding block_of
laid_found number t (Ok laid) has (none, is) = record { items = has; sound = none; is_laid = is }
laid_found number t (Err e) has refuses = offsets_first number t has e refuses

-- the first fault of the names and counts of the block's items
pub items_refused : (number : ℕ) (t : Tree) (e : DescFault) (b : BlockDesc) → IsBlock t → b ≡ block_of number t → RefusesFirst e b.file (BreaksNamesOrCounts b)
    → RefusesFirst e number (BreaksLayout number t)
unfolding block_of
items_refused number t e b is same refuses = names_first number t is e (subst (λ (d : BlockDesc). RefusesFirst e d.file (BreaksNamesOrCounts d)) same refuses)

-- the block's items have names of their own
pub items_sound : (number : ℕ) (t : Tree) (b : BlockDesc) → IsBlock t → b ≡ block_of number t → ((f : Finding) → ¬ BreaksNamesOrCounts b f) → HasItems number t
items_sound number t b is same none = record { block = is; sound = λ f. subst (λ d. ¬ BreaksNamesOrCounts d f) same (none f) }

-- ---- from the tree to the file

module _ (file : File) where
  file_alone : (f g : Finding) → BreaksFile file f → BreaksBlock file g → BreaksFile file g
  file_alone f _ broken (of_file also) = also
  file_alone f _ broken (of_tree t has also) = absurd (unbroken file t f has broken)

  pub file_first : (e : DescFault) → RefusesFirst e file.number (BreaksFile file) → RefusesFirst e file.number (BreaksBlock file)
  file_first e refuses = lifted (BreaksFile file) (BreaksBlock file) e file.number (λ f broken. of_file broken) file_alone refuses

  tree_alone : (t : Tree) → HasTree file t → (one g : Finding) → BreaksTree file.number t one → BreaksBlock file g → BreaksTree file.number t g
  tree_alone t has one _ broken (of_file {f} also) = absurd (unbroken file t f has also)
  tree_alone t has one _ broken (of_tree {f} u has' also) = subst (λ x. BreaksTree file.number x f) (same_tree file u t has' has) also

  pub tree_first : (t : Tree) → HasTree file t → (e : DescFault) → RefusesFirst e file.number (BreaksTree file.number t) → RefusesFirst e file.number (BreaksBlock file)
  tree_first t has e refuses =
      lifted (BreaksTree file.number t) (BreaksBlock file) e file.number (λ f broken. of_tree t has broken) (tree_alone t has) refuses

-- ---- the unit

-- the unit of a file's tree is the file's
pub unit_found : (file : File) (t : Tree) (r : Result BlockUnit DescFault) → HasTree file t → FindsInTree r file.number t (λ u. IsGoodBlock file.number u.tree u.laid)
    → IfOk r (λ u. u.tree ≡ t) → IfOk r (λ u. map module_of u.texts.modules ≡ modules_of u.laid) → IfOk r (λ u. u.texts.header ≡ header_text u.laid)
    → FindsInFile r file (λ u. IsUnitOf file u)
unit_found file t (Ok u) has good same modules header =
    record { is_good = record { has_tree = subst (HasTree file) (sym same) has; is_good = good }; modules = modules; header = header }
unit_found file t (Err e) has refuses same modules header = tree_first file t has e refuses
