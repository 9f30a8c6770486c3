-- What a stage finds first in a file of a top is what the whole file breaks first, and what is described under the right name.
use Rattle.std.proofs.Common.{◌≡◌, ◌⊎◌, ℕ, List, [], ◌∷◌, map, Some, None, Ok, Err, inl, inr, unwrap_or, refl, sym, subst, ap, ◌∙◌}
use Rattle.cg_svspec.specs.Characters.{IsName}
use Rattle.cg_desc.specs.Crossbar.{IsValidCrossbar}
use Rattle.cg_svspec.specs.Printable.{AllOf}
use Rattle.cg_desc.specs.Laid.{IsLaid}
use Rattle.cg_desc.specs.Merged.{IsValidLaidBlock}
use Rattle.cg_desc.specs.Valid.{IsValidBlock}
use Rattle.cg_desc.specs.declared.block.FaceDesc.{FaceDesc}
use Rattle.cg_desc.specs.declared.block.FaceItems.{FaceItems}
use Rattle.cg_desc.specs.declared.block.LaidFace.{LaidFace}
use Rattle.cg_layout.specs.Lays.{AreLaidOut}
use Rattle.cg_desc.specs.declared.block.BlockDesc.{BlockDesc}
use Rattle.cg_desc.specs.declared.block.LaidBlock.{LaidBlock}
use Rattle.cg_desc.specs.declared.crossbar.XbarDesc.{XbarDesc}
use Rattle.cg_desc.specs.declared.fault.DescFault.{DescFault}
use Rattle.cg_finding.specs.Finding.{Finding}
use Rattle.cg_finding.specs.Violations.{RefusesFirst}
use Rattle.cg_finding.proofs.Stages.{lifted}
use Rattle.cg_hjson.specs.declared.tree.Tree.{Tree}
use Rattle.cg_files.specs.Files.{File, HasTree, BreaksFile}
use Rattle.cg_files.proofs.OneTree.{same_tree, unbroken}
use Rattle.cg_topread.specs.Violations.{Violates as BreaksTopKeys}
use Rattle.cg_xbread.specs.Described.{crossbar_of}
use Rattle.cg_xbread.specs.Violations.{Violates as BreaksDescription}
use Rattle.cg_blkread.specs.Described.{block_of}
use Rattle.cg_block.specs.Breaks.{BreaksLayout}
use Rattle.cg_block.specs.Stages.{IsLaidOutAs}
use Rattle.cg_crossbar.specs.Breaks.{of_file as crossbar_file_broken, of_description}
use Rattle.cg_design.specs.Breaks.{BreaksBlockFile, BreaksCrossbarFile, BreaksTopFile, IsMisnamed, of_crossbar}
use Rattle.cg_finding.specs.Refusal.{Names}
use Rattle.cg_finding.specs.Told.{TellsFirst}
use Rattle.cg_xbread.specs.Reads.{Reads as ReadsCrossbar}
use Rattle.cg_block.proofs.FirstOnes.{laid_unbroken}
use Rattle.cg_design.specs.Breaks.{DescribesBlock, DescribesCrossbar}
use Rattle.cg_design.specs.Inner.{KeepsFirst, misnamed}
use Rattle.cg_design.proofs.Firsts.{earlier_of_both, second_alone}
use Rattle.cg_design.proofs.Names.{name_at, right_name, rightly_named, tells_misnamed}

module _ (file : File) where
  -- ---- a top's own file

  top_file_alone : (f g : Finding) → BreaksFile file f → BreaksTopFile file g → BreaksFile file g
  top_file_alone f _ broken (BreaksTopFile.of_file also) = also
  top_file_alone f _ broken (BreaksTopFile.keys t has also) = absurd (unbroken file t f has broken)

  pub top_file_first : (e : DescFault) → RefusesFirst e file.number (BreaksFile file) → RefusesFirst e file.number (BreaksTopFile file)
  top_file_first e r = lifted (BreaksFile file) (BreaksTopFile file) e file.number (λ f broken. BreaksTopFile.of_file broken) top_file_alone r

  top_keys_alone : (t : Tree) → HasTree file t → (f g : Finding) → BreaksTopKeys t f → BreaksTopFile file g → BreaksTopKeys t g
  top_keys_alone t has f _ broken (BreaksTopFile.of_file {f = g} also) = absurd (unbroken file t g has also)
  top_keys_alone t has f _ broken (BreaksTopFile.keys {f = g} u has' also) = subst (λ x. BreaksTopKeys x g) (same_tree file u t has' has) also

  pub top_keys_first : (t : Tree) → HasTree file t → (e : DescFault) → RefusesFirst e file.number (BreaksTopKeys t) → RefusesFirst e file.number (BreaksTopFile file)
  top_keys_first t has e r = lifted (BreaksTopKeys t) (BreaksTopFile file) e file.number (λ f broken. BreaksTopFile.keys t has broken) (top_keys_alone t has) r

  -- ---- a crossbar's file

  module _ (name : List ℕ) where
    crossbar_file_alone : (f g : Finding) → BreaksFile file f → BreaksCrossbarFile name file g → BreaksFile file g
    crossbar_file_alone f _ broken (of_crossbar (crossbar_file_broken also)) = also
    crossbar_file_alone f _ broken (of_crossbar (of_description t has also)) = absurd (unbroken file t f has broken)
    crossbar_file_alone f _ broken (BreaksCrossbarFile.misnamed t has also) = absurd (unbroken file t f has broken)

    pub crossbar_file_first : (e : DescFault) → RefusesFirst e file.number (BreaksFile file) → RefusesFirst e file.number (BreaksCrossbarFile name file)
    crossbar_file_first e r =
        lifted (BreaksFile file) (BreaksCrossbarFile name file) e file.number (λ f broken. of_crossbar (crossbar_file_broken broken)) crossbar_file_alone r

    abbrev pub InCrossbar : Tree → Finding → Type 0
    InCrossbar t f = BreaksDescription t f ⊎ IsMisnamed name t f

    up_crossbar : (t : Tree) → HasTree file t → (f : Finding) → InCrossbar t f → BreaksCrossbarFile name file f
    up_crossbar t has f (inl broken) = of_crossbar (of_description t has broken)
    up_crossbar t has f (inr broken) = BreaksCrossbarFile.misnamed t has broken

    down_crossbar : (t : Tree) → HasTree file t → (f g : Finding) → InCrossbar t f → BreaksCrossbarFile name file g → InCrossbar t g
    down_crossbar t has f _ broken (of_crossbar (crossbar_file_broken {f = g} also)) = absurd (unbroken file t g has also)
    down_crossbar t has f _ broken (of_crossbar (of_description {f = g} u has' also)) = inl (subst (λ x. BreaksDescription x g) (same_tree file u t has' has) also)
    down_crossbar t has f _ broken (BreaksCrossbarFile.misnamed {f = g} u has' also) = inr (subst (λ x. IsMisnamed name x g) (same_tree file u t has' has) also)

    pub crossbar_first : (t : Tree) → HasTree file t → (e : DescFault) → RefusesFirst e file.number (InCrossbar t) → RefusesFirst e file.number (BreaksCrossbarFile name file)
    crossbar_first t has e r = lifted (InCrossbar t) (BreaksCrossbarFile name file) e file.number (up_crossbar t has) (down_crossbar t has) r

  -- ---- a block's file

  module _ (kind : List ℕ) where
    block_file_alone : (f g : Finding) → BreaksFile file f → BreaksBlockFile kind file g → BreaksFile file g
    block_file_alone f _ broken (BreaksBlockFile.of_file also) = also
    block_file_alone f _ broken (BreaksBlockFile.layout t has also) = absurd (unbroken file t f has broken)
    block_file_alone f _ broken (BreaksBlockFile.misnamed t has also) = absurd (unbroken file t f has broken)

    pub block_file_first : (e : DescFault) → RefusesFirst e file.number (BreaksFile file) → RefusesFirst e file.number (BreaksBlockFile kind file)
    block_file_first e r = lifted (BreaksFile file) (BreaksBlockFile kind file) e file.number (λ f broken. BreaksBlockFile.of_file broken) block_file_alone r

    abbrev pub InBlock : Tree → Finding → Type 0
    InBlock t f = BreaksLayout file.number t f ⊎ IsMisnamed kind t f

    up_block : (t : Tree) → HasTree file t → (f : Finding) → InBlock t f → BreaksBlockFile kind file f
    up_block t has f (inl broken) = BreaksBlockFile.layout t has broken
    up_block t has f (inr broken) = BreaksBlockFile.misnamed t has broken

    down_block : (t : Tree) → HasTree file t → (f g : Finding) → InBlock t f → BreaksBlockFile kind file g → InBlock t g
    down_block t has f _ broken (BreaksBlockFile.of_file {f = g} also) = absurd (unbroken file t g has also)
    down_block t has f _ broken (BreaksBlockFile.layout {f = g} u has' also) = inl (subst (λ x. BreaksLayout file.number x g) (same_tree file u t has' has) also)
    down_block t has f _ broken (BreaksBlockFile.misnamed {f = g} u has' also) = inr (subst (λ x. IsMisnamed kind x g) (same_tree file u t has' has) also)

    pub block_first : (t : Tree) → HasTree file t → (e : DescFault) → RefusesFirst e file.number (InBlock t) → RefusesFirst e file.number (BreaksBlockFile kind file)
    block_first t has e r = lifted (InBlock t) (BreaksBlockFile kind file) e file.number (up_block t has) (down_block t has) r

-- ---- names

-- a valid crossbar that is not misnamed has the name under which it is listed
pub crossbar_named : (name : List ℕ) (number : ℕ) (t : Tree) (x : XbarDesc) → x ≡ crossbar_of number t → IsValidCrossbar x → ((f : Finding) → ¬ IsMisnamed name t f) → x.name ≡ name
unfolding crossbar_of
crossbar_named name number t x is valid none =
    let own : x.name ≡ unwrap_or (name_at t) [] = ap (λ (z : XbarDesc). z.name) is in
    own ∙ right_name name t none (subst IsName own valid.name.0)

-- and a block
pub block_named : (kind : List ℕ) (number : ℕ) (t : Tree) (laid : LaidBlock) → laid.desc ≡ block_of number t → IsValidBlock (block_of number t) → ((f : Finding) → ¬ IsMisnamed kind t f)
    → laid.desc.name ≡ kind
unfolding block_of
block_named kind number t laid is valid none =
    ap (λ (d : BlockDesc). d.name) is ∙ right_name kind t none valid.name

-- ---- valid blocks

laid_names : (faces : List FaceDesc) (items : List FaceItems) (laids : List LaidFace) → AreLaidOut faces items laids → map (λ (f : LaidFace). f.name) laids ≡ map (λ (f : FaceDesc). f.name) faces
laid_names [] [] [] laid = refl
laid_names [] [] (_ ∷ laids) laid = elim laid [ ]
laid_names [] (item ∷ items) laids laid = elim laid [ ]
laid_names (face ∷ faces) [] laids laid = elim laid [ ]
laid_names (face ∷ faces) (item ∷ items) [] laid = elim laid [ ]
laid_names (face ∷ faces) (item ∷ items) (laid ∷ laids) (named, out, rest) = (λ i. named i ∷ laid_names faces items laids rest i)

-- a block that is laid out is valid
pub laid_valid : (number : ℕ) (t : Tree) (laid : LaidBlock) → IsLaidOutAs number t laid → IsValidBlock (block_of number t) → AllOf IsLaid laid.faces → IsValidLaidBlock laid
laid_valid number t laid is valid all =
    let same : laid.desc ≡ block_of number t = is.is_laid.description in
    record {
      block = subst IsValidBlock (sym same) valid;
      named = laid_names (block_of number t).faces _ laid.faces is.is_laid.interfaces ∙ ap (λ (d : BlockDesc). map (λ (f : FaceDesc). f.name) d.faces) (sym same);
      laid = all;
    }

-- ---- the files

module _ (file : File) (name : List ℕ) (t : Tree) (has : HasTree file t) where
  -- the crossbar of the file, rightly named
  pub crossbar_described : (x : XbarDesc) → ReadsCrossbar (Ok x) file.number t → IsValidCrossbar x → misnamed name t ≡ None → DescribesCrossbar name file x
  crossbar_described x (sound, is) valid none = record {
    describes = record { tree = t; has_tree = has; sound = sound; is = is };
    named = crossbar_named name file.number t x is valid (rightly_named name t none);
  }

  -- misnamed
  pub crossbar_misnamed : (x : XbarDesc) (e : DescFault) (g : Finding) → ReadsCrossbar (Ok x) file.number t → misnamed name t ≡ Some g → Names e file.number g
      → RefusesFirst e file.number (BreaksCrossbarFile name file)
  crossbar_misnamed x e g (sound, is) told names =
      crossbar_first file name t has e
      (second_alone (BreaksDescription t) (IsMisnamed name t) e file.number g sound (subst (λ o. TellsFirst o (IsMisnamed name t)) told (tells_misnamed name t)) names)

  -- or none
  pub crossbar_refused : (e kept : DescFault) → ReadsCrossbar (Err e) file.number t → KeepsFirst e (misnamed name t) file.number kept → RefusesFirst kept file.number (BreaksCrossbarFile name file)
  crossbar_refused e kept refuses keeps =
      crossbar_first file name t has kept (earlier_of_both (BreaksDescription t) (IsMisnamed name t) e kept (misnamed name t) file.number refuses (tells_misnamed name t) keeps)

  -- the block of the file, rightly named
  pub block_described : (laid : LaidBlock) → IsLaidOutAs file.number t laid → IsValidBlock (block_of file.number t) → misnamed name t ≡ None → DescribesBlock name file t laid
  block_described laid is valid none = record {
    has_tree = has;
    laid_out = is;
    named = block_named name file.number t laid is.is_laid.description valid (rightly_named name t none);
  }

  pub block_misnamed : (laid : LaidBlock) (e : DescFault) (g : Finding) → IsLaidOutAs file.number t laid → misnamed name t ≡ Some g → Names e file.number g
      → RefusesFirst e file.number (BreaksBlockFile name file)
  block_misnamed laid e g is told names =
      block_first file name t has e
      (second_alone (BreaksLayout file.number t) (IsMisnamed name t) e file.number g (λ f. laid_unbroken file.number t laid f is)
      (subst (λ o. TellsFirst o (IsMisnamed name t)) told (tells_misnamed name t)) names)

  pub block_refused : (e kept : DescFault) → RefusesFirst e file.number (BreaksLayout file.number t) → KeepsFirst e (misnamed name t) file.number kept
      → RefusesFirst kept file.number (BreaksBlockFile name file)
  block_refused e kept refuses keeps =
      block_first file name t has kept (earlier_of_both (BreaksLayout file.number t) (IsMisnamed name t) e kept (misnamed name t) file.number refuses (tells_misnamed name t) keeps)
