-- A file that describes something breaks nothing, and describes one thing.
use Rattle.std.proofs.Common.{◌≡◌, ℕ, ◌+◌, List, [], length, Some, unwrap_or, sym, ap, subst, ◌∙◌, arith}
use Rattle.std.specs.List.{slice_get}
use Rattle.std.proofs.lemmas.Option.{slice_get_within}
use Rattle.cg_desc.specs.Ends.{CrossbarIs}
use Rattle.cg_desc.specs.Merged.{design_of}
use Rattle.cg_desc.specs.Top.{Design}
use Rattle.cg_desc.specs.declared.block.LaidBlock.{LaidBlock}
use Rattle.cg_desc.specs.declared.block.BlockDesc.{BlockDesc}
use Rattle.cg_desc.specs.declared.crossbar.XbarDesc.{XbarDesc}
use Rattle.cg_desc.specs.declared.top.MergedTop.{MergedTop}
use Rattle.cg_desc.specs.declared.top.TopDesc.{TopDesc}
use Rattle.cg_desc.proofs.Numbered.{item_at, same_item}
use Rattle.cg_finding.specs.Finding.{Finding}
use Rattle.cg_hjson.specs.declared.tree.Tree.{Tree}
use Rattle.cg_files.specs.Files.{File}
use Rattle.cg_files.proofs.OneTree.{same_tree, unbroken}
use Rattle.cg_xbread.specs.Described.{crossbar_of}
use Rattle.cg_xbread.specs.Violations.{Violates as BreaksDescription}
use Rattle.cg_blkread.specs.Described.{block_of}
use Rattle.cg_topread.specs.Described.{top_of}
use Rattle.cg_topread.specs.Violations.{Violates as BreaksTopKeys}
use Rattle.cg_topread.specs.Types.{types_of}
use Rattle.cg_topread.proofs.TypesOnce.{types_one}
use Rattle.cg_block.specs.Breaks.{BreaksLayout}
use Rattle.cg_block.specs.Stages.{IsLaidOutAs}
use Rattle.cg_block.proofs.FirstOnes.{laid_unbroken, one_layout}
use Rattle.cg_crossbar.specs.Breaks.{of_description, of_file as crossbar_file_broken}
use Rattle.cg_merge.proofs.OneMerge.{merged_once, same_list}
use Rattle.cg_design.specs.Breaks.{BreaksBlockFile, BreaksCrossbarFile, BreaksTopFile, DescribesBlock, DescribesCrossbar, DescribesTop, IsMisnamed, of_crossbar}
use Rattle.cg_design.specs.Design.{AreDesign, AreMerged, IsTop}
use Rattle.cg_design.specs.Files.{FileIs}
use Rattle.cg_design.proofs.Names.{name_at}

-- ---- one file

-- what has the name under which it is described is not misnamed
not_misnamed : (name own : List ℕ) (t : Tree) (f : Finding) → own ≡ unwrap_or (name_at t) [] → own ≡ name → IsMisnamed name t f → ⊥
not_misnamed name own t f is named bad = bad.differs (sym (ap (λ o. unwrap_or o []) bad.written) ∙ (sym is ∙ named))

module _ (file : File) where
  -- a top
  pub top_unbroken : (tree : Tree) (top : TopDesc) (f : Finding) → DescribesTop file tree top → BreaksTopFile file f → ⊥
  top_unbroken tree top _ is (BreaksTopFile.of_file {f} broken) = unbroken file tree f is.has_tree broken
  top_unbroken tree top _ is (BreaksTopFile.keys {f} t has broken) = is.sound f (subst (λ x. BreaksTopKeys x f) (same_tree file t tree has is.has_tree) broken)

  pub top_once : (t u : Tree) (a b : TopDesc) → DescribesTop file t a → DescribesTop file u b → a ≡ b
  top_once t u a b is also = is.is ∙ (ap (top_of file.number) (same_tree file t u is.has_tree also.has_tree) ∙ sym also.is)

  -- a crossbar
  crossbar_name : (x : XbarDesc) (t : Tree) → x ≡ crossbar_of file.number t → x.name ≡ unwrap_or (name_at t) []
  unfolding crossbar_of
  crossbar_name x t is = ap (λ (z : XbarDesc). z.name) is

  pub crossbar_unbroken : (name : List ℕ) (x : XbarDesc) (f : Finding) → DescribesCrossbar name file x → BreaksCrossbarFile name file f → ⊥
  crossbar_unbroken name x _ is (of_crossbar (crossbar_file_broken {f} broken)) = unbroken file is.describes.tree f is.describes.has_tree broken
  crossbar_unbroken name x _ is (of_crossbar (of_description {f} t has broken)) =
      is.describes.sound f (subst (λ u. BreaksDescription u f) (same_tree file t is.describes.tree has is.describes.has_tree) broken)
  crossbar_unbroken name x _ is (BreaksCrossbarFile.misnamed {f} t has broken) =
      let same : t ≡ is.describes.tree = same_tree file t is.describes.tree has is.describes.has_tree in
      not_misnamed name x.name is.describes.tree f (crossbar_name x is.describes.tree is.describes.is) is.named (subst (λ u. IsMisnamed name u f) same broken)

  pub crossbar_once : (name : List ℕ) (a b : XbarDesc) → DescribesCrossbar name file a → DescribesCrossbar name file b → a ≡ b
  crossbar_once name a b is also =
      is.describes.is ∙ (ap (crossbar_of file.number) (same_tree file is.describes.tree also.describes.tree is.describes.has_tree also.describes.has_tree) ∙ sym also.describes.is)

  -- a block
  block_name : (laid : LaidBlock) (t : Tree) → laid.desc ≡ block_of file.number t → laid.desc.name ≡ unwrap_or (name_at t) []
  unfolding block_of
  block_name laid t is = ap (λ (d : BlockDesc). d.name) is

  pub block_unbroken : (kind : List ℕ) (tree : Tree) (laid : LaidBlock) (f : Finding) → DescribesBlock kind file tree laid → BreaksBlockFile kind file f → ⊥
  block_unbroken kind tree laid _ is (BreaksBlockFile.of_file {f} broken) = unbroken file tree f is.has_tree broken
  block_unbroken kind tree laid _ is (BreaksBlockFile.layout {f} t has broken) =
      laid_unbroken file.number tree laid f is.laid_out (subst (λ u. BreaksLayout file.number u f) (same_tree file t tree has is.has_tree) broken)
  block_unbroken kind tree laid _ is (BreaksBlockFile.misnamed {f} t has broken) =
      not_misnamed kind laid.desc.name tree f (block_name laid tree is.laid_out.is_laid.description) is.named (subst (λ u. IsMisnamed kind u f) (same_tree file t tree has is.has_tree) broken)

  pub block_once : (kind : List ℕ) (t u : Tree) (a b : LaidBlock) → DescribesBlock kind file t a → DescribesBlock kind file u b → a ≡ b
  block_once kind t u a b is also =
      let same : u ≡ t = same_tree file u t also.has_tree is.has_tree in
      one_layout file.number t a b is.laid_out (subst (λ x. IsLaidOutAs file.number x b) same also.laid_out)

-- ---- all files

module _ (files : List File) where
  same_first : (a b : TopDesc) (s t : List (List ℕ)) (one : IsTop files a s) (other : IsTop files b t) → a ≡ b
  same_first a b s t one other =
      let same : one.file ≡ other.file = same_item files 0 one.file other.file one.first other.first in
      top_once other.file one.tree other.tree a b (subst (λ x. DescribesTop x one.tree a) same one.describes) other.describes

  -- the top is one, with its types
  pub one_top : (a b : TopDesc) (s t : List (List ℕ)) → IsTop files a s → IsTop files b t → (a ≡ b) × (s ≡ t)
  one_top a b s t one other =
      let same : a ≡ b = same_first a b s t one other in
      let types : s ≡ t = types_one a.insts s one.are_types ∙ (ap (λ (d : TopDesc). types_of d.insts) same ∙ sym (types_one b.insts t other.are_types)) in
      (same, types)

  module _ (a b : Design) (one : AreDesign files a) (other : AreDesign files b) where
    abbrev Same : Type 0
    Same = (a.top ≡ b.top) × (one.types ≡ other.types)

    same_tops : Same
    same_tops = one_top a.top b.top one.types other.types one.top other.top

    same_crossbar : (x : ℕ) (c d : XbarDesc) → CrossbarIs a x c → CrossbarIs b x d → c ≡ d
    same_crossbar x c d here there =
        let within = slice_get_within a.xbars x c here in
        let count = one.count in
        let listed_count = one.crossbar_count in
        let listed = item_at a.top.xbars x (omega arith) in
        let file = item_at files (1 + x) (omega arith) in
        let also : slice_get b.top.xbars x ≡ Some listed.0 = subst (λ (t : TopDesc). slice_get t.xbars x ≡ Some listed.0) same_tops.0 listed.1 in
        crossbar_once file.0 (listed.0).name c d (one.crossbars x listed.0 file.0 c (record { listed_is = listed.1; is = file.1 }) here)
        (other.crossbars x listed.0 file.0 d (record { listed_is = also; is = file.1 }) there)

    same_block : (k : ℕ) (c d : LaidBlock) → slice_get a.blocks k ≡ Some c → slice_get b.blocks k ≡ Some d → c ≡ d
    same_block k c d here there =
        let within = slice_get_within a.blocks k c here in
        let count = one.count in
        let type_count = one.block_count in
        let kind = item_at one.types k (omega arith) in
        let file = item_at files (1 + length a.top.xbars + k) (omega arith) in
        let kind_also : slice_get other.types k ≡ Some kind.0 = subst (λ ts. slice_get ts k ≡ Some kind.0) same_tops.1 kind.1 in
        let file_also : FileIs files (1 + length b.top.xbars + k) file.0 = subst (λ (t : TopDesc). FileIs files (1 + length t.xbars + k) file.0) same_tops.0 file.1 in
        let first = one.blocks k kind.0 file.0 c (record { kind_is = kind.1; is = file.1 }) here in
        let second = other.blocks k kind.0 file.0 d (record { kind_is = kind_also; is = file_also }) there in
        block_once file.0 kind.0 first.0 second.0 c d first.1 second.1

    -- the design is one
    pub one_design : a ≡ b
    one_design =
        let tops : a.top ≡ b.top = same_tops.0 in
        let listed : length a.top.xbars ≡ length b.top.xbars = ap (λ (t : TopDesc). length t.xbars) tops in
        let typed : length one.types ≡ length other.types = ap length same_tops.1 in
        let xbars : a.xbars ≡ b.xbars = same_list a.xbars b.xbars (one.crossbar_count ∙ (listed ∙ sym other.crossbar_count)) same_crossbar in
        let blocks : a.blocks ≡ b.blocks = same_list a.blocks b.blocks (one.block_count ∙ (typed ∙ sym other.block_count)) same_block in
        (λ i. record { top = tops i; xbars = xbars i; blocks = blocks i })

  -- and merged in one way
  pub one_merged : (a b : MergedTop) → AreMerged files a → AreMerged files b → a ≡ b
  one_merged a b one other = merged_once a b one.merged other.merged (one_design (design_of a) (design_of b) one.design other.design)
