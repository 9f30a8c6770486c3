-- What the files of a top break first, together: by themselves, then as they are merged, then in their ranges.
use Rattle.std.proofs.Common.{◌≡◌, ◌⊎◌, ℕ, suc, ◌+◌, ◌<◌, List, ◌∷◌, ◌++◌, length, map, Some, inl, inr, refl, sym, ap, subst, ◌∙◌, arith, length-append}
use Rattle.std.specs.List.{slice_get}
use Rattle.std.proofs.lemmas.List.{length-map}
use Rattle.std.proofs.lemmas.Option.{slice_get_within}
use Rattle.cg_desc.specs.Faults.{Before}
use Rattle.cg_desc.specs.Merged.{design_of}
use Rattle.cg_desc.specs.Top.{AreTypes, Design}
use Rattle.cg_desc.specs.declared.block.LaidBlock.{LaidBlock}
use Rattle.cg_desc.specs.declared.crossbar.XbarDesc.{XbarDesc}
use Rattle.cg_desc.specs.declared.fault.Fault.{Fault}
use Rattle.cg_desc.specs.declared.top.MergedTop.{MergedTop}
use Rattle.cg_desc.specs.declared.top.TopDesc.{TopDesc}
use Rattle.cg_desc.specs.declared.top.XbarUse.{XbarUse}
use Rattle.cg_desc.proofs.Numbered.{image_of, item_at, same_item}
use Rattle.cg_files.specs.Files.{File, HasTree}
use Rattle.cg_finding.specs.Finding.{Finding, in_file}
use Rattle.cg_finding.specs.Violations.{IsFirstFault}
use Rattle.cg_hjson.specs.declared.tree.Tree.{Tree}
use Rattle.cg_merge.specs.Merges.{IsMergeOf}
use Rattle.cg_merge.specs.Violations.{Violates as BreaksMerge}
use Rattle.cg_space.specs.Violations.{NoViolation, Violates as BreaksSpace}
use Rattle.cg_design.specs.Breaks.{BreaksBlockFile, BreaksCrossbarFile, BreaksTopFile, DescribesBlock, DescribesTop}
use Rattle.cg_design.specs.Design.{AreDesign, AreMerged, AreTrees, IsTop}
use Rattle.cg_design.specs.Files.{FileIs, IsBlockFile, IsCrossbarFile}
use Rattle.cg_design.specs.Inner.Reading.{AreDescribed, BreaksBelow, BreaksListed, BreaksOther, DescribesListed, DescribesTyped}
use Rattle.cg_design.specs.Violations.{IsSourceOf, Violates}
use Rattle.cg_design.specs.declared.block.BlockSource.{BlockSource}
use Rattle.cg_design.specs.declared.together.DesignSource.{DesignSource}
use Rattle.cg_design.proofs.Once.{block_unbroken, crossbar_unbroken, one_design, one_merged, one_top, top_unbroken}
use Rattle.cg_design.proofs.Rows.{at_behind, at_left, at_right}

-- the files of a top: its own, which describes it, and those of its crossbars and of its types
pub record AreFiles (files : List File) (own : File) (tree : Tree) (top : TopDesc) (types : List (List ℕ)) (crossbars blocks : List File) : Type 0 where
  pub are : files ≡ own ∷ (crossbars ++ blocks)
  pub describes : DescribesTop own tree top
  pub are_types : AreTypes top.insts types
  pub crossbar_count : length crossbars ≡ length top.xbars
  pub block_count : length blocks ≡ length types

module _ (files : List File) (own : File) (tree : Tree) (top : TopDesc) (types : List (List ℕ)) (crossbars blocks : List File) (are : AreFiles files own tree top types crossbars blocks) where
  -- ---- which file is whose

  own_is : FileIs files 0 own
  own_is = subst (λ fs. FileIs fs 0 own) (sym are.are) refl

  is_top : IsTop files top types
  is_top = record { file = own; first = own_is; tree = tree; describes = are.describes; are_types = are.are_types }

  all_count : length files ≡ 1 + length top.xbars + length types
  all_count =
      let c = are.crossbar_count in
      let b = are.block_count in
      let e : length files ≡ suc (length (crossbars ++ blocks)) = ap length are.are in
      let sum : length (crossbars ++ blocks) ≡ length crossbars + length blocks = length-append crossbars blocks in
      omega arith

  crossbar_at : (x : ℕ) → x < length top.xbars → slice_get files (1 + x) ≡ slice_get crossbars x
  crossbar_at x less =
      let c = are.crossbar_count in
      ap (λ (fs : List File). slice_get fs (1 + x)) are.are ∙ (at_behind own (crossbars ++ blocks) x ∙ at_left crossbars blocks x (omega arith))

  block_at : (k : ℕ) → slice_get files (1 + length top.xbars + k) ≡ slice_get blocks k
  block_at k =
      let place : 1 + length top.xbars + k ≡ 1 + (length crossbars + k) = let c = are.crossbar_count in omega arith in
      ap (λ (fs : List File). slice_get fs (1 + length top.xbars + k)) are.are
      ∙ (ap (slice_get (own ∷ (crossbars ++ blocks))) place ∙ (at_behind own (crossbars ++ blocks) (length crossbars + k) ∙ at_right crossbars blocks k))

  crossbar_file_of : (x : ℕ) (listed : XbarUse) (file : File) → slice_get top.xbars x ≡ Some listed → FileIs crossbars x file → IsCrossbarFile files top x listed file
  crossbar_file_of x listed file listed_is file_is =
      record { listed_is = listed_is; is = crossbar_at x (slice_get_within top.xbars x listed listed_is) ∙ file_is }

  of_crossbar_file : (x : ℕ) (listed : XbarUse) (file : File) → IsCrossbarFile files top x listed file → FileIs crossbars x file
  of_crossbar_file x listed file is = sym (crossbar_at x (slice_get_within top.xbars x listed is.listed_is)) ∙ is.is

  block_file_of : (k : ℕ) (kind : List ℕ) (file : File) → slice_get types k ≡ Some kind → FileIs blocks k file → IsBlockFile files top types k kind file
  block_file_of k kind file kind_is file_is = record { kind_is = kind_is; is = block_at k ∙ file_is }

  of_block_file : (k : ℕ) (kind : List ℕ) (file : File) → IsBlockFile files top types k kind file → FileIs blocks k file
  of_block_file k kind file is = sym (block_at k) ∙ is.is

  -- ---- what the files break by themselves

  own_unbroken : (file : File) (f : Finding) → FileIs files 0 file → BreaksTopFile file f → ⊥
  own_unbroken file f is broken = top_unbroken own tree top f are.describes (subst (λ x. BreaksTopFile x f) (same_item files 0 file own is own_is) broken)

  crossbar_broken : (other : TopDesc) (ts : List (List ℕ)) (x : ℕ) (listed : XbarUse) (file : File) (f : Finding) → IsTop files other ts → IsCrossbarFile files other x listed file
      → BreaksCrossbarFile listed.name file f → BreaksBelow BreaksListed top.xbars crossbars (length top.xbars) (in_file file.number f)
  crossbar_broken other ts x listed file f also is broken =
      let same : other ≡ top = (one_top files other top ts types also is_top).0 in
      let mine : IsCrossbarFile files top x listed file = subst (λ t. IsCrossbarFile files t x listed file) same is in
      record {
        number = x;
        below = slice_get_within top.xbars x listed mine.listed_is;
        kind = listed;
        kind_is = mine.listed_is;
        file = file;
        file_is = of_crossbar_file x listed file mine;
        finding = f;
        breaks = broken;
        is = refl;
      }

  block_broken : (other : TopDesc) (ts : List (List ℕ)) (k : ℕ) (kind : List ℕ) (file : File) (f : Finding) → IsTop files other ts → IsBlockFile files other ts k kind file
      → BreaksBlockFile kind file f → BreaksBelow BreaksBlockFile types blocks (length types) (in_file file.number f)
  block_broken other ts k kind file f also is broken =
      let same = one_top files other top ts types also is_top in
      let mine : IsBlockFile files top types k kind file =
      subst (λ us. IsBlockFile files top us k kind file) same.1 (subst (λ t. IsBlockFile files t ts k kind file) same.0 is) in
      record {
        number = k;
        below = slice_get_within types k kind mine.kind_is;
        kind = kind;
        kind_is = mine.kind_is;
        file = file;
        file_is = of_block_file k kind file mine;
        finding = f;
        breaks = broken;
        is = refl;
      }

  -- what a file breaks by itself, the files break
  broken_by_itself : (fault : Fault) → BreaksOther top.xbars types crossbars blocks fault → Violates files fault
  broken_by_itself fault (inl b) =
      subst (Violates files) (sym b.is) (Violates.crossbar_file top types b.number b.kind b.file b.finding is_top (crossbar_file_of b.number b.kind b.file b.kind_is b.file_is) b.breaks)
  broken_by_itself fault (inr b) =
      subst (Violates files) (sym b.is) (Violates.block_file top types b.number b.kind b.file b.finding is_top (block_file_of b.number b.kind b.file b.kind_is b.file_is) b.breaks)

  -- where each describes something, none breaks anything by itself
  design_unbroken : (d : Design) → AreDesign files d → (fault : Fault) → BreaksOther top.xbars types crossbars blocks fault → ⊥
  design_unbroken d design fault (inl b) =
      let same : d.top ≡ top = (one_top files d.top top design.types types design.top is_top).0 in
      let below = b.below in
      let listed : length d.top.xbars ≡ length top.xbars = ap (λ (t : TopDesc). length t.xbars) same in
      let count = design.crossbar_count in
      let xbar = item_at d.xbars b.number (omega arith) in
      let file : IsCrossbarFile files d.top b.number b.kind b.file =
      subst (λ t. IsCrossbarFile files t b.number b.kind b.file) (sym same) (crossbar_file_of b.number b.kind b.file b.kind_is b.file_is) in
      crossbar_unbroken b.file (b.kind).name xbar.0 b.finding (design.crossbars b.number b.kind b.file xbar.0 file xbar.1) b.breaks
  design_unbroken d design fault (inr b) =
      let same = one_top files d.top top design.types types design.top is_top in
      let below = b.below in
      let typed : length design.types ≡ length types = ap length same.1 in
      let count = design.block_count in
      let laid = item_at d.blocks b.number (omega arith) in
      let mine : IsBlockFile files top types b.number b.kind b.file = block_file_of b.number b.kind b.file b.kind_is b.file_is in
      let file : IsBlockFile files d.top design.types b.number b.kind b.file =
      subst (λ us. IsBlockFile files d.top us b.number b.kind b.file) (sym same.1) (subst (λ t. IsBlockFile files t types b.number b.kind b.file) (sym same.0) mine) in
      let described = design.blocks b.number b.kind b.file laid.0 file laid.1 in
      block_unbroken b.file b.kind described.0 laid.0 b.finding described.1 b.breaks

  -- the first that a file breaks by itself is the first of all
  pub others_first : (fault : Fault) → IsFirstFault (BreaksOther top.xbars types crossbars blocks) fault → IsFirstFault (Violates files) fault
  others_first fault first = record { violates = broken_by_itself fault first.violates; least = least } where
    least : (other : Fault) → Violates files other → ¬ Before other fault
    least _ (Violates.top_file file f is broken) = absurd (own_unbroken file f is broken)
    least _ (Violates.crossbar_file t ts x listed file f also is broken) = first.least (in_file file.number f) (inl (crossbar_broken t ts x listed file f also is broken))
    least _ (Violates.block_file t ts k kind file f also is broken) = first.least (in_file file.number f) (inr (block_broken t ts k kind file f also is broken))
    least other (Violates.merging d _ design broken) = absurd (design_unbroken d design fault first.violates)
    least other (Violates.ranges m _ merged broken) = absurd (design_unbroken (design_of m) merged.design fault first.violates)

  -- ---- what they break together

  -- where the files are a design, what they break they break as a design or in its ranges
  module _ (d : Design) (design : AreDesign files d) where
    abbrev Together : Fault → Type 0
    Together fault = BreaksMerge d fault ⊎ ((m : MergedTop) × AreMerged files m × BreaksSpace m fault)

    only_together : (fault : Fault) → Violates files fault → Together fault
    only_together _ (Violates.top_file file f is broken) = absurd (own_unbroken file f is broken)
    only_together _ (Violates.crossbar_file t ts x listed file f also is broken) =
        absurd (design_unbroken d design (in_file file.number f) (inl (crossbar_broken t ts x listed file f also is broken)))
    only_together _ (Violates.block_file t ts k kind file f also is broken) =
        absurd (design_unbroken d design (in_file file.number f) (inr (block_broken t ts k kind file f also is broken)))
    only_together fault (Violates.merging e _ also broken) = inl (subst (λ x. BreaksMerge x fault) (one_design files e d also design) broken)
    only_together fault (Violates.ranges m _ merged broken) = inr (m, merged, broken)

    -- the first that they break as they are merged
    pub merging_first : (fault : Fault) → IsFirstFault (BreaksMerge d) fault → IsFirstFault (Violates files) fault
    merging_first fault first = record { violates = Violates.merging d fault design first.violates; least = λ other broken. least other (only_together other broken) } where
      least : (other : Fault) → Together other → ¬ Before other fault
      least other (inl broken) = first.least other broken
      least other (inr (m, merged, broken)) =
          absurd (merged.fit fault (subst (λ x. BreaksMerge x fault) (one_design files d (design_of m) design merged.design) first.violates))

    module _ (m : MergedTop) (is : IsMergeOf d m) where
      are_merged : AreMerged files m
      are_merged = record {
        design = subst (AreDesign files) (sym is.files) design;
        fit = λ f broken. is.unbroken f (subst (λ x. BreaksMerge x f) is.files broken);
        merged = is.merged;
      }

      -- the first that they break in their ranges
      pub ranges_first : (fault : Fault) → IsFirstFault (BreaksSpace m) fault → IsFirstFault (Violates files) fault
      ranges_first fault first = record { violates = Violates.ranges m fault are_merged first.violates; least = λ other broken. least other (only_together other broken) } where
        least : (other : Fault) → Together other → ¬ Before other fault
        least other (inl broken) = absurd (is.unbroken other broken)
        least other (inr (n, merged, broken)) = first.least other (subst (λ x. BreaksSpace x other) (one_merged files n m merged are_merged) broken)

      -- or they break nothing
      pub no_violation : NoViolation m → (fault : Fault) → ¬ Violates files fault
      no_violation none fault broken = by (only_together fault broken) where
        by : Together fault → ⊥
        by (inl also) = is.unbroken fault also
        by (inr (n, merged, also)) = none fault (subst (λ x. BreaksSpace x fault) (one_merged files n m merged are_merged) also)

      -- and are the source
      pub is_source : (source : DesignSource) → source.merged ≡ m → AreTrees files m source.tree source.blocks → NoViolation m → IsSourceOf files source
      is_source source same trees none = record {
        merged = subst (AreMerged files) (sym same) are_merged;
        trees = subst (λ x. AreTrees files x source.tree source.blocks) (sym same) trees;
        unbroken = no_violation none;
      }

  -- ---- the design

  module _ (xs : List XbarDesc) (bs : List BlockSource) (described : AreDescribed DescribesListed top.xbars crossbars (length top.xbars) xs)
      (laid_out : AreDescribed DescribesTyped types blocks (length types) bs) where
    abbrev laids : List LaidBlock
    laids = map (λ (s : BlockSource). s.laid) bs

    abbrev whole : Design
    whole = record { top = top; xbars = xs; blocks = laids }

    block_described : (k : ℕ) (kind : List ℕ) (file : File) (laid : LaidBlock) → IsBlockFile files top types k kind file → slice_get laids k ≡ Some laid
        → (t : Tree) × DescribesBlock kind file t laid
    block_described k kind file laid is there =
        let one = image_of (λ (s : BlockSource). s.laid) bs k laid there in
        let mine = laid_out.each k kind file one.0 is.kind_is (of_block_file k kind file is) one.1 in
        ((one.0).tree, subst (λ l. DescribesBlock kind file (one.0).tree l) one.2 mine.0)

    pub is_design : AreDesign files whole
    is_design = record {
      types = types;
      top = is_top;
      count = all_count;
      crossbar_count = described.count;
      crossbars = λ x listed file xbar is there. (described.each x listed file xbar is.listed_is (of_crossbar_file x listed file is) there).0;
      block_count = length-map bs (λ (s : BlockSource). s.laid) ∙ laid_out.count;
      blocks = block_described;
    }

    -- the trees are those of the files
    pub are_trees : (m : MergedTop) → design_of m ≡ whole → AreTrees files m tree (map (λ (s : BlockSource). s.tree) bs)
    are_trees m same = record {
      own = own;
      own_is = own_is;
      has_tree = are.describes.has_tree;
      count = length-map bs (λ (s : BlockSource). s.tree) ∙ (sym (length-map bs (λ (s : BlockSource). s.laid)) ∙ sym (ap (λ (d : Design). length d.blocks) same));
      blocks = each;
    } where
      each : (k : ℕ) (file : File) (t : Tree) → FileIs files (1 + length m.xbars + k) file → slice_get (map (λ (s : BlockSource). s.tree) bs) k ≡ Some t → HasTree file t
      each k file t is there =
          let one = image_of (λ (s : BlockSource). s.tree) bs k t there in
          let within = slice_get_within bs k one.0 one.1 in
          let count = laid_out.count in
          let kind = item_at types k (omega arith) in
          let xbar_count : length m.xbars ≡ length top.xbars = ap (λ (d : Design). length d.xbars) same ∙ described.count in
          let file_is : FileIs blocks k file = sym (block_at k) ∙ subst (λ n. FileIs files (1 + n + k) file) xbar_count is in
          let mine = laid_out.each k kind.0 file one.0 kind.1 file_is one.1 in
          subst (HasTree file) one.2 mine.0.has_tree
