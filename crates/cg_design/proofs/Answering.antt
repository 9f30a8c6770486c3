-- What is answered of all files of a top together, step by step.
use Rattle.std.proofs.Common.{◌≡◌, ℕ, ◌+◌, ◌≤◌, List, ◌∷◌, ◌++◌, length, map, take, drop, Option, Some, Ok, Err, sym, ap, subst, ◌∙◌, arith}
use Rattle.std.specs.List.{slice_get}
use Rattle.std.proofs.lemmas.List.{length-drop, length-map, length-take, take-append-drop}
use Rattle.std.proofs.lemmas.Option.{slice_get_within}
use Rattle.cg_svspec.specs.Printable.{AllOf}
use Rattle.cg_desc.specs.Crossbar.{IsValidCrossbar}
use Rattle.cg_desc.specs.Merged.{IsValidLaidBlock}
use Rattle.cg_desc.specs.Top.{AreItsFiles, AreTypes, Design}
use Rattle.cg_desc.specs.declared.block.LaidBlock.{LaidBlock}
use Rattle.cg_desc.specs.declared.crossbar.XbarDesc.{XbarDesc}
use Rattle.cg_desc.specs.declared.fault.DescFault.{DescFault}
use Rattle.cg_desc.specs.declared.fault.DescFault.TheVariants as refusal
use Rattle.cg_desc.specs.declared.top.MergedTop.{MergedTop}
use Rattle.cg_desc.specs.declared.top.TopDesc.{TopDesc}
use Rattle.cg_desc.specs.declared.top.XbarUse.{XbarUse}
use Rattle.cg_desc.proofs.Numbered.{image_at, image_of, item_at}
use Rattle.cg_files.specs.Files.{File}
use Rattle.cg_hjson.specs.declared.tree.Tree.{Tree}
use Rattle.cg_merge.specs.Merges.{IsMergeOf, Merges as MergesDesign}
use Rattle.cg_merge.proofs.OneMerge.{same_list}
use Rattle.cg_space.specs.Answers.{Answers}
use Rattle.cg_space.specs.Violations.{NoViolation}
use Rattle.cg_design.specs.Breaks.{DescribesTop}
use Rattle.cg_design.specs.Design.{AreTrees}
use Rattle.cg_design.specs.Files.{files_from, given_file, numbered, size_of}
use Rattle.cg_design.specs.Inner.Reading.{AreDescribed, DescribesListed, DescribesTyped, ReadsOthers, block_files, crossbar_files, sizes}
use Rattle.cg_design.specs.Violations.{Merges}
use Rattle.cg_design.specs.declared.block.BlockSource.{BlockSource}
use Rattle.cg_design.specs.declared.together.DesignSource.{DesignSource}
use Rattle.cg_design.proofs.Rows.{all_from, count_files, files_append}
use Rattle.cg_design.proofs.Whole.{AreFiles, are_trees, is_design, is_source, merging_first, others_first, ranges_first}

-- ---- the files

module _ (top : TopDesc) (types : List (List ℕ)) (size : ℕ) (given : List (Option (List ℕ))) (many : length given ≡ length top.xbars + length types) where
  -- how many are of crossbars, and how many of blocks
  pub count_crossbars : length (crossbar_files (length top.xbars) size given) ≡ length top.xbars
  count_crossbars =
      let front : length (take (length top.xbars) given) ≡ length top.xbars = omega (arith, length-take (length top.xbars) given) in
      count_files 1 size (take (length top.xbars) given) ∙ front

  pub count_blocks : length (block_files (length top.xbars) size given) ≡ length types
  count_blocks =
      let back : length (drop (length top.xbars) given) ≡ length types = omega (arith, length-drop (length top.xbars) given) in
      count_files (1 + length top.xbars) (size + sizes (take (length top.xbars) given)) (drop (length top.xbars) given) ∙ back

module _ (own : Option (List ℕ)) (tree : Tree) (top : TopDesc) (types : List (List ℕ)) (size : ℕ) (given : List (Option (List ℕ))) where
  -- the files behind the top's own are in two parts
  two_parts : size_of own ≡ size → length top.xbars ≤ length given
      → numbered (own ∷ given) ≡ given_file 0 0 own ∷ (crossbar_files (length top.xbars) size given ++ block_files (length top.xbars) size given)
  two_parts count many =
      let before : 0 + size_of own ≡ size = omega arith in
      let front : length (take (length top.xbars) given) ≡ length top.xbars = omega (arith, length-take (length top.xbars) given) in
      let parts : given ≡ take (length top.xbars) given ++ drop (length top.xbars) given = sym (take-append-drop (length top.xbars) given) in
      ap (λ fs. given_file 0 0 own ∷ fs)
      ((λ i. files_from 1 (before i) (parts i))
      ∙ (files_append 1 size (take (length top.xbars) given) (drop (length top.xbars) given)
      ∙ (λ i. crossbar_files (length top.xbars) size given ++ files_from (1 + front i) (size + sizes (take (length top.xbars) given)) (drop (length top.xbars) given))))

  pub are_files : DescribesTop (given_file 0 0 own) tree top → AreTypes top.insts types → size_of own ≡ size → length given ≡ length top.xbars + length types
      → AreFiles (numbered (own ∷ given)) (given_file 0 0 own) tree top types (crossbar_files (length top.xbars) size given) (block_files (length top.xbars) size given)
  are_files describes are_types count many = record {
    are = two_parts count (omega arith);
    describes = describes;
    are_types = are_types;
    crossbar_count = count_crossbars top types size given many;
    block_count = count_blocks top types size given many;
  }

-- ---- what the other files describe can be merged

module _ (top : TopDesc) (types : List (List ℕ)) (crossbars blocks : List File) (crossbar_count : length crossbars ≡ length top.xbars) (block_count : length blocks ≡ length types)
    (xs : List XbarDesc) (bs : List BlockSource) (described : AreDescribed DescribesListed top.xbars crossbars (length top.xbars) xs)
    (laid_out : AreDescribed DescribesTyped types blocks (length types) bs) where
  abbrev Laids : List LaidBlock
  Laids = map (λ (s : BlockSource). s.laid) bs

  crossbar_described : (i : ℕ) (x : XbarDesc) → slice_get xs i ≡ Some x → (u : XbarUse) × (slice_get top.xbars i ≡ Some u) × (x.name ≡ u.name) × IsValidCrossbar x
  crossbar_described i x there =
      let within = slice_get_within xs i x there in
      let count = described.count in
      let listed = item_at top.xbars i (omega arith) in
      let file = item_at crossbars i (omega arith) in
      let is = described.each i listed.0 file.0 x listed.1 file.1 there in
      (listed.0, listed.1, is.0.named, is.1)

  block_laid : (i : ℕ) (s : BlockSource) → slice_get bs i ≡ Some s → (slice_get types i ≡ Some s.laid.desc.name) × IsValidLaidBlock s.laid
  block_laid i s there =
      let within = slice_get_within bs i s there in
      let count = laid_out.count in
      let kind = item_at types i (omega arith) in
      let file = item_at blocks i (omega arith) in
      let is = laid_out.each i kind.0 file.0 s kind.1 file.1 there in
      (kind.1 ∙ ap Some (sym is.0.named), is.1)

  crossbar_names : map (λ (x : XbarDesc). x.name) xs ≡ map (λ (u : XbarUse). u.name) top.xbars
  crossbar_names =
      same_list (map (λ (x : XbarDesc). x.name) xs) (map (λ (u : XbarUse). u.name) top.xbars)
      (length-map xs (λ (x : XbarDesc). x.name) ∙ (described.count ∙ sym (length-map top.xbars (λ (u : XbarUse). u.name)))) each where
        each : (i : ℕ) (a b : List ℕ) → slice_get (map (λ (x : XbarDesc). x.name) xs) i ≡ Some a → slice_get (map (λ (u : XbarUse). u.name) top.xbars) i ≡ Some b → a ≡ b
        each i a b here there =
            let x = image_of (λ (x : XbarDesc). x.name) xs i a here in
            let is = crossbar_described i x.0 x.1 in
            let name : Some (is.0).name ≡ Some b = sym (image_at (λ (u : XbarUse). u.name) top.xbars i is.0 is.1) ∙ there in
            let same : (is.0).name ≡ b = cc in
            sym x.2 ∙ (is.2 ∙ same)

  block_names : types ≡ map (λ (l : LaidBlock). l.desc.name) Laids
  block_names =
      same_list types (map (λ (l : LaidBlock). l.desc.name) Laids)
      (sym laid_out.count ∙ (sym (length-map bs (λ (s : BlockSource). s.laid)) ∙ sym (length-map Laids (λ (l : LaidBlock). l.desc.name)))) each where
        each : (i : ℕ) (a b : List ℕ) → slice_get types i ≡ Some a → slice_get (map (λ (l : LaidBlock). l.desc.name) Laids) i ≡ Some b → a ≡ b
        each i a b here there =
            let laid = image_of (λ (l : LaidBlock). l.desc.name) Laids i b there in
            let source = image_of (λ (s : BlockSource). s.laid) bs i laid.0 laid.1 in
            let is = block_laid i source.0 source.1 in
            let kind : Some a ≡ Some (source.0).laid.desc.name = sym here ∙ is.0 in
            let same : a ≡ (source.0).laid.desc.name = cc in
            same ∙ (ap (λ (l : LaidBlock). l.desc.name) source.2 ∙ laid.2)

  pub are_its_files : AreTypes top.insts types → AreItsFiles (record { top = top; xbars = xs; blocks = Laids })
  are_its_files are_types = record { crossbars = crossbar_names; blocks = subst (AreTypes top.insts) block_names are_types }

  pub valid_crossbars : AllOf IsValidCrossbar xs
  valid_crossbars = all_from IsValidCrossbar xs (λ i x there. (crossbar_described i x there).3)

  pub valid_blocks : AllOf IsValidLaidBlock Laids
  valid_blocks =
      all_from IsValidLaidBlock Laids
      (λ i l there. let source = image_of (λ (s : BlockSource). s.laid) bs i l there in subst IsValidLaidBlock source.2 (block_laid i source.0 source.1).1)

-- ---- the answers

module _ (files : List File) (own : File) (tree : Tree) (top : TopDesc) (types : List (List ℕ)) (crossbars blocks : List File) (are : AreFiles files own tree top types crossbars blocks) where
  -- a file breaks something by itself
  pub refused_by_file : (e : DescFault) → ReadsOthers (Err e) top.xbars types crossbars blocks → Merges (Err e) files
  refused_by_file (refusal.Fault fault) first = others_first files own tree top types crossbars blocks are fault first
  refused_by_file refusal.Memory first = tt

  module _ (xs : List XbarDesc) (bs : List BlockSource) (described : AreDescribed DescribesListed top.xbars crossbars (length top.xbars) xs)
      (laid_out : AreDescribed DescribesTyped types blocks (length types) bs) where
    abbrev Whole : Design
    Whole = record { top = top; xbars = xs; blocks = map (λ (s : BlockSource). s.laid) bs }

    -- all of them together do
    pub refused_by_merge : (e : DescFault) → MergesDesign (Err e) Whole → Merges (Err e) files
    refused_by_merge (refusal.Fault fault) first =
        merging_first files own tree top types crossbars blocks are Whole (is_design files own tree top types crossbars blocks are xs bs described laid_out) fault first
    refused_by_merge refusal.Memory first = tt

    -- their ranges do
    pub refused_by_ranges : (m : MergedTop) (e : DescFault) → IsMergeOf Whole m → Answers {X = Unit {0}} (Err e) m (λ _. Unit {0}) → Merges (Err e) files
    refused_by_ranges m (refusal.Fault fault) is first =
        ranges_first files own tree top types crossbars blocks are Whole (is_design files own tree top types crossbars blocks are xs bs described laid_out) m is fault first
    refused_by_ranges m refusal.Memory is first = tt

    -- or nothing
    pub merges : (m : MergedTop) (source : DesignSource) → IsMergeOf Whole m → NoViolation m → source.merged ≡ m → source.tree ≡ tree → source.blocks ≡ map (λ (s : BlockSource). s.tree) bs
        → Merges (Ok source) files
    merges m source is none same same_tree same_blocks =
        is_source files own tree top types crossbars blocks are Whole (is_design files own tree top types crossbars blocks are xs bs described laid_out) m is source same
        (subst (λ ts. AreTrees files m source.tree ts) (sym same_blocks)
        (subst (λ t. AreTrees files m t (map (λ (s : BlockSource). s.tree) bs)) (sym same_tree)
        (are_trees files own tree top types crossbars blocks are xs bs described laid_out m is.files))) none
