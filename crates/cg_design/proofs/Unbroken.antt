-- Files that are merged, and whose ranges are apart, break nothing up to there.
use Rattle.std.proofs.Common.{◌≡◌, ℕ, ◌<◌, List, length, refl, sym, ap, subst, ◌∙◌, arith}
use Rattle.std.specs.List.{slice_get}
use Rattle.std.proofs.lemmas.Option.{slice_get_within}
use Rattle.cg_desc.specs.Merged.{design_of}
use Rattle.cg_desc.specs.Top.{Design}
use Rattle.cg_desc.specs.declared.fault.Fault.{Fault}
use Rattle.cg_desc.specs.declared.top.MergedTop.{MergedTop}
use Rattle.cg_desc.specs.declared.top.TopDesc.{TopDesc}
use Rattle.cg_desc.specs.declared.top.XbarUse.{XbarUse}
use Rattle.cg_desc.proofs.Numbered.{item_at, same_item}
use Rattle.cg_files.specs.Files.{File}
use Rattle.cg_finding.specs.Finding.{Finding}
use Rattle.cg_merge.specs.Violations.{Violates as BreaksMerge}
use Rattle.cg_space.specs.Violations.{NoViolation, Violates as BreaksSpace}
use Rattle.cg_design.specs.Breaks.{BreaksBlockFile, BreaksCrossbarFile, BreaksTopFile, DescribesTop}
use Rattle.cg_design.specs.Design.{AreMerged, IsTop}
use Rattle.cg_design.specs.Files.{FileIs, IsBlockFile, IsCrossbarFile}
use Rattle.cg_design.specs.Laws.{MergedBreaksNothing}
use Rattle.cg_design.specs.Violations.{Violates, block_file, crossbar_file, merging, ranges, top_file}
use Rattle.cg_design.proofs.Once.{block_unbroken, crossbar_unbroken, one_design, one_merged, one_top, top_unbroken}

module _ (files : List File) (m : MergedTop) (is : AreMerged files m) where
  own_sound : (file : File) (f : Finding) → FileIs files 0 file → BreaksTopFile file f → ⊥
  own_sound file f at broken =
      let top = is.design.top in
      top_unbroken file top.tree (design_of m).top f (subst (λ x. DescribesTop x top.tree (design_of m).top) (same_item files 0 top.file file top.first at) top.describes) broken

  crossbar_sound : (top : TopDesc) (types : List (List ℕ)) (x : ℕ) (listed : XbarUse) (file : File) (f : Finding) → IsTop files top types → IsCrossbarFile files top x listed file
      → BreaksCrossbarFile listed.name file f → ⊥
  crossbar_sound top types x listed file f is_top at broken =
      let same = one_top files top (design_of m).top types is.design.types is_top is.design.top in
      let mine : IsCrossbarFile files (design_of m).top x listed file = subst (λ t. IsCrossbarFile files t x listed file) same.0 at in
      let within = slice_get_within (design_of m).top.xbars x listed mine.listed_is in
      let count = is.design.crossbar_count in
      let xbar = item_at (design_of m).xbars x (omega (arith, within, count)) in
      crossbar_unbroken file listed.name xbar.0 f (is.design.crossbars x listed file xbar.0 mine xbar.1) broken

  block_sound : (top : TopDesc) (types : List (List ℕ)) (k : ℕ) (kind : List ℕ) (file : File) (f : Finding) → IsTop files top types → IsBlockFile files top types k kind file → BreaksBlockFile kind file f → ⊥
  block_sound top types k kind file f is_top at broken =
      let same = one_top files top (design_of m).top types is.design.types is_top is.design.top in
      let mine : IsBlockFile files (design_of m).top is.design.types k kind file =
      subst (λ ts. IsBlockFile files (design_of m).top ts k kind file) same.1 (subst (λ t. IsBlockFile files t types k kind file) same.0 at) in
      let within = slice_get_within is.design.types k kind mine.kind_is in
      let count = is.design.block_count in
      let laid = item_at (design_of m).blocks k (omega (arith, within, count)) in
      let described = is.design.blocks k kind file laid.0 mine laid.1 in
      block_unbroken file kind described.0 laid.0 f described.1 broken

pub merged_breaks_nothing : MergedBreaksNothing
merged_breaks_nothing files m is spaced _ (top_file file f at broken) = own_sound files m is file f at broken
merged_breaks_nothing files m is spaced _ (crossbar_file top types x listed file f is_top at broken) = crossbar_sound files m is top types x listed file f is_top at broken
merged_breaks_nothing files m is spaced _ (block_file top types k kind file f is_top at broken) = block_sound files m is top types k kind file f is_top at broken
merged_breaks_nothing files m is spaced _ (merging d fault design broken) =
    is.fit fault (subst (λ x. BreaksMerge x fault) (one_design files d (design_of m) design is.design) broken)
merged_breaks_nothing files m is spaced _ (ranges n fault also broken) =
    spaced fault (subst (λ x. BreaksSpace x fault) (one_merged files n m also is) broken)
