-- The top, its crossbars and its blocks have the numbers of their files, in the order of the files.
use Rattle.std.proofs.Common.{◌≡◌, ℕ, zero, suc, ◌+◌, ◌<◌, List, [], ◌∷◌, length, Option, Some, refl, sym, ap, ◌∙◌, arith}
use Rattle.std.specs.List.{slice_get}
use Rattle.std.proofs.lemmas.Option.{slice_get_within}
use Rattle.cg_desc.proofs.Numbered.{item_at}
use Rattle.cg_desc.specs.Merged.{design_of}
use Rattle.cg_desc.specs.declared.block.BlockDesc.{BlockDesc}
use Rattle.cg_desc.specs.declared.block.LaidBlock.{LaidBlock}
use Rattle.cg_desc.specs.declared.crossbar.XbarDesc.{XbarDesc}
use Rattle.cg_desc.specs.declared.top.MergedTop.{MergedTop}
use Rattle.cg_desc.specs.declared.top.TopDesc.{TopDesc}
use Rattle.cg_desc.specs.declared.top.XbarUse.{XbarUse}
use Rattle.cg_files.specs.Files.{File}
use Rattle.cg_hjson.specs.declared.tree.Tree.{Tree}
use Rattle.cg_topread.specs.Described.{top_of}
use Rattle.cg_xbread.specs.Described.{crossbar_of}
use Rattle.cg_blkread.specs.Described.{block_of}
use Rattle.cg_design.specs.Breaks.{DescribesBlock, DescribesCrossbar}
use Rattle.cg_design.specs.Design.{AreMerged}
use Rattle.cg_design.specs.Files.{FileIs, files_from, given_file, numbered, size_of}

-- the files from a number on have the numbers from there on
numbered_from : (number before : ℕ) (gs : List (Option (List ℕ))) (n : ℕ) (file : File) → slice_get (files_from number before gs) n ≡ Some file → file.number ≡ number + n
numbered_from number before [] n file is = cc
numbered_from number before (g ∷ gs) zero file is =
    let same : file ≡ given_file number before g = cc in
    let e : file.number ≡ number = ap (λ (f : File). f.number) same in
    omega (arith, e)
numbered_from number before (g ∷ gs) (suc n) file is = let e = numbered_from (suc number) (before + size_of g) gs n file is in omega (arith, e)

pub number_is : (given : List (Option (List ℕ))) (n : ℕ) (file : File) → FileIs (numbered given) n file → file.number ≡ n
number_is given n file is = let e = numbered_from 0 0 given n file is in omega (arith, e)

-- what a file describes has its number
crossbar_numbered : (name : List ℕ) (file : File) (xbar : XbarDesc) → DescribesCrossbar name file xbar → xbar.file ≡ file.number
unfolding crossbar_of
crossbar_numbered name file xbar describes = ap (λ (d : XbarDesc). d.file) describes.describes.is

block_numbered : (kind : List ℕ) (file : File) (tree : Tree) (laid : LaidBlock) → DescribesBlock kind file tree laid → laid.desc.file ≡ file.number
unfolding block_of
block_numbered kind file tree laid describes = ap (λ (d : BlockDesc). d.file) describes.laid_out.is_laid.description

module _ (given : List (Option (List ℕ))) (m : MergedTop) (are : AreMerged (numbered given) m) where
  -- the top's file is the first
  pub top_place : m.top.file ≡ 0
  unfolding top_of
  top_place = ap (λ (t : TopDesc). t.file) are.design.top.describes.is ∙ number_is given 0 are.design.top.file are.design.top.first

  -- those of the crossbars follow
  pub crossbar_place : (x : ℕ) (xbar : XbarDesc) → slice_get m.xbars x ≡ Some xbar → xbar.file ≡ 1 + x
  crossbar_place x xbar is =
      let within = slice_get_within m.xbars x xbar is in
      let same : length m.xbars ≡ length m.top.xbars = are.design.crossbar_count in
      let count : length (numbered given) ≡ 1 + length m.top.xbars + length are.design.types = are.design.count in
      let there : x < length m.top.xbars = omega (arith, within, same) in
      let inside : 1 + x < length (numbered given) = omega (arith, there, count) in
      crossbar_at x xbar is (item_at m.top.xbars x there) (item_at (numbered given) (1 + x) inside)
    where
      crossbar_at : (x : ℕ) (xbar : XbarDesc) → slice_get m.xbars x ≡ Some xbar → (u : XbarUse) × (slice_get m.top.xbars x ≡ Some u) → (file : File) × FileIs (numbered given) (1 + x) file
          → xbar.file ≡ 1 + x
      crossbar_at x xbar is (listed, listed_is) (file, file_is) =
          crossbar_numbered listed.name file xbar (are.design.crossbars x listed file xbar (record { listed_is = listed_is; is = file_is }) is) ∙ number_is given (1 + x) file file_is

  -- and then those of the blocks
  pub block_place : (k : ℕ) (laid : LaidBlock) → slice_get m.blocks k ≡ Some laid → laid.desc.file ≡ 1 + length m.xbars + k
  block_place k laid is =
      let within = slice_get_within m.blocks k laid is in
      let kinds : length m.blocks ≡ length are.design.types = are.design.block_count in
      let count : length (numbered given) ≡ 1 + length m.top.xbars + length are.design.types = are.design.count in
      let there : k < length are.design.types = omega (arith, within, kinds) in
      let inside : 1 + length m.top.xbars + k < length (numbered given) = omega (arith, there, count) in
      block_at k laid is (item_at are.design.types k there) (item_at (numbered given) (1 + length m.top.xbars + k) inside)
    where
      block_at : (k : ℕ) (laid : LaidBlock) → slice_get m.blocks k ≡ Some laid → (kind : List ℕ) × (slice_get are.design.types k ≡ Some kind)
          → (file : File) × FileIs (numbered given) (1 + length m.top.xbars + k) file → laid.desc.file ≡ 1 + length m.xbars + k
      block_at k laid is (kind, kind_is) (file, file_is) =
          let describes = are.design.blocks k kind file laid (record { kind_is = kind_is; is = file_is }) is in
          let number : file.number ≡ 1 + length m.top.xbars + k = number_is given (1 + length m.top.xbars + k) file file_is in
          let its : laid.desc.file ≡ file.number = block_numbered kind file describes.0 laid describes.1 in
          let same : length m.xbars ≡ length m.top.xbars = are.design.crossbar_count in
          omega (arith, its, number, same)
