-- The files of crossbars and those of blocks, read one row after the other.
use Rattle.std.proofs.Common.{◌≡◌, ℕ, ◌+◌, List, length, map, option_map, take, drop, Bor, Option, Some, None, inl, inr, refl, sym, ap, subst, ◌∙◌}
use Rattle.std.proofs.lemmas.List.{drop-map, take-map}
use Rattle.cg_desc.specs.declared.crossbar.XbarDesc.{XbarDesc}
use Rattle.cg_desc.specs.declared.fault.Fault.{Fault}
use Rattle.cg_desc.specs.declared.top.XbarUse.{XbarUse}
use Rattle.cg_finding.specs.Violations.{IsFirstFault}
use Rattle.cg_merge.specs.Faults.{KeepsEarlier, TellsFault}
use Rattle.cg_merge.proofs.FirstFaults.{tells_both}
use Rattle.cg_design.specs.Breaks.{BreaksBlockFile}
use Rattle.cg_design.specs.Files.{files_from}
use Rattle.cg_design.specs.Inner.Reading.{AreBlocksRead, AreCrossbarsRead, AreDescribed, BreaksBelow, BreaksListed, BreaksOther, DescribesListed, DescribesTyped, block_files, crossbar_files, sizes}
use Rattle.cg_design.specs.declared.block.BlockSource.{BlockSource}
use Rattle.cg_design.specs.declared.reading.Reading.{Reading}

-- where nothing is kept there is nothing
kept_none : (a b kept : Option Fault) → KeepsEarlier a b kept → kept ≡ None → (a ≡ None) × (b ≡ None)
kept_none None b kept is none = (refl, sym is ∙ none)
kept_none (Some f) None kept is none = let e : Some f ≡ None = sym is ∙ none in absurd cc
kept_none (Some f) (Some g) kept keeps none = elim keeps [
  | inl (before, is) ↦ (let e : Some g ≡ None = sym is ∙ none in absurd cc)
  | inr (later, is) ↦ (let e : Some f ≡ None = sym is ∙ none in absurd cc)
]

module _ (listed : List XbarUse) (types : List (List ℕ)) (before : ℕ) (given front back : List (Option (Bor (List ℕ)))) (front_is : front ≡ take (length listed) given)
    (back_is : back ≡ drop (length listed) given) (crossbars : Reading XbarDesc) (blocks : Reading BlockSource) where
  abbrev Given : List (Option (List ℕ))
  Given = map (option_map (λ (b : Bor (List ℕ)). b.now)) given

  abbrev Front : List (Option (List ℕ))
  Front = map (option_map (λ (b : Bor (List ℕ)). b.now)) front

  abbrev Back : List (Option (List ℕ))
  Back = map (option_map (λ (b : Bor (List ℕ)). b.now)) back

  in_front : Front ≡ take (length listed) Given
  in_front = ap (map (option_map (λ (b : Bor (List ℕ)). b.now))) front_is ∙ sym (take-map (option_map (λ (b : Bor (List ℕ)). b.now)) (length listed) given)

  in_back : Back ≡ drop (length listed) Given
  in_back = ap (map (option_map (λ (b : Bor (List ℕ)). b.now))) back_is ∙ sym (drop-map (option_map (λ (b : Bor (List ℕ)). b.now)) (length listed) given)

  crossbars_are : files_from 1 before Front ≡ crossbar_files (length listed) before Given
  crossbars_are = ap (files_from 1 before) in_front

  blocks_are : files_from (1 + length listed) (before + sizes Front) Back ≡ block_files (length listed) before Given
  blocks_are = (λ i. files_from (1 + length listed) (before + sizes (in_front i)) (in_back i))

  module _ (read : AreCrossbarsRead listed (files_from 1 before Front) (length listed) crossbars)
      (also : AreBlocksRead types (files_from (1 + length listed) (before + sizes Front) Back) (length types) blocks) where
    crossbars_read : AreCrossbarsRead listed (crossbar_files (length listed) before Given) (length listed) crossbars
    crossbars_read = subst (λ fs. AreCrossbarsRead listed fs (length listed) crossbars) crossbars_are read

    blocks_read : AreBlocksRead types (block_files (length listed) before Given) (length types) blocks
    blocks_read = subst (λ fs. AreBlocksRead types fs (length types) blocks) blocks_are also

    -- the first that either breaks
    others_told : (kept : Option Fault) → KeepsEarlier crossbars.first blocks.first kept
        → TellsFault kept (BreaksOther listed types (crossbar_files (length listed) before Given) (block_files (length listed) before Given))
    others_told kept keeps =
        tells_both (BreaksBelow BreaksListed listed (crossbar_files (length listed) before Given) (length listed))
        (BreaksBelow BreaksBlockFile types (block_files (length listed) before Given) (length types)) crossbars.first blocks.first kept keeps crossbars_read.told blocks_read.told

    pub others_refused : (fault : Fault) → KeepsEarlier crossbars.first blocks.first (Some fault)
        → IsFirstFault (BreaksOther listed types (crossbar_files (length listed) before Given) (block_files (length listed) before Given)) fault
    others_refused fault keeps = others_told (Some fault) keeps

    -- or what both describe
    pub others_found : KeepsEarlier crossbars.first blocks.first None
        → AreDescribed DescribesListed listed (crossbar_files (length listed) before Given) (length listed) crossbars.found
        × AreDescribed DescribesTyped types (block_files (length listed) before Given) (length types) blocks.found
    others_found keeps =
        let none = kept_none crossbars.first blocks.first None keeps refl in
        (crossbars_read.described none.0, blocks_read.described none.1)
