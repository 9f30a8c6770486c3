-- One item more of a list of valid ones.
use Rattle.std.proofs.Common.{◌++◌, List, [], ◌∷◌}
use Rattle.cg_svspec.specs.Printable.{AllOf}
use Rattle.cg_svspec.proofs.Parts.{all_join}
use Rattle.cg_desc.specs.Crossbar.{IsValidCrossbar}
use Rattle.cg_desc.specs.Merged.{IsValidLaidBlock}
use Rattle.cg_desc.specs.declared.block.LaidBlock.{LaidBlock}
use Rattle.cg_desc.specs.declared.crossbar.XbarDesc.{XbarDesc}

-- one valid crossbar more
pub crossbar_more : (xs : List XbarDesc) (x : XbarDesc) → AllOf IsValidCrossbar xs → IsValidCrossbar x → AllOf IsValidCrossbar (xs ++ x ∷ [])
crossbar_more xs x all valid = all_join IsValidCrossbar xs (x ∷ []) all (valid, tt)

-- one valid block more
pub block_more : (xs : List LaidBlock) (x : LaidBlock) → AllOf IsValidLaidBlock xs → IsValidLaidBlock x → AllOf IsValidLaidBlock (xs ++ x ∷ [])
block_more xs x all valid = all_join IsValidLaidBlock xs (x ∷ []) all (valid, tt)
