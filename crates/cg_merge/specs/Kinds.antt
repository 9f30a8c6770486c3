-- The number of a type's block.
use Rattle.std.specs.Prelude.{ℕ, List, position, unwrap_or}
use Rattle.std.specs.Str.{bytes_eq}
use Rattle.cg_desc.specs.declared.block.LaidBlock.{LaidBlock}

-- the number of the first block of this type, and 0 where there is none
abbrev pub number_of : List LaidBlock → List ℕ → ℕ
number_of blocks kind = unwrap_or (position (λ block. bytes_eq block.desc.name kind) blocks) 0
