-- The laws of headers.
use Rattle.std.specs.Prelude.{◌≡◌, ℕ, List, None}
use Rattle.cg_svspec.specs.Characters.{IsWord}
use Rattle.cg_svspec.specs.Names.{first_repeat}
use Rattle.cg_svspec.specs.Printable.{AllOf}
use Rattle.cg_desc.specs.Laid.{IsLaid}
use Rattle.cg_desc.specs.Valid.{IsNameIfAny}
use Rattle.cg_desc.specs.declared.block.LaidBlock.{LaidBlock}
use Rattle.cg_hdrspec.specs.HeaderFault.{Answer, IsAnswer}
use Rattle.cg_hdrspec.specs.BlockHeader.{header_names, header_text}
use Rattle.cg_hdrspec.specs.Meaning.{HeaderMeans}

-- the block has a name, each of its interfaces has none or a good one, and all of them are laid out
pub record IsNamed (laid : LaidBlock) : Type 0 where
  pub block : IsWord laid.desc.name
  pub interfaces : AllOf (λ face. IsNameIfAny face.name × IsLaid face) laid.faces

-- the header of a block that is laid out, in which no name repeats, agrees with the block
abbrev pub BlockHeaderMeans : Type 0
BlockHeaderMeans = (laid : LaidBlock) → IsNamed laid → first_repeat (header_names laid) ≡ None → HeaderMeans laid (header_text laid)

-- a text has one answer
abbrev pub HeaderHasOneAnswer : Type 0
HeaderHasOneAnswer = (text : List ℕ) (a b : Answer) → IsAnswer text a → IsAnswer text b → a ≡ b
