use Rattle.cg_samespec.proofs.ApartBlocks.{fields_are_apart}
use Rattle.cg_samespec.proofs.read_fields_are_apart.Goals as goal

-- src/lib.rt:13:1
pub returns : goal.returns
returns c = fields_are_apart
