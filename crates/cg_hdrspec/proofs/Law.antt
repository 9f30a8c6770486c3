-- The law of a block's header.
use Rattle.std.proofs.Common.{refl}
use Rattle.cg_svspec.proofs.NamesLemmas.{none_repeats}
use Rattle.cg_desc.specs.Laid.{IsLaid}
use Rattle.cg_desc.specs.Valid.{IsNameIfAny}
use Rattle.cg_hdrspec.specs.BlockHeader.{definitions, face_definitions, header_names, constants_of}
use Rattle.cg_hdrspec.specs.Laws.{BlockHeaderMeans}
use Rattle.cg_hdrspec.proofs.Lists.{of_one, of_pieces}
use Rattle.cg_hdrspec.proofs.Lines.{is_header}
use Rattle.cg_hdrspec.proofs.Agrees.{Given, block_gives, face_agrees}

-- The header of a laid block, in which no name repeats, agrees with the block.
pub block_header_means : BlockHeaderMeans
unfolding definitions
block_header_means laid named none =
    let given = block_gives laid in
    record {
      constants = constants_of laid;
      is_header = is_header laid named;
      are_all = refl;
      differ = none_repeats (header_names laid) none;
      width = given.0;
      agrees = λ face among.
          face_agrees (constants_of laid) laid.desc.name face (of_one (λ f. IsNameIfAny f.name × IsLaid f) laid.faces face among named.interfaces).1
          (of_pieces (Given (constants_of laid)) (face_definitions laid.desc.name) laid.faces face among given.1);
    }
