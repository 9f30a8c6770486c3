-- The numbers of a range fit their machine words.
use Rattle.std.proofs.Common.{arith}
use Rattle.std.specs.Prelude.{codes}
use Rattle.cg_desc.specs.Crossbar.{IsValidRange}
use Rattle.cg_hjson.specs.declared.tree.Tree.{Tree}
use Rattle.cg_keys.specs.Values.{members_of}
use Rattle.cg_keys.proofs.Fitting.{number_at_most}
use Rattle.cg_xbread.specs.Described.{range_of}

-- whatever is written, a range has numbers of their machine words
pub valid_range : (t : Tree) → IsValidRange (range_of t)
unfolding range_of
valid_range t =
    let base = number_at_most 0 4294967295 (codes "base_addr") (members_of t) in
    let size = number_at_most 0 4294967296 (codes "size_byte") (members_of t) in
    (omega arith, omega arith)
