use Rattle.std.proofs.Common.{rules}
use Rattle.cg_svspec.proofs.NamesLemmas.{none_repeats}
use Rattle.cg_sv.proofs.names.names_differ.Goals as goal

pub returns-in-None-clause-differ : goal.returns-in-None-clause-differ
returns-in-None-clause-differ c = none_repeats _ (search rules)
