-- Texts that are put together.
use Rattle.std.proofs.Common.{append_assoc}

pub ruleset appends = (append_assoc)
