use Rattle.std.proofs.Common.{◌≡◌, ℕ, ◌+◌, List, ◌++◌, take, drop, arith}
use Rattle.std.proofs.lemmas.List.{take-append-drop}
use Rattle.std.proofs.lemmas.Grind.{common_steps}
use Rattle.cg_base.proofs.rest.Rest.give.Goals as goal

-- what is left at a place is the next n, and what is left after them
rest_split : (n at : ℕ) (xs : List ℕ) → drop at xs ≡ take n (drop at xs) ++ drop (at + n) xs
rest_split n at xs = grind (arith, common_steps, take-append-drop n (drop at xs))

pub returns-clause-given : goal.returns-clause-given
returns-clause-given c = let e = rest_split c.copy_front-n.result c.self.inside.given c.self.inside.bytes in cc
