use Rattle.std.proofs.Common.{inl, refl}
use Rattle.cg_design.proofs.OthersRead.{others_found, others_refused}
use Rattle.cg_design.proofs.others.read_others.Goals as goal

-- a file breaks something
pub returns-in-Some : goal.returns-in-Some
returns-in-Some c =
    others_refused c.args.listed.now c.args.types.now c.args.before c.args.given.now _ _ c.split_at.ensures.front c.split_at.ensures.back _ _
    (c.in-Ok.ensures c.args.before (inl refl)) (c.in-Ok-read_blocks.ensures _ (c.behind_all-behind.ensures c.args.before (inl refl))) c.in-Some.fault c.in-Some.ensures

-- or none does
pub returns-in-None : goal.returns-in-None
returns-in-None c =
    others_found c.args.listed.now c.args.types.now c.args.before c.args.given.now _ _ c.split_at.ensures.front c.split_at.ensures.back _ _
    (c.in-Ok.ensures c.args.before (inl refl)) (c.in-Ok-read_blocks.ensures _ (c.behind_all-behind.ensures c.args.before (inl refl))) c.in-None.ensures
