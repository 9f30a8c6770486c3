use Rattle.std.proofs.Common.{◌≡◌, Some, None, sym, ap, ◌∙◌}
use Rattle.std.specs.Option.{option_copied}
use Rattle.cg_desc.specs.FoundBase.{block_of}
use Rattle.cg_merge.proofs.InstanceRules.{few_of, lacks, lacks_none}
use Rattle.cg_merge.proofs.instances.lacks_base.Goals as goal
use Rattle.cg_merge.proofs.instances.lacks_base.Goals.{In-None, In-Some}

found : (c : In-Some) → block_of c.args.top.now c.args.number ≡ Some c.in-Some.block.now
found c = sym c.block_of.ensures ∙ ap option_copied c.in-Some.is

missing : (c : In-None) → block_of c.args.top.now c.args.number ≡ None
missing c = sym c.block_of.ensures ∙ ap option_copied c.in-None.is

pub lacks_one-requires-clause-few : goal.lacks_one-requires-clause-few
lacks_one-requires-clause-few c = few_of c.args.top.now c.requires c.args.number c.in-Some.block.now (found (goal.at.lacks_one-requires-clause-few c).In-Some)

pub returns-in-Some : goal.returns-in-Some
returns-in-Some c inst there =
    lacks c.args.top.now c.requires c.args.number inst c.in-Some.block.now c.lacks_one.result there (found (goal.at.returns-in-Some c).In-Some) c.lacks_one.ensures

pub returns-in-None : goal.returns-in-None
returns-in-None c inst there = lacks_none c.args.top.now c.requires c.args.number inst (missing c)
