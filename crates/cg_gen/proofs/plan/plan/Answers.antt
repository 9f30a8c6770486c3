use Rattle.std.proofs.Common.{Some, ap, subst, ◌∙◌}
use Rattle.cg_words.specs.Words.{IsCommand}
use Rattle.cg_words.specs.declared.command.Command.{Command}
use Rattle.cg_gen.specs.Inner.{AreWords}
use Rattle.cg_gen.proofs.Planning.{few_instances, not_built, sample_ends, some_instance, usage_ends}
use Rattle.cg_gen.proofs.ByWords.{command_is}
use Rattle.cg_gen.proofs.TopPlan.{few_workers, some_worker}
use Rattle.cg_gen.proofs.plan.plan.Goals as goal

-- there are workers, and not too many
pub topgen-requires-clause-some : goal.topgen-requires-clause-some
topgen-requires-clause-some g c κs lives =
    some_worker c.requires.0 c.in-Some-Topgen.file c.in-Some-Topgen.dir c.in-Some-Topgen.workers
    (command_is c.requires.0 c.args.command _ (c.in-Some-Topgen.is ∙ ap Some c.in-Some-Topgen.field-0-is) c.requires.1)

pub topgen-requires-clause-few : goal.topgen-requires-clause-few
topgen-requires-clause-few g c κs lives =
    few_workers c.requires.0 c.in-Some-Topgen.file c.in-Some-Topgen.dir c.in-Some-Topgen.workers
    (command_is c.requires.0 c.args.command _ (c.in-Some-Topgen.is ∙ ap Some c.in-Some-Topgen.field-0-is) c.requires.1)

-- the words are a command that is not built
pub returns-in-Some-Session-clause-ends : goal.returns-in-Some-Session-clause-ends
returns-in-Some-Session-clause-ends g c words reads =
    usage_ends words _ _ _ c.usage.result (not_built words _ (command_is words c.args.command _ (c.in-Some-Session.is ∙ ap Some c.in-Some-Session.field-0-is) reads) (λ built. built)) c.usage.ensures.due
    c.usage.ensures.memory

pub returns-in-Some-Probe-clause-ends : goal.returns-in-Some-Probe-clause-ends
returns-in-Some-Probe-clause-ends g c words reads =
    usage_ends words _ _ _ c.usage-in-Some-Probe.result (not_built words _ (command_is words c.args.command _ (c.in-Some-Probe.is ∙ ap Some c.in-Some-Probe.field-0-is) reads) (λ built. built))
    c.usage-in-Some-Probe.ensures.due c.usage-in-Some-Probe.ensures.memory

-- or they are a sample's
pub sample-requires-clause-least : goal.sample-requires-clause-least
sample-requires-clause-least g c κs lives =
    some_instance c.requires.0 c.in-Some-Sample.number (command_is c.requires.0 c.args.command _ (c.in-Some-Sample.is ∙ ap Some c.in-Some-Sample.field-0-is) c.requires.1)

pub sample-requires-clause-most : goal.sample-requires-clause-most
sample-requires-clause-most g c κs lives =
    few_instances c.requires.0 c.in-Some-Sample.number (command_is c.requires.0 c.args.command _ (c.in-Some-Sample.is ∙ ap Some c.in-Some-Sample.field-0-is) c.requires.1)

pub returns-in-Some-Sample-clause-ends : goal.returns-in-Some-Sample-clause-ends
returns-in-Some-Sample-clause-ends g c words reads =
    sample_ends words c.in-Some-Sample.number _ _ _ c.sample.result (command_is words c.args.command _ (c.in-Some-Sample.is ∙ ap Some c.in-Some-Sample.field-0-is) reads) c.sample.ensures.due
    c.sample.ensures.memory

-- or they are none
pub returns-clause-ends : goal.returns-clause-ends
returns-clause-ends g c words are =
    let other : (d : Command) → ¬ IsCommand words d = subst (AreWords words) c.in-None.is are in
    usage_ends words _ _ _ c.usage-in-None.result (λ d built is. other d is) c.usage-in-None.ensures.due c.usage-in-None.ensures.memory
