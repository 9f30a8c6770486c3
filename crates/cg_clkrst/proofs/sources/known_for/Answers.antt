use Rattle.std.proofs.Common.{sym, ap, ◌∙◌}
use Rattle.std.specs.Option.{option_copied}
use Rattle.cg_clkrst.proofs.NamedSources.{found_named, unknown_named}
use Rattle.cg_clkrst.proofs.sources.known_for.Goals as goal

pub returns-then-is_known : goal.returns-then-is_known
returns-then-is_known c source =
    found_named c.args.known.now c.args.pairs.now c.args.port.now c.in-Some.source.now (sym c.named_for.ensures ∙ ap option_copied c.in-Some.is) (sym c.is_known.ensures ∙ c.if-is_known.true) source

pub returns-else-is_known : goal.returns-else-is_known
returns-else-is_known c source =
    unknown_named c.args.known.now c.args.pairs.now c.args.port.now c.in-Some.source.now (sym c.named_for.ensures ∙ ap option_copied c.in-Some.is) (sym c.is_known.ensures ∙ c.if-is_known.false) source
