use Rattle.std.proofs.Common.{inl, refl, sym, ap, ◌∙◌}
use Rattle.std.specs.Option.{option_copied}
use Rattle.cg_clkrst.proofs.FirstLacks.{has_none, has_one}
use Rattle.cg_clkrst.proofs.Tyings.{tie_again, tie_first}
use Rattle.cg_clkrst.proofs.listing.add_tie.Goals as goal

pub returns-then-is_among : goal.returns-then-is_among
returns-then-is_among c uses are apart =
    tie_again c.args.owned.now.owner c.args.port.now c.args.top.now c.args.before.now uses _ (sym c.is_among.ensures ∙ c.if-is_among.true) are

pub returns-in_ok-push-in-Some : goal.returns-in_ok-push-in-Some
returns-in_ok-push-in-Some c uses are apart =
    tie_first c.args.owned.now.owner c.args.port.now c.args.top.now c.args.before.now uses _ _ _ c.in-Some.source.now (sym c.is_among.ensures ∙ c.if-is_among.false) apart c.in_ok-tie_of-in-Some.ensures
    (has_one c.args.top.now c.args.owned.now c.args.port.now c.requires.named _ c.source_of.ensures c.in-Some.source.now (ap option_copied c.in-Some.is)) c.in_ok-push-in-Some.ensures.ok are

pub returns-in-None : goal.returns-in-None
returns-in-None c uses are apart =
    let source = c.requires.sourced _ (inl refl) in
    absurd (has_none c.args.top.now c.args.owned.now c.args.port.now c.requires.named _ c.source_of.ensures (ap option_copied c.in-None.is) source.0 source.1)
