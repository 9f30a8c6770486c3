use Rattle.std.proofs.Common.{◌≡◌, Some, ◌∙◌, ap, sym, subst}
use Rattle.cg_desc.specs.Ranges.{AreRangesOf}
use Rattle.cg_finding.specs.Refusal.{Names}
use Rattle.cg_finding.specs.Rules as rules
use Rattle.cg_finding.proofs.Stages.{named}
use Rattle.cg_crossbar.specs.Outputs.{clash_of, crossbar_output}
use Rattle.cg_crossbar.specs.Breaks.{BreaksAlone}
use Rattle.cg_crossbar.proofs.FirstOnes.{clash_first}
use Rattle.cg_crossbar.proofs.alone.text_of.Goals as goal

pub returns-in-Ok : goal.returns-in-Ok
returns-in-Ok c f same is = record {
  crossbar = c.args.xbar.now;
  is_good = record {
    describes = is;
    spaced = subst (AreRangesOf c.args.xbar.now) c.requires.written c.requires.fit;
    no_clash = ap (clash_of c.args.xbar.now) (sym c.requires.written) ∙ c.in-Ok.ensures.apart;
  };
  is = c.in-Ok.ensures.made ∙ ap (crossbar_output c.args.xbar.now) c.requires.written;
}

-- a name comes twice
pub returns-in-Err-Clash : goal.returns-in-Err-Clash
returns-in-Err-Clash c f same is =
    let repeat = c.crossbar_output.ensures.clash c.in-Err-Clash.name (cc) in
    named _ _ (BreaksAlone f) _ (subst (λ n. Names c.clash.result n (rules.names_clash c.args.xbar.now.at c.in-Err-Clash.name)) (sym same) c.clash.ensures)
    (clash_first f c.args.xbar.now _ is (subst (AreRangesOf c.args.xbar.now) c.requires.written c.requires.fit) (ap (clash_of c.args.xbar.now) (sym c.requires.written) ∙ repeat))
