use Rattle.std.proofs.Common.{◌≡◌, Some, None, sym, ap, ◌∙◌, subst}
use Rattle.cg_desc.specs.Top.{IsValidTop}
use Rattle.cg_finding.specs.Finding.{first_of}
use Rattle.cg_finding.specs.Found.{sees, seen}
use Rattle.cg_topread.specs.Listed.{top_faults}
use Rattle.cg_topread.proofs.TopFacts.{none_broken, refused}
use Rattle.cg_topread.proofs.Valid.{valid_top}
use Rattle.cg_topread.proofs.reading.top.Goals as goal

pub returns-in-Some-clause-reads : goal.returns-in-Some-clause-reads
returns-in-Some-clause-reads c =
    let found : first_of (top_faults c.args.tree.now) ≡ Some (seen c.in-Some.found) = sym c.in_ok-found.ensures ∙ ap sees c.in-Some.is in
    refused c.refusal.result c.args.file c.args.tree.now (c.refusal.ensures.refuses (top_faults c.args.tree.now) found)

pub returns-clause-reads : goal.returns-clause-reads
returns-clause-reads c =
    let none : first_of (top_faults c.args.tree.now) ≡ None = sym c.in_ok-found.ensures ∙ ap sees c.in_default.is in
    (none_broken c.args.tree.now none, c.in_ok-describe_top.ensures)

pub returns-clause-valid : goal.returns-clause-valid
returns-clause-valid c =
    let none : first_of (top_faults c.args.tree.now) ≡ None = sym c.in_ok-found.ensures ∙ ap sees c.in_default.is in
    subst IsValidTop (sym c.in_ok-describe_top.ensures) (valid_top c.args.file c.args.tree.now (none_broken c.args.tree.now none))
