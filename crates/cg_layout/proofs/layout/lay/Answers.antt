use Rattle.std.proofs.Common.{length, refl, sym, ap, subst, ◌∙◌}
use Rattle.cg_desc.specs.declared.block.LaidBlock.{LaidBlock}
use Rattle.cg_finding.specs.Finding.{Finding}
use Rattle.cg_finding.specs.Found.{seen}
use Rattle.cg_layout.specs.Lays.{IsLaidBlock}
use Rattle.cg_layout.specs.Violations.{Violates}
use Rattle.cg_layout.proofs.Faces.{all_items, none_violates, some_violates, tells_block}
use Rattle.cg_layout.proofs.Placing.{AreValid}
use Rattle.cg_finding.proofs.Told.{refuses_first}
use Rattle.cg_layout.proofs.Whole.{laid_faces}
use Rattle.cg_layout.proofs.layout.lay.Goals as goal
use Rattle.cg_layout.proofs.layout.lay.Goals.{In_default, In_ok-laid}

-- nothing was told, so nothing is broken
good : (c : In_default) → (f : Finding) → ¬ Violates c.args.block f
good c =
    none_violates c.args.block c.as_slice.result.now c.as_slice-2.result.now c.as_slice.ensures (c.as_slice-2.ensures ∙ c.requires.expanded) c.in_default.ensures

-- the block that is answered
abbrev laid : In_ok-laid → LaidBlock
laid c = record { desc = c.args.block; faces = c.in_ok-laid.laid }

is_laid : (c : In_ok-laid) → IsLaidBlock c.args.block (laid c)
is_laid c = record { description = refl; interfaces = rw (c.as_slice-3.ensures, c.requires.expanded) at c.in_ok-laid.ensures }

pub first_in_faces-requires-clause-all : goal.first_in_faces-requires-clause-all
first_in_faces-requires-clause-all c =
    ap length (c.as_slice-2.ensures ∙ c.requires.expanded) ∙ all_items _ c.args.block.faces ∙ sym (ap length c.as_slice.ensures)

pub returns-in-Some-clause-lays : goal.returns-in-Some-clause-lays
returns-in-Some-clause-lays c =
    let t =
    tells_block c.args.block c.as_slice.result.now c.as_slice-2.result.now c.as_slice.ensures (c.as_slice-2.ensures ∙ c.requires.expanded) c.in-Some.ensures in
    refuses_first c.refusal.result c.args.block.file (seen c.in-Some.found) t (c.refusal.ensures.refuses t.faults (sym t.first))

pub laid_faces-requires-clause-all : goal.laid_faces-requires-clause-all
laid_faces-requires-clause-all c = ap length c.requires.expanded ∙ all_items _ c.args.block.faces ∙ sym (ap length c.as_slice-3.ensures)

pub laid_faces-requires-clause-unbroken : goal.laid_faces-requires-clause-unbroken
laid_faces-requires-clause-unbroken c f one =
    good (goal.at.laid_faces-requires-clause-unbroken c).In_default f (some_violates c.args.block f (rw (c.as_slice-3.ensures, c.requires.expanded) at one))

pub returns-clause-lays : goal.returns-clause-lays
returns-clause-lays c = let on = goal.at.returns-clause-lays c in (good on.In_default, is_laid on.In_ok-laid)

pub returns-clause-laid : goal.returns-clause-laid
returns-clause-laid c =
    let on = goal.at.returns-clause-laid c in
    laid_faces c.args.block (laid on.In_ok-laid) (subst AreValid c.requires.expanded c.requires.items) (good on.In_default) (is_laid on.In_ok-laid)
