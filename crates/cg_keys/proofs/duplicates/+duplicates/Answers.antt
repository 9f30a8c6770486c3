use Rattle.std.proofs.Common.{[], ◌++◌, List, ap, sym, ◌∙◌}
use Rattle.std.specs.List.{flat_map}
use Rattle.cg_docspec.specs.Tree as document
use Rattle.cg_finding.specs.Finding.{Finding, first_of}
use Rattle.cg_finding.proofs.Firsts.{first_of-append}
use Rattle.cg_finding.proofs.Loops.{no_more, one_more}
use Rattle.cg_hjson.specs.Views.{members_of}
use Rattle.cg_hjson.specs.declared.tree.Member.{Member}
use Rattle.cg_keys.specs.Duplicates.{duplicate_faults, repeats}
use Rattle.cg_keys.proofs.Repeats.{duplicates-Array, duplicates-Object}
use Rattle.cg_keys.proofs.duplicates.+duplicates.Goals as goal

pub first_below_items-loop-item-preserved : goal.first_below_items-loop-item-preserved
first_below_items-loop-item-preserved t c =
    one_more duplicate_faults c.args.items.now c.loop-item.item-index c.item-item.result _ _ _ _
    c.loop-item-test.true c.item-item.is c.in_ok-first_duplicate.ensures c.earlier_of-first.ensures
    ∙ c.loop-item.invariant

pub first_below_items-returns : goal.first_below_items-returns
first_below_items-returns t c =
    sym (no_more duplicate_faults c.args.items.now c.loop-item.item-index _ c.loop-item-test.false) ∙ c.loop-item.invariant

pub first_below_members-loop-member-preserved : goal.first_below_members-loop-member-preserved
first_below_members-loop-member-preserved t c =
    one_more (λ m. duplicate_faults m.value) c.args.members.now c.loop-member.member-index c.member-item.result _ _ _ _
    c.loop-member-test.true c.member-item.is c.in_ok-first_duplicate.ensures c.earlier_of-first.ensures
    ∙ c.loop-member.invariant

pub first_below_members-returns : goal.first_below_members-returns
first_below_members-returns t c =
    sym (no_more (λ m. duplicate_faults m.value) c.args.members.now c.loop-member.member-index _ c.loop-member-test.false) ∙ c.loop-member.invariant

pub first_duplicate-returns-in_ok-first_below_items-in-Array : goal.first_duplicate-returns-in_ok-first_below_items-in-Array
first_duplicate-returns-in_ok-first_below_items-in-Array t c =
    c.in_ok-first_below_items-in-Array.ensures
    ∙ ap first_of (ap (flat_map duplicate_faults) c.as_slice.ensures ∙ sym (duplicates-Array c.args.tree.now c.in-Array.items c.in-Array.is))

pub first_duplicate-returns-in_ok-first_below_members-in-Object : goal.first_duplicate-returns-in_ok-first_below_members-in-Object
first_duplicate-returns-in_ok-first_below_members-in-Object t c =
    let own : List Member → List Finding = λ ms. repeats [] (document.members (members_of ms)) in
    let below : List Member → List Finding = λ ms. flat_map (λ m. duplicate_faults m.value) ms in
    let members : List Member = c.as_slice-members.result.now in
    c.earlier_of.ensures
    ∙ rw (c.in_ok-own-in-Object.ensures, c.in_ok-first_below_members-in-Object.ensures, ← first_of-append (own members) (below members))
    (ap first_of (ap (λ ms. own ms ++ below ms) c.as_slice-members.ensures ∙ sym (duplicates-Object c.args.tree.now c.in-Object.members c.in-Object.is)))
