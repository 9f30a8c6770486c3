use Rattle.std.proofs.Common.{ap, ◌∙◌}
use Rattle.std.specs.Prelude.{codes, unwrap_or}
use Rattle.serde_json.specs.Data.{boolean, string}
use Rattle.serde_json.specs.View.{view}
use Rattle.cg_desc.specs.declared.block.SwAccess.TheVariants.{Rw}
use Rattle.cg_keys.specs.Lookups.{window_access_at}
use Rattle.cg_keys.specs.Values.{members_of}
use Rattle.cg_blkread.specs.Raw.{is_true}
use Rattle.cg_blkdone.specs.Full.{number_if, software_word, window_pairs, with_all}
use Rattle.cg_blkdone.proofs.InTurn.{follow}
use Rattle.cg_blkdone.proofs.entries.full_window.Goals as goal

pub returns : goal.returns
unfolding window_pairs
returns c =
    let from = c.members-members.ensures in
    c.in_ok-value-4.ensures
    ∙ ap (λ l. with_all (number_if (codes "items") l) (view c.in_ok-value-3.value)) from
    ∙ follow _ _ _ _ _ _ c.in_ok-value-3.ensures
    (c.in_ok-software.ensures ∙ ap (λ a. string (software_word a)) (c.window_access-access.ensures ∙ ap (λ l. unwrap_or (window_access_at (codes "swaccess") l) Rw) from))
    ∙ follow _ _ _ _ _ _ c.in_ok-value-2.ensures (c.truth.ensures ∙ ap boolean (c.is_true.ensures ∙ ap (is_true (codes "byte-write")) from))
    ∙ ap (with_all (window_pairs (members_of c.args.tree.now))) c.in_ok-value.ensures
