use Rattle.std.proofs.Common.{◌≡◌, List, ℕ, [], ◌∷◌, ◌++◌, option_map, sym, subst, ◌∙◌}
use Rattle.cg_keep.specs.Files.{AreWanted, top_alone}
use Rattle.cg_keep.proofs.Wanted.{wanted_all}
use Rattle.cg_keep.proofs.names.wanted_names.Goals as goal

-- a top, with the files that it names
pub returns-in-Ok : goal.returns-in-Ok
returns-in-Ok c =
    wanted_all (option_map (λ b. b.now) c.args.given) c.args.own.now c.in-Ok.source.tree c.in-Ok.source.top c.in-Ok.ensures.finds c.all_names.result c.all_names.ensures

-- its own file breaks a rule
pub returns-in-Err-Fault : goal.returns-in-Err-Fault
returns-in-Err-Fault c =
    let refused = rw c.in-Err-Fault.field-0-is at c.in-Err-Fault.ensures.finds in
    let alone : c.push.new.self ≡ c.args.own.now ∷ [] = c.in_ok-push-in-Err-Fault.ensures.ok ∙ (λ i. c.new-names.ensures i ++ c.in_ok-of-in-Err-Fault.ensures i ∷ []) in
    subst (AreWanted (option_map (λ b. b.now) c.args.given) c.args.own.now) (sym alone) (top_alone refused.0 refused.2.violates)
