use Rattle.std.proofs.Common.{◌≡◌, List, ℕ, Some, ap, subst, sym, ◌∙◌}
use Rattle.std.specs.FinMap as fin
use Rattle.cg_base.specs.Outside.{Files}
use Rattle.cg_keep.specs.Files.{AreWanted, IsBuilt}
use Rattle.cg_keep.specs.declared.keep.Built.{Built}
use Rattle.cg_session.specs.Answers.{builds, refused_line, refuses}
use Rattle.cg_session.specs.Play.{stored_all}
use Rattle.cg_session.proofs.build.build.Goals as goal

same_built : (a b : Built) → Some a ≡ Some b → a ≡ b
same_built a b e = cc

pub returns-in_ok-stored_all-in-Some-clause-answer :
    goal.returns-in_ok-stored_all-in-Some-clause-answer
returns-in_ok-stored_all-in-Some-clause-answer g c =
    let r = c.in-Ok.ensures.refreshes.1 in
    let same : c.in-Some.built.now ≡ r.0 = same_built c.in-Some.built.now r.0 (c.in-Some.ensures ∙ r.1) in (
      builds c.in-Some.built.now.files,
      subst (λ (b : Built). IsBuilt c.args.keep.now.top c.args.keep.now.files b.files) (sym same) r.2,
      c.in_ok-stored_all-in-Some.ensures ∙ ap (stored_all c.args.dir.now) c.as_slice.ensures,
    )

-- the files stay, so the same names are wanted
same_wanted : (top top' : List ℕ) (files files' : Files) (names : List (List ℕ)) → top' ≡ top → files' ≡ files → AreWanted (fin.get files' top') top' names → AreWanted (fin.get files top) top names
same_wanted top top' files files' names same kept are =
    subst (λ t. AreWanted (fin.get files t) t names) same (subst (λ f. AreWanted (fin.get f top') top' names) kept are)

pub returns-in_ok-refused_line-in-Err-Refused-clause-answer :
    goal.returns-in_ok-refused_line-in-Err-Refused-clause-answer
returns-in_ok-refused_line-in-Err-Refused-clause-answer g c =
    let r = rw c.in-Err-Refused.field-0-is at c.in-Err-Refused.ensures.refreshes in
    let names = c.in_ok-names-in-Err-Refused.names in (
      refuses names c.in-Err-Refused.fault,
      (same_wanted c.args.keep.now.top c.rebuild.new.self.top c.args.keep.now.files c.rebuild.new.self.files names r.0.top r.0.files c.in_ok-names-in-Err-Refused.ensures, r.2),
      c.in_ok-refused_line-in-Err-Refused.ensures ∙ ap (λ ns. refused_line ns c.in-Err-Refused.fault) c.as_slice-in-Err-Refused.ensures,
    )
