use Rattle.std.proofs.Common.{refl}
use Rattle.cg_session.proofs.Runs.{runs}
use Rattle.cg_session.proofs.SessionEnding.{nothing_done, session_ends}
use Rattle.cg_session.specs.Turns.{kept_in}
use Rattle.cg_session.specs.declared.ending.Ending.TheVariants.{Memory}
use Rattle.cg_session.proofs.top.session.Goals as goal

-- memory was not found for what is kept
pub returns-in-Err-clause-runs : goal.returns-in-Err-clause-runs
returns-in-Err-clause-runs g c = runs _ _ _ _ Memory (nothing_done _ _ _ _ refl) c.a_session_means.ensures.holds (record { asked = refl; reads = refl })

pub returns-clause-runs : goal.returns-clause-runs
returns-clause-runs g c =
    runs _ _ _ _ c.finish.result
    (session_ends _ _ _ _ c.do_all-step.result c.finish.result (kept_in c.do_all-step.new.session) c.do_all-step.new.number c.do_all-step.new.room
    (rw c.in-Ok.ensures at c.do_all-step.ensures.ends) c.finish.ensures)
    c.a_session_means.ensures.holds (record { asked = c.do_all-step.ensures.asked; reads = c.do_all-step.ensures.reads })
