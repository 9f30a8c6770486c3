use Rattle.cg_session.proofs.Ones.{answers_one, plays_are_one}
use Rattle.cg_session.proofs.laws.a_session_is_one.Goals as goal

pub returns-clause-answers : goal.returns-clause-answers
returns-clause-answers c = answers_one c.a_build_is_one.ensures.wanted c.a_build_is_one.ensures.built c.a_build_is_one.ensures.unbroken c.faults_are_ordered.ensures.total

pub returns-clause-plays : goal.returns-clause-plays
returns-clause-plays c = plays_are_one (answers_one c.a_build_is_one.ensures.wanted c.a_build_is_one.ensures.built c.a_build_is_one.ensures.unbroken c.faults_are_ordered.ensures.total)
