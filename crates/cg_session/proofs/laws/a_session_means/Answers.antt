use Rattle.cg_session.proofs.HoldingBuilds.{every_build_holds, session_holds}
use Rattle.cg_session.proofs.laws.a_session_means.Goals as goal

pub returns-clause-holds : goal.returns-clause-holds
returns-clause-holds c = session_holds c.a_build_is_one.ensures.names c.what_is_built_means.ensures

pub returns-clause-builds : goal.returns-clause-builds
returns-clause-builds c = every_build_holds c.a_build_is_one.ensures.names c.what_is_built_means.ensures
