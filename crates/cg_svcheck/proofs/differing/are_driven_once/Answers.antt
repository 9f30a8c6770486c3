use Rattle.std.proofs.Common.{sym}
use Rattle.cg_sv.specs.Views.{module_of}
use Rattle.cg_svcheck.specs.Counting.{is_driven_once}
use Rattle.cg_svcheck.proofs.FormLemmas.{passes_all}
use Rattle.cg_svcheck.proofs.differing.are_driven_once.Goals as goal

pub returns-in_default : goal.returns-in_default
returns-in_default c = sym (passes_all (is_driven_once (module_of c.args.«module».now)) c.args.expr.now c.in_default.not-Net c.in_default.not-Cat)
