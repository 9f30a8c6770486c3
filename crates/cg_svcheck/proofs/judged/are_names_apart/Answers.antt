use Rattle.std.proofs.Common.{Err, subst}
use Rattle.cg_svspec.specs.Names.{first_repeat, module_names}
use Rattle.cg_sv.specs.Clashes.{Answers}
use Rattle.cg_sv.specs.Views.{module_of}
use Rattle.cg_svcheck.proofs.Moving.{repeat_decides}
use Rattle.cg_svcheck.proofs.judged.are_names_apart.Goals as goal

pub returns-in-Err-Clash : goal.returns-in-Err-Clash
returns-in-Err-Clash c =
    repeat_decides (module_names (module_of c.args.«module».now)) c.in-Err-Clash.field-0-0
    (subst (λ fault. Answers {A = Unit {0}} (Err fault) (first_repeat (module_names (module_of c.args.«module».now)))) c.in-Err-Clash.field-0-is c.in-Err-Clash.ensures.answers)
