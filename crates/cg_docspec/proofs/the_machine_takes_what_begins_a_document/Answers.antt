use Rattle.cg_docspec.proofs.Answering.Openers.{begun_runs, runs_begin}
use Rattle.cg_docspec.proofs.the_machine_takes_what_begins_a_document.Goals as goal

pub returns : goal.returns
returns c p = (λ h. runs_begin p h, λ b. begun_runs p b)
