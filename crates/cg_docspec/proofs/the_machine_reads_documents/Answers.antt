use Rattle.cg_docspec.proofs.Back.States.{document_of}
use Rattle.cg_docspec.proofs.Forth.Values.{document_read}
use Rattle.cg_docspec.proofs.the_machine_reads_documents.Goals as goal

pub returns : goal.returns
returns c text t = (λ f. document_of text t f, λ d. document_read d)
