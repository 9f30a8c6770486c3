use Rattle.std.specs.Str.{chars}
use Rattle.cg_docspec.specs.Machine.Run.{answer}
use Rattle.cg_docspec.proofs.Answering.Answers.{is_answer, one_answer}
use Rattle.cg_hjson.proofs.Answers.{fits_by, right_by, tells_by}
use Rattle.cg_hjson.proofs.reader.read.Goals as goal

pub returns : goal.returns
returns c =
    let right = right_by (chars c.args.text.now) (answer (chars c.args.text.now)) c.run.result c.run.ensures (is_answer (chars c.args.text.now)) in
    record {
      right = right;
      exact = λ a is. tells_by (answer (chars c.args.text.now)) a c.run.result (one_answer (chars c.args.text.now) (answer (chars c.args.text.now)) a (is_answer (chars c.args.text.now)) is) c.run.ensures;
      integers = fits_by (chars c.args.text.now) c.run.result right;
    }
