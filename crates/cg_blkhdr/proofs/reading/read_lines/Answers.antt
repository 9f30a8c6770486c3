use Rattle.std.proofs.Common.{◌∙◌, sym, subst, ap, map, arith, rules}
use Rattle.cg_hdrspec.specs.Reading.{joined, answer}
use Rattle.cg_blkhdr.specs.Answers.{Tells, constant_of}
use Rattle.cg_blkhdr.proofs.Cuts.{after_line, last_answer, shorter}
use Rattle.cg_blkhdr.proofs.reading.read_lines.Goals as goal

pub returns-then-not-has_form : goal.returns-then-not-has_form
returns-then-not-has_form c =
    (after_line c.loop-line.number c.loop-line.rest.now (c.in-Some.line.now, c.in-Some.after.now) (map constant_of c.loop-line.constants) (map constant_of c.add_line.new.constants)
    c.in_ok-has_form.has_form (answer c.args.text.now) (sym c.in-Some.ensures) c.in_ok-has_form.ensures c.loop-line.invariant.found).1 c.if-not-has_form.true

pub loop-line-smaller : goal.loop-line-smaller
loop-line-smaller c = shorter c.loop-line.rest.now (c.in-Some.line.now, c.in-Some.after.now) (sym c.in-Some.ensures)

pub loop-line-preserved : goal.loop-line-preserved
loop-line-preserved c =
    let less = shorter c.loop-line.rest.now (c.in-Some.line.now, c.in-Some.after.now) (sym c.in-Some.ensures) in
    record {
      is_text = search rules;
      found = (after_line c.loop-line.number c.loop-line.rest.now (c.in-Some.line.now, c.in-Some.after.now) (map constant_of c.loop-line.constants) (map constant_of c.add_line.new.constants)
          c.in_ok-has_form.has_form (answer c.args.text.now) (sym c.in-Some.ensures) c.in_ok-has_form.ensures c.loop-line.invariant.found).0 c.if-not-has_form.false;
      counted = omega arith;
    }

pub returns : goal.returns
returns c =
    subst (λ a. Tells a c.at_end.result)
    (ap (joined (map constant_of c.loop-line.constants)) (sym (last_answer c.loop-line.number c.loop-line.rest.now (sym c.in_default.ensures))) ∙ c.loop-line.invariant.found)
    c.at_end.ensures
