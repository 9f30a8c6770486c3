-- The examples hold: the machine's answers compute, and are right.
use Rattle.std.proofs.Common.{◌≡◌, List, [], ◌∷◌, refl, subst}
use Rattle.std.specs.Prelude.{map}
use Rattle.cg_docspec.specs.SyntaxFault.{Answer, IsAnswer}
use Rattle.cg_docspec.specs.Examples.{Example, examples, AllRight}
use Rattle.cg_docspec.specs.Machine.Numeral.{skip_digits, decimal, is_literal, plain_kind}
use Rattle.cg_docspec.specs.Machine.Closing.{delivered, keyed}
use Rattle.cg_docspec.specs.Machine.Token.{begin_value, begin_item, begin_token, in_gap, in_gap_return, in_key}
use Rattle.cg_docspec.specs.Machine.Plain.{in_plain, in_plain_return, in_plain_slash}
use Rattle.cg_docspec.specs.Machine.Comment.{in_comment, in_slash, in_block, in_block_return}
use Rattle.cg_docspec.specs.Machine.Quote.{quoted_end, outside_escape, behind_backslash, in_unit, in_quoted}
use Rattle.cg_docspec.specs.Machine.MultiLine.{in_two_quotes, inside_line, in_lines}
use Rattle.cg_docspec.specs.Machine.Run.{step, answer}
use Rattle.cg_docspec.proofs.Answering.Answers.{is_answer}
use lib.Utf8.{encode}

-- where the machine gives the answers, they are right
all_right : (es : List Example) → map (λ e. answer e.text) es ≡ map (λ e. e.answer) es → AllRight es
all_right [] e = tt
all_right (x ∷ es) e =
    let here : answer x.text ≡ x.answer = cc in
    let more : map (λ e. answer e.text) es ≡ map (λ e. e.answer) es = cc in
    (subst (λ (a : Answer). IsAnswer x.text a) here (is_answer x.text), all_right es more)

pub examples_right : AllRight examples
unfolding step in_gap in_gap_return begin_token begin_item begin_value delivered keyed in_key in_plain in_plain_return in_plain_slash in_comment in_slash in_block in_block_return is_literal plain_kind skip_digits decimal quoted_end outside_escape behind_backslash in_unit in_quoted in_two_quotes inside_line in_lines encode
examples_right = all_right examples refl
