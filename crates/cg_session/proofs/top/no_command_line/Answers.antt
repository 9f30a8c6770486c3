use Rattle.std.proofs.Common.{[], ◌∷◌, ◌++◌, codes, sym, ap, ◌∙◌, append_assoc}
use Rattle.std.specs.Fmt.{decimal}
use Rattle.cg_session.proofs.top.no_command_line.Goals as goal

-- the text, and its line feed behind all of it
pub returns : goal.returns
returns c =
    c.from_string.ensures ∙ c.in_ok-line.ensures.ok
    ∙ ap (λ z. codes "session command " ++ z) (sym (append_assoc (decimal c.args.number) (codes " is not a command") (10 ∷ [])))
