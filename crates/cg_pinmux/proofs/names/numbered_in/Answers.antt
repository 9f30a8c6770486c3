use Rattle.std.proofs.Common.{◌≡◌, ◌-◌, length, drop, Some, None, sym, ap, ◌∙◌, arith}
use Rattle.std.proofs.lemmas.List.{length-drop, take_all}
use Rattle.cg_pinmux.specs.Brackets.{bit_number}
use Rattle.cg_pinmux.proofs.Naming.{not_numbered, numbered}
use Rattle.cg_pinmux.proofs.Reading.{number_read, plain_none, split_at}
use Rattle.cg_pinmux.proofs.names.numbered_in.Goals as goal
use Rattle.cg_pinmux.proofs.names.numbered_in.Goals.{In-None, In-Some}

read_some : (c : In-Some) → bit_number (drop c.args.bracket c.args.text.now) ≡ Some c.in-Some.bit
read_some c = ap bit_number (sym (take_all (length c.args.text.now - c.args.bracket) (drop c.args.bracket c.args.text.now) (omega (arith, length-drop c.args.bracket c.args.text.now)))) ∙ sym c.bit_number.ensures ∙ c.in-Some.is

read_none : (c : In-None) → bit_number (drop c.args.bracket c.args.text.now) ≡ None
read_none c = ap bit_number (sym (take_all (length c.args.text.now - c.args.bracket) (drop c.args.bracket c.args.text.now) (omega (arith, length-drop c.args.bracket c.args.text.now)))) ∙ sym c.bit_number.ensures ∙ c.in-None.is

pub bit_in-requires-clause-plain : goal.bit_in-requires-clause-plain
bit_in-requires-clause-plain c = plain_none _ (split_at c.args.text.now c.args.bracket c.requires.place).plain

pub bit_in-requires-clause-few : goal.bit_in-requires-clause-few
bit_in-requires-clause-few c = (number_read _ c.in-Some.bit (read_some c)).0

pub returns-in-Some : goal.returns-in-Some
returns-in-Some c =
    numbered c.args.ports.now c.requires.valid c.args.inst c.args.text.now c.args.bracket c.in-Some.bit c.bit_in.result c.requires.place (read_some (goal.at.returns-in-Some c).In-Some) c.bit_in.ensures

pub returns-in-None : goal.returns-in-None
returns-in-None c = not_numbered c.args.ports.now c.requires.valid c.args.inst c.args.text.now c.args.bracket c.requires.place (read_none c)
