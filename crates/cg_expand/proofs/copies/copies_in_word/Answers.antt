use Rattle.std.proofs.Common.{◌*◌, ap, arith}
use Rattle.cg_expand.proofs.Multiregs.{word_starts}
use Rattle.cg_expand.proofs.copies.copies_in_word.Goals as goal

pub overflow_mul-number : goal.overflow_mul-number
overflow_mul-number c =
    let few = c.requires.valid.few_copies in
    omega (arith, word_starts c.args.multireg.now c.args.number c.requires.valid c.requires.word, ap (λ n. c.args.number * n) c.copies_per_word-per_word.ensures)
