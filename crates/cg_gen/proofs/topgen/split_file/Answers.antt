use Rattle.std.proofs.Common.{◌+◌, take, sym, subst, arith}
use Rattle.std.proofs.lemmas.Str.Pattern.{rfind_char}
use Rattle.cg_gen.specs.Topgen.{StandsIn}
use Rattle.cg_gen.proofs.Folders.{found_none, found_some}
use Rattle.cg_gen.proofs.topgen.split_file.Goals as goal

-- up to and including the last slash
pub returns-in-Some : goal.returns-in-Some
returns-in-Some c =
    let file = c.args.file.now in
    let found = found_some file c.rfind.result c.in-Some.place c.in-Some.is (rfind_char 47 file c.rfind.result c.rfind.ensures.cases (omega arith)) in
    subst (λ folder. StandsIn file folder c.split_at.result.1.now) (sym c.split_at.ensures.front) (subst (StandsIn file (take (c.in-Some.place + 1) file)) (sym c.split_at.ensures.back) found)

-- there is no slash
pub returns-in-None : goal.returns-in-None
returns-in-None c = found_none c.args.file.now c.rfind.result c.in-None.is (rfind_char 47 c.args.file.now c.rfind.result c.rfind.ensures.cases (omega arith))
