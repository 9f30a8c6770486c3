use Rattle.std.proofs.Common.{arith, sym, subst, refl, inl, inr}
use Rattle.std.specs.Str.{IsValidUpTo}
use Rattle.cg_files.specs.Files.{IsTooLarge, some_file}
use Rattle.cg_files.proofs.FirstOnes.{first_large, first_not_utf8, named}
use Rattle.cg_files.proofs.file.text_of.Goals as goal
use Rattle.cg_files.proofs.file.text_of.Goals.{then-bytes-gt-LIMIT-via-then-bytes-gt-LIMIT, then-bytes-gt-LIMIT-via-else-bytes-gt-LIMIT+then-before-bytes}

-- too many bytes, in the file or in all
pub returns-then-bytes-gt-LIMIT : goal.returns-then-bytes-gt-LIMIT
returns-then-bytes-gt-LIMIT c =
    let file = some_file c.args.file c.args.before c.args.bytes.now in
    let many : IsTooLarge c.args.before c.args.bytes.now = elim c.then-bytes-gt-LIMIT.branch [
      | then-bytes-gt-LIMIT-via-then-bytes-gt-LIMIT w ↦ inl (omega (arith, w.if-bytes-gt-LIMIT))
      | then-bytes-gt-LIMIT-via-else-bytes-gt-LIMIT+then-before-bytes w ↦ inr (omega (arith, w.if-bytes-gt-LIMIT, w.if-before-bytes))
    ] in
    named _ _ _ _ c.large_file.ensures (first_large file c.args.bytes.now refl many)

-- a byte that is not UTF-8
pub returns-in-Err : goal.returns-in-Err
returns-in-Err c =
    let file = some_file c.args.file c.args.before c.args.bytes.now in
    let few : ¬ IsTooLarge c.args.before c.args.bytes.now =
    (λ large. elim large [ inl many ↦ absurd (omega (arith, c.if-bytes-gt-LIMIT.false)) | inr many ↦ absurd (omega (arith, c.if-bytes-gt-LIMIT.false, c.if-before-bytes.false)) ]) in
    let good = subst (IsValidUpTo c.args.bytes.now) (sym c.valid_up_to.ensures) c.in-Err.ensures.cases.1 in
    named _ _ _ _ c.not_utf8.ensures (first_not_utf8 file c.args.bytes.now _ refl few good)
