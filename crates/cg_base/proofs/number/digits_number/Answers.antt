use Rattle.std.proofs.Common.{Option, Some, None, ap, ◌<◌, ◌≡◌, ℕ, ◌+◌, ◌*◌, false, true, refl, get_or, drop, sym, ◌∙◌, inl, inr}
use Rattle.std.proofs.lemmas.List.{drop_more, at_drop_all}
use Rattle.std.specs.Char.{digit_value}
use Rattle.std.specs.Option.{ok_or}
use Rattle.cg_base.specs.declared.number.NumFault.TheVariants.{TooWide}
use Rattle.cg_base.specs.Number.Scan.{Finds, StandsFor, digits_from}
use Rattle.cg_base.proofs.NumberScan.{digits_from-digit, digits_from-underscore, digits_from-other}
use Rattle.cg_base.proofs.number.digits_number.Goals as goal
use Rattle.cg_base.proofs.number.digits_number.Goals.{in-Some, in-None}

pub returns-in-None-2 : goal.returns-in-None-2
returns-in-None-2 c =
    let step = drop_more c.args.bytes.now c.loop-byte.byte-index 0 c.loop-byte-test.true in
    let none : digit_value (get_or c.args.bytes.now c.loop-byte.byte-index 0) < c.args.base → ⊥ = rw c.from.ensures at c.in-None.ensures.value in
    sym c.loop-byte.invariant.1 ∙ rw step (digits_from-other _ _ _ _ _ none (inl (c.if-byte-eq95.true, c.if-after_digit.false)))

pub returns-in-None-2-2 : goal.returns-in-None-2-2
returns-in-None-2-2 c =
    let step = drop_more c.args.bytes.now c.loop-byte.byte-index 0 c.loop-byte-test.true in
    let none : digit_value (get_or c.args.bytes.now c.loop-byte.byte-index 0) < c.args.base → ⊥ = rw c.from.ensures at c.in-None.ensures.value in
    sym c.loop-byte.invariant.1 ∙ rw step (digits_from-other _ _ _ _ _ none (inr c.if-byte-eq95.false))

pub loop-byte-preserved : goal.loop-byte-preserved
loop-byte-preserved c =
    let step = drop_more c.args.bytes.now c.loop-byte.byte-index 0 c.loop-byte-test.true in
    let i = c.loop-byte.invariant in
    let byte : ℕ = get_or c.args.bytes.now c.loop-byte.byte-index 0 in
    elim c.match-to_digit.branch [
      | in-Some w ↦
          let some : digit_value byte < c.args.base = rw c.from.ensures at w.in-Some.ensures.value.0 in
          let same : w.in-Some.digit ≡ digit_value byte = w.in-Some.ensures.value.1 ∙ ap digit_value c.from.ensures in
          let up : digits_from c.args.base c.loop-byte.after_digit i.0 (drop c.loop-byte.byte-index c.args.bytes.now) ≡ digits_from c.args.base true (i.0 * c.args.base + digit_value byte) (drop (c.loop-byte.byte-index + 1) c.args.bytes.now) = rw step (digits_from-digit _ _ _ _ _ some) in
          (i.0 * c.args.base + digit_value byte, rw w.after_digit-is (sym up ∙ i.1), rw (w.number-is, ← same) (w.with_digit-number.ensures i.0 i.2))
      | in-None w ↦
          let none : digit_value byte < c.args.base → ⊥ = rw c.from.ensures at w.in-None.ensures.value in
          let up : digits_from c.args.base true i.0 (drop c.loop-byte.byte-index c.args.bytes.now) ≡ digits_from c.args.base false i.0 (drop (c.loop-byte.byte-index + 1) c.args.bytes.now) = rw step (digits_from-underscore _ _ _ _ none w.if-byte-eq95.true) in
          (i.0, rw w.after_digit-is (sym up ∙ rw w.if-after_digit.true at i.1), rw w.number-is i.2)
    ]

-- what is kept of the number gives what the reader answers
finds_kept : (kept : Option ℕ) (n : ℕ) → StandsFor kept n → Finds (Some n) (ok_or kept TooWide)
finds_kept None n wide = (n, refl, wide)
finds_kept (Some v) n is = ap Some (sym is)

pub returns-then-after_digit-2 : goal.returns-then-after_digit-2
unfolding digits_from
returns-then-after_digit-2 c =
    let i = c.loop-byte.invariant in
    let end = at_drop_all (digits_from c.args.base c.loop-byte.after_digit i.0) c.args.bytes.now c.loop-byte.byte-index c.loop-byte-test.false in
    let last : digits_from c.args.base false 0 c.args.bytes.now ≡ Some i.0 = sym i.1 ∙ end ∙ rw c.if-after_digit-2.true in
    rw (c.ok_or.ensures.value, last) (finds_kept c.loop-byte.number i.0 i.2)

pub returns-else-after_digit-2 : goal.returns-else-after_digit-2
unfolding digits_from
returns-else-after_digit-2 c =
    let end = at_drop_all (digits_from c.args.base c.loop-byte.after_digit c.loop-byte.invariant.0) c.args.bytes.now c.loop-byte.byte-index c.loop-byte-test.false in
    sym c.loop-byte.invariant.1 ∙ end ∙ rw c.if-after_digit-2.false
