use Rattle.std.proofs.Common.{◌≡◌, ◌<◌, length, map, option_map, refl, ap, subst, sym, ◌∙◌, arith}
use Rattle.cg_design.specs.Files.{files_from}
use Rattle.cg_design.specs.Inner.Reading.{AreCrossbarsRead, BreaksListed, DescribesListed}
use Rattle.cg_desc.specs.declared.crossbar.XbarDesc.{XbarDesc}
use Rattle.cg_desc.specs.declared.top.XbarUse.{XbarUse}
use Rattle.std.proofs.lemmas.Option.{slice_get_read}
use Rattle.cg_design.proofs.Counting.{count_next, count_none}
use Rattle.cg_design.proofs.Readings.{read_none}
use Rattle.cg_design.proofs.Rows.{given_at}
use Rattle.cg_design.proofs.Steps.{crossbar_next}
use Rattle.cg_design.proofs.crossbars.read_crossbars.Goals as goal

pub loop-number-init : goal.loop-number-init
loop-number-init c exact count = (
  count_none (map (option_map (λ b. b.now)) c.args.given.now) exact c.args.before count,
  read_none XbarUse XbarDesc BreaksListed DescribesListed c.args.listed.now (files_from 1 exact (map (option_map (λ b. b.now)) c.args.given.now)) c.new-reading.result c.new-reading.ensures.found c.new-reading.ensures.first,
)

pub loop-number-preserved : goal.loop-number-preserved
loop-number-preserved c exact count =
    let so_far = c.loop-number.invariant exact count in
    let at = given_at c.args.given.now c.loop-number.number c.loop-number-test.true in
    let all = c.requires.count in
    let less = c.loop-number-test.true in
    let within : c.loop-number.number < length c.args.listed.now = omega arith in
    let listed = slice_get_read c.args.listed.now (length c.args.listed.now) c.loop-number.number c.index-listed-number.result refl within c.index-listed-number.is in
    let name : c.as_str-name.result.now ≡ c.index-listed-number.result.name = c.as_str-name.ensures ∙ ap (λ (u : XbarUse). u.name) (sym c.index-listed-number.is) in (
      count_next (map (option_map (λ b. b.now)) c.args.given.now) exact c.loop-number.number _ c.loop-number.count c.behind-count.result at so_far.0 c.behind-count.ensures,
      crossbar_next (map (option_map (λ b. b.now)) c.args.given.now) exact c.loop-number.count c.loop-number.number _ at so_far.0 c.args.listed.now c.index-listed-number.result listed
          c.loop-number.reading c.in_ok-reading.reading c.read_crossbar-read.result (rw name at c.read_crossbar-read.ensures.finds) c.read_crossbar-read.ensures.valid c.in_ok-reading.ensures so_far.1,
    )

pub returns : goal.returns
returns c exact count =
    let all = c.requires.count in
    let most = c.loop-number-test.false in
    let end = c.loop-number.auto.number-end in
    let same : c.loop-number.number ≡ length c.args.listed.now = omega arith in
    subst (λ n. AreCrossbarsRead c.args.listed.now (files_from 1 exact (map (option_map (λ b. b.now)) c.args.given.now)) n c.loop-number.reading) same (c.loop-number.invariant exact count).1
