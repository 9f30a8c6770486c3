use Rattle.std.proofs.Common.{◌≡◌, ℕ, List, ◌<◌, length, map, option_map, refl, subst, arith}
use Rattle.cg_design.specs.Files.{files_from}
use Rattle.cg_design.specs.Inner.Reading.{AreBlocksRead, DescribesTyped}
use Rattle.cg_design.specs.Breaks.{BreaksBlockFile}
use Rattle.cg_design.specs.declared.block.BlockSource.{BlockSource}
use Rattle.std.proofs.lemmas.Option.{slice_get_read}
use Rattle.cg_design.proofs.Counting.{count_next, count_none}
use Rattle.cg_design.proofs.Readings.{read_none}
use Rattle.cg_design.proofs.Rows.{given_at}
use Rattle.cg_design.proofs.Steps.{block_next}
use Rattle.cg_design.proofs.blocks.read_blocks.Goals as goal

pub loop-number-init : goal.loop-number-init
loop-number-init c exact count = (
  count_none (map (option_map (λ b. b.now)) c.args.given.now) exact c.args.before count,
  read_none (List ℕ) BlockSource BreaksBlockFile DescribesTyped c.args.types.now (files_from c.args.file exact (map (option_map (λ b. b.now)) c.args.given.now)) c.new-reading.result c.new-reading.ensures.found c.new-reading.ensures.first,
)

pub loop-number-preserved : goal.loop-number-preserved
loop-number-preserved c exact count =
    let so_far = c.loop-number.invariant exact count in
    let at = given_at c.args.given.now c.loop-number.number c.loop-number-test.true in
    let all = c.requires.count in
    let less = c.loop-number-test.true in
    let within : c.loop-number.number < length c.args.types.now = omega arith in
    let kind = slice_get_read c.args.types.now (length c.args.types.now) c.loop-number.number c.index-types-number.result refl within c.index-types-number.is in (
      count_next (map (option_map (λ b. b.now)) c.args.given.now) exact c.loop-number.number _ c.loop-number.count c.behind-count.result at so_far.0 c.behind-count.ensures,
      block_next (map (option_map (λ b. b.now)) c.args.given.now) exact c.loop-number.count c.loop-number.number _ at so_far.0 c.args.file c.args.types.now c.index-types-number.result kind
          c.loop-number.reading c.in_ok-reading.reading c.read_block-read.result (rw c.as_str-kind.ensures at c.read_block-read.ensures.finds) c.read_block-read.ensures.valid c.in_ok-reading.ensures so_far.1,
    )

pub returns : goal.returns
returns c exact count =
    let all = c.requires.count in
    let most = c.loop-number-test.false in
    let end = c.loop-number.auto.number-end in
    let same : c.loop-number.number ≡ length c.args.types.now = omega arith in
    subst (λ n. AreBlocksRead c.args.types.now (files_from c.args.file exact (map (option_map (λ b. b.now)) c.args.given.now)) n c.loop-number.reading) same (c.loop-number.invariant exact count).1
