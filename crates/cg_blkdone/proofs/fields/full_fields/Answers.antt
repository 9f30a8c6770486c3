use Rattle.std.proofs.Common.{◌∙◌, ap}
use Rattle.std.proofs.lemmas.Slice.Zip.{Zip-more, either_empty_from_Zip}
use Rattle.serde_json.specs.Data.{array}
use Rattle.cg_blkdone.proofs.Kept.{kept_first, kept_rest}
use Rattle.cg_blkdone.proofs.Loops.{one_more_field, fields_done}
use Rattle.cg_blkdone.proofs.fields.full_fields.Goals as goal

pub full_field-requires : goal.full_field-requires
full_field-requires c =
    let more = Zip-more c.loop-field.field-iterator c.next.new.self c.next.result (c.in-Some.field, c.in-Some.item) c.in-Some.is c.next.ensures.steps in
    kept_first _ _ c.in-Some.item.now more.1 c.loop-field.invariant.1

pub loop-field-preserved : goal.loop-field-preserved
loop-field-preserved c =
    let more = Zip-more c.loop-field.field-iterator c.next.new.self c.next.result (c.in-Some.field, c.in-Some.item) c.in-Some.is c.next.ensures.steps in (
      one_more_field c.args.register_resval c.loop-field.list.items c.push.new.self.items c.in_ok-value.value c.in-Some.field.now c.in-Some.item.now _ _ _ _ _
          more.0 more.1 c.loop-field.invariant.0 c.in_ok-push.ensures.items c.in_ok-value.ensures,
      kept_rest _ _ c.in-Some.item.now more.1 c.loop-field.invariant.1,
    )

pub returns : goal.returns
returns c =
    let end = either_empty_from_Zip c.loop-field.field-iterator c.next.new.self c.next.result c.in-None.is c.next.ensures.steps in
    c.from.ensures ∙ ap array (fields_done c.args.register_resval c.loop-field.list.items _ _ _ end c.loop-field.invariant.0)
