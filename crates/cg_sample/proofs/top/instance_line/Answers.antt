use Rattle.std.proofs.Common.{◌≡◌, ◌%◌, string_bytes, ap, ◌∙◌}
use Rattle.std.proofs.lemmas.Result.{IfOk-weaker}
use Rattle.cg_sample.specs.Sample.{block_name, inst_line, instance_line}
use Rattle.cg_sample.proofs.top.instance_line.Goals as goal

-- the line is that of these three texts
pub returns : goal.returns
returns c =
    let name = c.as_str.ensures ∙ c.in_ok-name.ensures in
    let kind = c.as_str-2.ensures ∙ c.in_ok-kind.ensures ∙ ap (λ t. block_name (c.args.place % t)) c.type_count.ensures in
    let base = c.deref.ensures ∙ c.in_ok-base.ensures in
    IfOk-weaker
    c.inst_line.result
    (λ line. string_bytes line ≡ inst_line c.as_str.result.now c.as_str-2.result.now c.deref.result.now)
    (λ line. string_bytes line ≡ instance_line c.args.number c.args.place)
    (λ line is. is ∙ (λ i. inst_line (name i) (kind i) (base i)))
    c.inst_line.ensures
