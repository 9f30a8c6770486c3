use Rattle.std.proofs.Common.{string_bytes, subst}
use Rattle.cg_words.proofs.OtherTools.{IsOther, command_of-other}
use Rattle.cg_words.proofs.reading.command_in.Goals as goal

pub returns-in_default-as_str : goal.returns-in_default-as_str
returns-in_default-as_str c =
    let other : IsOther c.as_str.result.now = record {
      not_regtool = c.in_default-as_str.not-regtool;
      not_tlgen = c.in_default-as_str.not-tlgen;
      not_topgen = c.in_default-as_str.not-topgen;
      not_session = c.in_default-as_str.not-session;
      not_probe = c.in_default-as_str.not-probe;
      not_sample = c.in_default-as_str.not-sample;
    } in
    command_of-other string_bytes c.args.words.now c.tool-item.result c.in-len1-up.len_at_least c.tool-item.is (subst IsOther c.as_str.ensures.value other)
