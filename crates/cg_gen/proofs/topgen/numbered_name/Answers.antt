use Rattle.std.proofs.Common.{◌≡◌, ◌++◌, Some, length, slice_get, refl, sym, ap, ◌∙◌}
use Rattle.std.proofs.lemmas.Option.{slice_get_past, slice_get_read}
use Rattle.cg_gen.specs.Reads.{name_of_file}
use Rattle.cg_gen.proofs.Planning.{if_ok}
use Rattle.cg_gen.proofs.TopDue.{name_nowhere, name_there}
use Rattle.cg_gen.proofs.topgen.numbered_name.Goals as goal

-- the file of this number
pub returns-in-Some : goal.returns-in-Some
returns-in-Some c reads named =
    let found = c.in-Some.ensures.lookup in
    let at : slice_get c.args.names.now c.args.number ≡ Some c.in-Some.name.now = slice_get_read c.args.names.now (length c.args.names.now) c.args.number c.in-Some.name.now refl found.3.0 found.1 in
    if_ok (λ t. t ≡ c.args.folder.now ++ c.as_str.result.now) (λ t. t ≡ name_of_file reads c.args.number) c.whole_name.result
    (λ t is. is ∙ ap (λ n. c.args.folder.now ++ n) c.as_str.ensures ∙ sym (name_there c.args.folder.now reads c.args.names.now c.args.number c.in-Some.name.now named at)) c.whole_name.ensures

-- there is none
pub returns-in-None : goal.returns-in-None
returns-in-None c reads named =
    c.new.ensures ∙ sym (name_nowhere c.args.folder.now reads c.args.names.now c.args.number named (slice_get_past c.args.names.now c.args.number c.in-None.ensures.lookup.3))
