use Rattle.std.proofs.Common.{map, option_map, sym, ap, ◌∙◌}
use Rattle.std.specs.FinMap as fin
use Rattle.cg_keep.proofs.Building.{described_of, others_count}
use Rattle.cg_keep.proofs.build.source_of_top.Goals as goal

-- there are as many other files as the top names
pub design-requires-clause-count : goal.design-requires-clause-count
design-requires-clause-count c =
    others_count (option_map (λ b. b.now)) c.as_slice-2.result.now c.args.files.now c.in_ok-names.names c.args.source.top c.in_ok-types.types
    (ap (map (option_map (λ b. b.now))) c.as_slice-2.ensures.value ∙ c.in_ok-others.ensures ∙ ap (map (fin.get c.args.files.now)) c.as_slice.ensures)
    c.in_ok-names.ensures

-- what they describe together, or the first of all that they break
pub returns-clause-describes : goal.returns-clause-describes
returns-clause-describes c top is =
    described_of top c.args.files.now c.files_are_of_one_top.ensures.unbroken (option_map (λ b. b.now) c.args.own) c.args.source.tree c.args.source.top c.in_ok-types.types
    c.in_ok-names.names (map (option_map (λ b. b.now)) c.as_slice-2.result.now)
    is c.requires.described c.in_ok-types.ensures.types c.in_ok-names.ensures
    (ap (map (option_map (λ b. b.now))) c.as_slice-2.ensures.value ∙ c.in_ok-others.ensures ∙ ap (map (fin.get c.args.files.now)) c.as_slice.ensures)
    c.design.result (c.design.ensures.merges (option_map (λ b. b.now) c.args.own) c.requires.described (sym c.size_of.ensures))
