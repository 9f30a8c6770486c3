use Rattle.std.proofs.Common.{map, ap, ◌∙◌, ◌++◌}
use Rattle.std.proofs.lemmas.Result.{IfOk-weaker}
use Rattle.cg_svspec.specs.WellFormed.{inputs_of, instance_driven}
use Rattle.cg_sv.specs.Views.{entry_of, module_of, port_of}
use Rattle.cg_svcheck.specs.Lookups.{has}
use Rattle.cg_svcheck.proofs.Driving.{known_first}
use Rattle.cg_svcheck.proofs.judged.known_names.Goals as goal

pub returns : goal.returns
returns c =
    let ins = inputs_of (map port_of c.args.«module».now.ports) in
    let names =
    ap (map (λ s. s.now)) c.as_slice-3.ensures.value
    ∙ c.in_ok-add_by_instances.ensures ins c.requires
    ∙ ap (λ es. map (λ s. s.now) c.in_ok-names.names.items ++ instance_driven ins (map entry_of es)) c.as_slice-2.ensures
    ∙ ap (λ ns. ns ++ instance_driven ins (map entry_of c.args.«module».now.entries)) (c.in_ok-names.ensures ∙ ap (λ ps. inputs_of (map port_of ps)) c.as_slice.ensures) in
    IfOk-weaker c.of.result _ _
    (λ known held. known_first (module_of c.args.«module».now) (map (λ s. s.now) c.as_slice-3.result.now) (has known) names held) c.of.ensures
