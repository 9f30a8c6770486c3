use Rattle.std.proofs.Common.{◌∷◌, []}
use Rattle.std.proofs.lemmas.Bool.Decides.{Decides-eqb}
use Rattle.std.proofs.lemmas.Slice.Eq.{slice_eq-Decides, strip_prefix_is}
use Rattle.cg_desc.proofs.InterfaceNames.{no_dot, not_behind, with_dot}
use Rattle.cg_desc.proofs.base.is_dotted.Goals as goal

pub returns-in_default : goal.returns-in_default
returns-in_default c =
    let cut = strip_prefix_is Decides-eqb c.as_bytes.result.now c.as_bytes-2.result.now c.strip_prefix.result c.strip_prefix.ensures.cases in
    let none = rw (c.in_default.is, c.as_bytes.ensures.value, c.as_bytes-2.ensures.value) at cut in
    not_behind c.args.name.now c.args.instance.now c.args.interface.now none

pub returns-in_default-strip_prefix : goal.returns-in_default-strip_prefix
returns-in_default-strip_prefix c =
    let cut = strip_prefix_is Decides-eqb c.as_bytes.result.now c.as_bytes-2.result.now c.strip_prefix.result c.strip_prefix.ensures.cases in
    let some = rw (c.in-Some.is, c.as_bytes.ensures.value, c.as_bytes-2.ensures.value) at cut in
    let also = strip_prefix_is Decides-eqb c.in-Some.rest.now (46 ∷ []) c.strip_prefix-2.result c.strip_prefix-2.ensures.cases in
    let none = rw c.in_default-strip_prefix.is at also in
    no_dot c.args.name.now c.args.instance.now c.args.interface.now c.in-Some.rest.now some none

pub returns : goal.returns
returns c =
    let cut = strip_prefix_is Decides-eqb c.as_bytes.result.now c.as_bytes-2.result.now c.strip_prefix.result c.strip_prefix.ensures.cases in
    let some = rw (c.in-Some.is, c.as_bytes.ensures.value, c.as_bytes-2.ensures.value) at cut in
    let also = strip_prefix_is Decides-eqb c.in-Some.rest.now (46 ∷ []) c.strip_prefix-2.result c.strip_prefix-2.ensures.cases in
    let dot = rw c.in-Some-strip_prefix.is at also in
    let same = rw c.as_bytes-3.ensures.value at c.eq.ensures in
    with_dot c.args.name.now c.args.instance.now c.args.interface.now c.in-Some.rest.now c.in-Some-strip_prefix.rest.now c.eq.result some dot
    (slice_eq-Decides Decides-eqb _ _ c.eq.result same)
