use Rattle.std.proofs.Common.{◌<◌, length, refl, ◌∙◌, arith, not, ap}
use Rattle.std.proofs.lemmas.Bool.{false≢true}
use Rattle.cg_desc.specs.Merged.{BaseIs}
use Rattle.cg_merge.proofs.InstanceRules.{none_is, none_of, one_more_base, some_of}
use Rattle.cg_merge.proofs.instances.lacks_one.Goals as goal

pub returns-then-is_none : goal.returns-then-is_none
returns-then-is_none c =
    let within : c.loop-face.face < length c.args.block.now.faces = rw c.len-face-end.ensures at c.loop-face-test.true in
    let none = none_of c.find_base.result (c.is_none.ensures ∙ ap not c.if-is_none.true) in
    (λ e. (c.loop-face.face, within, none_is c.find_base.result c.find_base.ensures none), λ has. refl)

pub loop-face-preserved : goal.loop-face-preserved
loop-face-preserved c f less =
    let some = some_of c.find_base.result (c.is_none.ensures ∙ ap not c.if-is_none.false) in
    one_more_base {P = λ k b. BaseIs c.args.top.now c.args.inst k b} c.loop-face.face some.0 c.loop-face.invariant ((c.find_base.ensures some.0).0 some.1) f less

pub returns : goal.returns
returns c =
    let most = rw c.len-face-end.ensures at c.loop-face-test.false in
    (λ e. absurd (false≢true e), λ has. let base = c.loop-face.invariant has.0 (let within = has.1 in omega arith) in absurd (has.2 base.0 base.1))
