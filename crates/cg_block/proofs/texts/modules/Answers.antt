use Rattle.std.proofs.Common.{◌<◌, ◌++◌, length, ap, ◌∙◌, sym, arith, map, append-nil, Err}
use Rattle.cg_sv.specs.Views.{module_of}
use Rattle.cg_block.specs.Outputs.{first_clash}
use Rattle.cg_block.proofs.Loops.{clash_here, no_clash_here, made_more, none_left, same_fault}
use Rattle.cg_block.proofs.texts.modules.Goals as goal

-- the interface's module has the first clash
pub returns-in-Err-clause-clash : goal.returns-in-Err-clause-clash
returns-in-Err-clause-clash c = λ n e.
    let h : c.loop-face.face < length c.args.laid.now.faces = omega (arith, c.loop-face-test.true, c.len-face-end.ensures) in
    clash_here c.args.laid.now c.loop-face.face n _ h (c.in-Err.ensures.clash n (ap Err (same_fault _ _ e))) c.loop-face.invariant.1

-- it has none, and is made
pub loop-face-preserved : goal.loop-face-preserved
loop-face-preserved c =
    let h : c.loop-face.face < length c.args.laid.now.faces = omega (arith, c.loop-face-test.true, c.len-face-end.ensures) in (
      rw c.in_ok-push-in-Ok.ensures.ok (made_more c.args.laid.now c.loop-face.face _ _ _ h c.in-Ok.ensures.made c.loop-face.invariant.0),
      no_clash_here c.args.laid.now c.loop-face.face _ h c.in-Ok.ensures.apart c.loop-face.invariant.1,
    )

-- all are made
pub returns-clause-made : goal.returns-clause-made
returns-clause-made c =
    let none = none_left c.args.laid.now c.loop-face.face (omega (arith, c.loop-face-test.false, c.len-face-end.ensures)) in
    sym (ap (λ xs. map module_of c.loop-face.modules ++ xs) none ∙ append-nil _) ∙ c.loop-face.invariant.0

-- and none has a clash
pub returns-clause-apart : goal.returns-clause-apart
unfolding first_clash
returns-clause-apart c =
    let none = none_left c.args.laid.now c.loop-face.face (omega (arith, c.loop-face-test.false, c.len-face-end.ensures)) in
    sym c.loop-face.invariant.1 ∙ ap first_clash none
