use Rattle.std.proofs.Common.{◌≡◌, drop}
use Rattle.cg_outputs.specs.Inner.{put_outputs}
use Rattle.cg_chip.specs.Inner.{crossbar_texts, crossbars_fault}
use Rattle.cg_chip.proofs.crossbars.put_crossbars.Given as goal

-- what is put and what is left are all, and no name so far comes twice
abbrev pub invariant-loop-number : goal.invariant-loop-number
invariant-loop-number l = record {
  put : put_outputs l.outputs (crossbar_texts (drop l.number l.xbars) (drop l.number l.ranges)) ≡ put_outputs l.fn.outputs (crossbar_texts l.xbars l.ranges);
  clear : crossbars_fault (drop l.number l.xbars) (drop l.number l.ranges) ≡ crossbars_fault l.xbars l.ranges;
}
