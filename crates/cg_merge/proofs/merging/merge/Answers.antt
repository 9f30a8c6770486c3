use Rattle.cg_merge.proofs.BlockNumbers.{are_kinds}
use Rattle.cg_merge.proofs.merging.merge.Goals as goal

pub judged-requires : goal.judged-requires
judged-requires c = record {
  top = c.requires.valid_top;
  files = c.requires.files;
  crossbars = c.requires.valid_crossbars;
  blocks = c.requires.valid_blocks;
  kinds = are_kinds (record { top = c.args.top; xbars = c.args.xbars; blocks = c.args.blocks; kinds = c.in-Ok.kinds; ends = c.new.result }) c.requires.files
      (rw (c.as_slice.ensures, c.as_slice-2.ensures) at c.in-Ok.ensures);
}
