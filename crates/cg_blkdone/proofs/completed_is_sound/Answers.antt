use Rattle.cg_blkdone.proofs.SoundAll.{completed_sound}
use Rattle.cg_blkdone.proofs.completed_is_sound.Goals as goal

pub returns : goal.returns
returns c = completed_sound
