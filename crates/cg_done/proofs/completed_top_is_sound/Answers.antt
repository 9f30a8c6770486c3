use Rattle.cg_done.proofs.SoundTop.{completed_sound}
use Rattle.cg_done.proofs.completed_top_is_sound.Goals as goal

pub returns : goal.returns
returns c = completed_sound
