use Rattle.gaz_rules.proofs.SoundBoards.{stays_sound_holds}
use Rattle.gaz_rules.proofs.laws.stays_sound.Goals as goal

pub returns : goal.returns
returns c = stays_sound_holds
