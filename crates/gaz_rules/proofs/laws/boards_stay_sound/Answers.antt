use Rattle.gaz_rules.proofs.SoundBoards.{boards_stay_sound_holds}
use Rattle.gaz_rules.proofs.laws.boards_stay_sound.Goals as goal

pub returns : goal.returns
returns c = boards_stay_sound_holds
