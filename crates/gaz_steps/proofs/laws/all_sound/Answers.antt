use Rattle.gaz_steps.proofs.Headline.{all_sound_holds}
use Rattle.gaz_steps.proofs.laws.all_sound.Goals as goal

pub returns : goal.returns
returns c = all_sound_holds
