use Rattle.gaz_rules.proofs.OwnNumbers.{own_numbers_stay_holds}
use Rattle.gaz_rules.proofs.laws.own_numbers_stay.Goals as goal

pub returns : goal.returns
returns c = own_numbers_stay_holds
