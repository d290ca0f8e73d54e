use Rattle.std.proofs.Common.{refl}
use Rattle.gaz_calls.proofs.laws.worked_passing.Goals as goal

pub returns : goal.returns
returns c = record { nothing_passed = refl; one_given_up = refl; not_asked = refl; asked_and_none = refl; asked_and_one = refl }
