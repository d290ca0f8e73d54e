use Rattle.std.proofs.Common.{refl}
use Rattle.gaz_addressable.proofs.laws.worked_order.Goals as goal

pub returns : goal.returns
returns c = record {
  letter_after_none = refl;
  letters_in_turn = refl;
  number_foremost = refl;
  none_after_letter = refl;
  same = refl;
}
