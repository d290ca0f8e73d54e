use Rattle.std.proofs.Common.{refl}
use Rattle.httparse.proofs.OnLiterals.{httparse_on_literals}
use Rattle.gaz_exchange.specs.Framing.{length_of}
use Rattle.gaz_exchange.proofs.laws.worked_framing.Goals as goal

pub returns : goal.returns
unfolding length_of httparse_on_literals
returns c = record {
  told = refl;
  other_case = refl;
  not_told = refl;
  coded = refl;
  coded_and_told = refl;
  twice = refl;
  empty = refl;
  signed = refl;
  two_in_one = refl;
  none = refl;
  greatest = refl;
  one_more = refl;
  of_20_digits = refl;
  leading_zeros = refl;
  asked = refl;
  asked_told = refl;
  asked_coded = refl;
}
