use Rattle.std.proofs.Common.{refl}
use Rattle.httparse.proofs.OnLiterals.{httparse_on_literals}
use Rattle.gaz_http.specs.Headers.{is_closing}
use Rattle.gaz_http.proofs.laws.worked_closings.Goals as goal

pub returns : goal.returns
unfolding is_closing httparse_on_literals
returns c = record {
  goes_on = refl;
  of_http_1_0 = refl;
  kept_alive = refl;
  close = refl;
  among_others = refl;
  in_a_second = refl;
  longer_word = refl;
  other_header = refl;
}
