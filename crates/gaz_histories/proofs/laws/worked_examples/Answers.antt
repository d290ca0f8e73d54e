use Rattle.std.proofs.Common.{refl}
use Rattle.gaz_histories.proofs.laws.worked_examples.Goals as goal

pub returns : goal.returns
returns c = record {
  nothing_before = refl;
  as_inserted = refl;
  as_updated = refl;
  stays = refl;
  deleted = refl;
  stays_deleted = refl;
  unused_before = refl;
  used = refl;
  stays_used = refl;
  set_again = refl;
  lives_on = refl;
  lives_again = refl;
  comes_and_goes = refl;
}
