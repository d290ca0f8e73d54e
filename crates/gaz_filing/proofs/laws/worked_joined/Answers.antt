use Rattle.std.proofs.Common.{refl}
use Rattle.sqlite.specs.declared.file.Leftover.TheVariants as left
use Rattle.gaz_filing.proofs.laws.worked_joined.Goals as goal

pub returns : goal.returns
returns g c = record {
  none = λ call. tt;
  twice = λ files over fine. (refl, tt);
  left_alone = λ files. record { rest = left.Files files; are = refl; unharmed = λ clean image may. may };
  kept_back = λ files fails. fails;
  lost = λ call given. absurd (cc);
}
