-- Keys that tie are one.
use Rattle.std.proofs.Common.{◌≡◌, true, refl}
use Rattle.std.specs.Ordering.{eq_by_cmp, is_eq}
use Rattle.std.specs.declared.cmp.Ordering.{Ordering}
use Rattle.std.specs.declared.cmp.Ordering.TheVariants.{Less, Equal, Greater}
use Rattle.gaz_records.proofs.KeyOrder.{keys_exact}
use Rattle.gaz_records.specs.Keys.{key_cmp}
use Rattle.gaz_records.specs.declared.key.Key.{Key}

is_equal : (o : Ordering) → is_eq o ≡ true → o ≡ Equal
is_equal Less e = cc
is_equal Equal e = refl
is_equal Greater e = cc

pub same_key : (q k : Key) → eq_by_cmp key_cmp q k ≡ true → q ≡ k
same_key q k e = keys_exact q k (is_equal _ e)
