-- The order of keys is total, and keys that tie are one.
use Rattle.std.proofs.Common.{◌≡◌, refl}
use Rattle.std.specs.Ordering.{nat_cmp, ordering_then}
use Rattle.std.specs.declared.cmp.Ordering.{Ordering}
use Rattle.std.specs.declared.cmp.Ordering.TheVariants.{Less, Equal, Greater}
use Rattle.gaz_ids.specs.declared.lang.Lang.TheVariants.{Cym, Eng}
use Rattle.gaz_records.specs.Keys.{key_cmp}
pub use Rattle.gaz_records.specs.KeyTies.{keys_exact, keys_total}
use Rattle.gaz_records.specs.declared.key.Key.{Key}
use Rattle.gaz_records.specs.contracts.key.KeyOrd.TheImpl.{cmp-value}
use Rattle.gaz_records.specs.declared.key.Key.TheVariants as key

then-equal : (o : Ordering) → o ≡ ordering_then o Equal
then-equal Less = refl
then-equal Equal = refl
then-equal Greater = refl

-- a derived comparison of keys is that order
pub keys_same : (a b : Key) → cmp-value.it a b ≡ key_cmp a b
keys_same (key.Street n) (key.Street m) = then-equal (nat_cmp n m)
keys_same (key.Descriptor n Cym) (key.Descriptor m Cym) = refl
keys_same (key.Descriptor n Cym) (key.Descriptor m Eng) = refl
keys_same (key.Descriptor n Eng) (key.Descriptor m Cym) = refl
keys_same (key.Descriptor n Eng) (key.Descriptor m Eng) = refl
keys_same (key.Blpu n) (key.Blpu m) = then-equal (nat_cmp n m)
keys_same (key.Xref t) (key.Xref u) = refl
keys_same (key.Lpi t) (key.Lpi u) = refl
keys_same a b = refl

pub ruleset orders = (keys_same)
