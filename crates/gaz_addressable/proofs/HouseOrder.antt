-- A derived comparison of house numbers is their order.
use Rattle.std.proofs.Common.{◌≡◌, ℕ, refl, Some, None}
use Rattle.std.specs.Prelude.{Option}
use Rattle.gaz_addressable.specs.HouseNumbers.{HouseNumberValue, house_cmp}
use Rattle.gaz_addressable.specs.contracts.number.HouseNumberOrd.TheImpl.{cmp-value}

by_parts : (n m : ℕ) (s t : Option ℕ)
    → cmp-value.it (record { n = n; suffix = s }) (record { n = m; suffix = t }) ≡ house_cmp (record { n = n; suffix = s }) (record { n = m; suffix = t })
by_parts n m None None = refl
by_parts n m None (Some d) = refl
by_parts n m (Some c) None = refl
by_parts n m (Some c) (Some d) = refl

pub houses_same : (a b : HouseNumberValue) → cmp-value.it a b ≡ house_cmp a b
houses_same a b = by_parts a.n b.n a.suffix b.suffix

pub ruleset orders = (houses_same)
