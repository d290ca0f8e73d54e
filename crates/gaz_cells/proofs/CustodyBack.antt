-- What became of a number goes through its cells and back.
use Rattle.std.proofs.Common.{◌≡◌, ℕ, true, refl, arith}
use Rattle.std.specs.Prelude.{◌==◌}
use Rattle.std.proofs.lemmas.Bool.{and_parts}
use Rattle.std.proofs.lemmas.Bool.Decides.{nat_tests}
use Rattle.gaz_ids.specs.Numbers.{in_range}
use Rattle.gaz_views.specs.declared.custody.Custody.TheVariants.{Adopted, Released}
use Rattle.gaz_cells.specs.Custody.{CustodyReadsBack}
use Rattle.gaz_cells.proofs.Ids.{uprn_back}

number_same : (n : ℕ) → (n == n) ≡ true
number_same n = grind (arith, nat_tests)

pub custody_back : CustodyReadsBack
custody_back uprn (Released to hop) is known = let both = and_parts (in_range 1 9999 to) (in_range 1 9999 hop) known in rw (uprn_back uprn is, number_same uprn, both.0, both.1) refl
custody_back uprn (Adopted from hop) is known = let both = and_parts (in_range 1 9999 from) (in_range 1 9999 hop) known in rw (uprn_back uprn is, number_same uprn, both.0, both.1) refl
