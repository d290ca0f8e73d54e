-- Custodies can be stored as the values of models.
use Rattle.std.specs.Coded.{Coded, coded_list, coded_ℕ, coded_option, coded×}
use Rattle.std.specs.FinMap as map
use Rattle.gaz_views.specs.contracts.custody.Custody as custody
use Rattle.gaz_ledger.specs.Custodies.{Custodies}

abbrev pub custodies_code : Coded Custodies
custodies_code =
    map.code coded_ℕ (coded_list (coded× coded_ℕ (coded_option custody.the_row.coded)))
