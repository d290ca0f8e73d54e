-- KeyHistories can be stored as the values of models.
use Rattle.std.specs.Coded.{Coded, coded_list, coded_ℕ, coded_option, coded×}
use Rattle.std.specs.FinMap as map
use Rattle.gaz_records.specs.contracts.item.Item as item
use Rattle.gaz_records.specs.contracts.key.Key as key
use Rattle.gaz_standing.specs.KeyHistories.{KeyHistories}

abbrev pub key_histories_code : Coded KeyHistories
key_histories_code =
    map.code key.the_row.coded (coded_list (coded× coded_ℕ (coded_option item.the_row.coded)))
