use Rattle.gaz_records.proofs.ItemsBack.{fields-back, text-back}
use Rattle.gaz_records.proofs.laws.items_read_back.Goals as goal

pub returns : goal.returns
returns c = λ x h. (fields-back x h, text-back x h)
