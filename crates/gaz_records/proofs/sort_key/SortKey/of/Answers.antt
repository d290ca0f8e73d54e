use Rattle.gaz_records.proofs.SortOrder.{is_sort_key, key_back}
use Rattle.gaz_records.proofs.sort_key.SortKey.of.Goals as goal

pub invariant_of-result : goal.invariant_of-result
invariant_of-result c = let e = c.numbers_of-high.ensures in rw (e.high, e.low) (is_sort_key c.args.key.now e.number e.label)

pub returns : goal.returns
returns c = let e = c.numbers_of-high.ensures in rw (e.high, e.low) (key_back c.args.key.now e.number e.label)
