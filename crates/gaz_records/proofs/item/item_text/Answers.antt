use Rattle.gaz_records.proofs.ItemsBack.{text-back}
use Rattle.gaz_records.proofs.item.item_text.Goals as goal

pub returns-in_err-write_item-clause-reads_back : goal.returns-in_err-write_item-clause-reads_back
returns-in_err-write_item-clause-reads_back c = text-back c.args.item.now c.known.ensures

pub returns-clause-reads_back : goal.returns-clause-reads_back
returns-clause-reads_back c = text-back c.args.item.now c.known.ensures
