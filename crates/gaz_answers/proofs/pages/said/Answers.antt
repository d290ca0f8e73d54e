use Rattle.gaz_answers.proofs.Saying.{said_told}
use Rattle.gaz_row_items.proofs.Told.{item_there, shown_key}
use Rattle.gaz_answers.proofs.pages.said.Goals as goal

pub returns-clause-said : goal.returns-clause-said
returns-clause-said c = said_told c.args.kind c.args.row.now c.in_ok-key.key c.in_ok-key.ensures.said c.next_item_in.result c.next_item_in.ensures.said

pub returns-in_err-key-clause-told : goal.returns-in_err-key-clause-told
returns-in_err-key-clause-told c = λ shows. absurd (c.in_err-key.ensures.told (shown_key c.args.kind c.args.row.now shows))

pub returns-clause-told : goal.returns-clause-told
returns-clause-told c = λ shows. c.next_item_in.ensures.told (item_there c.args.kind c.args.row.now c.in_ok-key.key shows c.in_ok-key.ensures.said)
