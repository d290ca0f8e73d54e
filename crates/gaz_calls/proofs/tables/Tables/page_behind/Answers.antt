use Rattle.std.proofs.Common.{subst, sym}
use Rattle.gaz_answers.specs.Paging.{SayItems}
use Rattle.gaz_calls.proofs.Answered.{asked_read}
use Rattle.gaz_answers.proofs.PageRows.{page_on_board}
use Rattle.gaz_answers.proofs.ShownVersions.{held_shown}
use Rattle.gaz_row_items.specs.Decoding.{Each, ShowsItem}
use Rattle.gaz_calls.proofs.tables.Tables.page_behind.Goals as goal

pub returns : goal.returns
returns g c =
    asked_read _ _ _ _ c.in_ok-rows.rows c.items_in.result _ _ _ _ _ c.holding_all.ensures c.in_ok-rows.was c.items_in.ensures.said c.items_in.ensures.told c.read.ensures
    (λ db kept found. subst (Each (ShowsItem c.args.kind)) (sym c.deref.ensures.value) (held_shown db kept c.args.code c.args.volume c.args.kind c.requires c.args.start.now c.args.most c.in_ok-rows.rows.items found))
    (λ db kept found items say.
    page_on_board db kept c.args.code c.args.volume c.args.kind c.requires c.args.start.now c.args.most c.in_ok-rows.rows.items found items.items
    (subst (λ rows. SayItems c.args.kind rows items.items) c.deref.ensures.value say))
