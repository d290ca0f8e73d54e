use Rattle.std.proofs.Common.{◌≡◌, ◌∙◌, sym, true≢false}
use Rattle.sqlite_rules.proofs.ListLemmas.{all_more}
use Rattle.gaz_records.specs.declared.item.Kind.TheVariants as kind
use Rattle.gaz_row_items.specs.Addresses.{Names}
use Rattle.gaz_row_items.specs.Decoding.{ShowsItem}
use Rattle.gaz_row_items.proofs.KeysNamed.{address_at}
use Rattle.gaz_row_items.proofs.Told.{each_at, item_there, none_so, shown_key}
use Rattle.gaz_row_items.proofs.addresses.address_said.Goals as goal

pub returns-then-are_one-clause-said : goal.returns-then-are_one-clause-said
returns-then-are_one-clause-said c =
    address_at c.args.rows.now c.args.key.now c.in_ok-found.found c.row-item.result c.loop-row.row-index c.item_in.result c.loop-row-test.true c.row-item.is c.in_ok-found.ensures.said (c.are_one.ensures.0 c.if-are_one.true) c.item_in.ensures.said

pub returns-in_err-found-clause-told : goal.returns-in_err-found-clause-told
returns-in_err-found-clause-told c = λ shows.
    let row = each_at (ShowsItem kind.Lpi) c.args.rows.now c.loop-row.row-index c.row-item.result shows.each c.loop-row-test.true c.row-item.is in
    absurd (c.in_err-found.ensures.told (shown_key kind.Lpi c.row-item.result row))

pub returns-then-are_one-clause-told : goal.returns-then-are_one-clause-told
returns-then-are_one-clause-told c = λ shows.
    let row = each_at (ShowsItem kind.Lpi) c.args.rows.now c.loop-row.row-index c.row-item.result shows.each c.loop-row-test.true c.row-item.is in
    let named : Names c.row-item.result c.args.key.now = cc (c.in_ok-found.ensures.said, c.are_one.ensures.0 c.if-are_one.true) in
    c.item_in.ensures.told (item_there kind.Lpi c.row-item.result c.args.key.now row named)

pub loop-row-preserved : goal.loop-row-preserved
loop-row-preserved c =
    all_more (λ r. ¬ Names r c.args.key.now) c.args.rows.now c.loop-row.row-index c.row-item.result c.loop-row-test.true c.row-item.is c.loop-row.invariant (λ named.
    let same : c.in_ok-found.found ≡ c.args.key.now = cc (c.in_ok-found.ensures.said, named) in
    true≢false (sym (c.are_one.ensures.1 same) ∙ c.if-are_one.false))

-- some row names the key
pub returns-clause-told : goal.returns-clause-told
returns-clause-told c = λ shows.
    absurd (none_so (λ r. Names r c.args.key.now) c.args.rows.now c.loop-row.row-index c.loop-row-test.false c.loop-row.invariant shows.row shows.there shows.named)
