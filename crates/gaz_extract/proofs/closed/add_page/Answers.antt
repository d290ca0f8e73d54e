use Rattle.std.proofs.Common.{◌≡◌, ◌∙◌, ap, subst, ◌++◌, List, arith}
use Rattle.std.specs.List.{filter_map}
use Rattle.gaz_records.specs.declared.item.Item.{Item}
use Rattle.gaz_records.specs.declared.item.Kind.TheVariants as kind
use Rattle.gaz_keeper.specs.Board.{view_after}
use Rattle.gaz_keeper.specs.Keeper.{Content}
use Rattle.gaz_views.specs.Reading.{left_after}
use Rattle.gaz_views.specs.Words.{rest_of}
use Rattle.gaz_keeper.proofs.Keeping.{keeps_then}
use Rattle.gaz_extract.specs.Closing.{closed_by}
use Rattle.gaz_extract.specs.Remembering.{Recalls}
use Rattle.gaz_extract.proofs.Lists.{told_more}
use Rattle.gaz_extract.proofs.closed.add_page.Goals as goal

pub returns-clause-tells : goal.returns-clause-tells
returns-clause-tells g c =
    let first = c.in_ok-page.ensures.tells in
    let second = c.in_ok-add_items.ensures.tells in
    let v = view_after (g.K.Shelf.seen c.args.keeper.now).content.board c.args.code c.args.volume in
    let told = closed_by (g.K.Shelf.seen c.args.keeper.now).content.board c.args.register.now c.args.code in
    let before = c.args.walk.now.closed.items in
    let asked_before = c.args.walk.now.asked.entries in
    let more = c.add_items.new.walk.closed.items in
    let asked_then = c.add_items.new.walk.asked.entries in
    record {
      keeps = keeps_then _ _ _ first.keeps second.keeps;
      right = λ stood fine within was_right.
          let mid = second.keeps.harm fine in
          let both = subst (λ (k : Content). Recalls k.board c.args.register.now c.args.code asked_before asked_then
          (more ≡ before ++ filter_map (closed_by k.board c.args.register.now c.args.code) c.as_slice.result.now))
          (first.keeps.content stood mid) (second.right (first.keeps.stands stood mid) fine) was_right in
          let added = both.1 ∙ ap (λ (is : List Item). before ++ filter_map told is) c.as_slice.ensures.value in
          (both.0, told_more told before _ c.in_ok-page.page.items.items (left_after v kind.Lpi c.in_ok-page.page.next) (rest_of v kind.Lpi c.args.after) added (first.right stood mid within));
      counts = record { kept = (let one = first.counts.kept in let two = second.counts.kept in omega arith); store = tt; trust = λ t. first.counts.trust (second.counts.trust t) };
    }
