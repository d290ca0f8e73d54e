use Rattle.std.proofs.Common.{◌∙◌, ap, refl, List, [], arith}
use Rattle.gaz_records.specs.declared.item.Item.{Item}
use Rattle.gaz_views.proofs.Pages.{page_added}
use Rattle.gaz_keeper.specs.Board.{view_after}
use Rattle.gaz_views.specs.Reading.{next_after}
use Rattle.gaz_extract.specs.Paging.{most_page, rising}
use Rattle.gaz_extract.proofs.Rising.{pages_rise}
use Rattle.gaz_extract.proofs.page.read_page.Goals as goal

pub returns-clause-tells : goal.returns-clause-tells
returns-clause-tells g c =
    let read = c.in_ok-items.ensures in
    let v = view_after (g.K.Shelf.seen c.args.keeper.now).content.board c.args.code c.args.volume in
    let items = c.in_ok-items.items.items in
    let last = c.next_after-next.ensures.next ∙ ap (λ (is : List Item). rising c.args.after (next_after most_page is)) c.as_slice.ensures.value in
    record {
      keeps = read.keeps;
      right = λ stood fine within.
          let is = read.right stood fine within in
          let keyed = (((g.K.Shelf.seen c.args.keeper.now).lawful stood).views c.args.code c.args.volume).keyed in
          page_added v c.args.kind c.args.after most_page [] items items c.next_after-next.result keyed (omega arith) is refl
          (last ∙ pages_rise v c.args.kind c.args.after most_page items keyed is);
      counts = record { kept = read.counts.kept; store = tt; trust = read.counts.trust };
    }
