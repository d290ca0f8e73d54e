use Rattle.std.proofs.Common.{◌∙◌, sym, ap, not}
use Rattle.gaz_keeper.specs.Board.{view_after}
use Rattle.gaz_extract.specs.Drafts.{with_items}
use Rattle.gaz_extract.proofs.Rows.{with-none}
use Rattle.gaz_extract.proofs.Turns.{none_left}
use Rattle.gaz_extract.proofs.extracts.add_kind.Goals as goal

pub returns-then-is_none-clause-tells : goal.returns-then-is_none-clause-tells
returns-then-is_none-clause-tells g c =
    let so_far = c.pages.invariant in
    let draft = c.pages.written.draft in
    let v = view_after (g.K.Shelf.seen c.args.keeper.now).content.board c.args.code c.args.volume in
    let none = none_left v c.args.kind c.pages.written.next (c.is_none.ensures ∙ ap not c.if-is_none.true) in
    record {
      keeps = so_far.keeps;
      right = λ stood fine within. sym (with-none draft) ∙ ap (with_items draft) (sym none) ∙ so_far.left stood fine within;
      counts = record { kept = so_far.counted; store = tt; trust = so_far.trust };
    }

pub pages-smaller : goal.pages-smaller
pages-smaller g c = c.in_ok-written-2.ensures.fewer (c.is_none.ensures ∙ ap not c.if-is_none.false)
