use Rattle.std.proofs.Common.{◌∙◌, ap}
use Rattle.gaz_keeper.specs.Board.{view_after}
use Rattle.gaz_views.specs.Reading.{next_after}
use Rattle.gaz_views.proofs.Pages.{page_added}
use Rattle.gaz_samples.proofs.reading.add_page.Goals as goal

pub returns-clause-reads : goal.returns-clause-reads
returns-clause-reads g c =
    let read = c.in_ok-page.ensures in
    let was = g.S.Shelf.seen c.args.keeper.now in
    let v = view_after was.content.board c.args.code c.args.volume in
    let next = c.next_after-next.ensures ∙ ap (next_after c.args.most) c.as_slice.ensures.value in
    record {
      keeps = read.keeps;
      right = λ stood fine within.
          page_added v c.args.kind c.args.after c.args.most c.args.items.now.items c.in_ok-page.page.items c.append.new.self.items c.next_after-next.result ((was.lawful stood).views c.args.code c.args.volume).keyed c.requires.size (read.right stood fine within) c.in_ok-append.ensures.items next;
      cleared = read.cleared;
      counts = record { kept = read.counts.kept; store = tt; trust = read.counts.trust };
    }
