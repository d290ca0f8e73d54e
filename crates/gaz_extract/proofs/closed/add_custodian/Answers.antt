use Rattle.std.proofs.Common.{◌≡◌, ◌≤◌, ◌∙◌, ap, sym, subst, ◌++◌, ℕ, not, arith}
use Rattle.std.specs.Global.{Vec}
use Rattle.std.specs.List.{filter_map}
use Rattle.std.specs.Prelude.{None}
use Rattle.gaz_records.specs.declared.item.Kind.TheVariants as kind
use Rattle.gaz_keeper.specs.Board.{last_view, reached, view_after}
use Rattle.gaz_keeper.specs.Keeper.{Content}
use Rattle.gaz_views.specs.Reading.{left_after}
use Rattle.gaz_views.specs.Words.{rest_of}
use Rattle.gaz_keeper.proofs.Keeping.{keeps_then}
use Rattle.gaz_extract.specs.Closing.{closed_by, closed_of}
use Rattle.gaz_extract.specs.declared.closed.Closed.{Closed}
use Rattle.gaz_extract.specs.Remembering.{Recalls}
use Rattle.gaz_extract.proofs.Turns.{left_is_rest}
use Rattle.gaz_extract.proofs.closed.add_custodian.Goals as goal

pub pages-preserved : goal.pages-preserved
pages-preserved g c =
    let so_far = c.pages.invariant in
    let more = c.in_ok-next-2.ensures.tells in
    let code = c.args.code in
    let register = c.args.register.now in
    let was = g.K.Shelf.seen c.args.keeper.now in
    let old = c.pages.walk.closed.items in
    let new = c.add_page-in-pages.new.walk.closed.items in
    let asked_before = c.pages.walk.asked.entries in
    let asked_then = c.add_page-in-pages.new.walk.asked.entries in
    let next = c.pages.next in
    let after = c.in_ok-next-2.next in
    let last = last_view was.content.board code in
    let added = λ (stood : was.stands) (fine : (g.K.Shelf.seen c.add_page-in-pages.new.keeper).unharmed).
    let mid = more.keeps.harm fine in
    let then = subst
    (λ (k : Content). c.in_ok-volume.volume ≤ reached k.board code → Recalls k.board register code asked_before asked_then
    (new ++ filter_map (closed_by k.board register code) (left_after (view_after k.board code c.in_ok-volume.volume) kind.Lpi after) ≡ old ++ filter_map (closed_by k.board register code) (rest_of (view_after k.board code c.in_ok-volume.volume) kind.Lpi next)))
    (so_far.keeps.content stood mid) (more.right (so_far.keeps.stands stood mid) fine) in
    let here = subst
    (λ (n : ℕ). n ≤ reached was.content.board code → Recalls was.content.board register code asked_before asked_then
    (new ++ filter_map (closed_by was.content.board register code) (left_after (view_after was.content.board code n) kind.Lpi after) ≡ old ++ filter_map (closed_by was.content.board register code) (rest_of (view_after was.content.board code n) kind.Lpi next)))
    (so_far.volume stood mid) then in
    here (omega arith) (so_far.right stood mid) in
    record {
      keeps = keeps_then _ _ _ so_far.keeps more.keeps;
      not_open = c.in_ok-next-2.ensures.not_open;
      counted = (let one = so_far.counted in let two = more.counts.kept in omega arith);
      trust = λ t. so_far.trust (more.counts.trust t);
      volume = λ stood fine. so_far.volume stood (more.keeps.harm fine);
      right = λ stood fine. (added stood fine).0;
      left = λ stood fine.
          (added stood fine).1 ∙ ap (λ l. old ++ filter_map (closed_by was.content.board register code) l) (sym (left_is_rest last kind.Lpi next (c.is_none.ensures ∙ ap not c.if-is_none.false)))
          ∙ so_far.left stood (more.keeps.harm fine);
    }

pub pages-smaller : goal.pages-smaller
pages-smaller g c = c.in_ok-next-2.ensures.fewer (c.is_none.ensures ∙ ap not c.if-is_none.false)

pub pages-init : goal.pages-init
pages-init g c =
    let first = c.in_ok-volume.ensures in
    let second = c.in_ok-next.ensures.tells in
    let code = c.args.code in
    let register = c.args.register.now in
    let was = g.K.Shelf.seen c.args.keeper.now in
    let start = c.forget.new.self.closed.items in
    let forgotten = c.forget.new.self.asked.entries in
    let new = c.add_page.new.walk.closed.items in
    let asked = c.add_page.new.walk.asked.entries in
    let after = c.in_ok-next.next in
    let added = λ (stood : was.stands) (fine : (g.K.Shelf.seen c.add_page.new.keeper).unharmed).
    let mid = second.keeps.harm fine in
    let then = subst
    (λ (k : Content). c.in_ok-volume.volume ≤ reached k.board code → Recalls k.board register code forgotten asked
    (new ++ filter_map (closed_by k.board register code) (left_after (view_after k.board code c.in_ok-volume.volume) kind.Lpi after) ≡ start ++ filter_map (closed_by k.board register code) (rest_of (view_after k.board code c.in_ok-volume.volume) kind.Lpi None)))
    (first.keeps.content stood mid) (second.right (first.keeps.stands stood mid) fine) in
    let here = subst
    (λ (n : ℕ). n ≤ reached was.content.board code → Recalls was.content.board register code forgotten asked
    (new ++ filter_map (closed_by was.content.board register code) (left_after (view_after was.content.board code n) kind.Lpi after) ≡ start ++ filter_map (closed_by was.content.board register code) (rest_of (view_after was.content.board code n) kind.Lpi None)))
    (first.right stood mid) then in
    here (omega arith) (c.forget.ensures.asked was.content.board register code) in
    record {
      keeps = keeps_then _ _ _ first.keeps second.keeps;
      not_open = c.in_ok-next.ensures.not_open;
      counted = (let one = first.counts.kept in let two = second.counts.kept in omega arith);
      trust = λ t. first.counts.trust (second.counts.trust t);
      volume = λ stood fine. first.right stood (second.keeps.harm fine);
      right = λ stood fine. (added stood fine).0;
      left = λ stood fine. (added stood fine).1 ∙ ap (λ (v : Vec Closed). v.items ++ closed_of was.content.board register code) c.forget.ensures.closed;
    }
