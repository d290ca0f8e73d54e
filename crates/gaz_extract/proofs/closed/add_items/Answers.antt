use Rattle.std.proofs.Common.{◌≡◌, ◌∙◌, ap, sym, subst, ◌++◌, ◌∷◌, [], List, ◌+◌, append-nil, drop, arith}
use Rattle.std.specs.List.{filter_map}
use Rattle.std.proofs.lemmas.List.{drop_all}
use Rattle.gaz_records.specs.declared.item.Item.{Item}
use Rattle.gaz_keeper.specs.Keeper.{Content}
use Rattle.gaz_keeper.proofs.Keeping.{keeps_then}
use Rattle.gaz_extract.specs.Closing.{closed_by}
use Rattle.gaz_extract.specs.Remembering.{Recalls}
use Rattle.gaz_extract.proofs.Lists.{next_item, told_more}
use Rattle.gaz_extract.proofs.closed.add_items.Goals as goal

pub loop-item-preserved : goal.loop-item-preserved
loop-item-preserved g c =
    let so_far = c.loop-item.invariant in
    let more = c.in_ok-add_item.ensures.tells in
    let register = c.args.register.now in
    let code = c.args.code in
    let B = (g.K.Shelf.seen c.args.keeper.now).content.board in
    let i = c.loop-item.item-index in
    let items = c.args.items.now in
    let item = c.item-item.result in
    let old = c.loop-item.walk.closed.items in
    let new = c.add_item.new.walk.closed.items in
    record {
      keeps = keeps_then _ _ _ so_far.keeps more.keeps;
      not_open = c.in_ok-add_item.ensures.not_open;
      counted = (let one = so_far.counted in let two = more.counts.kept in omega arith);
      trust = λ t. so_far.trust (more.counts.trust t);
      left = λ stood fine right.
          let mid = more.keeps.harm fine in
          let before = so_far.left stood mid right in
          let then = subst (λ (k : Content). Recalls k.board register code c.loop-item.walk.asked.entries c.add_item.new.walk.asked.entries
          (new ≡ old ++ filter_map (closed_by k.board register code) (c.deref.result.now ∷ [])))
          (so_far.keeps.content stood mid) (more.right (so_far.keeps.stands stood mid) fine) before.0 in
          let added = then.1 ∙ ap (λ (x : Item). old ++ filter_map (closed_by B register code) (x ∷ [])) c.deref.ensures in
          (then.0, told_more (closed_by B register code) old new (item ∷ []) (drop (i + 1) items) (drop i items) added (sym (next_item items i item c.loop-item-test.true c.item-item.is)) ∙ before.1);
    }

pub returns-clause-tells : goal.returns-clause-tells
returns-clause-tells g c =
    let so_far = c.loop-item.invariant in
    let told = closed_by (g.K.Shelf.seen c.args.keeper.now).content.board c.args.register.now c.args.code in
    let new = c.loop-item.walk.closed.items in
    record {
      keeps = so_far.keeps;
      right = λ stood fine right.
          let both = so_far.left stood fine right in
          (both.0, sym (append-nil new) ∙ ap (λ (xs : List Item). new ++ filter_map told xs) (sym (drop_all c.loop-item.item-index c.args.items.now c.loop-item-test.false)) ∙ both.1);
      counts = record { kept = so_far.counted; store = tt; trust = so_far.trust };
    }
