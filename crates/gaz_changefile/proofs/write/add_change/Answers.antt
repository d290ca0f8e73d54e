use Rattle.std.specs.Prelude.{decimal}
use Rattle.gaz_records.specs.Items.{kind_of}
use Rattle.gaz_records.specs.Kinds.{identifier}
use Rattle.gaz_changefile.specs.Writing.{action_text}
use Rattle.gaz_changefile.proofs.Written.{by_parts, item_behind}
use Rattle.gaz_changefile.proofs.write.add_change.Goals as goal

pub returns : goal.returns
returns c =
    let start = rw (c.text.ensures, c.kind.ensures, c.deref.ensures, c.text-2.ensures, c.as_bytes.ensures.value, c.format.ensures.text) at c.in_ok-start.ensures in
    by_parts c.args.out.now.items _ _ _ _ _ _ _ (rw (c.deref-2.ensures.value, start) at c.in_ok-extend_from_slice.ensures.items)
    c.in_ok-push.ensures.items (rw c.deref-3.ensures at c.in_ok-write_item.ensures.row) c.in_ok-push-2.ensures.items
    (item_behind (identifier (kind_of c.args.change.now.item)) (action_text c.args.change.now.action) (decimal c.args.order) c.args.change.now.item)
