use Rattle.std.proofs.Common.{◌≡◌, ◌∙◌, inl, length, rules, sym, btree_map_len}
use Rattle.std.specs.Vec.{vec_len}
use Rattle.std.proofs.lemmas.Bool.{eqb-false}
use Rattle.toml.specs.View.{table_view}
use Rattle.gaz_register.proofs.Documents.{drafts-keys, drafts-whole, key_count-members}
use Rattle.gaz_register.proofs.draft.drafts_in.Goals as goal

pub returns-then-len-ne1 : goal.returns-then-len-ne1
returns-then-len-ne1 c =
    let es = c.args.table.now.entries in
    let len : btree_map_len c.args.table.now ≡ length es = search rules in
    inl (sym (drafts-keys (table_view c.args.table.now) (λ e. c.if-len-ne1.true (c.len.ensures.len ∙ len ∙ sym (key_count-members es) ∙ e))))

pub returns : goal.returns
returns c =
    let es = c.args.table.now.entries in
    let vs = c.in_ok-items.items.now.items in
    let table = table_view c.args.table.now in
    let len : btree_map_len c.args.table.now ≡ length es = search rules in
    let count = key_count-members es ∙ sym len ∙ sym c.len.ensures.len ∙ c.if-len-ne1.false in
    let size : vec_len c.in_ok-items.items.now ≡ length vs = search rules in
    let some = eqb-false (vec_len c.in_ok-items.items.now) 0 (sym c.is_empty.ensures ∙ c.if-is_empty.false) in
    rw (drafts-whole table vs count (sym c.in_ok-items.ensures) (λ e. some (size ∙ e)), ← c.deref.ensures.value) c.drafts_from.ensures
