use Rattle.std.proofs.Common.{◌≡◌, Some, sym, subst, true}
use Rattle.std.specs.Bool.{if◌then◌else◌}
use Rattle.gaz_records.specs.Items.{is_item}
use Rattle.gaz_overlay.specs.Rows.{never}
use Rattle.gaz_tables.specs.Stores.{AddsRow}
use Rattle.gaz_row_items.specs.Versions.{values_of}
use Rattle.gaz_kept.specs.Keeping.{AddsItem, WritesVersions}
use Rattle.gaz_kept.proofs.Writes.{writes_as}
use Rattle.gaz_kept.proofs.keeping_keys.add_item.Goals as goal

pub returns-clause-added : goal.returns-clause-added
returns-clause-added g c =
    let row = c.in-Some.row in
    let code = c.args.code in
    let volume = c.args.volume in
    let known : is_item row.item ≡ true = subst (λ x. is_item x ≡ true) c.deref.ensures c.known.ensures in
    let same : values_of code volume c.gone_of-gone.result c.deref-2.result.now ≡ values_of code volume (if row.current then never else volume) row.item = λ i. values_of code volume (c.gone_of-gone.ensures i) (c.deref-2.ensures i) in
    subst (λ adds. WritesVersions g.S.Store c.args.tx.now.conn.now c.add_row.new.tx.conn.now c.add_row.result (AddsItem code volume adds)) (sym c.in-Some.is)
    (writes_as g.S.Store c.args.tx.now.conn.now c.add_row.new.tx.conn.now c.add_row.result (AddsRow (values_of code volume c.gone_of-gone.result c.deref-2.result.now)) (AddsItem code volume (Some row))
    (λ a b adds. (c.code_known.ensures, known, subst (λ v. AddsRow v a b) same adds)) c.add_row.ensures.added)
