-- What a store's rows of `version2` have for those who read them.
use Rattle.std.proofs.Common.{◌∙◌, ◌<◌, ◌==◌, not, true≢false, inl, inr, sym, ap, subst, arith}
use Rattle.sqlite.specs.Order.{Row}
use Rattle.gaz_ids.specs.Codes.{lang_number}
use Rattle.gaz_ids.specs.declared.lang.Lang.{Lang}
use Rattle.gaz_ids.specs.declared.lang.Lang.TheVariants.{Cym, Eng}
use Rattle.gaz_ids.specs.declared.status.Status.{Status}
use Rattle.gaz_ids.specs.declared.status.Status.TheVariants.{Approved, Alternative, Provisional, Historical}
use Rattle.gaz_records.specs.declared.item.Item.{Item}
use Rattle.gaz_records.specs.declared.item.Item.TheVariants as item
use Rattle.gaz_cells.specs.Columns.{CellsValue, lang_in, live_number, live_of}
use Rattle.gaz_cells.specs.Custody.{custody_kind}
use Rattle.gaz_row_items.specs.Versions.{IsText, IsWhole}
use Rattle.gaz_kept.specs.Kept.{IsItemRow, IsVersion}
use Rattle.gaz_kept.proofs.RowsRead.{item_of, passage_kind}
use Rattle.gaz_tables.specs.Versions.{body_of, kind_of}
use Rattle.gaz_answers.specs.Lives.{HasLinks, ShowsLife, ShowsVersion}

-- a row that isn't of kind 92 is an item's
pub item_row : (r : Row) → ShowsLife r → IsItemRow r
item_row r (shown, items) = by_sort shown.version
  where
    by_sort : IsVersion r → IsItemRow r
    by_sort (inl v) = v
    by_sort (inr p) = absurd (true≢false (sym items ∙ ap (λ n. not (n == custody_kind)) (passage_kind r p)))

-- each has a body
pub has_body : (r : Row) → ShowsVersion r → IsText (body_of r)
has_body r shown = by_sort shown.version
  where
    by_sort : IsVersion r → IsText (body_of r)
    by_sort (inl v) = v.body
    by_sort (inr p) = p.body

-- and a kind
pub has_kind : (r : Row) → ShowsVersion r → IsWhole (kind_of r)
has_kind r shown = by_sort shown.version
  where
    by_sort : IsVersion r → IsWhole (kind_of r)
    by_sort (inl v) = v.kind
    by_sort (inr p) = p.kind

-- ---- the numbers by which an item is looked for

small_lang : (l : Lang) → lang_number l < 256
small_lang Eng = omega arith
small_lang Cym = omega arith

lang_small : (x : Item) → lang_in x < 256
lang_small (item.Street x) = omega arith
lang_small (item.Descriptor x) = small_lang x.lang
lang_small (item.Blpu x) = omega arith
lang_small (item.Xref x) = omega arith
lang_small (item.Lpi x) = small_lang x.lang
lang_small (item.Release x) = omega arith
lang_small (item.Adopt x) = omega arith

small_live : (s : Status) → live_number s < 256
small_live Approved = omega arith
small_live Alternative = omega arith
small_live Provisional = omega arith
small_live Historical = omega arith

live_small : (x : Item) → live_of x < 256
live_small (item.Street x) = omega arith
live_small (item.Descriptor x) = omega arith
live_small (item.Blpu x) = omega arith
live_small (item.Xref x) = omega arith
live_small (item.Lpi x) = small_live x.status
live_small (item.Release x) = omega arith
live_small (item.Adopt x) = omega arith

-- language and status are small, as the item's are
pub has_links : (r : Row) → IsItemRow r → HasLinks r
has_links r v =
    let s = item_of r v in
    record {
      blpu = v.blpu;
      street = v.street;
      lang = (v.lang, subst (λ n. n < 256) (ap (λ (c : CellsValue). c.links.lang) s.cells) (lang_small s.item));
      live = (v.live, subst (λ n. n < 256) (ap (λ (c : CellsValue). c.links.live) s.cells) (live_small s.item));
    }
