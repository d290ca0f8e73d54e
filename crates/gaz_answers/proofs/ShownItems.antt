-- What is shown of a row of `version2` is as a store writes it.
use Rattle.std.proofs.Common.{◌≡◌, ◌∙◌, ◌≤◌, inl, inr, ℕ, pos, true, [], ◌∷◌, refl, sym, ap, subst}
use Rattle.std.specs.Prelude.{Some, is_some}
use Rattle.sqlite.specs.Order.{Row, column}
use Rattle.sqlite.specs.declared.types.Value.{Value}
use Rattle.sqlite.specs.declared.types.Value.TheVariants.{Int}
use Rattle.gaz_records.specs.Items.{item_of_text, kind_of}
use Rattle.gaz_records.specs.Keys.{key_of}
use Rattle.gaz_records.specs.Kinds.{is_entry_kind, number_of}
use Rattle.gaz_records.specs.declared.item.Kind.{Kind}
use Rattle.gaz_records.specs.declared.key.Key.{Key}
use Rattle.gaz_cells.specs.Columns.{CellsValue, cells_of}
use Rattle.gaz_cells.specs.Ids.{id_of, is_key, key_named, kind_in}
use Rattle.gaz_overlay.specs.Rows.{HistoryRow}
use Rattle.gaz_tables.specs.Rowids.{row_shown, rowid_of}
use Rattle.gaz_tables.specs.Versions as table
use Rattle.gaz_tables.specs.Versions.{IsOfKey, body_shown, life_shown}
use Rattle.gaz_row_items.specs.Decoding.{IsItemAt, NamesKey, ShowsItem}
use Rattle.gaz_row_items.specs.Newest.{SaysLife}
use Rattle.gaz_row_items.specs.Versions.{IsText, IsWhole, living, number_in, text_in}
use Rattle.gaz_row_items.specs.declared.newest.Life.{Life}
use Rattle.gaz_kept.specs.Kept.{IsItemRow, IsVersion}
use Rattle.gaz_kept.proofs.RowsRead.{born_as, fits, gone_version, history_of, item_of, some_same}
use Rattle.gaz_kept.proofs.RowsRead.{kind_row as keyed_row}
use Rattle.gaz_answers.proofs.Fits.{of_kind}
use Rattle.gaz_answers.proofs.Holding.{kind_row}
use Rattle.gaz_answers.proofs.StreetRows.{named}

-- ---- a row of an item

-- its body is that of its item
shows_body : (r : Row) (v : IsItemRow r) (k : Key) → key_of (item_of r v).item ≡ k → (shown : Row) (place : ℕ) → column shown place ≡ table.body_of r → IsItemAt shown place k (item_of r v).item
shows_body r v k own shown place there =
    let s = item_of r v in
    let fit = fits s.item s.known s.entry in
    let kinds : kind_in k ≡ kind_of s.item = ap kind_in (sym own) ∙ fit.kind in
    let bodies : text_in (table.body_of r) ≡ (cells_of s.item).body = ap (λ (d : CellsValue). d.body) (sym s.cells) in
    record {
      text = text_in (table.body_of r);
      there = there ∙ v.body;
      body = record { read = (λ i. item_of_text (kinds i) (bodies i)) ∙ fit.body; own = own };
    }

-- a row of a kind of entries
module _ (kd : Kind) (entry : is_entry_kind kd ≡ true) (r : Row) (version : IsVersion r) (its_kind : table.kind_of r ≡ Int (pos (number_of kd))) where
  its_row : IsItemRow r
  its_row = kind_row kd r entry version its_kind

  abbrev its_key : Key
  its_key = key_of (item_of r its_row).item

  names_it : key_named kd (text_in (table.id_of r)) ≡ Some its_key
  names_it = let s = item_of r its_row in named r version s.item s.said kd (of_kind r version s.item s.said kd its_kind)

  pub shows_key : (shown : Row) → column shown 0 ≡ table.id_of r → NamesKey kd shown 0
  shows_key shown first = record {
    text = subst IsText (sym first) its_row.id;
    named = ap (λ v. is_some (key_named kd (text_in v))) first ∙ ap is_some names_it;
  }

  pub shows_item : ShowsItem kd (body_shown r)
  shows_item = record {
    key = its_key;
    text = its_row.id;
    named = names_it;
    item = ((item_of r its_row).item, shows_body r its_row its_key refl (body_shown r) 1 refl);
  }

-- ---- a row of a key

module _ (c : ℕ) (k : Key) (known : is_key k ≡ true) (r : Row) (version : IsVersion r) (fit : IsOfKey c (number_of (kind_in k)) (id_of k) r) where
  key_row : IsItemRow r
  key_row = keyed_row k r version (ap number_in fit.of_kind)

  -- its item is the key's
  own : key_of (item_of r key_row).item ≡ k
  own =
      let s = item_of r key_row in
      let born = born_as c k (number_in (table.born_of r)) r version known (record { of_key = fit; of_born = key_row.born }) in
      let h = living (number_in (table.born_of r)) (number_in (table.gone_of r)) s.item in
      ap (λ (h : HistoryRow). h.key) (some_same h born.row (history_of c r s (ap number_in fit.of_cust)) born.is) ∙ born.key

  pub shows_life : (life : Life) × SaysLife k (life_shown r) life
  shows_life = (
    record { born = number_in (table.born_of r); gone = number_in (table.gone_of r); item = (item_of r key_row).item },
    record { born = key_row.born; gone = key_row.gone; item = shows_body r key_row k own (life_shown r) 2 refl },
  )

-- ---- any row

-- from which volume until which it lasts
pub record Lasts (r : Row) : Type 0 where
  pub born : IsWhole (table.born_of r)
  pub gone : IsWhole (table.gone_of r)
  pub in_turn : number_in (table.born_of r) ≤ number_in (table.gone_of r)

pub lasts : (r : Row) → IsVersion r → Lasts r
lasts r (inl v) = record { born = v.born; gone = v.gone; in_turn = v.in_turn }
lasts r (inr v) = record { born = v.born; gone = v.gone; in_turn = v.in_turn }

abbrev ends_with : Row → Value → Row
ends_with r gone = rowid_of r ∷ table.cust_of r ∷ table.kind_of r ∷ table.id_of r ∷ table.blpu_of r ∷ table.street_of r ∷ table.lang_of r ∷ table.live_of r ∷ table.born_of r ∷ gone ∷ table.body_of r ∷ table.hop_of r ∷ []

-- all that is shown of it is one
pub shows_version : (r : Row) → IsVersion r → IsVersion (row_shown r)
shows_version r v = let l = lasts r v in subst (λ gone. IsVersion (ends_with r gone)) (sym l.gone) (gone_version (number_in (table.gone_of r)) r v l.in_turn)
