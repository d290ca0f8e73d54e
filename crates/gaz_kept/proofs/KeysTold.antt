-- What a key's newest row tells of the views of a store's tables.
use Rattle.std.proofs.Common.{◌≡◌, ◌∙◌, ℕ, pos, true, List, sym, ap, subst}
use Rattle.std.specs.Prelude.{Option, Some, None, option_map}
use Rattle.std.specs.FinMap as map
use Rattle.sqlite.specs.Effect.{Database}
use Rattle.sqlite.specs.Order.{Row}
use Rattle.gaz_cells.specs.Ids.{id_of, is_key, kind_in}
use Rattle.gaz_records.specs.Kinds.{number_of}
use Rattle.gaz_records.specs.declared.item.Item.{Item}
use Rattle.gaz_records.specs.declared.item.Kind.{Kind}
use Rattle.gaz_records.specs.declared.key.Key.{Key}
use Rattle.gaz_records.specs.declared.key.Key.TheVariants as key
use Rattle.gaz_views.specs.View.{View}
use Rattle.gaz_views.specs.Words.{address_of, approved_of, property_of}
use Rattle.gaz_overlay.specs.Rows.{HistoryRow}
use Rattle.gaz_overlay.specs.declared.touch.Stood.{Stood}
use Rattle.gaz_tables.specs.Schema.{received, version2}
use Rattle.gaz_tables.specs.Versions.{FindsApprovedOf, FindsNewest, FindsNewestUntil}
use Rattle.gaz_tables.specs.Tables.{rows_of}
use Rattle.gaz_row_items.specs.Addresses.{SaysKeys, SaysLeast}
use Rattle.gaz_row_items.specs.Newest.{IsNewest, IsNewestUntil, SaysNewest, SaysStood, current_in, item_after, stood_by}
use Rattle.gaz_row_items.specs.Versions.{histories_in, view_in}
use Rattle.gaz_row_items.specs.declared.newest.Life.{Life}
use Rattle.gaz_kept.specs.Files.{reached_in}
use Rattle.gaz_kept.specs.Kept.{IsKept}
use Rattle.gaz_kept.specs.LastViews.{last_in}
use Rattle.gaz_kept.proofs.AtKeys.{item_at, last_item}
use Rattle.gaz_kept.proofs.Approved.{address_told, approved_told}
use Rattle.gaz_kept.proofs.NewestRows.{newest_stood, newest_told, newest_until_told}
use Rattle.gaz_kept.proofs.Reached.{reached_room}

module _ (db : Database) (c : ℕ) (k : Key) (life : Option Life) (kept : IsKept db) where
  abbrev rows : List HistoryRow
  rows = histories_in (rows_of db version2) c

  pub current_told : IsNewest rows k life → current_in life ≡ map.get (last_in db c).items k
  current_told newest = sym (last_item rows _ (reached_room db c kept) (kept.histories c) k life newest)

  pub at_told : (volume until : ℕ) → until ≡ volume → IsNewestUntil until rows k life → item_after volume life ≡ map.get (view_in (rows_of db version2) c volume).items k
  at_told volume until same newest = sym (item_at rows (kept.histories c).apart volume k life (subst (λ v. IsNewestUntil v rows k life) same newest))

-- ---- what is found and read

pub newest_of : (db : Database) (c : ℕ) (k : Key) (kind : Kind) (id : List ℕ) (rows : List Row) (life : Option Life) → IsKept db → is_key k ≡ true → kind ≡ kind_in k → id ≡ id_of k
    → FindsNewest c (number_of kind) id (rows_of db version2) rows → SaysNewest k rows life → IsNewest (histories_in (rows_of db version2) c) k life
newest_of db c k kind id rows life kept known is_kind is_id found says =
    newest_told c k (rows_of db version2) rows kept.rows known
    (subst (λ i. FindsNewest c (number_of (kind_in k)) i (rows_of db version2) rows) is_id (subst (λ q. FindsNewest c (number_of q) id (rows_of db version2) rows) is_kind found)) life says

-- of which only what stands there was read
pub stood_of_rows : (db : Database) (c : ℕ) (k : Key) (kind : Kind) (id : List ℕ) (rows : List Row) (stood : Stood) → IsKept db → is_key k ≡ true → kind ≡ kind_in k → id ≡ id_of k
    → FindsNewest c (number_of kind) id (rows_of db version2) rows → SaysStood rows stood → (life : Option Life) × IsNewest (histories_in (rows_of db version2) c) k life × (stood ≡ stood_by life)
stood_of_rows db c k kind id rows stood kept known is_kind is_id found says =
    newest_stood c k (rows_of db version2) rows kept.rows known
    (subst (λ i. FindsNewest c (number_of (kind_in k)) i (rows_of db version2) rows) is_id (subst (λ q. FindsNewest c (number_of q) id (rows_of db version2) rows) is_kind found)) stood says

pub newest_until_of : (db : Database) (c volume : ℕ) (k : Key) (kind : Kind) (id : List ℕ) (rows : List Row) (life : Option Life) → IsKept db → is_key k ≡ true → kind ≡ kind_in k → id ≡ id_of k
    → FindsNewestUntil c (number_of kind) id volume (rows_of db version2) rows → SaysNewest k rows life → IsNewestUntil volume (histories_in (rows_of db version2) c) k life
newest_until_of db c volume k kind id rows life kept known is_kind is_id found says =
    newest_until_told c k (rows_of db version2) rows kept.rows known volume
    (subst (λ i. FindsNewestUntil c (number_of (kind_in k)) i volume (rows_of db version2) rows) is_id (subst (λ q. FindsNewestUntil c (number_of q) id volume (rows_of db version2) rows) is_kind found)) life says

-- ---- a BLPU

module _ (db : Database) (c uprn : ℕ) (answer : List Row) (kept : IsKept db) (found : FindsApprovedOf c (pos uprn) (rows_of db version2) answer) where
  pub approved_of_told : (keys : List Key) → SaysKeys answer keys → keys ≡ approved_of (last_in db c) uprn
  approved_of_told = approved_told c uprn (reached_in (rows_of db received) c) (rows_of db version2) answer kept.rows (reached_room db c kept) (kept.histories c) found

  pub address_of_told : (x : Option Item) → SaysLeast answer x → x ≡ address_of (last_in db c) uprn
  address_of_told = address_told c uprn (reached_in (rows_of db received) c) (rows_of db version2) answer kept.rows (reached_room db c kept) (kept.histories c) found

pub no_property : (v : View) (uprn : ℕ) → None ≡ map.get v.items (key.Blpu uprn) → None ≡ property_of v uprn
no_property v uprn none = ap (option_map (λ (b : Item). record { blpu = b; address = address_of v uprn })) none

pub its_property : (v : View) (uprn : ℕ) (blpu : Item) (address : Option Item) → Some blpu ≡ map.get v.items (key.Blpu uprn) → address ≡ address_of v uprn → Some (record { blpu = blpu; address = address }) ≡ property_of v uprn
its_property v uprn blpu address there is =
    (λ i. Some (record { blpu = blpu; address = is i }))
    ∙ ap (option_map (λ (b : Item). record { blpu = b; address = address_of v uprn })) there
