-- What the newest passage of a number tells of its custodian's last view, and of the key of its BLPU.
use Rattle.std.proofs.Common.{◌≡◌, ◌≢◌, ◌∙◌, ◌≤◌, ◌||◌, ℕ, Bool, true, false, List, [], ◌∷◌, refl, sym, ap, subst, arith, true≢false}
use Rattle.std.specs.Prelude.{Option, Some, None, is_some}
use Rattle.std.specs.FinSet as set
use Rattle.sqlite.specs.Effect.{Database}
use Rattle.sqlite.specs.Order.{Row}
use Rattle.sqlite_rules.specs.Lists.{Has}
use Rattle.gaz_cells.specs.Ids.{id_of, is_key}
use Rattle.gaz_records.proofs.KeyOrder.{keys_total}
use Rattle.gaz_records.specs.declared.key.Key.{Key}
use Rattle.gaz_records.specs.declared.key.Key.TheVariants as key
use Rattle.gaz_views.specs.View.{custody_at, was_used}
use Rattle.gaz_overlay.specs.Over.{IsStood, key_view}
use Rattle.gaz_overlay.specs.Passages.{PassageRow, passed_keys}
use Rattle.gaz_overlay.specs.Rows.{HistoryRow, view_after}
use Rattle.gaz_overlay.specs.declared.touch.Stood.{Stood}
use Rattle.gaz_overlay.specs.declared.touch.Stood.TheVariants.{NoRow, Past, Since}
use Rattle.gaz_tables.specs.Custody.{FindsCustody, FindsCustodyUntil}
use Rattle.gaz_tables.specs.Schema.{received, version2}
use Rattle.gaz_tables.specs.Tables.{rows_of}
use Rattle.gaz_row_items.specs.Newest.{IsNewest, TellsStood, current_in, stood_by}
use Rattle.gaz_row_items.specs.NewestPassages.{HasPassage, SaysPassage, born_of, custody_of}
use Rattle.gaz_row_items.specs.Versions.{histories_in, passages_in, view_in}
use Rattle.gaz_row_items.specs.declared.newest.Life.{Life}
use Rattle.gaz_row_items.specs.declared.passages.Passed.{Passed}
use Rattle.gaz_kept.specs.Files.{reached_in}
use Rattle.gaz_kept.specs.Kept.{IsKept}
use Rattle.gaz_kept.specs.LastViews.{last_in}
use Rattle.gaz_kept.proofs.AtKeys.{last_use, stood_there}
use Rattle.gaz_kept.proofs.NewestPassages.{TellsAt, custody_now, custody_then, passage_told, passage_until_told, passed_now, told_passage}
use Rattle.gaz_kept.proofs.PassageRows.{no_key_passed}
use Rattle.gaz_kept.proofs.Reached.{reached_room}
use Rattle.gaz_calls.specs.Passing.{MayKnow, TellsPassed, any_passed, is_any, knows_none, passages_of, was_passed}

module _ (db : Database) (c uprn : ℕ) (id : List ℕ) (answer : List Row) (passed : Option Passed) (kept : IsKept db) (known : is_key (key.Blpu uprn) ≡ true) (is_id : id ≡ id_of (key.Blpu uprn)) where
  pub passed_told : FindsCustody c id (rows_of db version2) answer → SaysPassage answer passed → TellsPassed db c uprn passed
  passed_told found says = record {
    custody = custody_now db kept c uprn passed t;
    used = sym (passed_now db kept c uprn passed t);
    current = λ volume is. by_some volume passed refl is;
  }
    where
      t : TellsAt (passages_in (rows_of db version2) c) (reached_in (rows_of db received) c) uprn passed
      t = passage_told db kept c uprn known answer passed says (subst (λ i. FindsCustody c i (rows_of db version2) answer) is_id found)

      by_some : (volume : ℕ) (o : Option Passed) → passed ≡ o → born_of o ≡ Some volume → HasPassage (passages_of db c) uprn volume
      by_some volume None none is = cc
      by_some volume (Some p) some is =
          let born : p.born ≡ volume = cc in
          subst (HasPassage (passages_of db c) uprn) born (told_passage db kept c uprn passed t p some)

  pub passed_until_told : (volume : ℕ) → volume ≤ reached_in (rows_of db received) c → FindsCustodyUntil c id volume (rows_of db version2) answer → SaysPassage answer passed
      → custody_of passed ≡ custody_at (view_in (rows_of db version2) c volume) uprn
  passed_until_told volume within found says =
      let room = reached_room db c kept in
      custody_then db kept c volume uprn passed (omega (arith, room, within))
      (passage_until_told db kept c uprn known answer passed says volume (subst (λ i. FindsCustodyUntil c i volume (rows_of db version2) answer) is_id found))

-- where that is known, it is so
pub known_none : (db : Database) (c : ℕ) (known : Option Bool) → MayKnow known db c → knows_none known ≡ true → any_passed db c ≡ false
known_none db c None may none = absurd (true≢false (sym none))
known_none db c (Some true) may none = absurd (true≢false (sym none))
known_none db c (Some false) may none = sym (may false refl)

-- a custodian that passed no number on
module _ (db : Database) (kept : IsKept db) (c : ℕ) (known : any_passed db c ≡ false) where
  none : (p : PassageRow) → ¬ Has (passages_of db c) p
  none = by_rows (passages_of db c) known
    where
      by_rows : (l : List PassageRow) → is_any l ≡ false → (p : PassageRow) → ¬ Has l p
      by_rows [] is p here = here
      by_rows (q ∷ l) is p here = true≢false is

  pub none_told : (uprn : ℕ) → TellsPassed db c uprn None
  none_told uprn = record {
    custody = custody_now db kept c uprn None t;
    used = sym (passed_now db kept c uprn None t);
    current = λ volume is. cc;
  }
    where
      t : TellsAt (passages_in (rows_of db version2) c) (reached_in (rows_of db received) c) uprn None
      t = record { row = None; tells = tt; last = λ p there of_number born. none p there }

-- the key of no number is used by that
pub not_of_number : (db : Database) (c : ℕ) (k : Key) → ((n : ℕ) → key.Blpu n ≢ k) → false ≡ was_passed db c k
not_of_number db c k other = sym (no_key_passed (passages_of db c) (reached_in (rows_of db received) c) k other)

-- and none is where no number was passed on
pub none_used : (db : Database) → IsKept db → (c : ℕ) → any_passed db c ≡ false → (k : Key) → false ≡ was_passed db c k
none_used db kept c none (key.Blpu n) = (none_told db kept c none n).used
none_used db kept c none (key.Street n) = not_of_number db c (key.Street n) (λ m is. cc)
none_used db kept c none (key.Descriptor n l) = not_of_number db c (key.Descriptor n l) (λ m is. cc)
none_used db kept c none (key.Xref t) = not_of_number db c (key.Xref t) (λ m is. cc)
none_used db kept c none (key.Lpi t) = not_of_number db c (key.Lpi t) (λ m is. cc)

-- ---- a key

module _ (db : Database) (c : ℕ) (k : Key) (life : Option Life) (kept : IsKept db) (newest : IsNewest (histories_in (rows_of db version2) c) k life) where
  abbrev rows : List HistoryRow
  rows = histories_in (rows_of db version2) c

  abbrev n : ℕ
  n = reached_in (rows_of db received) c

  -- it is used by its items, or by what became of its number
  used_is : was_used (last_in db c) k ≡ (is_some life || was_passed db c k)
  used_is =
      set.contains-union keys_total (view_after rows n).used (passed_keys (passages_of db c) n) k
      ∙ ap (λ b. b || was_passed db c k) (last_use rows n (reached_room db c kept) (kept.histories c) k life newest)

  pub used_by_life : is_some life ≡ true → true ≡ was_used (last_in db c) k
  used_by_life some = sym (used_is ∙ ap (λ b. b || was_passed db c k) some)

  pub used_by_passage : is_some life ≡ false → (passed : Bool) → passed ≡ was_passed db c k → passed ≡ was_used (last_in db c) k
  used_by_passage none passed is = is ∙ sym (used_is ∙ ap (λ b. b || was_passed db c k) none)

  stood : TellsStood rows (view_after rows n) k (stood_by life) (current_in life)
  stood = stood_there rows n (reached_room db c kept) (kept.histories c) k life newest

  -- what stood there
  pub stood_told : TellsStood rows (last_in db c) k (stood_by life) (current_in life)
  stood_told = record {
    is_stood = by_stood (stood_by life) stood.is_stood;
    is_item = stood.is_item;
    current = stood.current;
  }
    where
      still_used : was_used (view_after rows n) k ≡ true → was_used (last_in db c) k ≡ true
      still_used used = used_is ∙ ap (λ b. b || was_passed db c k) (sym (last_use rows n (reached_room db c kept) (kept.histories c) k life newest) ∙ used)

      by_stood : (s : Stood) → IsStood s (key_view (view_after rows n) k) → IsStood s (key_view (last_in db c) k)
      by_stood NoRow h = h
      by_stood Past h = (h.0, still_used h.1)
      by_stood (Since volume) h = (h.0, still_used h.1)
