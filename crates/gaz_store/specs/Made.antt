-- The views that a store keeps are made of what it lists.
use Rattle.std.proofs.Common.{◌≡◌, ◌∙◌, ◌≤◌, ◌<◌, ◌==◌, ℕ, Bool, true, false, cond, List, [], ◌∷◌}
use Rattle.std.proofs.Common.{refl, sym, ap, subst}
use Rattle.std.specs.Prelude.{Option, Some, None, option_map}
use Rattle.std.specs.List.{cons_option, filter_map}
use Rattle.sqlite.specs.Effect.{Database}
use Rattle.sqlite.specs.Order.{Row}
use Rattle.sqlite_trees.specs.declared.store.Store.{Ghosts}
use Rattle.gaz_records.specs.Keys.{key_of}
use Rattle.gaz_records.specs.declared.item.Item.{Item}
use Rattle.gaz_keeper.specs.Board.{reached}
use Rattle.gaz_overlay.specs.Rows as rows
use Rattle.gaz_overlay.specs.Rows.{HistoryRow}
use Rattle.gaz_tables.specs.Schema.{received, version2}
use Rattle.gaz_tables.specs.Versions.{born_of, cust_of, gone_of}
use Rattle.gaz_tables.specs.Tables.{rows_of}
use Rattle.gaz_row_items.specs.Versions.{histories_in, history_in, item_in, living, number_in}
use Rattle.gaz_row_items.specs.Versions.{passages_in}
use Rattle.gaz_kept.specs.Contents.{board_of}
use Rattle.gaz_kept.specs.Files.{reached_in}
use Rattle.gaz_kept.specs.Kept.{AreInTurn, ArePassages, IsKept}
use Rattle.gaz_kept.proofs.Boards.{board_reads}
use Rattle.gaz_kept.proofs.LawfulViews.{board_view}
use Rattle.gaz_kept.proofs.Reached.{reached_room}
use Rattle.gaz_kept.proofs.RowsRead.{not_none, read_from}
use Rattle.gaz_loaded.specs.Lives.{AreOf, Told, lives_of}
use Rattle.gaz_store.specs.Listing.{lives_kept, passages_kept, told_in, told_with}
use Rattle.gaz_store.specs.Store.{seen_in}
use Rattle.gaz_store.specs.declared.store.Store.{Store}

-- what a row says of a custodian, with the item that its cells say
abbrev history_with : ℕ → Row → Option Item → Option HistoryRow
history_with c r o =
    cond (number_in (cust_of r) == c)
    (option_map (living (number_in (born_of r)) (number_in (gone_of r))) o) None

-- of a custodian a row tells its history
history_told : (c : ℕ) (r : Row) (told : List Told) (o : Option Item)
    → lives_of c (cons_option (option_map (told_with r) o) told)
    ≡ cons_option (history_with c r o) (lives_of c told)
history_told c r told (Some x) = refl
history_told c r told None = by_test (number_in (cust_of r) == c)
  where
    by_test : (b : Bool) → lives_of c told ≡ cons_option (cond b None None) (lives_of c told)
    by_test true = refl
    by_test false = refl

-- and all rows its histories
lives_are : (c : ℕ) (rows : List Row) → lives_of c (filter_map told_in rows) ≡ histories_in rows c
lives_are c [] = refl
lives_are c (r ∷ rows) =
    history_told c r (filter_map told_in rows) (item_in r)
    ∙ ap (cons_option (history_in c r)) (lives_are c rows)

own_key : (r : Row) (x : Told) (o : Option Item) → option_map (told_with r) o ≡ Some x
    → x.life.key ≡ key_of x.life.item
own_key r x None is = not_none x is refl
own_key r x (Some y) is =
    let same : told_with r y ≡ x = cc in
    subst (λ (z : Told). z.life.key ≡ key_of z.life.item) same refl

-- and the board's views are made of it
board_of_told : (db : Database) → IsKept db
    → AreOf (filter_map told_in (rows_of db version2)) (passages_in (rows_of db version2))
    (board_of db)
board_of_told db kept = record {
  own = λ x there.
      let r = read_from told_in (rows_of db version2) x there in
      own_key r.0 x (item_in r.0) r.2;
  apart = λ c. subst AreInTurn (sym (lives_are c (rows_of db version2))) (kept.histories c).apart;
  passed = λ c.
      subst (λ n. ArePassages n (passages_in (rows_of db version2) c)) (sym (reached_so c))
      (kept.passages c);
  few = λ c. subst (λ n. n < rows.never) (sym (reached_so c)) (reached_room db c kept);
  views = λ c t le.
      board_view db kept c t (subst (λ n. t ≤ n) (reached_so c) le)
      ∙ ap (λ l. rows.view_of_rows l (passages_in (rows_of db version2) c) t)
      (sym (lives_are c (rows_of db version2)));
}
  where
    reached_so : (c : ℕ) → reached (board_of db) c ≡ reached_in (rows_of db received) c
    reached_so c = (board_reads (rows_of db received) (rows_of db version2) c).reached

pub kept_are : {S R : Type 0} {store : Ghosts S} (register : List ℕ) (t : Store S R store)
    → (seen_in register t).stands
    → AreOf (lives_kept t) (passages_kept t) (seen_in register t).content.board
kept_are register t stood = board_of_told _ stood.tables.kept
