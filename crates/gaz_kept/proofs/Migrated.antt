-- A database of schema 1 stands for the same once it is migrated.
use Rattle.std.proofs.Common.{◌≡◌, ◌∙◌, inl, inr, ℕ, ℤ, List, ◌∷◌, refl, sym, ap, subst}
use Rattle.sqlite.specs.Effect.{Database}
use Rattle.sqlite.specs.Order.{Row, column}
use Rattle.sqlite.specs.declared.types.Value.{Value}
use Rattle.sqlite.specs.declared.types.Value.TheVariants.{Int}
use Rattle.sqlite_rules.specs.Lists.{Has}
use Rattle.sqlite_rules.proofs.ProbeLemmas.{has_mapped, mapped_has}
use Rattle.gaz_views.specs.Judgements.{judgements}
use Rattle.gaz_views.specs.View.{View}
use Rattle.gaz_overlay.specs.Passages.{PassageRow}
use Rattle.gaz_overlay.specs.Rows.{HistoryRow}
use Rattle.gaz_tables.specs.Migrating.{HasFirstTables, Migrates, with_hop}
use Rattle.gaz_tables.specs.Schema.{meta, received, version, version2}
use Rattle.gaz_tables.specs.Tables.{rows_of}
use Rattle.gaz_row_items.specs.Versions.{histories_in, history_in, passage_in, passages_in, view_in}
use Rattle.gaz_kept.specs.Contents.{board_in}
use Rattle.gaz_kept.specs.Files.{files_in, reached_in, verdicts_in}
use Rattle.gaz_kept.specs.Histories.{AreSame}
use Rattle.gaz_kept.specs.Kept.{AreFirst, ArePassages, AreThrough, IsKept, IsVersion}
use Rattle.gaz_kept.specs.Migrated.{IsFirstKept, MigrationStands, first_content_in, first_row, first_rows}
use Rattle.gaz_kept.specs.Opening.{IsOf, schema_number}
use Rattle.gaz_kept.specs.OpeningFirst.{IsOfFirst, first_number}
use Rattle.gaz_kept.specs.Stands.{Stands}
use Rattle.gaz_kept.proofs.Rewritten.{becomes_of}
use Rattle.gaz_kept.proofs.RowsRead.{read_from, read_in}
use Rattle.gaz_kept.proofs.PassageRows.{passages_same}
use Rattle.gaz_kept.proofs.PassageViews.{same_views}

-- what a row says, whatever its rowid is
version_too : (v w : Value) (s : Row) → IsVersion (v ∷ with_hop s) → IsVersion (w ∷ with_hop s)
version_too v w s (inr h) = inr (record {
  cust = h.cust;
  custodian = h.custodian;
  kind = h.kind;
  id = h.id;
  blpu = h.blpu;
  street = h.street;
  lang = h.lang;
  live = h.live;
  body = h.body;
  born = h.born;
  gone = h.gone;
  hop = h.hop;
  passage = h.passage;
  first = h.first;
  in_turn = h.in_turn;
})
version_too v w s (inl h) = inl (record {
  cust = h.cust;
  custodian = h.custodian;
  kind = h.kind;
  id = h.id;
  blpu = h.blpu;
  street = h.street;
  lang = h.lang;
  live = h.live;
  body = h.body;
  born = h.born;
  gone = h.gone;
  hop = h.hop;
  item = h.item;
  first = h.first;
  in_turn = h.in_turn;
})

history_too : (c : ℕ) (v w : Value) (s : Row) → history_in c (v ∷ with_hop s) ≡ history_in c (w ∷ with_hop s)
history_too c v w s = refl

passage_too : (c : ℕ) (v w : Value) (s : Row) → passage_in c (v ∷ with_hop s) ≡ passage_in c (w ∷ with_hop s)
passage_too c v w s = refl

module _ (register : List ℕ) (old new : Database) (was : IsFirstKept old) (moves : Migrates schema_number register old new) where
  abbrev sources : List Row
  sources = rows_of old version

  -- each row that came is a copy
  source : (r : Row) → Has (rows_of new version2) r → (s : Row) × Has sources s × ((n : ℤ) × (r ≡ Int n ∷ with_hop s))
  source r there = elim (moves.rows.only r there) [ inl none ↦ absurd none | inr from ↦ from ]

  each_version : (r : Row) → Has (rows_of new version2) r → IsVersion r
  each_version r there =
      let it = source r there in
      subst IsVersion (sym it.2.1) (version_too (column it.0 0) (Int it.2.0) it.0 (was.rows (first_row it.0) (mapped_has first_row sources it.0 it.1)))

  -- the histories have the same rows
  only : (c : ℕ) (h : HistoryRow) → Has (histories_in (rows_of new version2) c) h → Has (histories_in (first_rows sources) c) h
  only c h there =
      let r = read_from (history_in c) (rows_of new version2) h there in
      let it = source r.0 r.1 in
      read_in (history_in c) (first_rows sources) (first_row it.0) h (mapped_has first_row sources it.0 it.1)
      (history_too c (column it.0 0) (Int it.2.0) it.0 ∙ ap (history_in c) (sym it.2.1) ∙ r.2)

  kept : (c : ℕ) (h : HistoryRow) → Has (histories_in (first_rows sources) c) h → Has (histories_in (rows_of new version2) c) h
  kept c h there =
      let r = read_from (history_in c) (first_rows sources) h there in
      let s = has_mapped first_row sources r.0 r.1 in
      let made = moves.rows.done s.0 s.1 in
      read_in (history_in c) (rows_of new version2) (Int made.0 ∷ with_hop s.0) h made.1
      (history_too c (Int made.0) (column s.0 0) s.0 ∙ ap (history_in c) (sym s.2) ∙ r.2)

  -- so have the passages
  only_passed : (c : ℕ) (p : PassageRow) → Has (passages_in (rows_of new version2) c) p → Has (passages_in (first_rows sources) c) p
  only_passed c p there =
      let r = read_from (passage_in c) (rows_of new version2) p there in
      let it = source r.0 r.1 in
      read_in (passage_in c) (first_rows sources) (first_row it.0) p (mapped_has first_row sources it.0 it.1)
      (passage_too c (column it.0 0) (Int it.2.0) it.0 ∙ ap (passage_in c) (sym it.2.1) ∙ r.2)

  kept_passed : (c : ℕ) (p : PassageRow) → Has (passages_in (first_rows sources) c) p → Has (passages_in (rows_of new version2) c) p
  kept_passed c p there =
      let r = read_from (passage_in c) (first_rows sources) p there in
      let s = has_mapped first_row sources r.0 r.1 in
      let made = moves.rows.done s.0 s.1 in
      read_in (passage_in c) (rows_of new version2) (Int made.0 ∷ with_hop s.0) p made.1
      (passage_too c (Int made.0) (column s.0 0) s.0 ∙ ap (passage_in c) (sym s.2) ∙ r.2)

  same_passed : (c : ℕ) → AreSame (passages_in (first_rows sources) c) (passages_in (rows_of new version2) c)
  same_passed c = record { only = only_passed c; kept = kept_passed c }

  same : (c : ℕ) → AreSame (histories_in (first_rows sources) c) (histories_in (rows_of new version2) c)
  same c = record { only = only c; kept = kept c }

  through : (c n : ℕ) → AreThrough n (histories_in (first_rows sources) c) → AreThrough n (histories_in (rows_of new version2) c)
  through c n h = record {
    until = λ r there. h.until r (only c r there);
    apart = record {
      once = λ a b ha hb. h.apart.once a b (only c a ha) (only c b hb);
      in_turn = λ a b ha hb. h.apart.in_turn a b (only c a ha) (only c b hb);
    };
  }

  new_kept : IsKept new
  new_kept = record {
    tables = moves.tables;
    files = λ r there. was.files r (subst (λ l. Has l r) moves.files there);
    first = λ c. subst (λ l. AreFirst l c) (sym moves.files) (was.first c);
    rows = each_version;
    histories = λ c. subst (λ l. AreThrough (reached_in l c) (histories_in (rows_of new version2) c)) (sym moves.files) (through c (reached_in (rows_of old received) c) (was.histories c));
    passages = λ c. subst (λ l. ArePassages (reached_in l c) (passages_in (rows_of new version2) c)) (sym moves.files) (passages_same (reached_in (rows_of old received) c) (passages_in (first_rows sources) c) (passages_in (rows_of new version2) c) (same_passed c) (was.passages c));
  }

  views : (c t : ℕ) → view_in (rows_of new version2) c t ≡ view_in (first_rows sources) c t
  views c t =
      same_views (reached_in (rows_of old received) c) (histories_in (first_rows sources) c) (histories_in (rows_of new version2) c) (passages_in (first_rows sources) c) (passages_in (rows_of new version2) c)
      (was.histories c).apart (same c) (was.passages c) (same_passed c) t

  board : board_in (rows_of new received) (rows_of new version2) ≡ board_in (rows_of old received) (first_rows sources)
  board = λ i c. judgements (verdicts_in (moves.files i) c) (λ t. views c t i)

stands : (register : List ℕ) (working : View) (old new : Database) → IsFirstKept old → Migrates schema_number register old new → Stands new working (first_content_in old working)
stands register working old new was moves = record {
  kept = new_kept register old new was moves;
  content = λ i. record { files = files_in (moves.files i); board = board register old new was moves i; working = working };
}

is_of : (one other : List ℕ) (old new : Database) → HasFirstTables old → IsOfFirst one (rows_of old meta) → Migrates schema_number other old new → IsOf other (rows_of new meta)
is_of one other old new has mine moves =
    becomes_of first_number schema_number one other (rows_of old meta) (rows_of new meta) moves.tables.metas_shaped.0 mine moves.meta

pub migration_stands : MigrationStands
migration_stands = record { stands = stands; is_of = is_of }
