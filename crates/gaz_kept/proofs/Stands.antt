-- The tables of a store stand for what was received and judged.
use Rattle.std.proofs.Common.{◌≡◌, ◌∙◌, ◌≤◌, ◌<◌, ◌+◌, ◌⊎◌, inl, inr, ℕ, pos, false, true, List, [], ◌∷◌, length, map, refl, sym, ap, subst, arith}
use Rattle.std.specs.Prelude.{Option, Some, None, IsSome}
use Rattle.std.proofs.lemmas.Bool.{cases_eq}
use Rattle.std.proofs.lemmas.List.{length-append}
use Rattle.std.specs.FinMap as finite
use Rattle.std.specs.List.{range_with_len}
use Rattle.std.specs.Ordering.{nat_cmp}
use Rattle.sqlite.specs.Effect.{Database}
use Rattle.sqlite.specs.declared.types.Value.TheVariants.{Int}
use Rattle.sqlite.specs.Edit.{next_rowid}
use Rattle.sqlite.specs.Order.{Row}
use Rattle.sqlite_rules.specs.Lists.{Has}
use Rattle.sqlite_rules.proofs.ProbeLemmas.{has_mapped}
use Rattle.gaz_views.proofs.Trees.{no_entries}
use Rattle.gaz_views.specs.Judgements.{judgements}
use Rattle.gaz_views.specs.View.{View, empty_view}
use Rattle.gaz_views.specs.declared.verdict.Verdict.{Verdict}
use Rattle.gaz_views.specs.declared.verdict.Verdict.TheVariants.{Rejected}
use Rattle.gaz_keeper.proofs.Pairs.{pairs_exact, pairs_total}
use Rattle.gaz_keeper.specs.Board.{Board, adds, last_view, view_after}
use Rattle.gaz_overlay.specs.Rows.{HistoryRow, IsUntil, never}
use Rattle.gaz_tables.proofs.ReceivedOnce.{once}
use Rattle.gaz_tables.proofs.Staying.{stays}
use Rattle.gaz_tables.specs.Receiveds as table
use Rattle.gaz_tables.specs.Receiveds.{IsVolume, Rejects}
use Rattle.gaz_tables.specs.Schema.{received, version2}
use Rattle.gaz_tables.specs.Stores.{ChangesTable, HasTables}
use Rattle.gaz_tables.specs.Tables.{rows_of}
use Rattle.gaz_row_items.specs.Versions.{histories_in, number_in, passages_in, view_in}
use Rattle.gaz_row_items.proofs.Pairs.{found}
use Rattle.gaz_kept.specs.Contents.{board_in}
use Rattle.gaz_kept.specs.Files.{Judged, custodian_in, file_in, files_in, judged_volumes, reached_in, verdicts_in, volume_in}
use Rattle.gaz_kept.specs.Judging.{AreFiles, Arrives, IsJudged, IsVerdict}
use Rattle.gaz_kept.specs.Kept.{AreFirst, ArePassages, AreThrough, IsKept, IsVersion}
use Rattle.gaz_kept.specs.Stands.{CreateStands, ReceiveStands, SkipStands, TablesStand}
use Rattle.gaz_kept.proofs.Boards.{board_adds, board_reads}
use Rattle.gaz_kept.proofs.Judging.{files_change}
use Rattle.gaz_kept.proofs.RowsRead.{born_later, whole}
use Rattle.gaz_kept.proofs.PassageRows.{no_passages, passages_next}
use Rattle.gaz_kept.proofs.PassageStatements.{passed_later}
use Rattle.gaz_kept.proofs.PassageViews.{views_stay}

-- ---- creation

nothing_judged : (c : ℕ) → finite.entries (judged_volumes [] c) ≡ []
nothing_judged c = no_entries Verdict nat_cmp

no_judgements : (f : ℕ → View) → judgements [] f ≡ []
unfolding judgements
no_judgements f = refl

none_through : (n : ℕ) → AreThrough n []
none_through n = record { until = λ r there. absurd there; apart = record { once = λ a b ha hb key born. absurd ha; in_turn = λ a b ha hb key less. absurd ha } }

empty_kept : (db : Database) → HasTables db → rows_of db version2 ≡ [] → rows_of db received ≡ [] → IsKept db
empty_kept db has no_versions no_files = record {
  tables = has;
  files = λ r there. absurd (subst (λ l. Has l r) no_files there);
  first = λ c. subst (λ l. AreFirst l c) (sym no_files) (subst (λ es. map (λ (e : ℕ × Verdict). e.0) es ≡ range_with_len 1 (length (map (λ (e : ℕ × Verdict). e.1) es))) (sym (nothing_judged c)) refl);
  rows = λ r there. absurd (subst (λ l. Has l r) no_versions there);
  histories = λ c. subst (λ l. AreThrough (reached_in (rows_of db received) c) (histories_in l c)) (sym no_versions) (none_through (reached_in (rows_of db received) c));
  passages = λ c. subst (λ l. ArePassages (reached_in (rows_of db received) c) (passages_in l c)) (sym no_versions) (no_passages (reached_in (rows_of db received) c));
}

empty_board : board_in [] [] ≡ (λ c. [])
empty_board = λ i c. (ap (λ es. judgements (map (λ (e : ℕ × Verdict). e.1) es) (view_in [] c)) (nothing_judged c) ∙ no_judgements (view_in [] c)) i

create_stands : CreateStands
create_stands number register old db new = record {
  kept = empty_kept db new.tables new.no_versions new.no_receiveds;
  content =
      (λ i. record { files = files_in (new.no_receiveds i); board = board_in (new.no_receiveds i) (new.no_versions i); working = empty_view })
      ∙ (λ i. record { files = finite.empty; board = empty_board i; working = empty_view });
}

-- ---- what the tables hold

pub are_files : (db : Database) → IsKept db → AreFiles (rows_of db received)
are_files db kept = record { each = kept.files; once = λ r s hr hs same. once_each r s hr hs same.0 same.1 }
  where
    once_each : (r s : Row) → Has (rows_of db received) r → Has (rows_of db received) s → custodian_in r ≡ custodian_in s → volume_in r ≡ volume_in s → r ≡ s
    once_each r s hr hs cust vol =
        let f = kept.files r hr in
        let g = kept.files s hs in
        sym (once db kept.tables r s hr hs (pos (custodian_in r)) (pos (volume_in r)) f.cust (whole (table.cust_of s) (custodian_in r) g.cust (sym cust)) f.volume (whole (table.volume_of s) (volume_in r) g.volume (sym vol)))

-- a write of `received` leaves the rows of `version2`
module _ (Becomes : List Row → List Row → Type 0) (old new : Database) (kept : IsKept old) (changes : ChangesTable received Becomes old new) where
  both : HasTables new × (rows_of new version2 ≡ rows_of old version2)
  both =
      let s = stays received Becomes old new kept.tables.there.receiveds changes kept.tables in
      (s.0, s.1 version2 kept.tables.there.versions refl)

  still_rows : (r : Row) → Has (rows_of new version2) r → IsVersion r
  still_rows r there = kept.rows r (subst (λ l. Has l r) both.1 there)

-- ---- a file comes

receive_stands : ReceiveStands
receive_stands c volume bytes working old new first last kept is_new changes = record {
  kept = record {
    tables = tables.0;
    files = a.are_files.each;
    first = λ d. subst (λ (m : Judged). finite.keys m ≡ range_with_len 1 (length (finite.values m))) (sym (a.judged d)) (kept.first d);
    rows = still_rows _ old new kept changes;
    histories = λ d. subst (λ (m : Judged). AreThrough (length (finite.values m)) (histories_in (rows_of new version2) d)) (sym (a.judged d)) (subst (λ l. AreThrough (reached_in (rows_of old received) d) (histories_in l d)) (sym tables.1) (kept.histories d));
    passages = λ d. subst (λ (m : Judged). ArePassages (length (finite.values m)) (passages_in (rows_of new version2) d)) (sym (a.judged d)) (subst (λ l. ArePassages (reached_in (rows_of old received) d) (passages_in l d)) (sym tables.1) (kept.passages d));
  };
  content = λ i. record { files = a.files i; board = λ d. judgements (finite.values (a.judged d i)) (view_in (tables.1 i) d); working = working };
}
  where
    tables : HasTables new × (rows_of new version2 ≡ rows_of old version2)
    tables = both _ old new kept changes

    a : Arrives c volume bytes (rows_of old received) (rows_of new received)
    a = files_change.insert (Int (next_rowid (rows_of old received))) c volume bytes (rows_of old received) (rows_of new received) first last (are_files old kept) is_new changes.rows

-- ---- a volume is rejected

-- the row of a file that is there
pub record IsThere (c volume : ℕ) (rows : List Row) : Type 0 where
  pub row : Row
  pub there : Has rows row
  pub is : IsVolume c volume row

pub row_of : (rows : List Row) → AreFiles rows → (c volume : ℕ) → IsSome (finite.get (files_in rows) (c, volume)) → IsThere c volume rows
row_of rows are c volume some = by_answer (finite.get (files_in rows) (c, volume)) refl some
  where
    by_answer : (o : Option (List ℕ)) → finite.get (files_in rows) (c, volume) ≡ o → IsSome o → IsThere c volume rows
    by_answer None is none = let clash : false ≡ true = none in absurd (cc)
    by_answer (Some bytes) is some =
        let entry = found pairs_total pairs_exact (c, volume) (map file_in rows) bytes (sym (finite.get-from_entries pairs_total (map file_in rows) (c, volume)) ∙ is) in
        let r = has_mapped file_in rows ((c, volume), bytes) entry in
        let f = are.each r.0 r.1 in
        let keys = ap (λ e. e.0) r.2 in
        record {
          row = r.0;
          there = r.1;
          is = record { of_cust = whole (table.cust_of r.0) c f.cust (sym (ap (λ p. p.0) keys)); of_volume = whole (table.volume_of r.0) volume f.volume (sym (ap (λ p. p.1) keys)) };
        }

-- histories through a volume are histories through the next
through_next : (n : ℕ) (rows : List HistoryRow) → AreThrough n rows → AreThrough (n + 1) rows
through_next n rows h = record { until = λ r there. later r (h.until r there); apart = h.apart }
  where
    gone : (r : HistoryRow) → (r.gone ≤ n) ⊎ (r.gone ≡ never) → (r.gone ≤ n + 1) ⊎ (r.gone ≡ never)
    gone r (inl le) = inl (omega arith)
    gone r (inr current) = inr current

    later : (r : HistoryRow) → IsUntil n r → IsUntil (n + 1) r
    later r u = record { born = (let b = u.born in omega arith); gone = gone r u.gone }

module _ (c place rule : ℕ) (old new : Database) (small : rule ≤ 255) (kept : IsKept old)
    (at_hand : IsSome (finite.get (files_in (rows_of old received)) (c, reached_in (rows_of old received) c + 1)))
    (changes : ChangesTable received (Rejects c (reached_in (rows_of old received) c + 1) (pos place) rule) old new) where
  abbrev n : ℕ
  n = reached_in (rows_of old received) c

  skip_tables : HasTables new × (rows_of new version2 ≡ rows_of old version2)
  skip_tables = both _ old new kept changes

  its_row : IsThere c (n + 1) (rows_of old received)
  its_row = row_of (rows_of old received) (are_files old kept) c (n + 1) at_hand

  is_verdict : IsVerdict 2 place rule (Rejected place rule)
  is_verdict = record { verdict = refl; states = omega arith; rules = small; no_place = λ other. absurd (other refl); no_rule = λ other. absurd (other refl) }

  pub judges : IsJudged c (n + 1) (Rejected place rule) (rows_of old received) (rows_of new received)
  judges = files_change.update c 2 place rule (Rejected place rule) (rows_of old received) (rows_of new received) is_verdict (are_files old kept) (kept.first c) its_row.row its_row.there its_row.is changes.rows

  reached_now : reached_in (rows_of new received) c ≡ n + 1
  reached_now = ap length judges.verdicts ∙ length-append (verdicts_in (rows_of old received) c) (Rejected place rule ∷ [])

  room : n + 1 < never
  room =
      let f = kept.files its_row.row its_row.there in
      let vol : volume_in its_row.row ≡ n + 1 = ap number_in its_row.is.of_volume in
      let last = f.last in
      omega arith

  skip_first : (d : ℕ) → AreFirst (rows_of new received) d
  skip_first d = elim (cases_eq d c) [
    | inl same ↦ subst (AreFirst (rows_of new received)) (sym same) judges.first
    | inr other ↦ subst (λ (m : Judged). finite.keys m ≡ range_with_len 1 (length (finite.values m))) (sym (judges.others d other)) (kept.first d)
  ]

  skip_through : (d : ℕ) → AreThrough (reached_in (rows_of new received) d) (histories_in (rows_of new version2) d)
  skip_through d = subst (λ l. AreThrough (reached_in (rows_of new received) d) (histories_in l d)) (sym skip_tables.1) (by_custodian (cases_eq d c))
    where
      by_custodian : (d ≡ c) ⊎ ((d ≡ c) → ⊥) → AreThrough (reached_in (rows_of new received) d) (histories_in (rows_of old version2) d)
      by_custodian (inl same) =
          subst (λ e. AreThrough (reached_in (rows_of new received) e) (histories_in (rows_of old version2) e)) (sym same)
          (subst (λ m. AreThrough m (histories_in (rows_of old version2) c)) (sym reached_now) (through_next n (histories_in (rows_of old version2) c) (kept.histories c)))
      by_custodian (inr other) = subst (λ (m : Judged). AreThrough (length (finite.values m)) (histories_in (rows_of old version2) d)) (sym (judges.others d other)) (kept.histories d)

  skip_passages : (d : ℕ) → ArePassages (reached_in (rows_of new received) d) (passages_in (rows_of new version2) d)
  skip_passages d = subst (λ l. ArePassages (reached_in (rows_of new received) d) (passages_in l d)) (sym skip_tables.1) (by_custodian (cases_eq d c))
    where
      by_custodian : (d ≡ c) ⊎ ((d ≡ c) → ⊥) → ArePassages (reached_in (rows_of new received) d) (passages_in (rows_of old version2) d)
      by_custodian (inl same) =
          subst (λ e. ArePassages (reached_in (rows_of new received) e) (passages_in (rows_of old version2) e)) (sym same)
          (subst (λ m. ArePassages m (passages_in (rows_of old version2) c)) (sym reached_now) (passages_next n (passages_in (rows_of old version2) c) (kept.passages c)))
      by_custodian (inr other) = subst (λ (m : Judged). ArePassages (length (finite.values m)) (passages_in (rows_of old version2) d)) (sym (judges.others d other)) (kept.passages d)

  skip_kept : IsKept new
  skip_kept = record {
    tables = skip_tables.0;
    files = judges.are_files.each;
    first = skip_first;
    rows = still_rows _ old new kept changes;
    histories = skip_through;
    passages = skip_passages;
  }

  abbrev board : Board
  board = board_in (rows_of old received) (rows_of old version2)

  -- the view after the next volume is the last one
  last_is : view_in (rows_of old version2) c (n + 1) ≡ last_view board c
  last_is =
      let reads = board_reads (rows_of old received) (rows_of old version2) c in
      let le : n ≤ n = omega arith in
      views_stay n (histories_in (rows_of old version2) c) (passages_in (rows_of old version2) c) room (kept.histories c) (kept.passages c)
      ∙ sym (reads.view (born_later c (rows_of old version2) kept.rows) (passed_later c (rows_of old version2) kept.rows) n le)
      ∙ ap (λ t. view_after board c t) (sym reads.reached)

  skip_board : board_in (rows_of new received) (rows_of new version2) ≡ adds board c (record { verdict = Rejected place rule; view = last_view board c })
  skip_board =
      board_adds (rows_of old received) (rows_of new received) (rows_of old version2) (rows_of new version2) c (Rejected place rule) judges.verdicts
      (λ d other. ap finite.values (judges.others d other))
      (λ t le. ap (λ l. view_in l c t) skip_tables.1)
      (λ d other t. ap (λ l. view_in l d t) skip_tables.1)
      ∙ ap (λ v. adds board c (record { verdict = Rejected place rule; view = v })) (ap (λ l. view_in l c (n + 1)) skip_tables.1 ∙ last_is)

skip_stands : SkipStands
skip_stands c place rule working old new small kept at_hand changes =
    let reads = board_reads (rows_of old received) (rows_of old version2) c in
    let there = subst (λ m. IsSome (finite.get (files_in (rows_of old received)) (c, m + 1))) reads.reached at_hand in
    record {
      kept = skip_kept c place rule old new small kept there changes;
      content = λ i. record { files = (judges c place rule old new small kept there changes).files i; board = skip_board c place rule old new small kept there changes i; working = empty_view };
    }

pub tables_stand : TablesStand
tables_stand = record { create = create_stands; receive = receive_stands; skip = skip_stands }
