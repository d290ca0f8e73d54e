-- What is written when a judgement is kept makes one judgement more.
use Rattle.std.proofs.Common.{◌≡◌, ◌≢◌, ◌∙◌, ◌≤◌, ◌<◌, ◌+◌, ◌⊎◌, inl, inr, ℕ, List, [], ◌∷◌, length, refl, sym, ap, subst, arith, true, true≢false}
use Rattle.std.specs.Prelude.{IsSome, Option, Some, None, is_some}
use Rattle.std.proofs.lemmas.Bool.{cases_eq}
use Rattle.std.proofs.lemmas.List.{length-append}
use Rattle.std.specs.Cmp.{nat_cmp_total}
use Rattle.std.specs.FinMap as finite
use Rattle.std.specs.FinMap.{nat_cmp-IsAntisymmetric}
use Rattle.std.specs.List.{range_with_len}
use Rattle.sqlite.specs.Effect.{Database}
use Rattle.sqlite.specs.Order.{Row}
use Rattle.sqlite_rules.specs.Lists.{Has}
use Rattle.gaz_records.proofs.KeyOrder.{keys_total}
use Rattle.gaz_records.specs.Items.{is_entry}
use Rattle.gaz_records.specs.Keys.{key_of}
use Rattle.gaz_records.specs.declared.key.Key.{Key}
use Rattle.gaz_views.specs.View.{View, empty_view}
use Rattle.gaz_views.specs.declared.verdict.Verdict.TheVariants.{Applied}
use Rattle.gaz_keeper.specs.Board.{adds}
use Rattle.gaz_overlay.specs.Changes.{Changes, is_passed}
use Rattle.gaz_overlay.specs.Over.{Make}
use Rattle.gaz_overlay.specs.Passages.{PassageRow, PassOn, with_passages}
use Rattle.gaz_overlay.specs.Rows.{KeepVolume, never, view_of_rows, written}
use Rattle.gaz_overlay.specs.Writings.{writing_at}
use Rattle.gaz_overlay.specs.declared.touch.NewRow.{NewRow}
use Rattle.gaz_overlay.proofs.Apart.{writings_keep}
use Rattle.gaz_overlay.proofs.Making.{changes_make}
use Rattle.gaz_tables.proofs.Staying.{stays}
use Rattle.gaz_tables.specs.Receiveds.{Applies}
use Rattle.gaz_tables.specs.Schema.{received, version2}
use Rattle.gaz_tables.specs.Stores.{HasTables}
use Rattle.gaz_tables.specs.Tables.{rows_of}
use Rattle.gaz_row_items.specs.NewestPassages.{HasPassage}
use Rattle.gaz_row_items.specs.Versions.{histories_in, number_in, passages_in, view_in}
use Rattle.gaz_row_items.proofs.Pairs.{has_tied, ties_has}
use Rattle.gaz_kept.specs.Contents.{board_in}
use Rattle.gaz_kept.specs.Files.{Judged, files_in, reached_in, verdicts_in, volume_in}
use Rattle.gaz_kept.specs.Histories.{AreSame}
use Rattle.gaz_kept.specs.Judging.{IsJudged, IsVerdict}
use Rattle.gaz_kept.specs.Keeping.{IsToKeep, KeepStands, KeepsVolume, WritesAll}
use Rattle.gaz_kept.specs.Kept.{AreFirst, ArePassages, AreThrough, IsKept}
use Rattle.gaz_kept.specs.Passages.{IsLastOf}
use Rattle.gaz_kept.proofs.Boards.{board_adds, board_reads}
use Rattle.gaz_kept.proofs.Judging.{files_change}
use Rattle.gaz_kept.proofs.PassageRows.{find_last, passages_same, rows_say}
use Rattle.gaz_kept.proofs.PassageViews.{same_views}
use Rattle.gaz_kept.proofs.PassageWalking.{AreKnown, IsOnTheWay, not_begun, pass_on, write_numbers}
use Rattle.gaz_kept.proofs.Singly.{histories_of, singly, singly_same, through_of, through_same, told_singly}
use Rattle.gaz_kept.proofs.Stands.{IsThere, are_files, row_of}
use Rattle.gaz_kept.proofs.Views.{same_rows}
use Rattle.gaz_kept.proofs.Walking.{IsUnderWay, are_new, nothing_yet, onto, onto_has, onto_only, same_then, same_written, write_keys}
use Rattle.gaz_kept.proofs.Written.{Rows}

-- ---- the mark

is_applied : IsVerdict 1 0 0 Applied
is_applied = record { verdict = refl; states = omega arith; rules = omega arith; no_place = λ other. refl; no_rule = λ other. refl }

-- a custodian's next volume is judged, where it is at hand
pub mark_judges : (c : ℕ) (changes : Changes) (old new : Database) → IsKept old → IsSome (finite.get (files_in (rows_of old received)) (c, reached_in (rows_of old received) c + 1))
    → KeepsVolume c (reached_in (rows_of old received) c + 1) changes old new
    → IsJudged c (reached_in (rows_of old received) c + 1) Applied (rows_of old received) (rows_of new received)
mark_judges c changes old new kept at_hand keeps =
    let n = reached_in (rows_of old received) c in
    let s = stays version2 _ old keeps.between kept.tables.there.versions keeps.rows kept.tables in
    let same : rows_of keeps.between received ≡ rows_of old received = s.1 received kept.tables.there.receiveds refl in
    let row = row_of (rows_of old received) (are_files old kept) c (n + 1) at_hand in
    files_change.update c 1 0 0 Applied (rows_of old received) (rows_of new received) is_applied (are_files old kept) (kept.first c) row.row row.there row.is
    (subst (λ l. Applies c (n + 1) l (rows_of new received)) same keeps.mark.rows)

module _ (c volume : ℕ) (changes : Changes) (working : View) (old new : Database) (it : IsToKeep old c volume changes working) (keeps : KeepsVolume c volume changes old new) where
  abbrev n : ℕ
  n = reached_in (rows_of old received) c

  abbrev mid : Database
  mid = keeps.between

  -- ---- the tables

  rows_written : HasTables mid × (rows_of mid received ≡ rows_of old received)
  rows_written =
      let s = stays version2 _ old mid it.kept.tables.there.versions keeps.rows it.kept.tables in
      (s.0, s.1 received it.kept.tables.there.receiveds refl)

  marked : HasTables new × (rows_of new version2 ≡ rows_of mid version2)
  marked =
      let s = stays received _ mid new rows_written.0.there.receiveds keeps.mark rows_written.0 in
      (s.0, s.1 version2 rows_written.0.there.versions refl)

  -- ---- the mark

  at_hand : IsSome (finite.get (files_in (rows_of old received)) (c, n + 1))
  at_hand = subst (λ m. IsSome (finite.get (files_in (rows_of old received)) (c, m + 1))) (board_reads (rows_of old received) (rows_of old version2) c).reached it.at_hand

  its_row : IsThere c (n + 1) (rows_of old received)
  its_row = row_of (rows_of old received) (are_files old it.kept) c (n + 1) at_hand

  judges : IsJudged c (n + 1) Applied (rows_of old received) (rows_of new received)
  judges = mark_judges c changes old new it.kept at_hand (subst (λ v. KeepsVolume c v changes old new) it.next keeps)

  reached_now : reached_in (rows_of new received) c ≡ n + 1
  reached_now = ap length judges.verdicts ∙ length-append (verdicts_in (rows_of old received) c) (Applied ∷ [])

  room : n + 1 < never
  room =
      let f = it.kept.files its_row.row its_row.there in
      let vol : volume_in its_row.row ≡ n + 1 = ap number_in its_row.is.of_volume in
      let last = f.last in
      omega arith

  -- ---- the rows

  abbrev was : Rows
  was = histories_in (rows_of old version2) c

  abbrev was_passed : List PassageRow
  was_passed = passages_in (rows_of old version2) c

  abbrev now : Rows
  now = histories_in (rows_of mid version2) c

  abbrev now_passed : List PassageRow
  now_passed = passages_in (rows_of mid version2) c

  through : AreThrough n was
  through = it.kept.histories c

  own : (k : Key) (r : NewRow) → (writing_at changes k).adds ≡ Some r → key_of r.item ≡ k
  own = changes_make.own (view_of_rows was was_passed n) changes working it.made

  entries : (k : Key) (r : NewRow) → (writing_at changes k).adds ≡ Some r → is_entry r.item ≡ true
  entries = changes_make.entries (view_of_rows was was_passed n) changes working it.made

  abbrev keys : List Key
  keys = finite.keys changes.touched

  all_written : WritesAll c (n + 1) changes (rows_of old version2) (rows_of mid version2)
  all_written = subst (λ v. WritesAll c v changes (rows_of old version2) (rows_of mid version2)) it.next keeps.rows.rows

  -- the rows once the keys are written
  abbrev keyed : List Row
  keyed = all_written.0

  done : IsUnderWay c (n + 1) changes (onto keys []) (onto keys []) (rows_of old version2) keyed
  done =
      write_keys c n room changes (rows_of old version2) through it.told own entries keys [] (rows_of old version2) keyed
      (are_new keys_total [] (finite.entries changes.touched) (finite.entries_sorted changes.touched) (λ d none. absurd none))
      (nothing_yet c (n + 1) changes (rows_of old version2) it.kept.rows) all_written.1

  -- ---- the numbers

  abbrev numbers : List ℕ
  numbers = finite.keys changes.passed

  passed_through : ArePassages n was_passed
  passed_through = it.kept.passages c

  keyed_through : ArePassages n (passages_in keyed c)
  keyed_through = passages_same n was_passed (passages_in keyed c) (done.passages c) passed_through

  known : AreKnown n changes (passages_in keyed c)
  known = record { are = keyed_through; told = told; none = λ k is r there number. by_last k is (find_last n k was_passed).row (find_last n k was_passed).is r there number }
    where
      told : (k b : ℕ) → finite.get changes.passed k ≡ Some (Some b) → HasPassage (passages_in keyed c) k b
      told k b is =
          let h = it.passed k b is in
          record { row = h.row; there = (done.passages c).kept h.row h.there; of_number = h.of_number; of_birth = h.of_birth; is_current = h.is_current }

      by_last : (k : ℕ) → finite.get changes.passed k ≡ Some None → (o : Option PassageRow) → IsLastOf n was_passed k o → (r : PassageRow) → Has (passages_in keyed c) r → r.uprn ≡ k → ⊥
      by_last k is None none r there number = let here = (done.passages c).only r there in none r here number (passed_through.until r here).born
      by_last k is (Some p) last r there number =
          let say = rows_say n n k was_passed (Some p) (omega (arith, room)) passed_through last in
          let some = it.made.over.passed.since k None is in
          true≢false (sym (some ∙ ap is_some say.custody))

  passed_listed : (k : ℕ) → is_passed changes k ≡ true → Has numbers k
  passed_listed k is = has_tied nat_cmp_total nat_cmp-IsAntisymmetric k numbers (sym (finite.contains_key-keys changes.passed k) ∙ is)

  listed_passed : (k : ℕ) → Has numbers k → is_passed changes k ≡ true
  listed_passed k there = finite.contains_key-keys changes.passed k ∙ ties_has nat_cmp_total nat_cmp-IsAntisymmetric k numbers there

  on_the_way : IsOnTheWay c n changes (onto numbers []) keyed (rows_of mid version2)
  on_the_way =
      write_numbers c n room changes keyed known numbers [] keyed (rows_of mid version2)
      (are_new nat_cmp_total [] (finite.entries changes.passed) (finite.entries_sorted changes.passed) (λ d none. absurd none)) listed_passed
      (not_begun c n changes keyed done.rows keyed_through) all_written.2

  passing : PassOn changes n (passages_in keyed c) now_passed
  passing =
      pass_on n room changes (onto numbers []) (passages_in keyed c) now_passed keyed_through it.made.over.passed.told
      (λ k is. onto_has numbers [] k (passed_listed k is)) (λ k there. elim (onto_only numbers [] k there) [ inl h ↦ listed_passed k h | inr none ↦ absurd none ]) on_the_way.written

  listed_only : (q : Key) → Has (onto keys []) q → Has keys q
  listed_only q there = elim (onto_only keys [] q there) [ inl h ↦ h | inr none ↦ absurd none ]

  same_now : AreSame (written (n + 1) changes (singly was)) now
  same_now =
      same_then _ _ _ (same_written (n + 1) changes (onto keys []) (λ q there. onto_has keys [] q there) listed_only was (histories_in keyed c) through.apart.once done.written)
      (on_the_way.histories c)

  -- the views of what was there, of each row once
  singly_views : (t : ℕ) → view_of_rows (singly was) (passages_in keyed c) t ≡ view_of_rows was was_passed t
  singly_views t = same_views n was (singly was) was_passed (passages_in keyed c) through.apart (singly_same was through.apart) passed_through (done.passages c) t

  volume_kept : KeepVolume (singly was) (passages_in keyed c) n working (written (n + 1) changes (singly was)) now_passed
  volume_kept = writings_keep (singly was) (passages_in keyed c) n changes working now_passed room (histories_of n was through) (told_singly changes was through.apart it.told)
      (subst (λ v. Make v changes working) (sym (singly_views n)) it.made) passing

  written_through : AreThrough (n + 1) (written (n + 1) changes (singly was))
  written_through = through_of (n + 1) (written (n + 1) changes (singly was)) volume_kept.histories

  view_now : (t : ℕ) → view_of_rows now now_passed t ≡ view_of_rows (written (n + 1) changes (singly was)) now_passed t
  view_now t = ap (λ v. with_passages v now_passed t) (same_rows (written (n + 1) changes (singly was)) now written_through.apart same_now t)

  next_is : view_in (rows_of new version2) c (n + 1) ≡ working
  next_is = ap (λ l. view_in l c (n + 1)) marked.1 ∙ view_now (n + 1) ∙ volume_kept.next

  past_is : (t : ℕ) → t ≤ n → view_in (rows_of new version2) c t ≡ view_in (rows_of old version2) c t
  past_is t le = ap (λ l. view_in l c t) marked.1 ∙ view_now t ∙ volume_kept.past t le ∙ singly_views t

  others_same : (d : ℕ) → d ≢ c → AreSame (histories_in (rows_of old version2) d) (histories_in (rows_of mid version2) d)
  others_same d other = same_then _ _ _ (done.others d other) (on_the_way.histories d)

  passed_same : (d : ℕ) → d ≢ c → AreSame (passages_in (rows_of old version2) d) (passages_in (rows_of mid version2) d)
  passed_same d other = same_then _ _ _ (done.passages d) (on_the_way.others d other)

  others_are : (d : ℕ) → d ≢ c → (t : ℕ) → view_in (rows_of new version2) d t ≡ view_in (rows_of old version2) d t
  others_are d other t =
      ap (λ l. view_in l d t) marked.1
      ∙ same_views (reached_in (rows_of old received) d) (histories_in (rows_of old version2) d) (histories_in (rows_of mid version2) d) (passages_in (rows_of old version2) d) (passages_in (rows_of mid version2) d)
      (it.kept.histories d).apart (others_same d other) (it.kept.passages d) (passed_same d other) t

  -- ---- the tables are a store's again

  first_now : (d : ℕ) → AreFirst (rows_of new received) d
  first_now d = elim (cases_eq d c) [
    | inl same ↦ subst (AreFirst (rows_of new received)) (sym same) judges.first
    | inr other ↦ subst (λ (m : Judged). finite.keys m ≡ range_with_len 1 (length (finite.values m))) (sym (judges.others d other)) (it.kept.first d)
  ]

  through_now : (d : ℕ) → AreThrough (reached_in (rows_of new received) d) (histories_in (rows_of new version2) d)
  through_now d = subst (λ l. AreThrough (reached_in (rows_of new received) d) (histories_in l d)) (sym marked.1) (by_custodian (cases_eq d c))
    where
      by_custodian : (d ≡ c) ⊎ ((d ≡ c) → ⊥) → AreThrough (reached_in (rows_of new received) d) (histories_in (rows_of mid version2) d)
      by_custodian (inl same) =
          subst (λ e. AreThrough (reached_in (rows_of new received) e) (histories_in (rows_of mid version2) e)) (sym same)
          (subst (λ m. AreThrough m now) (sym reached_now) (through_same (n + 1) (written (n + 1) changes (singly was)) now same_now written_through))
      by_custodian (inr other) = subst (λ (m : Judged). AreThrough (length (finite.values m)) (histories_in (rows_of mid version2) d)) (sym (judges.others d other))
          (through_same (reached_in (rows_of old received) d) (histories_in (rows_of old version2) d) (histories_in (rows_of mid version2) d) (others_same d other) (it.kept.histories d))

  passages_now : (d : ℕ) → ArePassages (reached_in (rows_of new received) d) (passages_in (rows_of new version2) d)
  passages_now d = subst (λ l. ArePassages (reached_in (rows_of new received) d) (passages_in l d)) (sym marked.1) (by_custodian (cases_eq d c))
    where
      by_custodian : (d ≡ c) ⊎ ((d ≡ c) → ⊥) → ArePassages (reached_in (rows_of new received) d) (passages_in (rows_of mid version2) d)
      by_custodian (inl same) =
          subst (λ e. ArePassages (reached_in (rows_of new received) e) (passages_in (rows_of mid version2) e)) (sym same)
          (subst (λ m. ArePassages m now_passed) (sym reached_now) on_the_way.written.are)
      by_custodian (inr other) = subst (λ (m : Judged). ArePassages (length (finite.values m)) (passages_in (rows_of mid version2) d)) (sym (judges.others d other))
          (passages_same (reached_in (rows_of old received) d) (passages_in (rows_of old version2) d) (passages_in (rows_of mid version2) d) (passed_same d other) (it.kept.passages d))

  kept_now : IsKept new
  kept_now = record {
    tables = marked.0;
    files = judges.are_files.each;
    first = first_now;
    rows = λ r there. on_the_way.rows r (subst (λ l. Has l r) marked.1 there);
    histories = through_now;
    passages = passages_now;
  }

  board_now : board_in (rows_of new received) (rows_of new version2) ≡ adds (board_in (rows_of old received) (rows_of old version2)) c (record { verdict = Applied; view = working })
  board_now =
      board_adds (rows_of old received) (rows_of new received) (rows_of old version2) (rows_of new version2) c Applied judges.verdicts
      (λ d other. ap finite.values (judges.others d other)) past_is others_are
      ∙ ap (λ v. adds (board_in (rows_of old received) (rows_of old version2)) c (record { verdict = Applied; view = v })) next_is

pub keep_stands : KeepStands
keep_stands c volume changes working old new it keeps = record {
  kept = kept_now c volume changes working old new it keeps;
  content = λ i. record { files = (judges c volume changes working old new it keeps).files i; board = board_now c volume changes working old new it keeps i; working = empty_view };
}
