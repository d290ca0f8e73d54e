-- How many volumes a custodian can have had judged.
use Rattle.std.proofs.Common.{◌≡◌, ◌∙◌, ◌≤◌, ◌<◌, ◌+◌, inl, inr, ℕ, zero, suc, List, map, refl, sym, ap, subst, arith}
use Rattle.std.proofs.lemmas.Map.Lookups.{exact_unsigned}
use Rattle.std.specs.Cmp.{nat_cmp_total}
use Rattle.std.specs.FinMap as finite
use Rattle.std.specs.List.{filter_map, range_with_len}
use Rattle.sqlite.specs.Effect.{Database}
use Rattle.sqlite.specs.Order.{Row}
use Rattle.sqlite_rules.specs.Lists.{Has}
use Rattle.sqlite_rules.proofs.ProbeLemmas.{has_mapped}
use Rattle.gaz_views.specs.declared.verdict.Verdict.{Verdict}
use Rattle.gaz_overlay.specs.Rows.{never}
use Rattle.gaz_tables.specs.Schema.{received}
use Rattle.gaz_tables.specs.Tables.{rows_of}
use Rattle.gaz_row_items.proofs.Pairs.{found, listed}
use Rattle.gaz_kept.specs.Files.{judged_in, judged_volumes, reached_in}
use Rattle.gaz_kept.specs.Kept.{AreFirst, IsFile, IsKept}
use Rattle.gaz_kept.proofs.Judging.{said_by}
use Rattle.gaz_kept.proofs.RowsRead.{read_from}

has_last : (a n : ℕ) → Has (range_with_len a (suc n)) (a + n)
has_last a zero = let same : a + 0 ≡ a = omega arith in inl same
has_last a (suc n) = let same : (a + 1) + n ≡ a + suc n = omega arith in inr (subst (λ m. Has (range_with_len (a + 1) (suc n)) m) same (has_last (a + 1) n))

module _ (rows : List Row) (each : (r : Row) → Has rows r → IsFile r) (c : ℕ) (first : AreFirst rows c) where
  abbrev judged : List (ℕ × Verdict)
  judged = finite.entries (judged_volumes rows c)

  -- a judged volume is one that can be received
  judged_most : (n : ℕ) → Has (map (λ (e : ℕ × Verdict). e.0) judged) n → n ≤ 999_999
  judged_most n there =
      let e = has_mapped (λ (e : ℕ × Verdict). e.0) judged n there in
      let v = listed nat_cmp_total exact_unsigned e.0.0 judged e.0.1 e.1 in
      let entry = found nat_cmp_total exact_unsigned e.0.0 (filter_map (judged_in c) rows) v.0
      (sym (finite.get-from_entries nat_cmp_total (filter_map (judged_in c) rows) e.0.0) ∙ finite.get-entries (judged_volumes rows c) e.0.0 ∙ v.1) in
      let r = read_from (judged_in c) rows (e.0.0, v.0) entry in
      let said = said_by c r.0 e.0.0 v.0 r.2 in
      let last = (each r.0 r.1).last in
      let volume = said.volume in
      let same : n ≡ e.0.0 = e.2 in
      omega arith

  pub reached_most : reached_in rows c ≤ 999_999
  reached_most = by_count (reached_in rows c) refl
    where
      by_count : (n : ℕ) → reached_in rows c ≡ n → n ≤ 999_999
      by_count zero is = omega arith
      by_count (suc n) is =
          let one : 1 + n ≡ suc n = omega arith in
          judged_most (suc n) (subst (λ m. Has (map (λ (e : ℕ × Verdict). e.0) judged) m) one
          (subst (λ l. Has l (1 + n)) (sym (first ∙ ap (range_with_len 1) is)) (has_last 1 n)))

-- so in a store's tables
pub reached_room : (db : Database) (c : ℕ) → IsKept db → reached_in (rows_of db received) c < never
reached_room db c kept = let most = reached_most (rows_of db received) kept.files c (kept.first c) in omega arith
