-- The verdict that a query of `received` answers is that on the board.
use Rattle.std.proofs.Common.{◌≡◌, ◌∙◌, inl, ℕ, true, List, [], ◌∷◌, map, refl, sym, ap, subst}
use Rattle.std.specs.Prelude.{Option, Some, None}
use Rattle.std.proofs.lemmas.Map.Lookups.{exact_unsigned}
use Rattle.std.specs.Cmp.{nat_cmp_total}
use Rattle.std.specs.FinMap as finite
use Rattle.std.specs.FinMap.{find}
use Rattle.std.specs.Ordering.{nat_cmp}
use Rattle.std.specs.List.{filter_map}
use Rattle.sqlite.specs.Effect.{Database}
use Rattle.sqlite.specs.Order.{Row}
use Rattle.sqlite_rules.specs.Lists.{Has}
use Rattle.sqlite_rules.proofs.ListLemmas.{has_filtered, has_kept}
use Rattle.gaz_views.specs.declared.verdict.Verdict.{Verdict}
use Rattle.gaz_keeper.specs.Board.{verdict_on}
use Rattle.gaz_sql_facts.proofs.Lists.{has_permuted, permuted_has}
use Rattle.gaz_tables.specs.Receiveds as table
use Rattle.gaz_tables.specs.Receiveds.{FindsVerdict, IsVolume, verdict_shown}
use Rattle.gaz_tables.specs.Schema.{received, version2}
use Rattle.gaz_tables.specs.Tables.{rows_of}
use Rattle.gaz_answers.specs.Answers.{SaysVerdict}
use Rattle.gaz_row_items.specs.Versions.{number_in}
use Rattle.gaz_row_items.proofs.Pairs.{at_one, missing}
use Rattle.gaz_kept.specs.Contents.{board_in}
use Rattle.gaz_kept.specs.Files.{custodian_in, judged_in, judged_volumes, verdict_in, volume_in}
use Rattle.gaz_kept.specs.Judging.{AreFiles}
use Rattle.gaz_kept.specs.Kept.{IsKept}
use Rattle.gaz_kept.proofs.Boards.{board_reads}
use Rattle.gaz_kept.proofs.Judging.{said_as, said_by, single_judged}
use Rattle.gaz_kept.proofs.Stands.{are_files}
use Rattle.gaz_kept.proofs.RowsRead.{not_none, read_from, read_in, whole}

module _ (c v : ℕ) (rows answer : List Row) (are : AreFiles rows) (found : FindsVerdict c v rows answer) where
  abbrev entries : List (ℕ × Verdict)
  entries = filter_map (judged_in c) rows

  get_is : finite.get (judged_volumes rows c) v ≡ find nat_cmp v entries
  get_is = finite.get-from_entries nat_cmp_total entries v

  fits : (r : Row) → Has rows r → custodian_in r ≡ c → volume_in r ≡ v → IsVolume c v r
  fits r there cust vol = let f = are.each r there in record { of_cust = whole (table.cust_of r) c f.cust cust; of_volume = whole (table.volume_of r) v f.volume vol }

  none_there : found.chosen ≡ [] → (y : Verdict) → ¬ Has entries (v, y)
  none_there none y there =
      let r = read_from (judged_in c) rows (v, y) there in
      let s = said_by c r.0 v y r.2 in
      let passes = found.picks.complete r.0 r.1 (fits r.0 r.1 s.custodian s.volume) in
      subst (λ l. Has l r.0) none (permuted_has _ found.chosen r.0 found.picks.same (has_kept found.picks.test rows r.0 r.1 passes))

  one_there : (r : Row) → Has found.chosen r → finite.get (judged_volumes rows c) v ≡ verdict_in r
  one_there r here = get_is ∙ by_verdict (verdict_in r) refl
    where
      in_rows : Has rows r × (found.picks.test r ≡ true)
      in_rows = has_filtered found.picks.test rows r (has_permuted _ found.chosen r found.picks.same here)

      fit : IsVolume c v r
      fit = found.picks.sound r in_rows.0 in_rows.1

      by_verdict : (o : Option Verdict) → verdict_in r ≡ o → find nat_cmp v entries ≡ verdict_in r
      by_verdict (Some w) is =
          at_one nat_cmp_total exact_unsigned v entries w (single_judged rows are c)
          (read_in (judged_in c) rows r (v, w) in_rows.0 (said_as c r v w (record { custodian = ap number_in fit.of_cust; volume = ap number_in fit.of_volume; verdict = is })))
          ∙ sym is
      by_verdict None is = missing nat_cmp_total exact_unsigned v entries (λ y there.
          let s = read_from (judged_in c) rows (v, y) there in
          let said = said_by c s.0 v y s.2 in
          let same = are.once s.0 r s.1 in_rows.0 (said.custodian ∙ sym (ap number_in fit.of_cust), said.volume ∙ sym (ap number_in fit.of_volume)) in
          not_none y (sym (ap verdict_in same) ∙ said.verdict) is) ∙ sym is

  says_judged : (x : Option Verdict) → SaysVerdict answer x → x ≡ finite.get (judged_volumes rows c) v
  says_judged x says = by_chosen found.chosen refl (subst (λ a. SaysVerdict a x) found.shown says)
    where
      by_chosen : (l : List Row) → found.chosen ≡ l → SaysVerdict (map verdict_shown found.chosen) x → x ≡ finite.get (judged_volumes rows c) v
      by_chosen [] is s =
          let none : x ≡ None = subst (λ l. SaysVerdict (map verdict_shown l) x) is s in
          none ∙ sym (get_is ∙ missing nat_cmp_total exact_unsigned v entries (none_there is))
      by_chosen (r ∷ l) is s =
          let said : x ≡ verdict_in r = subst (λ l. SaysVerdict (map verdict_shown l) x) is s in
          said ∙ sym (one_there r (subst (λ l. Has l r) (sym is) (inl refl)))

-- and so it is that on the board
pub verdict_told : (c v : ℕ) (db : Database) (answer : List Row) → IsKept db → FindsVerdict c v (rows_of db received) answer → (x : Option Verdict) → SaysVerdict answer x
    → x ≡ verdict_on (board_in (rows_of db received) (rows_of db version2)) c v
verdict_told c v db answer kept found x says =
    says_judged c v (rows_of db received) answer (are_files db kept) found x says
    ∙ sym ((board_reads (rows_of db received) (rows_of db version2) c).verdict (kept.first c) v)
