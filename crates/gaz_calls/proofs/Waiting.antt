-- The volumes that a query of `received` answers are the files that wait; and which volumes are judged.
use Rattle.std.proofs.Common.{◌≡◌, ◌∙◌, ◌≤◌, ◌<◌, ◌<ℤ◌, ◌⊎◌, ◌&&◌, inl, inr, ℕ, zero, suc, pos, Bool, true, false, List, [], ◌∷◌, map, length, slice_get, take, get_or, refl, sym, ap, subst, arith}
use Rattle.std.specs.Prelude.{Option, Some, None, IsSome, is_some, nat_le, option_map}
use Rattle.std.proofs.Math.Facts.{ltb_yes, yes_ltb}
use Rattle.std.proofs.lemmas.Bool.{le-leb, lt-leb}
use Rattle.std.proofs.lemmas.List.{length-map, length-take, take_all}
use Rattle.std.proofs.lemmas.Option.{slice_get_cases}
use Rattle.std.proofs.lemmas.Map.Lookups.{exact_unsigned}
use Rattle.std.specs.Cmp.{both_ways, nat_cmp_total, tied_itself}
use Rattle.std.specs.FinMap as finite
use Rattle.std.specs.Int.Signed.{lt_z_yes}
use Rattle.std.specs.List.{AllByRecursion, IsDistinct, filter_map}
use Rattle.std.specs.Ordering.{is_eq}
use Rattle.std.specs.Set.{is_member}
use Rattle.std.specs.declared.cmp.Ordering.TheVariants.{Less, Equal}
use Rattle.sqlite.specs.declared.types.Value.TheVariants.{Int}
use Rattle.sqlite.specs.Effect.{Database}
use Rattle.sqlite.specs.Order.{Row, value_cmp}
use Rattle.sqlite_rules.specs.Lists.{Has}
use Rattle.sqlite_rules.proofs.ListLemmas.{has_filtered, has_kept, some_from, some_has}
use Rattle.sqlite_rules.proofs.ProbeLemmas.{has_mapped, mapped_has}
use Rattle.sqlite_trees.specs.Tree.{IsAscending}
use Rattle.sqlite_value.proofs.OrderLemmas.{value_cmp_total}
use Rattle.gaz_views.specs.declared.verdict.Verdict.{Verdict}
use Rattle.gaz_keeper.proofs.Pairs.{pairs_exact, pairs_total}
use Rattle.gaz_keeper.specs.Board.{Board, Judgement, reached, verdict_on}
use Rattle.gaz_keeper.specs.Received.{count_above}
use Rattle.gaz_sql_facts.proofs.Lists.{has_permuted, permuted_has}
use Rattle.gaz_tables.specs.Receiveds.{FindsAbove, IsAbove, bytes_of, volume_of, volume_shown}
use Rattle.std.proofs.lemmas.Bool.{and_parts}
use Rattle.gaz_tables.specs.Schema.{received, version2}
use Rattle.gaz_tables.specs.Tables.{rows_of}
use Rattle.gaz_row_items.specs.Versions.{number_in}
use Rattle.gaz_row_items.proofs.Pairs.{at_one}
use Rattle.gaz_row_items.proofs.Pairs as pairs
use Rattle.gaz_kept.specs.Contents.{board_of}
use Rattle.gaz_kept.specs.Files.{bytes_in, custodian_in, file_in, files_in, judged_in, reached_in, volume_in}
use Rattle.gaz_kept.specs.Judging.{AreFiles, BoardReads}
use Rattle.gaz_kept.specs.Kept.{IsFile, IsKept}
use Rattle.gaz_kept.proofs.Boards.{board_reads}
use Rattle.gaz_calls.proofs.Counts.{above_is, above_true, counts, is_above, is_same, same, waits}
use Rattle.gaz_kept.proofs.Judging.{said_by, single_files}
use Rattle.gaz_kept.proofs.Stands.{IsThere, are_files, row_of}
use Rattle.gaz_kept.proofs.RowsRead.{read_from}

-- ---- what waits

abbrev key_in : Row → ℕ × ℕ
key_in r = (custodian_in r, volume_in r)

module _ (c v most : ℕ) (rows answer : List Row) (are : AreFiles rows) (found : FindsAbove c v most rows answer) where
  abbrev chosen : List Row
  chosen = found.page.chosen

  in_rows : (r : Row) → Has chosen r → Has rows r × IsAbove c v r
  in_rows r here =
      let there = has_filtered found.page.picks.test rows r (has_permuted _ chosen r found.page.picks.same here) in
      (there.0, found.page.picks.sound r there.0 there.1)

  is_chosen : (r : Row) → Has rows r → IsAbove c v r → Has chosen r
  is_chosen r there fits = permuted_has _ chosen r found.page.picks.same (has_kept found.page.picks.test rows r there (found.page.picks.complete r there fits))

  -- no volume twice
  distinct : (rs : List Row) → ((r : Row) → Has rs r → IsFile r) → IsAscending (λ a b. value_cmp (volume_of a) (volume_of b) ≡ Less) rs → IsDistinct same (map key_in rs)
  unfolding IsDistinct
  distinct [] all rise = tt
  distinct (r ∷ rs) all rise = (apart rs (λ s here. all s (inr here)) rise.0, distinct rs (λ s here. all s (inr here)) rise.1)
    where
      other : (s : Row) → IsFile s → value_cmp (volume_of r) (volume_of s) ≡ Less → (b : Bool) → same (key_in r) (key_in s) ≡ b → same (key_in r) (key_in s) ≡ false
      other s f less false is = is
      other s f less true is =
          let vol : volume_in r ≡ volume_in s = ap (λ p. p.1) (is_same (key_in r) (key_in s) is) in
          let values : volume_of r ≡ volume_of s = (all r (inl refl)).volume ∙ ap (λ n. Int (pos n)) vol ∙ sym f.volume in
          let tied : value_cmp (volume_of r) (volume_of s) ≡ Equal = ap (value_cmp (volume_of r)) (sym values) ∙ tied_itself value_cmp_total (volume_of r) in
          let clash : Less ≡ Equal = sym less ∙ tied in
          absurd (cc)

      apart : (ss : List Row) → ((s : Row) → Has ss s → IsFile s) → AllByRecursion (λ s. value_cmp (volume_of r) (volume_of s) ≡ Less) ss → AllByRecursion (λ y. same (key_in r) y ≡ false) (map key_in ss)
      apart [] each less = tt
      apart (s ∷ ss) each less = (other s (each s (inl refl)) less.0 (same (key_in r) (key_in s)) refl, apart ss (λ t here. each t (inr here)) less.1)

  waits_from : (r : Row) → Has rows r → IsAbove c v r → waits (files_in rows) c v (key_in r) ≡ true
  waits_from r there fits =
      let there_is = finite.get-from_entries pairs_total (map file_in rows) (key_in r) ∙ at_one pairs_total pairs_exact (key_in r) (map file_in rows) (bytes_in (bytes_of r)) (single_files rows are) (mapped_has file_in rows r there) in
      let value : volume_of r ≡ Int (pos (volume_in r)) = (are.each r there).volume in
      let less : v < volume_in r = above_less r fits value in
      ap (λ o. is_some o && is_above c v (key_in r)) there_is ∙ above_true c v (custodian_in r) (volume_in r) (ap number_in fits.of_cust) less
    where
      above_less : (s : Row) → IsAbove c v s → volume_of s ≡ Int (pos (volume_in s)) → v < volume_in s
      above_less s f value =
          let same_value : Int (pos (volume_in s)) ≡ Int f.above.0 = sym value ∙ f.above.1 in
          let n : pos (volume_in s) ≡ f.above.0 = cc in
          let less = subst (λ m. pos v <ℤ m) (sym n) f.above.2 in
          ltb_yes less.lt

  has_from : (q : ℕ × ℕ) → waits (files_in rows) c v q ≡ true → is_member same (map key_in chosen) q ≡ true
  has_from q e = by_parts (finite.get (files_in rows) q) refl e
    where
      listed : (r : IsThere q.0 q.1 rows) → v < q.1 → q.0 ≡ c → is_member same (map key_in chosen) q ≡ true
      listed r less cust =
          let keys : key_in r.row ≡ q = λ i. (number_in (r.is.of_cust i), number_in (r.is.of_volume i)) in
          let fits : IsAbove c v r.row = record { of_cust = r.is.of_cust ∙ ap (λ n. Int (pos n)) cust; above = (pos q.1, r.is.of_volume, lt_z_yes (yes_ltb less)) } in
          some_from (same q) (map key_in chosen) q (subst (Has (map key_in chosen)) keys (mapped_has key_in chosen r.row (is_chosen r.row r.there fits)))
          (ap is_eq (tied_itself pairs_total q))

      by_parts : (o : Option (List ℕ)) → finite.get (files_in rows) q ≡ o → (is_some o && is_above c v q) ≡ true → is_member same (map key_in chosen) q ≡ true
      by_parts None is e = let clash : false ≡ true = e in absurd (cc)
      by_parts (Some bytes) is e =
          let two = above_is c v q.0 q.1 e in
          listed (row_of rows are q.0 q.1 (subst IsSome (sym is) refl)) two.1 two.0

  has_is : (q : ℕ × ℕ) → is_member same (map key_in chosen) q ≡ waits (files_in rows) c v q
  has_is q = both_ways _ _
      (λ e.
      let k = some_has (same q) (map key_in chosen) e in
      let r = has_mapped key_in chosen k.0 k.1 in
      let it = in_rows r.0 r.1 in
      subst (λ p. waits (files_in rows) c v p ≡ true) (sym (is_same q k.0 k.2 ∙ r.2)) (waits_from r.0 it.0 it.1))
      (has_from q)

  -- they are all there are, where the page isn't full
  pub counted_above : length answer < most → count_above (files_in rows) c v ≡ length answer
  counted_above few =
      counts (files_in rows) c v (map key_in chosen) (distinct chosen (λ r here. are.each r (in_rows r here).0) found.strict) has_is
      ∙ length-map chosen key_in
      ∙ sym (ap length found.page.shown ∙ length-map (take most chosen) volume_shown ∙ ap length (take_all most chosen short))
    where
      short : length chosen ≤ most
      short =
          let shown = ap length found.page.shown ∙ length-map (take most chosen) volume_shown ∙ length-take most chosen in
          omega (arith, shown, few)

-- none waits behind the last volume
pub none_beyond : (db : Database) → IsKept db → (c v : ℕ) → 999_999 < v → 0 ≡ count_above (files_in (rows_of db received)) c v
unfolding IsDistinct
none_beyond db kept c v late = sym (counts (files_in (rows_of db received)) c v [] tt none)
  where
    by_test : (q : ℕ × ℕ) (b : Bool) → waits (files_in (rows_of db received)) c v q ≡ b → false ≡ waits (files_in (rows_of db received)) c v q
    by_test q false is = sym is
    by_test q true is =
        let parts = and_parts _ _ is in
        let r = row_of (rows_of db received) (are_files db kept) q.0 q.1 parts.0 in
        let last = (kept.files r.row r.there).last in
        let volume : volume_in r.row ≡ q.1 = ap number_in r.is.of_volume in
        absurd (omega (arith, late, last, volume, (above_is c v q.0 q.1 parts.1).1))

    none : (q : ℕ × ℕ) → is_member same [] q ≡ waits (files_in (rows_of db received)) c v q
    none q = by_test q (waits (files_in (rows_of db received)) c v q) refl

-- ---- what is judged

is_judged : (board : Board) (c t : ℕ) → is_some (verdict_on board c (suc t)) ≡ nat_le (suc t) (reached board c)
is_judged board c t = by_place (slice_get_cases (board c) t).1
  where
    by_place : ((j : Judgement) × (t < length (board c)) × (slice_get (board c) t ≡ Some j) × (get_or (board c) t j ≡ j)) ⊎ ((length (board c) ≤ t) × (slice_get (board c) t ≡ None)) → is_some (verdict_on board c (suc t)) ≡ nat_le (suc t) (reached board c)
    by_place (inl here) = let less = here.1 in ap (λ o. is_some (option_map (λ (j : Judgement). j.verdict) o)) here.2 ∙ sym (le-leb (suc t) (length (board c)) (omega (arith, less)))
    by_place (inr past) = let le = past.0 in ap (λ o. is_some (option_map (λ (j : Judgement). j.verdict) o)) past.1 ∙ sym (lt-leb (suc t) (length (board c)) (omega (arith, le)))

-- whether a volume is judged tells whether it is reached
pub judged_upto : (db : Database) (c v : ℕ) (x : Option Verdict) → 1 ≤ v → x ≡ verdict_on (board_of db) c v → is_some x ≡ nat_le v (reached_in (rows_of db received) c)
judged_upto db c zero x first is = absurd (omega arith)
judged_upto db c (suc t) x first is = ap is_some is ∙ is_judged (board_of db) c t ∙ ap (nat_le (suc t)) (board_reads (rows_of db received) (rows_of db version2) c).reached

-- the row of a judged volume
record IsJudgedRow (c v : ℕ) (rows : List Row) : Type 0 where
  row : Row
  there : Has rows row
  cust : custodian_in row ≡ c
  volume : volume_in row ≡ v

judged_row : (db : Database) → IsKept db → (c t : ℕ) → suc t ≤ reached_in (rows_of db received) c → IsJudgedRow c (suc t) (rows_of db received)
judged_row db kept c t le = by_verdict (verdict_on (board_of db) c (suc t)) refl (is_judged (board_of db) c t ∙ le-leb (suc t) (reached (board_of db) c) (omega (arith, reads.reached, le)))
  where
    reads : BoardReads (rows_of db received) (rows_of db version2) c
    reads = board_reads (rows_of db received) (rows_of db version2) c

    by_verdict : (o : Option Verdict) → verdict_on (board_of db) c (suc t) ≡ o → is_some o ≡ true → IsJudgedRow c (suc t) (rows_of db received)
    by_verdict None is some = let clash : false ≡ true = some in absurd (cc)
    by_verdict (Some w) is some =
        let entries = filter_map (judged_in c) (rows_of db received) in
        let entry = pairs.found nat_cmp_total exact_unsigned (suc t) entries w (sym (finite.get-from_entries nat_cmp_total entries (suc t)) ∙ sym (reads.verdict (kept.first c) (suc t)) ∙ is) in
        let r = read_from (judged_in c) (rows_of db received) (suc t, w) entry in
        let said = said_by c r.0 (suc t) w r.2 in
        record { row = r.0; there = r.1; cust = said.custodian; volume = said.volume }

-- it isn't beyond the last volume
pub reached_within : (db : Database) → IsKept db → (c : ℕ) → reached_in (rows_of db received) c ≤ 999_999
reached_within db kept c = by_count (reached_in (rows_of db received) c) refl
  where
    by_count : (n : ℕ) → reached_in (rows_of db received) c ≡ n → reached_in (rows_of db received) c ≤ 999_999
    by_count zero is = omega (arith, is)
    by_count (suc t) is =
        let r = judged_row db kept c t (omega (arith, is)) in
        let last = (kept.files r.row r.there).last in
        omega (arith, is, r.volume, last)

-- and it was received
pub judged_there : (db : Database) → IsKept db → (c v : ℕ) → 1 ≤ v → v ≤ reached_in (rows_of db received) c → IsSome (finite.get (files_in (rows_of db received)) (c, v))
judged_there db kept c zero first le = absurd (omega arith)
judged_there db kept c (suc t) first le =
    let r = judged_row db kept c t le in
    let keys : key_in r.row ≡ (c, suc t) = λ i. (r.cust i, r.volume i) in
    let are = are_files db kept in
    let there_is = finite.get-from_entries pairs_total (map file_in (rows_of db received)) (key_in r.row)
    ∙ at_one pairs_total pairs_exact (key_in r.row) (map file_in (rows_of db received)) (bytes_in (bytes_of r.row)) (single_files (rows_of db received) are) (mapped_has file_in (rows_of db received) r.row r.there) in
    subst (λ (p : ℕ × ℕ). IsSome (finite.get (files_in (rows_of db received)) p)) keys (subst IsSome (sym there_is) refl)
