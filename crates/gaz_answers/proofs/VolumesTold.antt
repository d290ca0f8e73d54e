-- What is told of a custodian's received volumes above one.
use Rattle.std.proofs.Common.{◌≡◌, ◌∙◌, ◌≤◌, ◌<◌, ◌<ℤ◌, ℕ, pos, List, [], map, take, inl, inr, refl, sym, ap, subst, arith}
use Rattle.std.specs.Prelude.{IsSome}
use Rattle.std.proofs.lemmas.Int.{ints}
use Rattle.std.proofs.lemmas.List.{length-take}
use Rattle.std.specs.FinMap as finite
use Rattle.std.specs.declared.cmp.Ordering.TheVariants.{Less}
use Rattle.sqlite.specs.declared.types.Value.TheVariants.{Int}
use Rattle.sqlite.specs.Effect.{Database}
use Rattle.sqlite.specs.Order.{Row, column, value_cmp}
use Rattle.sqlite_rules.specs.Lists.{Has}
use Rattle.sqlite_rules.proofs.ListLemmas.{has_filtered, has_kept}
use Rattle.sqlite_rules.proofs.ProbeLemmas.{mapped_has}
use Rattle.gaz_keeper.proofs.Pairs.{pairs_exact, pairs_total}
use Rattle.gaz_sql_facts.proofs.Lists.{has_permuted, permuted_has}
use Rattle.gaz_tables.specs.Receiveds.{FindsAbove, IsAbove, bytes_of, volume_of, volume_shown}
use Rattle.gaz_tables.specs.Schema.{received}
use Rattle.gaz_tables.specs.Tables.{rows_of}
use Rattle.gaz_row_items.specs.Versions.{number_in}
use Rattle.gaz_row_items.proofs.Pairs.{at_one}
use Rattle.gaz_kept.specs.Files.{bytes_in, custodian_in, file_in, files_in, volume_in}
use Rattle.gaz_kept.specs.Judging.{AreFiles}
use Rattle.gaz_kept.specs.Kept.{IsKept}
use Rattle.gaz_kept.proofs.Judging.{single_files}
use Rattle.gaz_kept.proofs.Stands.{are_files, row_of}
use Rattle.gaz_answers.specs.Volumes.{SayVolumes, TellsVolumes, WasReceived, whole}
use Rattle.gaz_answers.proofs.LivesTold.{less_is}
use Rattle.gaz_answers.proofs.Paired.{ArePaired, left_of, none_paired, paired, right_of, rises_as, same_length}
use Rattle.gaz_answers.proofs.Taken.{before, none_taken, taken, taken_or_not, taken_rises}

module _ (c v : ℕ) (rows answer : List Row) (are : AreFiles rows) (found : FindsAbove c v 512 rows answer) (volumes : List ℕ) (say : SayVolumes answer volumes) where
  abbrev chosen : List Row
  chosen = found.page.chosen

  abbrev shown : List Row
  shown = take 512 chosen

  abbrev Says : Row → ℕ → Type 0
  Says r n = volume_of r ≡ whole n

  abbrev Rises : Row → Row → Type 0
  Rises a b = value_cmp (volume_of a) (volume_of b) ≡ Less

  in_rows : (r : Row) → Has chosen r → Has rows r × IsAbove c v r
  in_rows r here =
      let there = has_filtered found.page.picks.test rows r (has_permuted _ chosen r found.page.picks.same here) in
      (there.0, found.page.picks.sound r there.0 there.1)

  is_chosen : (r : Row) → Has rows r → IsAbove c v r → Has chosen r
  is_chosen r there fits = permuted_has _ chosen r found.page.picks.same (has_kept found.page.picks.test rows r there (found.page.picks.complete r there fits))

  pairs : ArePaired Says shown volumes
  pairs = paired volume_shown (λ r. column r 0) whole shown volumes (ap (map (λ r. column r 0)) (sym found.page.shown) ∙ say)

  -- the volume of a row was received
  was_received : (r : Row) (n : ℕ) → Has rows r → IsAbove c v r → Says r n → WasReceived (files_in rows) c n
  was_received r n there fits is =
      let there_is = finite.get-from_entries pairs_total (map file_in rows) (custodian_in r, volume_in r)
      ∙ at_one pairs_total pairs_exact (custodian_in r, volume_in r) (map file_in rows) (bytes_in (bytes_of r)) (single_files rows are) (mapped_has file_in rows r there) in
      let keys : (custodian_in r, volume_in r) ≡ (c, n) = λ i. (number_in (fits.of_cust i), number_in (is i)) in
      subst (λ (p : ℕ × ℕ). IsSome (finite.get (files_in rows) p)) keys (subst IsSome (sym there_is) refl)

  is_higher : (r : Row) (n : ℕ) → IsAbove c v r → Says r n → v < n
  is_higher r n fits is =
      let value : Int fits.above.0 ≡ Int (pos n) = sym fits.above.1 ∙ is in
      let same : fits.above.0 ≡ pos n = cc in
      let less : pos v <ℤ pos n = subst (λ m. pos v <ℤ m) same fits.above.2 in
      omega (arith, ints, less)

  lower : (r s : Row) (m n : ℕ) → Says r m → Says s n → Rises r s → m < n
  lower r s m n rm sn less = let under : pos m <ℤ pos n = less_is (pos m) (pos n) ((λ i. value_cmp (sym rm i) (sym sn i)) ∙ less) in omega (arith, ints, under)

  -- the row of a received volume above it is chosen
  there_above : (n : ℕ) → WasReceived (files_in rows) c n → v < n → (r : Row) × Has chosen r × Says r n
  there_above n some above =
      let r = row_of rows are c n some in
      let fits : IsAbove c v r.row = record { of_cust = r.is.of_cust; above = (pos n, r.is.of_volume, omega (arith, ints, above)) } in
      (r.row, is_chosen r.row r.there fits, r.is.of_volume)

  complete : (n last : ℕ) → WasReceived (files_in rows) c n → v < n → Has volumes last → n ≤ last → Has volumes n
  complete n last some above here le =
      let r = there_above n some above in
      elim (taken_or_not 512 chosen r.0 r.1) [
        | inl early ↦
            let m = right_of Says shown volumes pairs r.0 early in
            let value : Int (pos m.0) ≡ Int (pos n) = sym m.2 ∙ r.2 in
            let same : m.0 ≡ n = cc in
            subst (Has volumes) same m.1
        | inr late ↦
            let s = left_of Says shown volumes pairs last here in
            let under = lower s.0 r.0 last n s.2 r.2 (before Rises 512 chosen s.0 r.0 found.strict s.1 late) in
            absurd (omega (arith, under, le))
      ]

  pub volumes_told : TellsVolumes (files_in rows) c v volumes
  volumes_told = record {
    received = λ n here. let r = left_of Says shown volumes pairs n here in let it = in_rows r.0 (taken 512 chosen r.0 r.1) in was_received r.0 n it.0 it.1 r.2;
    higher = λ n here. let r = left_of Says shown volumes pairs n here in let it = in_rows r.0 (taken 512 chosen r.0 r.1) in is_higher r.0 n it.1 r.2;
    complete = complete;
    rising = rises_as Says Rises (λ m n. m < n) shown volumes pairs (λ a b m n ha hb am bn less. lower a b m n am bn less) (taken_rises Rises 512 chosen found.strict);
    ends = λ none n above some. let r = there_above n some above in none_taken 511 chosen (none_paired Says shown (subst (ArePaired Says shown) none pairs)) r.0 r.1;
    few = let n = same_length Says shown volumes pairs in let m = length-take 512 chosen in omega (arith, n, m);
  }

-- none is above the last volume
pub none_above : (db : Database) → IsKept db → (c v : ℕ) (volumes : List ℕ) → 999_999 < v → volumes ≡ [] → TellsVolumes (files_in (rows_of db received)) c v volumes
none_above db kept c v volumes late none = subst (TellsVolumes (files_in (rows_of db received)) c v) (sym none) (record {
  received = λ n here. absurd here;
  higher = λ n here. absurd here;
  complete = λ n last some above here le. absurd here;
  rising = tt;
  ends = λ empty n above some.
      let r = row_of (rows_of db received) (are_files db kept) c n some in
      let last = (kept.files r.row r.there).last in
      let is : volume_in r.row ≡ n = ap number_in r.is.of_volume in
      absurd (omega (arith, late, above, last, is));
  few = omega arith;
})
