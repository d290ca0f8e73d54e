-- The bytes that a query of `received` answers are those of the file.
use Rattle.std.proofs.Common.{◌≡◌, ◌∙◌, inl, ℕ, List, [], ◌∷◌, map, refl, sym, ap, subst}
use Rattle.std.specs.Prelude.{Option, Some, None, IsSome, option_map}
use Rattle.std.specs.Global.{Vec}
use Rattle.std.specs.FinMap as finite
use Rattle.sqlite.specs.Order.{Row}
use Rattle.sqlite_rules.specs.Lists.{Has}
use Rattle.sqlite_rules.proofs.ListLemmas.{has_filtered, has_kept}
use Rattle.sqlite_rules.proofs.ProbeLemmas.{mapped_has}
use Rattle.gaz_keeper.proofs.Pairs.{pairs_exact, pairs_total}
use Rattle.gaz_sql_facts.proofs.Lists.{has_permuted, permuted_has}
use Rattle.gaz_tables.specs.Receiveds.{FindsFile, bytes_of, file_shown}
use Rattle.gaz_answers.specs.Answers.{SaysBytes}
use Rattle.gaz_row_items.specs.Versions.{number_in}
use Rattle.gaz_row_items.proofs.Pairs.{at_one}
use Rattle.gaz_kept.specs.Files.{bytes_in, custodian_in, file_in, files_in, volume_in}
use Rattle.gaz_kept.specs.Judging.{AreFiles}
use Rattle.gaz_kept.proofs.Judging.{single_files}
use Rattle.gaz_kept.proofs.Stands.{row_of}

module _ (c v : ℕ) (rows answer : List Row) (are : AreFiles rows) (found : FindsFile c v rows answer) where
  abbrev entry : Option (List ℕ)
  entry = finite.get (files_in rows) (c, v)

  one_there : (r : Row) → Has found.chosen r → entry ≡ Some (bytes_in (bytes_of r))
  one_there r here =
      let there = has_filtered found.picks.test rows r (has_permuted _ found.chosen r found.picks.same here) in
      let fits = found.picks.sound r there.0 there.1 in
      let keys : (custodian_in r, volume_in r) ≡ (c, v) = λ i. (number_in (fits.of_cust i), number_in (fits.of_volume i)) in
      subst (λ (p : ℕ × ℕ). finite.get (files_in rows) p ≡ Some (bytes_in (bytes_of r))) keys
      (finite.get-from_entries pairs_total (map file_in rows) (custodian_in r, volume_in r)
      ∙ at_one pairs_total pairs_exact (custodian_in r, volume_in r) (map file_in rows) (bytes_in (bytes_of r)) (single_files rows are) (mapped_has file_in rows r there.0))

  none_there : found.chosen ≡ [] → entry ≡ None
  none_there none = by_answer entry refl
    where
      by_answer : (o : Option (List ℕ)) → finite.get (files_in rows) (c, v) ≡ o → finite.get (files_in rows) (c, v) ≡ None
      by_answer None is = is
      by_answer (Some bytes) is =
          let r = row_of rows are c v (subst IsSome (sym is) refl) in
          let passes = found.picks.complete r.row r.there r.is in
          absurd (subst (λ l. Has l r.row) none (permuted_has _ found.chosen r.row found.picks.same (has_kept found.picks.test rows r.row r.there passes)))

  pub bytes_told : (x : Option (Vec ℕ)) → SaysBytes answer x → option_map (λ b. b.items) x ≡ entry
  bytes_told x says = by_chosen found.chosen refl (subst (λ a. SaysBytes a x) found.shown says)
    where
      by_chosen : (l : List Row) → found.chosen ≡ l → SaysBytes (map file_shown found.chosen) x → option_map (λ b. b.items) x ≡ entry
      by_chosen [] is s =
          let none : x ≡ None = subst (λ l. SaysBytes (map file_shown l) x) is s in
          ap (option_map (λ b. b.items)) none ∙ sym (none_there is)
      by_chosen (r ∷ l) is s =
          let said = subst (λ l. SaysBytes (map file_shown l) x) is s in
          ap (option_map (λ b. b.items)) said.1 ∙ ap (λ b. Some (bytes_in b)) (sym said.2) ∙ sym (one_there r (subst (λ l. Has l r) (sym is) (inl refl)))
