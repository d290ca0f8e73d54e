-- What queries find in `received` is as a store writes it.
use Rattle.std.proofs.Common.{◌≡◌, ◌∙◌, ◌≤◌, ◌<◌, ◌<ℤ◌, ◌+◌, inl, inr, ℕ, pos, List, [], ◌∷◌, length, take, refl, sym, ap, arith}
use Rattle.std.proofs.lemmas.Int.{ints}
use Rattle.std.proofs.lemmas.List.{length-map, length-take}
use Rattle.std.specs.declared.cmp.Ordering.TheVariants.{Less}
use Rattle.sqlite.specs.Effect.{Database}
use Rattle.sqlite.specs.Order.{Row, value_cmp}
use Rattle.sqlite_rules.specs.Lists.{Has}
use Rattle.sqlite_rules.proofs.ListLemmas.{all_has, has_filtered}
use Rattle.sqlite_trees.specs.Tree.{IsAscending}
use Rattle.gaz_sql_facts.proofs.Lists.{has_permuted}
use Rattle.gaz_tables.specs.Receiveds.{FindsAbove, FindsFile, FindsVerdict, IsAbove, IsVolume, bytes_of, file_shown, verdict_shown, volume_of, volume_place, volume_shown}
use Rattle.gaz_tables.specs.Schema.{received}
use Rattle.gaz_tables.specs.Tables.{rows_of}
use Rattle.gaz_row_items.specs.Decoding.{Each}
use Rattle.gaz_kept.specs.Files.{bytes_in, volume_in}
use Rattle.gaz_kept.specs.Kept.{IsFile, IsKept}
use Rattle.gaz_answers.specs.Answers.{ShowsBytes, ShowsVerdict}
use Rattle.gaz_answers.specs.Volumes.{ShowsVolume}
use Rattle.gaz_answers.proofs.LivesTold.{less_is}
use Rattle.gaz_answers.proofs.ShownRows.{all_shown, page_shown}

abbrev Rises : Row → Row → Type 0
Rises a b = value_cmp (volume_of a) (volume_of b) ≡ Less

lower : (r s : Row) → IsFile r → IsFile s → Rises r s → volume_in r < volume_in s
lower r s f g less = let under : pos (volume_in r) <ℤ pos (volume_in s) = less_is (pos (volume_in r)) (pos (volume_in s)) ((λ i. value_cmp (sym f.volume i) (sym g.volume i)) ∙ less) in omega (arith, ints, under)

-- files whose volumes rise from one on are no more than the volumes up to the last
risen : (from : ℕ) (files : List Row) → from ≤ 1_000_000 → ((r : Row) → Has files r → IsFile r × (from ≤ volume_in r)) → IsAscending Rises files → length files + from ≤ 1_000_000
risen from [] room each up = omega (arith, room)
risen from (r ∷ files) room each up =
    let it = each r (inl refl) in
    let last : volume_in r ≤ 999_999 = it.0.last in
    let first = it.1 in
    let more = risen (volume_in r + 1) files (omega (arith, last)) (λ s there.
    let file = (each s (inr there)).0 in
    let less = lower r s it.0 file (all_has (Rises r) files s up.0 there) in
    (file, omega (arith, less))) up.1 in
    omega (arith, more, first)

module _ (c v : ℕ) (db : Database) (answer : List Row) (kept : IsKept db) where
  abbrev rows : List Row
  rows = rows_of db received

  pub verdict_shown_whole : FindsVerdict c v rows answer → Each ShowsVerdict answer
  verdict_shown_whole = all_shown ShowsVerdict (IsVolume c v) verdict_shown rows shows answer
    where
      shows : (r : Row) → Has rows r → IsVolume c v r → ShowsVerdict (verdict_shown r)
      shows r there fit = let f = kept.files r there in record { state = f.state; place = f.place; rule = f.rule; states = f.states; rules = f.rules }

  pub bytes_shown : FindsFile c v rows answer → Each ShowsBytes answer
  bytes_shown = all_shown ShowsBytes (IsVolume c v) file_shown rows (λ r there fit. (bytes_in (bytes_of r), (kept.files r there).bytes)) answer

  module _ (most : ℕ) (found : FindsAbove c v most rows answer) where
    pub volumes_shown : Each ShowsVolume answer
    volumes_shown = page_shown ShowsVolume (IsAbove c v) volume_shown rows shows answer volume_place most found.page
      where
        shows : (r : Row) → Has rows r → IsAbove c v r → ShowsVolume (volume_shown r)
        shows r there fit = let f = kept.files r there in record { volume = volume_in r; said = f.volume; first = f.first; last = f.last }

    -- each volume is there once
    pub few_above : length answer < 1_000_000
    few_above =
        let chosen = found.page.chosen in
        let each = risen 1 chosen (omega arith) (λ r here.
        let there = (has_filtered found.page.picks.test rows r (has_permuted _ chosen r found.page.picks.same here)).0 in
        let file = kept.files r there in
        (file, file.first)) found.strict in
        let all : length answer ≡ length (take most chosen) = ap length found.page.shown ∙ length-map (take most chosen) volume_shown in
        let some = length-take most chosen in
        omega (arith, each, all, some)
