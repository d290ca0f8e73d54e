-- What is told of the rows of `version2` in the order of their rowids.
use Rattle.std.proofs.Common.{◌≡◌, ◌∙◌, ◌==◌, ◌<ℤ◌, ℕ, ℤ, Bool, true, false, cond, List, [], ◌∷◌, ◌≤◌, filter, length, map, take, inl, inr, refl, sym, ap, subst, arith, eq-eqb, eqb-true}
use Rattle.std.specs.Prelude.{Option, Some, None, option_map}
use Rattle.std.proofs.lemmas.Int.{ints}
use Rattle.std.proofs.lemmas.List.{length-take}
use Rattle.std.specs.Cmp.{int_ranks}
use Rattle.std.specs.Ordering.{MatchOrdering}
use Rattle.std.specs.declared.cmp.Ordering.TheVariants.{Less}
use Rattle.sqlite.specs.declared.types.Value.TheVariants.{Int}
use Rattle.sqlite.specs.Edit.{id_in}
use Rattle.sqlite.specs.Effect.{Database}
use Rattle.sqlite.specs.Order.{Row, value_cmp}
use Rattle.sqlite_rules.specs.Lists.{Has}
use Rattle.sqlite_rules.proofs.ListLemmas.{all_from, all_has, has_filtered, has_kept}
use Rattle.sqlite_rules.proofs.ProbeLemmas.{has_mapped, mapped_has}
use Rattle.sqlite_trees.specs.Tree.{IsAscending}
use Rattle.sqlite_value.proofs.OrderLemmas.{value_cmp-Int}
use Rattle.gaz_records.specs.declared.item.Item.{Item}
use Rattle.gaz_overlay.specs.Rows.{never}
use Rattle.gaz_sql_facts.proofs.Lists.{has_permuted, permuted_has}
use Rattle.gaz_tables.proofs.RowidMeanings.{rowid_is}
use Rattle.gaz_tables.specs.Rowids.{FindsInTurn, row_shown, rowid_of}
use Rattle.gaz_tables.specs.Schema.{version2}
use Rattle.gaz_tables.specs.Versions.{born_of, cust_of, gone_of}
use Rattle.gaz_tables.specs.Tables.{rows_of}
use Rattle.gaz_row_items.specs.Versions.{history_in, item_in, living, number_in}
use Rattle.gaz_kept.specs.Kept.{IsKept}
use Rattle.gaz_kept.proofs.RowsRead.{not_none}
use Rattle.gaz_loaded.specs.Lives as loaded
use Rattle.gaz_loaded.specs.declared.listed.Life.{Life}
use Rattle.gaz_answers.specs.Lives.{GoesOn, IsLifePage, IsRowBehind, IsRowUntil, SayLives, SaysLife, TellsLives, TellsPage, gone_in, is_items, life_in, life_with}
use Rattle.gaz_answers.specs.declared.life_rows.LifePage.{LifePage}
use Rattle.gaz_answers.specs.declared.life_rows.LifePage.TheVariants.{Behind, Lives}
use Rattle.gaz_answers.proofs.Holding.{own_row}
use Rattle.gaz_answers.proofs.Paired.{ArePaired, left_of, none_paired, paired, right_of, rises_as, same_length}
use Rattle.gaz_answers.proofs.Taken.{before, none_taken, taken, taken_or_not, taken_rises}

-- the volume in which an item went is that of the row
end_back : (n : ℕ) → loaded.gone_of (gone_in n) ≡ n
end_back n = by_test (n == never) refl
  where
    by_test : (b : Bool) → (n == never) ≡ b → loaded.gone_of (cond b None (Some n)) ≡ n
    by_test true is = sym (eqb-true n never is)
    by_test false is = refl

pub less_is : (m n : ℤ) → value_cmp (Int m) (Int n) ≡ Less → m <ℤ n
less_is m n is = subst (λ o. MatchOrdering o (m <ℤ n) (m ≡ n) (n <ℤ m)) (sym (value_cmp-Int m n) ∙ is) (int_ranks m n)

-- what is shown of a row has its kind
filter_shown : (rows : List Row) → filter is_items (map row_shown rows) ≡ map row_shown (filter is_items rows)
filter_shown [] = refl
filter_shown (r ∷ rows) = by_test (filter_shown rows) (is_items r)
  where
    by_test : filter is_items (map row_shown rows) ≡ map row_shown (filter is_items rows) → (b : Bool)
        → cond b (row_shown r ∷ filter is_items (map row_shown rows)) (filter is_items (map row_shown rows)) ≡ map row_shown (cond b (r ∷ filter is_items rows) (filter is_items rows))
    by_test next true = ap (λ l. row_shown r ∷ l) next
    by_test next false = next

length_filtered : {X : Type 0} (p : X → Bool) (xs : List X) → length (filter p xs) ≤ length xs
length_filtered p [] = omega arith
length_filtered p (x ∷ xs) = by_test (length_filtered p xs) (p x)
  where
    by_test : length (filter p xs) ≤ length xs → (b : Bool) → length (cond b (x ∷ filter p xs) (filter p xs)) ≤ length (x ∷ xs)
    by_test le true = omega (arith, le)
    by_test le false = omega (arith, le)

filtered_rises : {X : Type 0} (R : X → X → Type 0) (p : X → Bool) (xs : List X) → IsAscending R xs → IsAscending R (filter p xs)
filtered_rises R p [] up = tt
filtered_rises R p (x ∷ xs) up = by_test (filtered_rises R p xs up.1) (p x)
  where
    by_test : IsAscending R (filter p xs) → (b : Bool) → IsAscending R (cond b (x ∷ filter p xs) (filter p xs))
    by_test more true = (all_from (R x) (filter p xs) (λ y there. all_has (R x) xs y up.0 (has_filtered p xs y there).0), more)
    by_test more false = more

module _ (db : Database) (kept : IsKept db) where
  abbrev rows : List Row
  rows = rows_of db version2

  abbrev IsHistory : Row → Life → Type 0
  IsHistory r life = history_in life.code r ≡ Some (living life.born (loaded.gone_of life.gone) life.item)

  -- a row that says a life says all of it
  says : (r : Row) → Has rows r → (life : Life) → life_in r ≡ Some life → SaysLife r life
  says r there life is = by_item (item_in r) refl is
    where
      history : (x : Item) → item_in r ≡ Some x → IsHistory r (life_with r x)
      history x item =
          ap (λ b. cond b (option_map (living (number_in (born_of r)) (number_in (gone_of r))) (item_in r)) None) (eq-eqb (number_in (cust_of r)) (number_in (cust_of r)) refl)
          ∙ ap (option_map (living (number_in (born_of r)) (number_in (gone_of r)))) item
          ∙ ap (λ n. Some (living (number_in (born_of r)) n x)) (sym (end_back (number_in (gone_of r))))

      by_item : (o : Option Item) → item_in r ≡ o → option_map (life_with r) o ≡ Some life → SaysLife r life
      by_item None item e = not_none life e refl
      by_item (Some x) item e =
          let same : life_with r x ≡ life = cc in
          let rowid = (rowid_is db kept.tables r there).1 in
          subst (SaysLife r) same (record { place = rowid ∙ ap Int (sym (ap id_in rowid)); custodian = (own_row r (kept.rows r there) x item).cust; history = history x item })

  lower : (r s : Row) (x y : Life) → SaysLife r x → SaysLife s y → value_cmp (rowid_of r) (rowid_of s) ≡ Less → x.place <ℤ y.place
  lower r s x y rx sy less = less_is x.place y.place ((λ i. value_cmp (sym rx.place i) (sym sy.place i)) ∙ less)

  module _ (after : Option ℤ) (answer : List Row) (found : FindsInTurn (IsRowBehind after) 512 rows answer) where
    abbrev chosen : List Row
    chosen = found.page.chosen

    abbrev shown : List Row
    shown = take 512 chosen

    -- those of items among them
    abbrev ours : List Row
    ours = filter is_items shown

    abbrev Says : Row → Life → Type 0
    Says r life = life_in (row_shown r) ≡ Some life

    abbrev Rises : Row → Row → Type 0
    Rises a b = value_cmp (rowid_of a) (rowid_of b) ≡ Less

    in_rows : (r : Row) → Has chosen r → Has rows r × IsRowBehind after r
    in_rows r here =
        let there = has_filtered found.page.picks.test rows r (has_permuted _ chosen r found.page.picks.same here) in
        (there.0, found.page.picks.sound r there.0 there.1)

    is_chosen : (r : Row) → Has rows r → IsRowBehind after r → Has chosen r
    is_chosen r there fits = permuted_has _ chosen r found.page.picks.same (has_kept found.page.picks.test rows r there (found.page.picks.complete r there fits))

    -- one of ours is one of the page
    of_page : (r : Row) → Has ours r → Has chosen r
    of_page r here = taken 512 chosen r (has_filtered is_items shown r here).0

    module _ (lives : List Life) (say : SayLives answer lives) where
      pairs : ArePaired Says ours lives
      pairs = paired row_shown life_in Some ours lives (ap (map life_in) (sym (filter_shown shown) ∙ ap (filter is_items) (sym found.page.shown)) ∙ say)

      ours_say : (r : Row) → Has ours r → (life : Life) → Says r life → SaysLife r life
      ours_say r here life is = says r (in_rows r (of_page r here)).0 life is

      complete : (r : Row) (last : Life) → Has rows r → is_items r ≡ true → Has lives last → IsRowBehind after r → IsRowUntil last.place r → (life : Life) × Has lives life × SaysLife r life
      complete r last there item here behind until = elim (taken_or_not 512 chosen r (is_chosen r there behind)) [
        | inl early ↦
            let own = has_kept is_items shown r early item in
            let life = right_of Says ours lives pairs r own in
            (life.0, life.1, ours_say r own life.0 life.2)
        | inr late ↦
            let s = left_of Says ours lives pairs last here in
            let is = ours_say s.0 s.1 last s.2 in
            let less = before Rises 512 chosen s.0 r found.strict (has_filtered is_items shown s.0 s.1).0 late in
            let under : last.place <ℤ until.0 = less_is last.place until.0 ((λ i. value_cmp (sym is.place i) (sym until.1 i)) ∙ less) in
            let over = until.2 in
            absurd (omega (arith, ints, under, over))
      ]

      lives_told : (lives ≡ [] → answer ≡ []) → TellsLives after lives rows
      lives_told whole = record {
        said = λ life here.
            let r = left_of Says ours lives pairs life here in
            let it = in_rows r.0 (of_page r.0 r.1) in
            (r.0, it.0, it.1, ours_say r.0 r.1 life r.2);
        complete = complete;
        rising = rises_as Says Rises (λ a b. a.place <ℤ b.place) ours lives pairs
            (λ a b c d ha hb ac bd less. lower a b c d (ours_say a ha c ac) (ours_say b hb d bd) less)
            (filtered_rises Rises is_items shown (taken_rises Rises 512 chosen found.strict));
        ends = λ none r there item behind. none_taken 511 chosen (λ q here. none_shown (whole none) q here) r (is_chosen r there behind);
        few =
            let n = same_length Says ours lives pairs in
            let m = length-take 512 chosen in
            let k = length_filtered is_items shown in
            omega (arith, n, m, k);
      }
        where
          none_shown : answer ≡ [] → (q : Row) → ¬ Has shown q
          none_shown none q here = subst (λ l. Has l (row_shown q)) (sym found.page.shown ∙ none) (mapped_has row_shown shown q here)

    -- where no row of the page is an item's, what there is comes behind one of them
    goes_on : SayLives answer [] → (s : Row) → Has answer s → (last : ℤ) → rowid_of s ≡ Int last → GoesOn after (Some last) rows
    goes_on none s here last is = record { to = to; from = from }
      where
        m : (r : Row) × Has shown r × (s ≡ row_shown r)
        m = has_mapped row_shown shown s (subst (λ l. Has l s) found.page.shown here)

        place : rowid_of m.0 ≡ Int last
        place = sym (ap rowid_of m.2) ∙ is

        to : (r : Row) → Has rows r → is_items r ≡ true → IsRowBehind after r → IsRowBehind (Some last) r
        to r there item behind = elim (taken_or_not 512 chosen r (is_chosen r there behind)) [
          | inl early ↦ absurd (none_paired Says ours (pairs [] none) r (has_kept is_items shown r early item))
          | inr late ↦
              let rowid = rowid_is db kept.tables r there in
              let less = before Rises 512 chosen m.0 r found.strict m.1 late in
              (rowid.0, rowid.1, less_is last rowid.0 ((λ i. value_cmp (sym place i) (sym rowid.1 i)) ∙ less))
        ]

        from : (r : Row) → IsRowBehind (Some last) r → IsRowBehind after r
        from r behind = by_place after (in_rows m.0 (taken 512 chosen m.0 m.1)).1
          where
            by_place : (after : Option ℤ) → IsRowBehind after m.0 → IsRowBehind after r
            by_place None first = tt
            by_place (Some n) first =
                let one : Int first.0 ≡ Int last = sym first.1 ∙ place in
                let same : first.0 ≡ last = cc in
                let before_it : n <ℤ last = subst (λ i. n <ℤ i) same first.2 in
                let later = behind.2 in
                (behind.0, behind.1, omega (arith, ints, before_it, later))

    pub page_tells : (page : LifePage) → IsLifePage answer page → TellsPage after rows page
    page_tells (Lives lives) is = lives_told lives.items is.0 is.1
    page_tells (Behind last) is = goes_on is.0 is.1 is.2 last is.3

-- ---- one page after another

pub goes_nowhere : (after : Option ℤ) (all : List Row) → GoesOn after after all
goes_nowhere after all = record { to = λ r there item behind. behind; from = λ r behind. behind }

pub goes_further : (after place next : Option ℤ) (all : List Row) → GoesOn after place all → GoesOn place next all → GoesOn after next all
goes_further after place next all one two = record {
  to = λ r there item behind. two.to r there item (one.to r there item behind);
  from = λ r behind. one.from r (two.from r behind);
}

-- what is told from there on is told
pub told_from : (after place : Option ℤ) (all : List Row) (lives : List Life) → GoesOn after place all → TellsLives place lives all → TellsLives after lives all
told_from after place all lives on it = record {
  said = λ life here. let r = it.said life here in (r.0, r.1, on.from r.0 r.2, r.3);
  complete = λ r last there item here behind until. it.complete r last there item here (on.to r there item behind) until;
  rising = it.rising;
  ends = λ none r there item behind. it.ends none r there item (on.to r there item behind);
  few = it.few;
}
