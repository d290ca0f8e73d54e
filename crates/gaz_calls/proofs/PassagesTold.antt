-- What is told of a custodian's numbers, number by number and for each volume by volume.
use Rattle.std.proofs.Common.{◌≡◌, ◌∙◌, ◌≤◌, ◌<◌, ◌+◌, ◌⊎◌, ◌==◌, ℕ, pos, ◌<ℤ◌, Bool, true, false, not, List, [], ◌∷◌, length, map, take, suc, zero, inl, inr, refl, sym, ap, subst, arith, true≢false}
use Rattle.std.proofs.lemmas.Bool.{cases_lt, ne_eqb}
use Rattle.std.proofs.lemmas.Int.{ints}
use Rattle.std.specs.Prelude.{⊤, Option, Some, None, IsSorted}
use Rattle.std.proofs.lemmas.Cmp.{on_total}
use Rattle.std.proofs.lemmas.List.MinMax.{ranks_by}
use Rattle.std.specs.Cmp.{IsStrictWeakOrder, int_ranks, nat_cmp_is, then_total}
use Rattle.std.specs.Ordering.{MatchOrdering, is_gt, is_lt, nat_cmp, ordering_reverse, ordering_then}
use Rattle.std.specs.Cmp.Lexicographic.{nat_list_cmp_total, slice_cmp}
use Rattle.std.specs.declared.cmp.Ordering.{Ordering}
use Rattle.std.specs.declared.cmp.Ordering.TheVariants.{Less, Equal, Greater}
use Rattle.sqlite.specs.Effect.{Database}
use Rattle.sqlite.specs.Order.{Row, value_cmp}
use Rattle.sqlite.specs.declared.types.Value.{Value}
use Rattle.sqlite.specs.declared.types.Value.TheVariants.{Int, Text}
use Rattle.sqlite_rules.specs.Lists.{Has}
use Rattle.sqlite_rules.proofs.ListLemmas.{has_filtered, has_kept}
use Rattle.sqlite_rules.proofs.ProbeLemmas.{mapped_has}
use Rattle.sqlite_value.proofs.OrderLemmas.{value_cmp-Int, value_cmp-Text, value_cmp_total}
use Rattle.gaz_fields.specs.Labels.{label_cmp}
use Rattle.gaz_records.specs.Keys.{kind_number, text_in as text_of}
use Rattle.gaz_records.specs.declared.item.Kind.TheVariants as kind
use Rattle.gaz_records.specs.declared.key.Key.TheVariants as key
use Rattle.gaz_cells.proofs.Ids.{ids_apart, ids_back}
use Rattle.gaz_cells.specs.Custody.{told_in}
use Rattle.gaz_cells.specs.Ids.{id_of, is_key, key_named}
use Rattle.gaz_overlay.specs.Passages.{PassageRow}
use Rattle.gaz_sql_facts.proofs.Lists.{first_least, has_permuted, permuted_has}
use Rattle.gaz_tables.specs.Custody.{FindsCustodyBehind, IsCustodyBehind, by_id_and_birth, listed_shown}
use Rattle.gaz_tables.specs.Custody.{ComesBehind as Comes}
use Rattle.gaz_tables.specs.Schema.{version2}
use Rattle.gaz_tables.specs.Versions as table
use Rattle.gaz_tables.specs.Tables.{rows_of}
use Rattle.gaz_row_items.specs.Versions.{custody_cells_in, number_in, passage_in, passing, text_in}
use Rattle.gaz_kept.proofs.NewestPassages.{told_back}
use Rattle.gaz_kept.specs.Kept.{IsKept}
use Rattle.gaz_kept.proofs.PassageStatements.{Known, its_owner, kind_passage, known_of, passage_row}
use Rattle.gaz_kept.proofs.PassageStatements as said
use Rattle.gaz_kept.proofs.Reached.{reached_room}
use Rattle.gaz_kept.proofs.RowsRead.{read_from, read_in, some_same, tells_of}
use Rattle.gaz_loaded.specs.Passing.{AreToldBehind, AreToldInTurn, ComesBehind, IsNext, passage_of}
use Rattle.gaz_loaded.specs.declared.listed.Passage.{Passage}
use Rattle.gaz_answers.specs.Passages.{IsStartOf, SayPassages, SaysPassage}
use Rattle.gaz_calls.specs.Passing.{is_any, passages_of}
use Rattle.gaz_answers.proofs.Fits.{pos_same}
use Rattle.gaz_answers.proofs.Holding.{by_ids, like_kinds}
use Rattle.gaz_answers.proofs.Taken.{empty_is}
use Rattle.gaz_answers.proofs.PageRows.{all_behind}
use Rattle.gaz_answers.proofs.Taken.{none_taken}

-- it comes behind what was told, or is that
abbrev IsFrom : Option Passage → PassageRow → Type 0
IsFrom None p = ⊤
IsFrom (Some x) p = (x.uprn < p.uprn) ⊎ ((x.uprn ≡ p.uprn) × (x.born ≤ p.born))

-- what comes behind a row from there on comes behind it too
behind_from : (after : Option Passage) (p q : PassageRow) → IsFrom after p → ComesBehind (Some (passage_of p)) q → ComesBehind after q
behind_from None p q from behind = tt
behind_from (Some x) p q (inl less) (inl more) = inl (omega (arith, less, more))
behind_from (Some x) p q (inl less) (inr same) = let e = same.0 in inl (omega (arith, less, e))
behind_from (Some x) p q (inr same) (inl more) = let e = same.0 in inl (omega (arith, e, more))
behind_from (Some x) p q (inr same) (inr more) =
    let b = same.1 in
    let d = more.1 in
    inr (same.0 ∙ more.0, omega (arith, b, d))

-- ---- ids and volumes in their order

-- numbers that rise have ids that rise
ids_less : (m n : ℕ) → is_key (key.Blpu m) ≡ true → is_key (key.Blpu n) ≡ true → m < n → slice_cmp nat_cmp (id_of (key.Blpu m)) (id_of (key.Blpu n)) ≡ Less
ids_less m n km kn less =
    sym (by_ids (key.Blpu m) (key.Blpu n) km kn refl)
    ∙ like_kinds (kind_number (key.Blpu m)) (ordering_then (nat_cmp m n) (label_cmp (text_of (key.Blpu m)) (text_of (key.Blpu n))))
    ∙ ap (λ o. ordering_then o (label_cmp (text_of (key.Blpu m)) (text_of (key.Blpu n)))) (sym (nat_cmp_is m n Less less))

ids_tied : (m : ℕ) → slice_cmp nat_cmp (id_of (key.Blpu m)) (id_of (key.Blpu m)) ≡ Equal
ids_tied m = self_turned (slice_cmp nat_cmp (id_of (key.Blpu m)) (id_of (key.Blpu m))) (nat_list_cmp_total.antisymm (id_of (key.Blpu m)) (id_of (key.Blpu m)))
  where
    self_turned : (o : Ordering) → o ≡ ordering_reverse o → o ≡ Equal
    self_turned Less e = cc
    self_turned Equal e = refl
    self_turned Greater e = cc

texts_same : (a b : List ℕ) → Text a ≡ Text b → a ≡ b
texts_same a b e = cc

numbers_same : (m n : ℕ) → key.Blpu m ≡ key.Blpu n → m ≡ n
numbers_same m n e = cc

int_less : (a b : ℕ) → a < b → value_cmp (Int (pos a)) (Int (pos b)) ≡ Less
int_less a b less = by_order (value_cmp (Int (pos a)) (Int (pos b))) (subst (λ o. MatchOrdering o (pos a <ℤ pos b) (pos a ≡ pos b) (pos b <ℤ pos a)) (sym (value_cmp-Int (pos a) (pos b))) (int_ranks (pos a) (pos b)))
  where
    by_order : (o : Ordering) → MatchOrdering o (pos a <ℤ pos b) (pos a ≡ pos b) (pos b <ℤ pos a) → o ≡ Less
    by_order Less h = refl
    by_order Equal h = let same : a ≡ b = cc in absurd (omega arith)
    by_order Greater h = absurd (omega (arith, ints, h, less))

-- ---- rows and what they say of a custodian's numbers

-- what cells of what became of a number tell
ranks : IsStrictWeakOrder (λ (a b : Row). is_lt (by_id_and_birth a b))
ranks = ranks_by (then_total (on_total (λ (r : Row). table.id_of r) value_cmp_total) (on_total (λ (r : Row). table.born_of r) value_cmp_total)) (λ (r : Row). r)

tail_sorted : (x : Row) (xs : List Row) → IsSorted by_id_and_birth (x ∷ xs) → IsSorted by_id_and_birth xs
tail_sorted x xs h k d low high = let e : suc k + 1 ≡ suc (k + 1) = omega arith in rw e at (h (suc k) d (omega arith) (omega (arith, high)))

module _ (db : Database) (kept : IsKept db) (c : ℕ) where
  abbrev rows : List Row
  rows = rows_of db version2

  abbrev all : List PassageRow
  all = passages_of db c

  record IsOf (r : Row) (p : PassageRow) : Type 0 where
    there : Has rows r
    said : passage_in c r ≡ Some p

  known : (r : Row) (p : PassageRow) → IsOf r p → Known c r p
  known r p o = known_of c r (kept.rows r o.there) p o.said

  ids_are : (r s : Row) (p q : PassageRow) → IsOf r p → IsOf s q → value_cmp (table.id_of r) (table.id_of s) ≡ slice_cmp nat_cmp (id_of (key.Blpu p.uprn)) (id_of (key.Blpu q.uprn))
  ids_are r s p q op oq =
      (λ i. value_cmp ((known r p op).birth.of_key.of_id i) ((known s q oq).birth.of_key.of_id i))
      ∙ value_cmp-Text (id_of (key.Blpu p.uprn)) (id_of (key.Blpu q.uprn))

  births_are : (r s : Row) (p q : PassageRow) → IsOf r p → IsOf s q → value_cmp (table.born_of r) (table.born_of s) ≡ value_cmp (Int (pos p.born)) (Int (pos q.born))
  births_are r s p q op oq = λ i. value_cmp ((known r p op).birth.of_born i) ((known s q oq).birth.of_born i)

  -- of two rows in order, what they say is in order
  in_order : (r s : Row) (p q : PassageRow) → IsOf r p → IsOf s q → is_lt (by_id_and_birth s r) ≡ false → IsFrom (Some (passage_of p)) q
  in_order r s p q op oq late = by_numbers (cases_lt p.uprn q.uprn) (cases_lt q.uprn p.uprn)
    where
      earlier : by_id_and_birth s r ≡ Less → ⊥
      earlier less = true≢false (sym (ap is_lt less) ∙ late)

      by_births : p.uprn ≡ q.uprn → (q.born < p.born) ⊎ (p.born ≤ q.born) → IsFrom (Some (passage_of p)) q
      by_births same (inr le) = inr (same, le)
      by_births same (inl early) =
          let tie : value_cmp (table.id_of s) (table.id_of r) ≡ Equal = ids_are s r q p oq op ∙ ap (λ (n : ℕ). slice_cmp nat_cmp (id_of (key.Blpu q.uprn)) (id_of (key.Blpu n))) same ∙ ids_tied q.uprn in
          absurd (earlier (ap (λ o. ordering_then o (value_cmp (table.born_of s) (table.born_of r))) tie ∙ births_are s r q p oq op ∙ int_less q.born p.born early))

      by_numbers : (p.uprn < q.uprn) ⊎ (q.uprn ≤ p.uprn) → (q.uprn < p.uprn) ⊎ (p.uprn ≤ q.uprn) → IsFrom (Some (passage_of p)) q
      by_numbers (inl less) other = inl less
      by_numbers (inr ge) (inl more) =
          absurd (earlier (ap (λ o. ordering_then o (value_cmp (table.born_of s) (table.born_of r))) (ids_are s r q p oq op ∙ ids_less q.uprn p.uprn (known s q oq).number (known r p op).number more)))
      by_numbers (inr ge) (inr le) = by_births (omega arith) (cases_lt q.born p.born)

  -- what is told of a row is told of what it says
  told_is : (r : Row) (p : PassageRow) (x : Passage) → IsOf r p → SaysPassage (listed_shown r) x → x ≡ passage_of p
  told_is r p x o says =
      let k = known r p o in
      let v = passage_row c r (kept.rows r o.there) p o.said in
      let s = tells_of r v in
      let whole = some_same (passing (number_in (table.born_of r)) (number_in (table.gone_of r)) (s.number, s.custody)) p (said.passage_of c r s (its_owner c r p o.said)) o.said in
      let named : key_named kind.Blpu (text_in (table.id_of r)) ≡ Some (key.Blpu p.uprn) = ap (λ (v : Value). key_named kind.Blpu (text_in v)) k.birth.of_key.of_id ∙ ids_back (key.Blpu p.uprn) k.number in
      let number = numbers_same x.uprn p.uprn (some_same (key.Blpu x.uprn) (key.Blpu p.uprn) says.number named) in
      let values : Int (pos x.born) ≡ Int (pos p.born) = sym says.passed.born ∙ k.birth.of_born in
      let born : x.born ≡ p.born = cc in
      let told : told_in (custody_cells_in r) ≡ Some s.custody = ap told_in (sym s.follows.cells) ∙ told_back s.number s.custody s.follows.such in
      let custody : x.custody ≡ p.custody = some_same x.custody s.custody says.passed.custody told ∙ ap (λ (h : PassageRow). h.custody) whole in
      λ i. record { uprn = number i; born = born i; custody = custody i }

  abbrev AreFrom : Option Passage → List Row → Type 0
  AreFrom place l = (r : Row) → Has l r → (p : PassageRow) × IsOf r p × IsFrom place p

  abbrev Cover : Option Passage → List Row → Type 0
  Cover place l = (p : PassageRow) → Has all p → ComesBehind place p → (r : Row) × Has l r × IsOf r p

  in_turn : (place : Option Passage) (l : List Row) (k : ℕ) (xs : List Passage) → AreFrom place l → Cover place l → IsSorted by_id_and_birth l → SayPassages (map listed_shown (take k l)) xs → AreToldInTurn place all xs
  in_turn place l k [] from cover up say = tt
  in_turn place [] zero (x ∷ xs) from cover up say = absurd say
  in_turn place [] (suc k) (x ∷ xs) from cover up say = absurd say
  in_turn place (r ∷ more) zero (x ∷ xs) from cover up say = absurd say
  in_turn place (r ∷ more) (suc k) (x ∷ xs) from cover up say = (next, in_turn (Some x) more k xs later covers (tail_sorted r more up) say.1)
    where
      p : PassageRow
      p = (from r (inl refl)).0

      its : IsOf r p
      its = (from r (inl refl)).1

      is : x ≡ passage_of p
      is = told_is r p x its say.0

      behind_it : (s : Row) (q : PassageRow) → Has more s → IsOf s q → IsFrom (Some x) q
      behind_it s q there o = subst (λ y. IsFrom (Some y) q) (sym is) (in_order r s p q its o (first_least (λ a b. is_lt (by_id_and_birth a b)) ranks r more up s (inr there)))

      later : AreFrom (Some x) more
      later s there = let o = from s (inr there) in (o.0, o.1, behind_it s o.0 there o.1)

      after_all : (q : PassageRow) → ComesBehind (Some x) q → ComesBehind place q
      after_all q behind = behind_from place p q (from r (inl refl)).2 (subst (λ y. ComesBehind (Some y) q) is behind)

      -- what comes behind it isn't the row's own
      covers : Cover (Some x) more
      covers q there behind = by_place (cover q there (after_all q behind))
        where
          not_itself : (q : PassageRow) → q ≡ p → ComesBehind (Some (passage_of p)) q → ⊥
          not_itself q same (inl less) = let e = ap (λ (h : PassageRow). h.uprn) same in omega (arith, e, less)
          not_itself q same (inr later) = let e = ap (λ (h : PassageRow). h.born) same in let d = later.1 in omega (arith, e, d)

          by_place : (s : Row) × Has (r ∷ more) s × IsOf s q → (s : Row) × Has more s × IsOf s q
          by_place (s, inr there, o) = (s, there, o)
          by_place (s, inl same, o) = absurd (not_itself q (some_same q p (ap (passage_in c) (sym same) ∙ o.said) its.said) (subst (λ y. ComesBehind (Some y) q) is behind))

      next : IsNext place all x
      next = record {
        row = p;
        there = read_in (passage_in c) rows r p its.there its.said;
        is = is;
        first = λ q there behind. by_row q (cover q there behind);
      }
        where
          by_from : (q : PassageRow) → IsOf r p → IsFrom (Some x) q → Has all q → (q ≡ p) ⊎ ComesBehind (Some x) q
          by_from q o (inl less) there = inr (inl less)
          by_from q o (inr same) there = by_birth (cases_lt x.born q.born)
            where
              by_birth : (x.born < q.born) ⊎ (q.born ≤ x.born) → (q ≡ p) ⊎ ComesBehind (Some x) q
              by_birth (inl less) = inr (inr (same.0, less))
              by_birth (inr ge) =
                  let number : q.uprn ≡ p.uprn = sym same.0 ∙ ap (λ (y : Passage). y.uprn) is in
                  let le = same.1 in
                  let own = ap (λ (y : Passage). y.born) is in
                  let births : q.born ≡ p.born = omega (arith, le, ge, own) in
                  inl ((kept.passages c).once q p there (read_in (passage_in c) rows r p its.there its.said) number births)

          by_row : (q : PassageRow) → (s : Row) × Has (r ∷ more) s × IsOf s q → (q ≡ p) ⊎ ComesBehind (Some x) q
          by_row q (s, inl same, o) = inl (some_same q p (ap (passage_in c) (sym same) ∙ o.said) its.said)
          by_row q (s, inr there, o) = by_from q its (behind_it s q there o) (read_in (passage_in c) rows s q o.there o.said)

  -- ---- from where on

  not_greater : (m n : ℕ) → is_key (key.Blpu m) ≡ true → is_key (key.Blpu n) ≡ true → m ≤ n → slice_cmp nat_cmp (id_of (key.Blpu m)) (id_of (key.Blpu n)) ≡ Greater → ⊥
  not_greater m n km kn le more = by_numbers (cases_lt m n)
    where
      by_numbers : (m < n) ⊎ (n ≤ m) → ⊥
      by_numbers (inl less) = let wrong : Less ≡ Greater = sym (ids_less m n km kn less) ∙ more in cc
      by_numbers (inr ge) =
          let same : m ≡ n = omega (arith, le, ge) in
          let wrong : Equal ≡ Greater = sym (ids_tied m) ∙ ap (λ (k : ℕ). slice_cmp nat_cmp (id_of (key.Blpu m)) (id_of (key.Blpu k))) same ∙ more in
          cc

  born_until : (p : PassageRow) → Has all p → p.born ≤ 999_999
  born_until p there =
      let until = ((kept.passages c).until p there).born in
      let room = reached_room db c kept in
      omega (arith, until, room)

  -- what comes behind an id and a volume comes behind what was told, or is that
  from_start : (after : Option Passage) (id : List ℕ) (born : ℕ) → IsStartOf after (id, born) → (r : Row) (p : PassageRow) → IsOf r p → Comes id born r → IsFrom after p
  from_start None id born start r p o behind = tt
  from_start (Some x) id born start r p o (inl behind) = by_numbers (cases_lt x.uprn p.uprn)
    where
      named : behind.0 ≡ id_of (key.Blpu p.uprn)
      named = texts_same behind.0 (id_of (key.Blpu p.uprn)) (sym behind.1 ∙ (known r p o).birth.of_key.of_id)

      more : slice_cmp nat_cmp (id_of (key.Blpu p.uprn)) (id_of (key.Blpu x.uprn)) ≡ Greater
      more = (λ i. slice_cmp nat_cmp (sym named i) (sym start.named i)) ∙ behind.2

      by_numbers : (x.uprn < p.uprn) ⊎ (p.uprn ≤ x.uprn) → IsFrom (Some x) p
      by_numbers (inl less) = inl less
      by_numbers (inr le) = absurd (not_greater p.uprn x.uprn (known r p o).number start.known le more)
  from_start (Some x) id born start r p o (inr its) =
      let k = known r p o in
      let ids = texts_same (id_of (key.Blpu x.uprn)) (id_of (key.Blpu p.uprn)) (ap Text (sym start.named) ∙ sym its.0 ∙ k.birth.of_key.of_id) in
      let number = numbers_same x.uprn p.uprn (ids_apart (key.Blpu x.uprn) (key.Blpu p.uprn) start.known k.number refl ids) in
      let birth = pos_same its.1.0 (pos p.born) (sym its.1.1 ∙ k.birth.of_born) in
      let less : pos born <ℤ pos p.born = subst (λ n. pos born <ℤ n) birth its.1.2 in
      let capped = start.capped in
      let most = born_until p (read_in (passage_in c) rows r p o.there o.said) in
      inr (number, omega (arith, ints, less, capped, most))

  -- and what comes behind what was told comes behind the id and the volume
  to_start : (after : Option Passage) (id : List ℕ) (born : ℕ) → IsStartOf after (id, born) → (r : Row) (p : PassageRow) → IsOf r p → ComesBehind after p → Comes id born r
  to_start None id born start r p o behind =
      inl (id_of (key.Blpu p.uprn), (known r p o).birth.of_key.of_id, greater (slice_cmp nat_cmp (id_of (key.Blpu p.uprn)) id) (ap (λ l. is_gt (slice_cmp nat_cmp (id_of (key.Blpu p.uprn)) l)) start.0 ∙ all_behind (key.Blpu p.uprn) (known r p o).number))
    where
      greater : (o : Ordering) → is_gt o ≡ true → o ≡ Greater
      greater Less is = cc
      greater Equal is = cc
      greater Greater is = refl
  to_start (Some x) id born start r p o (inl less) = inl (
    id_of (key.Blpu p.uprn),
    (known r p o).birth.of_key.of_id,
    ap (slice_cmp nat_cmp (id_of (key.Blpu p.uprn))) start.named
        ∙ nat_list_cmp_total.antisymm (id_of (key.Blpu p.uprn)) (id_of (key.Blpu x.uprn))
        ∙ ap ordering_reverse (ids_less x.uprn p.uprn start.known (known r p o).number less),
  )
  to_start (Some x) id born start r p o (inr same) =
      let k = known r p o in
      let capped = start.capped in
      let less = same.1 in
      inr (
        k.birth.of_key.of_id ∙ ap (λ (n : ℕ). Text (id_of (key.Blpu n))) (sym same.0) ∙ ap Text (sym start.named),
        (pos p.born, k.birth.of_born, omega (arith, ints, capped, less)),
      )

  -- ---- what is found behind there

  no_rows : (l : List Row) → SayPassages l [] → (r : Row) → ¬ Has l r
  no_rows [] say r here = here
  no_rows (s ∷ l) say r here = absurd say

  module _ (after : Option Passage) (id : List ℕ) (born : ℕ) (start : IsStartOf after (id, born)) (most : ℕ) (answer : List Row) (found : FindsCustodyBehind c id born most rows answer) where
    are_from : AreFrom after found.chosen
    are_from r here =
        let chosen = has_filtered found.picks.test rows r (has_permuted _ found.chosen r found.picks.same here) in
        let fits = found.picks.sound r chosen.0 chosen.1 in
        let s = tells_of r (kind_passage r (kept.rows r chosen.0) (ap number_in fits.of_kind)) in
        let p = passing (number_in (table.born_of r)) (number_in (table.gone_of r)) (s.number, s.custody) in
        let o : IsOf r p = record { there = chosen.0; said = said.passage_of c r s (ap number_in fits.of_cust) } in
        (p, o, from_start after id born start r p o fits.behind)

    cover : Cover after found.chosen
    cover p there behind =
        let r = read_from (passage_in c) rows p there in
        let o : IsOf r.0 p = record { there = r.1; said = r.2 } in
        let of_key = (known r.0 p o).birth.of_key in
        let fits : IsCustodyBehind c id born r.0 = record { of_cust = of_key.of_cust; of_kind = of_key.of_kind; behind = to_start after id born start r.0 p o behind } in
        (r.0, permuted_has _ found.chosen r.0 found.picks.same (has_kept found.picks.test rows r.0 r.1 (found.picks.complete r.0 r.1 fits)), o)

  module _ (after : Option Passage) (id : List ℕ) (born : ℕ) (start : IsStartOf after (id, born)) (answer : List Row) (found : FindsCustodyBehind c id born 512 rows answer) where
    pub passages_told : (xs : List Passage) → SayPassages answer xs → AreToldBehind after all xs
    passages_told xs say = record {
      in_turn = in_turn after found.chosen 512 xs (are_from after id born start 512 answer found) (cover after id born start 512 answer found) found.rising shown;
      none = λ is p there behind.
          let r = cover after id born start 512 answer found p there behind in
          none_taken 511 found.chosen (λ q here. no_rows (map listed_shown (take 512 found.chosen)) (subst (SayPassages (map listed_shown (take 512 found.chosen))) (empty_is xs is) shown) (listed_shown q) (mapped_has listed_shown (take 512 found.chosen) q here)) r.0 r.1;
    }
      where
        shown : SayPassages (map listed_shown (take 512 found.chosen)) xs
        shown = subst (λ l. SayPassages l xs) found.shown say

  -- a number was passed on just where one row is found from the first
  pub any_there : (answer : List Row) → FindsCustodyBehind c [] 0 1 rows answer → (is_empty : Bool) → is_empty ≡ (length answer == 0) → not is_empty ≡ is_any all
  any_there answer found is_empty is = ap not is ∙ by_answer answer found
    where
      some_there : (l : List PassageRow) (p : PassageRow) → Has l p → true ≡ is_any l
      some_there [] p here = absurd here
      some_there (q ∷ l) p here = refl

      none_there : (l : List PassageRow) → ((p : PassageRow) → ¬ Has l p) → false ≡ is_any l
      none_there [] none = refl
      none_there (q ∷ l) none = absurd (none q (inl refl))

      no_row : FindsCustodyBehind c [] 0 1 rows [] → (p : PassageRow) → ¬ Has all p
      no_row found p there =
          let r = cover None [] 0 (refl, refl) 1 [] found p there tt in
          none_taken 0 found.chosen (λ q here. subst (λ l. Has l (listed_shown q)) (sym found.shown) (mapped_has listed_shown (take 1 found.chosen) q here)) r.0 r.1

      one_row : (r : Row) (rest : List Row) → FindsCustodyBehind c [] 0 1 rows (r ∷ rest) → true ≡ is_any all
      one_row r rest found = by_chosen found.chosen (sym found.shown) (are_from None [] 0 (refl, refl) 1 (r ∷ rest) found)
        where
          by_chosen : (chosen : List Row) → map listed_shown (take 1 chosen) ≡ r ∷ rest → AreFrom None chosen → true ≡ is_any all
          by_chosen [] shown from = let clash : [] ≡ r ∷ rest = shown in cc
          by_chosen (q ∷ chosen) shown from =
              let f = from q (inl refl) in
              some_there all f.0 (read_in (passage_in c) rows q f.0 f.1.there f.1.said)

      by_answer : (answer : List Row) → FindsCustodyBehind c [] 0 1 rows answer → not (length answer == 0) ≡ is_any all
      by_answer [] found = none_there all (no_row found)
      by_answer (r ∷ rest) found = ap not (ne_eqb (suc (length rest)) 0 (λ e. omega (arith, e))) ∙ one_row r rest found
