-- What is told of a table's rows in turn, on worked examples.
use Rattle.std.proofs.Common.{◌≡◌, ◌∙◌, ◌<◌, ◌≤◌, ℕ, ℤ, pos, ◌<ℤ◌, ◌≤ℤ◌, true, List, [], ◌∷◌, map, inl, inr, Ok, refl, sym, ap, subst, arith}
use Rattle.std.specs.Prelude.{Option, Some, None, IsSome}
use Rattle.std.proofs.lemmas.Int.{ints}
use Rattle.std.specs.FinMap as finite
use Rattle.std.specs.FinMap.{find}
use Rattle.sqlite.specs.declared.types.Value.TheVariants.{Int}
use Rattle.sqlite.specs.Order.{Row}
use Rattle.sqlite_rules.specs.Lists.{Has}
use Rattle.gaz_records.proofs.ItemsBack.{text-back}
use Rattle.gaz_records.specs.Items.{is_entry, is_item}
use Rattle.gaz_records.specs.declared.item.Item.{Item}
use Rattle.gaz_views.specs.Examples.{street}
use Rattle.gaz_cells.proofs.CellsBack.{cells_back}
use Rattle.gaz_cells.specs.Columns.{cells_of}
use Rattle.gaz_cells.specs.Reading.{read_cells}
use Rattle.gaz_keeper.proofs.Pairs.{pairs_exact, pairs_total}
use Rattle.gaz_keeper.specs.Received.{pair_cmp}
use Rattle.gaz_overlay.specs.Rows.{HistoryRow}
use Rattle.gaz_tables.specs.Rowids.{IsPlacedBehind, rowid_of}
use Rattle.gaz_row_items.specs.Examples.{changed, changed_101, of_1002}
use Rattle.gaz_row_items.specs.Versions.{living}
use Rattle.gaz_row_items.proofs.Pairs as pairs
use Rattle.gaz_row_items.proofs.Said.{says}
use Rattle.gaz_kept.specs.Examples.{six_files}
use Rattle.gaz_kept.specs.Files.{file_in}
use Rattle.gaz_kept.proofs.RowsRead.{some_same}
use Rattle.gaz_loaded.specs.declared.listed.Life.{Life}
use Rattle.gaz_answers.specs.Lives.{IsRowUntil, SaysLife, TellsLives, is_items}
use Rattle.gaz_answers.specs.Volumes.{TellsVolumes, WasReceived}
use Rattle.gaz_answers.specs.WorkedLives.{WorkedTelling, current_life, ended_life, files, life_cut_off, two_rows}

-- ---- lives

reads : (x : Item) → is_item x ≡ true → is_entry x ≡ true → read_cells (cells_of x) ≡ Ok x
reads x is entry = cells_back x entry (text-back x is)

ended : SaysLife changed_101 ended_life
ended = record { place = refl; custodian = refl; history = says (Int (pos 2)) 1001 2 4 changed (reads changed refl refl) }

current : SaysLife of_1002 current_life
current = record { place = refl; custodian = refl; history = says (Int (pos 4)) 1002 1 1000000 (street 101) (reads (street 101) refl refl) }

cut_off : ¬ SaysLife of_1002 life_cut_off
cut_off it =
    let same = some_same (living 1 1000000 (street 101)) (living 1 5 (street 101)) current.history it.history in
    let gone : ◌≡◌ {A = ℕ} 1000000 5 = ap (λ (h : HistoryRow). h.gone) same in
    absurd (omega arith)

-- what holds of each of the two rows
of_two : (P : Row → Type 0) → P changed_101 → P of_1002 → (r : Row) → Has two_rows r → P r
of_two P a b r (inl is) = subst P (sym is) a
of_two P a b r (inr (inl is)) = subst P (sym is) b
of_two P a b r (inr (inr never)) = absurd never

int_same : (m n : ℤ) → Int m ≡ Int n → m ≡ n
int_same m n e = cc

-- a rowid that isn't above, or isn't below
not_behind : {A : Type 0} (m n : ℤ) (r : Row) → rowid_of r ≡ Int m → m ≤ℤ n → IsPlacedBehind n r → A
not_behind m n r is low f = let wrong : n <ℤ m = subst (λ i. n <ℤ i) (sym (int_same m f.0 (sym is ∙ f.1))) f.2 in absurd (omega (arith, ints, wrong, low))

not_until : {A : Type 0} (m n : ℤ) (r : Row) → rowid_of r ≡ Int m → n <ℤ m → IsRowUntil n r → A
not_until m n r is high f = let wrong : m ≤ℤ n = subst (λ i. i ≤ℤ n) (sym (int_same m f.0 (sym is ∙ f.1))) f.2 in absurd (omega (arith, ints, wrong, high))

both : TellsLives None (ended_life ∷ current_life ∷ []) two_rows
both = record { said = said; complete = complete; rising = ((omega arith, tt), (tt, tt)); ends = λ none r there item behind. cc; few = omega arith }
  where
    Told : Life → Type 0
    Told life = (r : Row) × Has two_rows r × Unit {0} × SaysLife r life

    said : (life : Life) → Has (ended_life ∷ current_life ∷ []) life → Told life
    said life (inl is) = subst Told (sym is) (changed_101, inl refl, tt, ended)
    said life (inr (inl is)) = subst Told (sym is) (of_1002, inr (inl refl), tt, current)
    said life (inr (inr never)) = absurd never

    Says : Row → Type 0
    Says r = (life : Life) × Has (ended_life ∷ current_life ∷ []) life × SaysLife r life

    complete : (r : Row) (last : Life) → Has two_rows r → is_items r ≡ true → Has (ended_life ∷ current_life ∷ []) last → Unit {0} → IsRowUntil last.place r → Says r
    complete r last there item here behind until = of_two Says (ended_life, inl refl, ended) (current_life, inr (inl refl), current) r there

only_first : TellsLives None (ended_life ∷ []) two_rows
only_first = record { said = said; complete = complete; rising = (tt, tt); ends = λ none r there item behind. cc; few = omega arith }
  where
    Told : Life → Type 0
    Told life = (r : Row) × Has two_rows r × Unit {0} × SaysLife r life

    said : (life : Life) → Has (ended_life ∷ []) life → Told life
    said life (inl is) = subst Told (sym is) (changed_101, inl refl, tt, ended)
    said life (inr never) = absurd never

    Says : Row → Type 0
    Says r = (life : Life) × Has (ended_life ∷ []) life × SaysLife r life

    complete : (r : Row) (last : Life) → Has two_rows r → is_items r ≡ true → Has (ended_life ∷ []) last → Unit {0} → IsRowUntil last.place r → Says r
    complete r last there item (inl is) behind until =
        of_two (λ s. IsRowUntil (pos 2) s → Says s) (λ u. (ended_life, inl refl, ended)) (λ u. not_until (pos 4) (pos 2) of_1002 refl (omega arith) u) r there
        (subst (λ (l : Life). IsRowUntil l.place r) is until)
    complete r last there item (inr never) behind until = absurd never

behind_2 : TellsLives (Some (pos 2)) (current_life ∷ []) two_rows
behind_2 = record { said = said; complete = complete; rising = (tt, tt); ends = λ none r there item behind. cc; few = omega arith }
  where
    Told : Life → Type 0
    Told life = (r : Row) × Has two_rows r × IsPlacedBehind (pos 2) r × SaysLife r life

    said : (life : Life) → Has (current_life ∷ []) life → Told life
    said life (inl is) = subst Told (sym is) (of_1002, inr (inl refl), (pos 4, refl, omega arith), current)
    said life (inr never) = absurd never

    Says : Row → Type 0
    Says r = (life : Life) × Has (current_life ∷ []) life × SaysLife r life

    complete : (r : Row) (last : Life) → Has two_rows r → is_items r ≡ true → Has (current_life ∷ []) last → IsPlacedBehind (pos 2) r → IsRowUntil last.place r → Says r
    complete r last there item here behind until =
        of_two (λ s. IsPlacedBehind (pos 2) s → Says s) (λ b. not_behind (pos 2) (pos 2) changed_101 refl (omega arith) b) (λ b. (current_life, inl refl, current)) r there behind

at_the_end : TellsLives (Some (pos 4)) [] two_rows
at_the_end = record {
  said = λ life there. absurd there;
  complete = λ r last there item here behind until. absurd here;
  rising = tt;
  ends = λ none r there item. of_two (λ r. ¬ IsPlacedBehind (pos 4) r) (λ b. not_behind (pos 2) (pos 4) changed_101 refl (omega arith) b) (λ b. not_behind (pos 4) (pos 4) of_1002 refl (omega arith) b) r there;
  few = omega arith;
}

ends_too_early : ¬ TellsLives (Some (pos 2)) [] two_rows
ends_too_early it = it.ends refl of_1002 (inr (inl refl)) refl (pos 4, refl, omega arith)

ended_left_out : ¬ TellsLives None (current_life ∷ []) two_rows
ended_left_out it = let told = it.complete changed_101 current_life (inl refl) refl (inl refl) tt (pos 2, refl, omega arith) in not_said told.0 told.1 told.2
  where
    not_said : (life : Life) → Has (current_life ∷ []) life → SaysLife changed_101 life → ⊥
    not_said life (inl is) says_it =
        let place : pos 2 ≡ pos 4 = int_same (pos 2) (pos 4) (says_it.place ∙ ap (λ (l : Life). Int l.place) is) in
        let wrong : pos 4 ≤ℤ pos 2 = subst (λ i. i ≤ℤ pos 2) place (omega arith) in
        omega (arith, wrong)
    not_said life (inr never) says_it = never

-- ---- volumes

file_at : (p : ℕ × ℕ) → finite.get files p ≡ find pair_cmp p (map file_in six_files)
file_at p = finite.get-from_entries pairs_total (map file_in six_files) p

there : (c v : ℕ) → IsSome (find pair_cmp (c, v) (map file_in six_files)) → WasReceived files c v
there c v some = subst IsSome (sym (file_at (c, v))) some

-- what holds of each file
of_six : (P : ℕ → ℕ → Type 0) → P 1001 2 → P 1001 6 → P 1002 1 → P 1001 1 → P 1001 4 → P 1001 3 → (c v : ℕ) → WasReceived files c v → P c v
of_six P a b d e f g c v some = by_bytes (finite.get files (c, v)) refl some
  where
    at : (k : ℕ × ℕ) (bytes : List ℕ) (p : (ℕ × ℕ) × List ℕ) → (k, bytes) ≡ p → P p.0.0 p.0.1 → P k.0 k.1
    at k bytes p is holds = subst (λ (q : (ℕ × ℕ) × List ℕ). P q.0.0 q.0.1) (sym is) holds

    by_place : (bytes : List ℕ) → Has (map file_in six_files) ((c, v), bytes) → P c v
    by_place bytes (inl is) = at (c, v) bytes _ is a
    by_place bytes (inr (inl is)) = at (c, v) bytes _ is b
    by_place bytes (inr (inr (inl is))) = at (c, v) bytes _ is d
    by_place bytes (inr (inr (inr (inl is)))) = at (c, v) bytes _ is e
    by_place bytes (inr (inr (inr (inr (inl is))))) = at (c, v) bytes _ is f
    by_place bytes (inr (inr (inr (inr (inr (inl is)))))) = at (c, v) bytes _ is g
    by_place bytes (inr (inr (inr (inr (inr (inr never)))))) = absurd never

    by_bytes : (o : Option (List ℕ)) → finite.get files (c, v) ≡ o → IsSome o → P c v
    by_bytes None is none = absurd (cc)
    by_bytes (Some bytes) is one = by_place bytes (pairs.found pairs_total pairs_exact (c, v) (map file_in six_files) bytes (sym (file_at (c, v)) ∙ is))

above_3 : TellsVolumes files 1001 3 (4 ∷ 6 ∷ [])
above_3 = record { received = received; higher = higher; complete = complete; rising = ((omega arith, tt), (tt, tt)); ends = λ none v above some. cc; few = omega arith }
  where
    received : (v : ℕ) → Has (4 ∷ 6 ∷ []) v → WasReceived files 1001 v
    received v (inl is) = subst (WasReceived files 1001) (sym is) (there 1001 4 refl)
    received v (inr (inl is)) = subst (WasReceived files 1001) (sym is) (there 1001 6 refl)
    received v (inr (inr never)) = absurd never

    higher : (v : ℕ) → Has (4 ∷ 6 ∷ []) v → 3 < v
    higher v (inl is) = omega (arith, is)
    higher v (inr (inl is)) = omega (arith, is)
    higher v (inr (inr never)) = absurd never

    complete : (v last : ℕ) → WasReceived files 1001 v → 3 < v → Has (4 ∷ 6 ∷ []) last → v ≤ last → Has (4 ∷ 6 ∷ []) v
    complete v last some above here le =
        of_six (λ c v. c ≡ 1001 → 3 < v → Has (4 ∷ 6 ∷ []) v) (λ c a. absurd (omega arith)) (λ c a. inr (inl refl)) (λ c a. absurd (omega arith)) (λ c a. absurd (omega arith)) (λ c a. inl refl) (λ c a. absurd (omega arith))
        1001 v some refl above

above_6 : TellsVolumes files 1001 6 []
above_6 = record {
  received = λ v here. absurd here;
  higher = λ v here. absurd here;
  complete = λ v last some above here le. absurd here;
  rising = tt;
  ends = λ none v above some. of_six (λ c v. ¬ (6 < v)) (λ a. omega arith) (λ a. omega arith) (λ a. omega arith) (λ a. omega arith) (λ a. omega arith) (λ a. omega arith) 1001 v some above;
  few = omega arith;
}

one_left_out : ¬ TellsVolumes files 1001 3 (6 ∷ [])
one_left_out it = wrong (it.complete 4 6 (there 1001 4 refl) (omega arith) (inl refl) (omega arith))
  where
    wrong : Has {X = ℕ} (6 ∷ []) 4 → ⊥
    wrong (inl is) = omega (arith, is)
    wrong (inr never) = never

of_another : ¬ TellsVolumes files 1002 3 (4 ∷ 6 ∷ [])
of_another it =
    of_six (λ c v. c ≡ 1002 → v ≡ 4 → ⊥) (λ c v. omega arith) (λ c v. omega arith) (λ c v. omega arith) (λ c v. omega arith) (λ c v. omega arith) (λ c v. omega arith)
    1002 4 (it.received 4 (inl refl)) refl refl

pub worked_telling : WorkedTelling
worked_telling = record {
  on_lives = record {
    ended = ended;
    current = current;
    cut_off = cut_off;
    both = both;
    only_first = only_first;
    behind_2 = behind_2;
    at_the_end = at_the_end;
    ends_too_early = ends_too_early;
    ended_left_out = ended_left_out;
  };
  on_volumes = record {
    above_3 = above_3;
    above_6 = above_6;
    ends_too_early = λ it. it.ends refl 4 (omega arith) (there 1001 4 refl);
    one_left_out = one_left_out;
    of_another = of_another;
  };
}
