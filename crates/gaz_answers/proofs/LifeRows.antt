-- What the cells of a whole row say, and rows in turn.
use Rattle.std.proofs.Common.{◌≡◌, ◌∙◌, ◌<◌, ◌+◌, ◌++◌, ℕ, Bool, List, [], ◌∷◌, Some, inl, inr, true, false, cond, filter, refl, Ok, ap, arith, length, map, slice_index_or, suc, sym, take, zero}
use Rattle.std.proofs.lemmas.List.{map_push, take_more}
use Rattle.std.proofs.lemmas.List.Elements.{All-append}
use Rattle.std.specs.Prelude.{All}
use Rattle.sqlite.specs.Order.{Row}
use Rattle.gaz_records.specs.Items.{is_entry}
use Rattle.gaz_records.specs.declared.item.Item.{Item}
use Rattle.gaz_cells.proofs.CellsBack.{cells_say_entries}
use Rattle.gaz_cells.specs.Columns.{CellsValue}
use Rattle.gaz_cells.specs.Reading.{OrMemory, read_cells}
use Rattle.gaz_loaded.specs.declared.listed.Life.{Life}
use Rattle.gaz_answers.specs.Lives.{SayLives, is_items, life_in}

-- it stands in views
pub entry_told : (cells : CellsValue) (x : Item) → OrMemory (Ok x) (read_cells cells) → is_entry x ≡ true
entry_told cells x (inl is) = cells_say_entries cells x (sym is)
entry_told cells x (inr other) = absurd (cc)

pub taken_next : (rows : List Row) (i : ℕ) (row : Row) → i < length rows → row ≡ slice_index_or rows i row → take (i + 1) rows ≡ take i rows ++ row ∷ []
taken_next rows i row inside is = take_more rows i row inside ∙ ap (λ r. take i rows ++ r ∷ []) (sym is)

filter_push : (rows : List Row) (row : Row) → filter is_items (rows ++ row ∷ []) ≡ filter is_items rows ++ cond (is_items row) (row ∷ []) []
filter_push [] row = refl
filter_push (r ∷ rows) row = by_test (filter_push rows row) (is_items r)
  where
    by_test : filter is_items (rows ++ row ∷ []) ≡ filter is_items rows ++ cond (is_items row) (row ∷ []) [] → (b : Bool)
        → cond b (r ∷ filter is_items (rows ++ row ∷ [])) (filter is_items (rows ++ row ∷ [])) ≡ cond b (r ∷ filter is_items rows) (filter is_items rows) ++ cond (is_items row) (row ∷ []) []
    by_test next true = ap (λ l. r ∷ l) next
    by_test next false = next

append_nothing : (rows : List Row) → rows ++ [] ≡ rows
append_nothing [] = refl
append_nothing (r ∷ rows) = ap (λ l. r ∷ l) (append_nothing rows)

-- the next row's life comes behind those of the rows before
pub said_next : (rows : List Row) (i : ℕ) (row : Row) (life : Life) (lives : List Life) → i < length rows → row ≡ slice_index_or rows i row → is_items row ≡ true → life_in row ≡ Some life → SayLives (take i rows) lives
    → SayLives (take (i + 1) rows) (lives ++ life ∷ [])
said_next rows i row life lives inside is item says so =
    ap (map life_in) (ap (filter is_items) (taken_next rows i row inside is) ∙ filter_push (take i rows) row ∙ ap (λ b. filter is_items (take i rows) ++ cond b (row ∷ []) []) item)
    ∙ map_push life_in (filter is_items (take i rows)) row ∙ ap (λ l. l ++ life_in row ∷ []) so ∙ ap (λ o. map Some lives ++ o ∷ []) says ∙ sym (map_push Some lives life)

-- and one that is of no item is passed over
pub passed_next : (rows : List Row) (i : ℕ) (row : Row) (lives : List Life) → i < length rows → row ≡ slice_index_or rows i row → is_items row ≡ false → SayLives (take i rows) lives → SayLives (take (i + 1) rows) lives
passed_next rows i row lives inside is other so =
    ap (map life_in) (ap (filter is_items) (taken_next rows i row inside is) ∙ filter_push (take i rows) row ∙ ap (λ b. filter is_items (take i rows) ++ cond b (row ∷ []) []) other ∙ append_nothing (filter is_items (take i rows)))
    ∙ so

pub none_left : {X : Type 0} (xs : List X) → length xs ≡ 0 → xs ≡ []
none_left [] none = refl
none_left (x ∷ xs) none = absurd (omega (arith, none))

only_one : {X : Type 0} (P : X → Type 0) (x : X) → P x → All P (x ∷ [])
only_one P x h zero d inside = h
only_one P x h (suc k) d inside = absurd (omega (arith, inside))

-- and what holds of each of those and of it holds of all
pub all_next : {X : Type 0} (P : X → Type 0) (xs : List X) (x : X) → All P xs → P x → All P (xs ++ x ∷ [])
all_next P xs x so h = All-append P xs (x ∷ []) so (only_one P x h)
