-- What a store tells when it lists what it keeps.
use Rattle.std.proofs.Common.{◌≡◌, ◌∙◌, ◌-◌, ◌⊎◌, ◌<ℤ◌, ◌≤ℤ◌, ℕ, ℤ, List, [], ◌∷◌, length, slice_get, zero, suc, inl, inr, refl, sym, ap, subst, arith, ◌==◌, Bool, true, false, not, eqb-true}
use Rattle.std.specs.Prelude.{Option, Some, None, Result, option_map}
use Rattle.std.proofs.lemmas.Int.{ints}
use Rattle.std.specs.List.{filter_map}
use Rattle.sqlite.specs.declared.types.Value.TheVariants.{Int}
use Rattle.sqlite.specs.Edit.{id_in}
use Rattle.sqlite.specs.Effect.{Database}
use Rattle.sqlite.specs.Order.{Row}
use Rattle.sqlite_rules.specs.Lists.{Has}
use Rattle.sqlite_rules.proofs.ListLemmas.{all_has}
use Rattle.sqlite_trees.specs.Tree.{IsAscending}
use Rattle.sqlite_trees.specs.declared.store.Store.{Ghosts}
use Rattle.gaz_keeper.specs.Received.{Received}
use Rattle.gaz_keeper.specs.declared.fault.ShelfFault.{ShelfFault}
use Rattle.gaz_overlay.specs.Passages.{PassageRow}
use Rattle.gaz_tables.proofs.RowidMeanings.{rowid_is}
use Rattle.gaz_tables.specs.Rowids.{rowid_of}
use Rattle.gaz_tables.specs.Schema.{version2}
use Rattle.gaz_tables.specs.Versions.{kind_of}
use Rattle.gaz_tables.specs.Tables.{rows_of}
use Rattle.gaz_row_items.specs.Versions.{number_in, passages_in}
use Rattle.gaz_row_items.proofs.CustodyFollows.{no_item}
use Rattle.gaz_kept.specs.Kept.{IsItemRow, IsKept, IsVersion}
use Rattle.gaz_kept.proofs.RowsRead.{history_of, item_of, item_row, not_none, passage_kind, read_from, read_in, some_same}
use Rattle.gaz_loaded.proofs.Lives.{by_or_behind}
use Rattle.gaz_loaded.specs.Lives.{IsBehind, IsBy, Told}
use Rattle.gaz_loaded.specs.Telling as listed
use Rattle.gaz_loaded.specs.Telling.{AreAbove, AreNext, last_of, told}
use Rattle.gaz_loaded.specs.declared.listed.Life.{Life}
use Rattle.gaz_calls.specs.Asking.{AsksTables}
use Rattle.gaz_answers.specs.Lives.{IsRowBehind, SaysLife, TellsLives, is_items}
use Rattle.gaz_answers.specs.Volumes.{TellsVolumes}
use Rattle.gaz_calls.specs.declared.tables.Tables.{Tables}
use Rattle.gaz_answers.proofs.Taken.{empty_is}
use Rattle.gaz_store.specs.Listing.{TablesRest, lives_kept, passages_kept, told_in, told_with}
use Rattle.gaz_store.specs.Store.{seen_in}
use Rattle.gaz_store.specs.declared.progress.Judging.{Judging}
use Rattle.gaz_store.specs.declared.store.Store.{Store}

-- after a call that only asks, the tables are as they were
pub tables_rest : {S R : Type 0} {store : Ghosts S} {T : Type 0} (register : List ℕ) (old : Store S R store) (tables : Tables S store) (k : Judging) (r : Result T ShelfFault) (P : Database → T → Type 0)
    → AsksTables old.tables tables r P → TablesRest register old (record old { tables = tables; judging = k })
tables_rest register old tables k r P asks stood unharmed = asks.asks.rests unharmed stood.tables.kept.tables

-- while the tables rest, they tell the same
pub lives_rest : {S R : Type 0} {store : Ghosts S} {T : Type 0} (register : List ℕ) (old : Store S R store) (tables : Tables S store) (k : Judging) (r : Result T ShelfFault) (P : Database → T → Type 0)
    → AsksTables old.tables tables r P
    → (seen_in register old).stands → (seen_in register (record old { tables = tables; judging = k })).unharmed → lives_kept (record old { tables = tables; judging = k }) ≡ lives_kept old
lives_rest register old tables k r P asks stood unharmed = ap (λ (db : Database). filter_map told_in (rows_of db version2)) (tables_rest register old tables k r P asks stood unharmed)

pub passages_rest : {S R : Type 0} {store : Ghosts S} {T : Type 0} (register : List ℕ) (old : Store S R store) (tables : Tables S store) (k : Judging) (r : Result T ShelfFault) (P : Database → T → Type 0)
    → AsksTables old.tables tables r P
    → (seen_in register old).stands → (seen_in register (record old { tables = tables; judging = k })).unharmed → passages_kept (record old { tables = tables; judging = k }) ≡ passages_kept old
passages_rest register old tables k r P asks stood unharmed =
    let said : Database → ℕ → List PassageRow = λ db c. passages_in (rows_of db version2) c in
    ap said (tables_rest register old tables k r P asks stood unharmed)

-- ---- the last of a list

has_got : {X : Type 0} (xs : List X) (n : ℕ) (x : X) → slice_get xs n ≡ Some x → Has xs x
has_got [] n x is = let wrong : None ≡ Some x = is in absurd (cc)
has_got (y ∷ xs) zero x is = let same : Some y ≡ Some x = is in inl (cc)
has_got (y ∷ xs) (suc n) x is = inr (has_got xs n x is)

-- ---- volumes

pub volumes_listed : (files : Received) (c above : ℕ) (volumes : List ℕ) → TellsVolumes files c above volumes → AreAbove files c above volumes
volumes_listed files c above volumes it = record {
  only = λ v here. (it.higher v here, it.received v here);
  rising = it.rising;
  all = λ last v is more le some. it.complete v last some more (has_got volumes (length volumes - 1) last is) le;
  none = λ is v more some. it.ends (empty_is volumes is) v more some;
}

-- ---- lives

-- lives that are told as places rise, with none left out between, are told in turn
module _ (all : List Told) where
  abbrev Rises : Life → Life → Type 0
  Rises a b = a.place <ℤ b.place

  abbrev AreThere : Option ℤ → List Life → Type 0
  AreThere place lives = (x : Life) → Has lives x → Has all (told x) × IsBehind place (told x)

  abbrev AreAll : Option ℤ → List Life → Type 0
  AreAll place lives = (y : Told) (last : Life) → Has all y → Has lives last → IsBehind place y → y.place ≤ℤ last.place → (x : Life) × Has lives x × (told x ≡ y)

  -- what is behind one is behind what that is behind
  behind_then : (place : Option ℤ) (x y : Told) → IsBehind place x → x.place <ℤ y.place → IsBehind place y
  behind_then None x y behind more = tt
  behind_then (Some n) x y behind more = omega (arith, ints, behind, more)

  lives_in_turn : (place : Option ℤ) (lives : List Life) → AreThere place lives → AreAll place lives → IsAscending Rises lives → listed.AreInTurn place all lives
  lives_in_turn place [] there complete up = tt
  lives_in_turn place (x ∷ more) there complete up = (
    record { there = (there x (inl refl)).0; first = λ y here behind low. let z = complete y x here (inl refl) behind low in is_it y low z.0 z.1 z.2 },
    lives_in_turn (Some x.place) more (λ z here. ((there z (inr here)).0, all_has (Rises x) more z up.0 here)) complete_behind up.1,
  )
    where
      is_it : (y : Told) → y.place ≤ℤ x.place → (z : Life) → Has (x ∷ more) z → told z ≡ y → y ≡ told x
      is_it y low z (inl same) is = sym is ∙ ap told same
      is_it y low z (inr later) is =
          let above : x.place <ℤ y.place = subst (λ (t : Told). x.place <ℤ t.place) is (all_has (Rises x) more z up.0 later) in
          absurd (omega (arith, ints, above, low))

      complete_behind : AreAll (Some x.place) more
      complete_behind y last here its behind low =
          let z = complete y last here (inr its) (behind_then place (told x) y (there x (inl refl)).1 behind) low in
          by_place z.0 z.1 z.2
        where
          by_place : (z : Life) → Has (x ∷ more) z → told z ≡ y → (w : Life) × Has more w × (told w ≡ y)
          by_place z (inl same) is =
              let self : x.place <ℤ x.place = subst (λ (t : Told). x.place <ℤ t.place) (sym is ∙ ap told same) behind in
              absurd (omega (arith, ints, self))
          by_place z (inr later) is = (z, later, is)

-- a row that tells of an item is an item's
told_row : (r : Row) → IsVersion r → (y : Told) → told_in r ≡ Some y → IsItemRow r
told_row r (inl v) y is = v
told_row r (inr p) y is = not_none y is (ap (option_map (told_with r)) (no_item r (passage_kind r p)))

told_items : (r : Row) → IsItemRow r → is_items r ≡ true
told_items r v = by_test (number_in (kind_of r) == 92) refl
  where
    by_test : (b : Bool) → (number_in (kind_of r) == 92) ≡ b → not b ≡ true
    by_test false is = refl
    by_test true is = not_none (item_of r v).item (item_of r v).said (no_item r (eqb-true (number_in (kind_of r)) 92 is))

-- a row that says a life tells it
module _ (db : Database) (kept : IsKept db) where
  abbrev all : List Told
  all = filter_map told_in (rows_of db version2)

  tells_it : (r : Row) (x : Life) → Has (rows_of db version2) r → SaysLife r x → told_in r ≡ Some (told x)
  tells_it r x there says =
      let s = item_of r (item_row x.code r (kept.rows r there) (told x).life says.history) in
      let same = some_same _ (told x).life (history_of x.code r s (λ i. number_in (says.custodian i))) says.history in
      ap (option_map (told_with r)) s.said
      ∙ (λ i. Some (record { place = id_in (says.place i); code = number_in (says.custodian i); life = same i }))

  module _ (after : Option ℤ) (lives : List Life) (it : TellsLives after lives (rows_of db version2)) where
    are_there : (x : Life) → Has lives x → Has all (told x) × IsBehind after (told x)
    are_there x here =
        let r = it.said x here in
        (read_in told_in (rows_of db version2) r.0 (told x) r.1 (tells_it r.0 x r.1 r.3), is_behind after r.0 r.2 r.3)
      where
        is_behind : (after : Option ℤ) (r : Row) → IsRowBehind after r → SaysLife r x → IsBehind after (told x)
        is_behind None r behind says = tt
        is_behind (Some n) r behind says =
            let value : Int behind.0 ≡ Int x.place = sym behind.1 ∙ says.place in
            let same : behind.0 ≡ x.place = cc in
            subst (λ m. n <ℤ m) same behind.2

    -- the row that tells it, with its rowid
    row_told : (y : Told) → Has all y → (r : Row) × Has (rows_of db version2) r × (told_in r ≡ Some y) × (rowid_of r ≡ Int y.place)
    row_told y there =
        let r = read_from told_in (rows_of db version2) y there in
        let s = item_of r.0 (told_row r.0 (kept.rows r.0 r.1) y r.2) in
        let same = some_same (told_with r.0 s.item) y (ap (option_map (told_with r.0)) s.said) r.2 in
        let rowid = (rowid_is db kept.tables r.0 r.1).1 in
        (r.0, r.1, r.2, rowid ∙ ap Int (sym (ap id_in rowid)) ∙ ap (λ (t : Told). Int t.place) same)

    row_behind : (place : Option ℤ) (r : Row) (y : Told) → rowid_of r ≡ Int y.place → IsBehind place y → IsRowBehind place r
    row_behind None r y is behind = tt
    row_behind (Some n) r y is behind = (y.place, is, behind)

    are_all : (y : Told) (last : Life) → Has all y → Has lives last → IsBehind after y → y.place ≤ℤ last.place → (x : Life) × Has lives x × (told x ≡ y)
    are_all y last there here behind low =
        let r = row_told y there in
        let x = it.complete r.0 last r.1 (told_items r.0 (told_row r.0 (kept.rows r.0 r.1) y r.2)) here (row_behind after r.0 y r.3 behind) (y.place, r.3, low) in
        (x.0, x.1, some_same (told x.0) y (tells_it r.0 x.0 r.1 x.2) r.2)

    pub lives_listed : AreNext after all lives
    lives_listed = record {
      in_turn = lives_in_turn all after lives are_there are_all it.rising;
      none = λ is y there. by_place y there is (by_or_behind after y);
    }
      where
        by_place : (y : Told) → Has all y → last_of lives ≡ None → IsBy after y ⊎ IsBehind after y → IsBy after y
        by_place y there is (inl by) = by
        by_place y there is (inr behind) = let r = row_told y there in absurd (it.ends (empty_is lives is) r.0 r.1 (told_items r.0 (told_row r.0 (kept.rows r.0 r.1) y r.2)) (row_behind after r.0 y r.3 behind))
