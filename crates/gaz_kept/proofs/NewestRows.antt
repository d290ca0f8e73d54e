-- The row that a query for a key's newest finds is the newest of its histories.
use Rattle.std.proofs.Common.{◌≡◌, ◌∙◌, ◌≤◌, ℕ, ℤ, pos, ◌≤ℤ◌, true, List, [], ◌∷◌, sym, ap, subst, arith}
use Rattle.std.proofs.lemmas.Int.{ints}
use Rattle.std.specs.Prelude.{⊤, Option, Some, None, Ok, option_map}
use Rattle.sqlite.specs.Order.{Row}
use Rattle.sqlite.specs.declared.types.Value.TheVariants.{Int, Text}
use Rattle.sqlite_rules.specs.Lists.{Has}
use Rattle.gaz_records.specs.Items.{item_of_text, kind_of}
use Rattle.gaz_records.specs.Keys.{key_of}
use Rattle.gaz_records.specs.Kinds.{number_of}
use Rattle.gaz_records.specs.declared.item.Item.{Item}
use Rattle.gaz_records.specs.declared.key.Key.{Key}
use Rattle.gaz_cells.specs.Columns.{CellsValue, cells_of}
use Rattle.gaz_cells.specs.Ids.{id_of, is_key, kind_in}
use Rattle.gaz_overlay.specs.Rows.{HistoryRow}
use Rattle.gaz_overlay.specs.declared.touch.Stood.{Stood}
use Rattle.gaz_tables.specs.Shows.{IsGreatest, ShowsGreatest}
use Rattle.gaz_tables.specs.Versions as table
use Rattle.gaz_tables.specs.Versions.{FindsNewest, FindsNewestUntil, IsOfKey, IsOfKeyUntil, born_place, life_shown}
use Rattle.gaz_row_items.specs.Newest.{IsLatestOf, IsNewest, IsNewestUntil, SaysLife, SaysNewest, SaysStood, row_of, stood_by, stood_of}
use Rattle.gaz_row_items.specs.Versions.{histories_in, history_in, living, number_in, text_in}
use Rattle.gaz_row_items.specs.declared.newest.Life.{Life}
use Rattle.gaz_kept.specs.Kept.{AreVersions, IsItemRow}
use Rattle.gaz_kept.proofs.RowsRead.{Born, IsBirthOf, Says, birth_of, born_as, fits, history_of, item_of, kind_row, read_from, read_in, some_same}

-- ---- what the cells of a row at a key say

-- the item in a body is that of the row
module _ (r : Row) (s : Says r) (k : Key) (own : key_of s.item ≡ k) where
  pub same_item : (text : List ℕ) (x : Item) → table.body_of r ≡ Text text → item_of_text (kind_in k) text ≡ Ok x → x ≡ s.item
  same_item text x there read =
      let fit = fits s.item s.known s.entry in
      let body : text ≡ (cells_of s.item).body = ap text_in (sym there) ∙ ap (λ (d : CellsValue). d.body) (sym s.cells) in
      let kind : kind_in k ≡ kind_of s.item = ap kind_in (sym own) ∙ fit.kind in
      let both : Ok x ≡ Ok s.item = sym read ∙ (λ i. item_of_text (kind i) (body i)) ∙ fit.body in
      cc

module _ (c : ℕ) (k : Key) (rows answer : List Row) (all : AreVersions rows) (known : is_key k ≡ true) where
  abbrev IsOurs : Row → Type 0
  IsOurs = IsOfKey c (number_of (kind_in k)) (id_of k)

  module _ (Fits : Row → Type 0) (Passes : HistoryRow → Type 0) (ours : (r : Row) → Fits r → IsOurs r)
      (to : (r : Row) (h : HistoryRow) → h.key ≡ k → IsBirthOf c k h.born r → Passes h → Fits r)
      (from : (r : Row) (h : HistoryRow) → IsBirthOf c k h.born r → Fits r → Passes h) where
    -- the row of a history at the key
    row_at : (h : HistoryRow) → Has (histories_in rows c) h → h.key ≡ k → (r : Row) × Has rows r × IsBirthOf c k h.born r
    row_at h there key =
        let r = read_from (history_in c) rows h there in
        (r.0, r.1, subst (λ q. IsBirthOf c q h.born r.0) key (birth_of c r.0 (all r.0 r.1) h r.2))

    none_passes : ShowsGreatest Fits born_place life_shown rows [] → IsLatestOf Passes (histories_in rows c) k None
    none_passes none h there key passes = let r = row_at h there key in none r.0 r.1 (to r.0 h key r.2 passes)

    module _ (r : Row) (n : ℤ) (greatest : IsGreatest Fits born_place rows r n) where
      version : IsItemRow r
      version = kind_row k r (all r greatest.there) (ap number_in (ours r greatest.fits).of_kind)

      born : Born c k (number_in (table.born_of r)) r
      born = born_as c k (number_in (table.born_of r)) r (all r greatest.there) known (record { of_key = ours r greatest.fits; of_born = version.born })

      latest : IsLatestOf Passes (histories_in rows c) k (Some born.row)
      latest = record {
        there = read_in (history_in c) rows r born.row greatest.there born.is;
        of_key = born.key;
        passes = from r born.row (record { of_key = ours r greatest.fits; of_born = version.born ∙ ap (λ m. Int (pos m)) (sym born.birth) }) greatest.fits;
        last = λ h there key passes.
            let s = row_at h there key in
            let le = greatest.last s.0 (pos h.born) s.1 (to s.0 h key s.2 passes) s.2.of_born in
            let is : Int n ≡ Int (pos (number_in (table.born_of r))) = sym greatest.number ∙ version.born in
            let same : n ≡ pos (number_in (table.born_of r)) = cc in
            let birth = born.birth in
            let bound : pos h.born ≤ℤ pos (number_in (table.born_of r)) = subst (λ m. pos h.born ≤ℤ m) same le in
            omega (arith, ints, bound);
      }

      -- the row as it is lived, whatever was read of its item
      abbrev lived : Life
      lived = record { born = number_in (table.born_of r); gone = number_in (table.gone_of r); item = (item_of r version).item }

      whole : born.row ≡ living lived.born lived.gone lived.item
      whole = some_same born.row (living lived.born lived.gone lived.item) born.is (history_of c r (item_of r version) (ap number_in (ours r greatest.fits).of_cust))

      own : key_of lived.item ≡ k
      own = sym (ap (λ (h : HistoryRow). h.key) whole) ∙ born.key

      lived_so : row_of k lived ≡ born.row
      lived_so = (λ i. record { key = sym own i; born = lived.born; gone = lived.gone; item = lived.item }) ∙ sym whole

      said_so : (life : Life) → SaysLife k (life_shown r) life → row_of k life ≡ born.row
      said_so life said =
          let birth : life.born ≡ lived.born = ap number_in (sym said.born) in
          let gone : life.gone ≡ lived.gone = ap number_in (sym said.gone) in
          let item : life.item ≡ lived.item = same_item r (item_of r version) k own said.item.text life.item said.item.there said.item.body.read in
          (λ i. record { key = k; born = birth i; gone = gone i; item = item i }) ∙ lived_so

      stands_so : (stood : Stood) → SaysStood (life_shown r ∷ []) stood → stood ≡ stood_by (Some lived)
      stands_so stood says =
          let birth : says.0 ≡ lived.born = ap number_in (sym says.2) in
          let gone : says.1 ≡ lived.gone = ap number_in (sym says.3) in
          says.4 ∙ (λ i. stood_of (birth i) (gone i))

    pub latest_told : ShowsGreatest Fits born_place life_shown rows answer → (life : Option Life) → SaysNewest k answer life → IsLatestOf Passes (histories_in rows c) k (option_map (row_of k) life)
    latest_told shows life says = by_answer answer shows life says
      where
        by_answer : (answer : List Row) → ShowsGreatest Fits born_place life_shown rows answer → (life : Option Life) → SaysNewest k answer life → IsLatestOf Passes (histories_in rows c) k (option_map (row_of k) life)
        by_answer [] none life says = subst (λ l. IsLatestOf Passes (histories_in rows c) k (option_map (row_of k) l)) (sym says) (none_passes none)
        by_answer (x ∷ []) g None says = absurd says
        by_answer (x ∷ []) g (Some life) says =
            let said = subst (λ r. SaysLife k r life) g.3 says in
            subst (λ h. IsLatestOf Passes (histories_in rows c) k (Some h)) (sym (said_so g.0 g.1 g.2 life said)) (latest g.0 g.1 g.2)
        by_answer (x ∷ y ∷ more) g life says = absurd g

    -- what is read of the volumes alone
    pub latest_stood : ShowsGreatest Fits born_place life_shown rows answer → (stood : Stood) → SaysStood answer stood → (life : Option Life) × IsLatestOf Passes (histories_in rows c) k (option_map (row_of k) life) × (stood ≡ stood_by life)
    latest_stood shows stood says = by_answer answer shows says
      where
        by_answer : (answer : List Row) → ShowsGreatest Fits born_place life_shown rows answer → SaysStood answer stood → (life : Option Life) × IsLatestOf Passes (histories_in rows c) k (option_map (row_of k) life) × (stood ≡ stood_by life)
        by_answer [] none says = (None, none_passes none, says)
        by_answer (x ∷ []) g says =
            let life = lived g.0 g.1 g.2 in
            (Some life, subst (λ h. IsLatestOf Passes (histories_in rows c) k (Some h)) (sym (lived_so g.0 g.1 g.2)) (latest g.0 g.1 g.2), stands_so g.0 g.1 g.2 stood (subst (λ r. SaysStood (r ∷ []) stood) g.3 says))
        by_answer (x ∷ y ∷ more) g says = absurd g

  pub newest_stood : FindsNewest c (number_of (kind_in k)) (id_of k) rows answer → (stood : Stood) → SaysStood answer stood → (life : Option Life) × IsNewest (histories_in rows c) k life × (stood ≡ stood_by life)
  newest_stood = latest_stood IsOurs (λ h. ⊤) (λ r fit. fit) (λ r h key birth passes. birth.of_key) (λ r h birth fit. tt)

  pub newest_told : FindsNewest c (number_of (kind_in k)) (id_of k) rows answer → (life : Option Life) → SaysNewest k answer life → IsNewest (histories_in rows c) k life
  newest_told = latest_told IsOurs (λ h. ⊤) (λ r fit. fit) (λ r h key birth passes. birth.of_key) (λ r h birth fit. tt)

  pub newest_until_told : (volume : ℕ) → FindsNewestUntil c (number_of (kind_in k)) (id_of k) volume rows answer → (life : Option Life) → SaysNewest k answer life
      → IsNewestUntil volume (histories_in rows c) k life
  newest_until_told volume = latest_told (IsOfKeyUntil c (number_of (kind_in k)) (id_of k) volume) (λ h. h.born ≤ volume) (λ r fit. fit.of_key)
      (λ r h key birth passes. record { of_key = birth.of_key; early = (pos h.born, birth.of_born, omega (arith, ints, passes)) })
      (λ r h birth fit.
      let early = fit.early in
      let is : Int early.0 ≡ Int (pos h.born) = sym early.1 ∙ birth.of_born in
      let same : early.0 ≡ pos h.born = cc in
      let bound : pos h.born ≤ℤ pos volume = subst (λ m. m ≤ℤ pos volume) same early.2 in
      omega (arith, ints, bound))
