-- The row that a query for a number's newest passage finds is the one that was born last.
use Rattle.std.proofs.Common.{◌≡◌, ◌∙◌, ◌≤◌, ◌<◌, ℕ, ℤ, pos, ◌≤ℤ◌, true, List, [], ◌∷◌, refl, sym, ap, subst, arith}
use Rattle.std.proofs.lemmas.Bool.{and_parts}
use Rattle.std.proofs.lemmas.Int.{ints}
use Rattle.std.specs.Prelude.{⊤, Option, Some, None, is_some, option_map}
use Rattle.sqlite.specs.Effect.{Database}
use Rattle.sqlite.specs.Order.{Row}
use Rattle.sqlite.specs.declared.types.Value.TheVariants.{Int}
use Rattle.sqlite_rules.specs.Lists.{Has}
use Rattle.gaz_ids.specs.Numbers.{in_range}
use Rattle.gaz_records.specs.Blpus.{is_uprn}
use Rattle.gaz_records.specs.declared.key.Key.TheVariants as key
use Rattle.gaz_views.specs.View.{custody_at}
use Rattle.gaz_views.specs.declared.custody.Custody.{Custody}
use Rattle.gaz_views.specs.declared.custody.Custody.TheVariants.{Adopted, Released}
use Rattle.gaz_cells.specs.Custody.{custody_cells, custody_kind, is_custody, told_in}
use Rattle.gaz_cells.specs.Ids.{id_of}
use Rattle.gaz_overlay.specs.Passages.{PassageRow, has_passed}
use Rattle.gaz_overlay.specs.Rows.{never}
use Rattle.gaz_tables.specs.Custody.{FindsCustody, FindsCustodyUntil, custody_shown}
use Rattle.gaz_tables.specs.Schema.{received, version2}
use Rattle.gaz_tables.specs.Shows.{IsGreatest, ShowsGreatest}
use Rattle.gaz_tables.specs.Versions as table
use Rattle.gaz_tables.specs.Versions.{IsOfKey, IsOfKeyUntil, born_place}
use Rattle.gaz_tables.specs.Tables.{rows_of}
use Rattle.gaz_row_items.specs.NewestPassages.{HasPassage, SaysPassage, SaysPassed, custody_of}
use Rattle.gaz_row_items.specs.Versions.{custody_cells_in, number_in, passage_in, passages_in, passing, view_in}
use Rattle.gaz_row_items.specs.declared.passages.Passed.{Passed}
use Rattle.gaz_kept.specs.Files.{reached_in}
use Rattle.gaz_kept.specs.Kept.{AreVersions, IsKept, IsPassageRow}
use Rattle.gaz_kept.specs.LastViews.{last_in}
use Rattle.gaz_kept.specs.Passages.{IsLastOf}
use Rattle.gaz_kept.proofs.PassageRows.{last_is_current, rows_say}
use Rattle.gaz_kept.proofs.PassageStatements.{IsPassingOf, PassedBorn, kind_passage, known_of, passage_of, passed_as}
use Rattle.gaz_kept.proofs.Reached.{reached_room}
use Rattle.gaz_kept.proofs.RowsRead.{read_from, read_in, some_same, tells_of}

-- the passage that it tells of is this row of the number
pub record IsPassedRow (uprn : ℕ) (passed : Passed) (p : PassageRow) : Type 0 where
  pub of_number : p.uprn ≡ uprn
  pub born : p.born ≡ passed.born
  pub custody : p.custody ≡ passed.custody

-- or it tells of none
abbrev pub TellsPassage : ℕ → Option Passed → Option PassageRow → Type 0
TellsPassage uprn None None = Unit {0}
TellsPassage uprn None (Some p) = ⊥
TellsPassage uprn (Some passed) None = ⊥
TellsPassage uprn (Some passed) (Some p) = IsPassedRow uprn passed p

-- what cells of what became of a number tell
pub told_back : (n : ℕ) (x : Custody) → is_custody x ≡ true → told_in (custody_cells n x) ≡ Some x
told_back n (Released to hop) such = let both = and_parts (in_range 1 9999 to) (in_range 1 9999 hop) such in rw (both.0, both.1) refl
told_back n (Adopted from hop) such = let both = and_parts (in_range 1 9999 from) (in_range 1 9999 hop) such in rw (both.0, both.1) refl

-- of the rows of a number that pass, this was born last
record IsLastBy (Passes : ℕ → Type 0) (rows : List PassageRow) (uprn : ℕ) (p : PassageRow) : Type 0 where
  there : Has rows p
  of_number : p.uprn ≡ uprn
  passes : Passes p.born
  last : (r : PassageRow) → Has rows r → r.uprn ≡ uprn → Passes r.born → r.born ≤ p.born

abbrev AreLastBy : (ℕ → Type 0) → List PassageRow → ℕ → Option PassageRow → Type 0
AreLastBy Passes rows uprn None = (r : PassageRow) → Has rows r → r.uprn ≡ uprn → ¬ Passes r.born
AreLastBy Passes rows uprn (Some p) = IsLastBy Passes rows uprn p

-- what an answer tells, and of which row
record Told (Passes : ℕ → Type 0) (rows : List PassageRow) (uprn : ℕ) (passed : Option Passed) : Type 0 where
  row : Option PassageRow
  tells : TellsPassage uprn passed row
  last : AreLastBy Passes rows uprn row

module _ (c uprn : ℕ) (rows answer : List Row) (all : AreVersions rows) (known : is_uprn uprn ≡ true) where
  abbrev IsOurs : Row → Type 0
  IsOurs = IsOfKey c custody_kind (id_of (key.Blpu uprn))

  module _ (Fits : Row → Type 0) (Passes : ℕ → Type 0) (ours : (r : Row) → Fits r → IsOurs r)
      (to : (r : Row) (b : ℕ) → IsPassingOf c uprn b r → Passes b → Fits r) (from : (r : Row) (b : ℕ) → IsPassingOf c uprn b r → Fits r → Passes b) where
    -- the row of a passage of the number
    row_at : (p : PassageRow) → Has (passages_in rows c) p → p.uprn ≡ uprn → (r : Row) × Has rows r × IsPassingOf c uprn p.born r
    row_at p there number =
        let r = read_from (passage_in c) rows p there in
        (r.0, r.1, subst (λ m. IsPassingOf c m p.born r.0) number (known_of c r.0 (all r.0 r.1) p r.2).birth)

    none_passes : ShowsGreatest Fits born_place custody_shown rows [] → AreLastBy Passes (passages_in rows c) uprn None
    none_passes none p there number passes = let r = row_at p there number in none r.0 r.1 (to r.0 p.born r.2 passes)

    module _ (r : Row) (n : ℤ) (greatest : IsGreatest Fits born_place rows r n) where
      version : IsPassageRow r
      version = kind_passage r (all r greatest.there) (ap number_in (ours r greatest.fits).of_kind)

      born : PassedBorn c uprn (number_in (table.born_of r)) r
      born = passed_as c uprn (number_in (table.born_of r)) r (all r greatest.there) known (record { of_key = ours r greatest.fits; of_born = version.born })

      its_birth : IsPassingOf c uprn born.row.born r
      its_birth = record { of_key = ours r greatest.fits; of_born = version.born ∙ ap (λ m. Int (pos m)) (sym born.birth) }

      latest : IsLastBy Passes (passages_in rows c) uprn born.row
      latest = record {
        there = read_in (passage_in c) rows r born.row greatest.there born.is;
        of_number = born.of_number;
        passes = from r born.row.born its_birth greatest.fits;
        last = λ p there number passes.
            let s = row_at p there number in
            let le = greatest.last s.0 (pos p.born) s.1 (to s.0 p.born s.2 passes) s.2.of_born in
            let is : Int n ≡ Int (pos (number_in (table.born_of r))) = sym greatest.number ∙ version.born in
            let same : n ≡ pos (number_in (table.born_of r)) = cc in
            let birth = born.birth in
            let bound : pos p.born ≤ℤ pos (number_in (table.born_of r)) = subst (λ m. pos p.born ≤ℤ m) same le in
            omega (arith, ints, bound);
      }

      said_so : (passed : Passed) → SaysPassed 0 (custody_shown r) passed → TellsPassage uprn (Some passed) (Some born.row)
      said_so passed said =
          let s = tells_of r version in
          let whole = some_same born.row (passing (number_in (table.born_of r)) (number_in (table.gone_of r)) (s.number, s.custody)) born.is (passage_of c r s (ap number_in (ours r greatest.fits).of_cust)) in
          let told : told_in (custody_cells_in r) ≡ Some s.custody = ap told_in (sym s.follows.cells) ∙ told_back s.number s.custody s.follows.such in
          record {
            of_number = born.of_number;
            born = born.birth ∙ ap number_in said.born;
            custody = ap (λ (p : PassageRow). p.custody) whole ∙ some_same s.custody passed.custody told said.custody;
          }

    passage_said_is : ShowsGreatest Fits born_place custody_shown rows answer → (passed : Option Passed) → SaysPassage answer passed → Told Passes (passages_in rows c) uprn passed
    passage_said_is shows passed says = by_answer answer shows passed says
      where
        by_answer : (answer : List Row) → ShowsGreatest Fits born_place custody_shown rows answer → (passed : Option Passed) → SaysPassage answer passed → Told Passes (passages_in rows c) uprn passed
        by_answer [] none passed says = subst (Told Passes (passages_in rows c) uprn) (sym says) (record { row = None; tells = tt; last = none_passes none })
        by_answer (x ∷ []) g None says = absurd says
        by_answer (x ∷ []) g (Some passed) says =
            let said = subst (λ r. SaysPassed 0 r passed) g.3 says in
            record { row = Some (born g.0 g.1 g.2).row; tells = said_so g.0 g.1 g.2 passed said; last = latest g.0 g.1 g.2 }
        by_answer (x ∷ y ∷ more) g passed says = absurd g

  newest_said : FindsCustody c (id_of (key.Blpu uprn)) rows answer → (passed : Option Passed) → SaysPassage answer passed → Told (λ b. ⊤) (passages_in rows c) uprn passed
  newest_said = passage_said_is IsOurs (λ b. ⊤) (λ r fit. fit) (λ r b birth passes. birth.of_key) (λ r b birth fit. tt)

  until_said : (volume : ℕ) → FindsCustodyUntil c (id_of (key.Blpu uprn)) volume rows answer → (passed : Option Passed) → SaysPassage answer passed → Told (λ b. b ≤ volume) (passages_in rows c) uprn passed
  until_said volume = passage_said_is (IsOfKeyUntil c custody_kind (id_of (key.Blpu uprn)) volume) (λ b. b ≤ volume) (λ r fit. fit.of_key)
      (λ r b birth passes. record { of_key = birth.of_key; early = (pos b, birth.of_born, omega (arith, ints, passes)) })
      (λ r b birth fit.
      let early = fit.early in
      let is : Int early.0 ≡ Int (pos b) = sym early.1 ∙ birth.of_born in
      let same : early.0 ≡ pos b = cc in
      let bound : pos b ≤ℤ pos volume = subst (λ m. m ≤ℤ pos volume) same early.2 in
      omega (arith, ints, bound))

-- ---- what it is of the views

-- what an answer tells of a number after a volume
pub record TellsAt (rows : List PassageRow) (t uprn : ℕ) (passed : Option Passed) : Type 0 where
  pub row : Option PassageRow
  pub tells : TellsPassage uprn passed row
  pub last : IsLastOf t rows uprn row

its_custody : (uprn : ℕ) (passed : Option Passed) (o : Option PassageRow) → TellsPassage uprn passed o → option_map (λ p. p.custody) o ≡ custody_of passed
its_custody uprn None None tells = refl
its_custody uprn None (Some p) tells = absurd tells
its_custody uprn (Some passed) None tells = absurd tells
its_custody uprn (Some passed) (Some p) tells = ap Some tells.custody

its_use : (uprn : ℕ) (passed : Option Passed) (o : Option PassageRow) → TellsPassage uprn passed o → is_some o ≡ is_some passed
its_use uprn None None tells = refl
its_use uprn None (Some p) tells = absurd tells
its_use uprn (Some passed) None tells = absurd tells
its_use uprn (Some passed) (Some p) tells = refl

module _ (db : Database) (kept : IsKept db) (c uprn : ℕ) (known : is_uprn uprn ≡ true) (answer : List Row) (passed : Option Passed) (says : SaysPassage answer passed) where
  abbrev passages : List PassageRow
  passages = passages_in (rows_of db version2) c

  abbrev reached : ℕ
  reached = reached_in (rows_of db received) c

  -- the newest of all is that of the last view
  pub passage_told : FindsCustody c (id_of (key.Blpu uprn)) (rows_of db version2) answer → TellsAt passages reached uprn passed
  passage_told found = by_row t.row t.tells t.last
    where
      t : Told (λ b. ⊤) passages uprn passed
      t = newest_said c uprn (rows_of db version2) answer kept.rows known found passed says

      by_row : (o : Option PassageRow) → TellsPassage uprn passed o → AreLastBy (λ b. ⊤) passages uprn o → TellsAt passages reached uprn passed
      by_row None tells none = record { row = None; tells = tells; last = λ r there number early. none r there number tt }
      by_row (Some p) tells last = record {
        row = Some p;
        tells = tells;
        last = record { there = last.there; of_number = last.of_number; born = ((kept.passages c).until p last.there).born; last = λ r there number early. last.last r there number tt };
      }

  pub passage_until_told : (volume : ℕ) → FindsCustodyUntil c (id_of (key.Blpu uprn)) volume (rows_of db version2) answer → TellsAt passages volume uprn passed
  passage_until_told volume found = by_row t.row t.tells t.last
    where
      t : Told (λ b. b ≤ volume) passages uprn passed
      t = until_said c uprn (rows_of db version2) answer kept.rows known volume found passed says

      by_row : (o : Option PassageRow) → TellsPassage uprn passed o → AreLastBy (λ b. b ≤ volume) passages uprn o → TellsAt passages volume uprn passed
      by_row None tells none = record { row = None; tells = tells; last = none }
      by_row (Some p) tells last = record { row = Some p; tells = tells; last = record { there = last.there; of_number = last.of_number; born = last.passes; last = last.last } }

-- ---- what follows

module _ (db : Database) (kept : IsKept db) (c t uprn : ℕ) (passed : Option Passed) (room : t < never) (told : TellsAt (passages_in (rows_of db version2) c) t uprn passed) where
  -- what became of the number after the volume
  pub custody_then : custody_of passed ≡ custody_at (view_in (rows_of db version2) c t) uprn
  custody_then =
      let say = rows_say (reached_in (rows_of db received) c) t uprn (passages_in (rows_of db version2) c) told.row room (kept.passages c) told.last in
      sym (say.custody ∙ its_custody uprn passed told.row told.tells)

  -- whether its BLPU's key was used by that
  pub passed_then : has_passed (passages_in (rows_of db version2) c) t (key.Blpu uprn) ≡ is_some passed
  passed_then =
      let say = rows_say (reached_in (rows_of db received) c) t uprn (passages_in (rows_of db version2) c) told.row room (kept.passages c) told.last in
      say.used ∙ its_use uprn passed told.row told.tells

module _ (db : Database) (kept : IsKept db) (c uprn : ℕ) (passed : Option Passed) (told : TellsAt (passages_in (rows_of db version2) c) (reached_in (rows_of db received) c) uprn passed) where
  pub custody_now : custody_of passed ≡ custody_at (last_in db c) uprn
  custody_now = custody_then db kept c (reached_in (rows_of db received) c) uprn passed (reached_room db c kept) told

  pub passed_now : has_passed (passages_in (rows_of db version2) c) (reached_in (rows_of db received) c) (key.Blpu uprn) ≡ is_some passed
  passed_now = passed_then db kept c (reached_in (rows_of db received) c) uprn passed (reached_room db c kept) told

  -- the passage is current
  pub told_passage : (p : Passed) → passed ≡ Some p → HasPassage (passages_in (rows_of db version2) c) uprn p.born
  told_passage p is = by_row told.row (subst (λ o. TellsPassage uprn o told.row) is told.tells) told.last
    where
      by_row : (o : Option PassageRow) → TellsPassage uprn (Some p) o → IsLastOf (reached_in (rows_of db received) c) (passages_in (rows_of db version2) c) uprn o → HasPassage (passages_in (rows_of db version2) c) uprn p.born
      by_row None tells none = absurd tells
      by_row (Some row) tells last = record {
        row = row;
        there = last.there;
        of_number = tells.of_number;
        of_birth = tells.born;
        is_current = last_is_current (reached_in (rows_of db received) c) uprn (passages_in (rows_of db version2) c) row (kept.passages c) last;
      }
