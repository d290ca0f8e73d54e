-- What queries find of the rows of items, and of all rows of `version2`, is as a store writes it.
use Rattle.std.proofs.Common.{◌≡◌, ◌∙◌, ℕ, ℤ, pos, true, List, [], ◌∷◌, refl, sym, ap, subst}
use Rattle.std.specs.Prelude.{Option, None, Some, is_some}
use Rattle.sqlite.specs.Effect.{Database}
use Rattle.sqlite.specs.Order.{Row, column}
use Rattle.sqlite_rules.specs.Lists.{Has}
use Rattle.gaz_records.specs.Kinds.{is_entry_kind, number_of}
use Rattle.gaz_records.specs.declared.item.Kind.{Kind}
use Rattle.gaz_records.specs.declared.item.Kind.TheVariants as kind
use Rattle.gaz_records.specs.declared.key.Key.{Key}
use Rattle.gaz_cells.specs.Ids.{id_of, is_key, kind_in}
use Rattle.gaz_overlay.specs.declared.touch.Stood.{Stood}
use Rattle.gaz_overlay.specs.declared.touch.Stood.TheVariants.{NoRow}
use Rattle.gaz_tables.proofs.RowidMeanings.{rowid_is}
use Rattle.gaz_tables.specs.Rowids.{FindsInTurn, row_shown, rowid_place}
use Rattle.gaz_tables.specs.Schema.{version2}
use Rattle.gaz_tables.specs.Shows.{ShowsGreatest}
use Rattle.gaz_tables.specs.Tables.{rows_of}
use Rattle.gaz_tables.specs.Versions as table
use Rattle.gaz_tables.specs.Versions.{FindsApprovedOf, FindsApprovedOn, FindsHolding, FindsNewest, FindsNewestUntil, FindsParts, IsApprovedOf, IsApprovedOn, IsHolding, IsOfKey, IsOfKeyUntil, IsPartOf, body_shown, born_place, id_place, id_shown, lang_shown, life_shown}
use Rattle.gaz_row_items.specs.Decoding.{Each, NamesKey, ShowsItem}
use Rattle.gaz_row_items.specs.Newest.{SaysLife, SaysNewest, SaysStood, stood_of}
use Rattle.gaz_row_items.specs.Versions.{number_in}
use Rattle.gaz_row_items.specs.declared.newest.Life.{Life}
use Rattle.gaz_kept.specs.Kept.{AreVersions, IsKept}
use Rattle.gaz_answers.specs.Lives.{IsRowBehind, ShowsVersion}
use Rattle.gaz_answers.specs.Streets.{ShowsOnStreet, ShowsPart}
use Rattle.gaz_answers.proofs.Holding.{kind_row}
use Rattle.gaz_answers.proofs.ShownItems.{lasts, shows_item, shows_key, shows_life, shows_version}
use Rattle.gaz_answers.proofs.ShownRows.{all_shown, page_shown}

-- ---- the row of a key that was born last

module _ (c : ℕ) (k : Key) (kd : Kind) (id : List ℕ) (rows : List Row) (all : AreVersions rows) (known : is_key k ≡ true) (is_kind : kd ≡ kind_in k) (is_id : id ≡ id_of k)
    (Fits : Row → Type 0) (ours : (r : Row) → Fits r → IsOfKey c (number_of kd) id r) where
  of_key : (r : Row) → Fits r → IsOfKey c (number_of (kind_in k)) (id_of k) r
  of_key r fit = subst (λ i. IsOfKey c (number_of (kind_in k)) i r) is_id (subst (λ q. IsOfKey c (number_of q) id r) is_kind (ours r fit))

  life_found : (answer : List Row) → ShowsGreatest Fits born_place life_shown rows answer → (life : Option Life) × SaysNewest k answer life
  life_found [] none = (None, refl)
  life_found (x ∷ []) g =
      let shows = shows_life c k known g.0 (all g.0 g.2.there) (of_key g.0 g.2.fits) in
      (Some shows.0, subst (λ r. SaysLife k r shows.0) (sym g.3) shows.1)
  life_found (x ∷ y ∷ more) g = absurd g

pub newest_shown : (db : Database) (c : ℕ) (k : Key) (kd : Kind) (id : List ℕ) (answer : List Row) → IsKept db → is_key k ≡ true → kd ≡ kind_in k → id ≡ id_of k
    → FindsNewest c (number_of kd) id (rows_of db version2) answer → (life : Option Life) × SaysNewest k answer life
newest_shown db c k kd id answer kept known is_kind is_id = life_found c k kd id (rows_of db version2) kept.rows known is_kind is_id (IsOfKey c (number_of kd) id) (λ r fit. fit) answer

pub newest_until_shown : (db : Database) (c volume : ℕ) (k : Key) (kd : Kind) (id : List ℕ) (answer : List Row) → IsKept db → is_key k ≡ true → kd ≡ kind_in k → id ≡ id_of k
    → FindsNewestUntil c (number_of kd) id volume (rows_of db version2) answer → (life : Option Life) × SaysNewest k answer life
newest_until_shown db c volume k kd id answer kept known is_kind is_id = life_found c k kd id (rows_of db version2) kept.rows known is_kind is_id (IsOfKeyUntil c (number_of kd) id volume) (λ r fit. fit.of_key) answer

-- of which only the volumes are read
pub stood_shown : (db : Database) (c number : ℕ) (id : List ℕ) (answer : List Row) → IsKept db → FindsNewest c number id (rows_of db version2) answer → (stood : Stood) × SaysStood answer stood
stood_shown db c number id [] kept none = (NoRow, refl)
stood_shown db c number id (x ∷ []) kept g =
    let l = lasts g.0 (kept.rows g.0 g.2.there) in
    let born = number_in (table.born_of g.0) in
    let gone = number_in (table.gone_of g.0) in
    (stood_of born gone, (born, gone, ap (λ (r : Row). column r 0) g.3 ∙ l.born, ap (λ (r : Row). column r 1) g.3 ∙ l.gone, refl))
stood_shown db c number id (x ∷ y ∷ more) kept g = absurd g

-- ---- the addresses of a BLPU

module _ (db : Database) (c uprn : ℕ) (answer : List Row) (kept : IsKept db) (found : FindsApprovedOf c (pos uprn) (rows_of db version2) answer) where
  pub addresses_shown : Each (ShowsItem kind.Lpi) answer
  addresses_shown =
      all_shown (ShowsItem kind.Lpi) (IsApprovedOf c (pos uprn)) body_shown (rows_of db version2) (λ r there fit. shows_item kind.Lpi refl r (kept.rows r there) fit.approved.of_kind) answer found

  pub names_shown : Each (λ r. NamesKey kind.Lpi r 0) answer
  names_shown r here = let it = addresses_shown r here in record { text = it.text; named = ap is_some it.named }

-- ---- pages

module _ (db : Database) (kept : IsKept db) (c : ℕ) where
  abbrev rows : List Row
  rows = rows_of db version2

  pub on_street_shown : (usrn : ℕ) (start : List ℕ) (most : ℕ) (answer : List Row) → FindsApprovedOn c usrn start most rows answer → Each ShowsOnStreet answer
  on_street_shown usrn start most answer = page_shown ShowsOnStreet (IsApprovedOn c usrn start) lang_shown rows shows answer id_place most
    where
      shows : (r : Row) → Has rows r → IsApprovedOn c usrn start r → ShowsOnStreet (lang_shown r)
      shows r there fit =
          let version = kept.rows r there in
          record { key = shows_key kind.Lpi refl r version fit.approved.of_kind (lang_shown r) refl; lang = (kind_row kind.Lpi r refl version fit.approved.of_kind).lang }

  pub held_shown : (volume : ℕ) (kd : Kind) → is_entry_kind kd ≡ true → (start : List ℕ) (most : ℕ) (answer : List Row) → FindsHolding c (number_of kd) start volume most rows answer → Each (ShowsItem kd) answer
  held_shown volume kd entry start most answer =
      page_shown (ShowsItem kd) (IsHolding c (number_of kd) start volume) body_shown rows (λ r there fit. shows_item kd entry r (kept.rows r there) fit.of_kind) answer id_place most

  pub parts_shown : (kd : Kind) → is_entry_kind kd ≡ true → (uprn : ℕ) (start : List ℕ) (most : ℕ) (answer : List Row) → FindsParts c (number_of kd) (pos uprn) start most rows answer → Each (ShowsPart kd) answer
  parts_shown kd entry uprn start most answer =
      page_shown (ShowsPart kd) (IsPartOf c (number_of kd) (pos uprn) start) id_shown rows (λ r there fit. shows_key kd entry r (kept.rows r there) fit.of_kind (id_shown r) refl) answer id_place most

-- ---- rows in turn

module _ (db : Database) (kept : IsKept db) (after : Option ℤ) (most : ℕ) (answer : List Row) where
  abbrev all : List Row
  all = rows_of db version2

  pub versions_shown : FindsInTurn (IsRowBehind after) most all answer → Each ShowsVersion answer
  versions_shown found = page_shown ShowsVersion (IsRowBehind after) row_shown all shows answer rowid_place most found.page
    where
      shows : (r : Row) → Has all r → IsRowBehind after r → ShowsVersion (row_shown r)
      shows r there fit =
          let rowid = rowid_is db kept.tables r there in
          record { version = shows_version r (kept.rows r there); place = rowid.0; rowid = rowid.1 }
