-- The rows of approved addresses that a query finds are those of the last view.
use Rattle.std.proofs.Common.{◌≡◌, ◌∙◌, ◌≤◌, ◌<◌, ◌==◌, ◌⊎◌, inl, inr, ℕ, pos, true, List, [], ◌∷◌, map, filter, refl, sym, ap, subst, arith, eq-eqb, eqb-true}
use Rattle.std.proofs.lemmas.Bool.{and_from, and_parts}
use Rattle.std.specs.Prelude.{Option, Some, None, option_map}
use Rattle.std.specs.FinMap as finite
use Rattle.sqlite.specs.Order.{Row, column}
use Rattle.sqlite.specs.declared.types.Value.TheVariants.{Text}
use Rattle.sqlite_rules.specs.Lists.{Has}
use Rattle.sqlite_rules.proofs.ListLemmas.{has_filtered, has_kept}
use Rattle.sqlite_rules.proofs.ProbeLemmas.{has_mapped, mapped_has}
use Rattle.gaz_ids.specs.declared.status.Status.{Status}
use Rattle.gaz_ids.specs.declared.status.Status.TheVariants.{Approved, Alternative, Provisional, Historical}
use Rattle.gaz_records.specs.Keys.{key_of}
use Rattle.gaz_records.specs.Kinds.{number_of}
use Rattle.gaz_records.specs.declared.item.Item.{Item}
use Rattle.gaz_records.specs.declared.item.Item.TheVariants as item
use Rattle.gaz_records.specs.declared.item.Kind.TheVariants as kind
use Rattle.gaz_records.specs.declared.key.Key.{Key}
use Rattle.gaz_records.specs.declared.key.Key.TheVariants as key
use Rattle.gaz_views.specs.View.{View}
use Rattle.gaz_views.specs.Words.{address_of, approved_of, entries, first_of, is_approved, is_approved_of}
use Rattle.gaz_cells.proofs.Ids.{ids_back}
use Rattle.gaz_cells.specs.Columns.{CellsValue, blpu_of, live_number, live_of}
use Rattle.gaz_cells.specs.Ids.{id_of, key_named, kind_in}
use Rattle.gaz_overlay.specs.Rows.{HistoryRow, never}
use Rattle.gaz_sql_facts.proofs.Lists.{has_permuted, permuted_has}
use Rattle.gaz_tables.specs.Versions as table
use Rattle.gaz_tables.specs.Versions.{FindsApprovedOf, IsApprovedOf, body_shown}
use Rattle.gaz_row_items.specs.Addresses.{Names, SaysFirst, SaysKeys, SaysLeast}
use Rattle.gaz_row_items.specs.Versions.{histories_in, history_in, living, number_in, text_in, view_in}
use Rattle.gaz_kept.specs.Kept.{AreThrough, AreVersions}
use Rattle.gaz_kept.proofs.AtKeys.{held_item, item_held}
use Rattle.gaz_kept.proofs.NewestRows.{same_item}
use Rattle.gaz_kept.proofs.Rising.{approved_is, approved_rise, approved_there, entry_is, rising_same}
use Rattle.gaz_kept.proofs.Views.{IsEntry}
use Rattle.gaz_kept.proofs.RowsRead.{Says, fits, history_of, item_of, item_row, its_custodian, kind_row, read_from, read_in, some_same, whole}

-- ---- an approved address by its cells

status_live : (s : Status) → live_number s ≡ 1 → is_approved s ≡ true
status_live Approved is = refl
status_live Alternative is = absurd (omega (arith, is))
status_live Provisional is = absurd (omega (arith, is))
status_live Historical is = absurd (omega (arith, is))

live_status : (s : Status) → is_approved s ≡ true → live_number s ≡ 1
live_status Approved is = refl
live_status Alternative is = cc
live_status Provisional is = cc
live_status Historical is = cc

by_cells : (uprn : ℕ) (x : Item) → live_of x ≡ 1 → blpu_of x ≡ uprn → (is_approved_of uprn x ≡ true) × (kind_in (key_of x) ≡ kind.Lpi)
by_cells uprn (item.Street x) live blpu = absurd (omega (arith, live))
by_cells uprn (item.Descriptor x) live blpu = absurd (omega (arith, live))
by_cells uprn (item.Blpu x) live blpu = absurd (omega (arith, live))
by_cells uprn (item.Xref x) live blpu = absurd (omega (arith, live))
by_cells uprn (item.Release x) live blpu = absurd (omega (arith, live))
by_cells uprn (item.Adopt x) live blpu = absurd (omega (arith, live))
by_cells uprn (item.Lpi l) live blpu = (and_from (is_approved l.status) (l.uprn == uprn) (status_live l.status live) (eq-eqb l.uprn uprn blpu), refl)

-- what its cells are
record HasCells (uprn : ℕ) (x : Item) : Type 0 where
  kind : number_of (kind_in (key_of x)) ≡ 24
  live : live_of x ≡ 1
  blpu : blpu_of x ≡ uprn

cells_then : (uprn : ℕ) (x : Item) → is_approved_of uprn x ≡ true → HasCells uprn x
cells_then uprn (item.Street x) is = cc
cells_then uprn (item.Descriptor x) is = cc
cells_then uprn (item.Blpu x) is = cc
cells_then uprn (item.Xref x) is = cc
cells_then uprn (item.Release x) is = cc
cells_then uprn (item.Adopt x) is = cc
cells_then uprn (item.Lpi l) is =
    let both = and_parts (is_approved l.status) (l.uprn == uprn) is in
    record { kind = refl; live = live_status l.status both.0; blpu = eqb-true l.uprn uprn both.1 }

module _ (c uprn n : ℕ) (rows answer : List Row) (all : AreVersions rows) (room : n < never) (through : AreThrough n (histories_in rows c)) where
  abbrev last : View
  last = view_in rows c n

  -- the row of an approved address that is current
  record IsAddress (r : Row) : Type 0 where
    says : Says r
    named : key_named kind.Lpi (text_in (table.id_of r)) ≡ Some (key_of says.item)
    there : finite.get last.items (key_of says.item) ≡ Some says.item
    approved : is_approved_of uprn says.item ≡ true

  address_in : (r : Row) → Has rows r → IsApprovedOf c (pos uprn) r → IsAddress r
  address_in r there fit = record { says = s; named = named; there = stands; approved = cells.0 }
    where
      s : Says r
      s = item_of r (kind_row (key.Lpi []) r (all r there) (ap number_in fit.approved.of_kind))

      cells : (is_approved_of uprn s.item ≡ true) × (kind_in (key_of s.item) ≡ kind.Lpi)
      cells = by_cells uprn s.item
          (ap (λ (d : CellsValue). d.links.live) s.cells ∙ ap number_in fit.approved.is_live)
          (ap (λ (d : CellsValue). d.links.blpu) s.cells ∙ ap number_in fit.of_blpu)

      id : id_of (key_of s.item) ≡ text_in (table.id_of r)
      id = ap (λ (d : CellsValue). d.id) s.cells

      named : key_named kind.Lpi (text_in (table.id_of r)) ≡ Some (key_of s.item)
      named = sym (λ i. key_named (cells.1 i) (id i)) ∙ ids_back (key_of s.item) (fits s.item s.known s.entry).key

      h : HistoryRow
      h = living (number_in (table.born_of r)) (number_in (table.gone_of r)) s.item

      h_there : Has (histories_in rows c) h
      h_there = read_in (history_in c) rows r h there (history_of c r s (ap number_in fit.approved.of_cust))

      stands : finite.get last.items (key_of s.item) ≡ Some s.item
      stands =
          let gone : number_in (table.gone_of r) ≡ never = ap number_in fit.approved.is_current in
          held_item (histories_in rows c) through.apart n (key_of s.item) h h_there
          (record { born = (through.until h h_there).born; gone = omega (arith, room, gone) }) refl

  -- an approved address of the view has such a row
  record HasAddress (k : Key) : Type 0 where
    row : Row
    there : Has rows row
    fit : IsApprovedOf c (pos uprn) row
    named : key_named kind.Lpi (text_in (table.id_of row)) ≡ Some k

  row_in : (k : Key) (x : Item) → finite.get last.items k ≡ Some x → is_approved_of uprn x ≡ true → HasAddress k
  unfolding address_in
  row_in k x stands approved = record { row = r.0; there = r.1; fit = fit; named = said.named ∙ ap Some (ap key_of (some_same said.says.item s.item said.says.said s.said) ∙ own) }
    where
      held : IsEntry n (histories_in rows c) k x
      held = item_held (histories_in rows c) through.apart n k x stands

      r : (r : Row) × Has rows r × (history_in c r ≡ Some held.row)
      r = read_from (history_in c) rows held.row held.there

      s : Says r.0
      s = item_of r.0 (item_row c r.0 (all r.0 r.1) held.row r.2)

      cust : number_in (table.cust_of r.0) ≡ c
      cust = its_custodian c r.0 held.row r.2

      same : living (number_in (table.born_of r.0)) (number_in (table.gone_of r.0)) s.item ≡ held.row
      same = some_same _ held.row (history_of c r.0 s cust) r.2

      own : key_of s.item ≡ k
      own = ap (λ (h : HistoryRow). h.key) same ∙ held.key

      item_is : s.item ≡ x
      item_is = ap (λ (h : HistoryRow). h.item) same ∙ held.item

      cells : HasCells uprn s.item
      cells = cells_then uprn s.item (subst (λ y. is_approved_of uprn y ≡ true) (sym item_is) approved)

      current : number_in (table.gone_of r.0) ≡ never
      current = ap (λ (h : HistoryRow). h.gone) same ∙ by_gone (through.until held.row held.there).gone
        where
          by_gone : (held.row.gone ≤ n) ⊎ (held.row.gone ≡ never) → held.row.gone ≡ never
          by_gone (inl le) = let after = held.held.gone in absurd (omega arith)
          by_gone (inr is) = is

      fit : IsApprovedOf c (pos uprn) r.0
      fit =
          let v = item_row c r.0 (all r.0 r.1) held.row r.2 in
          record {
            approved = record {
              of_cust = whole (table.cust_of r.0) c v.cust cust;
              of_kind = whole (table.kind_of r.0) 24 v.kind (ap (λ (d : CellsValue). d.kind) (sym s.cells) ∙ ap number_of (sym (fits s.item s.known s.entry).kind) ∙ cells.kind);
              is_live = whole (table.live_of r.0) 1 v.live (ap (λ (d : CellsValue). d.links.live) (sym s.cells) ∙ cells.live);
              is_current = whole (table.gone_of r.0) never v.gone current;
            };
            of_blpu = whole (table.blpu_of r.0) uprn v.blpu (ap (λ (d : CellsValue). d.links.blpu) (sym s.cells) ∙ cells.blpu);
          }

      said : IsAddress r.0
      said = address_in r.0 r.1 fit

  module _ (found : FindsApprovedOf c (pos uprn) rows answer) where
    -- an answered row is that of an address
    answered : (a : Row) → Has answer a → (r : Row) × Has rows r × IsApprovedOf c (pos uprn) r × (a ≡ body_shown r)
    answered a h =
        let r = has_mapped body_shown found.chosen a (subst (λ l. Has l a) found.shown h) in
        let f = has_filtered found.picks.test rows r.0 (has_permuted _ found.chosen r.0 found.picks.same r.1) in
        (r.0, f.0, found.picks.sound r.0 f.0 f.1, r.2)

    shown : (r : Row) → Has rows r → IsApprovedOf c (pos uprn) r → Has answer (body_shown r)
    shown r there fit =
        let here = permuted_has _ found.chosen r found.picks.same (has_kept found.picks.test rows r there (found.picks.complete r there fit)) in
        subst (λ l. Has l (body_shown r)) (sym found.shown) (mapped_has body_shown found.chosen r here)

    pub approved_told : (keys : List Key) → SaysKeys answer keys → keys ≡ approved_of last uprn
    approved_told keys said = rising_same keys (approved_of last uprn) said.rising (approved_rise last uprn) to from
      where
        to : (q : Key) → Has keys q → Has (approved_of last uprn) q
        to q h =
            let a = said.only q h in
            let r = answered a.0 a.1 in
            let address = address_in r.0 r.1 r.2 in
            let named : Names (body_shown r.0) q = subst (λ b. Names b q) r.3 a.2 in
            let own = some_same (key_of address.says.item) q address.named named in
            subst (λ k. Has (approved_of last uprn) k) own (approved_there last uprn (key_of address.says.item) address.says.item address.there address.approved)

        from : (q : Key) → Has (approved_of last uprn) q → Has keys q
        from q h =
            let x = approved_is last uprn q h in
            let r = row_in q x.0 x.1 x.2 in
            let k = said.named (body_shown r.row) (shown r.row r.there r.fit) in
            let own = some_same k.0 q k.1 r.named in
            subst (λ p. Has keys p) own k.2

    pub address_told : (x : Option Item) → SaysLeast answer x → x ≡ address_of last uprn
    address_told x said = by_rows (filter (λ e. is_approved_of uprn e.1) (entries last)) refl
      where
        keys_are : said.keys ≡ approved_of last uprn
        keys_are = approved_told said.keys said.said

        by_item : (x : Option Item) (e : Key × Item) (l : List Key) → Has (entries last) e → SaysFirst answer (e.0 ∷ l) x → x ≡ Some e.1
        by_item None e l there first = absurd first
        by_item (Some i) e l there first =
            let r = answered first.row first.there in
            let address = address_in r.0 r.1 r.2 in
            let named : Names (body_shown r.0) e.0 = subst (λ b. Names b e.0) r.3 first.named in
            let own = some_same (key_of address.says.item) e.0 address.named named in
            let body : table.body_of r.0 ≡ Text first.item.text = subst (λ b. column b 1 ≡ Text first.item.text) r.3 first.item.there in
            let same = same_item r.0 address.says e.0 own first.item.text i body first.item.body.read in
            let stands : finite.get last.items e.0 ≡ Some address.says.item = subst (λ k. finite.get last.items k ≡ Some address.says.item) own address.there in
            ap Some same ∙ sym stands ∙ entry_is last e.0 e.1 there

        by_rows : (l : List (Key × Item)) → filter (λ e. is_approved_of uprn e.1) (entries last) ≡ l → x ≡ address_of last uprn
        by_rows [] is =
            let none : said.keys ≡ [] = keys_are ∙ ap (map (λ (e : Key × Item). e.0)) is in
            subst (λ l. SaysFirst answer l x) none said.first
            ∙ sym (ap (λ l. option_map (λ (e : Key × Item). e.1) (first_of l)) is)
        by_rows (e ∷ l) is =
            let some : said.keys ≡ e.0 ∷ map (λ (e : Key × Item). e.0) l = keys_are ∙ ap (map (λ (e : Key × Item). e.0)) is in
            let there = (has_filtered (λ (e : Key × Item). is_approved_of uprn e.1) (entries last) e (subst (λ l. Has l e) (sym is) (inl refl))).0 in
            by_item x e (map (λ (e : Key × Item). e.0) l) there (subst (λ l. SaysFirst answer l x) some said.first)
            ∙ sym (ap (λ l. option_map (λ (e : Key × Item). e.1) (first_of l)) is)
