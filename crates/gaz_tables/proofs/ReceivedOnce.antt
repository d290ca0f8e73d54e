-- No volume of one `cust` is received twice.
use Rattle.std.proofs.Common.{◌≡◌, ℕ, ℤ, List, [], ◌∷◌, Result, IfOk, Vec, true, refl, sym, ap, ◌∙◌}
use Rattle.std.specs.declared.alloc.Global.{Global}
use Rattle.std.proofs.lemmas.Bool.{and_from, eq-eqb}
use Rattle.std.proofs.lemmas.Map.Lookups.{exact_signed}
use Rattle.sqlite_catalog.specs.Listing.{automatic}
use Rattle.sqlite_rules.specs.Lists.{Has}
use Rattle.sqlite_schema.specs.Rules.{agree}
use Rattle.sqlite_value.specs.Keys.{first_key}
use Rattle.sqlite_value.proofs.OrderLemmas.{value_cmp-Int}
use Rattle.sqlite.specs.declared.error.Error.{Error}
use Rattle.sqlite.specs.declared.types.Value.TheVariants.{Int}
use Rattle.sqlite.specs.Effect.{Database}
use Rattle.sqlite.specs.Order.{Row}
use Rattle.gaz_tables.specs.Shows.{ShowsAll, ShowsPage}
use Rattle.gaz_sql_facts.proofs.Equal.{same_int}
use Rattle.gaz_sql_facts.proofs.Sound.{guard_of}
use Rattle.gaz_tables.proofs.Standing.{listed, stands, table}
use Rattle.gaz_tables.proofs.Shown.{answered}
use Rattle.gaz_tables.proofs.Unique.{one_row, page_rises, at_most_one}
use Rattle.gaz_tables.specs.Laws.{ReceivedOnce}
use Rattle.gaz_tables.specs.Receiveds.{AtMostOne, FindsAbove, IsAbove, IsVolume, cust_of, volume_of, volume_place, volume_shown}
use Rattle.gaz_tables.specs.Schema.{received, of_volumes}
use Rattle.gaz_tables.specs.Stores.{HasTables}
use Rattle.gaz_tables.specs.Tables.{rows_of, tree_of}

agreed : (r s : Row) (c v : ℤ) → cust_of r ≡ Int c → cust_of s ≡ Int c → volume_of r ≡ Int v → volume_of s ≡ Int v → agree of_volumes.order of_volumes.columns s of_volumes.columns r ≡ true
unfolding first_key
agreed r s c v cr cs vr vs = rw (cr, vr) (and_from _ _ (same_int (cust_of s) c cs) (and_from _ _ (same_int (volume_of s) v vs) refl))

module _ (db : Database) (has : HasTables db) where
  pub once : (r s : Row) → Has (rows_of db received) r → Has (rows_of db received) s → (c v : ℤ) → cust_of r ≡ Int c → cust_of s ≡ Int c → volume_of r ≡ Int v → volume_of s ≡ Int v → s ≡ r
  once r s there here c v cr cs vr vs =
      let t = has.there.receiveds in
      let index = guard_of db t.place (table received db.schema t) 0 (1 ∷ 2 ∷ []) has.sound (stands received db.schema t).listed refl in
      one_row db has.sound (table received db.schema t) (automatic (table received db.schema t) 0 (1 ∷ 2 ∷ []) index.0) (listed received db.schema t) index.1 (eq-eqb (tree_of received db.schema) _ refl)
      has.receiveds_shaped r s there here (agreed r s c v cr cs vr vs)

  pub volume_alone : (cust volume : ℕ) (show : Row → Row) (r : Result (Vec Row Global) Error) → IfOk r (λ rows. ShowsAll (IsVolume cust volume) show (rows_of db received) rows.items) → IfOk r (λ rows. AtMostOne (rows_of db received) rows.items)
  volume_alone cust volume show r h = answered r (λ answer it. at_most_one (IsVolume cust volume) (rows_of db received) has.receiveds_shaped show answer
      (λ r s there here fr fs. once s r here there _ _ fs.of_cust fr.of_cust fs.of_volume fr.of_volume) it) h

  pub above_rises : (cust volume most : ℕ) (answer : List Row) → ShowsPage (IsAbove cust volume) volume_place most volume_shown (rows_of db received) answer → FindsAbove cust volume most (rows_of db received) answer
  above_rises cust volume most answer h = record {
    page = h;
    strict = page_rises (IsAbove cust volume) (rows_of db received) has.receiveds_shaped volume_place most volume_shown answer (λ r s there here fr fs tie.
        let m = fr.above.1 in
        let n = fs.above.1 in
        let same : fr.above.0 ≡ fs.above.0 = exact_signed fr.above.0 fs.above.0 (sym (value_cmp-Int fr.above.0 fs.above.0) ∙ (rw (m, n) at tie)) in
        once s r here there _ fr.above.0 fs.of_cust fr.of_cust (n ∙ ap Int (sym same)) m) h;
  }

pub received_once : ReceivedOnce
received_once db cust volume r s has there here fr fs = once db has r s there here _ _ fr.of_cust fs.of_cust fr.of_volume fs.of_volume
