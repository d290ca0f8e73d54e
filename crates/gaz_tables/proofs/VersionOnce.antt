-- No two rows of one key are born in one volume.
use Rattle.std.proofs.Common.{◌≡◌, ℕ, ℤ, pos, List, [], ◌∷◌, true, refl}
use Rattle.std.proofs.lemmas.Bool.{and_from, eq-eqb}
use Rattle.sqlite_catalog.specs.Listing.{automatic}
use Rattle.sqlite_schema.specs.Rules.{agree}
use Rattle.sqlite_value.specs.Keys.{first_key}
use Rattle.sqlite.specs.declared.types.Value.TheVariants.{Int, Text}
use Rattle.sqlite.specs.Order.{Row}
use Rattle.gaz_sql_facts.proofs.Equal.{same_int, same_text}
use Rattle.gaz_sql_facts.proofs.Sound.{guard_of}
use Rattle.gaz_tables.proofs.Standing.{listed, stands, table}
use Rattle.gaz_tables.proofs.Unique.{one_row}
use Rattle.gaz_tables.specs.Laws.{BornOnce}
use Rattle.gaz_tables.specs.Schema.{version2, of_keys2}
use Rattle.gaz_tables.specs.Tables.{tree_of}
use Rattle.gaz_tables.specs.Versions.{born_of, cust_of, id_of, kind_of}

agreed : (r s : Row) (cust kind born : ℤ) (id : List ℕ)
    → cust_of r ≡ Int cust → kind_of r ≡ Int kind → id_of r ≡ Text id → born_of r ≡ Int born
    → cust_of s ≡ Int cust → kind_of s ≡ Int kind → id_of s ≡ Text id → born_of s ≡ Int born
    → agree of_keys2.order of_keys2.columns s of_keys2.columns r ≡ true
unfolding first_key
agreed r s cust kind born id cr kr ir br cs ks is bs =
    rw (cr, kr, ir, br) (and_from _ _ (same_int (cust_of s) cust cs) (and_from _ _ (same_int (kind_of s) kind ks)
    (and_from _ _ (same_text (id_of s) id is) (and_from _ _ (same_int (born_of s) born bs) refl))))

pub born_once : BornOnce
born_once db cust kind id born r s has there here fr fs =
    let t = has.there.versions in
    let index = guard_of db t.place (table version2 db.schema t) 0 (1 ∷ 2 ∷ 3 ∷ 8 ∷ []) has.sound (stands version2 db.schema t).listed refl in
    one_row db has.sound (table version2 db.schema t) (automatic (table version2 db.schema t) 0 (1 ∷ 2 ∷ 3 ∷ 8 ∷ []) index.0) (listed version2 db.schema t) index.1 (eq-eqb (tree_of version2 db.schema) _ refl)
    has.versions_shaped r s there here (agreed r s (pos cust) (pos kind) (pos born) id
    fr.of_key.of_cust fr.of_key.of_kind fr.of_key.of_id fr.of_born fs.of_key.of_cust fs.of_key.of_kind fs.of_key.of_id fs.of_born)
