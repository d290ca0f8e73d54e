use Rattle.std.proofs.Common.{◌≡◌, arith, pos, refl, w64}
use Rattle.std.proofs.lemmas.Int.{ints}
use mir.Val.{to_z}
use Rattle.gaz_tables.specs.Schema.{version2}
use Rattle.gaz_tables.specs.Versions.{FindsApprovedOf}
use Rattle.gaz_tables.specs.Tables.{rows_of}
use Rattle.gaz_calls.proofs.Composing.{query_asks}
use Rattle.gaz_calls.proofs.tables.Tables.approved_rows.Goals as goal

pub returns : goal.returns
returns g c =
    let blpu : to_z w64 c.number.result ≡ pos c.args.uprn = omega (arith, ints, c.number.ensures.value, c.number.ensures.range) in
    query_asks _ _ _ _ _ _ _ (λ db rows. FindsApprovedOf c.args.code (pos c.args.uprn) (rows_of db version2) rows.items)
    c.ready.ensures.asks c.in_ok-ready.ensures.ready
    (rw (c.number-cust.ensures.value, blpu) at c.approved_of-found.ensures.asked.found) c.approved_of-found.ensures.asked.stays c.approved_of-found.ensures.asked.spared c.approved_of-found.ensures.asked.reason c.approved_of-found.ensures.asked.leaves
    refl refl c.told.ensures.tells
