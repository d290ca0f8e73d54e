use Rattle.std.proofs.Common.{◌≡◌, ◌≤◌, ◌∙◌, IfOk, ℕ, arith, subst}
use Rattle.gaz_tables.specs.Schema.{received, version2}
use Rattle.gaz_tables.specs.Tables.{rows_of}
use Rattle.gaz_views.specs.View.{custody_at}
use Rattle.gaz_row_items.specs.NewestPassages.{custody_of}
use Rattle.gaz_row_items.specs.Versions.{view_in}
use Rattle.gaz_kept.specs.Files.{reached_in}
use Rattle.gaz_calls.proofs.Composing.{answered}
use Rattle.gaz_kept.proofs.Reached.{reached_most}
use Rattle.gaz_calls.proofs.tables.Tables.custody_at.Goals as goal

pub returns : goal.returns
returns g c =
    answered _ _ _ _ _ _ c.passed_until.ensures (λ db kept found reached.
    let most = reached_most (rows_of db received) kept.files c.args.code (kept.first c.args.code) in
    let within : c.args.volume ≤ 999_999 = omega (arith, most, reached) in
    let same : c.capped.result ≡ c.args.volume = c.capped.ensures.within within in
    c.custody_of.ensures ∙ subst (λ (v : ℕ). v ≤ reached_in (rows_of db received) c.args.code → custody_of c.in_ok-passed.passed ≡ custody_at (view_in (rows_of db version2) c.args.code v) c.args.uprn) same
    (subst (λ r. IfOk r (λ passed. c.capped.result ≤ reached_in (rows_of db received) c.args.code → custody_of passed ≡ custody_at (view_in (rows_of db version2) c.args.code c.capped.result) c.args.uprn)) c.in_ok-passed.was found) reached)
