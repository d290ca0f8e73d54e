use Rattle.std.proofs.Common.{◌≡◌, ◌∙◌, subst}
use Rattle.std.specs.Prelude.{nat_le}
use Rattle.gaz_keeper.specs.Board.{verdict_on}
use Rattle.gaz_tables.specs.Schema.{received}
use Rattle.gaz_tables.specs.Tables.{rows_of}
use Rattle.gaz_kept.specs.Contents.{board_of}
use Rattle.gaz_kept.specs.Files.{reached_in}
use Rattle.gaz_calls.proofs.Answered.{answered_ok}
use Rattle.gaz_calls.proofs.Numbering.{numbered}
use Rattle.gaz_calls.proofs.Waiting.{judged_upto}
use Rattle.gaz_calls.proofs.tables.Tables.is_judged.Goals as goal

pub returns : goal.returns
returns g c =
    answered_ok _ _ c.verdict.result c.in_ok-verdict.verdict c.is_some.result _ (λ db b. b ≡ nat_le c.args.volume (reached_in (rows_of db received) c.args.code)) c.verdict.ensures c.in_ok-verdict.was (λ db kept is.
    c.is_some.ensures ∙ judged_upto db c.args.code c.args.volume c.in_ok-verdict.verdict c.requires.0
    (subst (λ v. c.in_ok-verdict.verdict ≡ verdict_on (board_of db) c.args.code v) (numbered 1 999_999 c.args.volume c.in-Some.volume c.in-Some.ensures) is))
