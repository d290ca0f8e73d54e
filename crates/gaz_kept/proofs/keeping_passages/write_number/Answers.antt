use Rattle.std.proofs.Common.{◌≡◌, Some, subst}
use Rattle.std.specs.Prelude.{Option}
use Rattle.gaz_overlay.specs.Writings.{passage_at}
use Rattle.gaz_overlay.specs.declared.passage.Passage.{Passage}
use Rattle.gaz_kept.specs.Keeping.{AddsPassage, EndsRow, WritesNumber, WritesPassage, WritesVersions}
use Rattle.gaz_kept.proofs.Writes.{writes_then}
use Rattle.gaz_kept.proofs.keeping_passages.write_number.Goals as goal

pub returns-clause-written : goal.returns-clause-written
returns-clause-written g c =
    let p = c.in-Some.passage in
    let n = c.args.uprn in
    let is : Some p ≡ passage_at c.args.changes.now n = c.in-Some.ensures in
    subst (λ (x : Option Passage). WritesVersions g.S.Store c.args.tx.now.conn.now c.add_passage.new.tx.conn.now c.add_passage.result (WritesNumber c.args.code c.args.volume n x)) is
    (writes_then g.S.Store c.args.tx.now.conn.now c.end_row.new.tx.conn.now c.add_passage.new.tx.conn.now _ c.add_passage.result c.in_ok-end_row.ensures.inside c.add_passage.ensures.inside
    (EndsRow c.args.code c.args.volume n p.closes) (AddsPassage c.args.code c.args.volume n p.custody) (WritesPassage c.args.code c.args.volume n p)
    (λ old mid new ends adds. record { between = mid; ends = ends; adds = adds }) c.in_ok-end_row.ensures.ended c.add_passage.ensures.added)
