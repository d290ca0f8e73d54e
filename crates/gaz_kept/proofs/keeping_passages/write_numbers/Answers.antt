use Rattle.std.proofs.Common.{◌≡◌, ◌∙◌, ◌∷◌, ◌++◌, ◌+◌, [], ap, sym, subst, take}
use Rattle.std.specs.Prelude.{ℕ, Ok, Result}
use Rattle.std.proofs.lemmas.List.{take_more}
use Rattle.sqlite.specs.declared.error.Error.{Error}
use Rattle.gaz_overlay.specs.Writings.{passage_at}
use Rattle.gaz_tables.proofs.Steps.{inside_done, inside_then}
use Rattle.gaz_kept.specs.Keeping.{WritesNumber, WritesNumbers, WritesVersions}
use Rattle.gaz_kept.proofs.Writes.{number_more, writes_then}
use Rattle.gaz_kept.proofs.keeping_passages.write_numbers.Goals as goal

pub loop-uprn-preserved : goal.loop-uprn-preserved
loop-uprn-preserved g c =
    let all = c.args.numbers.now in
    let i = c.loop-uprn.uprn-index in
    let k = c.uprn-item.result in
    let keys = take i all in
    let inv = c.loop-uprn.invariant in
    let one = c.in_ok-write_number.ensures in
    let done : Result ℕ Error = Ok 0 in
    let more : take (i + 1) all ≡ keys ++ k ∷ [] = take_more all i k c.loop-uprn-test.true ∙ ap (λ x. keys ++ x ∷ []) (sym c.uprn-item.is) in
    record {
      same = one.same_reference ∙ inv.same;
      inside = inside_done g.S.Store c.args.tx.now.conn.now c.write_number.new.tx.conn.now _ _ (inside_then g.S.Store c.args.tx.now.conn.now c.loop-uprn.tx.conn.now c.write_number.new.tx.conn.now _ _ inv.inside one.inside);
      written = subst (λ l. WritesVersions g.S.Store c.args.tx.now.conn.now c.write_number.new.tx.conn.now done (WritesNumbers c.args.code c.args.volume c.args.changes.now l)) (sym more)
          (writes_then g.S.Store c.args.tx.now.conn.now c.loop-uprn.tx.conn.now c.write_number.new.tx.conn.now _ _ inv.inside one.inside
          (WritesNumbers c.args.code c.args.volume c.args.changes.now keys) (WritesNumber c.args.code c.args.volume k (passage_at c.args.changes.now k)) (WritesNumbers c.args.code c.args.volume c.args.changes.now (keys ++ k ∷ []))
          (number_more c.args.code c.args.volume c.args.changes.now keys k) inv.written one.written);
    }
