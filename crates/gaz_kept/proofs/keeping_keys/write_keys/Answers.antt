use Rattle.std.proofs.Common.{◌≡◌, ◌∙◌, ◌∷◌, ◌++◌, ◌+◌, [], ap, sym, subst, take}
use Rattle.std.specs.Prelude.{ℕ, Ok, Result}
use Rattle.std.proofs.lemmas.List.{take_more}
use Rattle.sqlite.specs.declared.error.Error.{Error}
use Rattle.gaz_overlay.specs.Writings.{writing_at}
use Rattle.gaz_tables.proofs.Steps.{inside_done, inside_then}
use Rattle.gaz_kept.specs.Keeping.{WritesKey, WritesKeys, WritesVersions}
use Rattle.gaz_kept.proofs.Writes.{one_more, writes_then}
use Rattle.gaz_kept.proofs.keeping_keys.write_keys.Goals as goal

pub loop-key-preserved : goal.loop-key-preserved
loop-key-preserved g c =
    let all = c.args.keys.now in
    let i = c.loop-key.key-index in
    let k = c.key-item.result in
    let keys = take i all in
    let inv = c.loop-key.invariant in
    let one = c.in_ok-write_key.ensures in
    let done : Result ℕ Error = Ok 0 in
    let more : take (i + 1) all ≡ keys ++ k ∷ [] = take_more all i k c.loop-key-test.true ∙ ap (λ x. keys ++ x ∷ []) (sym c.key-item.is) in
    record {
      same = one.same_reference ∙ inv.same;
      inside = inside_done g.S.Store c.args.tx.now.conn.now c.write_key.new.tx.conn.now _ _ (inside_then g.S.Store c.args.tx.now.conn.now c.loop-key.tx.conn.now c.write_key.new.tx.conn.now _ _ inv.inside one.inside);
      written = subst (λ l. WritesVersions g.S.Store c.args.tx.now.conn.now c.write_key.new.tx.conn.now done (WritesKeys c.args.code c.args.volume c.args.changes.now l)) (sym more)
          (writes_then g.S.Store c.args.tx.now.conn.now c.loop-key.tx.conn.now c.write_key.new.tx.conn.now _ _ inv.inside one.inside
          (WritesKeys c.args.code c.args.volume c.args.changes.now keys) (WritesKey c.args.code c.args.volume k (writing_at c.args.changes.now k)) (WritesKeys c.args.code c.args.volume c.args.changes.now (keys ++ k ∷ []))
          (one_more c.args.code c.args.volume c.args.changes.now keys k) inv.written one.written);
    }
