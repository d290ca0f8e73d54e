use Rattle.std.proofs.Common.{◌+◌, arith, drop}
use Rattle.std.proofs.lemmas.List.{drop_all}
use Rattle.gaz_standing.proofs.Ranges.{steps}
use Rattle.gaz_standing.proofs.TieFacts.{left_next, left_none}
use Rattle.gaz_standing.proofs.histories.Histories.tied_keys.Goals as goal

pub loop-key-preserved : goal.loop-key-preserved
loop-key-preserved c =
    let ks = c.as_slice-key-items.result.now in
    let i = c.loop-key.key-index in
    left_next c.loop-key.keys c.add_named.new.keys c.args.self.now c.args.volume c.key-item.result ks (drop i ks) (drop (i + 1) ks) (steps ks i c.key-item.result (omega arith) c.key-item.is)
    c.in_ok-add_named.ensures.kept c.in_ok-add_named.ensures.first c.in_ok-add_named.ensures.next c.loop-key.invariant

pub returns-clause-first : goal.returns-clause-first
returns-clause-first c =
    let ks = c.as_slice-key-items.result.now in
    let i = c.loop-key.key-index in
    λ k. (left_none c.loop-key.keys c.args.self.now c.args.volume ks (drop i ks) c.self.inside.by_key.entries c.self.view_is (rw c.as_slice-key-items.ensures c.self.invariant) (drop_all i ks (omega arith)) c.loop-key.invariant k).0

pub returns-clause-next : goal.returns-clause-next
returns-clause-next c =
    let ks = c.as_slice-key-items.result.now in
    let i = c.loop-key.key-index in
    λ k. (left_none c.loop-key.keys c.args.self.now c.args.volume ks (drop i ks) c.self.inside.by_key.entries c.self.view_is (rw c.as_slice-key-items.ensures c.self.invariant) (drop_all i ks (omega arith)) c.loop-key.invariant k).1
