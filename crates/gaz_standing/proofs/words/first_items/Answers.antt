use Rattle.std.proofs.Common.{◌∙◌, ◌+◌, ◌++◌, ◌∷◌, [], ap, arith, drop, length, length-append, List, map}
use Rattle.std.specs.Prelude.{filter}
use Rattle.gaz_records.specs.declared.item.Item.{Item}
use Rattle.gaz_views.specs.Words.{is_of}
use Rattle.gaz_standing.proofs.Ranges.{full, next_ascends, past, steps, told_in, told_out}
use Rattle.gaz_standing.specs.KeyHistories.{rows_at, with_versions}
use Rattle.gaz_standing.proofs.words.first_items.Goals as goal
use Rattle.gaz_standing.proofs.words.first_items.Goals.{in-Some+in_ok-share+in_ok-push, in_default, then-len-most-via-then-len-most, then-len-most-via-else-len-most+then-is_past}

pub returns-then-len-most : goal.returns-then-len-most
returns-then-len-most c =
    let es = c.args.histories.now.entries in
    let ks = c.args.order.now in
    let i = c.loop-key.key-index in
    let k = c.key-item.result in
    let all = map (λ e. e.1) (filter (λ e. is_of c.args.kind e.0) (rows_at (with_versions ks es) c.args.volume)) in
    elim c.then-len-most.branch [
      | then-len-most-via-then-len-most w ↦ full c.args.kind c.args.volume es all c.loop-key.found.items c.args.most (drop i ks) c.loop-key.invariant.told (omega arith)
      | then-len-most-via-else-len-most+then-is_past w ↦
          past c.args.kind c.args.volume es all c.loop-key.found.items c.args.most k (drop i ks) _ (steps ks i k (omega arith) c.key-item.is) c.loop-key.invariant.ascend (cc) c.loop-key.invariant.told c.loop-key.invariant.few
    ]

pub loop-key-preserved : goal.loop-key-preserved
loop-key-preserved c =
    let es = c.args.histories.now.entries in
    let ks = c.args.order.now in
    let i = c.loop-key.key-index in
    let k = c.key-item.result in
    let all = map (λ e. e.1) (filter (λ e. is_of c.args.kind e.0) (rows_at (with_versions ks es) c.args.volume)) in
    let stands = steps ks i k (omega arith) c.key-item.is in
    elim c.match-wanted.branch [
      | in-Some+in_ok-share+in_ok-push w ↦
          let told = told_in c.args.kind c.args.volume es all c.loop-key.found.items k w.in-Some.item.now (drop i ks) _ stands w.in-Some.ensures c.loop-key.invariant.told in
          let pushed = w.in_ok-push.ensures.items ∙ ap (λ (i : Item). c.loop-key.found.items ++ i ∷ []) w.in_ok-share.ensures in
          rw w.found-is (record {
            told = ap (λ (l : List Item). l ++ map (λ e. e.1) (filter (λ e. is_of c.args.kind e.0) (rows_at (with_versions (drop (i + 1) ks) es) c.args.volume))) pushed ∙ told;
            few = omega (arith, ap length w.in_ok-push.ensures.items, length-append c.loop-key.found.items (w.in_ok-share.field-0 ∷ []));
            ascend = next_ascends k (drop i ks) _ stands c.loop-key.invariant.ascend;
          })
      | in_default w ↦ rw w.found-is (record {
        told = told_out c.args.kind c.args.volume es all c.loop-key.found.items k (drop i ks) _ stands w.in_default.ensures c.loop-key.invariant.told;
        few = c.loop-key.invariant.few;
        ascend = next_ascends k (drop i ks) _ stands c.loop-key.invariant.ascend;
      })
    ]
