use Rattle.std.proofs.Common.{◌≡◌, ◌≤◌, ℕ, subst, arith}
use Rattle.gaz_keeper.specs.Board.{reached, view_after}
use Rattle.gaz_keeper.specs.Keeper.{Content}
use Rattle.gaz_keeper.proofs.Keeping.{keeps_then}
use Rattle.gaz_extract.specs.Drafts.{by_kind, with_items}
use Rattle.gaz_extract.proofs.Ends.{extract_is}
use Rattle.gaz_extract.proofs.extracts.extract.Goals as goal

pub returns : goal.returns
returns g c =
    let first = c.in_ok-reached.ensures in
    let second = c.in_ok-draft-2.ensures.tells in
    let B = (g.K.Shelf.seen c.args.keeper.now).content.board in
    let code = c.args.code in
    let volume = c.args.volume in
    let d1 = c.in_ok-draft.draft in
    let d2 = c.in_ok-draft-2.draft in
    record {
      keeps = keeps_then _ _ _ first.keeps second.keeps;
      right = λ stood fine.
          let mid = second.keeps.harm fine in
          let count = first.right stood mid in
          let within : volume ≤ reached B code = let asked = c.number.ensures.value in let short = c.if-branch-number.false in omega arith in
          let then = subst (λ (k : Content). c.number-2.result ≤ reached k.board code → d2 ≡ with_items d1 (by_kind (view_after k.board code c.number-2.result)))
          (first.keeps.content stood mid) (second.right (first.keeps.stands stood mid) fine) in
          let here = subst (λ (n : ℕ). n ≤ reached B code → d2 ≡ with_items d1 (by_kind (view_after B code n))) c.number-2.ensures.value then in
          extract_is B code volume d1 d2 c.in_ok-text.text.items within c.in_ok-draft.ensures (here within) c.in_ok-text.ensures;
      counts = record { kept = (let one = first.counts.kept in let two = second.counts.kept in omega arith); store = tt; trust = λ t. first.counts.trust (second.counts.trust t) };
    }
