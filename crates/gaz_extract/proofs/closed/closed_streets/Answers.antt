use Rattle.std.proofs.Common.{◌≡◌, ◌≤◌, ◌<◌, ◌∙◌, ap, subst, ◌++◌, List, length, get_or, arith}
use Rattle.gaz_keeper.specs.Keeper.{Content}
use Rattle.gaz_keeper.proofs.Keeping.{keeps_then}
use Rattle.gaz_register.specs.Registers.{CustodianValue}
use Rattle.gaz_extract.specs.Closing.{closed_of}
use Rattle.gaz_extract.proofs.Lists.{told_all, told_next}
use Rattle.gaz_extract.proofs.closed.closed_streets.Goals as goal

pub loop-custodian-preserved : goal.loop-custodian-preserved
loop-custodian-preserved g c =
    let so_far = c.loop-custodian.invariant in
    let more = c.in_ok-add_custodian.ensures.tells in
    let register = c.args.register.now in
    let B = (g.K.Shelf.seen c.args.keeper.now).content.board in
    let i = c.loop-custodian.custodian-index in
    let custodian = c.custodian-item.result in
    let old = c.loop-custodian.walk.closed.items in
    let new = c.add_custodian.new.walk.closed.items in
    let all = c.custodians-custodian-items.ensures.value in
    record {
      keeps = keeps_then _ _ _ so_far.keeps more.keeps;
      not_open = c.in_ok-add_custodian.ensures.not_open;
      counted = (let one = so_far.counted in let two = more.counts.kept in omega arith);
      trust = λ t. so_far.trust (more.counts.trust t);
      left = λ stood fine.
          let mid = more.keeps.harm fine in
          let told = subst (λ (k : Content). new ≡ old ++ closed_of k.board register c.code.result)
          (so_far.keeps.content stood mid) (more.right (so_far.keeps.stands stood mid) fine) in
          let named = told ∙ ap (λ n. old ++ closed_of B register n) c.code.ensures in
          let short = subst (λ (xs : List CustodianValue). i < length xs) all c.loop-custodian-test.true in
          let there = subst (λ (xs : List CustodianValue). custodian ≡ get_or xs i custodian) all c.custodian-item.is in
          told_next (λ (x : CustodianValue). closed_of B register x.code) old new _ register i custodian short there named (so_far.left stood mid);
    }

pub returns : goal.returns
returns g c =
    let so_far = c.loop-custodian.invariant in
    let register = c.args.register.now in
    let B = (g.K.Shelf.seen c.args.keeper.now).content.board in
    let past = subst (λ (xs : List CustodianValue). length xs ≤ c.loop-custodian.custodian-index) c.custodians-custodian-items.ensures.value c.loop-custodian-test.false in
    record {
      keeps = so_far.keeps;
      right = λ stood fine. told_all (λ (x : CustodianValue). closed_of B register x.code) c.loop-custodian.walk.closed.items _ register c.loop-custodian.custodian-index past (so_far.left stood fine);
      counts = record { kept = so_far.counted; store = tt; trust = so_far.trust };
    }
