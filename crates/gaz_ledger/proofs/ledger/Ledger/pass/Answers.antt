-- The number is passed on, or what became of it before is put back.
use Rattle.std.proofs.Common.{rules, ◌≡◌, ◌+◌, ℕ, length, subst, sym}
use Rattle.std.specs.Prelude.{Some}
use Rattle.gaz_records.specs.declared.key.Key.TheVariants.{Blpu}
use Rattle.gaz_ledger.proofs.Becoming.{passing_more, passing_set}
use Rattle.gaz_ledger.proofs.Closings.{ledger_changed}
use Rattle.gaz_ledger.proofs.Lives.{ledger_kept}
use Rattle.gaz_ledger.proofs.Passes.{account_passed, account_unpassed, begins_passed, ledger_touched, when_ok}
use Rattle.gaz_ledger.proofs.TiesKept.{ties_changed}
use Rattle.gaz_ledger.specs.Custodies.{Custodies, IsPassing, PassesAt}
use Rattle.gaz_ledger.proofs.ledger.Ledger.pass.Goals as goal

pub invariant_of-self-in_err-set : goal.invariant_of-self-in_err-set
invariant_of-self-in_err-set c =
    let n = length c.self.inside.verdicts.items in
    let more = passing_more n c.self.inside.custodies c.self.inside.passed.items c.touch_number.new.passed.items c.args.uprn c.in_ok-touch_number.ensures.ok c.self.invariant.1 in (
      ledger_touched n c.self.inside.histories c.self.inside.index c.self.inside.touched.items c.touch.new.touched.items (Blpu c.args.uprn) c.in_ok-touch.ensures.ok c.self.invariant.0,
      subst (λ (d : Custodies). IsPassing n d c.touch_number.new.passed.items) (sym c.in_err-set.ensures.err) more,
      c.self.invariant.2,
    )

pub invariant_of-self-in-Ok : goal.invariant_of-self-in-Ok
invariant_of-self-in-Ok c =
    let n = length c.self.inside.verdicts.items in
    let reach : c.len-reached.result ≡ n = search rules in
    let before = c.self.inside.custodies in
    let passed = subst (λ (m : ℕ). PassesAt before c.set.new.self (m + 1) c.args.uprn (Some c.args.custody)) reach c.in_ok-set.ensures.ok in
    let more = passing_more n before c.self.inside.passed.items c.touch_number.new.passed.items c.args.uprn c.in_ok-touch_number.ensures.ok c.self.invariant.1 in (
      ledger_changed c.self.inside.verdicts.items c.self.inside.histories c.change.new.histories before (Blpu c.args.uprn) c.args.item c.len-reached.result reach c.in-Ok.ensures.ok
          c.self.inside.index c.change.new.index c.self.inside.touched.items c.touch.new.touched.items c.self.invariant.0 c.in-Ok.ensures.finds c.in_ok-touch.ensures.ok,
      passing_set n before c.set.new.self c.self.inside.passed.items c.touch_number.new.passed.items c.args.uprn (Some c.args.custody) c.in_ok-touch_number.ensures.ok more passed,
      ties_changed n c.len-reached.result c.self.inside.ties c.change.new.ties c.self.inside.histories c.change.new.histories reach c.in-Ok.ensures.ties c.self.invariant.2,
    )

pub invariant_of-self-in-Err : goal.invariant_of-self-in-Err
invariant_of-self-in-Err c =
    let n = length c.self.inside.verdicts.items in
    let reach : c.len-reached.result ≡ n = search rules in
    let before = c.self.inside.custodies in
    let now = c.set.new.self in
    let after = c.set-in-Err.new.self in
    let ks = c.self.inside.passed.items in
    let ls = c.touch_number.new.passed.items in
    let first = subst (λ (m : ℕ). PassesAt before now (m + 1) c.args.uprn (Some c.args.custody)) reach c.in_ok-set.ensures.ok in
    let again = c.set-in-Err.ensures.again (begins_passed before now (c.len-reached.result + 1) c.args.uprn (Some c.args.custody) c.in_ok-set.ensures.ok) in
    let second = subst (λ (m : ℕ). PassesAt now after (m + 1) c.args.uprn c.custody-was.result) reach (when_ok c.set-in-Err.result again c.set-in-Err.ensures.ok) in
    let more = passing_more n before ks ls c.args.uprn c.in_ok-touch_number.ensures.ok c.self.invariant.1 in (
      ledger_kept n c.len-reached.result c.self.inside.histories c.change.new.histories c.self.inside.index c.change.new.index c.touch.new.touched.items reach c.in-Err.ensures.err
          (ledger_touched n c.self.inside.histories c.self.inside.index c.self.inside.touched.items c.touch.new.touched.items (Blpu c.args.uprn) c.in_ok-touch.ensures.ok c.self.invariant.0) c.in-Err.ensures.finds,
      passing_set n now after ks ls c.args.uprn c.custody-was.result c.in_ok-touch_number.ensures.ok (passing_set n before now ks ls c.args.uprn (Some c.args.custody) c.in_ok-touch_number.ensures.ok more first) second,
      ties_changed n c.len-reached.result c.self.inside.ties c.change.new.ties c.self.inside.histories c.change.new.histories reach c.in-Err.ensures.ties c.self.invariant.2,
    )

pub returns-in-Ok-clause-ok : goal.returns-in-Ok-clause-ok
returns-in-Ok-clause-ok c =
    let reach : c.len-reached.result ≡ length c.self.inside.verdicts.items = search rules in
    account_passed c.self.inside.verdicts.items c.self.inside.histories c.change.new.histories c.self.inside.custodies c.set.new.self c.args.uprn c.args.custody c.args.item c.len-reached.result reach c.in-Ok.ensures.ok c.in_ok-set.ensures.ok c.args.self.now c.self.view_is

pub returns-in-Err-clause-err : goal.returns-in-Err-clause-err
returns-in-Err-clause-err c =
    let reach : c.len-reached.result ≡ length c.self.inside.verdicts.items = search rules in
    let again = c.set-in-Err.ensures.again (begins_passed c.self.inside.custodies c.set.new.self (c.len-reached.result + 1) c.args.uprn (Some c.args.custody) c.in_ok-set.ensures.ok) in
    account_unpassed c.self.inside.verdicts.items c.self.inside.histories c.change.new.histories c.self.inside.custodies c.set.new.self c.set-in-Err.new.self c.args.self.now c.args.uprn c.len-reached.result (Some c.args.custody) c.custody-was.result reach c.self.view_is
    c.in-Err.ensures.err c.in_ok-set.ensures.ok (when_ok c.set-in-Err.result again c.set-in-Err.ensures.ok) c.custody-was.ensures
