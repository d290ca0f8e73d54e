-- The least rule that the next change breaks is the first fault.
use Rattle.std.proofs.Common.{◌≡◌, ◌+◌, ◌∙◌, true, ◌∷◌, drop, ap, sym, subst, arith}
use Rattle.std.proofs.lemmas.List.{drop_more}
use Rattle.std.specs.Prelude.{Some}
use Rattle.std.specs.List.{cons_option}
use Rattle.gaz_keeper.proofs.Keeping.{still_open}
use Rattle.gaz_keeper.specs.Keeper.{Open, after_abandon}
use Rattle.gaz_register.specs.Registers.{blocks_of}
use Rattle.gaz_end_rules.specs.Bases.{are_reached, basis_views}
use Rattle.gaz_rules.specs.Judging.{fault_at, record_faults}
use Rattle.gaz_views.specs.Words.{first_of}
use Rattle.gaz_rules.specs.Rules.{effect, record_rules}
use Rattle.gaz_changefile.specs.Rules.{first_broken}
use Rattle.gaz_rules.proofs.judging.record_phase.Goals as goal

pub returns-in-Some : goal.returns-in-Some
returns-in-Some g c =
    let was = g.K.Shelf.seen c.args.keeper.now in
    let now = g.K.Shelf.seen c.loop-change.keeper in
    let next = g.K.Shelf.seen c.breach.new.keeper in
    let inv = c.loop-change.invariant in
    let told = rw c.in-Some.is at c.in_ok-rule.ensures in
    let code = c.args.code in
    let own = blocks_of c.args.register.now code in
    let all = c.args.changes.now in
    let bases = c.args.bases.now in
    let i = c.loop-change.change-index in
    let ch = c.change-item.result in
    let rest = drop (i + 1) all in
    let v = now.content.working in
    let faults = record_faults code own (basis_views was.content.board bases) in
    let now_open : next.progress ≡ Open code = still_open now next code told.keeps inv.open_for in
    let step : faults v (drop i all) ≡ faults v (ch ∷ rest) = ap (faults v) (drop_more all i ch c.loop-change-test.true) ∙ ap (λ x. faults v (x ∷ rest)) (sym c.change-item.is) in
    record {
      harm = λ fine. inv.harm (told.keeps.harm fine);
      stands = λ stood fine. told.keeps.stands (inv.stands stood (told.keeps.harm fine)) fine;
      right = λ stood fine reached.
          let mid = told.keeps.harm fine in
          let is = subst (λ b. are_reached b bases ≡ true → Some c.in-Some.rule ≡ first_broken (record_rules code own (basis_views b bases) v ch.action ch.item))
          (inv.board stood mid) (told.right (inv.stands stood mid) fine) reached in
          record {
            first = ap first_of (sym (inv.faults stood mid reached) ∙ step ∙ ap (λ q. cons_option (fault_at ch.place q) (faults (effect v ch) rest)) (sym is));
            view = tt;
          };
      stay = λ stood fine.
          let mid = told.keeps.harm fine in
          ap after_abandon (told.keeps.content (inv.stands stood mid) fine) ∙ inv.stay stood mid;
      on = now_open ∙ sym c.requires;
      going = λ e. cc;
      counts = record { kept = let a = inv.counted in let b = told.counts.kept in omega arith; store = tt; trust = λ t. inv.trust (told.counts.trust t) };
      leaves = λ sound k left. inv.leaves sound k (told.keeps.leaves (λ fine. inv.stands (sound (inv.harm fine)) fine) k left);
      whole = λ sound all_whole. told.keeps.whole (λ fine. inv.stands (sound (inv.harm fine)) fine) (inv.whole sound all_whole);
    }
