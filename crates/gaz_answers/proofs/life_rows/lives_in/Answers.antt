use Rattle.std.proofs.Common.{◌≡◌, ◌∙◌, ◌+◌, ◌++◌, [], ◌∷◌, ap, rules, subst, sym, take, true}
use Rattle.std.specs.Prelude.{All, if◌then◌else◌}
use Rattle.gaz_records.specs.Items.{is_entry}
use Rattle.gaz_answers.specs.Lives.{SayLives, ShowsVersion}
use Rattle.gaz_answers.proofs.LifeRows.{all_next, passed_next, said_next}
use Rattle.gaz_answers.proofs.life_rows.lives_in.Goals.{then-branch+in_ok-life+else-is_err, else-branch}
use Rattle.gaz_row_items.specs.declared.fault.RowFault.TheVariants.{Memory}
use Rattle.gaz_row_items.proofs.Told.{each_at}
use Rattle.gaz_answers.proofs.VersionRows.{has_body, has_kind}
use Rattle.gaz_answers.proofs.life_rows.lives_in.Goals as goal

pub loop-row-preserved : goal.loop-row-preserved
loop-row-preserved c =
    let lives = c.loop-row.lives.items in
    let rows = c.args.rows.now in
    let row = c.row-item.result in
    let i = c.loop-row.row-index in
    let inside = c.loop-row-test.true in
    elim c.if-branch.branch [
      | then-branch+in_ok-life+else-is_err w ↦
          let life = w.in_ok-life.life in
          let pushed : c.if-branch.lives.items ≡ lives ++ life ∷ [] = ap (λ v. v.items) w.lives-is ∙ w.push.ensures.items ∙ ap (λ b. if b then lives ++ life ∷ [] else lives) w.if-is_err.ensures.negation in
          let next = w.in_ok-life.ensures in
          record {
            said = subst (SayLives (take (i + 1) rows)) (sym pushed) (said_next rows i row life lives inside c.row-item.is (sym c.in_ok-is_items.ensures.said ∙ w.if-branch.true) next.said c.loop-row.invariant.said);
            entries = subst (All (λ l. is_entry l.item ≡ true)) (sym pushed) (all_next (λ l. is_entry l.item ≡ true) lives life c.loop-row.invariant.entries next.entry);
          }
      | else-branch w ↦
          let same : c.if-branch.lives.items ≡ lives = ap (λ v. v.items) w.lives-is in
          record {
            said = subst (SayLives (take (i + 1) rows)) (sym same) (passed_next rows i row lives inside c.row-item.is (sym c.in_ok-is_items.ensures.said ∙ w.if-branch.false) c.loop-row.invariant.said);
            entries = subst (All (λ l. is_entry l.item ≡ true)) (sym same) c.loop-row.invariant.entries;
          }
    ]

pub returns-in_err-lines-clause-told : goal.returns-in_err-lines-clause-told
returns-in_err-lines-clause-told c = λ each.
    let why : c.in_err-lines.field-0.0 ≡ Memory = c.in_err-lines.ensures (λ r there. has_body r (each r there)) in
    search rules

pub returns-in_err-is_items-clause-told : goal.returns-in_err-is_items-clause-told
returns-in_err-is_items-clause-told c = λ each.
    absurd (c.in_err-is_items.ensures.told (has_kind c.row-item.result (each_at ShowsVersion c.args.rows.now c.loop-row.row-index c.row-item.result each c.loop-row-test.true c.row-item.is)))

pub returns-in_err-life-clause-told : goal.returns-in_err-life-clause-told
returns-in_err-life-clause-told c = λ each.
    let shown = each_at ShowsVersion c.args.rows.now c.loop-row.row-index c.row-item.result each c.loop-row-test.true c.row-item.is in
    let why : c.in_err-life.field-0.0 ≡ Memory = c.in_err-life.ensures.told (shown, sym c.in_ok-is_items.ensures.said ∙ c.if-branch.true) in
    search rules
