use Rattle.std.proofs.Common.{◌≡◌, ◌-◌, ◌∙◌, [], length, ap, eqb-true, rules, subst, sym, w64}
use Rattle.std.proofs.lemmas.Int.{to_z-of_z}
use Rattle.std.specs.Prelude.{vec_len}
use mir.Val.{SFits}
use Rattle.sqlite.specs.declared.types.Value.TheVariants.{Int}
use Rattle.sqlite_rules.proofs.ListLemmas.{has_got}
use Rattle.gaz_answers.specs.Lives.{SayLives}
use Rattle.gaz_answers.proofs.LifeRows.{none_left}
use Rattle.gaz_answers.proofs.life_rows.page_told.Goals as goal

pub returns-in_ok-signed-in-Some-clause-said : goal.returns-in_ok-signed-in-Some-clause-said
returns-in_ok-signed-in-Some-clause-said c =
    let lives = c.in_ok-lives.lives.items in
    let size : vec_len c.in_ok-lives.lives ≡ length lives = search rules in
    let none : lives ≡ [] = none_left lives (sym size ∙ eqb-true (vec_len c.in_ok-lives.lives) 0 (sym c.is_empty.ensures ∙ c.if-not-is_empty.false)) in
    let fits : SFits w64 c.in_ok-signed-in-Some.field-0 = search rules in (
      subst (SayLives c.args.rows.now) none c.in_ok-lives.ensures.said,
      c.in-Some.row.now,
      has_got c.args.rows.now (length c.args.rows.now - 1) c.in-Some.row.now (sym c.in-Some.ensures.value),
      c.in_ok-signed-in-Some.ensures.said ∙ ap Int (sym (to_z-of_z w64 c.in_ok-signed-in-Some.field-0 fits)),
    )

pub returns-in_err-signed-in-Some-clause-told : goal.returns-in_err-signed-in-Some-clause-told
returns-in_err-signed-in-Some-clause-told c = λ each.
    let row = each c.in-Some.row.now (has_got c.args.rows.now (length c.args.rows.now - 1) c.in-Some.row.now (sym c.in-Some.ensures.value)) in
    absurd (c.in_err-signed-in-Some.ensures.told (row.place, row.rowid))
