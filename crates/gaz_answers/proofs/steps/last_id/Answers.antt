use Rattle.std.proofs.Common.{◌≡◌, ◌-◌, ◌∙◌, List, length, Some, slice_get, ap, subst, sym, true≢false}
use Rattle.sqlite.specs.declared.types.Value.TheVariants.{Text}
use Rattle.std.specs.Prelude.{IsUtf8}
use Rattle.sqlite.specs.Order.{Row, column}
use Rattle.gaz_row_items.specs.Versions.{text_in}
use Rattle.sqlite_rules.proofs.ListLemmas.{has_got}
use Rattle.gaz_answers.specs.Streets.{HasId, HasLastId}
use Rattle.gaz_answers.proofs.steps.last_id.Goals as goal

pub returns-in-Ok-from_utf8-clause-said : goal.returns-in-Ok-from_utf8-clause-said
returns-in-Ok-from_utf8-clause-said c = (
  c.in-Some.row.now,
  has_got c.args.rows.now (length c.args.rows.now - 1) c.in-Some.row.now (sym c.in-Some.ensures.value),
  c.in_ok-text.ensures.said ∙ ap Text (sym c.in-Ok.ensures.items ∙ ap (λ v. v.items) (sym c.in-Ok-from_utf8.ensures.ok)),
)

-- the last row's id is a text of UTF-8
last : (rows : List Row) (row : Row) → HasLastId rows → Some row ≡ slice_get rows (length rows - 1) → HasId row
last rows row shows is = shows.each row (has_got rows (length rows - 1) row (sym is))

pub returns-in_err-text-clause-told : goal.returns-in_err-text-clause-told
returns-in_err-text-clause-told c = λ shows. absurd (c.in_err-text.ensures.told (last c.args.rows.now c.in-Some.row.now shows c.in-Some.ensures.value).text)

pub returns-clause-told : goal.returns-clause-told
returns-clause-told c = λ shows.
    let id = last c.args.rows.now c.in-Some.row.now shows c.in-Some.ensures.value in
    let same : c.in-Ok.id.items ≡ text_in (column c.in-Some.row.now 0) = c.in-Ok.ensures.items ∙ sym (ap text_in c.in_ok-text.ensures.said) in
    absurd (true≢false (sym (c.in-Err.ensures.succeeds (subst IsUtf8 (sym same) id.utf8))))
