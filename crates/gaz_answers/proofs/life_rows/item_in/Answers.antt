use Rattle.std.proofs.Common.{◌∙◌, ap}
use Rattle.gaz_records.specs.Items.{is_entry}
use Rattle.gaz_answers.proofs.LifeRows.{entry_told}
use Rattle.gaz_answers.proofs.VersionRows.{has_links}
use Rattle.gaz_answers.proofs.life_rows.item_in.Goals as goal

pub returns-in-Ok-new-clause-entry : goal.returns-in-Ok-new-clause-entry
returns-in-Ok-new-clause-entry c = ap is_entry c.in-Ok-new.ensures ∙ entry_told _ c.in-Ok.item c.in-Ok.ensures

pub returns-in_err-links-clause-told : goal.returns-in_err-links-clause-told
returns-in_err-links-clause-told c = λ v. absurd (c.in_err-links.ensures.told (has_links c.args.row.now v))
