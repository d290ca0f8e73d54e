use Rattle.gaz_kept.proofs.MetaRows.{judged}
use Rattle.gaz_kept.proofs.opening.read_meta.Goals as goal

pub returns-clause-told : goal.returns-clause-told
returns-clause-told g c clean = (_, c.in_ok-rows.ensures.answered clean, rw c.deref.ensures.value at c.told.ensures)

pub returns-clause-judged : goal.returns-clause-judged
returns-clause-judged g c clean has =
    judged c.args.number _ _ (c.in_ok-rows.ensures.found clean has) c.args.text.now c.told.result (rw c.deref.ensures.value at c.told.ensures)
