use Rattle.std.proofs.Common.{◌∙◌, ap, subst, sym}
use Rattle.gaz_records.specs.Keys.{key_of}
use Rattle.gaz_views.specs.View.{with_item}
use Rattle.gaz_calls.proofs.Answered.{answered_ok}
use Rattle.gaz_store.specs.Beside.{Makes, with_changes}
use Rattle.gaz_store.proofs.judgement.Judgement.put.Goals as goal

pub returns-clause-asks : goal.returns-clause-asks
returns-clause-asks g c =
    answered_ok _ _ _ c.in_ok-hide.field-0 _ _ _ c.hide.ensures.asks c.in_ok-hide.was (λ db kept readies w makes.
    subst (λ ch. Makes db (with_changes c.hide.new.self ch) (with_item w c.args.item)) (sym c.in_ok-put.ensures.ok)
    ((readies w makes).put c.args.item (sym (c.key_of-key.ensures ∙ ap key_of c.deref.ensures)) c.requires))
