use Rattle.toml.specs.View.{view}
use Rattle.gaz_register.specs.Drafts.{draft_of}
use Rattle.gaz_register.proofs.Gather.{onto_pushed}
use Rattle.gaz_register.proofs.draft.drafts_from.Goals as goal

pub loop-item-init : goal.loop-item-init
loop-item-init c = rw c.new-drafts.ensures.items (onto_pushed (λ v. draft_of (view v)) c.args.items.now)
