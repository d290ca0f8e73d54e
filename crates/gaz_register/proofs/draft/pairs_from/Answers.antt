use Rattle.toml.specs.View.{view}
use Rattle.gaz_register.specs.Drafts.{pair_of}
use Rattle.gaz_register.proofs.Gather.{onto_pushed}
use Rattle.gaz_register.proofs.draft.pairs_from.Goals as goal

pub loop-item-init : goal.loop-item-init
loop-item-init c = rw c.new-pairs.ensures.items (onto_pushed (λ v. pair_of (view v)) c.args.items.now)
