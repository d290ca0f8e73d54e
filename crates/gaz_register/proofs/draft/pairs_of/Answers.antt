use Rattle.gaz_register.specs.Drafts.{pair_of}
use Rattle.gaz_register.proofs.Documents.{all-listed}
use Rattle.gaz_register.proofs.draft.pairs_of.Goals as goal

pub returns : goal.returns
returns c =
    let items = c.in_ok-items.items.now.items in
    rw (← c.in_ok-items.ensures, all-listed pair_of items, ← c.deref.ensures.value) c.pairs_from.ensures
