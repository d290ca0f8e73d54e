-- Without a parent there is no ring.
use Rattle.std.proofs.Common.{◌∙◌, sym}
use Rattle.gaz_end_rules.proofs.Progress.{reads_none}
use Rattle.gaz_end_rules.proofs.Walks.{no_parent}
use Rattle.gaz_end_rules.proofs.blpu_faults.is_own_ancestor.Goals as goal

pub returns-in_default : goal.returns-in_default
returns-in_default g c =
    let v = (g.K.Shelf.seen c.args.keeper.now).content.working in
    reads_none _ c.args.code _ _ c.requires (λ _ _ known. (known, λ is. sym (no_parent v c.args.uprn (sym is ∙ c.in_default.is))))
