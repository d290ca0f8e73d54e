-- The rules of an adoption.
use Rattle.std.proofs.Common.{◌≡◌, ◌∙◌, ap, sym}
use Rattle.gaz_register.specs.Registers.{blocks_of}
use Rattle.gaz_records.specs.declared.item.Item.TheVariants as item
use Rattle.gaz_end_rules.specs.Bases.{basis_views}
use Rattle.gaz_changefile.specs.Rules.{first_broken}
use Rattle.gaz_rules.specs.Rules.{record_rules}
use Rattle.gaz_end_rules.proofs.Progress.{reads_as}
use Rattle.gaz_rules.proofs.Releasing.{adopt_rules}
use Rattle.gaz_rules.proofs.record_rules.breach.Goals as goal

pub returns-in-Adopt : goal.returns-in-Adopt
returns-in-Adopt g c =
    let was = (g.K.Shelf.seen c.args.keeper.now).content in
    let others = basis_views was.board c.args.bases.now in
    let own = blocks_of c.args.register.now c.args.code in
    let action = c.args.change.now.action in
    let is : item.Adopt c.in-Adopt.adopt ≡ c.args.change.now.item = sym c.in-Adopt.is ∙ c.as_item.ensures in
    reads_as _ _ _ _ _ c.adopt_breach.ensures (λ r told reached.
    told reached
    ∙ sym (adopt_rules c.args.code own others was.working action c.in-Adopt.adopt)
    ∙ ap (λ i. first_broken (record_rules c.args.code own others was.working action i)) is)
