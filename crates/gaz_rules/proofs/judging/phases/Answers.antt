-- The two phases together.
use Rattle.std.proofs.Common.{◌∙◌, ap}
use Rattle.gaz_changefile.specs.Contents.{Contents}
use Rattle.gaz_register.specs.Registers.{blocks_of}
use Rattle.gaz_rules.proofs.Phases.{phases_together}
use Rattle.gaz_rules.proofs.judging.phases.Goals as goal

pub returns : goal.returns
returns g c =
    let bases = c.deref.ensures.value ∙ ap (λ (x : Contents). x.bases) c.file.view_is in
    let changes = c.deref-2.ensures.value ∙ ap (λ (x : Contents). x.changes) c.file.view_is in
    let same_bases = c.deref-3.ensures.value ∙ ap (λ (x : Contents). x.bases) c.file.view_is in
    let same_changes = c.deref-4.ensures.value ∙ ap (λ (x : Contents). x.changes) c.file.view_is in
    phases_together _ (g.K.Shelf.seen c.record_phase.new.keeper) _ c.args.code (blocks_of c.args.register.now c.args.code) c.args.file.now c.end_phase.result c.requires
    (rw (c.in_default.is, bases, changes) at c.in_ok-fault.ensures)
    (rw (same_bases, same_changes) at c.end_phase.ensures)
