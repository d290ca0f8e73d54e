-- The door, and then what it lets in.
use Rattle.std.proofs.Common.{ap, cond, refl, sym, ◌∙◌}
use Rattle.std.specs.Prelude.{Some, None}
use Rattle.gaz_steps.specs.Hubs.{door_of, is_foreign}
use Rattle.gaz_hub.specs.Seen.{hub_seen}
use Rattle.gaz_steps.specs.Step.{blocks, or_foreign}
use Rattle.gaz_steps.specs.declared.refusal.DoorRefusal.TheVariants as at_door
use Rattle.gaz_hub.proofs.Declining.{declines, declines_file}
use Rattle.gaz_steps.proofs.Leading.{follows_itself}
use Rattle.gaz_hub.proofs.hub.Hub.submit.Goals as goal

pub returns-in-Err-clause-steps : goal.returns-in-Err-clause-steps
returns-in-Err-clause-steps g c =
    let hub = c.args.self.now in
    declines_file (door_of hub.register) (hub_seen g.K.Shelf.seen hub) c.args.code c.args.volume c.args.file.now c.in-Err.why
    (ap (or_foreign (is_foreign c.args.file.now)) c.in-Err.ensures.refused) c.requires.idle

pub returns-in-Ok-true-clause-steps : goal.returns-in-Ok-true-clause-steps
returns-in-Ok-true-clause-steps g c =
    let hub = c.args.self.now in
    declines_file (door_of hub.register) (hub_seen g.K.Shelf.seen hub) c.args.code c.args.volume c.args.file.now at_door.UnknownProfile
    (ap (or_foreign (is_foreign c.args.file.now)) c.in-Ok.ensures.let_in.0 ∙ ap (λ b. cond b (Some at_door.UnknownProfile) None) (sym c.in-Ok-true.ensures ∙ c.in-Ok-true.field-0-test)) c.requires.idle

pub returns-in-Err-names_unknown_profile-clause-steps : goal.returns-in-Err-names_unknown_profile-clause-steps
returns-in-Err-names_unknown_profile-clause-steps g c =
    let hub = c.args.self.now in
    declines (door_of hub.register) (hub_seen g.K.Shelf.seen hub) _ _ refl refl (λ is. cc)
    (λ k. record { let_in = c.in-Ok.ensures.let_in.0; received = refl; board = follows_itself (blocks (door_of hub.register)) _ _ _ refl }) c.requires.idle
