-- The hub over a mirror has the register that it was given, settles, and its keeper is left.
use Rattle.std.proofs.Common.{◌∙◌, [], ◌∷◌, refl, subst, sym}
use Rattle.gaz_steps.specs.Hubs.{Runs, door_of, or_not_received}
use Rattle.gaz_hub.specs.Seen.{hub_seen}
use Rattle.gaz_steps.specs.Step.{Pose, Replied}
use Rattle.gaz_steps.specs.declared.question.Question.TheVariants.{Settle}
use Rattle.gaz_steps.proofs.HubRuns.{runs_one, runs_then}
use Rattle.gaz_mirror.specs.Mirrored.{seen_mirrored}
use Rattle.gaz_stored.proofs.Below.{left_below, over_keeper}
use Rattle.gaz_stored.proofs.Meetings.{with_same}
use Rattle.gaz_stored.proofs.keepers.serve_with.Goals as goal

pub returns-clause-serves : goal.returns-clause-serves
returns-clause-serves g c =
    let begun = c.mirrored-hub.result in
    let made = c.mirrored-hub.ensures in
    let settle = c.settle-settled in
    let mid = settle.new.self in
    let told = Replied Settle (or_not_received settle.result) in
    let left = c.serve_on-served.new.hub in
    let last = c.into_parts-keeper.result.0 in
    let back = left_below g.K.Shelf left.register left.keeper c.into_parts-register.result last c.into_parts-register.ensures c.into_parts-keeper.ensures.lower in
    let d = door_of begun.register in
    let first = runs_one d (hub_seen seen_mirrored begun) (hub_seen seen_mirrored mid) (Pose Settle) told settle.ensures.steps in
    with_same _ _ _ _ _ _ _ (λ met serves.
    let then = subst (λ r. Runs (door_of r) (hub_seen seen_mirrored mid) (hub_seen seen_mirrored left) serves.commands serves.responses) settle.ensures.register serves.runs in
    let runs = runs_then d (hub_seen seen_mirrored begun) (hub_seen seen_mirrored mid) (hub_seen seen_mirrored left) (Pose Settle ∷ []) serves.commands (told ∷ []) serves.responses first then in
    record {
      commands = Pose Settle ∷ serves.commands;
      responses = told ∷ serves.responses;
      went = record { settled = or_not_received settle.result; begun = begun; mid = mid; left = left; begins = made.begins; settles = settle.ensures.steps; of_register = settle.ensures.register ∙ made.begins.of_register; serves = serves; back = back; asked = refl; told = refl };
      harm = λ fine. made.begins.reads.keeps.harm (runs.harm (subst (λ k. (g.K.Shelf.seen k).unharmed) (sym back) fine));
      trust = λ t. made.begins.reads.trust (runs.trust (subst (λ k. (g.K.Shelf.seen k).trusted) (sym back) t));
      runs = over_keeper g.K.Shelf c.args.register c.args.keeper last begun left (Pose Settle ∷ serves.commands) (told ∷ serves.responses) made.begins made.idle made.stands back runs;
    }) c.serve_on-served.ensures.serves
