-- The hub over a mirror has the register that it was given, and its keeper is left.
use Rattle.std.proofs.Common.{refl, subst, sym}
use Rattle.gaz_exchange.specs.Exchanges.{commands_of, responses_of}
use Rattle.gaz_stored.proofs.Below.{left_below, over_keeper}
use Rattle.gaz_stored.proofs.keepers.converse_with.Goals as goal

pub returns-clause-converses : goal.returns-clause-converses
returns-clause-converses g c =
    let begun = c.mirrored-hub.result in
    let made = c.mirrored-hub.ensures in
    let left = c.converse-ended.new.hub in
    let told = c.converse-ended.ensures.conversation.conversation in
    let last = c.into_parts-keeper.result.0 in
    let back = left_below g.K.Shelf left.register left.keeper c.into_parts-register.result last c.into_parts-register.ensures c.into_parts-keeper.ensures.lower in
    let commands = commands_of told.exchanges in
    let responses = responses_of told.exchanges in
    record {
      commands = commands;
      responses = responses;
      went = record { begun = begun; left = left; begins = made.begins; conversation = told; back = back; asked = refl; told = refl };
      harm = λ fine. made.begins.reads.keeps.harm (told.runs.harm (subst (λ k. (g.K.Shelf.seen k).unharmed) (sym back) fine));
      trust = λ t. made.begins.reads.trust (told.runs.trust (subst (λ k. (g.K.Shelf.seen k).trusted) (sym back) t));
      runs = over_keeper g.K.Shelf c.args.register c.args.keeper last begun left commands responses made.begins made.idle made.stands back told.runs;
    }
