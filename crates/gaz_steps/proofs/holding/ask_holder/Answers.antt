-- Where the owner has nothing to say, what the holder says.
use Rattle.std.proofs.Common.{◌≡◌, None, sym, ◌∙◌, subst}
use Rattle.std.specs.Option.{option_and_then}
use Rattle.gaz_extract.specs.Lookups.{said_by}
use Rattle.gaz_keeper.specs.Keeper.{Content}
use Rattle.gaz_steps.specs.Chains.{holder_from}
use Rattle.gaz_steps.specs.Owners.{said_by_known}
use Rattle.gaz_steps.proofs.Following.{told_further}
use Rattle.gaz_steps.proofs.Looks.{looks_then}
use Rattle.gaz_steps.proofs.holding.ask_holder.Goals as goal

pub returns-in-None : goal.returns-in-None
returns-in-None g c =
    let register = c.args.register.now in
    let uprn = c.args.uprn in
    let owner = c.in-Some.owner in
    let a = g.K.Shelf.seen c.args.keeper.now in
    let b = g.K.Shelf.seen c.lookup_with.new.keeper in
    looks_then a b (g.K.Shelf.seen c.ask_further.new.keeper) c.in_ok-found.field-0 c.ask_further.result _ _ _ c.in_ok-found.ensures.tells c.ask_further.ensures
    (λ same told u more.
    let none = sym told ∙ c.in-None.is in
    told_further a.content.board register uprn owner u (sym c.owner_uprn.ensures ∙ c.in-Some.is) none
    (subst (λ (k : Content). said_by k.board register uprn owner ≡ None → u ≡ option_and_then (said_by_known k.board register uprn) (holder_from k.board uprn owner)) same more none))
