-- All that is listed was loaded.
use Rattle.std.proofs.Common.{◌∙◌, ap, subst}
use Rattle.std.specs.Option.{unwrap_or}
use Rattle.gaz_loaded.specs.Loading.{IsLoaded}
use Rattle.gaz_stored.specs.Filling.{IsFilled}
use Rattle.gaz_stored.proofs.joining.fill.Goals as goal

pub returns-in-Ok-load-clause-filled : goal.returns-in-Ok-load-clause-filled
returns-in-Ok-load-clause-filled g c = λ x is.
    let old = g.L.Shelf.seen c.args.lower.now in
    let new = g.L.Shelf.seen c.load.new.lower in
    let shelf = c.in-Ok-load.shelf in
    let done = c.in-Ok-load.ensures in
    let filled : IsFilled c.args.register.now old new shelf = record {
      lower = done.rests;
      upper = done.idle;
      loaded = subst (λ codes. IsLoaded codes old new shelf) (c.deref.ensures.value ∙ c.in-Ok.ensures) done.loaded;
    } in
    subst (IsFilled c.args.register.now old new) (ap (λ o. unwrap_or o x) is) filled
