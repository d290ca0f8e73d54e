use Rattle.std.proofs.Common.{◌≤◌, arith}
use Rattle.gaz_store.proofs.StoreCalls.{skipped}
use Rattle.gaz_store.proofs.shelf.StoreShelf.skip.Goals as goal

pub returns : goal.returns
returns g c =
    let small : c.args.rule ≤ 255 = omega (arith, c.ranges.rule.fits) in
    skipped g.R.OfRegister.text c.args.self.now _ c.clear.new.self c.clear.ensures c.skip.result c.args.code c.args.place c.args.rule small c.requires c.skip.ensures
