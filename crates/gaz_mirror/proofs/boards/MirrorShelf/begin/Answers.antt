-- Only the lower keeper is left, and nothing is gathered.
use Rattle.std.specs.Prelude.{None}
use Rattle.gaz_keeper.specs.Keeper.{Content, IsAtHand, Open, Progress, after_begin}
use Rattle.gaz_mirror.proofs.Changing.{goes_below, goes_settled, settled}
use Rattle.gaz_mirror.proofs.boards.MirrorShelf.begin.Goals as goal

pub returns-2-clause-goes : goal.returns-2-clause-goes
returns-2-clause-goes g c =
    let m = c.args.self.now in
    let below = g.L.Shelf.seen m.lower in
    let new = g.L.Shelf.seen c.begin-2.new.self in
    let asked = λ (k : Content). IsAtHand k c.args.code in
    let begun = λ (p : Progress) (k : Content). after_begin k c.args.code in
    goes_settled g.U.Shelf.seen below new m.upper None m.gathered c.begin-2.result asked begun (λ (k : Content). None) (λ (p : Progress). Open c.args.code) (settled below.progress m.gathered c.requires)
    (goes_below g.U.Shelf.seen below new m.upper c.begin-2.result (asked below.content) (begun below.progress below.content) None (Open c.args.code) c.begin-2.ensures)
