use Rattle.std.proofs.Common.{subst, sym}
use Rattle.gaz_keeper.specs.Keeper.{Goes, Idle, IsAtHand}
use Rattle.gaz_samples.specs.Writing.{committed_by, written}
use Rattle.gaz_samples.specs.declared.writing.Conclusion.{Conclusion}
use Rattle.gaz_samples.proofs.Written.{writes}
use Rattle.gaz_samples.proofs.writing.write_volume.Goals as goal

pub returns-in-Keep : goal.returns-in-Keep
returns-in-Keep g c =
    let was = g.S.Shelf.seen c.args.keeper.now in
    let now = g.S.Shelf.seen c.keep.new.self in
    let code = c.args.code in
    let items = c.args.items.items in
    subst (λ (ending : Conclusion). Goes {T = Unit {0}} was now c.keep.result (IsAtHand was.content code) (written was.content code items ending)
    (committed_by ending (written was.content code items ending)) Idle) (sym c.in-Keep.is)
    (writes was (g.S.Shelf.seen c.begin.new.self) (g.S.Shelf.seen c.put_all.new.keeper) now code items c.keep.result c.in_ok-begin.ensures c.in_ok-put_all.ensures.sets c.keep.ensures.keeps)
