-- The bytes are there.
use Rattle.std.proofs.Common.{◌≡◌, ℕ, List, subst}
use Rattle.gaz_keeper.specs.Board.{Board}
use Rattle.gaz_keeper.specs.Keeper.{Content}
use Rattle.gaz_hub.specs.Settling.{IsReadAs}
use Rattle.gaz_hub.specs.declared.looking.Next.{Next}
use Rattle.gaz_steps.proofs.Looks.{looks_then}
use Rattle.gaz_hub.proofs.Looks.{next_here}
use Rattle.gaz_hub.proofs.looking.look.Goals as goal

same_file : (k l : Content) (c volume : ℕ) (bytes others : List ℕ) (n : Next) → k ≡ l → bytes ≡ others → IsReadAs k.board c volume bytes n → IsReadAs l.board c volume others n
same_file k l c volume bytes others n e f = subst (λ (p : Board × List ℕ). IsReadAs p.0 c volume p.1 n) (λ i. ((e i).board, f i))

pub returns-in-Here : goal.returns-in-Here
returns-in-Here g c =
    let a = g.K.Shelf.seen c.args.keeper.now in
    looks_then a (g.K.Shelf.seen c.next_file.new.keeper) _ _ _ _ _ _ (rw c.in-Here.is at c.in_ok-next_file.ensures) c.read_next.ensures
    (λ same here n h. next_here a.content.files a.content.board c.args.code c.in-Here.volume c.in-Here.bytes.items n here.0 here.1 here.2
    (same_file _ a.content c.args.code c.in-Here.volume _ _ n same c.deref.ensures.value h))
