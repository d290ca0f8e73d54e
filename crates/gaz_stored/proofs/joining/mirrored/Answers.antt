-- The mirror stands for what the keeper did.
use Rattle.std.proofs.Common.{subst, sym}
use Rattle.gaz_steps.specs.Hubs.{StandsFor, door_of}
use Rattle.gaz_mirror.specs.Mirrored.{seen_mirrored}
use Rattle.gaz_shelf.specs.Mem.{seen_in}
use Rattle.gaz_stored.proofs.Filled.{of_made, stands_mirrored}
use Rattle.gaz_stored.proofs.joining.mirrored.Goals as goal

pub join-requires : goal.join-requires
join-requires g c = λ u is. let filled = c.fill-upper.ensures.filled u is in (filled.lower, filled.upper)

pub returns-clause-stands : goal.returns-clause-stands
returns-clause-stands g c = λ bare can fine.
    let low = g.L.Shelf.seen in
    let register = c.args.register in
    let fill = c.fill-upper in
    let mirror = c.join.result in
    let lower = fill.new.lower in
    let sound = subst (λ m. (seen_mirrored m).unharmed) c.new.ensures.keeper fine in
    subst (λ m. StandsFor (door_of register) (seen_mirrored m)) (sym c.new.ensures.keeper)
    (of_made low seen_in register mirror.lower lower mirror.upper fill.result mirror.gathered c.join.ensures.lower c.join.ensures.upper c.join.ensures.apart
    (λ now. stands_mirrored register (low c.args.keeper) (low lower) fill.ensures.reads can now (bare lower) fill.result fill.ensures.filled) sound)
