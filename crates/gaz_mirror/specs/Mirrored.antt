-- How a keeper over two is seen, and what its calls leave as it was.
use Rattle.std.specs.Prelude.{◌≡◌, None, IsSome, Result, OnErr}
use Rattle.gaz_keeper.specs.Keeper.{Seen}
use Rattle.gaz_keeper.specs.declared.fault.ShelfFault.{ShelfFault}
use Rattle.gaz_keeper.specs.declared.shelf.Shelf.{Ghosts}
use Rattle.gaz_mirror.specs.Mirroring.{mirrored}
use Rattle.gaz_mirror.specs.declared.mirror.Mirror.{Mirror}

-- how a mirror is seen: as its lower keeper, but for a judgement that is gathered above
abbrev pub seen_mirrored : {L U : Type 0} → {lower : Ghosts L} → {upper : Ghosts U}
    → Mirror L U lower upper → Seen
seen_mirrored {L} {U} {lower} {upper} m =
    mirrored upper.seen (lower.seen m.lower) m.upper m.gathered

-- where there was an upper one, there is one still
abbrev pub KeepsUpper : {L U : Type 0} → {lower : Ghosts L} → {upper : Ghosts U}
    → Mirror L U lower upper → Mirror L U lower upper → Type 0
KeepsUpper old new = IsSome old.upper → IsSome new.upper

-- a fault leaves no upper one
abbrev pub DropsUpper : {L U T : Type 0} → {lower : Ghosts L} → {upper : Ghosts U}
    → Result T ShelfFault → Mirror L U lower upper → Type 0
DropsUpper result new = OnErr result (new.upper ≡ None)

-- where there is an upper one still, the lower one is as it was
abbrev pub SparesLower : {L U : Type 0} → {lower : Ghosts L} → {upper : Ghosts U}
    → Mirror L U lower upper → Mirror L U lower upper → Type 0
SparesLower old new = IsSome new.upper → new.lower ≡ old.lower

-- a judgement is gathered above
abbrev pub Gathers : {L U : Type 0} → {lower : Ghosts L} → {upper : Ghosts U}
    → Mirror L U lower upper → Type 0
Gathers m = IsSome m.gathered
