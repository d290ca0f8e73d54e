-- The lower keeper is in no judgement.
use Rattle.std.proofs.Common.{◌≡◌, ◌∙◌, None, Ok, Some, sym}
use Rattle.gaz_keeper.specs.Keeper.{Idle, Progress, after_abandon}
use Rattle.gaz_mirror.proofs.Ahead.{at_some, closed, given_up, of_gathered, there, where_ok}
use Rattle.gaz_mirror.proofs.mirror.Mirror.abandon_above.Goals as goal

pub begin-requires : goal.begin-requires
begin-requires g c = closed c.args.self.now c.in-Some.gathered (sym c.take.ensures.value ∙ c.in-Some.is)

pub returns-clause-goes : goal.returns-clause-goes
returns-clause-goes g c =
    let up = g.U.Shelf.seen in
    let m = c.args.self.now in
    let below = g.L.Shelf.seen m.lower in
    let u = c.in-Some-upper.upper in
    let v = c.abandon-2.new.self in
    let these = sym c.take.ensures.value ∙ c.in-Some.is in
    let sole = g.met.U.Unshared.never_harmed v in
    let ok = sym c.is_ok.ensures.value ∙ c.if-is_ok.true in
    of_gathered up below below m.upper (Some v) m.gathered c.take.new.self u c.in-Some.gathered (Ok tt) after_abandon (λ (p : Progress). Idle) c.in-Some-upper.is these c.take.ensures.after
    (given_up up below u c.in-Some.gathered (Some v) ((m.ahead c.in-Some.gathered these u c.in-Some-upper.is).untried c.if-gathered.false)
    (at_some (λ x. (up u).stands → (up x).stands × ((up x).content ≡ after_abandon (up u).content)) v
    (λ stood. (c.abandon-2.ensures.stands stood tt sole, where_ok c.abandon-2.result ok (c.abandon-2.ensures.done stood tt sole)))))

pub returns-2-clause-goes : goal.returns-2-clause-goes
returns-2-clause-goes g c =
    let up = g.U.Shelf.seen in
    let m = c.args.self.now in
    let below = g.L.Shelf.seen m.lower in
    let these = sym c.take.ensures.value ∙ c.in-Some.is in
    let u = there m.upper (m.at_hand c.in-Some.gathered these) in
    of_gathered up below below m.upper None m.gathered c.take.new.self u.0 c.in-Some.gathered (Ok tt) after_abandon (λ (p : Progress). Idle) u.1 these c.take.ensures.after
    (given_up up below u.0 c.in-Some.gathered None ((m.ahead c.in-Some.gathered these u.0 u.1).untried c.if-gathered.false) (λ w is. cc))
