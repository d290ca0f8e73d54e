-- The upper keeper is in the judgement that is gathered, and the lower one in none.
use Rattle.std.proofs.Common.{◌∙◌, Bool, false, refl, subst, sym, true}
use Rattle.std.specs.Prelude.{⊤, None, Ok, Some}
use Rattle.gaz_keeper.specs.Keeper.{Content, Open, Progress, with_working}
use Rattle.gaz_mirror.specs.Gathering.{AreThen, makes}
use Rattle.gaz_mirror.specs.Mirroring.{lawful_with, mirrored}
use Rattle.gaz_mirror.proofs.Ahead.{ahead_by, ahead_on, closed, noted_down, of_gathered}
use Rattle.gaz_mirror.proofs.Then.{goes_then}
use Rattle.gaz_mirror.proofs.mirror.Mirror.gather.Goals as goal

pub hand_to-requires : goal.hand_to-requires
hand_to-requires g c = closed c.args.self.now c.in-Some.gathered (sym c.take.ensures.value ∙ c.in-Some.is)

pub make-requires-2 : goal.make-requires-2
make-requires-2 g c = λ idle.
    let clash = sym (c.args.self.now.ahead c.in-Some.gathered (sym c.take.ensures.value ∙ c.in-Some.is) c.in-Some-upper.upper c.in-Some-upper.is).judging ∙ idle in
    cc

pub invariant_of-self-then-is_ok : goal.invariant_of-self-then-is_ok
invariant_of-self-then-is_ok g c =
    let m = c.args.self.now in
    let low = (g.L.Shelf.seen m.lower).progress in
    let above = c.make-2.new.keeper in
    let noted = c.note.new.self in
    let ahead = m.ahead c.in-Some.gathered (sym c.take.ensures.value ∙ c.in-Some.is) c.in-Some-upper.upper c.in-Some-upper.is in
    record {
      in_step = λ none. cc;
      at_hand = λ x is. refl;
      ahead = ahead_by g.U.Shelf.seen low above noted
          (ahead_on low (g.U.Shelf.seen c.in-Some-upper.upper).progress (g.U.Shelf.seen above).progress c.make-2.result c.in-Some.gathered noted ahead (cc) c.make-2.ensures.makes.on c.note.ensures.code c.note.ensures.tried);
    }

pub hand_to-requires-2 : goal.hand_to-requires-2
hand_to-requires-2 g c = closed c.args.self.now c.in-Some.gathered (sym c.take.ensures.value ∙ c.in-Some.is)

pub returns-then-not-note-clause-makes : goal.returns-then-not-note-clause-makes
unfolding lawful_with
returns-then-not-note-clause-makes g c =
    let up = g.U.Shelf.seen in
    let m = c.args.self.now in
    let below = g.L.Shelf.seen m.lower in
    let mid = g.L.Shelf.seen c.hand_to.new.keeper in
    let new = g.L.Shelf.seen c.make.new.keeper in
    let u = c.in-Some-upper.upper in
    let first = c.in-Some.gathered in
    let noted = c.note.new.self in
    let these = sym c.take.ensures.value ∙ c.in-Some.is in
    let with_it = λ (k : Content). with_working k (makes k.working c.args.change) in
    let down = noted_down up below mid u first noted c.args.change false c.note.ensures.code
    (subst (λ (b : Bool). AreThen first.changes.items noted.changes.items b c.args.change) c.if-not-note.true c.note.ensures.noted) (Ok tt) c.in_ok-hand_to.ensures in
    of_gathered up below new m.upper None m.gathered c.take.new.self u first c.make.result with_it (λ (p : Progress). p) c.in-Some-upper.is these c.take.ensures.after
    (goes_then (mirrored up below (Some u) (Some first)) mid new c.make.result ⊤ (with_working below.content (up u).content.working) (Open first.code) (λ (p : Progress). with_it) (λ (p : Progress). p) down refl c.make.ensures.makes)

pub returns-clause-makes : goal.returns-clause-makes
unfolding lawful_with
returns-clause-makes g c =
    let up = g.U.Shelf.seen in
    let m = c.args.self.now in
    let below = g.L.Shelf.seen m.lower in
    let new = g.L.Shelf.seen c.hand_to-2.new.keeper in
    let u = c.in-Some-upper.upper in
    let first = c.in-Some.gathered in
    let noted = c.note.new.self in
    let these = sym c.take.ensures.value ∙ c.in-Some.is in
    of_gathered up below new m.upper None m.gathered c.take.new.self u first c.hand_to-2.result (λ (k : Content). with_working k (makes k.working c.args.change)) (λ (p : Progress). p) c.in-Some-upper.is these c.take.ensures.after
    (noted_down up below new u first noted c.args.change true c.note.ensures.code
    (subst (λ (b : Bool). AreThen first.changes.items noted.changes.items b c.args.change) c.if-not-note.false c.note.ensures.noted) c.hand_to-2.result c.hand_to-2.ensures)
