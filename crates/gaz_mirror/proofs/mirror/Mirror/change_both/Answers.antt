use Rattle.std.proofs.Common.{ap, ◌∙◌, refl, sym}
use Rattle.std.specs.Prelude.{⊤, None, Some}
use Rattle.gaz_keeper.specs.Keeper.{Content, Progress, with_working}
use Rattle.gaz_mirror.specs.Gathering.{makes}
use Rattle.gaz_mirror.specs.declared.gathered.Change.{Change}
use Rattle.gaz_mirror.proofs.Ahead.{where_ok}
use Rattle.gaz_mirror.proofs.Changing.{goes_below, goes_both, goes_settled, in_step_on, no_fault}
use Rattle.gaz_mirror.proofs.mirror.Mirror.change_both.Goals as goal

abbrev with_change : Change → Content → Content
with_change change k = with_working k (makes k.working change)

pub returns-clause-makes : goal.returns-clause-makes
returns-clause-makes g c =
    let m = c.args.self.now in
    let below = g.L.Shelf.seen m.lower in
    let above = g.U.Shelf.seen c.in-Some.upper in
    let new = g.L.Shelf.seen c.make-made.new.keeper in
    goes_settled g.U.Shelf.seen below new m.upper (Some c.make.new.keeper) m.gathered c.make-made.result (λ _. ⊤) (λ (p : Progress). with_change c.args.change) (λ (k : Content). None) (λ (p : Progress). p) c.requires.settled
    (goes_both g.U.Shelf.seen g.met.U.Unshared.never_harmed below new m.upper c.in-Some.upper c.make.new.keeper c.make-made.result c.make.result _ _
    (with_change c.args.change below.content) (with_change c.in-Ok.shared above.content) _ _ _ _ c.in-Some.is (cc) (cc) c.make-made.ensures.makes c.make.ensures.makes
    (λ _ _. tt) (λ same. ap (with_change c.in-Ok.shared) same ∙ ap (with_working below.content) (c.in-Ok.ensures below.content.working)))

pub returns-2-clause-makes : goal.returns-2-clause-makes
returns-2-clause-makes g c =
    let m = c.args.self.now in
    let below = g.L.Shelf.seen m.lower in
    let new = g.L.Shelf.seen c.make-made.new.keeper in
    goes_settled g.U.Shelf.seen below new m.upper None m.gathered c.make-made.result (λ _. ⊤) (λ (p : Progress). with_change c.args.change) (λ (k : Content). None) (λ (p : Progress). p) c.requires.settled
    (goes_below g.U.Shelf.seen below new m.upper c.make-made.result _ (with_change c.args.change below.content) _ _ c.make-made.ensures.makes)

pub invariant_of-self : goal.invariant_of-self
invariant_of-self g c =
    let m = c.args.self.now in
    let ok = sym c.is_ok.ensures.value ∙ c.if-is_ok.true in
    let ok' = sym c.is_ok-2.ensures.value ∙ c.if-is_ok-2.true in
    let was = (g.L.Shelf.seen m.lower).progress in
    let low = (g.L.Shelf.seen c.make-made.new.keeper).progress in
    record {
      in_step = λ _. in_step_on g.U.Shelf.seen was low c.in-Some.upper c.make.new.keeper (m.in_step c.requires.settled c.in-Some.upper c.in-Some.is) (where_ok c.make-made.result ok c.make-made.ensures.makes.on) (where_ok c.make.result ok' c.make.ensures.makes.on);
      at_hand = λ x is. refl;
      ahead = λ x is u there. cc (c.requires.settled);
    }

pub returns-clause-drops : goal.returns-clause-drops
returns-clause-drops g c = no_fault _ c.make-made.result (sym c.is_ok.ensures.value ∙ c.if-is_ok.true)
