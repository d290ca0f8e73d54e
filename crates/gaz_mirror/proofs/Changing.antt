-- What a change of a judgement tells of a keeper over two.
use Rattle.std.proofs.Common.{◌≡◌, ◌∙◌, true, Err, None, Ok, OnErr, OnOk, Option, Result, Some, ap, is_ok, refl, subst, sym}
use Rattle.std.specs.Option.{ForSome}
use Rattle.gaz_views.proofs.Outcomes.{on_ok}
use Rattle.gaz_keeper.specs.Keeper.{Broken, Content, Enters, Goes, Idle, IsLeft, IsNotOpen, IsSound, LeavesAtMost, LeavesJust, Progress, Seen}
use Rattle.gaz_keeper.specs.declared.fault.ShelfFault.{ShelfFault}
use Rattle.gaz_mirror.specs.InStep.{IsInStep}
use Rattle.gaz_mirror.specs.Mirroring.{StandsWith, mirrored, progress_with}
use Rattle.gaz_mirror.proofs.Readings.{stands_below}
use Rattle.gaz_mirror.specs.declared.gathered.Gathered.{Gathered}
use Rattle.gaz_mirror.proofs.Ahead.{at_some, where_ok}
use Rattle.gaz_mirror.proofs.Readings.{left_same}

-- where the lower one is changed, and both stand after it as they stood before
module _ {U T : Type 0} (seen : U → Seen) (old new : Seen) (was now : Option U) (r : Result T ShelfFault) (asked : Type 0) (becomes : Content)
    (both : StandsWith seen old was None → asked → new.unharmed → StandsWith seen new now None) where
  leaves_at_most : (commits : Option Content) → LeavesAtMost commits old new → LeavesAtMost commits (mirrored seen old was None) (mirrored seen new now None)
  leaves_at_most None h = h
  leaves_at_most (Some k) h = h

  leaves_just : (commits : Option Content) → LeavesJust commits old new → LeavesJust commits (mirrored seen old was None) (mirrored seen new now None)
  leaves_just None h = h
  leaves_just (Some k) h = h

  -- it is sound where both are
  from_below : IsSound (mirrored seen old was None) → IsSound old
  from_below sound fine = stands_below seen old was None (sound fine)

  goes_mirrored : (commits : Option Content) (after : Progress) → Goes old new r asked becomes commits after → Goes (mirrored seen old was None) (mirrored seen new now None) r asked becomes commits after
  goes_mirrored commits after goes = record {
    harm = goes.harm;
    stands = both;
    done = λ stood. goes.done (stands_below seen old was None stood);
    undone = λ stood. goes.undone (stands_below seen old was None stood);
    on = goes.on;
    broken = goes.broken;
    counts = record { kept = goes.counts.kept; store = goes.counts.store; trust = goes.counts.trust };
    leaves = λ sound met. leaves_at_most commits (goes.leaves (from_below sound) met);
    whole = λ sound. goes.whole (from_below sound);
    committed = λ sound met. on_ok r (leaves_just commits) (goes.committed (from_below sound) met);
  }

  enters_mirrored : Enters old new r asked becomes → Enters (mirrored seen old was None) (mirrored seen new now None) r asked becomes
  enters_mirrored enters = record {
    harm = enters.harm;
    stands = both;
    done = λ stood. enters.done (stands_below seen old was None stood);
    undone = λ stood. enters.undone (stands_below seen old was None stood);
    progress = enters.progress;
    cleared = enters.cleared;
    counts = record { kept = enters.counts.kept; store = enters.counts.store; trust = enters.counts.trust };
    leaves = λ sound met. leaves_at_most (Some becomes) (enters.leaves (from_below sound) met);
    whole = λ sound. enters.whole (from_below sound);
    committed = λ sound met. on_ok r (leaves_just (Some becomes)) (enters.committed (from_below sound) met);
  }

-- a call's content stands, and is what it should become
abbrev Stands : {T : Type 0} → Seen → Seen → Result T ShelfFault → Type 0 → Content → Type 0
Stands old new r asked becomes = old.stands → asked → new.unharmed → new.stands × OnOk r (new.content ≡ becomes)

-- both were changed alike
both_stand : {U T : Type 0} (seen : U → Seen) (sole : (u : U) → (seen u).unharmed) (old new : Seen) (upper : Option U) (was now : U) (r r' : Result T ShelfFault) (asked asked' : Type 0)
    (becomes becomes' : Content) → upper ≡ Some was → is_ok r ≡ true → is_ok r' ≡ true → Stands old new r asked becomes → Stands (seen was) (seen now) r' asked' becomes'
    → ((seen was).content ≡ old.content → asked → asked') → ((seen was).content ≡ old.content → becomes' ≡ becomes)
    → StandsWith seen old upper None → asked → new.unharmed → StandsWith seen new (Some now) None
both_stand seen sole old new upper was now r r' asked asked' becomes becomes' is ok ok' below above asks same =
    subst (λ o. StandsWith seen old o None → asked → new.unharmed → StandsWith seen new (Some now) None) (sym is)
    (λ stood met fine.
    let lower = below stood.lower met fine in
    let upper = above stood.upper (asks stood.same met) (sole now) in
    record { lower = lower.0; upper = upper.0; same = where_ok r' ok' upper.1 ∙ same stood.same ∙ sym (where_ok r ok lower.1) })

-- only the lower one is left
pub goes_below : {U T : Type 0} (seen : U → Seen) (old new : Seen) (was : Option U) (r : Result T ShelfFault) (asked : Type 0) (becomes : Content) (commits : Option Content) (after : Progress)
    → Goes old new r asked becomes commits after → Goes (mirrored seen old was None) (mirrored seen new None None) r asked becomes commits after
goes_below seen old new was r asked becomes commits after goes =
    goes_mirrored seen old new was None r asked becomes (λ stood. goes.stands (stands_below seen old was None stood)) commits after goes

-- both were changed
pub goes_both : {U T : Type 0} (seen : U → Seen) (sole : (u : U) → (seen u).unharmed) (old new : Seen) (upper : Option U) (was now : U) (r r' : Result T ShelfFault) (asked asked' : Type 0)
    (becomes becomes' : Content) (commits commits' : Option Content) (after after' : Progress) → upper ≡ Some was → is_ok r ≡ true → is_ok r' ≡ true
    → Goes old new r asked becomes commits after → Goes (seen was) (seen now) r' asked' becomes' commits' after'
    → ((seen was).content ≡ old.content → asked → asked') → ((seen was).content ≡ old.content → becomes' ≡ becomes)
    → Goes (mirrored seen old upper None) (mirrored seen new (Some now) None) r asked becomes commits after
goes_both seen sole old new upper was now r r' asked asked' becomes becomes' commits commits' after after' is ok ok' goes above asks same =
    goes_mirrored seen old new upper (Some now) r asked becomes (both_stand seen sole old new upper was now r r' asked asked' becomes becomes' is ok ok'
    (λ stood met fine. (goes.stands stood met fine, goes.done stood met fine)) (λ stood met fine. (above.stands stood met fine, above.done stood met fine)) asks same) commits after goes

-- ---- where nothing is gathered

pub goes_settled : {U T : Type 0} (seen : U → Seen) (old new : Seen) (was now : Option U) (gathered : Option Gathered) (r : Result T ShelfFault) (asked : Content → Type 0) (f : Progress → Content → Content)
    (commits : Content → Option Content) (after : Progress → Progress) → gathered ≡ None
    → Goes (mirrored seen old was None) (mirrored seen new now None) r (asked old.content) (f old.progress old.content) (commits (f old.progress old.content)) (after old.progress)
    → Goes (mirrored seen old was gathered) (mirrored seen new now gathered) r (asked (mirrored seen old was gathered).content) (f (mirrored seen old was gathered).progress (mirrored seen old was gathered).content)
    (commits (f (mirrored seen old was gathered).progress (mirrored seen old was gathered).content)) (after (mirrored seen old was gathered).progress)
goes_settled seen old new was now gathered r asked f commits after none =
    subst (λ (o : Option Gathered). Goes (mirrored seen old was o) (mirrored seen new now o) r (asked (mirrored seen old was o).content) (f (mirrored seen old was o).progress (mirrored seen old was o).content)
    (commits (f (mirrored seen old was o).progress (mirrored seen old was o).content)) (after (mirrored seen old was o).progress)) (sym none)

-- a judgement that is gathered is open
pub settled : (lower : Progress) (gathered : Option Gathered) → IsNotOpen (progress_with lower gathered) → gathered ≡ None
settled lower None closed = refl
settled lower (Some g) closed = absurd (closed g.code refl)

enters_settled : {U T : Type 0} (seen : U → Seen) (old new : Seen) (was now : Option U) (gathered : Option Gathered) (r : Result T ShelfFault) (asked : Content → Type 0) (f : Content → Content)
    → IsNotOpen (progress_with old.progress gathered) → Enters (mirrored seen old was None) (mirrored seen new now None) r (asked old.content) (f old.content)
    → Enters (mirrored seen old was gathered) (mirrored seen new now gathered) r (asked (mirrored seen old was gathered).content) (f (mirrored seen old was gathered).content)
enters_settled seen old new was now gathered r asked f closed =
    subst (λ (o : Option Gathered). Enters (mirrored seen old was o) (mirrored seen new now o) r (asked (mirrored seen old was o).content) (f (mirrored seen old was o).content)) (sym (settled old.progress gathered closed))

-- only the lower one is left
pub entered_below : {U T : Type 0} (seen : U → Seen) (old new : Seen) (was : Option U) (gathered : Option Gathered) (r : Result T ShelfFault) (asked : Content → Type 0) (f : Content → Content)
    → IsNotOpen (progress_with old.progress gathered) → Enters old new r (asked old.content) (f old.content)
    → Enters (mirrored seen old was gathered) (mirrored seen new None gathered) r (asked (mirrored seen old was gathered).content) (f (mirrored seen old was gathered).content)
entered_below seen old new was gathered r asked f closed enters =
    enters_settled seen old new was None gathered r asked f closed (enters_mirrored seen old new was None r _ _ (λ stood. enters.stands (stands_below seen old was None stood)) enters)

-- both were changed alike
pub entered_both : {U T : Type 0} (seen : U → Seen) (sole : (u : U) → (seen u).unharmed) (old new : Seen) (upper : Option U) (was now : U) (gathered : Option Gathered) (r r' : Result T ShelfFault)
    (asked : Content → Type 0) (f : Content → Content) → IsNotOpen (progress_with old.progress gathered) → upper ≡ Some was → is_ok r ≡ true → is_ok r' ≡ true
    → Enters old new r (asked old.content) (f old.content) → Enters (seen was) (seen now) r' (asked (seen was).content) (f (seen was).content)
    → Enters (mirrored seen old upper gathered) (mirrored seen new (Some now) gathered) r (asked (mirrored seen old upper gathered).content) (f (mirrored seen old upper gathered).content)
entered_both seen sole old new upper was now gathered r r' asked f closed is ok ok' enters above =
    enters_settled seen old new upper (Some now) gathered r asked f closed (enters_mirrored seen old new upper (Some now) r _ _ (both_stand seen sole old new upper was now r r' _ _ _ _ is ok ok'
    (λ stood met fine. (enters.stands stood met fine, enters.done stood met fine)) (λ stood met fine. (above.stands stood met fine, above.done stood met fine)) (λ same. subst asked (sym same)) (ap f)) enters)

-- ---- in answers

-- what went well told of no fault
pub no_fault : {T : Type 0} (P : Type 0) (r : Result T ShelfFault) → is_ok r ≡ true → OnErr r P
no_fault P (Ok x) ok = tt
no_fault P (Err e) ok = cc

-- two keepers are in step where both have ended a judgement
pub in_step_ended : {U : Type 0} (seen : U → Seen) (low : Progress) (now : U) (r r' : Result (Unit {0}) ShelfFault) → is_ok r ≡ true → is_ok r' ≡ true → OnOk r (low ≡ Idle) → OnOk r' ((seen now).progress ≡ Idle)
    → ForSome (Some now) (λ u. IsInStep low (seen u).progress)
in_step_ended seen low now r r' ok ok' below above =
    let lower : low ≡ Idle = where_ok r ok below in
    at_some (λ u. IsInStep low (seen u).progress) now (record { same = where_ok r' ok' above ∙ sym lower; whole = λ broken. let clash : Idle ≡ Broken = sym lower ∙ broken in cc })

-- two that were in step are so after a call that changes the progress of neither
pub in_step_on : {U : Type 0} (seen : U → Seen) (was low : Progress) (before now : U) → IsInStep was (seen before).progress → low ≡ was → (seen now).progress ≡ (seen before).progress
    → ForSome (Some now) (λ u. IsInStep low (seen u).progress)
in_step_on seen was low before now step below above =
    at_some (λ u. IsInStep low (seen u).progress) now (record { same = above ∙ step.same ∙ sym below; whole = λ broken. step.whole (sym below ∙ broken) })

-- and after one that would change it of a broken one alone
pub in_step_left : {U : Type 0} (seen : U → Seen) (was low : Progress) (before now : U) → IsInStep was (seen before).progress → IsLeft was low → IsLeft (seen before).progress (seen now).progress
    → ForSome (Some now) (λ u. IsInStep low (seen u).progress)
in_step_left seen was low before now step below above =
    in_step_on seen was low before now step (left_same _ _ step.whole below) (left_same _ _ (λ broken. step.whole (sym step.same ∙ broken)) above)
