-- The next file is judged where it is ready.
use Rattle.std.proofs.Common.{◌≡◌, sym, subst}
use Rattle.gaz_changefile.specs.Reading.{Bad, Good}
use Rattle.gaz_register.specs.Registers.{blocks_of}
use Rattle.gaz_keeper.specs.declared.fault.ShelfFault.TheVariants.{Memory}
use Rattle.gaz_steps.specs.Hubs.{door_of}
use Rattle.gaz_hub.specs.Settling.{Tries}
use Rattle.gaz_hub.specs.declared.looking.Next.TheVariants as next
use Rattle.gaz_keeper.proofs.Faults.{passed_on}
use Rattle.gaz_hub.proofs.Advancing.{adds_after, adds_judged, adds_skipped, asks_bad, asks_good, stops_after, tries_broken, tries_forgotten, tries_judged, tries_past}
use Rattle.gaz_hub.proofs.Memory.{rest_done, rest_judged, rest_waiting}
use Rattle.gaz_steps.proofs.Looks.{left_not_open}
use Rattle.gaz_hub.proofs.Stopping.{marks_judged, marks_skipped}
use Rattle.gaz_hub.proofs.settling.judge_next.Goals as goal

pub returns-in_err-ask_room-in-Good-clause-tries : goal.returns-in_err-ask_room-in-Good-clause-tries
returns-in_err-ask_room-in-Good-clause-tries g c =
    let a = g.K.Shelf.seen c.args.keeper.now in
    let b = g.K.Shelf.seen c.look.new.keeper in
    let e = c.in_err-ask_room-in-Good.field-0.0 in
    let looked = rw c.in-Good.is at c.in_ok-next.ensures in
    subst (λ r. Tries (door_of c.args.register.now) c.args.left a b r (λ k. k ≡ c.args.code)) (sym (passed_on c.from_residual-in_err-ask_room-in-Good.result e c.from_residual-in_err-ask_room-in-Good.ensures.1))
    (tries_past c.args.register.now a b c.args.code c.args.left e (next.Good c.in-Good.volume c.in-Good.file) (Good c.in-Good.file) _ c.in_err-ask_room-in-Good.ensures.none looked c.requires (λ h. h.1))

pub returns-in_err-ask_room-in-Bad-clause-tries : goal.returns-in_err-ask_room-in-Bad-clause-tries
returns-in_err-ask_room-in-Bad-clause-tries g c =
    let a = g.K.Shelf.seen c.args.keeper.now in
    let b = g.K.Shelf.seen c.look.new.keeper in
    let e = c.in_err-ask_room-in-Bad.field-0.0 in
    let looked = rw c.in-Bad.is at c.in_ok-next.ensures in
    subst (λ r. Tries (door_of c.args.register.now) c.args.left a b r (λ k. k ≡ c.args.code)) (sym (passed_on c.from_residual-in_err-ask_room-in-Bad.result e c.from_residual-in_err-ask_room-in-Bad.ensures.1))
    (tries_past c.args.register.now a b c.args.code c.args.left e (next.Bad c.in-Bad.volume c.in-Bad.place c.in-Bad.rule) (Bad c.in-Bad.place c.in-Bad.rule) _ c.in_err-ask_room-in-Bad.ensures.none looked c.requires (λ h. h.1))

pub returns-in_err-judge-in-Good-clause-tries : goal.returns-in_err-judge-in-Good-clause-tries
returns-in_err-judge-in-Good-clause-tries g c =
    let a = g.K.Shelf.seen c.args.keeper.now in
    let b = g.K.Shelf.seen c.look.new.keeper in
    let d = door_of c.args.register.now in
    let own = blocks_of c.args.register.now c.args.code in
    let looked = rw c.in-Good.is at c.in_ok-next.ensures in
    let e = c.in_err-judge-in-Good.field-0.0 in
    let told = tries_broken d a (g.K.Shelf.seen c.judge.new.keeper) c.args.code (Good c.in-Good.file)
    (λ stood fine. (looked.right stood (c.in_err-judge-in-Good.ensures.harm fine)).1)
    (stops_after d a b _ _ _ c.args.code (Good c.in-Good.file) _ _ looked (λ h. h.1) (asks_good b.content c.args.code c.in-Good.file) (marks_judged b _ _ _ _ _ c.in_err-judge-in-Good.ensures))
    e c.args.left (λ k. k ≡ c.args.code)
    (adds_after a b _ _ _ c.args.code (Good c.in-Good.file) own _ _ looked (asks_good b.content c.args.code c.in-Good.file) (adds_judged b _ _ _ _ _ c.in_err-judge-in-Good.ensures)) in
    subst (λ r. Tries d c.args.left a (g.K.Shelf.seen c.judge.new.keeper) r (λ k. k ≡ c.args.code)) (sym (passed_on c.from_residual-in_err-judge-in-Good.result e c.from_residual-in_err-judge-in-Good.ensures.1)) told

pub returns-in-Good-clause-tries : goal.returns-in-Good-clause-tries
returns-in-Good-clause-tries g c =
    let a = g.K.Shelf.seen c.args.keeper.now in
    let b = g.K.Shelf.seen c.look.new.keeper in
    let own = blocks_of c.args.register.now c.args.code in
    let looked = rw c.in-Good.is at c.in_ok-next.ensures in
    tries_judged (door_of c.args.register.now) a (g.K.Shelf.seen c.judge.new.keeper) c.args.code (Good c.in-Good.file)
    (λ stood fine. (looked.right stood (c.in_ok-judge-in-Good.ensures.harm fine)).1)
    (stops_after (door_of c.args.register.now) a b _ _ _ c.args.code (Good c.in-Good.file) _ _ looked (λ h. h.1) (asks_good b.content c.args.code c.in-Good.file) (marks_judged b _ _ _ _ _ c.in_ok-judge-in-Good.ensures)) _ c.args.left _ c.in_ok-ask_room-in-Good.ensures.room
    (adds_after a b _ _ _ c.args.code (Good c.in-Good.file) own _ _ looked (asks_good b.content c.args.code c.in-Good.file) (adds_judged b _ _ _ _ _ c.in_ok-judge-in-Good.ensures))

pub returns-in-Bad-clause-tries : goal.returns-in-Bad-clause-tries
returns-in-Bad-clause-tries g c =
    let a = g.K.Shelf.seen c.args.keeper.now in
    let b = g.K.Shelf.seen c.look.new.keeper in
    let own = blocks_of c.args.register.now c.args.code in
    let rd = Bad c.in-Bad.place c.in-Bad.rule in
    let looked = rw c.in-Bad.is at c.in_ok-next.ensures in
    tries_judged (door_of c.args.register.now) a (g.K.Shelf.seen c.skip.new.self) c.args.code rd
    (λ stood fine. (looked.right stood (c.in_ok-skip-in-Bad.ensures.harm fine)).1)
    (stops_after (door_of c.args.register.now) a b _ _ _ c.args.code rd _ _ looked (λ h. h.1) (asks_bad b.content c.args.code c.in-Bad.place c.in-Bad.rule)
    (marks_skipped b _ _ c.args.code own c.in-Bad.place c.in-Bad.rule c.in_ok-skip-in-Bad.ensures)) _ c.args.left _ c.in_ok-ask_room-in-Bad.ensures.room
    (adds_after a b _ _ _ c.args.code rd own _ _ looked (asks_bad b.content c.args.code c.in-Bad.place c.in-Bad.rule)
    (adds_skipped b _ _ c.args.code own c.in-Bad.place c.in-Bad.rule (left_not_open a.progress b.progress looked.keeps.progress c.requires) c.in_ok-skip-in-Bad.ensures))

pub returns-in-Good-clause-rest : goal.returns-in-Good-clause-rest
returns-in-Good-clause-rest g c =
    let a = g.K.Shelf.seen c.args.keeper.now in
    let b = g.K.Shelf.seen c.look.new.keeper in
    let own = blocks_of c.args.register.now c.args.code in
    let looked = rw c.in-Good.is at c.in_ok-next.ensures in
    rest_judged c.args.register.now a (g.K.Shelf.seen c.judge.new.keeper) _ c.args.code c.in-Good.volume (Good c.in-Good.file) _ _
    (adds_after a b _ _ _ c.args.code (Good c.in-Good.file) own _ _ looked (asks_good b.content c.args.code c.in-Good.file) (adds_judged b _ _ _ _ _ c.in_ok-judge-in-Good.ensures))
    (λ stood fine. looked.right stood (c.in_ok-judge-in-Good.ensures.harm fine)) c.in_ok-wake-in-Good.ensures

pub returns-in-Bad-clause-rest : goal.returns-in-Bad-clause-rest
returns-in-Bad-clause-rest g c =
    let a = g.K.Shelf.seen c.args.keeper.now in
    let b = g.K.Shelf.seen c.look.new.keeper in
    let own = blocks_of c.args.register.now c.args.code in
    let rd = Bad c.in-Bad.place c.in-Bad.rule in
    let looked = rw c.in-Bad.is at c.in_ok-next.ensures in
    rest_judged c.args.register.now a (g.K.Shelf.seen c.skip.new.self) _ c.args.code c.in-Bad.volume rd _ _
    (adds_after a b _ _ _ c.args.code rd own _ _ looked (asks_bad b.content c.args.code c.in-Bad.place c.in-Bad.rule)
    (adds_skipped b _ _ c.args.code own c.in-Bad.place c.in-Bad.rule (left_not_open a.progress b.progress looked.keeps.progress c.requires) c.in_ok-skip-in-Bad.ensures))
    (λ stood fine. looked.right stood (c.in_ok-skip-in-Bad.ensures.harm fine)) c.in_ok-wake-in-Bad.ensures

pub returns-in-Waits-clause-rest : goal.returns-in-Waits-clause-rest
returns-in-Waits-clause-rest g c =
    let looked = rw c.in-Waits.is at c.in_ok-next.ensures in
    rest_waiting c.args.register.now (g.K.Shelf.seen c.args.keeper.now) (g.K.Shelf.seen c.look.new.keeper) c.args.code c.in-Waits.custodian c.in-Waits.volume _ _ looked c.in_ok-wait-in-Waits.ensures

pub returns-in_err-wake-in-Good-clause-tries : goal.returns-in_err-wake-in-Good-clause-tries
returns-in_err-wake-in-Good-clause-tries g c =
    let d = door_of c.args.register.now in
    let a = g.K.Shelf.seen c.args.keeper.now in
    let b = g.K.Shelf.seen c.look.new.keeper in
    let own = blocks_of c.args.register.now c.args.code in
    let looked = rw c.in-Good.is at c.in_ok-next.ensures in
    subst (λ r. Tries d c.args.left a (g.K.Shelf.seen c.judge.new.keeper) r (λ k. k ≡ c.args.code)) (sym (passed_on c.from_residual-in_err-wake-in-Good.result Memory c.from_residual-in_err-wake-in-Good.ensures.1))
    (tries_forgotten d a (g.K.Shelf.seen c.judge.new.keeper) c.args.code (Good c.in-Good.file)
    (λ stood fine. (looked.right stood (c.in_ok-judge-in-Good.ensures.harm fine)).1)
    (stops_after (door_of c.args.register.now) a b _ _ _ c.args.code (Good c.in-Good.file) _ _ looked (λ h. h.1) (asks_good b.content c.args.code c.in-Good.file) (marks_judged b _ _ _ _ _ c.in_ok-judge-in-Good.ensures)) _ Memory c.args.left _ (λ e. cc)
    (adds_after a b _ _ _ c.args.code (Good c.in-Good.file) own _ _ looked (asks_good b.content c.args.code c.in-Good.file) (adds_judged b _ _ _ _ _ c.in_ok-judge-in-Good.ensures)))

pub returns-in_err-wake-in-Bad-clause-tries : goal.returns-in_err-wake-in-Bad-clause-tries
returns-in_err-wake-in-Bad-clause-tries g c =
    let d = door_of c.args.register.now in
    let a = g.K.Shelf.seen c.args.keeper.now in
    let b = g.K.Shelf.seen c.look.new.keeper in
    let own = blocks_of c.args.register.now c.args.code in
    let rd = Bad c.in-Bad.place c.in-Bad.rule in
    let looked = rw c.in-Bad.is at c.in_ok-next.ensures in
    subst (λ r. Tries d c.args.left a (g.K.Shelf.seen c.skip.new.self) r (λ k. k ≡ c.args.code)) (sym (passed_on c.from_residual-in_err-wake-in-Bad.result Memory c.from_residual-in_err-wake-in-Bad.ensures.1))
    (tries_forgotten d a (g.K.Shelf.seen c.skip.new.self) c.args.code rd
    (λ stood fine. (looked.right stood (c.in_ok-skip-in-Bad.ensures.harm fine)).1)
    (stops_after (door_of c.args.register.now) a b _ _ _ c.args.code rd _ _ looked (λ h. h.1) (asks_bad b.content c.args.code c.in-Bad.place c.in-Bad.rule)
    (marks_skipped b _ _ c.args.code own c.in-Bad.place c.in-Bad.rule c.in_ok-skip-in-Bad.ensures)) _ Memory c.args.left _ (λ e. cc)
    (adds_after a b _ _ _ c.args.code rd own _ _ looked (asks_bad b.content c.args.code c.in-Bad.place c.in-Bad.rule)
    (adds_skipped b _ _ c.args.code own c.in-Bad.place c.in-Bad.rule (left_not_open a.progress b.progress looked.keeps.progress c.requires) c.in_ok-skip-in-Bad.ensures)))

pub returns-in_err-skip-in-Bad-clause-tries : goal.returns-in_err-skip-in-Bad-clause-tries
returns-in_err-skip-in-Bad-clause-tries g c =
    let a = g.K.Shelf.seen c.args.keeper.now in
    let b = g.K.Shelf.seen c.look.new.keeper in
    let d = door_of c.args.register.now in
    let own = blocks_of c.args.register.now c.args.code in
    let rd = Bad c.in-Bad.place c.in-Bad.rule in
    let looked = rw c.in-Bad.is at c.in_ok-next.ensures in
    let e = c.in_err-skip-in-Bad.field-0.0 in
    let told = tries_broken d a (g.K.Shelf.seen c.skip.new.self) c.args.code rd
    (λ stood fine. (looked.right stood (c.in_err-skip-in-Bad.ensures.harm fine)).1)
    (stops_after d a b _ _ _ c.args.code rd _ _ looked (λ h. h.1) (asks_bad b.content c.args.code c.in-Bad.place c.in-Bad.rule)
    (marks_skipped b _ _ c.args.code own c.in-Bad.place c.in-Bad.rule c.in_err-skip-in-Bad.ensures))
    e c.args.left (λ k. k ≡ c.args.code)
    (adds_after a b _ _ _ c.args.code rd own _ _ looked (asks_bad b.content c.args.code c.in-Bad.place c.in-Bad.rule)
    (adds_skipped b _ _ c.args.code own c.in-Bad.place c.in-Bad.rule (left_not_open a.progress b.progress looked.keeps.progress c.requires) c.in_err-skip-in-Bad.ensures)) in
    subst (λ r. Tries d c.args.left a (g.K.Shelf.seen c.skip.new.self) r (λ k. k ≡ c.args.code)) (sym (passed_on c.from_residual-in_err-skip-in-Bad.result e c.from_residual-in_err-skip-in-Bad.ensures.1)) told

pub returns-clause-rest : goal.returns-clause-rest
returns-clause-rest g c =
    let looked = rw c.in-Done.is at c.in_ok-next.ensures in
    rest_done c.args.register.now (g.K.Shelf.seen c.args.keeper.now) (g.K.Shelf.seen c.look.new.keeper) c.args.code _ _ looked c.want_nothing.ensures
