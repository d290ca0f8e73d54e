use Rattle.std.proofs.Common.{Ok, arith, subst, sym}
use Rattle.sqlite.specs.Held.{state}
use Rattle.sqlite.specs.State.{HasCleanDisk, Survives}
use Rattle.gaz_register.specs.Texts.{register_text}
use Rattle.gaz_tables.specs.Schema.{meta}
use Rattle.gaz_tables.specs.Tables.{rows_of}
use Rattle.gaz_kept.specs.Kept.{IsKept}
use Rattle.gaz_kept.specs.Opening.{IsOf, Judges, Rests, Tells}
use Rattle.gaz_store.proofs.Beginning.{is_opened}
use Rattle.gaz_store.proofs.store.Store.open.Goals as goal

pub returns-in-Ok-clause-opened : goal.returns-in-Ok-clause-opened
returns-in-Ok-clause-opened g c =
    is_opened (state g.S.Store c.over.result.tables.conn) c.over.result.tables.at_hand c.over.ensures.so c.over.result.judging c.over.ensures.idle (state g.S.Store c.args.conn) (register_text c.args.register.now) c.over.result.tables.failures c.over.ensures.failures
    (subst (λ h. HasCleanDisk (state g.S.Store h) → HasCleanDisk (state g.S.Store c.args.conn)) (sym c.over.ensures.conn) (λ clean. let s = c.in-Ok.ensures.leaves in let le = s.clean in omega (arith, le, clean)))
    (subst (λ h. HasCleanDisk (state g.S.Store h) → Rests (state g.S.Store c.args.conn) (state g.S.Store h)) (sym c.over.ensures.conn) c.in-Ok.ensures.rests)
    (subst (λ h. HasCleanDisk (state g.S.Store h) → IsKept (state g.S.Store c.args.conn).now → IsOf (register_text c.args.register.now) (rows_of (state g.S.Store c.args.conn).now meta)) (sym c.over.ensures.conn)
    (λ clean kept. c.in-Ok.ensures.judged clean kept.tables))
    (subst (λ h. Survives (state g.S.Store c.args.conn) (state g.S.Store h) (λ _. ⊥)) (sym c.over.ensures.conn) c.in-Ok.ensures.leaves)

pub returns-in-Ok-clause-told : goal.returns-in-Ok-clause-told
returns-in-Ok-clause-told g c =
    subst (λ h. Tells g.S.Store c.args.conn h (Ok tt) (register_text c.args.register.now)) (sym c.over.ensures.conn) c.in-Ok.ensures.told

pub returns-in-Ok-clause-judged : goal.returns-in-Ok-clause-judged
returns-in-Ok-clause-judged g c =
    subst (λ h. Judges g.S.Store c.args.conn h (Ok tt) (register_text c.args.register.now)) (sym c.over.ensures.conn) c.in-Ok.ensures.judged

pub returns-in-Ok-clause-leaves : goal.returns-in-Ok-clause-leaves
returns-in-Ok-clause-leaves g c =
    subst (λ h. Survives (state g.S.Store c.args.conn) (state g.S.Store h) (λ _. ⊥)) (sym c.over.ensures.conn) c.in-Ok.ensures.leaves

pub returns-in-Err-clause-refused : goal.returns-in-Err-clause-refused
returns-in-Err-clause-refused g c =
    record {
      over = c.in-Err.ensures.over;
      trust = λ clean. let s = c.in-Err.ensures.leaves in let le = s.clean in omega (arith, le, clean);
      rests = c.in-Err.ensures.rests;
      leaves = λ _. c.in-Err.ensures.leaves;
    }
