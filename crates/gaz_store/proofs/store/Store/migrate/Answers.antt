use Rattle.std.proofs.Common.{Ok, arith, subst, sym}
use Rattle.sqlite.specs.Held.{state}
use Rattle.sqlite.specs.State.{HasCleanDisk}
use Rattle.gaz_register.specs.Texts.{register_text}
use Rattle.gaz_sql_facts.specs.Changes.{LeavesTheCommit}
use Rattle.gaz_tables.specs.Migrating.{HasFirstTables}
use Rattle.gaz_tables.specs.Schema.{meta}
use Rattle.gaz_tables.specs.Tables.{rows_of}
use Rattle.gaz_kept.specs.Kept.{IsKept}
use Rattle.gaz_kept.specs.Opening.{IsOf, Judges, Tells, Untouched}
use Rattle.gaz_kept.specs.OpeningFirst.{IsOfFirst, JudgesFirst, MayMove, Moves, TellsFirst}
use Rattle.gaz_kept.proofs.FirstTables.{is_first}
use Rattle.gaz_kept.proofs.MetaRows.{none_first}
use Rattle.gaz_kept.proofs.Moved.{clean_before}
use Rattle.gaz_store.proofs.Beginning.{is_moved, is_opened}
use Rattle.gaz_store.proofs.store.Store.migrate.Goals as goal

pub returns-in-Ok-clause-told : goal.returns-in-Ok-clause-told
returns-in-Ok-clause-told g c =
    subst (λ h. Tells g.S.Store c.args.conn h (Ok tt) (register_text c.args.register.now)) (sym c.over.ensures.conn) c.in-Ok.ensures.told

pub returns-in-Ok-clause-judged : goal.returns-in-Ok-clause-judged
returns-in-Ok-clause-judged g c =
    subst (λ h. Judges g.S.Store c.args.conn h (Ok tt) (register_text c.args.register.now)) (sym c.over.ensures.conn) c.in-Ok.ensures.judged

pub returns-in-Ok-clause-told_first : goal.returns-in-Ok-clause-told_first
returns-in-Ok-clause-told_first g c =
    subst (λ h. TellsFirst g.S.Store c.args.conn h (Ok tt) (register_text c.args.register.now)) (sym c.over.ensures.conn) c.in-Ok.ensures.told_first

pub returns-in-Ok-clause-judged_first : goal.returns-in-Ok-clause-judged_first
returns-in-Ok-clause-judged_first g c =
    subst (λ h. JudgesFirst g.S.Store c.args.conn h (Ok tt) (register_text c.args.register.now)) (sym c.over.ensures.conn) c.in-Ok.ensures.judged_first

pub returns-in-Ok-clause-leaves : goal.returns-in-Ok-clause-leaves
returns-in-Ok-clause-leaves g c =
    subst (λ h. MayMove g.S.Store c.args.conn h (Ok tt) (register_text c.args.register.now)) (sym c.over.ensures.conn) c.in-Ok.ensures.leaves

pub returns-in-Ok-clause-untouched : goal.returns-in-Ok-clause-untouched
returns-in-Ok-clause-untouched g c none =
    subst (λ h. Untouched g.S.Store c.args.conn h) (sym c.over.ensures.conn) (c.in-Ok.ensures.untouched none)

pub returns-in-Ok-clause-opened : goal.returns-in-Ok-clause-opened
returns-in-Ok-clause-opened g c none =
    let was = state g.S.Store c.args.conn in
    let text = register_text c.args.register.now in
    let whole = subst (λ h. Untouched g.S.Store c.args.conn h) (sym c.over.ensures.conn) (c.in-Ok.ensures.untouched none) in
    is_opened (state g.S.Store c.over.result.tables.conn) c.over.result.tables.at_hand c.over.ensures.so c.over.result.judging c.over.ensures.idle was text c.over.result.tables.failures c.over.ensures.failures
    (λ clean. let s = whole.leaves in let le = s.clean in omega (arith, le, clean))
    whole.rests
    (subst (λ h. HasCleanDisk (state g.S.Store h) → IsKept was.now → IsOf text (rows_of was.now meta)) (sym c.over.ensures.conn) (λ clean kept. c.in-Ok.ensures.judged clean kept.tables))
    whole.leaves

pub returns-in-Ok-clause-moved : goal.returns-in-Ok-clause-moved
returns-in-Ok-clause-moved g c =
    let was = state g.S.Store c.args.conn in
    let text = register_text c.args.register.now in
    let before = clean_before was (state g.S.Store c.migrate.new.conn) _ _ c.in-Ok.ensures.leaves in
    is_moved (state g.S.Store c.over.result.tables.conn) c.over.result.tables.at_hand c.over.ensures.so c.over.result.judging c.over.ensures.idle was text c.over.result.tables.failures c.over.ensures.failures
    (subst (λ h. HasCleanDisk (state g.S.Store h) → HasCleanDisk was) (sym c.over.ensures.conn) before)
    (subst (λ h. Moves g.S.Store c.args.conn h (Ok tt) text) (sym c.over.ensures.conn) c.in-Ok.ensures.moved)
    (subst (λ h. HasCleanDisk (state g.S.Store h) → HasFirstTables was.now → IsOfFirst text (rows_of was.now meta)) (sym c.over.ensures.conn) (λ clean has. c.in-Ok.ensures.judged_first clean has))
    (subst (λ h. HasFirstTables was.now → LeavesTheCommit (state g.S.Store h)) (sym c.over.ensures.conn) (λ has. c.in-Ok.ensures.certain (is_first was.now has)))

-- no store has the tables of schema 1 alone
pub returns-in-Err-clause-refused : goal.returns-in-Err-clause-refused
returns-in-Err-clause-refused g c =
    record {
      over = c.in-Err.ensures.over;
      trust = clean_before (state g.S.Store c.args.conn) (state g.S.Store c.migrate.new.conn) _ _ c.in-Err.ensures.leaves;
      rests = c.in-Err.ensures.rests;
      leaves = λ has. (c.in-Err.ensures.untouched (none_first _ has.there)).leaves;
    }
