use Rattle.std.proofs.Common.{◌≡◌, IsTrue, subst, sym}
use Rattle.sqlite.specs.Held.{state}
use Rattle.sqlite.specs.State.{HasCleanDisk}
use Rattle.gaz_sql_facts.specs.Changes.{LeavesTheCommit}
use Rattle.gaz_register.specs.Texts.{register_text}
use Rattle.gaz_tables.specs.Creating.{HasRoom, IsNewStore, MayCreate}
use Rattle.gaz_kept.specs.Opening.{Untouched, schema_number}
use Rattle.gaz_kept.proofs.MetaRows.{any_found}
use Rattle.gaz_kept.proofs.Moved.{clean_before}
use Rattle.gaz_store.proofs.Beginning.{is_made}
use Rattle.gaz_store.proofs.store.Store.create.Goals as goal

pub returns-in-Ok-clause-made : goal.returns-in-Ok-clause-made
returns-in-Ok-clause-made g c =
    is_made (state g.S.Store c.over.result.tables.conn) c.over.result.tables.at_hand c.over.ensures.so c.over.result.judging c.over.ensures.idle (state g.S.Store c.args.conn) (register_text c.args.register.now) c.over.result.tables.failures c.over.ensures.failures
    (subst (λ h. HasCleanDisk (state g.S.Store h) → IsTrue (state g.S.Store h).is_open) (sym c.over.ensures.conn) (λ clean. (c.in-Ok.ensures.open clean).1))
    (subst (λ h. HasCleanDisk (state g.S.Store h) → HasCleanDisk (state g.S.Store c.args.conn)) (sym c.over.ensures.conn) (clean_before (state g.S.Store c.args.conn) (state g.S.Store c.create.new.conn) _ _ c.in-Ok.ensures.leaves))
    (subst (λ h. HasCleanDisk (state g.S.Store h) → HasRoom (state g.S.Store c.args.conn).now.schema → IsNewStore schema_number (register_text c.args.register.now) (state g.S.Store c.args.conn).now (state g.S.Store h).now × ((state g.S.Store h).committed ≡ (state g.S.Store h).now))
    (sym c.over.ensures.conn) c.in-Ok.ensures.created)
    (subst (λ h. LeavesTheCommit (state g.S.Store h)) (sym c.over.ensures.conn) c.in-Ok.ensures.certain)

pub returns-in-Ok-clause-leaves : goal.returns-in-Ok-clause-leaves
returns-in-Ok-clause-leaves g c =
    subst (λ h. MayCreate g.S.Store c.args.conn h schema_number (register_text c.args.register.now)) (sym c.over.ensures.conn) c.in-Ok.ensures.leaves

pub returns-in-Ok-clause-untouched : goal.returns-in-Ok-clause-untouched
returns-in-Ok-clause-untouched g c any =
    subst (λ h. Untouched g.S.Store c.args.conn h) (sym c.over.ensures.conn) (c.in-Ok.ensures.untouched any)

-- a store that was there has a table of such a name
pub returns-in-Err-clause-refused : goal.returns-in-Err-clause-refused
returns-in-Err-clause-refused g c =
    record {
      over = c.in-Err.ensures.over;
      trust = clean_before (state g.S.Store c.args.conn) (state g.S.Store c.create.new.conn) _ _ c.in-Err.ensures.leaves;
      rests = c.in-Err.ensures.rests;
      leaves = λ has. (c.in-Err.ensures.untouched (any_found _ has.there)).leaves;
    }
