-- Worked examples on calls one after another.
use Rattle.std.specs.Prelude.{◌≡◌, List, [], ◌∷◌, Ok, Err}
use Rattle.std.proofs.Common.{refl}
use Rattle.std.specs.declared.marker.Brand.{Brand}
use Rattle.sqlite.specs.Effect.{Database}
use Rattle.sqlite.specs.Held.{Held, state}
use Rattle.sqlite_trees.specs.declared.store.Store.{Ghosts}
use Rattle.gaz_register.specs.Registers.{IsRegister, RegisterValue}
use Rattle.gaz_calls.specs.Seen.{IsUnharmed}
use Rattle.gaz_calls.specs.WorkedGrowing.{county, town}
use Rattle.gaz_calls.specs.declared.growing.ExtendFault.{ExtendFault}
use Rattle.gaz_store.specs.Opened.{IsRefused}
use Rattle.gaz_store.specs.declared.store.Store.{Store}
use Rattle.gaz_steps.specs.Growth.{GrownRun, Period}
use Rattle.gaz_steps.specs.Step.{Command, Pose, Response}
use Rattle.gaz_steps.specs.declared.question.Question.TheVariants.{Settle}
use Rattle.gaz_stored.specs.Calls.{AreAllPeriods, AreLeftOf, AreOneRun, ArePeriodsOf, Call}
use Rattle.gaz_stored.specs.Calls.{FollowOn, Grew, Refused, Used, Whole}
use Rattle.gaz_stored.specs.Calls.{found_last, period, periods_in}
use Rattle.gaz_stored.specs.Examples.{bare_database, sends, worked_database, worked_hub}
use Rattle.gaz_stored.specs.Extending.{ExtendsOpened}
use Rattle.gaz_stored.specs.Stopping.{IsCutTo, cut_receiving, cut_settling}
use Rattle.gaz_stored.specs.Using.{Uses}

-- what is left of a file that was sent and answered
pub record WorkedCuts : Type 0 where
  -- it was received, and not settled; or it was answered before; or nothing of it is left
  pub received : (told : Response)
      → IsCutTo (sends ∷ []) (told ∷ []) (sends ∷ []) (cut_receiving ∷ [])
  pub answered : (told : Response)
      → IsCutTo (sends ∷ []) (told ∷ []) (sends ∷ Pose Settle ∷ []) (told ∷ cut_settling ∷ [])
  pub nothing : (told : Response)
      → IsCutTo (sends ∷ []) (told ∷ []) (Pose Settle ∷ []) (cut_settling ∷ [])
  -- nothing was sent
  pub unsent : ¬ IsCutTo [] [] (sends ∷ []) (cut_receiving ∷ [])

-- Below, a connection is handed back as it was given.
module _ {S : Type 0} (g : Ghosts S) (conn : Held S) (refused : IsRefused g conn conn)
    (fine : IsUnharmed (state g conn)) where
  abbrev pub in_vain : Call g
  in_vain = record {
    before = conn;
    after = conn;
    came = Refused refused;
    found = (state g conn).now;
    is_found = Whole fine refl;
  }

  pub record WorkedCalls : Type 0 where
    pub nothing_asked : AreAllPeriods g (in_vain ∷ in_vain ∷ []) []
    pub asked : (p : Period) → ¬ AreAllPeriods g (in_vain ∷ []) (p ∷ [])
    pub used : (register : RegisterValue) (first : Store S Brand g) (commands : List Command)
        (responses : List Response) (is : IsRegister register)
        (uses : Uses g register first conn conn commands responses)
        → periods_in g (Used register first commands responses is uses)
        ≡ period register commands responses ∷ []
    pub grows : (register grown : RegisterValue) (is : IsRegister register) (are : IsRegister grown)
        (extends : ExtendsOpened g register grown conn conn (Ok tt))
        → periods_in g (Grew register grown (Ok tt) is are extends) ≡ period grown [] [] ∷ []
    -- that it has grown isn't lost once it was told, and else may be
    pub not_lost : (register grown : RegisterValue) (is : IsRegister register)
        (are : IsRegister grown) (extends : ExtendsOpened g register grown conn conn (Ok tt))
        → ¬ AreLeftOf g (Grew register grown (Ok tt) is are extends) []
    pub may_be_lost : (register grown : RegisterValue) (why : ExtendFault)
        (is : IsRegister register) (are : IsRegister grown)
        (extends : ExtendsOpened g register grown conn conn (Err why))
        → AreLeftOf g (Grew register grown (Err why) is are extends) []
    pub none : FollowOn g bare_database []
    pub twice : FollowOn g (state g conn).now (in_vain ∷ in_vain ∷ [])
    -- another database was found
    pub elsewhere : ¬ ((state g conn).now ≡ worked_database)
        → ¬ FollowOn g worked_database (in_vain ∷ [])
    pub left : found_last g bare_database (in_vain ∷ []) ≡ (state g conn).now
    pub left_by_none : found_last g bare_database [] ≡ bare_database
    -- the one run of calls that were refused is of nothing; behind one, that of a call of one
    -- period is of just that
    pub of_nothing : (register : RegisterValue) (db : Database)
        (it : AreOneRun g register db (in_vain ∷ in_vain ∷ [])) → it.periods ≡ []
    pub of_one : (register : RegisterValue) (db : Database) (call : Call g) (p : Period)
        → ((periods : List Period) → ArePeriodsOf g call.came call.is_found periods
        → periods ≡ p ∷ [])
        → (it : AreOneRun g register db (in_vain ∷ call ∷ [])) → it.periods ≡ p ∷ []
    -- a custodian is gone
    pub shrinks : ¬ GrownRun (county ∷ town ∷ []) worked_hub
        (period (county ∷ []) [] [] ∷ []) worked_hub
    pub cuts : WorkedCuts
