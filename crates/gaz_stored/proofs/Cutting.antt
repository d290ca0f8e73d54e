-- A hub that a stop left is one to which the first of its commands led, and one that was cut off.
use Rattle.std.proofs.Common.{◌≡◌, inl, inr, ℕ, List, [], ◌∷◌, ◌++◌, ap, refl, subst, sym}
use Rattle.gaz_keeper.specs.Keeper.{Content}
use Rattle.gaz_steps.specs.Hubs.{state_of}
use Rattle.gaz_steps.specs.Runs.{Run}
use Rattle.gaz_steps.specs.Standing.{Follows}
use Rattle.gaz_steps.specs.Step.{Command, Door, HubState, Pose, Response, Submit, blocks}
use Rattle.gaz_steps.specs.Stops.{IsLater, IsLaterWith, IsLeftAfter, IsLeftBy}
use Rattle.gaz_steps.specs.declared.question.Question.TheVariants.{Settle}
use Rattle.gaz_steps.proofs.Leading.{follows_itself}
use Rattle.gaz_steps.proofs.Runs.{run_then}
use Rattle.gaz_stored.specs.Stopping.{CutReceiving, CutSettling, RunsCutOff, cut_receiving, cut_settling}

module _ (d : Door) (hub : HubState) (commands : List Command) (responses : List Response) where
  -- it is the hub of the beginning
  pub cut_at_once : (found : HubState) → found ≡ hub → RunsCutOff d hub commands responses found
  cut_at_once found same = record {
    asked = [] ++ Pose Settle ∷ [];
    said = [] ++ cut_settling ∷ [];
    cut = CutSettling [] commands [] responses refl refl refl refl;
    run = (
      found,
      (refl, record { let_in = refl; received = ap (λ (h : HubState). h.received) same; board = follows_itself (blocks d) hub.received hub.board found.board (ap (λ (h : HubState). h.board) same) }),
      refl,
    );
  }

  module _ (earlier later : List Command) (told more : List Response) (mid : HubState) (k : Content) (run : Run d hub earlier told mid) (responses_are : responses ≡ told ++ more) where
    settling : (command : Command) → commands ≡ earlier ++ command ∷ later → IsLater d mid k → RunsCutOff d hub commands responses (state_of k)
    settling command commands_are left = record {
      asked = earlier ++ Pose Settle ∷ [];
      said = told ++ cut_settling ∷ [];
      cut = CutSettling earlier (command ∷ later) told more commands_are responses_are refl refl;
      run = run_then d hub mid (state_of k) earlier (Pose Settle ∷ []) told (cut_settling ∷ []) run (state_of k, (refl, record { let_in = refl; received = left.files; board = left.board }), refl);
    }

    receiving : (c volume : ℕ) (bytes : List ℕ) → commands ≡ earlier ++ Submit c volume bytes ∷ later → IsLaterWith d mid c volume bytes k → RunsCutOff d hub commands responses (state_of k)
    receiving c volume bytes commands_are left = record {
      asked = earlier ++ Submit c volume bytes ∷ [];
      said = told ++ cut_receiving ∷ [];
      cut = CutReceiving earlier later told more c volume bytes commands_are responses_are refl refl;
      run = run_then d hub mid (state_of k) earlier (Submit c volume bytes ∷ []) told (cut_receiving ∷ []) run (
        state_of k,
        record { let_in = left.let_in; free = left.free; received = left.later.files; board = subst (λ F. Follows (blocks d) F mid.board k.board) (sym left.later.files) left.later.board },
        refl,
      );
    }

    by_command : (command : Command) → commands ≡ earlier ++ command ∷ later → IsLeftBy d command mid k → RunsCutOff d hub commands responses (state_of k)
    by_command (Submit c volume bytes) are (inl left) = settling (Submit c volume bytes) are left
    by_command (Submit c volume bytes) are (inr left) = receiving c volume bytes are left
    by_command (Pose q) are left = settling (Pose q) are left

  -- one of the commands left it
  pub cut_after : (k : Content) → IsLeftAfter d commands responses hub k → RunsCutOff d hub commands responses (state_of k)
  cut_after k l = by_command l.earlier l.later l.told l.more l.mid k l.run l.responses_are l.command l.commands_are l.left
