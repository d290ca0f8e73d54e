-- The custodians of the worked examples, and a hub over them.
use Rattle.std.specs.Prelude.{false, [], ◌∷◌, codes}
use Rattle.gaz_register.specs.Registers.{Owners, RegisterValue, blocks_of}
use Rattle.gaz_keeper.specs.Received.{Received}
use Rattle.gaz_steps.specs.Standing.{standing}
use Rattle.gaz_steps.specs.Step.{Door, HubState}

-- 1001, 1002 and 1003 with their blocks of USRNs
abbrev pub sample_custodians : RegisterValue
sample_custodians =
    record {
      code = 1001;
      name = codes "Upper County";
      own = record { uprn = []; usrn = (100, 199) ∷ (99_999_999, 99_999_999) ∷ [] };
    }
    ∷ record {
      code = 1002;
      name = codes "Lower District";
      own = record { uprn = []; usrn = (200, 299) ∷ [] };
    }
    ∷ record {
      code = 1003;
      name = codes "Bay District";
      own = record { uprn = []; usrn = (300, 399) ∷ [] };
    }
    ∷ []

-- the blocks of each code
abbrev pub sample_register : Owners
sample_register = blocks_of sample_custodians

-- no profile is turned away
abbrev pub sample_door : Door
sample_door = record { register = sample_custodians; is_foreign = λ bytes. false }

-- the hub that has received this and settled all
abbrev pub state_of : Received → HubState
state_of files = record { received = files; board = standing sample_register files }
