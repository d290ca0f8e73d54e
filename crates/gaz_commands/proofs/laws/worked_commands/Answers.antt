use Rattle.std.proofs.Common.{refl}
use Rattle.std.specs.Fmt.{digits}
use Rattle.hex.specs.Hex.{encode_with}
use Rattle.gaz_ids.specs.Numbers.{read_id}
use Rattle.gaz_commands.proofs.laws.worked_commands.Goals as goal

pub returns : goal.returns
unfolding digits encode_with read_id
returns c = record {
  on_submissions = record {
    new = record { out_is = refl; done_is = refl };
    repeat = record { out_is = refl; done_is = refl };
    rejected = record { out_is = refl; done_is = refl };
    rejected_again = record { out_is = refl; done_is = refl };
    held = record { out_is = refl; done_is = refl };
    held_again = record { out_is = refl; done_is = refl };
    taken = record { out_is = refl; done_is = refl };
    unknown = record { out_is = refl; done_is = refl };
    no_volume = record { out_is = refl; done_is = refl };
    too_large = record { out_is = refl; done_is = refl };
    other_profile = record { out_is = refl; done_is = refl };
    not_received = record { said_is = refl; prints = record { out_is = refl; done_is = refl }; named = refl };
    unsettled = record { said_is = refl; prints = record { out_is = refl; done_is = refl }; named = refl };
  };
  on_questions = record {
    stands = record { out_is = refl; done_is = refl };
    stands_for_good = record { out_is = refl; done_is = refl };
    unknown = record { out_is = refl; done_is = refl };
    not_there = record { out_is = refl; done_is = refl };
    extract = record { out_is = refl; done_is = refl };
    not_reached = record { out_is = refl; done_is = refl };
    no_volume = record { out_is = refl; done_is = refl };
    failed = record { said_is = refl; prints = record { out_is = refl; done_is = refl }; named = refl };
  };
  on_growth = record {
    extended = record { out_is = refl; done_is = refl };
    removed = record { out_is = refl; done_is = refl };
    changed = record { out_is = refl; done_is = refl };
  };
  on_migration = record {
    migrated = record { out_is = refl; done_is = refl };
    current = record { out_is = refl; done_is = refl };
  };
  on_words = record {
    submitted = refl;
    four_digits = refl;
    code_foremost = refl;
    volume_next = refl;
    file_last = refl;
    stands = refl;
    no_code = refl;
    address = refl;
    no_uprn = refl;
    extract = refl;
    code_before_volume = refl;
    no_volume = refl;
  };
}
