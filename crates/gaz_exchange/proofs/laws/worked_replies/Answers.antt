use Rattle.std.proofs.Common.{refl}
use Rattle.std.specs.Fmt.{digits}
use Rattle.hex.proofs.OnLiterals.{hex_on_literals}
use Rattle.json.proofs.OnLiterals.{json_on_literals}
use Rattle.gaz_exchange.specs.Replies.{message, reply_text}
use Rattle.gaz_exchange.proofs.laws.worked_replies.Goals as goal

pub returns : goal.returns
unfolding message reply_text digits hex_on_literals json_on_literals
returns c = record {
  refusals = record {
    custodian = refl;
    volume = refl;
    too_large = refl;
    profile = refl;
    not_there = refl;
    bad_request = refl;
    no_route = refl;
    asks_alone = refl;
    asks_and_posts = refl;
    no_length = refl;
    not_received = refl;
    unsettled = refl;
  };
  outcomes = record {
    applied = refl;
    repeated = refl;
    held = refl;
    taken = refl;
    extract = refl;
  };
  told = record {
    held = refl;
    standing = refl;
    all_judged = refl;
    found = refl;
    escaped = refl;
    without_line = refl;
    none_closed = refl;
    two_closed = refl;
  };
}
