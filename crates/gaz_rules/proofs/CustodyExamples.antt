-- What the rules on numbers that pass between custodians come to on worked examples.
use Rattle.std.proofs.Common.{refl}
use Rattle.gaz_rules.specs.CustodyExamples.{WorkedAdoptions, WorkedBreaches, WorkedHolders, WorkedPassing, WorkedReleases}
use Rattle.gaz_end_rules.proofs.Worked.{views}

on_releases : WorkedReleases
on_releases = record {
  there = simp views;
  never_there = simp views;
  of_no_block = simp views;
  released_before = simp views;
  too_late_a_hop = simp views;
  adopted = simp views;
  at_its_own_hop = simp views;
  after_later_hop = simp views;
  as_an_update = simp views;
  as_a_deletion = simp views;
}

on_holders : WorkedHolders
on_holders = record {
  gone = simp views;
  gone_changed = simp views;
  another = simp views;
  of_no_block = simp views;
  adopted = simp views;
  adopted_again = simp views;
  adopted_deleted = simp views;
}

on_adoptions : WorkedAdoptions
on_adoptions = record {
  released = simp views;
  no_basis = refl;
  basis_of_another = refl;
  second_basis = simp views;
  not_released = simp views;
  to_another = simp views;
  at_a_later_hop = simp views;
  at_an_earlier_hop = simp views;
  taken_back = simp views;
  twice = simp views;
  after_a_later_hop = simp views;
  after_an_earlier_hop = simp views;
  used = simp views;
}

on_breaches : WorkedBreaches
on_breaches = record {
  released = simp views;
  released_too_late = simp views;
  released_of_no_block = simp views;
  adopted = simp views;
  adopted_unreleased = refl;
  adopted_twice = simp views;
  inserted = simp views;
  inserted_again = simp views;
  updated = simp views;
  updated_nothing = simp views;
  moved = simp views;
  deleted = simp views;
  deleted_nothing = simp views;
  deleted_what_stays = simp views;
}

pub on_passing : WorkedPassing
on_passing = record {
  on_releases = on_releases;
  on_holders = on_holders;
  on_adoptions = on_adoptions;
  on_breaches = on_breaches;
}
