-- Addresses on streets of others that closed.
use Rattle.std.specs.Prelude.{ℕ, ◌&&◌, not, Bool, false, List, Option, Some, None, is_some}
use Rattle.std.specs.Prelude.{if◌then◌else◌}
use Rattle.std.specs.List.{filter_map, flat_map}
use Rattle.std.specs.Option.{option_map_or}
use Rattle.gaz_records.specs.Lpis.{LpiValue}
use Rattle.gaz_records.specs.declared.item.Item.{Item}
use Rattle.gaz_records.specs.declared.item.Item.TheVariants as item
use Rattle.gaz_records.specs.declared.item.Kind.TheVariants as kind
use Rattle.gaz_records.specs.declared.key.Key.{Key}
use Rattle.gaz_register.specs.Registers.{RegisterValue, owner_of_usrn}
use Rattle.gaz_keeper.specs.Board.{Board, last_view, view_after}
use Rattle.gaz_views.specs.Reading.{left_after}
use Rattle.gaz_views.specs.Words.{is_approved, rest_of}
use Rattle.gaz_extract.specs.Finding.{is_closed, street_at}
use Rattle.gaz_extract.specs.declared.closed.Closed.{Closed}

-- a street is there and closed in the last view of the custodian whose block holds it
abbrev pub closed_at_owner : Board → RegisterValue → ℕ → Bool
closed_at_owner board register usrn =
    option_map_or (λ owner. is_closed (last_view board owner) usrn)
    (owner_of_usrn register usrn) false

-- a street isn't in the own last view, and is closed in its owner's
abbrev pub is_closed_elsewhere : Board → RegisterValue → ℕ → ℕ → Bool
is_closed_elsewhere board register c usrn =
    not (is_some (street_at (last_view board c) usrn)) && closed_at_owner board register usrn

-- an approved address on a street that is closed elsewhere
abbrev pub is_on_closed : Board → RegisterValue → ℕ → LpiValue → Bool
is_on_closed board register c lpi =
    is_approved lpi.status && is_closed_elsewhere board register c lpi.usrn

-- what is told of an item
abbrev pub closed_by : Board → RegisterValue → ℕ → Item → Option Closed
closed_by board register c (item.Lpi lpi) =
    if is_on_closed board register c lpi
    then Some (record { custodian = c; lpi = lpi.key; usrn = lpi.usrn }) else None
closed_by board register c _ = None

-- what is told of some items
abbrev pub closed_among : Board → RegisterValue → ℕ → List Item → List Closed
closed_among board register c items = filter_map (closed_by board register c) items

-- a custodian's addresses on closed streets, by their keys
abbrev pub closed_of : Board → RegisterValue → ℕ → List Closed
closed_of board register c =
    closed_among board register c (rest_of (last_view board c) kind.Lpi None)

-- what is told of the addresses after a key, or of all, in the view after a volume
abbrev pub closed_from : Board → RegisterValue → ℕ → ℕ → Option Key → List Closed
closed_from board register c volume after =
    closed_among board register c (rest_of (view_after board c volume) kind.Lpi after)

-- what is told of the addresses of the pages that are left in the view after a volume
abbrev pub closed_left : Board → RegisterValue → ℕ → ℕ → Option Key → List Closed
closed_left board register c volume next =
    closed_among board register c (left_after (view_after board c volume) kind.Lpi next)

-- the addresses on closed streets of all custodians of a register, in its order
abbrev pub closed_streets : Board → RegisterValue → List Closed
closed_streets board register = flat_map (λ c. closed_of board register c.code) register
