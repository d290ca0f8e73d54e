-- Where a property stands, and how it is addressed now.
use Rattle.std.specs.Prelude.{ℕ, List, Option, Some, option_map, is_some, if◌then◌else◌}
use Rattle.std.specs.List.{filter_map}
use Rattle.std.specs.Option.{option_and_then}
use Rattle.gaz_records.specs.Blpus.{BlpuValue}
use Rattle.gaz_records.specs.Descriptors.{DescriptorValue}
use Rattle.gaz_records.specs.Lpis.{LpiValue}
use Rattle.gaz_register.specs.Registers.{RegisterValue, owner_of_usrn}
use Rattle.gaz_keeper.specs.Board.{Board, last_view}
use Rattle.gaz_views.specs.View.{View}
use Rattle.gaz_views.specs.Words.{address_of, first_of}
use Rattle.gaz_extract.specs.Finding.{as_lpi, blpu_at, descriptor_at, street_at}
use Rattle.gaz_extract.specs.Lines.{line_text}
use Rattle.gaz_extract.specs.declared.found.Found.{Found}

-- the approved address of a property in a view: that of the least key
abbrev pub address_in : View → ℕ → Option LpiValue
address_in v uprn = option_and_then as_lpi (address_of v uprn)

-- whose last view tells of a street now: the custodian itself, where the street is in its last
-- view, else the one whose block holds it
abbrev pub owner_of_street : Board → RegisterValue → ℕ → ℕ → Option ℕ
owner_of_street board register c usrn =
    if is_some (street_at (last_view board c) usrn) then Some c else owner_of_usrn register usrn

-- the descriptor of an address's street in its language, from that last view
abbrev pub descriptor_now : Board → RegisterValue → ℕ → LpiValue → Option DescriptorValue
descriptor_now board register c lpi =
    option_and_then (λ owner. descriptor_at (last_view board owner) lpi.usrn lpi.lang)
    (owner_of_street board register c lpi.usrn)

-- the line of a custodian's property at this address; none without an address or its descriptor
abbrev pub line_at : Board → RegisterValue → ℕ → Option LpiValue → BlpuValue → Option (List ℕ)
line_at board register c address blpu =
    option_and_then
    (λ lpi. option_map (λ descriptor. line_text lpi descriptor blpu)
    (descriptor_now board register c lpi))
    address

-- the line of a custodian's property at its approved address
abbrev pub line_now : Board → RegisterValue → ℕ → ℕ → BlpuValue → Option (List ℕ)
line_now board register c uprn blpu =
    line_at board register c (address_in (last_view board c) uprn) blpu

-- what a custodian's last view says of a property, where the property stands in it
abbrev pub said_by : Board → RegisterValue → ℕ → ℕ → Option Found
said_by board register uprn c = option_map
    (λ blpu. record {
      custodian = c;
      uprn = uprn;
      status = blpu.status;
      line = line_now board register c uprn blpu;
    })
    (blpu_at (last_view board c) uprn)

-- where a property stands: with the least custodian of the register in whose last view it does
abbrev pub lookup : Board → RegisterValue → ℕ → Option Found
lookup board register uprn =
    first_of (filter_map (λ c. said_by board register uprn c.code) register)
