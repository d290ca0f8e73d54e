-- The limits of the profile that more than one layer keeps.
use Rattle.std.specs.Prelude.{ℕ}

-- the greatest code of a custodian
abbrev pub last_code : ℕ
last_code = 9999

-- how often a property can pass between custodians
abbrev pub last_hop : ℕ
last_hop = 9999

-- the last volume of a custodian
abbrev pub last_volume : ℕ
last_volume = 999_999

-- the most bytes of a change file
abbrev pub most_bytes : ℕ
most_bytes = 1_048_576

-- the most basis lines of a file
abbrev pub most_bases : ℕ
most_bases = 16

-- the most change records of a file
abbrev pub most_changes : ℕ
most_changes = 5000

-- the greatest UPRN: twelve digits
abbrev pub last_uprn : ℕ
last_uprn = 999_999_999_999

-- the greatest USRN: eight digits
abbrev pub last_usrn : ℕ
last_usrn = 99_999_999
