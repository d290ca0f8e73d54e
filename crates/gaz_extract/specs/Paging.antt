-- Pages whose keys rise, and how many keys may follow.
use Rattle.std.specs.Prelude.{ℕ, suc, ◌+◌, ◌-◌, ◌*◌, Option, Some, None, if◌then◌else◌}
use Rattle.gaz_fields.specs.Labels.{seven_bytes}
use Rattle.gaz_records.specs.SortKeys.{high_of, low_of}
use Rattle.gaz_records.specs.declared.key.Key.{Key}
use Rattle.gaz_views.specs.Words.{comes_after}

-- the most items of a page
abbrev pub most_page : ℕ
most_page = 512

-- the key after which the next page would begin, where it comes after the one after which this page
-- began
abbrev pub rising : Option Key → Option Key → Option Key
rising after None = None
rising after (Some k) = if comes_after after k then Some k else None

-- a key's place: the two numbers by which keys are in order, as one
unfoldable pub rank : Key → ℕ
rank k = high_of k * seven_bytes + low_of k

-- more than any place: record identifiers are below 25
unfoldable pub ranks : ℕ
ranks = 25 * seven_bytes * seven_bytes

-- how much is left to page through after a key; nothing is where there is no next page
abbrev pub pages_left : Option Key → ℕ
pages_left None = 0
pages_left (Some k) = suc (ranks - rank k)
