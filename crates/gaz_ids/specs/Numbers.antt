-- What the digits of a number say.
use Rattle.std.specs.Prelude.{ℕ, ◌==◌, ◌&&◌, not, nat_lt, nat_le, List, length, Option, Some, None}
use Rattle.std.specs.Prelude.{Result, Ok, Err, if◌then◌else◌, Bool}
use Rattle.std.specs.Result.{result_ok}
use Rattle.std.specs.Str.{all_ascii_digits}
use Rattle.std.specs.Str.Parse.{digits_value}
use Rattle.gaz_ids.specs.Limits.{last_code, last_uprn, last_volume}
use Rattle.gaz_ids.specs.declared.fault.IdFault.{IdFault}
use Rattle.gaz_ids.specs.declared.fault.IdFault.TheVariants.{Empty, NotDigits, TooLong, OutOfRange}

abbrev pub in_range : ℕ → ℕ → ℕ → Bool
in_range low high n = nat_le low n && nat_le n high

-- the number, or the first fault
unfoldable pub read_id : ℕ → ℕ → ℕ → List ℕ → Result ℕ IdFault
read_id width low high text =
    if length text == 0 then Err Empty
    else if not (all_ascii_digits text) then Err NotDigits
    else if nat_lt width (length text) then Err TooLong
    else if not (in_range low high (digits_value 10 text)) then Err OutOfRange
    else Ok (digits_value 10 text)

abbrev pub of_id : ℕ → ℕ → ℕ → Option ℕ
of_id low high n = if in_range low high n then Some n else None

-- ---- what the digits write of these numbers

abbrev pub read_code : List ℕ → Option ℕ
read_code text = result_ok (read_id 4 1 last_code text)

abbrev pub read_volume : List ℕ → Option ℕ
read_volume text = result_ok (read_id 6 1 last_volume text)

abbrev pub read_uprn : List ℕ → Option ℕ
read_uprn text = result_ok (read_id 12 1 last_uprn text)
