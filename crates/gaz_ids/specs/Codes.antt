-- The codes of languages and statuses.
use Rattle.std.specs.Prelude.{◌≡◌, ℕ, List, Option, Some, None, if◌then◌else◌, codes}
use Rattle.std.specs.declared.cmp.Ordering.{Ordering}
use Rattle.std.specs.Ordering.{nat_cmp}
use Rattle.std.specs.Cmp.Lexicographic.{slice_cmp}
use Rattle.std.specs.Str.{bytes_eq}
use Rattle.gaz_ids.specs.declared.lang.Lang.{Lang}
use Rattle.gaz_ids.specs.declared.lang.Lang.TheVariants.{Cym, Eng}
use Rattle.gaz_ids.specs.declared.status.Status.{Status}
use Rattle.gaz_ids.specs.declared.status.Status.TheVariants.{Approved, Alternative, Provisional}
use Rattle.gaz_ids.specs.declared.status.Status.TheVariants.{Historical}

abbrev pub lang_text : Lang → List ℕ
lang_text Cym = codes "CYM"
lang_text Eng = codes "ENG"

-- the language of a text, or none
abbrev pub lang_of : List ℕ → Option Lang
lang_of t =
    if bytes_eq t (lang_text Eng) then Some Eng else
    if bytes_eq t (lang_text Cym) then Some Cym else None

-- languages are in the order of the bytes of their codes
abbrev pub lang_cmp : Lang → Lang → Ordering
lang_cmp a b = slice_cmp nat_cmp (lang_text a) (lang_text b)

abbrev pub lang_number : Lang → ℕ
lang_number Eng = 1
lang_number Cym = 2

abbrev pub status_text : Status → List ℕ
status_text Approved = codes "1"
status_text Alternative = codes "3"
status_text Provisional = codes "6"
status_text Historical = codes "8"

-- the status of a text, or none
abbrev pub status_of : List ℕ → Option Status
status_of t =
    if bytes_eq t (status_text Approved) then Some Approved
    else if bytes_eq t (status_text Alternative) then Some Alternative
    else if bytes_eq t (status_text Provisional) then Some Provisional
    else if bytes_eq t (status_text Historical) then Some Historical
    else None

abbrev pub status_number : Status → ℕ
status_number Approved = 1
status_number Alternative = 3
status_number Provisional = 6
status_number Historical = 8

-- a language and a status read back from their texts
abbrev pub CodesReadBack : Type 0
CodesReadBack =
    ((l : Lang) → lang_of (lang_text l) ≡ Some l)
    × ((s : Status) → status_of (status_text s) ≡ Some s)
