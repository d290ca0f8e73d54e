-- What the TOML of a register says, before its values are judged.
use Rattle.std.specs.Prelude.{◌≡◌, ◌⊎◌, ℕ, ℤ, ◌+◌, ◌==◌, not, List, [], ◌∷◌, length, map, codes}
use Rattle.std.specs.Prelude.{Option, Result, Ok, Err, if◌then◌else◌}
use Rattle.std.specs.Global.{Vec}
use Rattle.std.specs.Option.{option_and_then, ok_or}
use Rattle.std.specs.Result.{result_map_both}
use Rattle.toml.specs.Data.{Data, Items, no_items, item, Members, no_members, member, integer}
use Rattle.toml.specs.Data.{array, as_array, as_integer, as_str, as_table, get_member}
use Rattle.gaz_register.specs.declared.fault.RegFault.{RegFault}
use Rattle.gaz_register.specs.declared.fault.RegFault.TheVariants.{Shape, Memory}

infixl 10 ◌then◌
-- goes on with the value, or stays with the fault
abbrev pub ◌then◌ : {A B : Type 0} → Result A RegFault → (A → Result B RegFault) → Result B RegFault
Ok a then next = next a
Err fault then next = Err fault

-- the values, or the first fault
abbrev pub all_good : {A : Type 0} → List (Result A RegFault) → Result (List A) RegFault
all_good [] = Ok []
all_good (r ∷ rs) = r then (λ a. all_good rs then (λ more. Ok (a ∷ more)))

-- the right answer, or want of memory
abbrev pub OrMemory : {A : Type 0} → Result A RegFault → Result A RegFault → Type 0
OrMemory result right = (result ≡ right) ⊎ (result ≡ Err Memory)

-- the items are the right ones, or there was want of memory
abbrev pub ItemsOrMemory :
    {A : Type 0} → Result (Vec A) RegFault → Result (List A) RegFault → Type 0
ItemsOrMemory result right = OrMemory (result_map_both (λ v. v.items) (λ e. e) result) right

-- a custodian as its table writes it
pub record DraftValue : Type 0 where
  pub code : ℤ
  pub name : List ℕ
  pub uprn : List (ℤ × ℤ)
  pub usrn : List (ℤ × ℤ)

-- the items of an array
abbrev pub listed : Items → List Data
listed no_items = []
listed (item d ds) = d ∷ listed ds

-- how many keys a table has
abbrev pub key_count : Members → ℕ
key_count no_members = 0
key_count (member k d ms) = key_count ms + 1

-- the value at a key, where it has the right type
abbrev pub at_key : {A : Type 0} → (Data → Option A) → List ℕ → Members → Result A RegFault
at_key as_type key table = ok_or (option_and_then as_type (get_member key table)) Shape

-- an array of two integers
abbrev pub pair_of : Data → Result (ℤ × ℤ) RegFault
pair_of (array (item (integer first) (item (integer last) no_items))) = Ok (first, last)
pair_of _ = Err Shape

-- an array of such pairs
abbrev pub pairs_of : List ℕ → Members → Result (List (ℤ × ℤ)) RegFault
pairs_of key table = at_key as_array key table then (λ items. all_good (map pair_of (listed items)))

-- a table of four keys: code, an integer; name, a text; uprn and usrn, arrays of pairs
unfoldable pub draft_in : Members → Result DraftValue RegFault
draft_in table =
    if not (key_count table == 4) then Err Shape else
    at_key as_integer (codes "code") table then (λ code.
    at_key as_str (codes "name") table then (λ name.
    pairs_of (codes "uprn") table then (λ uprn.
    pairs_of (codes "usrn") table then (λ usrn.
    Ok (record { code = code; name = name; uprn = uprn; usrn = usrn })))))

abbrev pub draft_of : Data → Result DraftValue RegFault
draft_of d = ok_or (as_table d) Shape then draft_in

-- a table of one key: custodian, an array of one such table or more
unfoldable pub drafts_in : Members → Result (List DraftValue) RegFault
drafts_in table =
    if not (key_count table == 1) then Err Shape else
    at_key as_array (codes "custodian") table then (λ items.
    if length (listed items) == 0 then Err Shape else all_good (map draft_of (listed items)))
