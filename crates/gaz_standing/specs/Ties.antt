-- Where the items that name a BLPU are found, once that is asked for.
use Rattle.std.specs.Prelude.{◌≡◌, ◌==◌, ◌&&◌, ◌||◌, ◌∷◌, [], ℕ, Bool, true, false, List}
use Rattle.std.specs.Prelude.{Option, Some}
use Rattle.std.specs.Map.{lookup}
use Rattle.std.specs.Option.{option_and_then, option_map_or}
use Rattle.std.specs.Ordering.{eq_by_cmp}
use Rattle.gaz_histories.specs.Histories.{standing_at}
use Rattle.gaz_records.specs.Keys.{key_cmp}
use Rattle.gaz_records.specs.declared.item.Item.{Item}
use Rattle.gaz_records.specs.declared.key.Key.{Key}
use Rattle.gaz_views.specs.Words.{blpu_named}
use Rattle.gaz_standing.specs.Indexes.{has_key}
use Rattle.gaz_standing.specs.KeyHistories.{KeyHistories, versions_at}
use Rattle.gaz_standing.specs.declared.tied.Tied.{Tied}
use Rattle.gaz_standing.specs.declared.tied.Tied.TheVariants.{One, Many}
use Rattle.gaz_standing.specs.declared.tied_keys.TiedKeys.{TiedKeys}
use Rattle.gaz_standing.specs.declared.ties.Ties.{Ties}

-- ---- what items name

-- the BLPU that the item at a key names, after a volume
abbrev pub named_at : KeyHistories → ℕ → Key → Option ℕ
named_at g volume k = option_and_then blpu_named (standing_at (versions_at g k) volume)

-- the item at a key names this BLPU, after a volume
abbrev pub names_at : KeyHistories → ℕ → ℕ → Key → Bool
names_at g volume uprn k = option_map_or (λ n. n == uprn) (named_at g volume k) false

-- ---- keys under the BLPU that their items name

-- keys in their order
abbrev pub keys_in : Tied → List Key
keys_in (One k) = k ∷ []
keys_in (Many s) = s.keys

abbrev pub keys_tied : TiedKeys → ℕ → List Key
keys_tied t uprn = option_map_or keys_in (lookup (λ n. uprn == n) t.by_uprn.entries) []

abbrev pub is_tied : TiedKeys → ℕ → Key → Bool
is_tied t uprn k = has_key (keys_tied t uprn) k

-- these are this BLPU and this key
abbrev pub is_tie : ℕ → Key → ℕ → Key → Bool
is_tie uprn key n k = uprn == n && eq_by_cmp key_cmp key k

-- the key is under the BLPU too, and all else is as it was
abbrev pub AddsTie : TiedKeys → TiedKeys → ℕ → Key → Type 0
AddsTie old new uprn key =
    (n : ℕ) → (k : Key) → is_tied new n k ≡ (is_tie uprn key n k || is_tied old n k)

-- each key that was under a BLPU is there still
abbrev pub KeepsTies : TiedKeys → TiedKeys → Type 0
KeepsTies old new = (n : ℕ) → (k : Key) → is_tied old n k ≡ true → is_tied new n k ≡ true

-- the key is under this BLPU, where one is given
abbrev pub IsTiedTo : TiedKeys → Option ℕ → Key → Type 0
IsTiedTo t named k = (n : ℕ) → named ≡ Some n → is_tied t n k ≡ true

-- ---- before they are counted, each key may be under each BLPU

abbrev pub may_tie : Ties → ℕ → Key → Bool
may_tie t uprn k = option_map_or (λ ks. is_tied ks uprn k) t.counted true

-- each item that names a BLPU after a volume is found under it; what else is there is passed over
abbrev pub FindsTies : Ties → KeyHistories → ℕ → Type 0
FindsTies t g volume = (n : ℕ) → (k : Key) → named_at g volume k ≡ Some n → may_tie t n k ≡ true

-- those of the last view and of the working one are found
abbrev pub AreTies : Ties → KeyHistories → (reached working : ℕ) → Type 0
AreTies t g reached working = FindsTies t g reached × FindsTies t g working

-- each key that could be under a BLPU can be so still, and this one is under the one that its item
-- names
pub record NotesTie (old new : Ties) (i : Option Item) (key : Key) : Type 0 where
  pub kept : (n : ℕ) → (k : Key) → may_tie old n k ≡ true → may_tie new n k ≡ true
  pub noted : (n : ℕ) → option_and_then blpu_named i ≡ Some n → may_tie new n key ≡ true
