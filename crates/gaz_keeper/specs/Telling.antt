-- What each call of a keeper tells of it before and after, where `seen` is how it is seen.
use Rattle.std.specs.Prelude.{◌≡◌, ◌≤◌, ⊤, ℕ, Bool, List, Option, None, Some, Result, option_map}
use Rattle.std.specs.FinMap as map
use Rattle.std.specs.Global.{Vec}
use Rattle.gaz_ids.specs.declared.lang.Lang.{Lang}
use Rattle.gaz_records.specs.declared.item.Item.{Item}
use Rattle.gaz_records.specs.declared.item.Kind.{Kind}
use Rattle.gaz_records.specs.declared.key.Key.{Key}
use Rattle.gaz_views.specs.Numbered.{with_adopted}
use Rattle.gaz_views.specs.View.{custody_at, was_used, with_item, with_release}
use Rattle.gaz_views.specs.View.{without_key}
use Rattle.gaz_views.specs.Words.{approved_of, approved_on, has_children, page, property_of, tied}
use Rattle.gaz_views.specs.declared.custody.Custody.{Custody}
use Rattle.gaz_views.specs.declared.property.Property.{Property}
use Rattle.gaz_views.specs.declared.verdict.Verdict.{Verdict}
use Rattle.gaz_keeper.specs.Board.{Board, reached, verdict_on, view_after}
use Rattle.gaz_keeper.specs.Keeper.{Enters, Goes, Idle, IsAtHand, IsNew, IsNotOpen, Open, Reads}
use Rattle.gaz_keeper.specs.Keeper.{Seen, Sets}
use Rattle.gaz_keeper.specs.Keeper.{after_abandon, after_begin, after_keep, after_skip}
use Rattle.gaz_keeper.specs.Keeper.{view_of, with_received}
use Rattle.gaz_keeper.specs.Received.{count_above}
use Rattle.gaz_keeper.specs.declared.fault.ShelfFault.{ShelfFault}

-- no judgement is in progress
abbrev pub IsNotJudging : {K : Type 0} → (K → Seen) → K → Type 0
IsNotJudging seen now = IsNotOpen (seen now).progress

-- ---- after a volume that is reached

-- the item at a key
abbrev pub IsItemAt : Board → ℕ → ℕ → Key → Option Item → Type 0
IsItemAt board c volume key i =
    volume ≤ reached board c → i ≡ map.get (view_after board c volume).items key

-- what last became of a number
abbrev pub IsCustodyAt : Board → ℕ → ℕ → ℕ → Option Custody → Type 0
IsCustodyAt board c volume uprn custody =
    volume ≤ reached board c → custody ≡ custody_at (view_after board c volume) uprn

-- a page
abbrev pub IsPageAt : Board → ℕ → ℕ → Kind → Option Key → ℕ → List Item → Type 0
IsPageAt board c volume kind after most items =
    volume ≤ reached board c → items ≡ page (view_after board c volume) kind after most

-- ---- the calls that read

abbrev pub TellsReached : {K : Type 0} → (K → Seen) → K → K → Result ℕ ShelfFault → ℕ → Type 0
TellsReached seen old new result c =
    Reads (seen old) (seen new) result (λ n. n ≡ reached (seen old).content.board c)

abbrev pub TellsVerdict : {K : Type 0} → (K → Seen) → K → K → Result (Option Verdict) ShelfFault → ℕ
    → ℕ → Type 0
TellsVerdict seen old new result c volume =
    Reads (seen old) (seen new) result (λ v. v ≡ verdict_on (seen old).content.board c volume)

abbrev pub TellsCurrent : {K : Type 0} → (K → Seen) → K → K → Result (Option Item) ShelfFault → ℕ
    → Key → Type 0
TellsCurrent seen old new result c key =
    Reads (seen old) (seen new) result (λ i. i ≡ map.get (view_of (seen old) c).items key)

abbrev pub TellsAt : {K : Type 0} → (K → Seen) → K → K → Result (Option Item) ShelfFault → ℕ → ℕ
    → Key → Type 0
TellsAt seen old new result c volume key =
    Reads (seen old) (seen new) result (λ i. IsItemAt (seen old).content.board c volume key i)

abbrev pub TellsEver : {K : Type 0} → (K → Seen) → K → K → Result Bool ShelfFault → ℕ → Key → Type 0
TellsEver seen old new result c key =
    Reads (seen old) (seen new) result (λ b. b ≡ was_used (view_of (seen old) c) key)

abbrev pub TellsApprovedOf : {K : Type 0} → (K → Seen) → K → K → Result (Vec Key) ShelfFault → ℕ → ℕ
    → Type 0
TellsApprovedOf seen old new result c uprn =
    Reads (seen old) (seen new) result
    (λ keys. keys.items ≡ approved_of (view_of (seen old) c) uprn)

abbrev pub TellsPropertyOf : {K : Type 0} → (K → Seen) → K → K → Result (Option Property) ShelfFault
    → ℕ → ℕ → Type 0
TellsPropertyOf seen old new result c uprn =
    Reads (seen old) (seen new) result (λ p. p ≡ property_of (view_of (seen old) c) uprn)

abbrev pub TellsApprovedOn : {K : Type 0} → (K → Seen) → K → K → Result Bool ShelfFault → ℕ → ℕ
    → Option Lang → Type 0
TellsApprovedOn seen old new result c usrn lang =
    Reads (seen old) (seen new) result (λ b. b ≡ approved_on (view_of (seen old) c) usrn lang)

abbrev pub TellsChildren : {K : Type 0} → (K → Seen) → K → K → Result Bool ShelfFault → ℕ → ℕ
    → Type 0
TellsChildren seen old new result c uprn =
    Reads (seen old) (seen new) result (λ b. b ≡ has_children (view_of (seen old) c) uprn)

abbrev pub TellsCustody : {K : Type 0} → (K → Seen) → K → K → Result (Option Custody) ShelfFault
    → ℕ → ℕ → Type 0
TellsCustody seen old new result c uprn =
    Reads (seen old) (seen new) result (λ x. x ≡ custody_at (view_of (seen old) c) uprn)

abbrev pub TellsCustodyAt : {K : Type 0} → (K → Seen) → K → K → Result (Option Custody) ShelfFault
    → ℕ → ℕ → ℕ → Type 0
TellsCustodyAt seen old new result c volume uprn =
    Reads (seen old) (seen new) result (λ x. IsCustodyAt (seen old).content.board c volume uprn x)

abbrev pub TellsTied : {K : Type 0} → (K → Seen) → K → K → Result Bool ShelfFault → ℕ → ℕ → Type 0
TellsTied seen old new result c uprn =
    Reads (seen old) (seen new) result (λ b. b ≡ tied (view_of (seen old) c) uprn)

abbrev pub TellsPage : {K : Type 0} → (K → Seen) → K → K → Result (Vec Item) ShelfFault → ℕ → ℕ
    → Kind → Option Key → ℕ → Type 0
TellsPage seen old new result c volume kind after most =
    Reads (seen old) (seen new) result
    (λ items. IsPageAt (seen old).content.board c volume kind after most items.items)

abbrev pub TellsReceived : {K : Type 0} → (K → Seen) → K → K → Result (Option (Vec ℕ)) ShelfFault
    → ℕ → ℕ → Type 0
TellsReceived seen old new result c volume =
    Reads (seen old) (seen new) result
    (λ bytes. option_map (λ b. b.items) bytes ≡ map.get (seen old).content.files (c, volume))

-- a call that asks nothing
abbrev pub TellsNothing : {K T : Type 0} → (K → Seen) → K → K → Result T ShelfFault → Type 0
TellsNothing seen old new result = Reads (seen old) (seen new) result (λ _. ⊤)

abbrev pub TellsHeld : {K : Type 0} → (K → Seen) → K → K → Result ℕ ShelfFault → ℕ → Type 0
TellsHeld seen old new result c =
    Reads (seen old) (seen new) result
    (λ n. n ≡ count_above (seen old).content.files c (reached (seen old).content.board c))

-- ---- the calls of a judgement, and those outside one

abbrev pub Begins : {K T : Type 0} → (K → Seen) → K → K → Result T ShelfFault → ℕ → Type 0
Begins seen old new result c =
    Goes (seen old) (seen new) result (IsAtHand (seen old).content c)
    (after_begin (seen old).content c) None (Open c)

abbrev pub Puts : {K T : Type 0} → (K → Seen) → K → K → Result T ShelfFault → Item → Type 0
Puts seen old new result item =
    Sets (seen old) (seen new) result (with_item (seen old).content.working item)

abbrev pub Takes : {K T : Type 0} → (K → Seen) → K → K → Result T ShelfFault → Key → Type 0
Takes seen old new result key =
    Sets (seen old) (seen new) result (without_key (seen old).content.working key)

abbrev pub Releases : {K T : Type 0} → (K → Seen) → K → K → Result T ShelfFault → (uprn to hop : ℕ)
    → Type 0
Releases seen old new result uprn to hop =
    Sets (seen old) (seen new) result (with_release (seen old).content.working uprn to hop)

-- the item is a BLPU; of another one nothing would become
abbrev pub Adopts : {K T : Type 0} → (K → Seen) → K → K → Result T ShelfFault → Item
    → (from hop : ℕ) → Type 0
Adopts seen old new result i from hop =
    Sets (seen old) (seen new) result
    (with_adopted (seen old).content.working i from hop)

abbrev pub Applies : {K T : Type 0} → (K → Seen) → K → K → Result T ShelfFault → Type 0
Applies seen old new result =
    Goes (seen old) (seen new) result ⊤ (after_keep (seen old).progress (seen old).content)
    (Some (after_keep (seen old).progress (seen old).content)) Idle

abbrev pub Abandons : {K T : Type 0} → (K → Seen) → K → K → Result T ShelfFault → Type 0
Abandons seen old new result =
    Goes (seen old) (seen new) result ⊤ (after_abandon (seen old).content) None Idle

abbrev pub Skips : {K T : Type 0} → (K → Seen) → K → K → Result T ShelfFault → ℕ → ℕ → ℕ → Type 0
Skips seen old new result c place rule =
    Enters (seen old) (seen new) result (IsAtHand (seen old).content c)
    (after_skip (seen old).content c place rule)

abbrev pub Receives : {K T : Type 0} → (K → Seen) → K → K → Result T ShelfFault → ℕ → ℕ → List ℕ
    → Type 0
Receives seen old new result c volume bytes =
    Enters (seen old) (seen new) result (IsNew (seen old).content c volume)
    (with_received (seen old).content c volume bytes)
