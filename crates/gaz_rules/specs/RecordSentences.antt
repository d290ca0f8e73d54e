-- The record rules as sentences on a change and the view before it.
use Rattle.std.specs.Prelude.{◌≡◌, ◌≢◌, ◌≤◌, ◌+◌, ◌↔◌, ◌⊎◌, ℕ, true, false, List, ◌∷◌, ◌++◌}
use Rattle.std.specs.Prelude.{Some, None}
use Rattle.std.specs.List.{All}
use Rattle.std.specs.FinMap as fin
use Rattle.gaz_records.specs.Blpus.{BlpuValue}
use Rattle.gaz_records.specs.Items.{is_entry}
use Rattle.gaz_records.specs.Keys.{key_of}
use Rattle.gaz_records.specs.Streets.{StreetValue}
use Rattle.gaz_records.specs.declared.adopt.Adopt.{Adopt}
use Rattle.gaz_records.specs.declared.item.Item.{Item}
use Rattle.gaz_records.specs.declared.item.Item.TheVariants as item
use Rattle.gaz_records.specs.declared.release.Release.{Release}
use Rattle.gaz_changefile.specs.declared.action.Action.{Action}
use Rattle.gaz_changefile.specs.declared.action.Action.TheVariants.{Insert, Update, Delete}
use Rattle.gaz_register.specs.Registers.{Blocks}
use Rattle.gaz_views.specs.View.{View, custody_at, hop_at, was_used}
use Rattle.gaz_views.specs.declared.custody.Custody.TheVariants.{Released}
use Rattle.gaz_rules.specs.CustodyRules.{holds_number, is_stale, is_unreleased, is_wrong_hop}
use Rattle.gaz_rules.specs.Rules.{is_missing, is_outside, is_used_again, moves_what_stays}
use Rattle.gaz_rules.specs.Rules.{takes_what_stays}

-- a release or an adoption, which is no entry
abbrev pub PassesOn : Item → Type 0
PassesOn i = ((r : Release) × (i ≡ item.Release r)) ⊎ ((a : Adopt) × (i ≡ item.Adopt a))

-- the number is in none of these blocks
abbrev pub IsInNone : List (ℕ × ℕ) → ℕ → Type 0
IsInNone blocks n = All (λ b. ((b.0 ≤ n) × (n ≤ b.1)) → ⊥) blocks

-- the number was released, and this is the last that became of it
pub record WasReleased (v : View) (uprn : ℕ) : Type 0 where
  pub to : ℕ
  pub hop : ℕ
  pub last : custody_at v uprn ≡ Some (Released to hop)

-- nothing became of the number, and it is in none of the own blocks
pub record NeverCame (own : Blocks) (v : View) (uprn : ℕ) : Type 0 where
  pub nothing : custody_at v uprn ≡ None
  pub outside : IsInNone own.uprn uprn

-- the custodian doesn't hold the number
abbrev pub HoldsNot : Blocks → View → ℕ → Type 0
HoldsNot own v uprn = WasReleased v uprn ⊎ NeverCame own v uprn

-- 20: a street whose number is in none of the own blocks, or a BLPU or a release whose number the
-- custodian doesn't hold
abbrev pub LiesOutside : Blocks → View → Item → Type 0
LiesOutside own v (item.Street s) = IsInNone own.usrn s.usrn
LiesOutside own v (item.Blpu b) = HoldsNot own v b.uprn
LiesOutside own v (item.Release r) = HoldsNot own v r.uprn
LiesOutside own v _ = ⊥

-- 21: an insert of an entry, and the key was ever used
pub record InsertsAgain (v : View) (a : Action) (i : Item) : Type 0 where
  pub entry : is_entry i ≡ true
  pub inserts : a ≡ Insert
  pub used : was_used v (key_of i) ≡ true

-- 22: an update or a deletion of an entry, and nothing stands under the key
pub record ChangesNothing (v : View) (a : Action) (i : Item) : Type 0 where
  pub entry : is_entry i ≡ true
  pub changes : a ≢ Insert
  pub gone : fin.get v.items (key_of i) ≡ None

-- a street or a BLPU
abbrev pub IsStreetOrBlpu : Item → Type 0
IsStreetOrBlpu i = ((s : StreetValue) × (i ≡ item.Street s)) ⊎ ((b : BlpuValue) × (i ≡ item.Blpu b))

-- 23: a deletion of a street or a BLPU
pub record DeletesWhatStays (a : Action) (i : Item) : Type 0 where
  pub deletes : a ≡ Delete
  pub stays : IsStreetOrBlpu i

-- an LPI of another BLPU or in another language than before, or a cross reference to another BLPU
abbrev pub IsAnothers : Item → Item → Type 0
IsAnothers (item.Lpi old) (item.Lpi new) = (new.uprn ≢ old.uprn) ⊎ (new.lang ≢ old.lang)
IsAnothers (item.Xref old) (item.Xref new) = new.uprn ≢ old.uprn
IsAnothers _ _ = ⊥

-- 24: an update of what stands under the key to such an item
pub record MovesItem (v : View) (a : Action) (i : Item) : Type 0 where
  pub old : Item
  pub updates : a ≡ Update
  pub there : fin.get v.items (key_of i) ≡ Some old
  pub moved : IsAnothers old i

-- 40: a release whose hop isn't the own one plus 1
pub record ReleasesOutOfTurn (v : View) (i : Item) : Type 0 where
  pub release : Release
  pub is : i ≡ item.Release release
  pub wrong : release.hop ≢ hop_at v release.uprn + 1

-- the view on which the first basis line of a custodian rests
pub record IsBasisOf (others : List (ℕ × View)) (from : ℕ) (w : View) : Type 0 where
  pub before : List (ℕ × View)
  pub after : List (ℕ × View)
  pub in_turn : others ≡ before ++ (from, w) ∷ after
  pub none_before : All (λ b. b.0 ≢ from) before

-- 41: an adoption, and in no view on which a basis line of the named custodian rests the number is
-- released to this custodian at this hop
pub record AdoptsUnreleased (c : ℕ) (others : List (ℕ × View)) (i : Item) : Type 0 where
  pub adoption : Adopt
  pub is : i ≡ item.Adopt adoption
  pub unreleased : (w : View) → IsBasisOf others adoption.from w
      → custody_at w adoption.blpu.uprn ≢ Some (Released c adoption.hop)

-- 42: an adoption whose hop isn't greater than the own one
pub record AdoptsLate (v : View) (i : Item) : Type 0 where
  pub adoption : Adopt
  pub is : i ≡ item.Adopt adoption
  pub late : adoption.hop ≤ hop_at v adoption.blpu.uprn

-- each test of a change is true just where its sentence holds
pub record RecordTestsSay : Type 0 where
  pub passed_on : (i : Item) → (is_entry i ≡ false) ↔ PassesOn i
  pub held_not : (own : Blocks) (v : View) (uprn : ℕ) → (holds_number own v uprn ≡ false)
      ↔ HoldsNot own v uprn
  pub outside : (own : Blocks) (v : View) (i : Item) → (is_outside own v i ≡ true)
      ↔ LiesOutside own v i
  pub used_again : (v : View) (a : Action) (i : Item) → (is_used_again v a i ≡ true)
      ↔ InsertsAgain v a i
  pub missing : (v : View) (a : Action) (i : Item) → (is_missing v a i ≡ true)
      ↔ ChangesNothing v a i
  pub deleted : (a : Action) (i : Item) → (takes_what_stays a i ≡ true) ↔ DeletesWhatStays a i
  pub moved : (v : View) (a : Action) (i : Item) → (moves_what_stays v a i ≡ true) ↔ MovesItem v a i
  pub wrong_hop : (v : View) (i : Item) → (is_wrong_hop v i ≡ true) ↔ ReleasesOutOfTurn v i
  pub unreleased : (c : ℕ) (others : List (ℕ × View)) (i : Item)
      → (is_unreleased c others i ≡ true) ↔ AdoptsUnreleased c others i
  pub stale : (v : View) (i : Item) → (is_stale v i ≡ true) ↔ AdoptsLate v i
