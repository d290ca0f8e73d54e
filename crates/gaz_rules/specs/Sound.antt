-- The views that a lawful board may have.
use Rattle.std.specs.Prelude.{◌≡◌, ◌≢◌, ◌≤◌, ℕ, true, false, List, [], Some}
use Rattle.std.specs.List.{All}
use Rattle.gaz_records.specs.Lpis.{LpiValue}
use Rattle.gaz_records.specs.declared.key.Key.{Key}
use Rattle.gaz_records.specs.declared.key.Key.TheVariants as key
use Rattle.gaz_changefile.specs.Reading.{Reading}
use Rattle.gaz_register.specs.Registers.{Blocks, Owners, within}
use Rattle.gaz_views.specs.Lawful.{IsKeyed}
use Rattle.gaz_views.specs.View.{View, holds, was_used}
use Rattle.gaz_keeper.specs.Board.{Board, view_after}
use Rattle.gaz_rules.specs.Judging.{bases_of}
use Rattle.gaz_rules.specs.Rules.{holds_number}
use Rattle.gaz_end_rules.specs.EndRules.{ancestor, approved_at, closed_under_lpi, is_out_of_date}
use Rattle.gaz_end_rules.specs.EndRules.{is_second, is_unnamed, lacks_blpu, lacks_own_street}
use Rattle.gaz_end_rules.specs.EndRules.{lacks_parent, names_closed}

-- no key at all breaks an end rule by what stands in the view itself, and its streets are the
-- custodian's own
pub record IsSound (own : Blocks) (v : View) : Type 0 where
  -- each item stands under its own key, and each key that stands there was used
  pub keyed : IsKeyed v
  pub used : (k : Key) → holds v k ≡ true → was_used v k ≡ true
  -- 30 and 31
  pub one_approved : (k : Key) → is_second v k ≡ false
  pub blpu_there : (k : Key) → lacks_blpu v k ≡ false
  -- 33 and 34, by a street that is in the view
  pub street_open : (k : Key) → names_closed v [] k ≡ false
  pub described : (k : Key) → is_unnamed v [] k ≡ false
  -- 35, and 36 with chains of any length
  pub parent_there : (k : Key) → lacks_parent v k ≡ false
  pub no_ring : (uprn steps : ℕ) → 1 ≤ steps → ancestor v steps uprn ≢ Some uprn
  -- 37 to 39
  pub up_to_date : (k : Key) → is_out_of_date v k ≡ false
  pub street_there : (k : Key) → lacks_own_street v k ≡ false
  pub open_under_lpi : (k : Key) → closed_under_lpi v k ≡ false
  -- streets are of the own blocks, and each street of them that an approved LPI names is there
  pub own_streets : (usrn : ℕ) → holds v (key.Street usrn) ≡ true → within own.usrn usrn ≡ true
  pub own_named : (k : Key) (l : LpiValue) → approved_at v k ≡ Some l → within own.usrn l.usrn
      ≡ true → holds v (key.Street l.usrn) ≡ true

-- the custodian holds the number of every BLPU that is there
abbrev pub HoldsOwn : Blocks → View → Type 0
HoldsOwn own v = (uprn : ℕ) → holds v (key.Blpu uprn) ≡ true → holds_number own v uprn ≡ true

-- ---- views of many custodians

-- no street number is in the own blocks of two custodians
abbrev pub AreDisjoint : Owners → Type 0
AreDisjoint own =
    (c d usrn : ℕ) → within (own c).usrn usrn ≡ true → within (own d).usrn usrn ≡ true → c ≡ d

-- the view of another custodian than c, and sound for that one's blocks
pub record IsSoundBasis (own : Owners) (c : ℕ) (b : ℕ × View) : Type 0 where
  pub of_another : b.0 ≢ c
  pub sound : IsSound (own b.0) b.1

abbrev pub AreSoundBases : Owners → ℕ → List (ℕ × View) → Type 0
AreSoundBases own c others = All (IsSoundBasis own c) others

-- no basis line names the custodian itself
abbrev pub NamesOthers : ℕ → Reading → Type 0
NamesOthers c r = All (λ d. d.custodian ≢ c) (bases_of r)

-- every view on the board is sound
abbrev pub IsSoundBoard : Owners → Board → Type 0
IsSoundBoard own board = (c volume : ℕ) → IsSound (own c) (view_after board c volume)

-- in every view on the board each custodian holds the numbers of its BLPUs
abbrev pub AllHoldOwn : Owners → Board → Type 0
AllHoldOwn own board = (c volume : ℕ) → HoldsOwn (own c) (view_after board c volume)
