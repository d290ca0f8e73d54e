-- The end rules as sentences on whole views.
use Rattle.std.specs.Prelude.{◌≡◌, ◌≢◌, ◌↔◌, ℕ, true, false, List, ◌∷◌, ◌++◌, map, Some, None}
use Rattle.std.specs.List.{All}
use Rattle.std.specs.FinMap as fin
use Rattle.gaz_ids.specs.declared.lang.Lang.{Lang}
use Rattle.gaz_ids.specs.declared.status.Status.TheVariants.{Approved, Historical}
use Rattle.gaz_fields.specs.Days.{CivilDay}
use Rattle.gaz_records.specs.Blpus.{BlpuValue}
use Rattle.gaz_records.specs.Lpis.{LpiValue}
use Rattle.gaz_records.specs.Streets.{StreetValue}
use Rattle.gaz_records.specs.declared.item.Item.{Item}
use Rattle.gaz_records.specs.declared.item.Item.TheVariants as item
use Rattle.gaz_records.specs.declared.key.Key.{Key}
use Rattle.gaz_records.specs.declared.key.Key.TheVariants as key
use Rattle.gaz_views.specs.View.{View, holds}
use Rattle.gaz_views.specs.Words.{blpu_named}
use Rattle.gaz_end_rules.specs.EndRules.{closed_under_lpi, found_in, is_second, lacks_blpu}
use Rattle.gaz_end_rules.specs.EndRules.{lacks_descriptor, lacks_own_street, lacks_parent}
use Rattle.gaz_end_rules.specs.EndRules.{lacks_street, leaves_lpi, leaves_parts, leaves_ties}
use Rattle.gaz_end_rules.specs.EndRules.{names_closed, names_past, past_under_lpi}

-- ---- what stands in a view

-- an approved LPI stands under the key
pub record IsApprovedLpi (v : View) (k : Key) (l : LpiValue) : Type 0 where
  pub there : fin.get v.items k ≡ Some (item.Lpi l)
  pub approved : l.status ≡ Approved

-- a street with this number and an end date
pub record IsClosedStreet (v : View) (usrn : ℕ) : Type 0 where
  pub street : StreetValue
  pub day : CivilDay
  pub there : fin.get v.items (key.Street usrn) ≡ Some (item.Street street)
  pub ended : street.end ≡ Some day

-- a BLPU with this number that is historical
pub record IsPastBlpu (v : View) (uprn : ℕ) : Type 0 where
  pub blpu : BlpuValue
  pub there : fin.get v.items (key.Blpu uprn) ≡ Some (item.Blpu blpu)
  pub historical : blpu.status ≡ Historical

-- the own view, then the basis views in the order of the file
abbrev pub views_in_turn : View → List (ℕ × View) → List View
views_in_turn v others = v ∷ map (λ b. b.1) others

-- none of these views has the street
abbrev pub HaveNone : List View → ℕ → Type 0
HaveNone views usrn = All (λ u. holds u (key.Street usrn) ≡ false) views

-- the first of these views that has the street
pub record IsFirstWith (views : List View) (usrn : ℕ) (w : View) : Type 0 where
  pub before : List View
  pub after : List View
  pub in_turn : views ≡ before ++ w ∷ after
  pub none_before : HaveNone before usrn
  pub has : holds w (key.Street usrn) ≡ true

-- ---- the rules

-- 30: k is an approved LPI, and another approved LPI has the same BLPU
pub record HasSecond (v : View) (k : Key) : Type 0 where
  pub lpi : LpiValue
  pub other_key : Key
  pub other : LpiValue
  pub there : IsApprovedLpi v k lpi
  pub other_there : IsApprovedLpi v other_key other
  pub another : other_key ≢ k
  pub same_blpu : other.uprn ≡ lpi.uprn

-- 31: k is an LPI or a cross reference, and nothing stands under the BLPU that it names
pub record LacksBlpu (v : View) (k : Key) : Type 0 where
  pub item : Item
  pub uprn : ℕ
  pub there : fin.get v.items k ≡ Some item
  pub names : blpu_named item ≡ Some uprn
  pub gone : fin.get v.items (key.Blpu uprn) ≡ None

-- 31: a BLPU that isn't there, and an LPI or a cross reference names it
pub record LeavesTies (v : View) (k : Key) : Type 0 where
  pub uprn : ℕ
  pub is : k ≡ key.Blpu uprn
  pub gone : fin.get v.items k ≡ None
  pub item_key : Key
  pub item : Item
  pub there : fin.get v.items item_key ≡ Some item
  pub names : blpu_named item ≡ Some uprn

-- 32: k is an approved LPI whose street is in none of the views
pub record NamesNowhere (v : View) (others : List (ℕ × View)) (k : Key) : Type 0 where
  pub lpi : LpiValue
  pub there : IsApprovedLpi v k lpi
  pub nowhere : HaveNone (views_in_turn v others) lpi.usrn

-- 33: k is an approved LPI whose street is closed in the first view that has it
pub record NamesClosed (v : View) (others : List (ℕ × View)) (k : Key) : Type 0 where
  pub lpi : LpiValue
  pub found : View
  pub there : IsApprovedLpi v k lpi
  pub first : IsFirstWith (views_in_turn v others) lpi.usrn found
  pub closed : IsClosedStreet found lpi.usrn

-- 34: k is an approved LPI, and the first view that has its street lacks the descriptor in its
-- language
pub record NamesUnnamed (v : View) (others : List (ℕ × View)) (k : Key) : Type 0 where
  pub lpi : LpiValue
  pub found : View
  pub there : IsApprovedLpi v k lpi
  pub first : IsFirstWith (views_in_turn v others) lpi.usrn found
  pub unnamed : holds found (key.Descriptor lpi.usrn lpi.lang) ≡ false

-- 34: a descriptor that isn't there, its street is, and an approved LPI has that street and
-- language
pub record LeavesLpi (v : View) (k : Key) : Type 0 where
  pub usrn : ℕ
  pub lang : Lang
  pub is : k ≡ key.Descriptor usrn lang
  pub gone : holds v k ≡ false
  pub street_there : holds v (key.Street usrn) ≡ true
  pub lpi_key : Key
  pub lpi : LpiValue
  pub lpi_there : IsApprovedLpi v lpi_key lpi
  pub on_it : lpi.usrn ≡ usrn
  pub in_it : lpi.lang ≡ lang

-- 35: a BLPU with a parent, under which nothing stands
pub record LacksParent (v : View) (k : Key) : Type 0 where
  pub uprn : ℕ
  pub blpu : BlpuValue
  pub parent : ℕ
  pub is : k ≡ key.Blpu uprn
  pub there : fin.get v.items k ≡ Some (item.Blpu blpu)
  pub is_part : blpu.parent ≡ Some parent
  pub gone : fin.get v.items (key.Blpu parent) ≡ None

-- 35: a BLPU that isn't there, and one that is has it as parent
pub record LeavesParts (v : View) (k : Key) : Type 0 where
  pub uprn : ℕ
  pub is : k ≡ key.Blpu uprn
  pub gone : fin.get v.items k ≡ None
  pub part_key : Key
  pub part : BlpuValue
  pub there : fin.get v.items part_key ≡ Some (item.Blpu part)
  pub is_part : part.parent ≡ Some uprn

-- 37: k is an approved LPI whose BLPU is historical
pub record NamesPast (v : View) (k : Key) : Type 0 where
  pub lpi : LpiValue
  pub there : IsApprovedLpi v k lpi
  pub past : IsPastBlpu v lpi.uprn

-- 37: a historical BLPU that has an approved LPI
pub record PastUnderLpi (v : View) (k : Key) : Type 0 where
  pub uprn : ℕ
  pub is : k ≡ key.Blpu uprn
  pub past : IsPastBlpu v uprn
  pub lpi_key : Key
  pub lpi : LpiValue
  pub lpi_there : IsApprovedLpi v lpi_key lpi
  pub its : lpi.uprn ≡ uprn

-- 38: a descriptor is there, and its street isn't
pub record LacksOwnStreet (v : View) (k : Key) : Type 0 where
  pub usrn : ℕ
  pub lang : Lang
  pub is : k ≡ key.Descriptor usrn lang
  pub there : holds v k ≡ true
  pub gone : holds v (key.Street usrn) ≡ false

-- 39: a closed street that an approved LPI names
pub record ClosedUnderLpi (v : View) (k : Key) : Type 0 where
  pub usrn : ℕ
  pub is : k ≡ key.Street usrn
  pub closed : IsClosedStreet v usrn
  pub lpi_key : Key
  pub lpi : LpiValue
  pub lpi_there : IsApprovedLpi v lpi_key lpi
  pub on_it : lpi.usrn ≡ usrn

-- each test of a key is true just where its sentence holds, whatever the key's kind
pub record TestsSay : Type 0 where
  pub second : (v : View) (k : Key) → (is_second v k ≡ true) ↔ HasSecond v k
  pub blpu : (v : View) (k : Key) → (lacks_blpu v k ≡ true) ↔ LacksBlpu v k
  pub ties : (v : View) (k : Key) → (leaves_ties v k ≡ true) ↔ LeavesTies v k
  pub found : (v w : View) (others : List (ℕ × View)) (usrn : ℕ) → (found_in v others usrn ≡ Some w)
      ↔ IsFirstWith (views_in_turn v others) usrn w
  pub nowhere : (v : View) (others : List (ℕ × View)) (usrn : ℕ) → (found_in v others usrn ≡ None)
      ↔ HaveNone (views_in_turn v others) usrn
  pub street : (v : View) (others : List (ℕ × View)) (k : Key) → (lacks_street v others k ≡ true)
      ↔ NamesNowhere v others k
  pub open_street : (v : View) (others : List (ℕ × View)) (k : Key)
      → (names_closed v others k ≡ true) ↔ NamesClosed v others k
  pub descriptor : (v : View) (others : List (ℕ × View)) (k : Key)
      → (lacks_descriptor v others k ≡ true) ↔ NamesUnnamed v others k
  pub leaves : (v : View) (k : Key) → (leaves_lpi v k ≡ true) ↔ LeavesLpi v k
  pub parent : (v : View) (k : Key) → (lacks_parent v k ≡ true) ↔ LacksParent v k
  pub parts : (v : View) (k : Key) → (leaves_parts v k ≡ true) ↔ LeavesParts v k
  pub names_past : (v : View) (k : Key) → (names_past v k ≡ true) ↔ NamesPast v k
  pub past_under_lpi : (v : View) (k : Key) → (past_under_lpi v k ≡ true) ↔ PastUnderLpi v k
  pub own_street : (v : View) (k : Key) → (lacks_own_street v k ≡ true) ↔ LacksOwnStreet v k
  pub closed_under_lpi : (v : View) (k : Key) → (closed_under_lpi v k ≡ true) ↔ ClosedUnderLpi v k
