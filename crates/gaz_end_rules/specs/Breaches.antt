-- The end rules that a key breaks, by what stands there and by the key itself.
use Rattle.std.specs.Prelude.{ℕ, Bool, false, ◌||◌, List, [], ◌∷◌, map}
use Rattle.gaz_records.specs.declared.key.Key.{Key}
use Rattle.gaz_records.specs.declared.key.Key.TheVariants as key
use Rattle.gaz_views.specs.View.{View, holds}
use Rattle.gaz_end_rules.specs.EndRules.{closed_under_lpi, is_own_ancestor, is_past, is_second}
use Rattle.gaz_end_rules.specs.EndRules.{lacks_blpu, lacks_descriptor, lacks_own_street}
use Rattle.gaz_end_rules.specs.EndRules.{lacks_parent, lacks_street, leaves_lpi, leaves_parts}
use Rattle.gaz_end_rules.specs.EndRules.{leaves_ties, names_closed, names_past, past_under_lpi}
use Rattle.gaz_end_rules.specs.declared.end_rules.Asked.{Asked}
use Rattle.gaz_end_rules.specs.declared.key_faults.KeyFaults.{KeyFaults}
use Rattle.gaz_end_rules.specs.declared.name_faults.BlpuState.{BlpuState}
use Rattle.gaz_end_rules.specs.declared.name_faults.NameFaults.{NameFaults}

-- whether a BLPU is there, and whether it is historical
abbrev pub blpu_state : View → ℕ → BlpuState
blpu_state v uprn = record { is_there = holds v (key.Blpu uprn); is_past = is_past v uprn }

-- what an item breaks by what it names
abbrev pub name_faults : View → List (ℕ × View) → Key → NameFaults
name_faults v others k = record {
  is_second = is_second v k;
  lacks_blpu = lacks_blpu v k;
  lacks_street = lacks_street v others k;
  names_closed = names_closed v others k;
  lacks_descriptor = lacks_descriptor v others k;
  names_past = names_past v k;
}

-- at most that its BLPU isn't there
abbrev pub blpu_fault : Bool → NameFaults
blpu_fault lacks = record {
  is_second = false;
  lacks_blpu = lacks;
  lacks_street = false;
  names_closed = false;
  lacks_descriptor = false;
  names_past = false;
}

-- what a key breaks for what others name
abbrev pub key_faults : View → Key → KeyFaults
key_faults v k = record {
  leaves_ties = leaves_ties v k;
  leaves_lpi = leaves_lpi v k;
  lacks_parent = lacks_parent v k;
  leaves_parts = leaves_parts v k;
  is_own_ancestor = is_own_ancestor v k;
  past_under_lpi = past_under_lpi v k;
  lacks_own_street = lacks_own_street v k;
  closed_under_lpi = closed_under_lpi v k;
}

abbrev pub no_key_fault : KeyFaults
no_key_fault = record {
  leaves_ties = false;
  leaves_lpi = false;
  lacks_parent = false;
  leaves_parts = false;
  is_own_ancestor = false;
  past_under_lpi = false;
  lacks_own_street = false;
  closed_under_lpi = false;
}

-- the end rules by number, the least first
abbrev pub numbered : NameFaults → KeyFaults → List (ℕ × Bool)
numbered n k =
    (30, n.is_second)
    ∷ (31, n.lacks_blpu || k.leaves_ties)
    ∷ (32, n.lacks_street)
    ∷ (33, n.names_closed)
    ∷ (34, n.lacks_descriptor || k.leaves_lpi)
    ∷ (35, k.lacks_parent || k.leaves_parts)
    ∷ (36, k.is_own_ancestor)
    ∷ (37, n.names_past || k.past_under_lpi)
    ∷ (38, k.lacks_own_street)
    ∷ (39, k.closed_under_lpi)
    ∷ []

-- the rules that were asked, by number
abbrev pub answers : List Asked → List (ℕ × Bool)
answers = map (λ a. (a.rule, a.is_broken))
