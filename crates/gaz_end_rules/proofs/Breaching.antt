-- What a key breaks, from what was looked up.
use Rattle.std.proofs.Common.{◌≡◌, ◌∙◌, ℕ, Bool, false, cond, not, List, ap, sym}
use Rattle.std.specs.Prelude.{None, Some, is_none, length, ◌&&◌, ◌==◌}
use Rattle.std.specs.Option.{option_and_then}
use Rattle.std.specs.List.{list_any}
use Rattle.std.specs.FinMap as map
use Rattle.gaz_ids.specs.declared.status.Status.TheVariants.{Approved}
use Rattle.gaz_records.specs.Lpis.{LpiValue}
use Rattle.gaz_records.specs.declared.item.Item.TheVariants as item
use Rattle.gaz_records.specs.declared.key.Key.{Key}
use Rattle.gaz_records.specs.declared.key.Key.TheVariants as key
use Rattle.gaz_views.specs.View.{View, holds}
use Rattle.gaz_views.specs.Words.{approved_of, blpu_named, is_approved}
use Rattle.gaz_end_rules.specs.Breaches.{blpu_state, key_faults, name_faults, no_key_fault}
use Rattle.gaz_end_rules.specs.EndRules.{approved_at, as_approved, blpu_at, found_in, if_some, is_closed, is_historical, is_past, leaves_parts, leaves_ties, same_key}
use Rattle.gaz_end_rules.specs.Streets.{street_faults}
use Rattle.gaz_end_rules.specs.declared.name_faults.BlpuState.{BlpuState}
use Rattle.gaz_end_rules.specs.declared.streets.StreetFaults.{StreetFaults}
use Rattle.gaz_end_rules.proofs.Walks.{no_parent}

-- a number under which no BLPU stands
pub no_blpu : (v : View) (uprn : ℕ) (ties parts : Bool) → blpu_at v uprn ≡ None → ties ≡ leaves_ties v (key.Blpu uprn) → parts ≡ leaves_parts v (key.Blpu uprn)
    → record no_key_fault { leaves_ties = ties; leaves_parts = parts } ≡ key_faults v (key.Blpu uprn)
no_blpu v uprn ties parts e tied_by parted_by =
    let parent = ap (option_and_then (λ b. b.parent)) e in
    let lacks = ap (λ o. if_some o (λ p. not (holds v (key.Blpu p)))) parent in
    let ring = no_parent v uprn parent in
    let past = ap (λ o. if_some o (λ b. is_historical b.status) && not (length (approved_of v uprn) == 0)) e in
    λ i. record {
      leaves_ties = tied_by i;
      leaves_lpi = false;
      lacks_parent = sym lacks i;
      leaves_parts = parted_by i;
      is_own_ancestor = sym ring i;
      past_under_lpi = sym past i;
      lacks_own_street = false;
      closed_under_lpi = false;
    }

-- an approved LPI
pub approved_breaks : (v : View) (out : List (ℕ × View)) (k : Key) (l : LpiValue) (second : Bool) (b : BlpuState) (s : StreetFaults)
    → map.get v.items k ≡ Some (item.Lpi l) → l.status ≡ Approved
    → second ≡ list_any (λ m. not (same_key m k)) (approved_of v l.uprn) → b ≡ blpu_state v l.uprn → s ≡ street_faults v out l.usrn l.lang
    → record { is_second = second; lacks_blpu = not b.is_there; lacks_street = s.is_nowhere; names_closed = s.is_closed; lacks_descriptor = s.is_unnamed; names_past = b.is_past } ≡ name_faults v out k
approved_breaks v out k l second b s here status seconds blpu street =
    let at : approved_at v k ≡ Some l = ap (option_and_then as_approved) here ∙ ap (λ t. cond (is_approved t) (Some l) None) status in
    let named : option_and_then blpu_named (map.get v.items k) ≡ Some l.uprn = ap (option_and_then blpu_named) here in
    let p1 = seconds ∙ sym (ap (λ o. if_some o (λ x. list_any (λ m. not (same_key m k)) (approved_of v x.uprn))) at) in
    let p2 = ap (λ x. not x.is_there) blpu ∙ sym (ap (λ o. if_some o (λ uprn. not (holds v (key.Blpu uprn)))) named) in
    let p3 = ap (λ x. x.is_nowhere) street ∙ sym (ap (λ o. if_some o (λ x. is_none (found_in v out x.usrn))) at) in
    let p4 = ap (λ x. x.is_closed) street ∙ sym (ap (λ o. if_some o (λ x. if_some (found_in v out x.usrn) (λ w. is_closed w x.usrn))) at) in
    let p5 = ap (λ x. x.is_unnamed) street ∙ sym (ap (λ o. if_some o (λ x. if_some (found_in v out x.usrn) (λ w. not (holds w (key.Descriptor x.usrn x.lang))))) at) in
    let p6 = ap (λ x. x.is_past) blpu ∙ sym (ap (λ o. if_some o (λ x. is_past v x.uprn)) at) in
    λ i. record { is_second = p1 i; lacks_blpu = p2 i; lacks_street = p3 i; names_closed = p4 i; lacks_descriptor = p5 i; names_past = p6 i }
