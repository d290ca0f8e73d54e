-- What the definitions on custody come to on worked examples.
use Rattle.std.proofs.Common.{◌≡◌, ◌∙◌, ◌||◌, ℕ, false, cond, ap, refl, is_some}
use Rattle.std.specs.Prelude.{Some, None, Option}
use Rattle.std.specs.Cmp.{nat_cmp_total}
use Rattle.std.specs.FinMap as map
use Rattle.std.specs.FinSet as set
use Rattle.std.specs.Ordering.{eq_by_cmp, nat_cmp}
use Rattle.gaz_records.proofs.KeyOrder.{keys_total}
use Rattle.gaz_records.specs.Keys.{key_cmp}
use Rattle.gaz_records.specs.declared.item.Item.TheVariants as item
use Rattle.gaz_records.specs.declared.key.Key.{Key}
use Rattle.gaz_records.specs.declared.key.Key.TheVariants as key
use Rattle.gaz_views.proofs.Emptiness.{no_custody, used_none}
use Rattle.gaz_views.proofs.Examples.{in_turn}
use Rattle.gaz_views.specs.CustodyExamples.{WorkedCustody, WorkedTies, alone, given_back, given_up, taken}
use Rattle.gaz_views.specs.View.{custody_at, empty_view, was_used}
use Rattle.gaz_views.specs.declared.custody.Custody.{Custody}
use Rattle.gaz_views.specs.declared.custody.Custody.TheVariants.{Adopted, Released}

abbrev other : ℕ → ℕ → Option Custody → Custody → Option Custody
other n m rest custody = cond (eq_by_cmp nat_cmp n m) (Some custody) rest

given_up_at : (n : ℕ) → custody_at given_up n ≡ other n 500 None (Released 1002 1)
given_up_at n = map.get-insert nat_cmp_total empty_view.custody 500 (Released 1002 1) n ∙ ap (λ o. other n 500 o (Released 1002 1)) (no_custody n)

taken_at : (n : ℕ) → custody_at taken n ≡ other n 500 None (Adopted 1001 1)
taken_at n = map.get-insert nat_cmp_total empty_view.custody 500 (Adopted 1001 1) n ∙ ap (λ o. other n 500 o (Adopted 1001 1)) (no_custody n)

given_back_at : (n : ℕ) → custody_at given_back n ≡ other n 500 (custody_at taken n) (Released 1001 2)
given_back_at n = map.get-insert nat_cmp_total taken.custody 500 (Released 1001 2) n

used_at : (k : Key) → was_used given_up k ≡ (eq_by_cmp key_cmp k (key.Blpu 500) || false)
used_at k = set.contains-insert keys_total empty_view.used (key.Blpu 500) k ∙ ap (λ b. eq_by_cmp key_cmp k (key.Blpu 500) || b) (used_none k)

pub custody_holds : WorkedCustody
custody_holds = record {
  own_held = rw (no_custody 500) refl;
  other_not_held = rw (no_custody 500) refl;
  no_hop = rw (no_custody 500) refl;
  is_given_up = given_up_at 500;
  given_up_not_held = rw (given_up_at 500) refl;
  given_up_used = used_at (key.Blpu 500);
  others_not_used = used_at (key.Blpu 501);
  others_held = rw (given_up_at 501) refl;
  is_taken = taken_at 500;
  taken_held = rw (taken_at 500) refl;
  taken_stands = map.get-insert keys_total empty_view.items (key.Blpu 500) (item.Blpu alone) (key.Blpu 500);
  is_given_back = given_back_at 500;
  given_back_not_held = rw (given_back_at 500) refl;
  given_back_stands_not = ap is_some (map.get-remove keys_total taken.items (key.Blpu 500) (key.Blpu 500));
  second_hop = rw (given_back_at 500) refl;
}

pub ties_hold : WorkedTies
ties_hold = record {
  is_tied = rw in_turn refl;
  part_is_tied = rw in_turn refl;
  is_not_tied = rw in_turn refl;
}
