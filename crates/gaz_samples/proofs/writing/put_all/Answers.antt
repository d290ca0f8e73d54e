use Rattle.std.proofs.Common.{◌≡◌, ◌∙◌, ◌&&◌, Bool, true, false, List, ◌∷◌, ap, rules, sym}
use Rattle.std.specs.List.{list_all}
use Rattle.gaz_records.specs.Items.{is_entry}
use Rattle.gaz_records.specs.declared.item.Item.{Item}
use Rattle.gaz_samples.proofs.writing.put_all.Goals as goal

behind_true : (a b : Bool) → (a && b) ≡ true → b ≡ true
behind_true true b h = h
behind_true false b h = cc

left_entries : (x : Item) (xs ys : List Item) → xs ≡ x ∷ ys → list_all is_entry xs ≡ true → list_all is_entry ys ≡ true
left_entries x xs ys e h = behind_true (is_entry x) _ (ap (list_all is_entry) (sym e) ∙ h)

pub loop-item-preserved : goal.loop-item-preserved
loop-item-preserved g c = record {
  harm = search rules;
  stands = search rules;
  going = search rules;
  counted = search rules;
  trust = search rules;
  left = search rules;
  undone = search rules;
  leaves = search rules;
  whole = search rules;
  full = search rules;
  entries = left_entries _ _ _ c.in-Some.ensures.steps.0 c.loop-item.invariant.entries;
  none_put = search rules;
}
