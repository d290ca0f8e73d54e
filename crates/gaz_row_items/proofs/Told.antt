-- What is told of rows as a store writes them.
use Rattle.std.proofs.Common.{◌≡◌, ◌∙◌, ◌<◌, ◌≤◌, ℕ, List, length, get_or, take, ap, subst, sym}
use Rattle.std.specs.Prelude.{Some, is_some}
use Rattle.std.specs.List.{AllByRecursion}
use Rattle.std.proofs.lemmas.List.{take_all}
use Rattle.sqlite.specs.declared.types.Value.{Value}
use Rattle.sqlite.specs.declared.types.Value.TheVariants.{Text}
use Rattle.sqlite.specs.Order.{Row, column}
use Rattle.sqlite_rules.specs.Lists.{Has}
use Rattle.sqlite_rules.proofs.ListLemmas.{all_has, has_at}
use Rattle.gaz_records.specs.declared.item.Kind.{Kind}
use Rattle.gaz_records.specs.declared.key.Key.{Key}
use Rattle.gaz_cells.specs.Ids.{key_named}
use Rattle.gaz_row_items.specs.Decoding.{Each, HasItemAt, NamesKey, ShowsItem}
use Rattle.gaz_row_items.specs.Versions.{IsText, text_in}

-- ---- rows of which each is so

-- the row that a loop has come to is so
pub each_at : (IsSo : Row → Type 0) (rows : List Row) (i : ℕ) (r : Row) → Each IsSo rows → i < length rows → r ≡ get_or rows i r → IsSo r
each_at IsSo rows i r each inside is = each r (has_at rows i r inside is)

-- where none was so at the loop's end, none is
pub none_so : (IsSo : Row → Type 0) (rows : List Row) (i : ℕ) → length rows ≤ i → AllByRecursion (λ r. ¬ IsSo r) (take i rows) → (r : Row) → Has rows r → ¬ IsSo r
none_so IsSo rows i done none r there = all_has (λ r. ¬ IsSo r) rows r (subst (AllByRecursion (λ r. ¬ IsSo r)) (take_all i rows done) none) there

is_text : (v : Value) (t : List ℕ) → v ≡ Text t → IsText v
is_text v t is = is ∙ ap Text (sym (ap text_in is))

-- ---- a row of id and body

pub shown_key : (kd : Kind) (r : Row) → ShowsItem kd r → NamesKey kd r 0
shown_key kd r shows = record { text = shows.text; named = ap is_some shows.named }

-- the item is at the key that was read
pub item_there : (kd : Kind) (r : Row) (k : Key) → ShowsItem kd r → key_named kd (text_in (column r 0)) ≡ Some k → HasItemAt r 1 k
item_there kd r k shows named = let same : shows.key ≡ k = cc in subst (HasItemAt r 1) same shows.item

pub shown_body : (kd : Kind) (r : Row) → ShowsItem kd r → IsText (column r 1)
shown_body kd r shows = let at = shows.item.1 in is_text (column r 1) at.text at.there
