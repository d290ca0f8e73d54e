-- The keys that rows name, in order.
use Rattle.std.proofs.Common.{◌≡◌, ◌∙◌, ◌<◌, ℕ, List, [], ◌∷◌, inl, map, length, get_or, refl, sym, ap, subst}
use Rattle.std.specs.Prelude.{Option, Some, Result, Ok, Err, IfOk}
use Rattle.std.specs.List.Sorted.{IsStrictlySortedBy}
use Rattle.sqlite.specs.Order.{Row, column}
use Rattle.sqlite_rules.specs.Lists.{Has}
use Rattle.sqlite_rules.proofs.ListLemmas.{has_at}
use Rattle.sqlite_rules.proofs.ProbeLemmas.{has_mapped, mapped_has}
use Rattle.gaz_standing.proofs.KeyHistories.{keys_ascend}
use Rattle.gaz_standing.proofs.Passing.{has, key_map, keys_still}
use Rattle.gaz_records.proofs.KeyOrder.{keys_exact, keys_total}
use Rattle.gaz_records.specs.Keys.{key_cmp}
use Rattle.gaz_records.specs.declared.item.Item.{Item}
use Rattle.gaz_records.specs.declared.item.Kind.TheVariants as kind
use Rattle.gaz_records.specs.declared.key.Key.{Key}
use Rattle.gaz_cells.specs.Ids.{key_named}
use Rattle.gaz_overlay.specs.Questions.{in_order}
use Rattle.gaz_row_items.specs.Addresses.{Names, NamesAddress, SaysAddress, SaysFirst, SaysKeys, SaysLeast, ShowsFirst}
use Rattle.gaz_row_items.specs.Decoding.{Each, IsItemAt, ShowsItem}
use Rattle.gaz_row_items.specs.Versions.{text_in}
use Rattle.gaz_row_items.proofs.Pairs.{has_tied, ties_has}
use Rattle.gaz_row_items.proofs.Told.{shown_key}

abbrev named_in : Row → Option Key
named_in r = key_named kind.Lpi (text_in (column r 0))

pub keys_named : (rows : List Row) (one keys : List Key) → map named_in rows ≡ map Some one → keys ≡ in_order one → SaysKeys rows keys
keys_named rows one keys are sorted = record {
  named = λ r there.
      let k = has_mapped Some one (named_in r) (subst (λ l. Has l (named_in r)) are (mapped_has named_in rows r there)) in
      (k.0, k.2, has_tied keys_total keys_exact k.0 keys (same k.0 ∙ ties_has keys_total keys_exact k.0 one k.1));
  only = λ k there.
      let here = has_tied keys_total keys_exact k one (sym (same k) ∙ ties_has keys_total keys_exact k keys there) in
      let r = has_mapped named_in rows (Some k) (subst (λ l. Has l (Some k)) (sym are) (mapped_has Some one k here)) in
      (r.0, r.1, sym r.2);
  rising = subst (IsStrictlySortedBy key_cmp) (sym sorted) (keys_ascend (key_map one));
}
  where
    same : (k : Key) → has keys k ≡ has one k
    same k = ap (λ (l : List Key). has l k) sorted ∙ keys_still one k

-- ---- the address of a key

-- the row in which it was found
pub address_at : {E : Type 0} (rows : List Row) (k q : Key) (r : Row) (at : ℕ) (found : Result Item E) → at < length rows → r ≡ get_or rows at r → Names r q → q ≡ k
    → IfOk found (IsItemAt r 1 k) → IfOk found (SaysAddress rows k)
address_at rows k q r at (Err e) within is named same item = tt
address_at rows k q r at (Ok x) within is named same item = record { row = r; there = has_at rows at r within is; named = subst (Names r) same named; item = item }

pub least_of : {E : Type 0} (rows : List Row) (keys : List Key) (found : Result (Option Item) E) → SaysKeys rows keys → IfOk found (SaysFirst rows keys) → IfOk found (SaysLeast rows)
least_of rows keys (Err e) said first = tt
least_of rows keys (Ok x) said first = record { keys = keys; said = said; first = first }

-- ---- as a store writes them

pub named_shown : (rows : List Row) → Each (ShowsItem kind.Lpi) rows → Each NamesAddress rows
named_shown rows each r there = shown_key kind.Lpi r (each r there)

pub first_shown : (rows : List Row) (keys : List Key) → SaysKeys rows keys → Each (ShowsItem kind.Lpi) rows → ShowsFirst rows keys
first_shown rows [] said each = tt
first_shown rows (k ∷ keys) said each =
    let r = said.only k (inl refl) in
    record { each = each; row = r.0; there = r.1; named = r.2 }
