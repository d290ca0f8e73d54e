-- What stands at a key, by the rows of histories in turn.
use Rattle.std.proofs.Common.{◌≡◌, ◌↔◌, ◌≤◌, ◌<◌, ◌+◌, ◌∙◌, ◌++◌, ◌||◌, ◌&&◌, ℕ, Bool, true, false, cond, nat_le, nat_lt, ap, refl, List, [], ◌∷◌, map, arith}
use Rattle.std.proofs.lemmas.Bool.Decides.{nat_tests}
use Rattle.std.specs.Prelude.{Option, Some, None, filter}
use Rattle.std.specs.FinMap as finite
use Rattle.std.specs.FinMap.{find}
use Rattle.std.specs.FinSet as set
use Rattle.std.specs.List.{AllByRecursion, list_any}
use Rattle.gaz_records.proofs.KeyOrder.{keys_total}
use Rattle.gaz_records.specs.Keys.{key_cmp}
use Rattle.gaz_records.specs.declared.item.Item.{Item}
use Rattle.gaz_records.specs.declared.key.Key.{Key}
use Rattle.gaz_views.specs.View.{was_used}
use Rattle.gaz_overlay.specs.Changes.{Changes, stood_in}
use Rattle.gaz_overlay.specs.Rows.{HistoryRow, IsUntil, holds_after, is_born_by, never, view_after}
use Rattle.gaz_overlay.specs.declared.touch.Stood.TheVariants.{Since}
use Rattle.gaz_overlay.proofs.Laid.{besides, tie}

abbrev pub Rows : Type 0
Rows = List HistoryRow

-- ---- what stands at a key, by the rows in turn

abbrev pub stands : ℕ → Key → Rows → Option Item
stands t q [] = None
stands t q (r ∷ rows) = cond (holds_after t r && tie q r.key) (Some r.item) (stands t q rows)

abbrev pub uses : ℕ → Key → Rows → Bool
uses t q [] = false
uses t q (r ∷ rows) = (is_born_by t r && tie q r.key) || uses t q rows

stands_is : (t : ℕ) (q : Key) (rows : Rows) → find key_cmp q (map (λ r. (r.key, r.item)) (filter (holds_after t) rows)) ≡ stands t q rows
stands_is t q [] = refl
stands_is t q (r ∷ rows) =
    elim (holds_after t r) as (λ b. find key_cmp q (map (λ r. (r.key, r.item)) (cond b (r ∷ filter (holds_after t) rows) (filter (holds_after t) rows))) ≡ cond (b && tie q r.key) (Some r.item) (stands t q rows)) [
      | true ↦ ap (cond (tie q r.key) (Some r.item)) (stands_is t q rows)
      | false ↦ stands_is t q rows
    ]

uses_is : (t : ℕ) (q : Key) (rows : Rows) → list_any (tie q) (map (λ r. r.key) (filter (is_born_by t) rows)) ≡ uses t q rows
uses_is t q [] = refl
uses_is t q (r ∷ rows) =
    elim (is_born_by t r) as (λ b. list_any (tie q) (map (λ r. r.key) (cond b (r ∷ filter (is_born_by t) rows) (filter (is_born_by t) rows))) ≡ ((b && tie q r.key) || uses t q rows)) [
      | true ↦ ap (λ u. tie q r.key || u) (uses_is t q rows)
      | false ↦ uses_is t q rows
    ]

pub item_after : (rows : Rows) (t : ℕ) (q : Key) → finite.get (view_after rows t).items q ≡ stands t q rows
unfolding view_after
item_after rows t q = finite.get-from_entries keys_total (map (λ r. (r.key, r.item)) (filter (holds_after t) rows)) q ∙ stands_is t q rows

pub used_after : (rows : Rows) (t : ℕ) (q : Key) → was_used (view_after rows t) q ≡ uses t q rows
unfolding view_after
used_after rows t q = set.contains-from_list keys_total (map (λ r. r.key) (filter (is_born_by t) rows)) q ∙ uses_is t q rows

-- nothing is passed on
pub no_custody : (rows : Rows) (t : ℕ) → (view_after rows t).custody ≡ finite.empty
unfolding view_after
no_custody rows t = refl

pub stands_both : (t : ℕ) (q : Key) (a b : Rows) → stands t q (a ++ b) ≡ besides (stands t q a) (stands t q b)
stands_both t q [] b = refl
stands_both t q (r ∷ a) b =
    elim (holds_after t r && tie q r.key) as (λ x. cond x (Some r.item) (stands t q (a ++ b)) ≡ besides (cond x (Some r.item) (stands t q a)) (stands t q b)) [
      | true ↦ refl
      | false ↦ stands_both t q a b
    ]

pub uses_both : (t : ℕ) (q : Key) (a b : Rows) → uses t q (a ++ b) ≡ (uses t q a || uses t q b)
uses_both t q [] b = refl
uses_both t q (r ∷ a) b =
    elim (is_born_by t r && tie q r.key) as (λ x. (x || uses t q (a ++ b)) ≡ ((x || uses t q a) || uses t q b)) [
      | true ↦ refl
      | false ↦ uses_both t q a b
    ]

-- ---- what is given

-- where the changes say that a current row was born in a volume, it is the one that was
pub record IsNoted (c : Changes) (r : HistoryRow) : Type 0 where
  pub noted : (volume : ℕ) → stood_in c.touched r.key ≡ Since volume → (r.gone ≡ never) ↔ (r.born ≡ volume)

pub record Given (n : ℕ) (c : Changes) (rows : Rows) : Type 0 where
  pub room : n + 1 < never
  pub until : AllByRecursion (IsUntil n) rows
  pub noted : AllByRecursion (IsNoted c) rows

-- ---- tests

pub le_so : (a b : ℕ) → a ≤ b → nat_le a b ≡ true
le_so a b h = grind (arith, nat_tests)

pub le_no : (a b : ℕ) → b < a → nat_le a b ≡ false
le_no a b h = grind (arith, nat_tests)

pub lt_so : (a b : ℕ) → a < b → nat_lt a b ≡ true
lt_so a b h = grind (arith, nat_tests)

pub lt_no : (a b : ℕ) → b ≤ a → nat_lt a b ≡ false
lt_no a b h = grind (arith, nat_tests)

pub skips : {A : Type 0} (h : Bool) (x y : A) → cond (h && false) x y ≡ y
skips true x y = refl
skips false x y = refl

pub or_skips : (h b : Bool) → ((h && false) || b) ≡ b
or_skips true b = refl
or_skips false b = refl

pub none_either : (b : Bool) → let none : Option Item = None in none ≡ cond b none none
none_either true = refl
none_either false = refl

pub and_none : (b : Bool) → (b && false) ≡ false
and_none true = refl
and_none false = refl

pub or_none : (b : Bool) → (b || false) ≡ b
or_none true = refl
or_none false = refl
