-- What a view holds after items were put into it and taken from it, for worked examples.
use Rattle.std.proofs.Common.{◌≡◌, ◌∙◌, ◌||◌, ℕ, true, false, cond, [], ap, refl, sym}
use Rattle.std.specs.Prelude.{Some, None}
use Rattle.std.specs.Cmp.{nat_cmp_total}
use Rattle.std.specs.Ordering.{eq_by_cmp, nat_cmp}
use Rattle.std.specs.FinMap as map
use Rattle.std.specs.FinSet as set
use Rattle.gaz_records.proofs.KeyOrder.{keys_exact, keys_total}
use Rattle.gaz_records.specs.Keys.{key_cmp}
use Rattle.gaz_records.specs.declared.item.Item.{Item}
use Rattle.gaz_records.specs.declared.key.Key.{Key}
use Rattle.gaz_views.specs.View.{empty_view}
use Rattle.gaz_views.specs.declared.custody.Custody.{Custody}
use Rattle.gaz_views.proofs.Emptiness.{no_custody}
use Rattle.gaz_views.proofs.Trees.{no_entries}
use Rattle.gaz_views.proofs.Examples.{get_none, used_none}
use Rattle.gaz_end_rules.proofs.Keys.{key_tied}

pub get-put : (m : map.FinMap key_cmp Item) (k : Key) (i : Item) (q : Key) → map.get (map.insert m k i) q ≡ cond (eq_by_cmp key_cmp q k) (Some i) (map.get m q)
get-put = map.get-insert keys_total

pub get-taken : (m : map.FinMap key_cmp Item) (k q : Key) → map.get (map.remove m k) q ≡ cond (eq_by_cmp key_cmp q k) None (map.get m q)
get-taken = map.get-remove keys_total

pub passed-on : (m : map.FinMap nat_cmp Custody) (n : ℕ) (x : Custody) (q : ℕ) → map.get (map.insert m n x) q ≡ cond (eq_by_cmp nat_cmp q n) (Some x) (map.get m q)
passed-on = map.get-insert nat_cmp_total

pub used-put : (s : set.FinSet key_cmp) (k q : Key) → set.contains (set.insert s k) q ≡ (eq_by_cmp key_cmp q k || set.contains s q)
used-put = set.contains-insert keys_total

pub entries-put : (m : map.FinMap key_cmp Item) (k : Key) (i : Item) → map.entries (map.insert m k i) ≡ map.put key_cmp k i (map.entries m)
entries-put = map.entries-insert keys_total

pub entries-none : map.entries empty_view.items ≡ []
unfolding empty_view
entries-none = no_entries _ _

-- what was put at a key that had nothing, and then taken, leaves the map as it was
pub taken-put : (m : map.FinMap key_cmp Item) (k : Key) (i : Item) → map.get m k ≡ None → map.remove (map.insert m k i) k ≡ m
taken-put m k i none =
    map.same_map keys_total keys_exact _ _ (λ q. get-taken (map.insert m k i) k q
    ∙ elim (eq_by_cmp key_cmp q k) as (λ b. eq_by_cmp key_cmp q k ≡ b → cond b None (map.get (map.insert m k i) q) ≡ map.get m q) [
      | true ↦ λ e. sym (ap (map.get m) (key_tied q k e) ∙ none)
      | false ↦ λ e. get-put m k i q ∙ ap (λ b. cond b (Some i) (map.get m q)) e
    ] refl)

-- what is taken at another key than the last that was put
pub taken-under : (m : map.FinMap key_cmp Item) (k : Key) (i : Item) (q : Key) → eq_by_cmp key_cmp q k ≡ false → map.remove (map.insert m k i) q ≡ map.insert (map.remove m q) k i
taken-under m k i q apart =
    map.same_map keys_total keys_exact _ _ (λ x. get-taken (map.insert m k i) q x
    ∙ ap (cond (eq_by_cmp key_cmp x q) None) (get-put m k i x)
    ∙ elim (eq_by_cmp key_cmp x q) as (λ b. eq_by_cmp key_cmp x q ≡ b → cond b None (cond (eq_by_cmp key_cmp x k) (Some i) (map.get m x)) ≡ cond (eq_by_cmp key_cmp x k) (Some i) (cond b None (map.get m x))) [
      | true ↦ λ e. sym (ap (λ b. cond b (Some i) None) (ap (λ y. eq_by_cmp key_cmp y k) (key_tied x q e) ∙ apart))
      | false ↦ λ _. refl
    ] refl
    ∙ ap (cond (eq_by_cmp key_cmp x k) (Some i)) (sym (get-taken m q x))
    ∙ sym (get-put (map.remove m q) k i x))

pub ruleset views = (get-put, get-taken, get_none, passed-on, no_custody, used-put, used_none, entries-put, entries-none, map.len-entries)
