-- The pages of a view whose items stand under their own keys rise.
use Rattle.std.proofs.Common.{◌≡◌, ◌-◌, ℕ, zero, suc, Bool, true, false, cond, ◌&&◌, List, [], ◌∷◌, map, length, take, refl, sym, ap, subst, ◌∙◌, slice_get}
use Rattle.std.specs.Prelude.{Option, Some, None, filter, nat_le, option_map}
use Rattle.std.specs.List.{All}
use Rattle.std.proofs.lemmas.List.Elements.{All-cons, All-head, All-nil, All-tail}
use Rattle.gaz_records.specs.Keys.{key_of}
use Rattle.gaz_records.specs.declared.item.Item.{Item}
use Rattle.gaz_records.specs.declared.item.Kind.{Kind}
use Rattle.gaz_records.specs.declared.key.Key.{Key}
use Rattle.gaz_views.proofs.Pages.{rows_keyed}
use Rattle.gaz_views.specs.Lawful.{IsKeyed}
use Rattle.gaz_views.specs.Reading.{next_after}
use Rattle.gaz_views.specs.View.{View}
use Rattle.gaz_views.specs.Words.{comes_after, entries, is_of, page, rest_of}
use Rattle.gaz_extract.specs.Paging.{rising}

abbrev Row : Type 0
Row = Key × Item

abbrev IsNamed : Row → Type 0
IsNamed e = key_of e.1 ≡ e.0

abbrev IsLater : Option Key → Item → Type 0
IsLater after i = comes_after after (key_of i) ≡ true

second_true : (a b : Bool) → (a && b) ≡ true → b ≡ true
second_true true b e = e
second_true false b e = cc

-- the rows of a kind after a key
abbrev rows_after : Kind → Option Key → List Row → List Row
rows_after kind after es = filter (λ e. is_of kind e.0 && comes_after after e.0) es

rows_later : (kind : Kind) (after : Option Key) (es : List Row) → All IsNamed es → All (IsLater after) (map (λ e. e.1) (rows_after kind after es))
rows_later kind after [] named = All-nil (IsLater after)
rows_later kind after (e ∷ es) named =
    let rest = rows_later kind after es (All-tail IsNamed e es named) in
    elim (is_of kind e.0 && comes_after after e.0) as (λ b. (is_of kind e.0 && comes_after after e.0) ≡ b → All (IsLater after) (map (λ (f : Row). f.1) (cond b (e ∷ rows_after kind after es) (rows_after kind after es)))) [
      | true ↦ λ is. All-cons (IsLater after) e.1 (map (λ (f : Row). f.1) (rows_after kind after es)) (ap (comes_after after) (All-head IsNamed e es named) ∙ second_true _ _ is) rest
      | false ↦ λ _. rest
    ] refl

taken_at : {X : Type 0} (P : X → Type 0) (m : ℕ) (xs : List X) (n : ℕ) (x : X) → All P xs → slice_get (take m xs) n ≡ Some x → P x
taken_at P zero xs n x all e = cc
taken_at P (suc m) [] n x all e = cc
taken_at P (suc m) (y ∷ ys) zero x all e = let same : y ≡ x = cc in subst P same (All-head P y ys all)
taken_at P (suc m) (y ∷ ys) (suc n) x all e = taken_at P m ys n x (All-tail P y ys all) e

last_of : (b : Bool) (o : Option Item) (k : Key) → cond b (option_map key_of o) None ≡ Some k → (i : Item) × (o ≡ Some i) × (key_of i ≡ k)
last_of true None k e = cc
last_of true (Some i) k e = (i, refl, cc)
last_of false o k e = cc

still_rising : (after o : Option Key) → ((k : Key) → o ≡ Some k → comes_after after k ≡ true) → rising after o ≡ o
still_rising after None h = refl
still_rising after (Some k) h = ap (λ b. cond b (Some k) None) (h k refl)

-- where a page of such a view is full, its last key comes after the one after which it began
pub pages_rise : (v : View) (kind : Kind) (after : Option Key) (most : ℕ) (items : List Item) → IsKeyed v → items ≡ page v kind after most → rising after (next_after most items) ≡ next_after most items
pages_rise v kind after most items keyed is =
    still_rising after (next_after most items) (λ k e.
    let last = last_of (nat_le most (length items)) (slice_get items (length items - 1)) k e in
    let later = taken_at (IsLater after) most (rest_of v kind after) (length items - 1) last.0 (rows_later kind after (entries v) (rows_keyed v keyed)) (ap (λ (xs : List Item). slice_get xs (length items - 1)) (sym is) ∙ last.1) in
    subst (λ (q : Key). comes_after after q ≡ true) last.2 later)
