-- Lives that are brought to hand, one after another.
use Rattle.std.proofs.Common.{◌≡◌, ◌∙◌, ◌-◌, ◌++◌, ℕ, ℤ, suc, List, [], ◌∷◌, length, slice_get, refl, sym, ap, subst, arith}
use Rattle.std.specs.Prelude.{Option, Some, None}
use Rattle.gaz_views.specs.View.{View, empty_view}
use Rattle.gaz_keeper.specs.Board.{Board, reached, verdict_on}
use Rattle.gaz_overlay.specs.Passages.{PassageRow, with_passages}
use Rattle.gaz_overlay.specs.Rows as rows
use Rattle.gaz_loaded.specs.Lives.{AreAtHand, AreOf, Told}
use Rattle.gaz_shelf.specs.Restoring.{IsRestored}
use Rattle.gaz_loaded.specs.Restoring.{AreRestored, HasPassages}
use Rattle.gaz_loaded.specs.Telling.{AreInTurn, last_of, told}
use Rattle.gaz_loaded.specs.declared.listed.Life.{Life}
use Rattle.gaz_loaded.proofs.Lives.{restored_is}

-- ---- one more

pub restored_more : (old mid new : Board) (xs : List Life) (x : Life) → AreRestored old xs mid → IsRestored mid new x.code x.born x.gone x.item → AreRestored old (xs ++ x ∷ []) new
restored_more old mid new [] x before now = (new, subst (λ b. IsRestored b new x.code x.born x.gone x.item) before now, refl)
restored_more old mid new (y ∷ xs) x before now = (before.0, before.1, restored_more before.0 mid new xs x before.2 now)

-- ---- what stays

pub as_many_then : (old new : Board) (xs : List Life) → AreRestored old xs new → (c : ℕ) → reached new c ≡ reached old c
as_many_then old new [] same c = ap (λ (b : Board). reached b c) same
as_many_then old new (x ∷ xs) restored c = as_many_then restored.0 new xs restored.2 c ∙ restored.1.reached c

pub verdicts_then : (old new : Board) (xs : List Life) → AreRestored old xs new → (c v : ℕ) → verdict_on new c v ≡ verdict_on old c v
verdicts_then old new [] same c v = ap (λ (b : Board). verdict_on b c v) same
verdicts_then old new (x ∷ xs) restored c v = verdicts_then restored.0 new xs restored.2 c v ∙ restored.1.verdicts c v

-- ---- what is at hand

place_after : Option ℤ → List Life → Option ℤ
place_after place [] = place
place_after place (x ∷ xs) = place_after (Some x.place) xs

last_behind : (x y : Life) (xs : List Life) → last_of (x ∷ y ∷ xs) ≡ last_of (y ∷ xs)
last_behind x y xs = let e : length (x ∷ y ∷ xs) - 1 ≡ suc (length (y ∷ xs) - 1) = omega arith in ap (slice_get (x ∷ y ∷ xs)) e

place_is : (place : Option ℤ) (xs : List Life) (last : Life) → last_of xs ≡ Some last → place_after place xs ≡ Some last.place
unfolding place_after
place_is place [] last is = let wrong : None ≡ Some last = is in cc
place_is place (x ∷ []) last is = let same : Some x ≡ Some last = is in ap (λ (o : Option Life). elim o [ Some y ↦ Some y.place | None ↦ None ]) same
place_is place (x ∷ y ∷ xs) last is = place_is (Some x.place) (y ∷ xs) last (sym (last_behind x y xs) ∙ is)

hand_then : (place : Option ℤ) (all : List Told) (passages : ℕ → List PassageRow) (kept old new : Board) (xs : List Life) → AreOf all passages kept → ((c : ℕ) → reached old c ≡ reached kept c) → AreAtHand place all passages old → AreInTurn place all xs
    → AreRestored old xs new → AreAtHand (place_after place xs) all passages new
unfolding place_after
hand_then place all passages kept old new [] are as_many hand turn same = subst (AreAtHand place all passages) (sym same) hand
hand_then place all passages kept old new (x ∷ xs) are as_many hand turn restored =
    hand_then (Some x.place) all passages kept restored.0 new xs are (λ c. restored.1.reached c ∙ as_many c)
    (restored_is place all passages kept old restored.0 (told x) x.gone are as_many hand turn.0 refl restored.1) turn.1 restored.2

pub hand_next : (place : Option ℤ) (all : List Told) (passages : ℕ → List PassageRow) (kept old new : Board) (xs : List Life) (last : Life) → last_of xs ≡ Some last → AreOf all passages kept → ((c : ℕ) → reached old c ≡ reached kept c) → AreAtHand place all passages old
    → AreInTurn place all xs → AreRestored old xs new → AreAtHand (Some last.place) all passages new
hand_next place all passages kept old new xs last is are as_many hand turn restored =
    subst (λ p. AreAtHand p all passages new) (place_is place xs last is) (hand_then place all passages kept old new xs are as_many hand turn restored)

-- none is, at first
nothing_there : (t : ℕ) → rows.view_after [] t ≡ empty_view
unfolding rows.view_after empty_view
nothing_there t = refl

pub hand_none : (all : List Told) (passages : ℕ → List PassageRow) (board : Board) → ((c : ℕ) → HasPassages (passages c) board c) → AreAtHand None all passages board
hand_none all passages board has = record {
  lives = λ c. [];
  only = λ c h none. absurd none;
  those = λ x there never. absurd never;
  views = λ c t le. has c t le ∙ ap (λ (v : View). with_passages v (passages c) t) (sym (nothing_there t));
}
