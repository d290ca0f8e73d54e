-- Digits in a fixed width are in the order of their numbers.
use Rattle.std.proofs.Common.{◌≡◌, ℕ, zero, suc, ◌+◌, ◌*◌, ◌/◌, ◌%◌, ◌^◌, ◌<◌, List, [], ◌∷◌, ◌++◌, length, refl, sym, ◌∙◌, arith}
use Rattle.std.proofs.lemmas.Cmp.{by_ranked, ranked}
use Rattle.std.specs.Cmp.{nat_cmp_is}
use Rattle.std.specs.Cmp.Lexicographic.{slice_cmp}
use Rattle.std.specs.Ordering.{nat_cmp, ordering_then}
use Rattle.std.specs.declared.cmp.Ordering.{Ordering}
use Rattle.std.specs.declared.cmp.Ordering.TheVariants.{Less, Equal, Greater}
use Rattle.gaz_fields.proofs.LabelOrder.{ahead, behind, greater, less}
use Rattle.gaz_cells.specs.Digits.{digits_in}
use Rattle.gaz_cells.proofs.Digits.{digits_size, shorter}

in_turn : (k x y : Ordering) → ordering_then (ordering_then k x) y ≡ ordering_then k (ordering_then x y)
in_turn Less x y = refl
in_turn Equal x y = refl
in_turn Greater x y = refl

pub then_equal : (o : Ordering) → ordering_then o Equal ≡ o
then_equal Less = refl
then_equal Equal = refl
then_equal Greater = refl

-- texts that begin with as many bytes
pub cmp_append : (a b c d : List ℕ) → length a ≡ length b → slice_cmp nat_cmp (a ++ c) (b ++ d) ≡ ordering_then (slice_cmp nat_cmp a b) (slice_cmp nat_cmp c d)
cmp_append [] [] c d e = refl
cmp_append [] (y ∷ b) c d e = absurd (omega arith)
cmp_append (x ∷ a) [] c d e = absurd (omega arith)
cmp_append (x ∷ a) (y ∷ b) c d e = rw (cmp_append a b c d (omega arith)) (sym (in_turn (nat_cmp x y) (slice_cmp nat_cmp a b) (slice_cmp nat_cmp c d)))

two_parts : (p k l x y : ℕ) → x < p → y < p → nat_cmp (k * p + x) (l * p + y) ≡ ordering_then (nat_cmp k l) (nat_cmp x y)
two_parts p k l x y h i =
    by_ranked (k < l) (k ≡ l) (l < k) (nat_cmp k l) (ranked k l _ refl)
    (λ o r. rw (o, less _ _ (ahead k l p x y h r)) refl)
    (λ o r. rw (o, r) (behind (l * p) x y))
    (λ o r. rw (o, greater _ _ (ahead l k p y x i r)) refl)

pub digits_order : (w m n : ℕ) → m < 10 ^ w → n < 10 ^ w → slice_cmp nat_cmp (digits_in w m) (digits_in w n) ≡ nat_cmp m n
unfolding digits_in
digits_order zero m n h i = nat_cmp_is m n Equal (omega arith)
digits_order (suc w) m n h i =
    let size : length (digits_in w (m / 10)) ≡ length (digits_in w (n / 10)) = digits_size w (m / 10) ∙ sym (digits_size w (n / 10)) in
    let parts = two_parts 10 (m / 10) (n / 10) (m % 10) (n % 10) (omega arith) (omega arith) in
    let one : m / 10 * 10 + m % 10 ≡ m = omega arith in
    let other : n / 10 * 10 + n % 10 ≡ n = omega arith in
    rw (cmp_append _ _ ((48 + m % 10) ∷ []) ((48 + n % 10) ∷ []) size, digits_order w (m / 10) (n / 10) (shorter w m h) (shorter w n i), behind 48 (m % 10) (n % 10), then_equal (nat_cmp (m % 10) (n % 10)))
    (sym (rw (one, other) at parts))
