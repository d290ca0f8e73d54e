-- The bytes of an inlet.
use Rattle.std.proofs.Common.{◌≡◌, ℕ, suc, ◌+◌, ◌-◌, ◌≤◌, List, [], ◌∷◌, ◌++◌, length, take, drop, refl, ap, ◌∙◌, sym, arith, length-take, length-drop}
use Rattle.std.proofs.lemmas.List.{take-take, drop-take}
use Rattle.std.proofs.lemmas.List.Edits.{take-paste}
use Rattle.std.proofs.lemmas.Slice.{take-put_mid}
use Rattle.std.proofs.Math.Seq.{paste}
use borrow.Rule.Slice.PartMut.{put_mid}

take_past : (a b : List ℕ) (n : ℕ) → take (length a + n) (a ++ b) ≡ a ++ take n b
take_past [] b n = let e : 0 + n ≡ n = omega arith in rw e refl
take_past (x ∷ a) b n = let e : length (x ∷ a) + n ≡ suc (length a + n) = omega arith in rw e (ap (λ l. x ∷ l) (take_past a b n))

-- n bytes more behind the first e
pub filled : (e k n : ℕ) (xs ys : List ℕ) → e ≤ length xs → n ≤ length ys → take (e + n) (put_mid e k xs ys) ≡ take e xs ++ take n ys
filled e k n xs ys h m =
    let whole = take-put_mid e k xs ys (e + length ys) refl h in
    let len : length (take e xs) ≡ e = omega (arith, length-take e xs) in
    sym (take-take (e + n) (e + length ys) (put_mid e k xs ys) (omega arith)) ∙ ap (take (e + n)) whole
    ∙ ap (λ m. take (m + n) (take e xs ++ ys)) (sym len) ∙ take_past (take e xs) ys n

-- a part copied to the front
pub moved : (start end : ℕ) (old new : List ℕ) → start ≤ end → end ≤ length old → new ≡ paste old 0 (drop start old) (end - start)
    → take (end - start) new ≡ drop start (take end old)
moved start end old new h k e =
    let n = end - start in
    let none : 0 + n ≡ n = omega arith in
    let sum : start + n ≡ end = omega arith in
    let front = take-paste old 0 (drop start old) n (omega arith) (omega (arith, length-drop start old)) in
    ap (take n) e ∙ ap (λ m. take m (paste old 0 (drop start old) n)) (sym none) ∙ front ∙ sym (drop-take start n old) ∙ ap (λ m. drop start (take m old)) sum
