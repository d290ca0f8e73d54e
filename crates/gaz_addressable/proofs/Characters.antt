-- What bytes tell of the characters that they encode.
use Rattle.std.proofs.Common.{◌≡◌, inl, inr, ℕ, suc, ◌-◌, ◌<◌, ◌≤◌, List, [], ◌∷◌, ◌++◌, length, get_or, Bool, true, false, refl, sym, ap, ◌∙◌, arith, length-append}
use Rattle.std.specs.Prelude.{IsUtf8, ◌&&◌, ◌==◌}
use Rattle.std.specs.List.{list_any}
use Rattle.std.specs.Str.{chars, is_utf8}
use Rattle.std.proofs.Math.Utf8.{encode, encodes}
use Rattle.std.proofs.lemmas.Bool.{cases_Bool}
use Rattle.std.proofs.lemmas.Bool.Decides.{nat_tests, leb_tells}
use Rattle.std.proofs.lemmas.List.{append-nil, get_or_append_left, get_or-append_right}
use Rattle.std.proofs.lemmas.List.Folds.{list_any-append}
use Rattle.std.proofs.lemmas.Str.{IsUtf8-from_is_utf8, is_utf8-from_IsUtf8, encodes-chars, encode_ascii, inside_one, length-encode, len_utf8_bounds, length-le-encodes}
use Rattle.gaz_addressable.specs.Texts.{is_control, are_plain, is_plain, char_count}

-- a character takes a byte or more
encode_some : (c : ℕ) → 0 < length (encode c)
encode_some c = omega (arith, length-encode c, len_utf8_bounds c)

-- no byte of a character beyond ASCII is ASCII
wide_byte : (c k : ℕ) → 128 ≤ c → k < length (encode c) → 128 ≤ get_or (encode c) k 0
wide_byte c k w h = elim (leb_tells 128 (get_or (encode c) k 0)) [
  | inl high ↦ high.1
  | inr low ↦ absurd (omega (arith, inside_one c [] (encode c) k (sym (append-nil (encode c))) h low.1))
]

wide_controls : (bs : List ℕ) → ((k : ℕ) → k < length bs → 128 ≤ get_or bs k 0) → list_any is_control bs ≡ false
wide_controls [] h = refl
wide_controls (b ∷ bs) h =
    let here : 128 ≤ b = h 0 (omega arith) in
    let no : is_control b ≡ false = grind (arith, nat_tests, here) in
    rw no (wide_controls bs (λ k l. h (suc k) (omega (arith, l))))

controls-encode : (c : ℕ) → list_any is_control (encode c) ≡ is_control c
controls-encode c = elim (leb_tells 128 c) [
  | inl wide ↦
      let no : is_control c ≡ false = grind (arith, nat_tests, wide.1) in
      wide_controls (encode c) (λ k l. wide_byte c k wide.1 l) ∙ sym no
  | inr ascii ↦ rw (encode_ascii c ascii.1) (grind (arith, nat_tests))
]

controls-encodes : (cs : List ℕ) → list_any is_control (encodes cs) ≡ list_any is_control cs
controls-encodes [] = refl
controls-encodes (c ∷ cs) = rw (list_any-append is_control (encode c) (encodes cs), controls-encode c, controls-encodes cs) refl

not_space : (n : ℕ) → 128 ≤ n → (n == 32) ≡ false
not_space n h = grind (arith, nat_tests, h)

-- one byte of a character is a space where the character is, whichever it is
space-encode : (c k : ℕ) → k < length (encode c) → (get_or (encode c) k 0 == 32) ≡ (c == 32)
space-encode c k h = elim (leb_tells 128 c) [
  | inl wide ↦ not_space _ (wide_byte c k wide.1 h) ∙ sym (not_space c wide.1)
  | inr ascii ↦
      let first : k ≡ 0 = omega (arith, ap length (encode_ascii c ascii.1)) in
      rw (first, encode_ascii c ascii.1) refl
]

first-encodes : (cs : List ℕ) → (get_or (encodes cs) 0 0 == 32) ≡ (get_or cs 0 0 == 32)
first-encodes [] = refl
first-encodes (c ∷ cs) = rw (get_or_append_left (encode c) (encodes cs) 0 0 (encode_some c)) (space-encode c 0 (encode_some c))

last-encodes : (cs : List ℕ) → (get_or (encodes cs) (length (encodes cs) - 1) 0 == 32) ≡ (get_or cs (length cs - 1) 0 == 32)
last-encodes [] = refl
last-encodes (c ∷ []) = rw (append-nil (encode c)) (space-encode c (length (encode c) - 1) (omega (arith, encode_some c)))
last-encodes (c ∷ d ∷ cs) =
    let some : 0 < length (encodes (d ∷ cs)) = omega (arith, length-le-encodes (d ∷ cs)) in
    let at : length (encode c ++ encodes (d ∷ cs)) - 1 - length (encode c) ≡ length (encodes (d ∷ cs)) - 1 = omega (arith, length-append (encode c) (encodes (d ∷ cs))) in
    let beyond : length (encode c) ≤ length (encode c ++ encodes (d ∷ cs)) - 1 = omega (arith, length-append (encode c) (encodes (d ∷ cs)), some) in
    let two : suc (suc (length cs)) - 1 ≡ suc (length cs) = omega arith in
    let one : suc (length cs) - 1 ≡ length cs = omega arith in
    rw (get_or-append_right (encode c) (encodes (d ∷ cs)) (length (encode c)) _ 0 refl beyond, at, two) (rw one at (last-encodes (d ∷ cs)))

empty-encodes : (cs : List ℕ) → (length (encodes cs) == 0) ≡ (length cs == 0)
empty-encodes [] = refl
empty-encodes (c ∷ cs) = grind (arith, nat_tests, length-le-encodes (c ∷ cs))

plain-encodes : (cs : List ℕ) → are_plain (encodes cs) ≡ are_plain cs
plain-encodes cs = rw (empty-encodes cs, first-encodes cs, last-encodes cs, controls-encodes cs) refl

-- characters are plain where their bytes are
plain-chars : (bs : List ℕ) → IsUtf8 bs → are_plain (chars bs) ≡ are_plain bs
plain-chars bs u = sym (plain-encodes (chars bs)) ∙ ap are_plain (encodes-chars bs u)

pub plain_by_bytes : (bs : List ℕ) → IsUtf8 bs → is_plain bs ≡ are_plain bs
unfolding is_plain
plain_by_bytes bs u = rw (is_utf8-from_IsUtf8 bs u) (plain-chars bs u)

not_utf8 : (bs : List ℕ) → (IsUtf8 bs → ⊥) → is_utf8 bs ≡ false
not_utf8 bs n = elim (cases_Bool (is_utf8 bs)) [
  | inl valid ↦ absurd (n (IsUtf8-from_is_utf8 bs valid))
  | inr other ↦ other
]

pub plain_no_text : (bs : List ℕ) → (IsUtf8 bs → ⊥) → is_plain bs ≡ false
unfolding is_plain
plain_no_text bs n = rw (not_utf8 bs n) refl

-- whatever the characters, bytes that aren't plain are no plain text
pub plain_not : (bs : List ℕ) → are_plain bs ≡ false → is_plain bs ≡ false
plain_not bs h = elim (cases_Bool (is_utf8 bs)) [
  | inl valid ↦ plain_by_bytes bs (IsUtf8-from_is_utf8 bs valid) ∙ h
  | inr other ↦ plain_no_text bs (λ u. cc (is_utf8-from_IsUtf8 bs u))
]

pub plain_utf8 : (bs : List ℕ) → is_plain bs ≡ true → IsUtf8 bs
unfolding is_plain
plain_utf8 bs e = IsUtf8-from_is_utf8 bs (left _ _ e)
  where
    left : (a b : Bool) → a && b ≡ true → a ≡ true
    left true b e = refl
    left false b e = cc e

pub plain_some : (bs : List ℕ) → is_plain bs ≡ true → 0 < length bs
plain_some bs e =
    let bytes : are_plain bs ≡ true = sym (plain_by_bytes bs (plain_utf8 bs e)) ∙ e in
    grind (arith, nat_tests, bytes)

-- as many bytes as characters, or more
pub char_count-le : (bs : List ℕ) → IsUtf8 bs → char_count bs ≤ length bs
unfolding char_count
char_count-le bs u = omega (arith, length-le-encodes (chars bs), ap length (encodes-chars bs u))

pub ruleset plain_tests = (plain_by_bytes, plain_no_text, plain_not)

pub ruleset counts = (char_count-le)
