-- The bytes of a label, as they are filled in, and that they are a text.
use Rattle.std.proofs.Common.{◌≡◌, ℕ, zero, suc, ◌+◌, ◌-◌, ◌<◌, ◌≤◌, List, [], ◌∷◌, ◌++◌, length, take, get_or, refl, sym, ap, ◌∙◌, arith, append_assoc, true, false, ◌==◌}
use Rattle.std.specs.Prelude.{IsUtf8, replicate, ◌&&◌, nat_le}
use Rattle.std.proofs.lemmas.List.{length-take-le, take_more}
use Rattle.std.proofs.Math.Seq.{take-append_seam, take-length, set-append_seam}
use Rattle.std.proofs.Math.ListN.{set}
use Rattle.std.proofs.lemmas.Bool.{and_parts}
use Rattle.std.proofs.lemmas.Bool.Decides.{nat_tests}
use Rattle.std.proofs.lemmas.Str.{IsUtf8-from_ascii}
use Rattle.std.proofs.lemmas.Str.Ascii.{IsAscii-cons, IsAscii-nil}
use Rattle.std.specs.Str.{IsAscii}
use Rattle.gaz_fields.specs.Labels.{IsPadded, are_label_bytes, before_zero, is_label, is_label_byte}

-- the first i bytes of the text, and 0 behind them
abbrev pub filled : ℕ → ℕ → List ℕ → List ℕ
filled most i t = take i t ++ replicate (most - i) 0

zeros : (n m d : ℕ) → n ≡ suc m → replicate n d ≡ d ∷ replicate m d
zeros n m d e = rw e refl

more : (t : List ℕ) (i : ℕ) → i < length t → take (i + 1) t ≡ take i t ++ (get_or t i 0 ∷ [])
more t i h = take_more t i 0 h

pub fill_more : (most i : ℕ) (t : List ℕ) → i < length t → length t ≤ most → set (filled most i t) i (get_or t i 0) ≡ filled most (i + 1) t
fill_more most i t h k =
    let size : length (take i t) ≡ i = length-take-le i t (omega arith) in
    let rest : most - i ≡ suc (most - (i + 1)) = omega arith in
    let seam = set-append_seam (take i t) 0 (replicate (most - (i + 1)) 0) (get_or t i 0) in
    rw (zeros _ _ 0 rest) ((rw size at seam) ∙ sym (rw (more t i h, append_assoc (take i t) (get_or t i 0 ∷ []) (replicate (most - (i + 1)) 0)) refl))

-- no byte of a label is 0
pub label_before_zero : (t : List ℕ) (n : ℕ) → are_label_bytes t ≡ true → before_zero (t ++ replicate n 0) ≡ length t
label_before_zero [] zero h = refl
label_before_zero [] (suc n) h = refl
label_before_zero (b ∷ t) n h =
    let above : (b == 0) ≡ false = grind (arith, nat_tests) in
    rw (above, label_before_zero t n (grind arith)) (omega arith)

pub fill_done : (most : ℕ) (t : List ℕ) → is_label most t ≡ true → IsPadded most (before_zero (filled most (length t) t)) (filled most (length t) t)
fill_done most t h =
    let whole = take-length t in
    let front = take-append_seam t (replicate (most - length t) 0) in
    let good : are_label_bytes t ≡ true = grind (arith, nat_tests) in
    let count : before_zero (t ++ replicate (most - length t) 0) ≡ length t = label_before_zero t (most - length t) good in
    rw (whole, count) (record {
      taken = ap length front;
      label = rw front h;
      rest = rw front refl;
    })

-- what is filled in is read again
pub fill_reads : (most : ℕ) (t : List ℕ) → is_label most t ≡ true → take (before_zero (filled most (length t) t)) (filled most (length t) t) ≡ t
fill_reads most t h =
    let good : are_label_bytes t ≡ true = grind (arith, nat_tests) in
    rw (take-length t, label_before_zero t (most - length t) good) (take-append_seam t (replicate (most - length t) 0))

-- ---- a label is a text

label_ascii : (t : List ℕ) → are_label_bytes t ≡ true → IsAscii t
label_ascii [] h = IsAscii-nil
label_ascii (b ∷ t) h =
    let (first, more) = and_parts (is_label_byte b) (are_label_bytes t) h in
    let small : b < 128 = grind (arith, nat_tests, first) in
    IsAscii-cons b t small (label_ascii t more)

pub label_utf8 : (most : ℕ) (t : List ℕ) → is_label most t ≡ true → IsUtf8 t
label_utf8 most t h = IsUtf8-from_ascii t (label_ascii t (and_parts (nat_le 1 (length t) && nat_le (length t) most) (are_label_bytes t) h).1)
