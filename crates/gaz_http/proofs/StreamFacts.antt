-- Bytes that come and go.
use Rattle.std.proofs.Common.{◌≡◌, ◌≢◌, ◌<◌, ℕ, ◌+◌, arith, length, length-drop, false, Option, List, [], ◌++◌, take, drop, ap, ◌∙◌, sym, append_assoc, take-append-drop}
use Rattle.std.proofs.Math.Seq.{take-add}
use Rattle.std.proofs.KnownBytes.{Appends-trans}
use Rattle.std.specs.Io.KnownBytes.{Appends}
use Rattle.gaz_http.specs.Writing.{IsPut}

-- one piece of a body more
pub body_more : (begin bs more out was part count : List ℕ) (n : ℕ) → begin ++ bs ≡ out ++ was → part ≡ was ++ more → count ≡ take n part
    → begin ++ (bs ++ more) ≡ (out ++ count) ++ drop n part
body_more begin bs more out was part count n e p k =
    sym (append_assoc begin bs more) ∙ ap (λ l. l ++ more) e ∙ append_assoc out was more ∙ ap (λ l. out ++ l) (sym p ∙ sym (take-append-drop n part))
    ∙ sym (append_assoc out (take n part) (drop n part)) ∙ ap (λ l. (out ++ l) ++ drop n part) (sym k)

-- a front of the text was written
pub put_part : (held holds : Option (List ℕ)) (text : List ℕ) (n : ℕ) → n < length text → Appends held holds (take n text) → IsPut held holds text false
put_part held holds text n short p =
    let some : drop n text ≢ [] = λ e. omega (arith, short, length-drop n text, ap length e) in
    record { sent = take n text; lost = drop n text; cut = sym (take-append-drop n text); appended = p; all = λ e. cc; part = λ _. some }

-- n bytes more of the text
pub put_more : (held mid holds : Option (List ℕ)) (text : List ℕ) (at n : ℕ) → Appends held mid (take at text) → Appends mid holds (take n (drop at text))
    → Appends held holds (take (at + n) text)
put_more held mid holds text at n p q = rw (take-add at n text) (Appends-trans held mid holds (take at text) (take n (drop at text)) p q)
