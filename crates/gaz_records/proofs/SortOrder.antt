-- Keys and their two numbers.
use Rattle.std.proofs.Common.{◌≡◌, ℕ, zero, suc, ◌+◌, ◌-◌, ◌*◌, ◌/◌, ◌<◌, ◌≤◌, List, [], ◌∷◌, ◌++◌, length, take, drop, get_or, refl, sym, ap, ◌∙◌, arith, true}
use Rattle.std.specs.Prelude.{replicate}
use native.Mathlib.Numerals.{unary_clauses}
use Rattle.std.proofs.lemmas.Bool.Decides.{nat_tests}
use Rattle.std.proofs.lemmas.Cmp.{by_ranked, ranked}
use Rattle.std.proofs.lemmas.List.{length-append, length-drop, length-replicate, take-append-drop, take_all, take_more}
use Rattle.std.proofs.lemmas.Nat.{div-mul-add, mod-mul-add}
use Rattle.std.proofs.Math.Seq.{take-append_seam}
use Rattle.std.specs.Cmp.Lexicographic.{slice_cmp}
use Rattle.std.specs.Ordering.{nat_cmp, ordering_then}
use Rattle.std.specs.declared.cmp.Ordering.{Ordering}
use Rattle.std.specs.declared.cmp.Ordering.TheVariants.{Less, Equal, Greater}
use Rattle.gaz_ids.specs.declared.lang.Lang.TheVariants.{Cym, Eng}
use Rattle.gaz_fields.specs.Labels.{AreBytes, are_label_bytes, first_half, is_label, label_cmp, padded, second_half, seven_bytes, word}
use Rattle.gaz_fields.proofs.LabelBytes.{label_before_zero}
use Rattle.gaz_fields.proofs.LabelOrder.{ahead, behind, by_word, greater, label_bytes, less, rest_of_bytes, with_zeros, word_below}
use Rattle.gaz_records.specs.Keys.{key_cmp, kind_number, number_in, text_in}
use Rattle.gaz_records.specs.SortKeys.{IsSortKey, behind_kind, bytes_of, has_label, high_of, key_at, key_from, label_in, low_of, text_of}
use Rattle.gaz_records.specs.declared.key.Key.{Key}
use Rattle.gaz_records.specs.declared.key.Key.TheVariants as key

-- ---- a label from its halves

bytes_back : (n : ℕ) (bs : List ℕ) → AreBytes bs → n ≤ length bs → bytes_of n (word n bs) ≡ take n bs
unfolding word bytes_of
bytes_back zero bs h k = refl
bytes_back (suc n) bs h k =
    let front = div-mul-add (word n bs) 256 (get_or bs n 0) (h n) in
    let last = mod-mul-add (word n bs) 256 (get_or bs n 0) (h n) in
    let next = take_more bs n 0 (omega arith) in
    let more : take (suc n) bs ≡ take n bs ++ (get_or bs n 0 ∷ []) = simp unary_clauses at next in
    rw (front, last, bytes_back n bs h (omega arith)) (sym more)

pub bytes_of_label : (t : List ℕ) → is_label 14 t ≡ true → AreBytes (padded 14 t)
bytes_of_label t h =
    let good : are_label_bytes t ≡ true = grind (arith, nat_tests) in
    label_bytes t (14 - length t) good

halves_whole : (bs : List ℕ) → length bs ≡ 14 → take 7 bs ++ take 7 (drop 7 bs) ≡ bs
halves_whole bs e =
    let size : length (drop 7 bs) ≤ 7 = omega (arith, length-drop 7 bs) in
    rw (take_all 7 (drop 7 bs) size) (take-append-drop 7 bs)

padded_size : (t : List ℕ) → length t ≤ 14 → length (padded 14 t) ≡ 14
padded_size t h = omega (arith, length-append t (replicate (14 - length t) 0), length-replicate {A = ℕ} (14 - length t) 0)

text_back : (t : List ℕ) → is_label 14 t ≡ true → text_of (padded 14 t) ≡ t
text_back t h =
    let good : are_label_bytes t ≡ true = grind (arith, nat_tests) in
    rw (label_before_zero t (14 - length t) good) (take-append_seam t (replicate (14 - length t) 0))

pub halves_back : (t : List ℕ) → is_label 14 t ≡ true → label_in (first_half t) (second_half t) ≡ t
halves_back t h =
    let pad = padded 14 t in
    let short : length t ≤ 14 = grind (arith, nat_tests) in
    let size : length pad ≡ 14 = padded_size t short in
    let bytes = bytes_of_label t h in
    let one = bytes_back 7 pad bytes (omega (arith, size)) in
    let two = bytes_back 7 (drop 7 pad) (rest_of_bytes 7 pad bytes) (omega (arith, size, length-drop 7 pad)) in
    rw (one, two, halves_whole pad size) (text_back t h)

-- ---- a key from its numbers

pub behind_short : (k : Key) → number_in k < seven_bytes → has_label k ≡ true → behind_kind k < seven_bytes
behind_short (key.Street n) h l = h
behind_short (key.Descriptor n g) h l = h
behind_short (key.Blpu n) h l = h
behind_short (key.Xref t) h l = word_below 7 (padded 14 t) (bytes_of_label t l)
behind_short (key.Lpi t) h l = word_below 7 (padded 14 t) (bytes_of_label t l)

parts_back : (k : Key) → has_label k ≡ true → key_from (kind_number k) (behind_kind k) (low_of k) ≡ k
parts_back (key.Street n) l = refl
parts_back (key.Descriptor n Cym) l = refl
parts_back (key.Descriptor n Eng) l = refl
parts_back (key.Blpu n) l = refl
parts_back (key.Xref t) l = ap key.Xref (halves_back t l)
parts_back (key.Lpi t) l = ap key.Lpi (halves_back t l)

pub key_back : (k : Key) → number_in k < seven_bytes → has_label k ≡ true → key_at (high_of k) (low_of k) ≡ k
key_back k h l =
    let short = behind_short k h l in
    rw (div-mul-add (kind_number k) seven_bytes (behind_kind k) short, mod-mul-add (kind_number k) seven_bytes (behind_kind k) short) (parts_back k l)

pub is_sort_key : (k : Key) → number_in k < seven_bytes → has_label k ≡ true → IsSortKey (high_of k) (low_of k)
is_sort_key k h l =
    let back = key_back k h l in
    record {
      first = ap high_of back;
      second = ap low_of back;
      number = rw back h;
      label = rw back l;
    }

pub kind_of : (high low : ℕ) → IsSortKey high low → high / seven_bytes ≡ kind_number (key_at high low)
kind_of high low h =
    let k = key_at high low in
    ap (λ (n : ℕ). n / seven_bytes) (sym h.first) ∙ div-mul-add (kind_number k) seven_bytes (behind_kind k) (behind_short k h.number h.label)

-- ---- the order

then_equal : (o : Ordering) → ordering_then o Equal ≡ o
then_equal Less = refl
then_equal Equal = refl
then_equal Greater = refl

ended : (xs ys : List ℕ) → length xs ≡ 0 → length ys ≡ 0 → slice_cmp nat_cmp xs ys ≡ Equal
ended [] [] h i = refl
ended [] (y ∷ ys) h i = grind arith
ended (x ∷ xs) ys h i = grind arith

two_parts : (p k l x y : ℕ) → x < p → y < p → nat_cmp (k * p + x) (l * p + y) ≡ ordering_then (nat_cmp k l) (nat_cmp x y)
two_parts p k l x y h i =
    by_ranked (k < l) (k ≡ l) (l < k) (nat_cmp k l) (ranked k l _ refl)
    (λ o r. rw (o, less _ _ (ahead k l p x y h r)) refl)
    (λ o r. rw (o, r) (behind (l * p) x y))
    (λ o r. rw (o, greater _ _ (ahead l k p y x i r)) refl)

labels : (t u : List ℕ) → is_label 14 t ≡ true → is_label 14 u ≡ true → ordering_then (nat_cmp (first_half t) (first_half u)) (nat_cmp (second_half t) (second_half u)) ≡ label_cmp t u
labels t u h i =
    let good : are_label_bytes t ≡ true = grind (arith, nat_tests) in
    let fine : are_label_bytes u ≡ true = grind (arith, nat_tests) in
    let short : length t ≤ 14 = grind (arith, nat_tests) in
    let brief : length u ≤ 14 = grind (arith, nat_tests) in
    let one = bytes_of_label t h in
    let two = bytes_of_label u i in
    let size : length (padded 14 t) ≡ length (padded 14 u) = padded_size t short ∙ sym (padded_size u brief) in
    let halves = by_word 7 (padded 14 t) (padded 14 u) size one two in
    let half : length (drop 7 (padded 14 t)) ≡ length (drop 7 (padded 14 u)) = rw (length-drop 7 (padded 14 t), length-drop 7 (padded 14 u), size) refl in
    let rest = by_word 7 (drop 7 (padded 14 t)) (drop 7 (padded 14 u)) half (rest_of_bytes 7 _ one) (rest_of_bytes 7 _ two) in
    let none = ended (drop 7 (drop 7 (padded 14 t))) (drop 7 (drop 7 (padded 14 u))) (omega (arith, length-drop 7 (drop 7 (padded 14 t)), length-drop 7 (padded 14 t), padded_size t short)) (omega (arith, length-drop 7 (drop 7 (padded 14 u)), length-drop 7 (padded 14 u), padded_size u brief)) in
    let all = with_zeros t u (14 - length t) (14 - length u) (omega arith) good fine in
    sym (sym all ∙ halves ∙ ap (ordering_then (nat_cmp (first_half t) (first_half u))) (rest ∙ ap (ordering_then (nat_cmp (second_half t) (second_half u))) none ∙ then_equal (nat_cmp (second_half t) (second_half u))))

-- behind the kind, two keys of one kind compare as they do
alike : (a b : Key) → has_label a ≡ true → has_label b ≡ true → nat_cmp (kind_number a) (kind_number b) ≡ Equal
    → ordering_then (nat_cmp (behind_kind a) (behind_kind b)) (nat_cmp (low_of a) (low_of b)) ≡ ordering_then (nat_cmp (number_in a) (number_in b)) (label_cmp (text_in a) (text_in b))
alike (key.Street n) (key.Street m) h i e = refl
alike (key.Descriptor n Cym) (key.Descriptor m Cym) h i e = refl
alike (key.Descriptor n Cym) (key.Descriptor m Eng) h i e = refl
alike (key.Descriptor n Eng) (key.Descriptor m Cym) h i e = refl
alike (key.Descriptor n Eng) (key.Descriptor m Eng) h i e = refl
alike (key.Blpu n) (key.Blpu m) h i e = refl
alike (key.Xref t) (key.Xref u) h i e = labels t u h i
alike (key.Lpi t) (key.Lpi u) h i e = labels t u h i
alike a b h i e = cc

after_kind : (k x y : Ordering) → (k ≡ Equal → x ≡ y) → ordering_then k x ≡ ordering_then k y
after_kind Less x y h = refl
after_kind Equal x y h = h refl
after_kind Greater x y h = refl

in_turn : (k x y : Ordering) → ordering_then (ordering_then k x) y ≡ ordering_then k (ordering_then x y)
in_turn Less x y = refl
in_turn Equal x y = refl
in_turn Greater x y = refl

pub sorts : (a b : Key) → number_in a < seven_bytes → number_in b < seven_bytes → has_label a ≡ true → has_label b ≡ true → ordering_then (nat_cmp (high_of a) (high_of b)) (nat_cmp (low_of a) (low_of b)) ≡ key_cmp a b
sorts a b m n h i =
    rw (two_parts seven_bytes (kind_number a) (kind_number b) (behind_kind a) (behind_kind b) (behind_short a m h) (behind_short b n i), in_turn (nat_cmp (kind_number a) (kind_number b)) (nat_cmp (behind_kind a) (behind_kind b)) (nat_cmp (low_of a) (low_of b)))
    (after_kind (nat_cmp (kind_number a) (kind_number b)) _ _ (alike a b h i))

pub sorts_as : (high low one other : ℕ) → IsSortKey high low → IsSortKey one other → ordering_then (nat_cmp high one) (nat_cmp low other) ≡ key_cmp (key_at high low) (key_at one other)
sorts_as high low one other h k =
    let same = sorts (key_at high low) (key_at one other) h.number k.number h.label k.label in
    (λ i. ordering_then (nat_cmp (sym h.first i) (sym k.first i)) (nat_cmp (sym h.second i) (sym k.second i))) ∙ same
