-- Keys that rise have higher places, and there are only so many.
use Rattle.std.proofs.Common.{◌≡◌, ◌<◌, ◌+◌, ◌-◌, ◌*◌, ℕ, suc, true, refl, sym, ap, ◌∙◌, arith, drop}
use Rattle.std.proofs.lemmas.Cmp.{by_ranked, ranked}
use Rattle.std.specs.Prelude.{Some}
use Rattle.std.specs.Ordering.{is_lt, nat_cmp, ordering_then}
use Rattle.std.specs.declared.cmp.Ordering.{Ordering}
use Rattle.std.specs.declared.cmp.Ordering.TheVariants.{Less, Equal, Greater}
use Rattle.gaz_ids.specs.declared.lang.Lang.TheVariants.{Cym, Eng}
use Rattle.gaz_fields.specs.Labels.{padded, seven_bytes}
use Rattle.gaz_fields.proofs.LabelOrder.{ahead, rest_of_bytes, word_below}
use Rattle.gaz_records.proofs.SortOrder.{behind_short, bytes_of_label, sorts}
use Rattle.gaz_records.specs.Keys.{key_cmp, kind_number, number_in}
use Rattle.gaz_records.specs.SortKeys.{behind_kind, has_label, high_of, low_of}
use Rattle.gaz_records.specs.declared.key.Key.{Key}
use Rattle.gaz_records.specs.declared.key.Key.TheVariants as key
use Rattle.gaz_extract.specs.Paging.{pages_left, rank, ranks}

kind_below : (k : Key) → kind_number k < 25
kind_below (key.Street n) = omega arith
kind_below (key.Descriptor n l) = omega arith
kind_below (key.Blpu n) = omega arith
kind_below (key.Xref t) = omega arith
kind_below (key.Lpi t) = omega arith

low_below : (k : Key) → has_label k ≡ true → low_of k < seven_bytes
low_below (key.Street n) l = omega arith
low_below (key.Descriptor n Cym) l = omega arith
low_below (key.Descriptor n Eng) l = omega arith
low_below (key.Blpu n) l = omega arith
low_below (key.Xref t) l = word_below 7 (drop 7 (padded 14 t)) (rest_of_bytes 7 _ (bytes_of_label t l))
low_below (key.Lpi t) l = word_below 7 (drop 7 (padded 14 t)) (rest_of_bytes 7 _ (bytes_of_label t l))

-- a number of two parts whose first is below m
two_below : (m p h l : ℕ) → l < p → h < m → h * p + l < m * p
two_below m p h l short less = let front = ahead h m p l 0 short less in omega arith

pub rank_below : (k : Key) → number_in k < seven_bytes → has_label k ≡ true → rank k < ranks
unfolding rank ranks
rank_below k n l =
    two_below (25 * seven_bytes) seven_bytes (high_of k) (low_of k) (low_below k l)
    (two_below 25 seven_bytes (kind_number k) (behind_kind k) (behind_short k n l) (kind_below k))

is_less : (o : Ordering) → is_lt o ≡ true → o ≡ Less
is_less Less e = cc
is_less Equal e = cc
is_less Greater e = cc

-- two numbers that compare as less by their parts are less as one
two_rise : (p h l i m : ℕ) → l < p → ordering_then (nat_cmp h i) (nat_cmp l m) ≡ Less → h * p + l < i * p + m
two_rise p h l i m short less =
    by_ranked (h < i) (h ≡ i) (i < h) (nat_cmp h i) (ranked h i _ refl)
    (λ o r. ahead h i p l m short r)
    (λ o r. elim (nat_cmp l m) as (λ q. nat_cmp l m ≡ q → ordering_then Equal q ≡ Less → h * p + l < i * p + m) [
      | Less ↦ λ is _. let below = nat_below l m is in let same : h * p ≡ i * p = ap (λ (x : ℕ). x * p) r in omega arith
      | Equal ↦ λ _ no. cc
      | Greater ↦ λ _ no. cc
    ] refl (sym (ap (λ q. ordering_then q (nat_cmp l m)) o) ∙ less))
    (λ o r. let no : Greater ≡ Less = sym (ap (λ q. ordering_then q (nat_cmp l m)) o) ∙ less in cc)
  where
    nat_below : (x y : ℕ) → nat_cmp x y ≡ Less → x < y
    nat_below x y e =
        by_ranked (x < y) (x ≡ y) (y < x) (nat_cmp x y) (ranked x y _ refl)
        (λ o r. r)
        (λ o r. let no : Equal ≡ Less = sym o ∙ e in cc)
        (λ o r. let no : Greater ≡ Less = sym o ∙ e in cc)

rank_rises : (a b : Key) → number_in a < seven_bytes → number_in b < seven_bytes → has_label a ≡ true → has_label b ≡ true → is_lt (key_cmp a b) ≡ true → rank a < rank b
unfolding rank
rank_rises a b m n h i e =
    two_rise seven_bytes (high_of a) (low_of a) (high_of b) (low_of b) (low_below a h) (sorts a b m n h i ∙ is_less _ e)

less_left : (all x y : ℕ) → x < y → y < all → suc (all - y) < suc (all - x)
less_left all x y h i = omega arith

-- less is left after a key that comes after another
pub fewer_left : (a b : Key) → number_in a < seven_bytes → number_in b < seven_bytes → has_label a ≡ true → has_label b ≡ true → is_lt (key_cmp a b) ≡ true → pages_left (Some b) < pages_left (Some a)
fewer_left a b m n h i e = less_left ranks (rank a) (rank b) (rank_rises a b m n h i e) (rank_below b n i)
