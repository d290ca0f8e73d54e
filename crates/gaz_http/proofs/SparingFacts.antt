-- How often a reader is read.
use Rattle.std.proofs.Common.{◌≡◌, ℕ, ◌+◌, ◌<◌, ◌≤◌, List, ◌++◌, length, drop, inl, inr, ap, arith, length-append, length-drop}
use Rattle.std.proofs.lemmas.Bool.{cases_lt}
use Rattle.httparse.specs.Grammar.{RequestHead, print_request}
use Rattle.gaz_http.specs.Heads.{BeginsWith, NoHead}
use Rattle.gaz_http.specs.Sparing.{OneForEachUsed}
use Rattle.gaz_http.proofs.HeadFacts.{prefix}

-- no more reads than bytes, nor than bytes of a head
pub record IsReadSoFar (before after : ℕ) (pending : List ℕ) : Type 0 where
  pub for_all : after ≤ before + length pending
  pub for_head : (h : RequestHead) (rest : List ℕ) → BeginsWith pending h rest → OneForEachUsed before after pending rest

pub rest_within : (bytes : List ℕ) (h : RequestHead) (rest : List ℕ) → BeginsWith bytes h rest → length (print_request h) + length rest ≡ length bytes
rest_within bytes h rest b = let e = ap length b.reads.1 in omega (arith, e, length-append (print_request h) rest)

-- a head that wasn't whole needs one of the bytes that follow
pub head_beyond : (bytes more : List ℕ) (h : RequestHead) (rest : List ℕ) → NoHead bytes → BeginsWith (bytes ++ more) h rest → length bytes < length (print_request h)
head_beyond bytes more h rest none b = elim (cases_lt (length bytes) (length (print_request h))) [
  | inl beyond ↦ beyond
  | inr within ↦ absurd (none h (drop (length (print_request h)) bytes) (record {
    reads = (b.reads.0, prefix bytes more (print_request h) rest b.reads.1 within);
    short = b.short;
    few = b.few;
  }))
]

-- one read more, which gave some bytes, where there was no head yet
pub read_once_more : (before mid after : ℕ) (pending more all : List ℕ) → IsReadSoFar before mid pending → NoHead pending → after ≤ mid + 1 → 0 < length more → all ≡ pending ++ more
    → IsReadSoFar before after all
read_once_more before mid after pending more all s none once some e = rw e (record {
  for_all = omega (arith, s.for_all, length-append pending more);
  for_head = λ h rest b.
      let w = rest_within (pending ++ more) h rest b in
      let beyond = head_beyond pending more h rest none b in
      omega (arith, s.for_all, w, beyond, once);
})

-- a piece of a body came, or was there, and isn't used yet
pub piece_begun : (before mid after : ℕ) (was bs more out pending all : List ℕ) → was ++ bs ≡ out ++ pending → all ≡ pending ++ more → 0 < length all → mid ≤ before + length out → after ≤ mid + 1
    → after ≤ before + length (was ++ (bs ++ more))
piece_begun before mid after was bs more out pending all same grown some spent once =
    let one = ap length same in
    let other = ap length grown in
    omega (arith, one, other, length-append was (bs ++ more), length-append bs more, length-append was bs, length-append out pending, length-append pending more, some, spent, once)

-- a read more, for one of the bytes of a body that isn't whole
pub piece_within : (before after : ℕ) (bytes : List ℕ) (size got : ℕ) → got < size → after ≤ before + got + 1 → after ≤ before + length bytes → OneForEachUsed before after bytes (drop size bytes)
piece_within before after bytes size got short once each = omega (arith, short, once, each, length-drop size bytes)

-- nothing is pending, so that all that came is used
pub used_up : (was bs more out pending all : List ℕ) → was ++ bs ≡ out ++ pending → all ≡ pending ++ more → length all ≡ 0 → length (was ++ (bs ++ more)) ≡ length out
used_up was bs more out pending all same grown none =
    let one = ap length same in
    let other = ap length grown in
    omega (arith, one, other, length-append was (bs ++ more), length-append bs more, length-append was bs, length-append out pending, length-append pending more, none)
