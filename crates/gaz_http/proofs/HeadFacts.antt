-- When a head comes, and when none does.
use Rattle.std.proofs.Common.{◌≡◌, ℕ, ◌<◌, ◌≤◌, Bool, true, false, List, [], ◌∷◌, ◌++◌, length, drop, inl, inr, refl, ap, sym, ◌∙◌, arith}
use Rattle.std.specs.Prelude.{◌&&◌}
use Rattle.httparse.specs.Grammar.{HasNoRequest, RequestHead, print_blank, print_request}
use Rattle.httparse.specs.Spans.{IsRequestAt}
use Rattle.httparse.specs.declared.spans.HeaderSpan.{HeaderSpan}
use Rattle.httparse.specs.declared.spans.RequestSpans.{RequestSpans}
use Rattle.httparse.proofs.GrammarLemmas.{ReadsRequest-append, print_request-append, request_prefix_free}
use Rattle.gaz_http.specs.Heads.{BeginsWith, IsOver, NeverHead, NoHead, is_blank, is_line_byte, most_head}
use Rattle.gaz_http.specs.Next.{IsMore}

-- of two lists that begin one list the shorter begins the longer
pub prefix : (a b c d : List ℕ) → a ++ b ≡ c ++ d → length c ≤ length a → a ≡ c ++ drop (length c) a
prefix a b [] d e h = refl
prefix [] b (y ∷ c) d e h = absurd (omega arith)
prefix (x ∷ a) b (y ∷ c) d e h =
    let head : x ≡ y = cc e in
    let tail : a ++ b ≡ c ++ d = cc e in
    let more = prefix a b c d tail (omega arith) in
    let s : x ∷ a ≡ y ∷ (c ++ drop (length c) a) = cc (head, more) in s

pub no_from_none : (buf : List ℕ) → HasNoRequest buf → NoHead buf
no_from_none buf n h rest b = n h rest b.reads

pub never_from_long : (buf : List ℕ) → HasNoRequest buf → most_head < length buf → NeverHead buf
never_from_long buf n long more h rest b =
    n h (drop (length (print_request h)) buf) (b.reads.0, prefix buf more (print_request h) rest b.reads.1 (omega (arith, b.short)))

pub never_too_long : (buf : List ℕ) (headers : List HeaderSpan) (spans : RequestSpans) (h : RequestHead) → IsRequestAt buf headers spans h → most_head < spans.len → NeverHead buf
never_too_long buf headers spans h at long more k rest b =
    let same = request_prefix_free buf more h k (drop spans.len buf) rest at.reads b.reads in
    let e : length (print_request h) ≡ length (print_request k) = ap (λ x. length (print_request x)) same.0 in
    omega (arith, at.len, e, b.short)

-- more bytes come
pub begins_more : (bytes : List ℕ) (h : RequestHead) (rest more : List ℕ) → BeginsWith bytes h rest → BeginsWith (bytes ++ more) h (rest ++ more)
begins_more bytes h rest more b = record { reads = ReadsRequest-append bytes h rest more b.reads; short = b.short; few = b.few }

pub more_not_over : (bytes : List ℕ) → IsMore bytes → IsOver bytes → ⊥
more_not_over bytes (inl full) over = let e : true ≡ false = sym over.blank ∙ full in cc
more_not_over bytes (inr long) over = omega (arith, over.short)

and_false : (b : Bool) → (b && false) ≡ false
and_false true = refl
and_false false = refl

-- the space behind a method is no byte of a line's end
space_inside : (a b rest : List ℕ) → is_blank (a ++ (b ++ (32 ∷ rest))) ≡ false
space_inside [] [] rest = refl
space_inside [] (x ∷ b) rest = ap (λ t. is_line_byte x && t) (space_inside [] b rest) ∙ and_false (is_line_byte x)
space_inside (x ∷ a) b rest = ap (λ t. is_line_byte x && t) (space_inside a b rest) ∙ and_false (is_line_byte x)

-- a head is no empty line
pub head_inside : (h : RequestHead) (rest : List ℕ) → is_blank (print_request h ++ rest) ≡ false
head_inside h rest = ap is_blank (print_request-append h rest) ∙ space_inside (print_blank h.blank) h.method _
