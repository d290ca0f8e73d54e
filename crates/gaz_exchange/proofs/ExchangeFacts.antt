-- Exchanges, one after the other.
use Rattle.std.proofs.Common.{◌≡◌, ℕ, suc, ◌-◌, ◌<◌, Bool, true, false, List, [], ◌∷◌, ◌++◌, length, Some, None, Ok, refl, ap, sym, ◌∙◌, subst, arith, append_assoc, append-nil, length-append}
use Rattle.std.specs.Prelude.{◌&&◌, ◌||◌, not, nat_lt, ◌==◌, IsTrue}
use Rattle.std.specs.List.{list_all}
use Rattle.std.proofs.lemmas.Bool.Decides.{nat_tests}
use Rattle.std.proofs.lemmas.List.Folds.{list_all-append}
use Rattle.gaz_steps.specs.Hubs.{IsToldAtDoor}
use Rattle.gaz_steps.specs.Step.{Command, Door, Response}
use Rattle.gaz_http.specs.Headers.{is_closing}
use Rattle.gaz_http.proofs.HeadFacts.{begins_more}
use Rattle.gaz_exchange.specs.Asking.{asked}
use Rattle.gaz_exchange.specs.Exchanges.{BeginsWithRequest, Comes, Exchange, HearsDoor, IsExchanged, all_open, ends_after, goes_on, replies}

request_more : (bytes : List ℕ) (e : Exchange) (rest more : List ℕ) → BeginsWithRequest bytes e.head e.body rest → BeginsWithRequest (bytes ++ more) e.head e.body (rest ++ more)
request_more bytes e rest more b = record {
  after = b.after ++ more;
  head = begins_more bytes e.head b.after more b.head;
  framed = b.framed;
  whole = ap (λ l. l ++ more) b.whole ∙ append_assoc e.body rest more;
}

-- more bytes come
pub comes_read : (most : ℕ) (bytes : List ℕ) (es : List Exchange) (rest more : List ℕ) → Comes most bytes es rest → Comes most (bytes ++ more) es (rest ++ more)
unfolding Comes
comes_read most bytes [] rest more c = ap (λ l. l ++ more) c
comes_read most bytes (e ∷ es) rest more (some, after, x, last, c) =
    (some, after ++ more, record { request = request_more bytes e after more x.request; answered = x.answered }, last, comes_read (most - 1) after es rest more c)

-- nothing came yet
pub comes_none : (most : ℕ) (bytes : List ℕ) → Comes most bytes [] bytes
unfolding Comes
comes_none most bytes = refl

pub both : (a b : Bool) → (a && b) ≡ true → (a ≡ true) × (b ≡ true)
both true b h = (refl, h)
both false b h = cc

pub both_are : (a b : Bool) → a ≡ true → b ≡ true → (a && b) ≡ true
both_are a b p q = rw (p, q) refl

pub not_true : (a : Bool) → not a ≡ true → a ≡ false
not_true true h = cc
not_true false h = refl

neither : (c y : Bool) → (not y && (not c && true)) ≡ not (c || y)
neither true true = refl
neither true false = refl
neither false true = refl
neither false false = refl

open_first : (most : ℕ) (e : Exchange) (es : List Exchange) → goes_on most (e ∷ es) ≡ true → (ends_after most e ≡ false) × (goes_on (most - 1) es ≡ true)
open_first most e es h =
    let (room, opens) = both (nat_lt (length (e ∷ es)) most) (all_open (e ∷ es)) h in
    let open_ones = both (not (is_closing e.head)) (all_open es) opens in
    let first : is_closing e.head ≡ false = not_true (is_closing e.head) open_ones.0 in
    let more : suc (length es) < most = grind (arith, nat_tests, room) in
    let one : (most == 1) ≡ false = grind (arith, nat_tests, more) in
    let fewer : nat_lt (length es) (most - 1) ≡ true = grind (arith, nat_tests, more) in
    (rw (first, one) refl, both_are (nat_lt (length es) (most - 1)) (all_open es) fewer open_ones.1)

-- one more exchange
pub comes_more : (most : ℕ) (bytes : List ℕ) (es : List Exchange) (rest : List ℕ) (e : Exchange) (after : List ℕ) (is_last : Bool)
    → goes_on most es ≡ true → Comes most bytes es rest → IsExchanged rest e after is_last → is_last ≡ ends_after (most - length es) e
    → Comes most bytes (es ++ e ∷ []) after
unfolding Comes
comes_more most bytes [] rest e after is_last o c x l =
    let one = both (nat_lt 0 most) true o in
    let room : 0 < most = grind (arith, nat_tests, one.0) in
    let whole : most - 0 ≡ most = omega arith in
    let last : is_last ≡ ends_after most e = l ∙ ap (λ m. ends_after m e) whole in
    (room, after, rw (c, ← last) x, λ _. refl, refl)
comes_more most bytes (y ∷ es) rest e after is_last o c x l =
    let first = open_first most y es o in
    let fewer : most - suc (length es) ≡ (most - 1) - length es = omega arith in
    let later = comes_more (most - 1) c.1 es rest e after is_last first.1 c.4 x (l ∙ ap (λ m. ends_after m e) fewer) in
    let goes : IsTrue (ends_after most y) → es ++ e ∷ [] ≡ [] = λ h. let wrong : true ≡ false = sym h ∙ first.0 in cc in
    (c.0, c.1, c.2, goes, later)

-- whether others may follow with one exchange more
pub goes_on-more : (most : ℕ) (es : List Exchange) (e : Exchange) → goes_on most es ≡ true → goes_on most (es ++ e ∷ []) ≡ not (ends_after (most - length es) e)
goes_on-more most es e o =
    let (room, open_ones) = both (nat_lt (length es) most) (all_open es) o in
    let some : length es < most = grind (arith, nat_tests, room) in
    let longer : nat_lt (length (es ++ e ∷ [])) most ≡ not ((most - length es) == 1) = grind (arith, nat_tests, length-append es (e ∷ []), some) in
    let test : Exchange → Bool = λ x. not (is_closing x.head) in
    let last : list_all test (es ++ e ∷ []) ≡ (test e && true) = list_all-append test es (e ∷ []) ∙ ap (λ b. b && (test e && true)) open_ones in
    rw (longer, last) (neither (is_closing e.head) ((most - length es) == 1))

pub replies-more : (es : List Exchange) (e : Exchange) → replies (es ++ e ∷ []) ≡ replies es ++ e.reply
replies-more [] e = append-nil e.reply
replies-more (x ∷ es) e = ap (λ l. x.reply ++ l) (replies-more es e) ∙ sym (append_assoc x.reply (replies es) e.reply)

-- ---- at the door of the hub

-- the hub was asked
pub door_heard : (d : Door) (e : Exchange) (command : Command) (response : Response) → asked e.head e.body ≡ Ok command → e.response ≡ Some response → IsToldAtDoor d command response → HearsDoor d e
door_heard d e command response asks says told other said asks_so says_so =
    let same : command ≡ other = cc (asks, asks_so) in
    let told_so : response ≡ said = cc (says, says_so) in
    subst (λ (p : Command × Response). IsToldAtDoor d p.0 p.1) (λ i. (same i, told_so i)) told

-- it wasn't
pub door_unheard : (d : Door) (e : Exchange) → e.response ≡ None → HearsDoor d e
door_unheard d e none command response asks says = let no : None ≡ Some response = sym none ∙ says in absurd (cc no)
