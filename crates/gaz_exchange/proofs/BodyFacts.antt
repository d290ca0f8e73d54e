-- The texts in a reply.
use Rattle.std.proofs.Common.{◌≡◌, ℕ, ◌+◌, ◌<◌, true, false, not, take, get_or, append_assoc, List, [], ◌∷◌, ◌++◌, Ok, Err, ◌∙◌, ap, refl, append-nil}
use Rattle.std.specs.Prelude.{codes, Bool, length, IfOk, Result}
use Rattle.std.specs.List.{flat_map}
use Rattle.std.proofs.lemmas.Grind.{flat_map-append}
use Rattle.std.proofs.lemmas.List.{take_more}
use Rattle.gaz_steps.specs.declared.question.Told.{Told}
use Rattle.gaz_steps.specs.declared.question.Told.TheVariants as told
use Rattle.gaz_exchange.specs.Replies.{is_extract, message, reply_text, takes_memory, told_text}
use Rattle.gaz_exchange.specs.Sending.{head_of}
use Rattle.gaz_exchange.specs.declared.reply.Reply.TheVariants as reply
use Rattle.json.specs.Print.{print, print_from, token_text}
use Rattle.json.specs.Token.{Token}
use Rattle.json.specs.Written.{Writes, Written}

-- the text of one element more
pub texts_more : {X : Type 0} (f : X → List ℕ) (xs : List X) (i : ℕ) (d : X) → i < length xs → flat_map f (take (i + 1) xs) ≡ flat_map f (take i xs) ++ f (get_or xs i d)
texts_more f xs i d h =
    ap (flat_map f) (take_more xs i d h) ∙ flat_map-append f (take i xs) (get_or xs i d ∷ []) ∙ ap (λ l. flat_map f (take i xs) ++ l) (append-nil (f (get_or xs i d)))

-- a comma and a text behind others
pub behind : (o a b c x sign y : List ℕ) → a ≡ o ++ x → b ≡ a ++ sign → c ≡ b ++ y → c ≡ o ++ (x ++ (sign ++ y))
behind o a b c x sign y h k m = rw (m, k, h) (append_assoc (o ++ x) sign y ∙ append_assoc o x (sign ++ y))

-- the lines before a length
abbrev front_of : List ℕ → List ℕ → List ℕ
front_of status content = codes "HTTP/1.1 " ++ (status ++ (codes "\r\nContent-Type: " ++ (content ++ codes "\r\nContent-Length: ")))

-- a body behind the lines before it
pub behind_head : (status content body : List ℕ) (is_last : Bool)
    → head_of (front_of status content) (length body) is_last ++ body ≡ message status content (length body) [] body is_last
unfolding message
behind_head status content body is_last = simp append_assoc

-- a body that was made, behind the lines before it
pub made_behind_head : {A E : Type 0} (r : Result A E) (f : A → List ℕ) (status content body : List ℕ) (is_last : Bool) → IfOk r (λ b. f b ≡ body)
    → IfOk r (λ b. head_of (front_of status content) (length (f b)) is_last ++ f b ≡ message status content (length body) [] body is_last)
made_behind_head (Ok b) f status content body is_last e = rw e (behind_head status content body is_last)
made_behind_head (Err x) f status content body is_last e = tt

-- what is told of a question, but for an extract
pub is_other : (t : Told) → ((bytes : List ℕ) → t ≡ told.Extract bytes → ⊥) → is_extract t ≡ false
is_other (told.Outcome digest outcome) not = refl
is_other (told.Standing standing) not = refl
is_other (told.Found found) not = refl
is_other (told.Extract bytes) not = absurd (not bytes refl)
is_other (told.Closed closed) not = refl

pub takes_other : (t : Told) → is_extract t ≡ false → takes_memory (reply.Told t) ≡ true
takes_other t other = ap not other

pub other_behind_head : {A E : Type 0} (r : Result A E) (f : A → List ℕ) (t : Told) (is_last : Bool) → is_extract t ≡ false → IfOk r (λ b. f b ≡ told_text t)
    → IfOk r (λ b. head_of (front_of (codes "200 OK") (codes "application/json")) (length (f b)) is_last ++ f b ≡ reply_text (reply.Told t) is_last)
unfolding reply_text
other_behind_head r f t is_last other e =
    rw other (made_behind_head r f (codes "200 OK") (codes "application/json") (told_text t) is_last e)

-- what a writer of JSON gives back after one token
pub one_token : {E : Type 0} (out items : List ℕ) (old new done : Written) (t : Token) → old.before ≡ out → old.tokens ≡ [] → Writes {E = E} (Ok tt) old new t → done ≡ new
    → items ≡ done.before ++ print done.tokens → items ≡ out ++ token_text t
unfolding print_from
one_token out items old new done t b n w d e =
    let all : new.tokens ≡ t ∷ [] = w.ok ∙ ap (λ l. l ++ t ∷ []) n in
    let begun : new.before ≡ out = w.room.0 ∙ b in
    e ∙ rw (d, all, begun) (ap (λ l. out ++ l) (append-nil (token_text t)))

-- a text with five pieces more, the second with the first and the fourth with the third
pub with_five : (out a b c d e : List ℕ) → ((out ++ (a ++ b)) ++ (c ++ d)) ++ e ≡ out ++ (a ++ (b ++ (c ++ (d ++ e))))
with_five out a b c d e =
    append_assoc (out ++ (a ++ b)) (c ++ d) e
    ∙ append_assoc out (a ++ b) ((c ++ d) ++ e)
    ∙ ap (λ l. out ++ l) (append_assoc a b ((c ++ d) ++ e) ∙ ap (λ l. a ++ (b ++ l)) (append_assoc c d e))
