-- The bytes of a stream determine its requests.
use Rattle.std.proofs.Common.{◌≡◌, ℕ, ◌-◌, ◌<◌, Bool, true, false, List, [], ◌∷◌, ◌++◌, length, take, inl, inr, refl, ap, sym, ◌∙◌, subst, arith}
use Rattle.std.specs.Prelude.{◌&&◌, ◌||◌, not, nat_lt, ◌==◌}
use Rattle.std.proofs.lemmas.Bool.Decides.{nat_tests}
use Rattle.httparse.specs.Grammar.{RequestHead}
use Rattle.httparse.proofs.GrammarLemmas.{request_unique}
use Rattle.gaz_http.specs.Headers.{is_closing}
use Rattle.gaz_exchange.specs.Exchanges.{BeginsWithRequest, Comes, Exchange, all_open, ends_after, goes_on}
use Rattle.gaz_exchange.specs.Framing.{length_of}
use Rattle.gaz_exchange.specs.Streams.{AreAll, BytesTellRequests, requests_of}
use Rattle.gaz_exchange.specs.declared.framing.Framing.TheVariants.{Length}

-- two fronts of the same length
same_fronts : (a b rest left : List ℕ) → length a ≡ length b → a ++ rest ≡ b ++ left → (a ≡ b) × (rest ≡ left)
same_fronts [] [] rest left n e = (refl, e)
same_fronts [] (y ∷ b) rest left n e = absurd (omega (arith, n))
same_fronts (x ∷ a) [] rest left n e = absurd (omega (arith, n))
same_fronts (x ∷ a) (y ∷ b) rest left n e =
    let first : x ≡ y = cc e in
    let others : a ++ rest ≡ b ++ left = cc e in
    let more = same_fronts a b rest left (omega (arith, n)) others in
    (rw (first, more.0) refl, more.1)

-- the bytes begin with one request at most
pub one_request : (bytes : List ℕ) (h k : RequestHead) (body other rest left : List ℕ) → BeginsWithRequest bytes h body rest → BeginsWithRequest bytes k other left
    → (h ≡ k) × (body ≡ other) × (rest ≡ left)
one_request bytes h k body other rest left x y =
    let heads = request_unique bytes h k x.after y.after x.head.reads y.head.reads in
    let sizes : Length (length body) ≡ Length (length other) = sym x.framed ∙ ap length_of heads.0 ∙ y.framed in
    let size : length body ≡ length other = cc sizes in
    let behind = same_fronts body other rest left size (sym x.whole ∙ heads.1 ∙ y.whole) in
    (heads.0, behind.0, behind.1)

module _ (most : ℕ) (bytes : List ℕ) (e f : Exchange) (es fs : List Exchange) (rest left : List ℕ) where
  -- of two lists that go on, the first requests are the same, and the others come in the same bytes
  pub first_same : Comes most bytes (e ∷ es) rest → Comes most bytes (f ∷ fs) left
      → (after : List ℕ) × (e.head ≡ f.head) × (e.body ≡ f.body) × Comes (most - 1) after es rest × Comes (most - 1) after fs left
  unfolding Comes
  first_same c k =
      let (h, b, r) = one_request bytes e.head f.head e.body f.body c.1 k.1 c.2.request k.2.request in
      (c.1, h, b, c.4, subst (λ bs. Comes (most - 1) bs fs left) (sym r) k.4)

pairs_same : (e f : Exchange) → e.head ≡ f.head → e.body ≡ f.body → (xs ys : List (RequestHead × List ℕ)) → xs ≡ ys → (e.head, e.body) ∷ xs ≡ (f.head, f.body) ∷ ys
pairs_same e f h b xs ys more = rw (h, b, more) refl

as_far : (most : ℕ) (bytes : List ℕ) (one other : List Exchange) (rest left : List ℕ) → Comes most bytes one rest → Comes most bytes other left
    → take (length other) (requests_of one) ≡ take (length one) (requests_of other)
as_far most bytes [] [] rest left c k = refl
as_far most bytes [] (f ∷ fs) rest left c k = refl
as_far most bytes (e ∷ es) [] rest left c k = refl
as_far most bytes (e ∷ es) (f ∷ fs) rest left c k =
    let (after, h, b, x, y) = first_same most bytes e f es fs rest left c k in
    pairs_same e f h b (take (length fs) (requests_of es)) (take (length es) (requests_of fs)) (as_far (most - 1) after es fs rest left x y)

follows : (most : ℕ) (bytes : List ℕ) (one other : List Exchange) (rest left : List ℕ) → Comes most bytes one rest → Comes most bytes other left
    → length one ≡ length other → rest ≡ left
unfolding Comes
follows most bytes [] [] rest left c k n = sym c ∙ k
follows most bytes [] (f ∷ fs) rest left c k n = absurd (omega (arith, n))
follows most bytes (e ∷ es) [] rest left c k n = absurd (omega (arith, n))
follows most bytes (e ∷ es) (f ∷ fs) rest left c k n =
    let (after, h, b, x, y) = first_same most bytes e f es fs rest left c k in
    follows (most - 1) after es fs rest left x y (omega (arith, n))

-- ---- where no other can follow

-- one more exchange comes, so the list before it wasn't all
not_all : (most : ℕ) (bytes : List ℕ) (f : Exchange) (fs : List Exchange) (rest left : List ℕ) → Comes most bytes [] rest → Comes most bytes (f ∷ fs) left → AreAll most [] rest → ⊥
unfolding Comes
not_all most bytes f fs rest left c k (inl done) =
    let room = k.0 in
    let open_yet : nat_lt 0 most ≡ true = grind (arith, nat_tests, room) in
    let is : goes_on most [] ≡ true = ap (λ b. b && true) open_yet in
    let wrong : true ≡ false = sym is ∙ done in
    cc wrong
not_all most bytes f fs rest left c k (inr none) = none f.head f.body k.1 (subst (λ bs. BeginsWithRequest bs f.head f.body k.1) c k.2.request)

either_false : (a b : Bool) → (a || b) ≡ false → (a ≡ false) × (b ≡ false)
either_false true b e = cc e
either_false false b e = (refl, e)

-- all that come, without the first
others_all : (most : ℕ) (e : Exchange) (es : List Exchange) (rest : List ℕ) → 0 < most → ends_after most e ≡ false → AreAll most (e ∷ es) rest → AreAll (most - 1) es rest
others_all most e es rest some open_yet (inr none) = inr none
others_all most e es rest some open_yet (inl done) =
    let (stays, more) = either_false (is_closing e.head) (most == 1) open_yet in
    let room : nat_lt (length es) (most - 1) ≡ nat_lt (length (e ∷ es)) most = grind (arith, nat_tests, some) in
    let tests : all_open (e ∷ es) ≡ all_open es = ap (λ b. not b && all_open es) stays in
    inl (ap (λ b. b && all_open es) room ∙ ap (λ b. nat_lt (length (e ∷ es)) most && b) (sym tests) ∙ done)

module _ (most : ℕ) (bytes : List ℕ) (e f : Exchange) (es fs : List Exchange) (rest left : List ℕ)
    (c : Comes most bytes (e ∷ es) rest) (k : Comes most bytes (f ∷ fs) left) (same : e.head ≡ f.head)
    (later : (after : List ℕ) → Comes (most - 1) after es rest → Comes (most - 1) after fs left → AreAll (most - 1) es rest → AreAll (most - 1) fs left → requests_of es ≡ requests_of fs) where
  all_behind : AreAll most (e ∷ es) rest → AreAll most (f ∷ fs) left → (ends : Bool) → ends_after most e ≡ ends → requests_of es ≡ requests_of fs
  unfolding Comes
  all_behind a b true ends =
      let none = c.3 ends in
      let none_either = k.3 (ap (λ h. is_closing h || (most == 1)) (sym same) ∙ ends) in
      ap requests_of none ∙ sym (ap requests_of none_either)
  all_behind a b false ends =
      let (after, h, body, x, y) = first_same most bytes e f es fs rest left c k in
      let open_too : ends_after most f ≡ false = ap (λ h. is_closing h || (most == 1)) (sym same) ∙ ends in
      later after x y (others_all most e es rest c.0 ends a) (others_all most f fs left k.0 open_too b)

all_same : (most : ℕ) (bytes : List ℕ) (one other : List Exchange) (rest left : List ℕ) → Comes most bytes one rest → Comes most bytes other left
    → AreAll most one rest → AreAll most other left → requests_of one ≡ requests_of other
all_same most bytes [] [] rest left c k a b = refl
all_same most bytes [] (f ∷ fs) rest left c k a b = absurd (not_all most bytes f fs rest left c k a)
all_same most bytes (e ∷ es) [] rest left c k a b = absurd (not_all most bytes e es left rest k c b)
all_same most bytes (e ∷ es) (f ∷ fs) rest left c k a b =
    let first = first_same most bytes e f es fs rest left c k in
    pairs_same e f first.1 first.2 (requests_of es) (requests_of fs)
    (all_behind most bytes e f es fs rest left c k first.1 (λ after x y p q. all_same (most - 1) after es fs rest left x y p q) a b (ends_after most e) refl)

pub bytes_tell_requests_holds : BytesTellRequests
bytes_tell_requests_holds most bytes one other rest left c k = record {
  as_far = as_far most bytes one other rest left c k;
  follows = follows most bytes one other rest left c k;
  all = all_same most bytes one other rest left c k;
}
