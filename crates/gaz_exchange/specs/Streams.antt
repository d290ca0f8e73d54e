-- What the bytes of a stream tell of its requests.
use Rattle.std.specs.Prelude.{◌≡◌, ◌⊎◌, ℕ, List, length, take, map, false}
use Rattle.httparse.specs.Grammar.{RequestHead}
use Rattle.gaz_exchange.specs.Exchanges.{BeginsWithRequest, Comes, Exchange, goes_on}

-- the requests of exchanges, each with its head and its body
abbrev pub requests_of : List Exchange → List (RequestHead × List ℕ)
requests_of es = map (λ e. (e.head, e.body)) es

-- no whole request stands at the front of the bytes
abbrev pub NoRequest : List ℕ → Type 0
NoRequest bytes =
    (h : RequestHead) (body rest : List ℕ) → BeginsWithRequest bytes h body rest → ⊥

-- these exchanges are all that come: no other may follow, or none stands whole in the rest
abbrev pub AreAll : ℕ → List Exchange → List ℕ → Type 0
AreAll most es rest = (goes_on most es ≡ false) ⊎ NoRequest rest

-- two lists of exchanges that come in the same bytes: as far as both go their requests are the
-- same, and where both go as far, what follows is; where both are all that come, the requests are
-- the same altogether
pub record TellSame (most : ℕ) (one other : List Exchange) (rest left : List ℕ) : Type 0 where
  pub as_far : take (length other) (requests_of one) ≡ take (length one) (requests_of other)
  pub follows : length one ≡ length other → rest ≡ left
  pub all : AreAll most one rest → AreAll most other left → requests_of one ≡ requests_of other

-- the bytes of a stream determine its requests
abbrev pub BytesTellRequests : Type 0
BytesTellRequests =
    (most : ℕ) (bytes : List ℕ) (one other : List Exchange) (rest left : List ℕ) →
    Comes most bytes one rest → Comes most bytes other left → TellSame most one other rest left
