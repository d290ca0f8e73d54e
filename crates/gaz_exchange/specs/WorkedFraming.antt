-- Worked examples of how long a body is, computed from the definitions.
use Rattle.std.specs.Prelude.{◌≡◌, List, ℕ, [], ◌∷◌, codes}
use Rattle.httparse.specs.Grammar.{Field, RequestHead}
use Rattle.gaz_steps.specs.declared.refusal.DoorRefusal.TheVariants.{TooLarge}
use Rattle.gaz_http.specs.WorkedClosings.{head, header}
use Rattle.gaz_exchange.specs.Framing.{length_of}
use Rattle.gaz_exchange.specs.declared.fault.Fault.TheVariants.{BadRequest, Door, LengthRequired}
use Rattle.gaz_exchange.specs.declared.framing.Framing.TheVariants.{Length, Refused}

-- heads with these headers
abbrev pub posting : List Field → RequestHead
posting fields = head (codes "POST") (codes "/custodians/1001/volumes/1") fields

abbrev pub asking : List Field → RequestHead
asking fields = head (codes "GET") (codes "/custodians/1001") fields

-- the header that tells a length, and one that names a transfer coding
abbrev pub sized : List ℕ → Field
sized value = header (codes "Content-Length") value

abbrev pub chunked : Field
chunked = header (codes "Transfer-Encoding") (codes "chunked")

-- a transfer coding is looked at first, then whether the length is told twice, then what it is
pub record WorkedFraming : Type 0 where
  pub told : length_of (posting (sized (codes "3") ∷ [])) ≡ Length 3
  pub other_case : length_of (posting (header (codes "content-LENGTH") (codes "3") ∷ [])) ≡ Length 3
  pub not_told : length_of (posting []) ≡ Refused LengthRequired
  pub coded : length_of (posting (chunked ∷ [])) ≡ Refused LengthRequired
  pub coded_and_told : length_of (posting (sized (codes "3") ∷ chunked ∷ []))
      ≡ Refused LengthRequired
  pub twice : length_of (posting (sized (codes "3") ∷ sized (codes "3") ∷ []))
      ≡ Refused BadRequest
  pub empty : length_of (posting (sized [] ∷ [])) ≡ Refused BadRequest
  pub signed : length_of (posting (sized (codes "+3") ∷ [])) ≡ Refused BadRequest
  pub two_in_one : length_of (posting (sized (codes "3, 3") ∷ [])) ≡ Refused BadRequest
  pub none : length_of (posting (sized (codes "0") ∷ [])) ≡ Length 0
  pub greatest : length_of (posting (sized (codes "1048576") ∷ [])) ≡ Length 1_048_576
  pub one_more : length_of (posting (sized (codes "1048577") ∷ [])) ≡ Refused (Door TooLarge)
  pub of_20_digits : length_of (posting (sized (codes "18446744073709551616") ∷ []))
      ≡ Refused (Door TooLarge)
  pub leading_zeros : length_of (posting (sized (codes "00000000000000000003") ∷ [])) ≡ Length 3
  -- another method needn't tell
  pub asked : length_of (asking []) ≡ Length 0
  pub asked_told : length_of (asking (sized (codes "3") ∷ [])) ≡ Length 3
  pub asked_coded : length_of (asking (chunked ∷ [])) ≡ Refused LengthRequired
