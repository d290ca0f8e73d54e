-- Tests of the elements of a list, before and after a function.
use Rattle.std.proofs.Common.{◌≡◌, ℕ, Bool, true, false, List, [], ◌∷◌, map, cond, refl, ap, sym, ◌∙◌, ◌+◌, Option, Some, None}
use Rattle.std.proofs.lemmas.List.Sums.{sum_by-cons}
use Rattle.std.specs.Prelude.{count_by, find, ◌||◌}
use Rattle.std.specs.List.{list_any}
use Rattle.std.specs.Option.{option_map}
use Rattle.std.specs.Str.{str_eq_ignore_ascii_case}
use Rattle.httparse.specs.Spans.{header_bytes, span_bytes}
use Rattle.httparse.specs.declared.spans.HeaderSpan.{HeaderSpan}
use Rattle.gaz_http.specs.Headers.{is_named, value_of}

module _ {X Y : Type 0} (p : Y → Bool) (f : X → Y) where
  pub count_by-map : (xs : List X) → count_by p (map f xs) ≡ count_by (λ x. p (f x)) xs
  count_by-map [] = refl
  count_by-map (x ∷ xs) =
      sum_by-cons (λ y. cond (p y) 1 0) (f x) (map f xs)
      ∙ ap (λ n. cond (p (f x)) 1 0 + n) (count_by-map xs)
      ∙ sym (sum_by-cons (λ y. cond (p (f y)) 1 0) x xs)

  pub list_any-map : (xs : List X) → list_any p (map f xs) ≡ list_any (λ x. p (f x)) xs
  list_any-map [] = refl
  list_any-map (x ∷ xs) = ap (λ b. p (f x) || b) (list_any-map xs)

  pub find-map : (xs : List X) → find p (map f xs) ≡ option_map f (find (λ x. p (f x)) xs)
  find-map [] = refl
  find-map (x ∷ xs) = elim (p (f x)) as (λ b. cond b (Some (f x)) (find p (map f xs)) ≡ option_map f (cond b (Some x) (find (λ y. p (f y)) xs))) [
    | true ↦ refl
    | false ↦ find-map xs
  ]

-- the value of the header that was found, or none
pub value_of-found : (buf name : List ℕ) (headers : List HeaderSpan) (found : Option HeaderSpan)
    → found ≡ find (λ h. str_eq_ignore_ascii_case (span_bytes buf h.name) name) headers
    → option_map (λ h. span_bytes buf h.value) found ≡ value_of name (map (header_bytes buf) headers)
value_of-found buf name headers None e = ap (option_map (λ h. h.1)) (ap (option_map (header_bytes buf)) e ∙ sym (find-map (is_named name) (header_bytes buf) headers))
value_of-found buf name headers (Some x) e = ap (option_map (λ h. h.1)) (ap (option_map (header_bytes buf)) e ∙ sym (find-map (is_named name) (header_bytes buf) headers))
