-- Lists that are gone through.
use Rattle.std.proofs.Common.{◌≡◌, ◌∙◌, ℕ, ◌+◌, ◌<◌, ◌≤◌, List, ◌∷◌, ◌++◌, length, get_or, drop, drop-cons, add-one, refl, sym, ap, append_assoc, append-nil}
use Rattle.std.specs.Prelude.{Option}
use Rattle.std.specs.List.{filter_map, flat_map}
use Rattle.std.proofs.lemmas.List.{drop_all}
use Rattle.std.proofs.lemmas.List.Elements.{filter_map-append}

-- an item and those behind it
pub next_item : {X : Type 0} (xs : List X) (i : ℕ) (x : X) → i < length xs → x ≡ get_or xs i x → drop i xs ≡ x ∷ drop (i + 1) xs
next_item xs i x h e = rw (add-one, drop-cons xs i x h, ← e) refl

-- more of what is told, and what is left to tell
pub told_more : {X Y : Type 0} (h : X → Option Y) (old new : List Y) (items left rest : List X) → new ≡ old ++ filter_map h items → items ++ left ≡ rest → new ++ filter_map h left ≡ old ++ filter_map h rest
told_more h old new items left rest e f =
    ap (λ l. l ++ filter_map h left) e ∙ append_assoc old (filter_map h items) (filter_map h left) ∙ ap (λ l. old ++ l) (sym (filter_map-append h items left) ∙ ap (filter_map h) f)

-- one more source, and what is left
pub told_next : {X Y : Type 0} (h : X → List Y) (old new all : List Y) (xs : List X) (i : ℕ) (x : X) → i < length xs → x ≡ get_or xs i x → new ≡ old ++ h x → old ++ flat_map h (drop i xs) ≡ all → new ++ flat_map h (drop (i + 1) xs) ≡ all
told_next h old new all xs i x short is e f =
    ap (λ l. l ++ flat_map h (drop (i + 1) xs)) e ∙ append_assoc old (h x) (flat_map h (drop (i + 1) xs)) ∙ ap (λ (ys : List _). old ++ flat_map h ys) (sym (next_item xs i x short is)) ∙ f

pub told_all : {X Y : Type 0} (h : X → List Y) (old all : List Y) (xs : List X) (i : ℕ) → length xs ≤ i → old ++ flat_map h (drop i xs) ≡ all → old ≡ all
told_all h old all xs i past f = sym (append-nil old) ∙ ap (λ (ys : List _). old ++ flat_map h ys) (sym (drop_all i xs past)) ∙ f
