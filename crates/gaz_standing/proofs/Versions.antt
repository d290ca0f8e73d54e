-- What stands at a key after a volume, where its versions change from a volume on.
use Rattle.std.proofs.Common.{◌≡◌, ◌≤◌, ◌<◌, ◌+◌, ◌&&◌, ◌||◌, ℕ, Bool, true, false, cond, [], ◌∷◌, ◌++◌, refl, ap, ◌∙◌, arith}
use Rattle.std.specs.Prelude.{Option, Some, None, fold, nat_le, nat_lt}
use Rattle.std.proofs.lemmas.Bool.Decides.{nat_tests}
use Rattle.std.proofs.lemmas.List.{append-nil}
use Rattle.std.proofs.lemmas.List.Elements.{All-filter, All-head, All-push, All-tail, All-weaker, filter-append, filter_agree, filter_passes}
use Rattle.std.specs.List.{All}
use Rattle.gaz_histories.specs.Histories.{Version, Versions, before, standing_at, until, was_used_at}
use Rattle.gaz_views.proofs.Pages.{passes}

abbrev in_first : {T : Type 0} → ℕ → Version T → Bool
in_first v e = nat_le e.0 v

-- what stands from the last version on, and whether there is a version
abbrev pub last : {T : Type 0} → Versions T → Option T
last vs = fold (λ i v. v.1) None vs

pub some_version : {T : Type 0} → Versions T → Bool
some_version {T} [] = false
some_version {T} (v ∷ vs) = true

pub no_version : (T : Type 0) → some_version {T = T} [] ≡ false
unfolding some_version
no_version T = refl

pub used_by : {T : Type 0} (vs : Versions T) (v : ℕ) → was_used_at vs v ≡ some_version (until vs v)
unfolding some_version
used_by {T} [] v = refl
used_by {T} (e ∷ es) v = elim (nat_le e.0 v) as (λ b. (b || was_used_at es v) ≡ some_version (cond b (e ∷ until es v) (until es v))) [ true ↦ refl | false ↦ used_by es v ]

last_from : {T : Type 0} (o : Option T) (vs : Versions T) (e : Version T) → fold (λ i v. v.1) o (vs ++ e ∷ []) ≡ e.1
last_from {T} o [] e = refl
last_from {T} o (v ∷ vs) e = last_from v.1 vs e

some_in_front : {T : Type 0} (vs : Versions T) (e : Version T) → some_version (vs ++ e ∷ []) ≡ true
unfolding some_version
some_in_front {T} [] e = refl
some_in_front {T} (v ∷ vs) e = refl

-- ---- before a volume

-- where a volume is before another, versions before the latter are there until the former
pub until_before : {T : Type 0} (vs : Versions T) (n v : ℕ) → v < n → until (before vs n) v ≡ until vs v
until_before {T} vs n v h = passes (λ (e : Version T). nat_lt e.0 n) (in_first v) vs ∙ filter_agree _ _ (λ (e : Version T). both e.0) vs
  where
    both : (a : ℕ) → (nat_lt a n && nat_le a v) ≡ nat_le a v
    both a = grind (arith, nat_tests)

-- the versions before a volume are those until the one in front of it
pub before_next : {T : Type 0} (vs : Versions T) (n v : ℕ) → n ≤ v → until (before vs (n + 1)) v ≡ until vs n
before_next {T} vs n v h = passes (λ (e : Version T). nat_lt e.0 (n + 1)) (in_first v) vs ∙ filter_agree _ _ (λ (e : Version T). both e.0) vs
  where
    both : (a : ℕ) → (nat_lt a (n + 1) && nat_le a v) ≡ nat_le a n
    both a = grind (arith, nat_tests)

pub until_set : {T : Type 0} (vs : Versions T) (n v : ℕ) (o : Option T) → v < n → until (before vs n ++ (n, o) ∷ []) v ≡ until vs v
until_set {T} vs n v o h =
    let late : nat_le n v ≡ false = grind (arith, nat_tests) in
    filter-append (in_first v) (before vs n) ((n, o) ∷ []) ∙ ap (λ b. until (before vs n) v ++ cond b ((n, o) ∷ []) []) late ∙ append-nil (until (before vs n) v) ∙ until_before vs n v h

-- ---- at the volume

set_at : {T : Type 0} (vs : Versions T) (n : ℕ) (o : Option T) → until (before vs n ++ (n, o) ∷ []) n ≡ until (before vs n) n ++ (n, o) ∷ []
set_at {T} vs n o =
    let there : nat_le n n ≡ true = grind (arith, nat_tests) in
    filter-append (in_first n) (before vs n) ((n, o) ∷ []) ∙ ap (λ b. until (before vs n) n ++ cond b ((n, o) ∷ []) []) there

pub item_set : {T : Type 0} (vs : Versions T) (n : ℕ) (o : Option T) → standing_at (before vs n ++ (n, o) ∷ []) n ≡ o
item_set {T} vs n o = ap last (set_at vs n o) ∙ last_from None (until (before vs n) n) (n, o)

pub used_set : {T : Type 0} (vs : Versions T) (n : ℕ) (o : Option T) → was_used_at (before vs n ++ (n, o) ∷ []) n ≡ true
used_set {T} vs n o = used_by (before vs n ++ (n, o) ∷ []) n ∙ ap some_version (set_at vs n o) ∙ some_in_front (until (before vs n) n) (n, o)

-- where an item stands, the key was used
pub used_where_item : {T : Type 0} (vs : Versions T) (v : ℕ) (i : T) → standing_at vs v ≡ Some i → was_used_at vs v ≡ true
unfolding some_version
used_where_item {T} vs v i h = used_by vs v ∙ there (until vs v) h
  where
    there : (es : Versions T) → last es ≡ Some i → some_version es ≡ true
    there [] e = cc
    there (x ∷ xs) e = refl

-- ---- where all versions begin within bounds

-- all versions begin until a volume
pub settled : {T : Type 0} (vs : Versions T) (n v : ℕ) → n ≤ v → All (λ (e : Version T). e.0 ≤ n) vs → until vs v ≡ vs
settled {T} [] n v le h = refl
settled {T} (e ∷ es) n v le h =
    let first = All-head (λ (e : Version T). e.0 ≤ n) e es h in
    let there : nat_le e.0 v ≡ true = grind (arith, nat_tests) in
    ap (λ b. cond b (e ∷ until es v) (until es v)) there ∙ ap (λ l. e ∷ l) (settled es n v le (All-tail (λ (e : Version T). e.0 ≤ n) e es h))

-- none begins at volume 0
pub none_at_first : {T : Type 0} (vs : Versions T) (n : ℕ) → All (λ (e : Version T). (0 < e.0) × (e.0 ≤ n)) vs → until vs 0 ≡ []
none_at_first {T} [] n h = refl
none_at_first {T} (e ∷ es) n h =
    let first = All-head (λ (e : Version T). (0 < e.0) × (e.0 ≤ n)) e es h in
    let late : nat_le e.0 0 ≡ false = (let more = first.0 in grind (arith, nat_tests)) in
    ap (λ b. cond b (e ∷ until es 0) (until es 0)) late ∙ none_at_first es n (All-tail (λ (e : Version T). (0 < e.0) × (e.0 ≤ n)) e es h)

-- ---- the bounds after a change

pub before_within : {T : Type 0} (vs : Versions T) (n : ℕ) → All (λ (e : Version T). e.0 ≤ n) (before vs (n + 1))
before_within {T} vs n = All-weaker (λ (e : Version T). nat_lt e.0 (n + 1) ≡ true) (λ (e : Version T). e.0 ≤ n) (λ e h. (let is : nat_lt e.0 (n + 1) ≡ true = h in grind (arith, nat_tests))) (before vs (n + 1)) (filter_passes (λ (e : Version T). nat_lt e.0 (n + 1)) vs)

pub cut_within : {T : Type 0} (vs : Versions T) (n m : ℕ) → All (λ (e : Version T). (0 < e.0) × (e.0 ≤ m)) vs → All (λ (e : Version T). (0 < e.0) × (e.0 ≤ m)) (before vs n)
cut_within {T} vs n m h = All-filter (λ (e : Version T). nat_lt e.0 n) (λ (e : Version T). (0 < e.0) × (e.0 ≤ m)) vs h

pub set_within : {T : Type 0} (vs : Versions T) (n : ℕ) (o : Option T) → All (λ (e : Version T). (0 < e.0) × (e.0 ≤ n + 1)) vs → All (λ (e : Version T). (0 < e.0) × (e.0 ≤ n + 1)) (before vs (n + 1) ++ (n + 1, o) ∷ [])
set_within {T} vs n o h = All-push (λ (e : Version T). (0 < e.0) × (e.0 ≤ n + 1)) (before vs (n + 1)) (n + 1, o) (cut_within vs (n + 1) (n + 1) h) (omega arith, omega arith)
