-- Walks up the parents, and the rings that they close.
use Rattle.std.proofs.Common.{◌≡◌, ◌≤◌, ◌<◌, ◌+◌, ◌-◌, ℕ, zero, suc, Bool, true, false, cond, nat_eq, eqb-true, ◌||◌, List, [], ◌∷◌, ◌++◌, length, length-append, ◌⊎◌, inl, inr, refl, sym, ap, ◌∙◌, subst, true≢false, is_some, arith, suc-add}
use Rattle.std.proofs.lemmas.Bool.Decides.{leb_tells}
use Rattle.std.proofs.lemmas.Option.{slice_get_within}
use Rattle.std.proofs.lemmas.Map.Lookups.{exact_unsigned}
use Rattle.std.specs.Cmp.{nat_cmp_is}
use Rattle.std.specs.declared.cmp.Ordering.{Ordering}
use Rattle.std.specs.declared.cmp.Ordering.TheVariants.{Less, Equal, Greater}
use Rattle.std.specs.Ordering.{nat_cmp, is_eq}
use Rattle.std.specs.BTreeMap.{is_at}
use Rattle.std.specs.Prelude.{Option, Some, None, nat_le}
use Rattle.std.specs.Option.{option_and_then}
use Rattle.std.specs.List.{list_any, range_with_len, slice_get}
use Rattle.std.specs.FinMap as map
use Rattle.gaz_views.specs.View.{View}
use Rattle.gaz_end_rules.specs.EndRules.{ancestor, parent_of, is_own_ancestor, if_some}
use Rattle.gaz_records.specs.declared.key.Key.TheVariants as key
use Rattle.gaz_end_rules.proofs.Booleans.{and_then_gives, by_test, false_by, some_passes}
use Rattle.gaz_end_rules.proofs.ParentRings.{join_chain, ring_breaks, split_chain}
use Rattle.gaz_end_rules.specs.Rings.{IsKnown}

-- ---- numbers as keys

is_equal : (o : Ordering) → is_eq o ≡ true → o ≡ Equal
is_equal Less e = cc
is_equal Equal e = refl
is_equal Greater e = cc

at_itself : (x y : ℕ) → x ≡ y → is_at (nat_cmp x) y ≡ true
at_itself x y e = ap is_eq (sym (nat_cmp_is x y Equal e))

one_number : (x y : ℕ) → is_at (nat_cmp x) y ≡ true → x ≡ y
one_number x y h = exact_unsigned x y (is_equal _ h)

-- ---- a ring, once and many times around

abbrev times : ℕ → ℕ → ℕ
times zero m = zero
times (suc n) m = m + times n m

enough : (d m : ℕ) → 1 ≤ m → d ≤ times d m
enough zero m h = omega arith
enough (suc d) m h = let rest = enough d m h in omega arith

any_gives : (p : ℕ → Bool) (start n : ℕ) → list_any p (range_with_len start n) ≡ true → (j : ℕ) × (start ≤ j) × (p j ≡ true)
any_gives p start zero h = absurd (true≢false (sym h))
any_gives p start (suc n) h =
    by_test (p start) (λ y. (start, omega arith, y)) (λ no.
    let rest = any_gives p (start + 1) n (sym (ap (λ b. b || list_any p (range_with_len (start + 1) n)) no) ∙ h) in
    (rest.0, omega arith, rest.2))

then_none : {X : Type 0} (f : X → Option X) → ((x : X) → f x ≡ Some x) → (o : Option X) → option_and_then f o ≡ o
then_none f h None = refl
then_none f h (Some x) = h x

module _ (v : View) where
  around : (x m n : ℕ) → ancestor v m x ≡ Some x → ancestor v (times n m) x ≡ Some x
  around x m zero e = refl
  around x m (suc n) e = join_chain v m (times n m) x x x e (around x m n e)

  pub one_more : (m k at : ℕ) → ancestor v m k ≡ Some at → ancestor v (m + 1) k ≡ parent_of v at
  one_more zero k at e = let is : k ≡ at = cc in then_none (ancestor v zero) (λ x. refl) (parent_of v k) ∙ ap (parent_of v) is
  one_more (suc m) k at e =
      let up = and_then_gives (ancestor v m) (parent_of v k) at e in
      ap (λ n. ancestor v n k) (suc-add m 1) ∙ ap (option_and_then (ancestor v (m + 1))) up.1 ∙ one_more m up.0 at up.2

  -- from a ring one comes back after any number of steps
  back : (x m d : ℕ) → 1 ≤ m → ancestor v m x ≡ Some x → (y : ℕ) × (k : ℕ) × (ancestor v d x ≡ Some y) × (ancestor v k y ≡ Some x)
  back x m d h e =
      let far : d ≤ times d m = enough d m h in
      let sum : d + (times d m - d) ≡ times d m = omega arith in
      let s = split_chain v d (times d m - d) x x (ap (λ n. ancestor v n x) sum ∙ around x m d e) in
      (s.0, times d m - d, s.1, s.2)

  ring_of : (x : ℕ) → is_own_ancestor v (key.Blpu x) ≡ true → (m : ℕ) × (1 ≤ m) × (ancestor v m x ≡ Some x)
  ring_of x h =
      let j = any_gives (λ n. if_some (ancestor v n x) (λ a. nat_eq a x)) 1 (map.len v.items) h in
      let a = some_passes (ancestor v j.0 x) (λ a. nat_eq a x) j.2 in
      (j.0, j.1, a.1 ∙ ap Some (eqb-true a.0 x a.2))

  stays_in : (S : ℕ → Type 0) → ((x p : ℕ) → S x → parent_of v x ≡ Some p → S p) → (d x y : ℕ) → S x → ancestor v d x ≡ Some y → S y
  stays_in S closed zero x y h e = let is : x ≡ y = cc in subst S is h
  stays_in S closed (suc d) x y h e = let p = and_then_gives (ancestor v d) (parent_of v x) y e in stays_in S closed d p.0 y (closed x p.0 h p.1) p.2

  -- what leads into a set that none leaves, from outside of it, is on no ring
  off_ring : (S : ℕ → Type 0) → ((x p : ℕ) → S x → parent_of v x ≡ Some p → S p) → (x d y : ℕ) → (S x → ⊥) → ancestor v d x ≡ Some y → S y → is_own_ancestor v (key.Blpu x) ≡ false
  off_ring S closed x d y out e inside =
      false_by _ (λ on.
      let r = ring_of x on in
      let b = back x r.0 d r.1 r.2 in
      let is : y ≡ b.0 = let there = b.2 in cc in
      out (stays_in S closed b.1 b.0 x (subst S is inside) b.3))

  -- what leads to an end is on no ring
  off_end : (x d : ℕ) → ancestor v d x ≡ None → is_own_ancestor v (key.Blpu x) ≡ false
  off_end x d e =
      false_by _ (λ on.
      let r = ring_of x on in
      let b = back x r.0 d r.1 r.2 in
      let there = b.2 in cc)

-- ---- one walk

-- from k, after m visits: who was visited before has the old number, and who was visited now the number of its turn
pub record Walk (v : View) (k : ℕ) (before : ℕ → Option ℕ) (old : List Bool) (stamps : ℕ → Option ℕ) (flags : List Bool) (m : ℕ) : Type 0 where
  pub kept : (x i : ℕ) → before x ≡ Some i → stamps x ≡ Some i
  pub from : (x i : ℕ) → stamps x ≡ Some i → (before x ≡ Some i) ⊎ ((t : ℕ) × (i ≡ length old + t) × (t < m) × (ancestor v t k ≡ Some x))
  pub each : (x t : ℕ) → t < m → ancestor v t k ≡ Some x → stamps x ≡ Some (length old + t)
  pub old_flags : (i : ℕ) → i < length old → slice_get flags i ≡ slice_get old i
  pub new_flags : (t : ℕ) → t < m → slice_get flags (length old + t) ≡ Some false
  pub count : length flags ≡ length old + m

pub no_walk : (v : View) (k : ℕ) (before : ℕ → Option ℕ) (old : List Bool) → Walk v k before old before old 0
no_walk v k before old =
    record {
      kept = λ x i e. e;
      from = λ x i e. inl e;
      each = λ x t h e. absurd (omega arith);
      old_flags = λ i h. refl;
      new_flags = λ t h. absurd (omega arith);
      count = omega arith;
    }

get_pushed : {X : Type 0} (xs : List X) (y : X) → slice_get (xs ++ y ∷ []) (length xs) ≡ Some y
get_pushed [] y = refl
get_pushed (x ∷ xs) y = get_pushed xs y

get_last : (xs : List Bool) (b : Bool) (i : ℕ) → i ≡ length xs → slice_get (xs ++ b ∷ []) i ≡ Some b
get_last xs b i e = ap (slice_get (xs ++ b ∷ [])) e ∙ get_pushed xs b

get_front : (xs : List Bool) (b : Bool) (i : ℕ) → i < length xs → slice_get (xs ++ b ∷ []) i ≡ slice_get xs i
get_front [] b i h = absurd (omega arith)
get_front (x ∷ xs) b zero h = refl
get_front (x ∷ xs) b (suc i) h = get_front xs b i (omega arith)

put_at : (b : Bool) (w o : Option ℕ) → b ≡ true → cond b w o ≡ w
put_at b w o e = ap (λ c. cond c w o) e

put_else : (b : Bool) (w o : Option ℕ) → b ≡ false → cond b w o ≡ o
put_else b w o e = ap (λ c. cond c w o) e

pub visited : (v : View) (k : ℕ) (before : ℕ → Option ℕ) (old : List Bool) (stamps : ℕ → Option ℕ) (flags : List Bool) (m at : ℕ) (after : ℕ → Option ℕ) →
    Walk v k before old stamps flags m → ancestor v m k ≡ Some at → stamps at ≡ None →
    ((q : ℕ) → after q ≡ cond (is_at (nat_cmp at) q) (Some (length flags)) (stamps q)) → Walk v k before old after (flags ++ false ∷ []) (m + 1)
visited v k before old stamps flags m at after w here free set =
    let count = w.count in
    let apart = λ (x i : ℕ) (e : stamps x ≡ Some i). false_by (is_at (nat_cmp at) x) (λ same. let is : at ≡ x = one_number at x same in let no : stamps x ≡ None = ap stamps (sym is) ∙ free in cc) in
    record {
      kept = λ x i e. let s = w.kept x i e in set x ∙ put_else _ _ _ (apart x i s) ∙ s;
      from = λ x i e.
          by_test (is_at (nat_cmp at) x)
          (λ same.
          let is : at ≡ x = one_number at x same in
          let n : Some (length flags) ≡ Some i = sym (set x ∙ put_at _ _ _ same) ∙ e in
          let number : length flags ≡ i = cc in
          inr (m, omega arith, omega arith, here ∙ ap Some is))
          (λ other. elim (w.from x i (sym (set x ∙ put_else _ _ _ other) ∙ e)) [
            | inl was ↦ inl was
            | inr now ↦ inr (now.0, now.1, (let h = now.2 in omega arith), now.3)
          ]);
      each = λ x t h e.
          elim (leb_tells (suc t) m) [
            | inl below ↦ let s = w.each x t below.1 e in set x ∙ put_else _ _ _ (apart x _ s) ∙ s
            | inr top ↦
                let is : t ≡ m = omega (arith, top.1) in
                let x_is : at ≡ x = let e2 = (ap (λ n. ancestor v n k) (sym is) ∙ e) in cc in
                set x ∙ put_at _ _ _ (at_itself at x x_is) ∙ ap Some (omega arith)
          ];
      old_flags = λ i h. get_front flags false i (omega arith) ∙ w.old_flags i h;
      new_flags = λ t h.
          elim (leb_tells (suc t) m) [
            | inl below ↦ get_front flags false (length old + t) (let b = below.1 in omega arith) ∙ w.new_flags t below.1
            | inr top ↦ get_last flags false (length old + t) (let b = top.1 in omega arith)
          ];
      count = length-append flags (false ∷ []) ∙ omega arith;
    }

-- what is known after a walk, where each one's answer is right, and what comes next was walked
pub finish : (v : View) (k : ℕ) (before : ℕ → Option ℕ) (old : List Bool) (stamps : ℕ → Option ℕ) (flags : List Bool) (m : ℕ) (last : List Bool) (answer : ℕ → Bool) →
    IsKnown v before old → Walk v k before old stamps flags m →
    ((i : ℕ) → i < length old → slice_get last i ≡ slice_get flags i) →
    ((t : ℕ) → t < m → slice_get last (length old + t) ≡ Some (answer t)) →
    ((x t : ℕ) → t < m → ancestor v t k ≡ Some x → is_own_ancestor v (key.Blpu x) ≡ answer t) →
    ((p : ℕ) → ancestor v m k ≡ Some p → is_some (stamps p) ≡ true) →
    IsKnown v stamps last
finish v k before old stamps flags m last answer known w same told right next =
    record {
      right = λ x i e. elim (w.from x i e) [
        | inl was ↦
            let r = known.right x i was in
            let within : i < length old = slice_get_within old i _ r in
            same i within ∙ w.old_flags i within ∙ r
        | inr now ↦ ap (slice_get last) now.1 ∙ told now.0 now.2 ∙ ap Some (sym (right x now.0 now.2 now.3))
      ];
      closed = λ x i p e up. elim (w.from x i e) [
        | inl was ↦ some_kept p (known.closed x i p was up)
        | inr now ↦
            let further : ancestor v (now.0 + 1) k ≡ Some p = one_more v now.0 k x now.3 ∙ up in
            elim (leb_tells (suc (now.0 + 1)) m) [
              | inl below ↦ ap is_some (w.each p (now.0 + 1) below.1 further)
              | inr top ↦ let is : now.0 + 1 ≡ m = let a = now.2 in let b = top.1 in omega arith in next p (ap (λ n. ancestor v n k) (sym is) ∙ further)
            ]
      ];
    }
  where
    some_kept : (p : ℕ) → is_some (before p) ≡ true → is_some (stamps p) ≡ true
    some_kept p h = elim (before p) as (λ o. before p ≡ o → is_some o ≡ true → is_some (stamps p) ≡ true) [
      | None ↦ λ _ no. absurd (true≢false (sym no))
      | Some j ↦ λ is _. ap is_some (w.kept p j is)
    ] refl h

-- ---- the three ways in which a walk ends

-- one that was visited before this walk
pub ends_known : (v : View) (k : ℕ) (before : ℕ → Option ℕ) (old : List Bool) (stamps : ℕ → Option ℕ) (flags : List Bool) (m at i : ℕ) →
    IsKnown v before old → Walk v k before old stamps flags m → ancestor v m k ≡ Some at → stamps at ≡ Some i → i < length old → IsKnown v stamps flags
ends_known v k before old stamps flags m at i known w here stamp below =
    finish v k before old stamps flags m flags (λ _. false) known w (λ _ _. refl) w.new_flags
    (λ x t h e.
    let sum : t + (m - t) ≡ m = omega arith in
    let on = split_chain v t (m - t) k at (ap (λ n. ancestor v n k) sum ∙ here) in
    let is : on.0 ≡ x = let a = on.1 in cc in
    off_ring v (λ y. is_some (before y) ≡ true)
    (λ y p s up. elim (before y) as (λ o. before y ≡ o → is_some o ≡ true → is_some (before p) ≡ true) [
      | None ↦ λ _ no. absurd (true≢false (sym no))
      | Some j ↦ λ was _. known.closed y j p was up
    ] refl s)
    x (m - t) at
    (λ inside. elim (before x) as (λ o. before x ≡ o → is_some o ≡ true → ⊥) [
      | None ↦ λ _ no. true≢false (sym no)
      | Some j ↦ λ was _.
          let early : j < length old = slice_get_within old j _ (known.right x j was) in
          let now : stamps x ≡ Some (length old + t) = w.each x t h e in
          let then : stamps x ≡ Some j = w.kept x j was in
          let same : Some j ≡ Some (length old + t) = sym then ∙ now in
          let number : j ≡ length old + t = cc in
          absurd (omega arith)
    ] refl inside)
    (subst (λ y. ancestor v (m - t) y ≡ Some at) is on.2)
    (elim (w.from at i stamp) [
      | inl was ↦ ap is_some was
      | inr now ↦ absurd (let a = now.1 in omega arith)
    ]))
    (λ p e. let same : at ≡ p = cc in ap is_some (ap stamps (sym same) ∙ stamp))

-- one without a parent
pub ends_top : (v : View) (k : ℕ) (before : ℕ → Option ℕ) (old : List Bool) (stamps : ℕ → Option ℕ) (flags : List Bool) (m : ℕ) →
    IsKnown v before old → Walk v k before old stamps flags m → ancestor v m k ≡ None → IsKnown v stamps flags
ends_top v k before old stamps flags m known w top =
    finish v k before old stamps flags m flags (λ _. false) known w (λ _ _. refl) w.new_flags
    (λ x t h e. off_end v x (m - t) (no_more x t h e))
    (λ p e. cc)
  where
    no_more : (x t : ℕ) → t < m → ancestor v t k ≡ Some x → ancestor v (m - t) x ≡ None
    no_more x t h e =
        elim (ancestor v (m - t) x) as (λ o. ancestor v (m - t) x ≡ o → o ≡ None) [
          | None ↦ λ _. refl
          | Some y ↦ λ is.
              let sum : t + (m - t) ≡ m = omega arith in
              let all : ancestor v m k ≡ Some y = ap (λ n. ancestor v n k) (sym sum) ∙ join_chain v t (m - t) k x y e is in
              cc
        ] refl

-- no one leaves those before this walk and those of its ring
ring_closed : (v : View) (k : ℕ) (before : ℕ → Option ℕ) (old : List Bool) (stamps : ℕ → Option ℕ) (flags : List Bool) (m at i : ℕ) →
    IsKnown v before old → Walk v k before old stamps flags m → ancestor v m k ≡ Some at → stamps at ≡ Some i →
    (y p : ℕ) → ((n : ℕ) × (stamps y ≡ Some n) × ((n < length old) ⊎ (i ≤ n))) → parent_of v y ≡ Some p → (n : ℕ) × (stamps p ≡ Some n) × ((n < length old) ⊎ (i ≤ n))
ring_closed v k before old stamps flags m at i known w here stamp y p s up =
    elim (w.from y s.0 s.1) [
      | inl was ↦
          let j = some_gives (before p) (known.closed y s.0 p was up) in
          (j.0, w.kept p j.0 j.1, inl (slice_get_within old j.0 _ (known.right p j.0 j.1)))
      | inr now ↦
          let number : s.0 ≡ length old + now.0 = now.1 in
          let reaches : i ≤ s.0 = elim s.2 [ inl a ↦ absurd (omega arith) | inr b ↦ b ] in
          let further : ancestor v (now.0 + 1) k ≡ Some p = one_more v now.0 k y now.3 ∙ up in
          elim (leb_tells (suc (now.0 + 1)) m) [
            | inl more ↦ (length old + (now.0 + 1), w.each p (now.0 + 1) more.1 further, inr (omega arith))
            | inr top ↦
                let is : now.0 + 1 ≡ m = let a = now.2 in let b = top.1 in omega arith in
                let same : at ≡ p = let e = (ap (λ n. ancestor v n k) (sym is) ∙ further) in cc in
                (i, ap stamps (sym same) ∙ stamp, inr (omega arith))
          ]
    ]
  where
    some_gives : (o : Option ℕ) → is_some o ≡ true → (j : ℕ) × (o ≡ Some j)
    some_gives None e = absurd (true≢false (sym e))
    some_gives (Some j) e = (j, refl)

-- one of this walk: those from there on are on a ring
pub ends_ring : (v : View) (k : ℕ) (before : ℕ → Option ℕ) (old : List Bool) (stamps : ℕ → Option ℕ) (flags last : List Bool) (m at i : ℕ) →
    IsKnown v before old → Walk v k before old stamps flags m → ancestor v m k ≡ Some at → stamps at ≡ Some i → length old ≤ i →
    ((n : ℕ) → n < i → slice_get last n ≡ slice_get flags n) → ((n : ℕ) → i ≤ n → n < length flags → slice_get last n ≡ Some true) → IsKnown v stamps last
ends_ring v k before old stamps flags last m at i known w here stamp late below above =
    let j = i - length old in
    let count = w.count in
    let visit : (j < m) × (ancestor v j k ≡ Some at) = elim (w.from at i stamp) [
      | inl was ↦ let early : i < length old = slice_get_within old i _ (known.right at i was) in absurd (omega arith)
      | inr now ↦
          let is : now.0 ≡ i - length old = let a = now.1 in omega arith in
          ((let a = now.2 in omega arith), ap (λ n. ancestor v n k) (sym is) ∙ now.3)
    ] in
    let jm : i - length old < m = visit.0 in
    finish v k before old stamps flags m last (λ t. nat_le j t) known w (λ n h. below n (omega arith))
    (λ t h. elim (leb_tells j t) [
      | inl on ↦ above (length old + t) (let a = on.1 in omega arith) (omega arith) ∙ ap Some (sym on.0)
      | inr off ↦ below (length old + t) (let a = off.1 in omega arith) ∙ w.new_flags t h ∙ ap Some (sym off.0)
    ])
    (λ x t h e.
    let sum : t + (m - t) ≡ m = omega arith in
    let on = split_chain v t (m - t) k at (ap (λ n. ancestor v n k) sum ∙ here) in
    let is : on.0 ≡ x = let a = on.1 in cc in
    let up : ancestor v (m - t) x ≡ Some at = subst (λ y. ancestor v (m - t) y ≡ Some at) is on.2 in
    elim (leb_tells j t) [
      | inl late_one ↦
          let jt : j ≤ t = late_one.1 in
          let sum2 : j + (t - j) ≡ t = omega arith in
          let from_k = split_chain v j (t - j) k x (ap (λ n. ancestor v n k) sum2 ∙ e) in
          let is2 : from_k.0 ≡ at = let a = from_k.1 in let b = visit.1 in cc in
          let down : ancestor v (t - j) at ≡ Some x = subst (λ y. ancestor v (t - j) y ≡ Some x) is2 from_k.2 in
          ring_breaks v x ((m - t) + (t - j)) (omega arith) (join_chain v (m - t) (t - j) x at x up down) ∙ sym late_one.0
      | inr early ↦
          let tj : t < j = let a = early.1 in omega arith in
          off_ring v (λ y. (n : ℕ) × (stamps y ≡ Some n) × ((n < length old) ⊎ (i ≤ n)))
          (ring_closed v k before old stamps flags m at i known w here stamp)
          x (m - t) at
          (λ inside.
          let now : stamps x ≡ Some (length old + t) = w.each x t h e in
          let same : Some inside.0 ≡ Some (length old + t) = sym inside.1 ∙ now in
          let number : inside.0 ≡ length old + t = cc in
          elim inside.2 [
            | inl a ↦ absurd (omega arith)
            | inr b ↦ absurd (omega arith)
          ])
          up
          (i, stamp, inr (omega arith))
          ∙ sym early.0
    ])
    (λ p e. let same : at ≡ p = cc in ap is_some (ap stamps (sym same) ∙ stamp))

-- whoever a walk begins at was visited
pub first_seen : (v : View) (k : ℕ) (before : ℕ → Option ℕ) (old : List Bool) (stamps : ℕ → Option ℕ) (flags : List Bool) (m at i : ℕ) →
    Walk v k before old stamps flags m → ancestor v m k ≡ Some at → stamps at ≡ Some i → is_some (stamps k) ≡ true
first_seen v k before old stamps flags zero at i w here stamp = let is : k ≡ at = cc in ap is_some (ap stamps is ∙ stamp)
first_seen v k before old stamps flags (suc m) at i w here stamp = ap is_some (w.each k 0 (omega arith) refl)

pub first_of_many : (v : View) (k : ℕ) (before : ℕ → Option ℕ) (old : List Bool) (stamps : ℕ → Option ℕ) (flags : List Bool) (m : ℕ) →
    Walk v k before old stamps flags (m + 1) → is_some (stamps k) ≡ true
first_of_many v k before old stamps flags m w = ap is_some (w.each k 0 (omega arith) refl)

pub visited_as : (v : View) (k : ℕ) (before : ℕ → Option ℕ) (old : List Bool) (stamps : ℕ → Option ℕ) (flags : List Bool) (m at : ℕ) (after : ℕ → Option ℕ) (last : List Bool) →
    Walk v k before old stamps flags m → ancestor v m k ≡ Some at → stamps at ≡ None →
    ((q : ℕ) → after q ≡ cond (is_at (nat_cmp at) q) (Some (length flags)) (stamps q)) → last ≡ flags ++ false ∷ [] → Walk v k before old after last (m + 1)
visited_as v k before old stamps flags m at after last w here free set is = subst (λ f. Walk v k before old after f (m + 1)) (sym is) (visited v k before old stamps flags m at after w here free set)

-- whose parent was walked: the mark of its visit tells, and where it wasn't visited it is on no ring
pub mark_right : (v : View) (stamps : ℕ → Option ℕ) (flags : List Bool) (x p : ℕ) (r : Bool) →
    IsKnown v stamps flags → is_some (stamps p) ≡ true → parent_of v x ≡ Some p →
    ((i : ℕ) (b : Bool) → stamps x ≡ Some i → slice_get flags i ≡ Some b → r ≡ b) → (stamps x ≡ None → r ≡ false) → r ≡ is_own_ancestor v (key.Blpu x)
mark_right v stamps flags x p r known walked up told never =
    elim (stamps x) as (λ o. stamps x ≡ o → r ≡ is_own_ancestor v (key.Blpu x)) [
      | None ↦ λ is.
          never is ∙ sym (off_ring v (λ y. is_some (stamps y) ≡ true) goes_on x 1 p (λ inside. true≢false (sym inside ∙ ap is_some is)) (ap (option_and_then (ancestor v 0)) up) walked)
      | Some i ↦ λ is. told i _ is (known.right x i is)
    ] refl
  where
    goes_on : (y q : ℕ) → is_some (stamps y) ≡ true → parent_of v y ≡ Some q → is_some (stamps q) ≡ true
    goes_on y q s e = elim (stamps y) as (λ o. stamps y ≡ o → is_some o ≡ true → is_some (stamps q) ≡ true) [
      | None ↦ λ _ no. absurd (true≢false (sym no))
      | Some j ↦ λ was _. known.closed y j q was e
    ] refl s

-- a BLPU without a parent is on no ring
pub no_parent : (v : View) (x : ℕ) → parent_of v x ≡ None → is_own_ancestor v (key.Blpu x) ≡ false
no_parent v x e = off_end v x 1 (ap (option_and_then (ancestor v 0)) e)
