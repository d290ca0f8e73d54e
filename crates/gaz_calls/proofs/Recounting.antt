-- What is at hand stays so when a file comes and when a volume is judged.
use Rattle.std.proofs.Common.{◌≡◌, ◌≢◌, ◌≤◌, ◌<◌, ◌+◌, ◌⊎◌, ◌∙◌, ◌&&◌, ◌||◌, ◌==◌, inl, inr, ℕ, Bool, true, false, cond, not, List, [], ◌∷◌, length, refl, sym, ap, subst, arith, eqb-true}
use Rattle.std.specs.Prelude.{Option, Some, None, IfSome, IsSome, is_some, nat_le, option_map}
use Rattle.std.proofs.Math.Bool.{and-false}
use Rattle.std.proofs.lemmas.Bool.{cases_eq, le-leb, leb-true, ne_eqb}
use Rattle.std.proofs.lemmas.Bool.Decides.{leb_tells}
use Rattle.std.proofs.lemmas.List.{length-append}
use Rattle.std.specs.Cmp.{both_ways, tied_itself}
use Rattle.std.specs.FinMap as finite
use Rattle.std.specs.Ordering.{is_eq}
use Rattle.sqlite.specs.Effect.{Database}
use Rattle.sqlite.specs.declared.types.Value.TheVariants.{Int}
use Rattle.sqlite.specs.Edit.{next_rowid}
use Rattle.sqlite.specs.Order.{Row}
use Rattle.gaz_views.specs.declared.verdict.Verdict.{Verdict}
use Rattle.gaz_keeper.proofs.Pairs.{pairs_total}
use Rattle.gaz_keeper.specs.Received.{Received, count_above, with_file}
use Rattle.gaz_tables.specs.Receiveds.{unjudged}
use Rattle.gaz_tables.specs.Schema.{received}
use Rattle.gaz_tables.specs.Stores.{AddsRow, ChangesTable}
use Rattle.gaz_tables.specs.Tables.{rows_of}
use Rattle.gaz_kept.specs.Files.{Judged, files_in, reached_in, verdicts_in}
use Rattle.gaz_kept.specs.Judging.{Arrives, IsJudged}
use Rattle.gaz_kept.specs.Kept.{IsKept}
use Rattle.gaz_calls.specs.Remembered.{AreSo, IsSo, held_in}
use Rattle.gaz_counts.specs.declared.counts.Counts.{Counts}
use Rattle.gaz_counts.specs.Counts.{OneJudged, OneMore, Recounts, noted}
use Rattle.gaz_counts.specs.declared.at_hand.AtHand.{AtHand}
use Rattle.gaz_calls.proofs.Counts.{above_true, counts_one_more, counts_same, is_above, is_same, same, waits}
use Rattle.gaz_kept.proofs.Judging.{files_change}
use Rattle.gaz_kept.proofs.Stands.{are_files}
use Rattle.gaz_calls.proofs.Recalling.{if_some, if_some_at}
use Rattle.gaz_calls.proofs.Waiting.{judged_there}

abbrev Pair : Type 0
Pair = ℕ × ℕ

-- ---- a file comes

some_cond : {X : Type 0} (b : Bool) (x : X) (o : Option X) → is_some (cond b (Some x) o) ≡ (b || is_some o)
some_cond true x o = refl
some_cond false x o = refl

module _ (files : Received) (c v : ℕ) (bytes : List ℕ) where
  has_file : (q : Pair) → finite.contains_key (with_file files c v bytes) q ≡ (same q (c, v) || finite.contains_key files q)
  has_file q = ap is_some (finite.get-insert pairs_total files (c, v) bytes q) ∙ some_cond (same q (c, v)) bytes (finite.get files q)

  come_waits : (n : ℕ) → n < v → (q : Pair) → waits (with_file files c v bytes) c n q ≡ (same q (c, v) || waits files c n q)
  come_waits n less q = ap (λ b. b && is_above c n q) (has_file q) ∙ by_test (same q (c, v)) refl
    where
      by_test : (b : Bool) → same q (c, v) ≡ b → ((same q (c, v) || finite.contains_key files q) && is_above c n q) ≡ (same q (c, v) || waits files c n q)
      by_test true is =
          let here : is_above c n q ≡ true = ap (is_above c n) (is_same q (c, v) is) ∙ above_true c n c v refl less in
          ap (λ b. (b || finite.contains_key files q) && is_above c n q) is ∙ here ∙ ap (λ b. b || waits files c n q) (sym is)
      by_test false is = ap (λ b. (b || finite.contains_key files q) && is_above c n q) is ∙ ap (λ b. b || waits files c n q) (sym is)

  come_here : finite.get files (c, v) ≡ None → (n : ℕ) → n < v → count_above (with_file files c v bytes) c n ≡ count_above files c n + 1
  come_here fresh n less = counts_one_more files (with_file files c v bytes) c n n (c, v) (come_waits n less) (ap (λ o. is_some o && is_above c n (c, v)) fresh)

  come_elsewhere : (d : ℕ) → d ≢ c → (n : ℕ) → count_above (with_file files c v bytes) d n ≡ count_above files d n
  come_elsewhere d other n = counts_same files (with_file files c v bytes) d n (λ q. ap (λ b. b && is_above d n q) (has_file q) ∙ by_test q (same q (c, v)) refl)
    where
      by_test : (q : Pair) (b : Bool) → same q (c, v) ≡ b → ((same q (c, v) || finite.contains_key files q) && is_above d n q) ≡ waits files d n q
      by_test q true is =
          let here : is_above d n q ≡ false = ap (is_above d n) (is_same q (c, v) is) ∙ ap (λ b. b && not (nat_le v n)) (ne_eqb c d (λ e. other (sym e))) in
          ap (λ b. (same q (c, v) || finite.contains_key files q) && b) here ∙ and-false (same q (c, v) || finite.contains_key files q) ∙ sym (and-false (finite.contains_key files q)) ∙ ap (λ b. finite.contains_key files q && b) (sym here)
      by_test q false is = ap (λ b. (b || finite.contains_key files q) && is_above d n q) is

-- ---- a volume is judged

is_there : {X : Type 0} (o : Option X) → IsSome o → is_some o ≡ true
is_there (Some x) some = refl
is_there None some = let clash : false ≡ true = some in absurd (cc)

judged_waits : (files : Received) (c n : ℕ) → IsSome (finite.get files (c, n + 1)) → (q : Pair) → waits files c n q ≡ (same q (c, n + 1) || waits files c (n + 1) q)
judged_waits files c n there q = by_test (same q (c, n + 1)) refl
  where
    at_next : waits files c n (c, n + 1) ≡ true
    at_next = ap (λ b. b && is_above c n (c, n + 1)) (is_there (finite.get files (c, n + 1)) there) ∙ above_true c n c (n + 1) refl (omega arith)

    other : (d u : ℕ) → ((d ≡ c) → (u ≡ n + 1) → ⊥) → is_above c n (d, u) ≡ is_above c (n + 1) (d, u)
    other d u apart = by_cust (d == c) refl
      where
        by_cust : (b : Bool) → (d == c) ≡ b → ((d == c) && not (nat_le u n)) ≡ ((d == c) && not (nat_le u (n + 1)))
        by_cust false is = ap (λ b. b && not (nat_le u n)) is ∙ sym (ap (λ b. b && not (nat_le u (n + 1))) is)
        by_cust true is = ap (λ b. (d == c) && not b) (both_ways (nat_le u n) (nat_le u (n + 1))
            (λ e. let le = leb-true u n e in le-leb u (n + 1) (omega (arith, le)))
            (λ e. let le = leb-true u (n + 1) e in elim (cases_eq u (n + 1)) [ inl at ↦ absurd (apart (eqb-true d c is) at) | inr off ↦ le-leb u n (omega (arith, le, off)) ]))

    by_test : (b : Bool) → same q (c, n + 1) ≡ b → waits files c n q ≡ (same q (c, n + 1) || waits files c (n + 1) q)
    by_test true is = subst (λ p. waits files c n p ≡ true) (sym (is_same q (c, n + 1) is)) at_next ∙ ap (λ b. b || waits files c (n + 1) q) (sym is)
    by_test false is =
        ap (λ b. finite.contains_key files q && b) (other q.0 q.1 (λ cust vol. let e : q ≡ (c, n + 1) = λ i. (cust i, vol i) in let clash : true ≡ false = sym (ap is_eq (tied_itself pairs_total (c, n + 1))) ∙ ap (λ p. same p (c, n + 1)) (sym e) ∙ is in absurd (cc)))
        ∙ ap (λ b. b || waits files c (n + 1) q) (sym is)

judged_here : (files : Received) (c n : ℕ) → IsSome (finite.get files (c, n + 1)) → count_above files c n ≡ count_above files c (n + 1) + 1
judged_here files c n there = counts_one_more files files c (n + 1) n (c, n + 1) (judged_waits files c n there) past
  where
    past : waits files c (n + 1) (c, n + 1) ≡ false
    past = ap (λ b. finite.contains_key files (c, n + 1) && ((c == c) && not b)) (le-leb (n + 1) (n + 1) (omega arith)) ∙ ap (λ b. finite.contains_key files (c, n + 1) && b) (and-false (c == c)) ∙ and-false (finite.contains_key files (c, n + 1))

-- ---- what is at hand

-- of a custodian whose rows say the same
so_elsewhere : (before after : Counts) (c : ℕ) (Becomes : AtHand → AtHand → Type 0) (old new : List Row) → Recounts c Becomes before after → AreSo before old
    → (d : ℕ) → d ≢ c → reached_in new d ≡ reached_in old d → held_in new d ≡ held_in old d → IfSome (noted after d) (IsSo new d)
so_elsewhere before after c Becomes old new counts so d other reached held =
    if_some (noted after d) (λ h. noted before d ≡ Some h) (IsSo new d)
    (λ h is was. let s = if_some_at (noted before d) h (IsSo old d) was (so d) in record { reached = s.reached ∙ sym reached; held = if_some h.held (λ n. n ≡ held_in old d) (λ n. n ≡ held_in new d) (λ n some waits. waits ∙ sym held) s.held })
    (counts.others d other)

so_here : (before after : Counts) (c : ℕ) (Becomes : AtHand → AtHand → Type 0) (old new : List Row) → Recounts c Becomes before after → AreSo before old
    → ((was h : AtHand) → Becomes was h → IsSo old c was → IsSo new c h) → IfSome (noted after c) (IsSo new c)
so_here before after c Becomes old new counts so goes =
    if_some (noted after c) (λ h. (was : AtHand) × (noted before c ≡ Some was) × Becomes was h) (IsSo new c)
    (λ h is it. goes it.0 h it.2 (if_some_at (noted before c) it.0 (IsSo old c) it.1 (so c)))
    counts.own

-- where it is at hand how many waited, there is one more
one_more : (was now : Option ℕ) (a b : ℕ) → IfSome now (λ n. Some n ≡ option_map (λ m. m + 1) was) → IfSome was (λ m. m ≡ a) → a + 1 ≡ b → IfSome now (λ n. n ≡ b)
one_more was None a b one so step = tt
one_more None (Some n) a b one so step = let clash : Some n ≡ None = one in absurd (cc)
one_more (Some m) (Some n) a b one so step =
    let same : Some n ≡ Some (m + 1) = one in
    let more : n ≡ m + 1 = cc in
    omega (arith, more, so, step)

-- or one less
one_less : (was now : Option ℕ) (a b : ℕ) → IfSome now (λ n. was ≡ Some (n + 1)) → IfSome was (λ m. m ≡ a) → a ≡ b + 1 → IfSome now (λ n. n ≡ b)
one_less was None a b one so step = tt
one_less was (Some n) a b one so step = let there : n + 1 ≡ a = if_some_at was (n + 1) (λ m. m ≡ a) one so in omega (arith, there, step)

module _ (c v : ℕ) (bytes : List ℕ) (old new : Database) (before after : Counts) (first : 1 ≤ v) (last : v ≤ 999_999) (kept : IsKept old)
    (fresh : finite.get (files_in (rows_of old received)) (c, v) ≡ None) (changes : ChangesTable received (AddsRow (unjudged c v bytes)) old new)
    (counts : Recounts c OneMore before after) (so : AreSo before (rows_of old received)) where
  arrives : Arrives c v bytes (rows_of old received) (rows_of new received)
  arrives = files_change.insert (Int (next_rowid (rows_of old received))) c v bytes (rows_of old received) (rows_of new received) first last (are_files old kept) fresh changes.rows

  same_reached : (d : ℕ) → reached_in (rows_of new received) d ≡ reached_in (rows_of old received) d
  same_reached d = ap (λ (m : Judged). length (finite.values m)) (arrives.judged d)

  -- the file is above the judged ones
  above : reached_in (rows_of old received) c < v
  above = by_place (leb_tells v (reached_in (rows_of old received) c))
    where
      by_place : ((nat_le v (reached_in (rows_of old received) c) ≡ true) × (v ≤ reached_in (rows_of old received) c)) ⊎ ((nat_le v (reached_in (rows_of old received) c) ≡ false) × (reached_in (rows_of old received) c < v)) → reached_in (rows_of old received) c < v
      by_place (inl le) = let clash : false ≡ true = subst IsSome fresh (judged_there old kept c v first le.1) in absurd (cc)
      by_place (inr lt) = lt.1

  held_now : (d : ℕ) → held_in (rows_of new received) d ≡ count_above (with_file (files_in (rows_of old received)) c v bytes) d (reached_in (rows_of old received) d)
  held_now d = λ i. count_above (arrives.files i) d (same_reached d i)

  pub come_so : AreSo after (rows_of new received)
  come_so d = elim (cases_eq d c) [
    | inl here ↦ subst (λ e. IfSome (noted after e) (IsSo (rows_of new received) e)) (sym here)
        (so_here before after c OneMore (rows_of old received) (rows_of new received) counts so (λ was h one s. record {
          reached = one.reached ∙ s.reached ∙ sym (same_reached c);
          held = one_more was.held h.held (held_in (rows_of old received) c) (held_in (rows_of new received) c) one.held s.held
              (sym (held_now c ∙ come_here (files_in (rows_of old received)) c v bytes fresh (reached_in (rows_of old received) c) above));
        }))
    | inr other ↦ so_elsewhere before after c OneMore (rows_of old received) (rows_of new received) counts so d other (same_reached d)
        (held_now d ∙ come_elsewhere (files_in (rows_of old received)) c v bytes d other (reached_in (rows_of old received) d))
  ]

module _ (c : ℕ) (verdict : Verdict) (old new : List Row) (before after : Counts) (judges : IsJudged c (reached_in old c + 1) verdict old new)
    (there : IsSome (finite.get (files_in old) (c, reached_in old c + 1))) (counts : Recounts c OneJudged before after) (so : AreSo before old) where
  abbrev n : ℕ
  n = reached_in old c

  next_reached : reached_in new c ≡ n + 1
  next_reached = ap length judges.verdicts ∙ length-append (verdicts_in old c) (verdict ∷ [])

  next_held : held_in old c ≡ held_in new c + 1
  next_held = judged_here (files_in old) c n there ∙ sym (λ i. count_above (judges.files i) c (next_reached i) + 1)

  pub judged_so : AreSo after new
  judged_so d = elim (cases_eq d c) [
    | inl here ↦ subst (λ e. IfSome (noted after e) (IsSo new e)) (sym here)
        (so_here before after c OneJudged old new counts so (λ was h one s.
        let reached = s.reached in
        let more = one.reached in
        record { reached = omega (arith, reached, more, next_reached); held = one_less was.held h.held (held_in old c) (held_in new c) one.held s.held next_held }))
    | inr other ↦ so_elsewhere before after c OneJudged old new counts so d other (ap (λ (m : Judged). length (finite.values m)) (judges.others d other))
        (λ i. count_above (judges.files i) d (length (finite.values (judges.others d other i))))
  ]
