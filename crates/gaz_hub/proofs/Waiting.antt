-- What is remembered of who waits for what stays right while files come and are judged.
use Rattle.std.proofs.Common.{◌≡◌, ◌≤◌, ◌+◌, ℕ, Bool, true, false, cond, not, ◌&&◌, ◌||◌, eqb, eqb-true, eq-eqb, List, [], ◌∷◌, ◌++◌, filter, map, refl, sym, ap, ◌∙◌, subst, arith, true≢false, leb-true, le-leb, inl, inr}
use Rattle.std.proofs.lemmas.Bool.Decides.{leb_tells}
use Rattle.std.proofs.lemmas.List.Folds.{list_any-append}
use Rattle.std.proofs.lemmas.List.{length_push}
use Rattle.std.proofs.lemmas.Map.Lookups.{exact_unsigned}
use Rattle.std.specs.Cmp.{Equal-is, eq_by_cmp_equiv, nat_cmp_total}
use Rattle.std.specs.Prelude.{nat_le, is_some, is_none, length, Option, Some, None}
use Rattle.std.specs.List.{find}
use Rattle.std.specs.Option.{option_map, option_map_or, unwrap_or}
use Rattle.std.specs.FinMap as finmap
use Rattle.std.specs.Ordering.{eq_by_cmp, nat_cmp}
use Rattle.gaz_changefile.specs.Reading.{Reading, reading}
use Rattle.gaz_changefile.specs.declared.change.Basis.{Basis}
use Rattle.gaz_register.specs.Registers.{CustodianValue, Owners, RegisterValue, knows}
use Rattle.gaz_end_rules.specs.Bases.{are_reached}
use Rattle.gaz_rules.specs.Judging.{bases_of}
use Rattle.gaz_keeper.proofs.Pairs.{pairs_total}
use Rattle.gaz_keeper.specs.Board.{Board, reached}
use Rattle.gaz_keeper.specs.Received.{Received, with_file}
use Rattle.gaz_waiters.specs.Remembered.{Remembered, is_among, waiting_for, wanted_by, with_coming, with_judged, with_nothing_wanted, with_waiter}
use Rattle.gaz_steps.specs.Outcomes.{first_unreached, wants, wants_as}
use Rattle.gaz_steps.specs.Runs.{same_pair}
use Rattle.gaz_steps.specs.Standing.{judge_one, next_reading, ready, with_next}
use Rattle.gaz_hub.specs.Waiting.{Rests}
use Rattle.gaz_steps.proofs.Orders.{next, ready_gives, with_next_is}
use Rattle.gaz_steps.proofs.Steps.{pairs_same}

-- ---- who is among some

either_no : (a b : Bool) → (a || b) ≡ false → (a ≡ false) × (b ≡ false)
either_no true b e = absurd (true≢false e)
either_no false b e = (refl, e)

-- who isn't among two lists joined is in neither
pub in_neither : (xs ys : List ℕ) (c : ℕ) → is_among (xs ++ ys) c ≡ false → (is_among xs c ≡ false) × (is_among ys c ≡ false)
in_neither xs ys c e = either_no _ _ (sym (list_any-append (λ x. eqb x c) xs ys) ∙ e)

pub in_joined : (xs ys : List ℕ) (c : ℕ) → is_among xs c ≡ true → is_among (xs ++ ys) c ≡ true
in_joined xs ys c e = list_any-append (λ x. eqb x c) xs ys ∙ ap (λ b. b || is_among ys c) e

pub in_pushed : (xs : List ℕ) (c : ℕ) → is_among (xs ++ c ∷ []) c ≡ true
in_pushed xs c = list_any-append (λ x. eqb x c) xs (c ∷ []) ∙ ap (λ b. is_among xs c || (b || false)) (eq-eqb c c refl) ∙ or_true (is_among xs c)
  where
    or_true : (a : Bool) → (a || true) ≡ true
    or_true true = refl
    or_true false = refl

-- who is neither among the others of a list nor the one left out isn't in it
pub in_others : (xs : List ℕ) (a c : ℕ) → eqb a c ≡ false → is_among (filter (λ x. not (eqb x a)) xs) c ≡ false → is_among xs c ≡ false
in_others [] a c apart e = refl
in_others (x ∷ xs) a c apart e =
    elim (eqb x a) as (λ b. eqb x a ≡ b → is_among (cond (not b) (x ∷ filter (λ y. not (eqb y a)) xs) (filter (λ y. not (eqb y a)) xs)) c ≡ false → (eqb x c || is_among xs c) ≡ false) [
      | true ↦ λ t rest. ap (λ b. b || is_among xs c) (ap (λ y. eqb y c) (eqb-true x a t) ∙ apart) ∙ in_others xs a c apart rest
      | false ↦ λ _ both. let no = either_no _ _ both in ap (λ b. b || is_among xs c) no.0 ∙ in_others xs a c apart no.1
    ] refl e

-- each custodian that a register knows is among its codes
pub known_among : (register : RegisterValue) (c : ℕ) → knows register c ≡ true → is_among (map (λ (k : CustodianValue). k.code) register) c ≡ true
known_among [] c e = absurd (true≢false (sym e))
known_among (k ∷ register) c e =
    elim (eqb k.code c) as (λ b. is_some (cond b (Some k) (find (λ (x : CustodianValue). eqb x.code c) register)) ≡ true → (b || is_among (map (λ (x : CustodianValue). x.code) register) c) ≡ true) [
      | true ↦ λ _. refl
      | false ↦ λ rest. known_among register c rest
    ] e

-- ---- who waits for what

naturals_apart : (a c : ℕ) → eqb a c ≡ false → eq_by_cmp nat_cmp c a ≡ false
naturals_apart a c e =
    elim (eq_by_cmp nat_cmp c a) as (λ b. eq_by_cmp nat_cmp c a ≡ b → b ≡ false) [
      | true ↦ λ t. sym (eq-eqb a c (sym (exact_unsigned c a ((Equal-is (nat_cmp c a)).0 t)))) ∙ e
      | false ↦ λ _. refl
    ] refl

itself : (p : ℕ × ℕ) → same_pair p p ≡ true
itself p = (eq_by_cmp_equiv pairs_total).refl p

-- who waits after one more does
pub waiting_with : (m : Remembered) (p q : ℕ × ℕ) (a : ℕ) → waiting_for (with_waiter m p a) q ≡ unwrap_or (cond (same_pair q p) (Some (waiting_for m p ++ a ∷ [])) (finmap.get m.waiting q)) []
waiting_with m p q a = ap (λ o. unwrap_or o []) (finmap.get-insert pairs_total m.waiting p (waiting_for m p ++ a ∷ []) q)

pub still_waits : (m : Remembered) (p q : ℕ × ℕ) (a c : ℕ) → is_among (waiting_for m q) c ≡ true → is_among (waiting_for (with_waiter m p a) q) c ≡ true
still_waits m p q a c e =
    ap (λ xs. is_among xs c) (waiting_with m p q a)
    ∙ elim (same_pair q p) as (λ b. same_pair q p ≡ b → is_among (unwrap_or (cond b (Some (waiting_for m p ++ a ∷ [])) (finmap.get m.waiting q)) []) c ≡ true) [
      | true ↦ λ t. in_joined (waiting_for m p) (a ∷ []) c (ap (λ r. is_among (waiting_for m r) c) (sym (pairs_same q p t)) ∙ e)
      | false ↦ λ _. e
    ] refl

pub now_waits : (m : Remembered) (p : ℕ × ℕ) (a : ℕ) → is_among (waiting_for (with_waiter m p a) p) a ≡ true
now_waits m p a =
    ap (λ xs. is_among xs a) (waiting_with m p p a ∙ ap (λ b. unwrap_or (cond b (Some (waiting_for m p ++ a ∷ [])) (finmap.get m.waiting p)) []) (itself p))
    ∙ in_pushed (waiting_for m p) a

-- what it waits for is remembered, and of others what was
pub now_wanted : (m : Remembered) (p : ℕ × ℕ) (a : ℕ) → wanted_by (with_waiter m p a) a ≡ Some p
now_wanted m p a =
    finmap.get-insert nat_cmp_total m.wanted a p a
    ∙ ap (λ b. cond b (Some p) (finmap.get m.wanted a)) ((eq_by_cmp_equiv nat_cmp_total).refl a)

pub still_wanted : (m : Remembered) (p : ℕ × ℕ) (a c : ℕ) → eqb a c ≡ false → wanted_by (with_waiter m p a) c ≡ wanted_by m c
still_wanted m p a c e =
    finmap.get-insert nat_cmp_total m.wanted a p c
    ∙ ap (λ b. cond b (Some p) (finmap.get m.wanted c)) (naturals_apart a c e)

-- a custodian that waits for nothing, and others
pub nothing_wanted : (m : Remembered) (a : ℕ) → wanted_by (with_nothing_wanted m a) a ≡ None
nothing_wanted m a =
    finmap.get-remove nat_cmp_total m.wanted a a
    ∙ ap (λ b. cond b None (finmap.get m.wanted a)) ((eq_by_cmp_equiv nat_cmp_total).refl a)

pub others_wanted : (m : Remembered) (a c : ℕ) → eqb a c ≡ false → wanted_by (with_nothing_wanted m a) c ≡ wanted_by m c
others_wanted m a c e =
    finmap.get-remove nat_cmp_total m.wanted a c
    ∙ ap (λ b. cond b None (finmap.get m.wanted c)) (naturals_apart a c e)

-- those who wait for another volume than the judged one are the same
pub others_wait : (m : Remembered) (p q : ℕ × ℕ) → same_pair q p ≡ false → waiting_for (with_judged m p) q ≡ waiting_for m q
others_wait m p q e =
    ap (λ o. unwrap_or o []) (finmap.get-remove pairs_total m.waiting p q)
    ∙ ap (λ b. unwrap_or (cond b None (finmap.get m.waiting q)) []) e

-- ---- a file is judged

-- who isn't ahead after a judgement wasn't before, is another than the judged one, and didn't wait
pub record Unwoken (m : Remembered) (p : ℕ × ℕ) (c : ℕ) : Type 0 where
  pub before : is_among m.ahead c ≡ false
  pub another : eqb p.0 c ≡ false
  pub waits_not : is_among (waiting_for m p) c ≡ false

pub unwoken : (m : Remembered) (p : ℕ × ℕ) (c : ℕ) → is_among (with_judged m p).ahead c ≡ false → Unwoken m p c
unwoken m p c e =
    let parts = in_neither m.ahead (p.0 ∷ filter (λ x. not (eqb x p.0)) (waiting_for m p)) c e in
    let both = either_no _ _ parts.1 in
    record { before = parts.0; another = both.0; waits_not = in_others (waiting_for m p) p.0 c both.0 both.1 }

none_is : (board : Board) (bases : List Basis) → are_reached board bases ≡ is_none (first_unreached board bases)
none_is board [] = refl
none_is board (b ∷ bases) =
    elim (nat_le b.volume (reached board b.custodian)) as (λ x. (x && are_reached board bases) ≡ is_none (cond (not x) (Some b) (first_unreached board bases))) [
      | true ↦ none_is board bases
      | false ↦ refl
    ]

-- one volume more of one custodian leaves unreached what was, but for that volume itself
module _ (board later : Board) (c : ℕ) (more : reached later c ≡ reached board c + 1) (same : (d : ℕ) → eqb d c ≡ false → reached later d ≡ reached board d) where
  up : (d : ℕ) → reached board d ≤ reached later d
  up d =
      elim (eqb d c) as (λ b. eqb d c ≡ b → reached board d ≤ reached later d) [
        | true ↦ λ t. let is = eqb-true d c t in subst (λ x. reached board x ≤ reached later x) (sym is) (omega (arith, more))
        | false ↦ λ t. let e = same d t in omega arith
      ] refl

  still_below : (b : Basis) → nat_le b.volume (reached board b.custodian) ≡ false → (b.custodian ≡ c → b.volume ≡ reached board c + 1 → ⊥) → nat_le b.volume (reached later b.custodian) ≡ false
  still_below b below never =
      elim (leb_tells b.volume (reached later b.custodian)) [
        | inl t ↦ absurd (there t.1)
        | inr t ↦ t.0
      ]
    where
      above : reached board b.custodian + 1 ≤ b.volume
      above = elim (leb_tells b.volume (reached board b.custodian)) [ inl t ↦ absurd (true≢false (sym t.0 ∙ below)) | inr t ↦ omega (arith, t.1) ]

      there : b.volume ≤ reached later b.custodian → ⊥
      there h =
          elim (eqb b.custodian c) as (λ x. eqb b.custodian c ≡ x → ⊥) [
            | true ↦ λ t.
                let is = eqb-true b.custodian c t in
                let now : reached later b.custodian ≡ reached board c + 1 = ap (reached later) is ∙ more in
                let was : reached board b.custodian ≡ reached board c = ap (reached board) is in
                never is (omega (arith, now, was, above, h))
            | false ↦ λ t. let e = same b.custodian t in omega (arith, e, above, h)
          ] refl

  pub first_stays : (bases : List Basis) → ((b : Basis) → first_unreached board bases ≡ Some b → b.custodian ≡ c → b.volume ≡ reached board c + 1 → ⊥)
      → first_unreached later bases ≡ first_unreached board bases
  first_stays [] never = refl
  first_stays (b ∷ bases) never =
      elim (nat_le b.volume (reached board b.custodian))
      as (λ x. nat_le b.volume (reached board b.custodian) ≡ x
      → ((y : Basis) → cond (not x) (Some b) (first_unreached board bases) ≡ Some y → y.custodian ≡ c → y.volume ≡ reached board c + 1 → ⊥)
      → first_unreached later (b ∷ bases) ≡ cond (not x) (Some b) (first_unreached board bases)) [
        | true ↦ λ t here.
            let now : nat_le b.volume (reached later b.custodian) ≡ true = le-leb _ _ (let h = leb-true _ _ t in let g = up b.custodian in omega arith) in
            ap (λ x. cond (not x) (Some b) (first_unreached later bases)) now ∙ first_stays bases here
        | false ↦ λ t here. ap (λ x. cond (not x) (Some b) (first_unreached later bases)) (still_below b t (here b refl))
      ] refl never

-- the board after the next file of a custodian that is ready was judged
module _ (register : Owners) (files : Received) (board : Board) (c : ℕ) (is_ready : ready files board c ≡ true) where
  abbrev pub later : Board
  later = judge_one register files board c

  pub one_more : reached later c ≡ reached board c + 1
  one_more =
      let is = ready_gives files board c is_ready in
      ap (λ b. length (cond b (with_next register files board c) (board c))) (eq-eqb c c refl)
      ∙ ap length (with_next_is register files board c is) ∙ length_push (board c) (next register files board c is)

  pub as_before : (d : ℕ) → eqb d c ≡ false → reached later d ≡ reached board d
  as_before d e = ap (λ b. length (cond b (with_next register files board d) (board d))) e

  next_as_before : (d : ℕ) → eqb d c ≡ false → next_reading files later d ≡ next_reading files board d
  next_as_before d e = ap (λ n. option_map (λ bytes. reading bytes d (n + 1)) (finmap.get files (d, n + 1))) (as_before d e)

  -- what a file of another custodian waits for stays, where that isn't the judged volume
  module _ (d : ℕ) (apart : eqb d c ≡ false) (never : wants files board d ≡ Some (c, reached board c + 1) → ⊥) where
    -- where its next file reads so
    first_then : (r : Reading) → nat_le (reached board d + 1) 999999 ≡ true → next_reading files board d ≡ Some r
        → first_unreached later (bases_of r) ≡ first_unreached board (bases_of r)
    first_then r within reads =
        first_stays board later c one_more as_before (bases_of r)
        (λ b is who what. never (
        (λ i. cond (within i) (wants_as board d (reads i)) None)
        ∙ ap (option_map (λ (x : Basis). (x.custodian, x.volume))) is ∙ (λ i. Some (who i, what i))))

    wants_in : (within : Bool) (next : Option Reading) → nat_le (reached board d + 1) 999999 ≡ within → next_reading files board d ≡ next
        → cond within (wants_as later d next) None ≡ cond within (wants_as board d next) None
    wants_in false next w e = refl
    wants_in true None w e = ap (λ n. Some (d, n + 1)) (as_before d apart)
    wants_in true (Some r) w e = ap (option_map (λ (x : Basis). (x.custodian, x.volume))) (first_then r w e)

    ready_in : (within : Bool) (next : Option Reading) → nat_le (reached board d + 1) 999999 ≡ within → next_reading files board d ≡ next
        → (within && option_map_or (λ r. are_reached later (bases_of r)) next false) ≡ (within && option_map_or (λ r. are_reached board (bases_of r)) next false)
    ready_in false next w e = refl
    ready_in true None w e = refl
    ready_in true (Some r) w e = none_is later (bases_of r) ∙ ap is_none (first_then r w e) ∙ sym (none_is board (bases_of r))

    pub wants_stays : wants files later d ≡ wants files board d
    wants_stays =
        (λ i. cond (nat_le (as_before d apart i + 1) 999999) (wants_as later d (next_as_before d apart i)) None)
        ∙ wants_in _ _ refl refl

    pub ready_stays : ready files later d ≡ ready files board d
    ready_stays =
        (λ i. nat_le (as_before d apart i + 1) 999999 && option_map_or (λ r. are_reached later (bases_of r)) (next_as_before d apart i) false)
        ∙ ready_in _ _ refl refl

  -- who rested and isn't woken rests
  pub rests_on : (m : Remembered) (d : ℕ) → Unwoken m (c, reached board c + 1) d → Rests m files board d → Rests (with_judged m (c, reached board c + 1)) files later d
  rests_on m d un rests =
      record {
        unready = ready_stays d apart never ∙ rests.unready;
        waits = λ q w.
            let was = sym (wants_stays d apart never) ∙ w in
            ap (λ xs. is_among xs d) (others_wait m p q (differs q was)) ∙ rests.waits q was;
        wanted = rests.wanted ∙ sym (wants_stays d apart never);
      }
    where
      p : ℕ × ℕ
      p = (c, reached board c + 1)

      apart : eqb d c ≡ false
      apart = elim (eqb d c) as (λ b. eqb d c ≡ b → b ≡ false) [
        | true ↦ λ t. sym (eq-eqb c d (sym (eqb-true d c t))) ∙ un.another
        | false ↦ λ _. refl
      ] refl

      never : wants files board d ≡ Some p → ⊥
      never w = true≢false (sym (rests.waits p w) ∙ un.waits_not)

      differs : (q : ℕ × ℕ) → wants files board d ≡ Some q → same_pair q p ≡ false
      differs q w =
          elim (same_pair q p) as (λ b. same_pair q p ≡ b → b ≡ false) [
            | true ↦ λ t. absurd (never (w ∙ ap Some (pairs_same q p t)))
            | false ↦ λ _. refl
          ] refl

-- ---- a file comes

module _ (files : Received) (board : Board) (p : ℕ × ℕ) (bytes : List ℕ) where
  abbrev pub bigger : Received
  bigger = with_file files p.0 p.1 bytes

  there_as : (d : ℕ) → same_pair (d, reached board d + 1) p ≡ false → next_reading bigger board d ≡ next_reading files board d
  there_as d e =
      ap (option_map (λ b. reading b d (reached board d + 1)))
      (finmap.get-insert pairs_total files p bytes (d, reached board d + 1) ∙ ap (λ b. cond b (Some bytes) (finmap.get files (d, reached board d + 1))) e)

  -- for another custodian, or as another volume than the next one
  rests_apart : (m k : Remembered) (d : ℕ) → k.waiting ≡ m.waiting → k.wanted ≡ m.wanted → same_pair (d, reached board d + 1) p ≡ false → Rests m files board d → Rests k bigger board d
  rests_apart m k d waiting wanted e rests =
      record {
        unready = ap (λ n. nat_le (reached board d + 1) 999999 && option_map_or (λ r. are_reached board (bases_of r)) n false) (there_as d e) ∙ rests.unready;
        waits = λ q w.
            ap (λ x. is_among (unwrap_or (finmap.get x q) []) d) waiting
            ∙ rests.waits q (sym (ap (λ n. cond (nat_le (reached board d + 1) 999999) (wants_as board d n) None) (there_as d e)) ∙ w);
        wanted =
            ap (λ x. finmap.get x d) wanted ∙ rests.wanted
            ∙ sym (ap (λ n. cond (nat_le (reached board d + 1) 999999) (wants_as board d n) None) (there_as d e));
      }

  -- beyond the last volume
  rests_past : (m : Remembered) (d : ℕ) → nat_le (reached board d + 1) 999999 ≡ false → Rests m files board d → Rests m bigger board d
  rests_past m d e rests =
      record {
        unready = ap (λ b. b && option_map_or (λ r. are_reached board (bases_of r)) (next_reading bigger board d) false) e;
        waits = λ q w. let no : None ≡ Some q = sym (ap (λ b. cond b (wants_as board d (next_reading bigger board d)) None) e) ∙ w in cc;
        wanted =
            rests.wanted ∙ ap (λ b. cond b (wants_as board d (next_reading files board d)) None) e
            ∙ sym (ap (λ b. cond b (wants_as board d (next_reading bigger board d)) None) e);
      }

  -- whoever waited for the file is looked at
  pub rests_with : (m : Remembered) (d : ℕ) → finmap.get files p ≡ None → is_among (with_coming m p).ahead d ≡ false
      → (is_among m.ahead d ≡ false → Rests m files board d) → Rests (with_coming m p) bigger board d
  rests_with m d free unahead rested =
      elim (is_among (waiting_for m p) p.0)
      as (λ b. is_among (waiting_for m p) p.0 ≡ b → is_among (cond b (record m { ahead = m.ahead ++ p.0 ∷ [] }) m).ahead d ≡ false → Rests (cond b (record m { ahead = m.ahead ++ p.0 ∷ [] }) m) bigger board d) [
        | true ↦ λ t e.
            let no = in_neither m.ahead (p.0 ∷ []) d e in
            rests_apart m (record m { ahead = m.ahead ++ p.0 ∷ [] }) d refl refl (other d (either_no _ _ no.1).0) (rested no.0)
        | false ↦ λ t e.
            let rests = rested e in
            elim (same_pair (d, reached board d + 1) p) as (λ x. same_pair (d, reached board d + 1) p ≡ x → Rests m bigger board d) [
              | true ↦ λ h.
                  let is = pairs_same (d, reached board d + 1) p h in
                  elim (nat_le (reached board d + 1) 999999) as (λ x. nat_le (reached board d + 1) 999999 ≡ x → Rests m bigger board d) [
                    | true ↦ λ within. absurd (true≢false (sym (rests.waits p (waited d is within)) ∙ ap (λ x. is_among (waiting_for m p) x) (ap (λ (q : ℕ × ℕ). q.0) is) ∙ t))
                    | false ↦ λ past. rests_past m d past rests
                  ] refl
              | false ↦ λ h. rests_apart m m d refl refl h rests
            ] refl
      ] refl unahead
    where
      other : (d : ℕ) → eqb p.0 d ≡ false → same_pair (d, reached board d + 1) p ≡ false
      other d e =
          elim (same_pair (d, reached board d + 1) p) as (λ b. same_pair (d, reached board d + 1) p ≡ b → b ≡ false) [
            | true ↦ λ t. sym (eq-eqb p.0 d (sym (ap (λ (q : ℕ × ℕ). q.0) (pairs_same _ p t)))) ∙ e
            | false ↦ λ _. refl
          ] refl

      waited : (d : ℕ) → (d, reached board d + 1) ≡ p → nat_le (reached board d + 1) 999999 ≡ true → wants files board d ≡ Some p
      waited d is within =
          (λ i. cond (within i) (wants_as board d (option_map (λ b. reading b d (reached board d + 1)) (finmap.get files (is i)))) None)
          ∙ ap (λ o. wants_as board d (option_map (λ b. reading b d (reached board d + 1)) o)) free ∙ ap Some is
