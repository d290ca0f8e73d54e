-- That the order in which files are judged doesn't matter.
use Rattle.std.proofs.Common.{◌≡◌, ℕ, zero, suc, ◌+◌, ◌<◌, ◌≤◌, Bool, true, false, cond, ◌⊎◌, inl, inr, List, [], ◌∷◌, ◌++◌, map, length, refl, sym, ap, ◌∙◌, subst, append-nil, arith, true≢false, leb, eqb, leb-true, le-leb, eqb-true, eq-eqb}
use Rattle.std.proofs.Math.Path.{fun_ext}
use Rattle.std.proofs.Common.{le_trans, le_of_eq}
use Rattle.std.proofs.lemmas.List.{length_push}
use Rattle.std.proofs.lemmas.Bool.Decides.{leb_tells}
use Rattle.std.proofs.lemmas.Map.Lookups.{exact_pairs, exact_unsigned}
use Rattle.std.specs.Prelude.{slice_get, nat_le, Some}
use Rattle.std.specs.Option.{unwrap_or}
use Rattle.std.specs.List.{list_any}
use Rattle.std.specs.Ordering.{nat_cmp, eq_by_cmp}
use Rattle.std.specs.Cmp.{Equal-is}
use Rattle.std.specs.FinMap as map
use Rattle.gaz_register.specs.Registers.{Owners}
use Rattle.gaz_chains.specs.Chains.{IsPrefixOf}
use Rattle.gaz_views.specs.View.{empty_view}
use Rattle.gaz_changefile.specs.Reading.{Reading, reading}
use Rattle.gaz_rules.specs.Judging.{bases_of, judge}
use Rattle.gaz_keeper.specs.Board.{Judgement, Board, empty_board, reached, view_after}
use Rattle.gaz_keeper.specs.Received.{HasAllOf, Received, pair_cmp}
use Rattle.gaz_steps.specs.Standing.{ready, with_next, judge_one, round, rounds, standing, Leads, NothingReady, AnyOrder, MoreFiles}
use Rattle.gaz_end_rules.specs.Bases.{basis_views, are_reached}
use Rattle.gaz_changefile.specs.declared.change.Basis.{Basis}
use Rattle.gaz_steps.proofs.Prefixes.{prefix_length, prefix_same, prefix_push, get_front, get_front_plain, get_pushed, both_parts, joined, gives_some, at_some, count, count_all, one_more_counted, any_of_found, some_of_any}

-- the judgement of a file that reads so and comes after this volume of its custodian
abbrev pub judgement_after : Owners → Board → ℕ → ℕ → Reading → Judgement
judgement_after G B c volume r = judge c (G c) (view_after B c volume) (basis_views B (bases_of r)) r

-- each custodian's list in C goes on from that in B
abbrev pub Below : Board → Board → Type 0
Below B C = (c : ℕ) → IsPrefixOf (B c) (C c)

-- ---- what a larger board keeps

pub view_stays : (B C : Board) → Below B C → (c volume : ℕ) → volume ≤ reached B c → view_after C c volume ≡ view_after B c volume
view_stays B C below c zero h = refl
view_stays B C below c (suc n) h =
    let more : slice_get (map (λ j. j.view) (B c ++ (below c).0)) n ≡ slice_get (map (λ j. j.view) (B c)) n = get_front (λ (j : Judgement). j.view) (B c) (below c).0 n (omega arith) in
    let there = ap (λ js. unwrap_or (slice_get (map (λ (j : Judgement). j.view) js) n) empty_view) (sym (below c).1) in
    there ∙ ap (λ o. unwrap_or o empty_view) more

pub reached_stays : (B C : Board) → Below B C → (bases : List Basis) → are_reached B bases ≡ true → are_reached C bases ≡ true
reached_stays B C below [] h = refl
reached_stays B C below (d ∷ bases) h =
    let parts = both_parts (nat_le d.volume (reached B d.custodian)) (are_reached B bases) h in
    let here : d.volume ≤ reached B d.custodian = leb-true _ _ parts.0 in
    let more : reached B d.custodian ≤ reached C d.custodian = prefix_length (B d.custodian) (C d.custodian) (below d.custodian) in
    joined _ _ (le-leb d.volume (reached C d.custodian) (omega arith)) (reached_stays B C below bases parts.1)

pub basis_views_stay : (B C : Board) → Below B C → (bases : List Basis) → are_reached B bases ≡ true → basis_views C bases ≡ basis_views B bases
basis_views_stay B C below [] h = refl
basis_views_stay B C below (d ∷ bases) h =
    let parts = both_parts (nat_le d.volume (reached B d.custodian)) (are_reached B bases) h in
    let one = view_stays B C below d.custodian d.volume (leb-true _ _ parts.0) in
    let rest = basis_views_stay B C below bases parts.1 in
    λ i. (d.custodian, one i) ∷ rest i

-- a judgement rests on what was there, and on nothing that comes later
pub judgement_stays : (G : Owners) (B C : Board) → Below B C → (c volume : ℕ) (r : Reading) → volume ≤ reached B c → are_reached B (bases_of r) ≡ true → judgement_after G C c volume r ≡ judgement_after G B c volume r
judgement_stays G B C below c volume r within rests =
    let own = view_stays B C below c volume within in
    let others = basis_views_stay B C below (bases_of r) rests in
    λ i. judge c (G c) (own i) (others i) r

-- ---- what it is to be ready

pub record IsReady (F : Received) (B : Board) (c : ℕ) : Type 0 where
  pub bytes : List ℕ
  pub in_range : reached B c + 1 ≤ 999999
  pub came : map.get F (c, reached B c + 1) ≡ Some bytes
  pub rests : are_reached B (bases_of (reading bytes c (reached B c + 1))) ≡ true

pub ready_gives : (F : Received) (B : Board) (c : ℕ) → ready F B c ≡ true → IsReady F B c
ready_gives F B c h =
    let parts = both_parts (nat_le (reached B c + 1) 999999) _ h in
    let some = gives_some (map.get F (c, reached B c + 1)) (λ bytes. reading bytes c (reached B c + 1)) (λ r. are_reached B (bases_of r)) parts.1 in
    record { bytes = some.0; in_range = leb-true _ _ parts.0; came = some.1; rests = some.2 }

pub ready_from : (F : Received) (B : Board) (c : ℕ) → IsReady F B c → ready F B c ≡ true
ready_from F B c is =
    joined _ _ (le-leb _ _ is.in_range)
    (at_some (map.get F (c, reached B c + 1)) is.bytes (λ bytes. reading bytes c (reached B c + 1)) (λ r. are_reached B (bases_of r)) false is.came ∙ is.rests)

-- the judgement that a ready custodian gets
abbrev pub next : Owners → (F : Received) (B : Board) (c : ℕ) → IsReady F B c → Judgement
next G F B c is = judgement_after G B c (reached B c) (reading is.bytes c (reached B c + 1))

pub with_next_is : (G : Owners) (F : Received) (B : Board) (c : ℕ) (is : IsReady F B c) → with_next G F B c ≡ B c ++ next G F B c is ∷ []
with_next_is G F B c is =
    at_some (map.get F (c, reached B c + 1)) is.bytes (λ bytes. reading bytes c (reached B c + 1)) (λ r. B c ++ judgement_after G B c (reached B c) r ∷ []) (B c) is.came

-- ---- boards each of whose judgements is that of its file on the board itself

pub record Entry (G : Owners) (F : Received) (B : Board) (c n : ℕ) : Type 0 where
  pub bytes : List ℕ
  pub in_range : n + 1 ≤ 999999
  pub came : map.get F (c, n + 1) ≡ Some bytes
  pub rests : are_reached B (bases_of (reading bytes c (n + 1))) ≡ true
  pub is : slice_get (B c) n ≡ Some (judgement_after G B c n (reading bytes c (n + 1)))

pub record IsLawful (G : Owners) (F : Received) (B : Board) : Type 0 where
  pub each : (c n : ℕ) → n < reached B c → Entry G F B c n

pub empty_lawful : (G : Owners) (F : Received) → IsLawful G F empty_board
empty_lawful G F = record { each = λ c n h. absurd (omega arith) }

-- from B to C some of the custodians that are ready in B got their next judgement
pub record Moved (G : Owners) (F : Received) (B C : Board) : Type 0 where
  pub each : (c : ℕ) → (C c ≡ B c) ⊎ ((ready F B c ≡ true) × (C c ≡ with_next G F B c))

pub moved_below : (G : Owners) (F : Received) (B C : Board) → Moved G F B C → Below B C
moved_below G F B C moved c =
    elim (moved.each c) [
      | inl same ↦ ([], append-nil (B c) ∙ sym same)
      | inr m ↦ let is = ready_gives F B c m.0 in (next G F B c is ∷ [], sym (with_next_is G F B c is) ∙ sym m.1)
    ]

old_entry : (G : Owners) (F : Received) (B C : Board) → Below B C → (c n : ℕ) → n < reached B c → Entry G F B c n → Entry G F C c n
old_entry G F B C below c n h e =
    record {
      bytes = e.bytes;
      in_range = e.in_range;
      came = e.came;
      rests = reached_stays B C below _ e.rests;
      is =
          ap (λ js. slice_get js n) (sym (below c).1) ∙ get_front_plain (B c) (below c).0 n h ∙ e.is
          ∙ ap Some (sym (judgement_stays G B C below c n (reading e.bytes c (n + 1)) (omega arith) e.rests));
    }

new_entry : (G : Owners) (F : Received) (B C : Board) (c : ℕ) (is : IsReady F B c) → Below B C → C c ≡ B c ++ next G F B c is ∷ [] → Entry G F C c (reached B c)
new_entry G F B C c is below at_c =
    record {
      bytes = is.bytes;
      in_range = is.in_range;
      came = is.came;
      rests = reached_stays B C below _ is.rests;
      is =
          ap (λ js. slice_get js (reached B c)) at_c ∙ get_pushed (B c) (next G F B c is)
          ∙ ap Some (sym (judgement_stays G B C below c (reached B c) (reading is.bytes c (reached B c + 1)) (omega arith) is.rests));
    }

pub moved_lawful : (G : Owners) (F : Received) (B C : Board) → Moved G F B C → IsLawful G F B → IsLawful G F C
moved_lawful G F B C moved lawful =
    record {
      each = λ c n h.
          let below = moved_below G F B C moved in
          elim (leb_tells (suc n) (reached B c)) [
            | inl old ↦ old_entry G F B C below c n old.1 (lawful.each c n old.1)
            | inr past ↦ elim (moved.each c) [
              | inl same ↦ let e : reached C c ≡ reached B c = ap length same in absurd (omega arith)
              | inr m ↦
                  let is = ready_gives F B c m.0 in
                  let at_c = m.1 ∙ with_next_is G F B c is in
                  let e : reached C c ≡ reached B c + 1 = ap length at_c ∙ length_push (B c) (next G F B c is) in
                  let place : reached B c ≡ n = omega arith in
                  subst (λ k. Entry G F C c k) place (new_entry G F B C c is below at_c)
            ]
          ];
    }

-- ---- what no closed board can be short of

pub moved_stays_below : (G : Owners) (F bigger : Received) (B B' C : Board) → HasAllOf bigger F → IsLawful G bigger C → NothingReady bigger C → Moved G F B B' → Below B C → Below B' C
moved_stays_below G F bigger B B' C all lawful closed moved below c =
    elim (moved.each c) [
      | inl same ↦ subst (λ js. IsPrefixOf js (C c)) (sym same) (below c)
      | inr m ↦
          let is = ready_gives F B c m.0 in
          let came = all _ _ is.came in
          let rests = reached_stays B C below _ is.rests in
          let most : reached B c ≤ reached C c = prefix_length (B c) (C c) (below c) in
          let farther : reached B c < reached C c =
          elim (leb_tells (suc (reached B c)) (reached C c)) [
            | inl h ↦ h.1
            | inr h ↦
                let e : reached B c ≡ reached C c = omega arith in
                let also : IsReady bigger C c = record {
                  bytes = is.bytes;
                  in_range = subst (λ n. n + 1 ≤ 999999) e is.in_range;
                  came = ap (λ n. map.get bigger (c, n + 1)) (sym e) ∙ came;
                  rests = subst (λ n. are_reached C (bases_of (reading is.bytes c (n + 1))) ≡ true) e rests;
                } in
                absurd (true≢false (sym (ready_from bigger C c also) ∙ closed c))
          ] in
          let entry = lawful.each c (reached B c) farther in
          let same_bytes : Some entry.bytes ≡ Some is.bytes = sym entry.came ∙ came in
          let bytes : entry.bytes ≡ is.bytes = cc in
          let there : slice_get (C c) (reached B c) ≡ Some (next G F B c is) =
          entry.is
          ∙ ap (λ b. Some (judgement_after G C c (reached B c) (reading b c (reached B c + 1)))) bytes
          ∙ ap Some (judgement_stays G B C below c (reached B c) (reading is.bytes c (reached B c + 1)) (omega arith) is.rests) in
          subst (λ js. IsPrefixOf js (C c)) (sym (m.1 ∙ with_next_is G F B c is)) (prefix_push (B c) (C c) (next G F B c is) (below c) there)
    ]

-- ---- one at a time, and in rounds

pub judge_one_moved : (G : Owners) (F : Received) (B : Board) (c : ℕ) → ready F B c ≡ true → Moved G F B (judge_one G F B c)
judge_one_moved G F B c h =
    record {
      each = λ d. elim (eqb d c) as (λ b. eqb d c ≡ b → (cond b (with_next G F B d) (B d) ≡ B d) ⊎ ((ready F B d ≡ true) × (cond b (with_next G F B d) (B d) ≡ with_next G F B d))) [
        | true ↦ λ e. inr (subst (λ k. ready F B k ≡ true) (sym (eqb-true d c e)) h, refl)
        | false ↦ λ _. inl refl
      ] refl;
    }

round_moved : (G : Owners) (F : Received) (B : Board) → Moved G F B (round G F B)
round_moved G F B =
    record {
      each = λ c. elim (ready F B c) as (λ b. ready F B c ≡ b → (cond b (with_next G F B c) (B c) ≡ B c) ⊎ ((ready F B c ≡ true) × (cond b (with_next G F B c) (B c) ≡ with_next G F B c))) [
        | true ↦ λ e. inr (e, refl)
        | false ↦ λ _. inl refl
      ] refl;
    }

pub leads_lawful : (G : Owners) (F : Received) (B : Board) (order : List ℕ) (C : Board) → Leads G F B order C → IsLawful G F B → IsLawful G F C
leads_lawful G F B [] C e lawful = subst (IsLawful G F) (sym e) lawful
leads_lawful G F B (c ∷ order) C l lawful =
    leads_lawful G F (judge_one G F B c) order C l.1 (moved_lawful G F B (judge_one G F B c) (judge_one_moved G F B c l.0) lawful)

pub leads_below : (G : Owners) (F bigger : Received) (B : Board) (order : List ℕ) (C D : Board) → HasAllOf bigger F → IsLawful G bigger D → NothingReady bigger D → Leads G F B order C → Below B D → Below C D
leads_below G F bigger B [] C D all lawful closed e below = subst (λ X. Below X D) (sym e) below
leads_below G F bigger B (c ∷ order) C D all lawful closed l below =
    leads_below G F bigger (judge_one G F B c) order C D all lawful closed l.1
    (moved_stays_below G F bigger B (judge_one G F B c) D all lawful closed (judge_one_moved G F B c l.0) below)

rounds_lawful : (G : Owners) (F : Received) (n : ℕ) → IsLawful G F (rounds G F n empty_board)
rounds_lawful G F zero = empty_lawful G F
rounds_lawful G F (suc n) = moved_lawful G F (rounds G F n empty_board) _ (round_moved G F (rounds G F n empty_board)) (rounds_lawful G F n)

empty_below : (C : Board) → Below empty_board C
empty_below C c = (C c, refl)

rounds_below : (G : Owners) (F bigger : Received) (D : Board) → HasAllOf bigger F → IsLawful G bigger D → NothingReady bigger D → (n : ℕ) → Below (rounds G F n empty_board) D
rounds_below G F bigger D all lawful closed zero = empty_below D
rounds_below G F bigger D all lawful closed (suc n) =
    moved_stays_below G F bigger (rounds G F n empty_board) _ D all lawful closed (round_moved G F (rounds G F n empty_board)) (rounds_below G F bigger D all lawful closed n)

-- ---- that there are rounds enough

abbrev pub is_done : Board → ℕ × ℕ → Bool
is_done B p = nat_le p.1 (reached B p.0)

abbrev pub done_count : Received → Board → ℕ
done_count F B = count (λ (e : (ℕ × ℕ) × List ℕ). is_done B e.0) (map.entries F)

found : (F : Received) (k : ℕ × ℕ) (bytes : List ℕ) → map.get F k ≡ Some bytes → map.find pair_cmp k (map.entries F) ≡ Some bytes
found F k bytes e = sym (map.get-entries F k) ∙ e

tied : (k x : ℕ × ℕ) → eq_by_cmp pair_cmp k x ≡ true → k ≡ x
tied k x e = exact_pairs nat_cmp nat_cmp exact_unsigned exact_unsigned k x ((Equal-is (pair_cmp k x)).0 e)

-- a move that judges the next file of one that is ready judges one more
pub move_counts : (G : Owners) (F : Received) (B C : Board) (c : ℕ) → Moved G F B C → ready F B c ≡ true → C c ≡ with_next G F B c → done_count F B + 1 ≤ done_count F C
move_counts G F B C c moved h at_c =
    let is = ready_gives F B c h in
    let below = moved_below G F B C moved in
    let after : reached C c ≡ reached B c + 1 = ap length (at_c ∙ with_next_is G F B c is) ∙ length_push (B c) (next G F B c is) in
    one_more_counted pair_cmp (is_done B) (is_done C) (c, reached B c + 1) is.bytes (map.entries F)
    (λ x done. let d : x.1 ≤ reached B x.0 = leb-true _ _ done in le-leb _ _ (le_trans d (prefix_length _ _ (below x.0))))
    (λ x e. subst (λ y. (is_done B y ≡ false) × (is_done C y ≡ true)) (tied _ x e) (not_yet (reached B c), le-leb _ _ (le_of_eq (sym after))))
    (found F _ _ is.came)
  where
    not_yet : (n : ℕ) → leb (n + 1) n ≡ false
    not_yet n = elim (leb_tells (n + 1) n) [ inl h ↦ absurd (omega arith) | inr h ↦ h.0 ]

-- a round in which one is ready judges one more
round_counts : (G : Owners) (F : Received) (B : Board) (c : ℕ) → ready F B c ≡ true → done_count F B + 1 ≤ done_count F (round G F B)
round_counts G F B c h = move_counts G F B (round G F B) c (round_moved G F B) h (ap (λ b. cond b (with_next G F B c) (B c)) h)

-- so does the judgement of that one
pub one_counts : (G : Owners) (F : Received) (B : Board) (c : ℕ) → ready F B c ≡ true → done_count F B + 1 ≤ done_count F (judge_one G F B c)
one_counts G F B c h =
    move_counts G F B (judge_one G F B c) c (judge_one_moved G F B c h) h (ap (λ b. cond b (with_next G F B c) (B c)) (eq-eqb c c refl))

-- no more are done than were received
pub done_at_most : (F : Received) (B : Board) → done_count F B ≤ map.len F
done_at_most F B = omega (arith, count_all (λ (e : (ℕ × ℕ) × List ℕ). is_done B e.0) (map.entries F), map.len-entries F)

-- where nothing is ready a round changes nothing
round_rests : (G : Owners) (F : Received) (B : Board) → NothingReady F B → round G F B ≡ B
round_rests G F B closed = fun_ext (λ c. ap (λ b. cond b (with_next G F B c) (B c)) (closed c))

pub none_ready : (F : Received) (B : Board) → list_any (λ (e : (ℕ × ℕ) × List ℕ). ready F B e.0.0) (map.entries F) ≡ false → NothingReady F B
none_ready F B none c =
    elim (ready F B c) as (λ b. ready F B c ≡ b → b ≡ false) [
      | true ↦ λ e.
          let is = ready_gives F B c e in
          absurd (true≢false (sym (any_of_found pair_cmp (λ x. ready F B x.0) (c, reached B c + 1) is.bytes (map.entries F)
          (λ x t. subst (λ y. ready F B y.0 ≡ true) (tied _ x t) e) (found F _ _ is.came)) ∙ none))
      | false ↦ λ _. refl
    ] refl

-- where one is still ready, each round judged one
busy_counts : (G : Owners) (F : Received) (n c : ℕ) → ready F (rounds G F n empty_board) c ≡ true → n ≤ done_count F (rounds G F n empty_board)
busy_counts G F zero c h = omega arith
busy_counts G F (suc n) c h =
    let B = rounds G F n empty_board in
    elim (list_any (λ (e : (ℕ × ℕ) × List ℕ). ready F B e.0.0) (map.entries F)) as (λ b. list_any (λ (e : (ℕ × ℕ) × List ℕ). ready F B e.0.0) (map.entries F) ≡ b → suc n ≤ done_count F (round G F B)) [
      | true ↦ λ some.
          let one = some_of_any (λ (e : (ℕ × ℕ) × List ℕ). ready F B e.0.0) (map.entries F) some in
          let so_far = busy_counts G F n one.0.0.0 one.1 in
          let more = round_counts G F B one.0.0.0 one.1 in
          omega arith
      | false ↦ λ none.
          let closed = none_ready F B none in
          absurd (true≢false (sym h ∙ ap (λ X. ready F X c) (round_rests G F B closed) ∙ closed c))
    ] refl

rounds_closed : (G : Owners) (F : Received) → NothingReady F (rounds G F (map.len F) empty_board)
rounds_closed G F c =
    let B = rounds G F (map.len F) empty_board in
    elim (ready F B c) as (λ b. ready F B c ≡ b → b ≡ false) [
      | true ↦ λ e.
          let all = busy_counts G F (map.len F) c e in
          let more = round_counts G F B c e in
          let most = count_all (λ (e : (ℕ × ℕ) × List ℕ). is_done (round G F B) e.0) (map.entries F) in
          let size = map.len-entries F in
          absurd (omega arith)
      | false ↦ λ _. refl
    ] refl

-- ---- the laws

pub standing_lawful : (G : Owners) (F : Received) → IsLawful G F (standing G F)
unfolding standing
standing_lawful G F = rounds_lawful G F (map.len F)

pub standing_closed : (G : Owners) (F : Received) → NothingReady F (standing G F)
unfolding standing
standing_closed G F = rounds_closed G F

pub standing_below : (G : Owners) (F bigger : Received) (D : Board) → HasAllOf bigger F → IsLawful G bigger D → NothingReady bigger D → Below (standing G F) D
unfolding standing
standing_below G F bigger D all lawful closed = rounds_below G F bigger D all lawful closed (map.len F)

pub any_order_holds : AnyOrder
any_order_holds G F B partial closed =
    let lawful = leads_lawful G F empty_board partial.order B partial.leads (empty_lawful G F) in
    let up = leads_below G F F empty_board partial.order B (standing G F) (λ _ _ e. e) (standing_lawful G F) (standing_closed G F) partial.leads (empty_below _) in
    let down = standing_below G F F B (λ _ _ e. e) lawful closed in
    fun_ext (λ c. prefix_same (B c) (standing G F c) (up c) (down c))

pub more_files_hold : MoreFiles
more_files_hold G F bigger all = standing_below G F bigger (standing G bigger) all (standing_lawful G bigger) (standing_closed G bigger)
