-- What was sent in the worked examples, and the boards that stand then.
use Rattle.std.proofs.Common.{◌≡◌, ℕ, true, false, cond, List, [], ◌∷◌, length, refl, sym, ap, ◌∙◌, subst, arith, true≢false, eqb, eqb-true, eq-eqb}
use Rattle.std.proofs.Math.Path.{fun_ext}
use Rattle.std.specs.Prelude.{Option, Some, None}
use Rattle.std.specs.Ordering.{eq_by_cmp}
use Rattle.std.specs.Str.{chars, is_utf8}
use Rattle.std.specs.FinMap as map
use Rattle.gaz_changefile.specs.Reading.{Bad, reading}
use Rattle.gaz_rules.specs.Judging.{judge}
use Rattle.gaz_keeper.specs.Board.{Judgement, Board, empty_board}
use Rattle.gaz_keeper.specs.Received.{Received, pair_cmp, with_file}
use Rattle.gaz_steps.specs.Standing.{IsPartial, NothingReady, judge_one, ready, round, standing, with_next}
use Rattle.gaz_steps.specs.Sample.{sample_register}
use Rattle.gaz_steps.specs.Examples.{all_sent, first_sent, no_text, no_text_judged, of_1003, one_judged, sent, sent_by_two, three_judged}
use Rattle.gaz_steps.proofs.Leading.{follows_itself, partial_one}
use Rattle.gaz_steps.proofs.Orders.{any_order_holds}
use Rattle.gaz_keeper.proofs.Pairs.{pairs_total}
use Rattle.gaz_steps.proofs.Steps.{pairs_same}

pub no_none : {X : Type 0} (o : Option X) (x : X) → o ≡ Some x → o ≡ None → ⊥
no_none o x e f = let no : Some x ≡ None = sym e ∙ f in cc

-- ---- what was sent

empty_entries : {X : Type 0} (es : List X) → length es ≡ 0 → es ≡ []
empty_entries [] e = refl
empty_entries (x ∷ es) e = absurd (omega arith)

pub no_files : map.entries (map.empty {X = List ℕ} {R = pair_cmp}) ≡ []
no_files = empty_entries _ (sym (map.len-entries map.empty) ∙ map.len-empty pair_cmp (List ℕ))

entries_first : map.entries first_sent ≡ ((1003, 1), no_text) ∷ []
entries_first = map.entries-insert pairs_total map.empty (1003, 1) no_text ∙ rw no_files refl

pub entries_sent : map.entries sent ≡ ((1003, 1), no_text) ∷ ((1003, 3), no_text) ∷ []
entries_sent = map.entries-insert pairs_total _ (1003, 3) no_text ∙ rw entries_first refl

entries_all : map.entries all_sent ≡ ((1003, 1), no_text) ∷ ((1003, 2), no_text) ∷ ((1003, 3), no_text) ∷ []
entries_all = map.entries-insert pairs_total _ (1003, 2) no_text ∙ rw entries_sent refl

entries_by_two : map.entries sent_by_two ≡ ((1002, 1), no_text) ∷ ((1003, 1), no_text) ∷ []
entries_by_two = map.entries-insert pairs_total _ (1002, 1) no_text ∙ rw entries_first refl

pub get_first : (p : ℕ × ℕ) → map.get first_sent p ≡ map.find pair_cmp p (((1003, 1), no_text) ∷ [])
get_first p = map.get-entries first_sent p ∙ rw entries_first refl

pub get_sent : (p : ℕ × ℕ) → map.get sent p ≡ map.find pair_cmp p (((1003, 1), no_text) ∷ ((1003, 3), no_text) ∷ [])
get_sent p = map.get-entries sent p ∙ rw entries_sent refl

pub get_all : (p : ℕ × ℕ) → map.get all_sent p ≡ map.find pair_cmp p (((1003, 1), no_text) ∷ ((1003, 2), no_text) ∷ ((1003, 3), no_text) ∷ [])
get_all p = map.get-entries all_sent p ∙ rw entries_all refl

pub get_by_two : (p : ℕ × ℕ) → map.get sent_by_two p ≡ map.find pair_cmp p (((1002, 1), no_text) ∷ ((1003, 1), no_text) ∷ [])
get_by_two p = map.get-entries sent_by_two p ∙ rw entries_by_two refl

pub reads : (c v : ℕ) → reading no_text c v ≡ Bad 1 1
unfolding reading is_utf8 chars
reads c v = refl

-- ---- other custodians sent nothing

abbrev pub AreOf1003 : Received → Type 0
AreOf1003 F = (c v : ℕ) → eqb c 1003 ≡ false → map.get F (c, v) ≡ None

pub not_of : (c v d w : ℕ) → eqb c d ≡ false → eq_by_cmp pair_cmp (c, v) (d, w) ≡ false
not_of c v d w other =
    elim (eq_by_cmp pair_cmp (c, v) (d, w)) as (λ b. eq_by_cmp pair_cmp (c, v) (d, w) ≡ b → b ≡ false) [
      | true ↦ λ e.
          let same : d ≡ c = sym (ap (λ (p : ℕ × ℕ). p.0) (pairs_same (c, v) (d, w) e)) in
          absurd (true≢false (sym (ap (eqb c) same ∙ eq-eqb c c refl) ∙ other))
      | false ↦ λ _. refl
    ] refl

with_1003 : (F : Received) (w : ℕ) (bytes : List ℕ) → AreOf1003 F → AreOf1003 (with_file F 1003 w bytes)
with_1003 F w bytes none c v other =
    map.get-insert pairs_total F (1003, w) bytes (c, v) ∙ ap (λ b. cond b (Some bytes) (map.get F (c, v))) (not_of c v 1003 w other) ∙ none c v other

first_of_1003 : AreOf1003 first_sent
first_of_1003 = with_1003 map.empty 1 no_text (λ c v _. map.get-empty pair_cmp (c, v))

sent_of_1003 : AreOf1003 sent
sent_of_1003 = with_1003 first_sent 3 no_text first_of_1003

pub all_of_1003 : AreOf1003 all_sent
all_of_1003 = with_1003 sent 2 no_text sent_of_1003

-- ---- boards of custodian 1003 alone

pub empty_is : empty_board ≡ of_1003 []
empty_is = fun_ext (λ c. elim (eqb c 1003) as (λ b. ◌≡◌ {A = List Judgement} [] (cond b [] [])) [ true ↦ refl | false ↦ refl ])

others_wait : (F : Received) (js : List Judgement) (c : ℕ) → AreOf1003 F → eqb c 1003 ≡ false → ready F (of_1003 js) c ≡ false
others_wait F js c none other = rw (other, none c 1 other) refl

-- nothing is ready where 1003 isn't
pub closed_by : (F : Received) (js : List Judgement) → AreOf1003 F → ready F (of_1003 js) 1003 ≡ false → NothingReady F (of_1003 js)
closed_by F js none h c =
    elim (eqb c 1003) as (λ b. eqb c 1003 ≡ b → ready F (of_1003 js) c ≡ false) [
      | true ↦ λ e. subst (λ k. ready F (of_1003 js) k ≡ false) (sym (eqb-true c 1003 e)) h
      | false ↦ λ other. others_wait F js c none other
    ] refl

pub judge_1003 : (F : Received) (js ks : List Judgement) → with_next sample_register F (of_1003 js) 1003 ≡ ks → judge_one sample_register F (of_1003 js) 1003 ≡ of_1003 ks
judge_1003 F js ks at =
    fun_ext (λ d. elim (eqb d 1003) as (λ b. eqb d 1003 ≡ b → cond b (with_next sample_register F (of_1003 js) d) (cond b js []) ≡ cond b ks []) [
      | true ↦ λ e. subst (λ k. with_next sample_register F (of_1003 js) k ≡ ks) (sym (eqb-true d 1003 e)) at
      | false ↦ λ _. refl
    ] refl)

pub round_1003 : (F : Received) (js ks : List Judgement) → AreOf1003 F → ready F (of_1003 js) 1003 ≡ true → with_next sample_register F (of_1003 js) 1003 ≡ ks
    → round sample_register F (of_1003 js) ≡ of_1003 ks
round_1003 F js ks none is at =
    fun_ext (λ c. elim (eqb c 1003) as (λ b. eqb c 1003 ≡ b → cond (ready F (of_1003 js) c) (with_next sample_register F (of_1003 js) c) (cond b js []) ≡ cond b ks []) [
      | true ↦ λ e. subst (λ k. cond (ready F (of_1003 js) k) (with_next sample_register F (of_1003 js) k) js ≡ ks) (sym (eqb-true c 1003 e))
          (ap (λ b. cond b (with_next sample_register F (of_1003 js) 1003) js) is ∙ at)
      | false ↦ λ other. ap (λ b. cond b (with_next sample_register F (of_1003 js) c) []) (others_wait F js c none other)
    ] refl)

-- ---- judging volume 1, 2 and 3

pub ready_0 : (F : Received) → map.get F (1003, 1) ≡ Some no_text → ready F (of_1003 []) 1003 ≡ true
ready_0 F at = rw (at, reads 1003 1) refl

pub next_0 : (F : Received) → map.get F (1003, 1) ≡ Some no_text → with_next sample_register F (of_1003 []) 1003 ≡ no_text_judged ∷ []
unfolding judge
next_0 F at = rw (at, reads 1003 1) refl

pub ready_1 : (F : Received) → map.get F (1003, 2) ≡ Some no_text → ready F one_judged 1003 ≡ true
ready_1 F at = rw (at, reads 1003 2) refl

pub next_1 : (F : Received) → map.get F (1003, 2) ≡ Some no_text → with_next sample_register F one_judged 1003 ≡ no_text_judged ∷ no_text_judged ∷ []
unfolding judge
next_1 F at = rw (at, reads 1003 2) refl

abbrev pub two_judged : Board
two_judged = of_1003 (no_text_judged ∷ no_text_judged ∷ [])

pub ready_2 : (F : Received) → map.get F (1003, 3) ≡ Some no_text → ready F two_judged 1003 ≡ true
ready_2 F at = rw (at, reads 1003 3) refl

pub next_2 : (F : Received) → map.get F (1003, 3) ≡ Some no_text → with_next sample_register F two_judged 1003 ≡ no_text_judged ∷ no_text_judged ∷ no_text_judged ∷ []
unfolding judge
next_2 F at = rw (at, reads 1003 3) refl

pub waits_1 : (F : Received) (j : Judgement) → map.get F (1003, 2) ≡ None → ready F (of_1003 (j ∷ [])) 1003 ≡ false
waits_1 F j at = rw at refl

waits_3 : (F : Received) → map.get F (1003, 4) ≡ None → ready F three_judged 1003 ≡ false
waits_3 F at = rw at refl

-- ---- partial boards

pub judge_first : (F : Received) → map.get F (1003, 1) ≡ Some no_text → judge_one sample_register F empty_board 1003 ≡ one_judged
judge_first F at = ap (λ B. judge_one sample_register F B 1003) empty_is ∙ judge_1003 F [] _ (next_0 F at)

pub first_ready : (F : Received) → map.get F (1003, 1) ≡ Some no_text → ready F empty_board 1003 ≡ true
first_ready F at = ap (λ B. ready F B 1003) empty_is ∙ ready_0 F at

pub partial_1 : (F : Received) → map.get F (1003, 1) ≡ Some no_text → IsPartial sample_register F one_judged
partial_1 F at = record { order = 1003 ∷ []; leads = (first_ready F at, sym (judge_first F at)) }

partial_3 : (F : Received) → map.get F (1003, 1) ≡ Some no_text → map.get F (1003, 2) ≡ Some no_text → map.get F (1003, 3) ≡ Some no_text → IsPartial sample_register F three_judged
partial_3 F at1 at2 at3 =
    let second = subst (IsPartial sample_register F) (judge_1003 F _ _ (next_1 F at2)) (partial_one sample_register F one_judged 1003 (ready_1 F at2) (partial_1 F at1)) in
    subst (IsPartial sample_register F) (judge_1003 F _ _ (next_2 F at3)) (partial_one sample_register F two_judged 1003 (ready_2 F at3) second)

-- ---- the standing boards

pub closed_first : NothingReady first_sent one_judged
closed_first = closed_by first_sent _ first_of_1003 (waits_1 first_sent no_text_judged (get_first (1003, 2)))

-- whatever the judgement of volume 1 is
pub closed_gap : (j : Judgement) → NothingReady sent (of_1003 (j ∷ []))
closed_gap j = closed_by sent _ sent_of_1003 (waits_1 sent j (get_sent (1003, 2)))

pub closed_sent : NothingReady sent one_judged
closed_sent = closed_gap no_text_judged

pub closed_all : NothingReady all_sent three_judged
closed_all = closed_by all_sent _ all_of_1003 (waits_3 all_sent (get_all (1003, 4)))

pub partial_first : IsPartial sample_register first_sent one_judged
partial_first = partial_1 first_sent (get_first (1003, 1))

pub partial_sent : IsPartial sample_register sent one_judged
partial_sent = partial_1 sent (get_sent (1003, 1))

pub partial_all : IsPartial sample_register all_sent three_judged
partial_all = partial_3 all_sent (get_all (1003, 1)) (get_all (1003, 2)) (get_all (1003, 3))

pub stands_sent : standing sample_register sent ≡ one_judged
stands_sent = sym (any_order_holds sample_register sent one_judged partial_sent closed_sent)

pub stands_all : standing sample_register all_sent ≡ three_judged
stands_all = sym (any_order_holds sample_register all_sent three_judged partial_all closed_all)

pub closed_empty : NothingReady map.empty empty_board
closed_empty c = rw (map.get-empty pair_cmp (c, 1)) refl

pub stands_empty : standing sample_register map.empty ≡ empty_board
stands_empty = sym (any_order_holds sample_register map.empty empty_board (follows_itself sample_register map.empty empty_board empty_board refl) closed_empty)
