-- What became of a number on a board with one more judgement.
use Rattle.std.proofs.Common.{◌≡◌, ◌⊎◌, inl, inr, ℕ, zero, suc, ◌+◌, true, false, cond, eqb, eqb-true, List, [], ◌∷◌, ◌++◌, map, length, refl, sym, ap, ◌∙◌, subst, append-nil, append_assoc, arith}
use Rattle.std.proofs.Math.Path.{fun_ext}
use Rattle.std.specs.Prelude.{Some, slice_get, unwrap_or}
use Rattle.std.specs.Option.{option_map}
use Rattle.gaz_register.specs.Registers.{Owners}
use Rattle.gaz_changefile.specs.Reading.{Reading, reading}
use Rattle.gaz_chains.specs.Events.{appended}
use Rattle.gaz_keeper.specs.Board.{Board, Judgement, adds, reached, views}
use Rattle.gaz_keeper.specs.Received.{Received}
use Rattle.gaz_rules.specs.Judging.{judged_on}
use Rattle.gaz_views.specs.View.{empty_view}
use Rattle.gaz_steps.specs.Became.{became, made_from, made_in, reading_at}
use Rattle.gaz_steps.specs.Standing.{judge_one, ready}
use Rattle.gaz_steps.proofs.Added.{added_is}
use Rattle.gaz_steps.proofs.Orders.{ready_gives}

-- ---- who is ready has a file

pub record HasFile (F : Received) (B : Board) (c : ℕ) : Type 0 where
  pub bytes : List ℕ
  pub came : reading_at F c (reached B c + 1) ≡ Some (reading bytes c (reached B c + 1))

abbrev pub read_now : (F : Received) (B : Board) (c : ℕ) → HasFile F B c → Reading
read_now F B c file = reading file.bytes c (reached B c + 1)

pub has_file : (F : Received) (B : Board) (c : ℕ) → ready F B c ≡ true → HasFile F B c
has_file F B c h =
    let is = ready_gives F B c h in
    record { bytes = is.bytes; came = ap (option_map (λ bytes. reading bytes c (reached B c + 1))) is.came }

pub judged_is : (G : Owners) (F : Received) (B : Board) (c : ℕ) (file : HasFile F B c) → judge_one G F B c ≡ adds B c (judged_on (G c) B c (read_now F B c file))
judged_is G F B c file = sym (added_is G F B c (read_now F B c file) file.came)

-- ---- views

pub view_split : (js : List Judgement) (j : Judgement) (volume : ℕ)
    → (unwrap_or (slice_get (views (js ++ j ∷ [])) volume) empty_view ≡ unwrap_or (slice_get (views js) volume) empty_view)
    ⊎ (unwrap_or (slice_get (views (js ++ j ∷ [])) volume) empty_view ≡ j.view)
view_split js j zero = inl refl
view_split js j (suc n) = go js n
  where
    go : (js : List Judgement) (n : ℕ)
        → (unwrap_or (slice_get (map (λ (x : Judgement). x.view) (js ++ j ∷ [])) n) empty_view ≡ unwrap_or (slice_get (map (λ (x : Judgement). x.view) js) n) empty_view)
        ⊎ (unwrap_or (slice_get (map (λ (x : Judgement). x.view) (js ++ j ∷ [])) n) empty_view ≡ j.view)
    go [] zero = inr refl
    go [] (suc n) = inl refl
    go (x ∷ js) zero = inl refl
    go (x ∷ js) (suc n) = go js n

pub view_last : (js : List Judgement) (j : Judgement) → unwrap_or (slice_get (views (js ++ j ∷ [])) (length (js ++ j ∷ []))) empty_view ≡ j.view
view_last js j = ap (λ n. unwrap_or (slice_get (views (js ++ j ∷ [])) n) empty_view) (long js) ∙ go js
  where
    long : (js : List Judgement) → length (js ++ j ∷ []) ≡ suc (length js)
    long [] = refl
    long (x ∷ js) = ap suc (long js)

    go : (js : List Judgement) → unwrap_or (slice_get (map (λ (x : Judgement). x.view) (js ++ j ∷ [])) (length js)) empty_view ≡ j.view
    go [] = refl
    go (x ∷ js) = go js

-- ---- events

module _ (F : Received) (uprn : ℕ) where
  made_more : (c : ℕ) (js : List Judgement) (j : Judgement) (n : ℕ) → made_from F uprn c n (js ++ j ∷ []) ≡ made_from F uprn c n js ++ made_in uprn (reading_at F c (n + length js + 1)) j.verdict
  made_more c [] j n = append-nil _ ∙ ap (λ m. made_in uprn (reading_at F c m) j.verdict) (let e : n + 1 ≡ n + 0 + 1 = omega arith in e)
  made_more c (x ∷ js) j n =
      let here = made_in uprn (reading_at F c (n + 1)) x.verdict in
      let place : n + 1 + length js + 1 ≡ n + suc (length js) + 1 = omega arith in
      ap (λ l. here ++ l) (made_more c js j (n + 1)) ∙ sym (append_assoc here (made_from F uprn c (n + 1) js) _)
      ∙ ap (λ m. (here ++ made_from F uprn c (n + 1) js) ++ made_in uprn (reading_at F c m) j.verdict) place

  pub became_more : (B : Board) (c : ℕ) (j : Judgement) → became F (adds B c j) uprn ≡ appended (became F B uprn) c (made_in uprn (reading_at F c (reached B c + 1)) j.verdict)
  became_more B c j =
      fun_ext (λ d. elim (eqb d c) as (λ b. eqb d c ≡ b → made_from F uprn d 0 (cond b (B d ++ j ∷ []) (B d)) ≡ cond b (made_from F uprn d 0 (B d) ++ made_in uprn (reading_at F c (reached B c + 1)) j.verdict) (made_from F uprn d 0 (B d))) [
        | true ↦ λ t. subst (λ x. made_from F uprn d 0 (B d ++ j ∷ []) ≡ made_from F uprn d 0 (B d) ++ made_in uprn (reading_at F x (reached B x + 1)) j.verdict) (eqb-true d c t) (here d)
        | false ↦ λ _. refl
      ] refl)
    where
      here : (d : ℕ) → made_from F uprn d 0 (B d ++ j ∷ []) ≡ made_from F uprn d 0 (B d) ++ made_in uprn (reading_at F d (reached B d + 1)) j.verdict
      here d = made_more d (B d) j 0 ∙ ap (λ m. made_from F uprn d 0 (B d) ++ made_in uprn (reading_at F d m) j.verdict) (let e : 0 + length (B d) + 1 ≡ length (B d) + 1 = omega arith in e)
