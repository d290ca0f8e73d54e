-- What is at hand once a life is restored, and once all are.
use Rattle.std.proofs.Common.{◌≡◌, ◌∙◌, ◌≤◌, ◌<◌, ◌==◌, ◌⊎◌, inl, inr, ℕ, ℤ, Bool, true, false, cond, List, ◌∷◌, refl, sym, ap, subst, arith, eqb-true, eq-eqb}
use Rattle.std.proofs.lemmas.Bool.{eqb-false}
use Rattle.std.proofs.lemmas.Int.{ints}
use lib.Signed.{lt_z}
use Rattle.std.specs.Prelude.{◌<ℤ◌, ◌≤ℤ◌, Option, Some, None, unwrap_or}
use Rattle.std.specs.Option.{IfSome}
use Rattle.std.specs.FinMap as map
use Rattle.std.specs.Prelude.{length, slice_get}
use Rattle.sqlite_rules.specs.Lists.{Has}
use Rattle.gaz_records.specs.Keys.{key_of}
use Rattle.gaz_records.specs.declared.item.Item.{Item}
use Rattle.gaz_views.specs.View.{View, empty_view}
use Rattle.gaz_keeper.specs.Board.{Judgement, views}
use Rattle.gaz_ledger.specs.Lives.{with_life}
use Rattle.gaz_shelf.specs.Restoring.{IsRestored}
use Rattle.gaz_keeper.specs.Board.{Board, reached, view_after}
use Rattle.gaz_overlay.specs.Passages.{PassageRow, with_passages}
use Rattle.gaz_overlay.specs.Rows.{HistoryRow, never}
use Rattle.gaz_overlay.specs.Rows as rows
use Rattle.gaz_kept.specs.Histories.{AreSame, Gain, Gained}
use Rattle.gaz_kept.specs.Kept.{AreInTurn}
use Rattle.gaz_kept.proofs.RowsRead.{read_from, read_in}
use Rattle.gaz_kept.proofs.Views.{rows_join, same_rows}
use Rattle.gaz_loaded.specs.Lives.{AllAtHand, AreAtHand, AreOf, IsBehind, IsBy, IsFirst, LivesJoin, RestoredIsAtHand, Told, gone_of, life_of, lives_of}
use Rattle.gaz_loaded.proofs.LifeViews.{gained_life, life_beside}

-- a life that is told is its custodian's
pub told_there : (all : List Told) (x : Told) → Has all x → Has (lives_of x.code all) x.life
told_there all x there = read_in (life_of x.code) all x x.life there (ap (λ b. cond b (Some x.life) None) (eq-eqb x.code x.code refl))

-- and a custodian's is one that is told
pub there_told : (all : List Told) (c : ℕ) (h : HistoryRow) → Has (lives_of c all) h → (x : Told) × Has all x × (x.code ≡ c) × (x.life ≡ h)
there_told all c h there =
    let x = read_from (life_of c) all h there in
    let both = by_code x.0 (x.0.code == c) refl x.2 in
    (x.0, x.1, both.0, both.1)
  where
    by_code : (x : Told) (b : Bool) → (x.code == c) ≡ b → cond b (Some x.life) None ≡ Some h → (x.code ≡ c) × (x.life ≡ h)
    by_code x true is e = (eqb-true x.code c is, cc)
    by_code x false is e = let no : None ≡ Some h = e in cc

-- fewer lives are apart too
fewer_apart : (few many : List HistoryRow) → ((h : HistoryRow) → Has few h → Has many h) → AreInTurn many → AreInTurn few
fewer_apart few many among apart = record {
  once = λ a b ha hb. apart.once a b (among a ha) (among b hb);
  in_turn = λ a b ha hb. apart.in_turn a b (among a ha) (among b hb);
}

-- up to a place, or behind it
pub by_or_behind : (place : Option ℤ) (y : Told) → IsBy place y ⊎ IsBehind place y
by_or_behind None y = inr tt
by_or_behind (Some place) y = by_test (lt_z place y.place) refl
  where
    by_test : (t : Bool) → lt_z place y.place ≡ t → (y.place ≤ℤ place) ⊎ (place <ℤ y.place)
    by_test true is = inr (grind (arith, ints))
    by_test false is = inl (grind (arith, ints))

module _ (place : Option ℤ) (all : List Told) (passages : ℕ → List PassageRow) (kept old new : Board) (x : Told) (gone : Option ℕ) (are : AreOf all passages kept) (as_many : (c : ℕ) → reached old c ≡ reached kept c) (hand : AreAtHand place all passages old)
    (told : IsFirst place all x) (is_gone : x.life.gone ≡ gone_of gone) (restored : IsRestored old new x.code x.life.born gone x.life.item) where
  abbrev lives : ℕ → List HistoryRow
  lives c = cond (x.code == c) (x.life ∷ hand.lives c) (hand.lives c)

  among : (c : ℕ) (h : HistoryRow) (b : Bool) → (x.code == c) ≡ b → Has (cond b (x.life ∷ hand.lives c) (hand.lives c)) h → Has (lives_of c all) h
  among c h true is (inl same) = subst (λ d. Has (lives_of d all) h) (eqb-true x.code c is) (subst (Has (lives_of x.code all)) (sym same) (told_there all x told.there))
  among c h true is (inr there) = hand.only c h there
  among c h false is there = hand.only c h there

  was_in : (c : ℕ) (h : HistoryRow) (b : Bool) → Has (hand.lives c) h → Has (cond b (x.life ∷ hand.lives c) (hand.lives c)) h
  was_in c h true there = inr there
  was_in c h false there = there

  here : Has (lives x.code) x.life
  here = subst (λ b. Has (cond b (x.life ∷ hand.lives x.code) (hand.lives x.code)) x.life) (sym (eq-eqb x.code x.code refl)) (inl refl)

  those : (y : Told) → Has all y → y.place ≤ℤ x.place → Has (lives y.code) y.life
  those y there before = by_place (by_or_behind place y)
    where
      by_place : IsBy place y ⊎ IsBehind place y → Has (lives y.code) y.life
      by_place (inl early) = was_in y.code y.life (x.code == y.code) (hand.those y there early)
      by_place (inr late) = subst (λ (z : Told). Has (lives z.code) z.life) (sym (told.first y there late before)) here

  gain : Gain x.life (hand.lives x.code) (x.life ∷ hand.lives x.code)
  gain = record { only = λ r h. h; there = inl refl; kept = λ r h. inr h }

  own : x.life.key ≡ key_of x.life.item
  own = are.own x told.there

  gained : Gained x.life (hand.lives x.code) (x.life ∷ hand.lives x.code)
  gained = rows_join x.life (hand.lives x.code) (x.life ∷ hand.lives x.code) apart own gain
    where
      apart : AreInTurn (x.life ∷ hand.lives x.code)
      apart = fewer_apart (x.life ∷ hand.lives x.code) (lives_of x.code all) (λ h there. among x.code h true (eq-eqb x.code x.code refl) there) (are.apart x.code)

  views_here : (t : ℕ) → t ≤ reached new x.code → view_after new x.code t ≡ rows.view_of_rows (x.life ∷ hand.lives x.code) (passages x.code) t
  views_here t le =
      let same = restored.reached x.code in
      let was : t ≤ reached old x.code = omega arith in
      let many = as_many x.code in
      let few = are.few x.code in
      let short : t < never = omega arith in
      let before = hand.views x.code t was in
      restored.views t was
      ∙ ap (with_that t) before
      ∙ life_beside x.life.born gone x.life.item t (rows.view_after (hand.lives x.code) t) (passages x.code)
      ∙ ap (λ (v : View). with_passages v (passages x.code) t)
      (sym (gained_life x.life (hand.lives x.code) (x.life ∷ hand.lives x.code) gone own is_gone t short (soon gone restored.within.ended) (λ late. sym (ap (λ v. get_of v) before) ∙ restored.free t late was) gained))
    where
      soon : (o : Option ℕ) → IfSome o (λ g. (x.life.born ≤ g) × (g ≤ reached old x.code)) → IfSome o (λ g. g < never)
      soon None h = tt
      soon (Some g) h = let le = h.1 in let few = are.few x.code in let many = as_many x.code in omega (arith, le, few, many)

      with_that : (t : ℕ) → View → View
      with_that t v = with_life x.life.born gone x.life.item t v

      get_of : View → Option Item
      get_of v = map.get v.items (key_of x.life.item)

  views_at : (c t : ℕ) (b : Bool) → (x.code == c) ≡ b → t ≤ reached new c → view_after new c t ≡ rows.view_of_rows (cond b (x.life ∷ hand.lives c) (hand.lives c)) (passages c) t
  views_at c t true is le = subst (λ d. t ≤ reached new d → view_after new d t ≡ rows.view_of_rows (x.life ∷ hand.lives d) (passages d) t) (eqb-true x.code c is) (views_here t) le
  views_at c t false is le =
      let other = eqb-false x.code c is in
      let same = restored.others c (λ e. other (sym e)) in
      let was : t ≤ reached old c = subst (λ (js : List Judgement). t ≤ length js) same le in
      ap (λ (js : List Judgement). unwrap_or (slice_get (views js) t) empty_view) same ∙ hand.views c t was

  pub at_hand : AreAtHand (Some x.place) all passages new
  at_hand = record {
    lives = lives;
    only = λ c h. among c h (x.code == c) refl;
    those = those;
    views = λ c t. views_at c t (x.code == c) refl;
  }

pub restored_is : RestoredIsAtHand
restored_is place all passages kept old new x gone are as_many hand told is_gone restored = at_hand place all passages kept old new x gone are as_many hand told is_gone restored

pub all_are : AllAtHand
all_are place all passages kept board are hand ends c t le also =
    hand.views c t le
    ∙ ap (λ (v : View). with_passages v (passages c) t) (same_rows (lives_of c all) (hand.lives c) (are.apart c) same t)
    ∙ sym (are.views c t also)
  where
    same : AreSame (lives_of c all) (hand.lives c)
    same = record {
      only = λ h there. hand.only c h there;
      kept = λ h there.
          let x = there_told all c h there in
          subst (λ (p : ℕ × HistoryRow). Has (hand.lives p.0) p.1) (λ i. (x.2 i, x.3 i)) (hand.those x.0 x.1 (ends x.0 x.1));
    }

pub lives_join : LivesJoin
lives_join = record { restored = restored_is; all = all_are }
