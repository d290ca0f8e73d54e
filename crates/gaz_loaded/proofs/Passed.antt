-- What became of custodians' numbers, once all of it is put back.
use Rattle.std.proofs.Common.{◌≡◌, ◌∙◌, ◌≤◌, ◌==◌, ◌++◌, ◌⊎◌, inl, inr, ℕ, Bool, true, false, List, [], ◌∷◌, refl, sym, ap, subst, arith, eqb-true}
use Rattle.std.proofs.lemmas.Bool.{eqb-false}
use Rattle.std.specs.Prelude.{Option, None, length, slice_get, unwrap_or}
use Rattle.sqlite_rules.specs.Lists.{Has}
use Rattle.gaz_views.specs.View.{empty_view}
use Rattle.gaz_keeper.specs.Board.{Board, Judgement, reached, view_after, views}
use Rattle.gaz_keeper.specs.Keeper.{Content, Seen}
use Rattle.gaz_overlay.specs.Passages.{PassageRow}
use Rattle.gaz_loaded.specs.Files.{OnlyReads}
use Rattle.gaz_loaded.specs.Lives.{AreOf, Told}
use Rattle.gaz_loaded.specs.Passing.{AreToldInTurn, ComesBehind}
use Rattle.gaz_loaded.specs.Restoring.{ArePutBack, BringsItsPassages, BringsPassages, HasNoneOrAll, HasPassages, IsBare}
use Rattle.gaz_loaded.specs.declared.listed.Passage.{Passage}
use Rattle.gaz_loaded.proofs.Copied.{has_end}
use Rattle.gaz_loaded.proofs.Custodian.{among, has_before, has_last}
use Rattle.gaz_loaded.proofs.PutBack.{as_many_back, views_back}
use Rattle.gaz_loaded.proofs.ToldPassages.{IsBlankOrWhole, all_back, place_after}

-- ---- of one custodian

pub its_passages : (c : ℕ) (lives : List Told) (passages : ℕ → List PassageRow) (kept old new : Board) (told : List Passage) → AreOf lives passages kept → reached old c ≡ reached kept c → AreToldInTurn None (passages c) told
    → (after : Option Passage) → place_after None told ≡ after → ((p : PassageRow) → Has (passages c) p → ¬ ComesBehind after p) → ArePutBack c old told new → HasNoneOrAll (passages c) old c → HasPassages (passages c) new c
its_passages c lives passages kept old new told are as_many turn after place ends back fresh t le =
    let same = as_many_back c old new told back c in
    let few = are.few c in
    let was : t ≤ reached old c = omega (arith, le, same) in
    views_back c old new told back t was
    ∙ all_back (reached kept c) t (passages c) told (omega (arith, was, as_many, few)) (are.passed c) turn (λ p there. subst (λ o. ¬ ComesBehind o p) (sym place) (ends p there)) (view_after old c t) (so fresh was)
  where
    so : HasNoneOrAll (passages c) old c → t ≤ reached old c → IsBlankOrWhole (passages c) t (view_after old c t)
    so (inl none) was = inl (none t)
    so (inr all) was = inr (all t was)

-- ---- one custodian after another

viewed_same : (old new : Board) (c t : ℕ) → new c ≡ old c → view_after new c t ≡ view_after old c t
viewed_same old new c t same = ap (λ (js : List Judgement). unwrap_or (slice_get (views js) t) empty_view) same

pub passes_none : (passages : ℕ → List PassageRow) (a : Seen) (k : Content) → BringsPassages [] passages a a k k
passes_none passages a k = record {
  files = refl;
  as_many = λ d. refl;
  verdicts = λ d v. refl;
  others = λ d none. refl;
  views = λ _ _ _ _ c there. absurd there;
}

module _ (codes : List ℕ) (code : ℕ) (passages now : ℕ → List PassageRow) (a b d : Seen) (k m n : Content) (first : OnlyReads a b) (reads : OnlyReads b d) (stays : a.stands → b.unharmed → now ≡ passages)
    (before : BringsPassages codes passages a b k m) (next : BringsItsPassages code now b d m n) where
  module _ (stood : a.stands) (fine : d.unharmed) (as_many : (c : ℕ) → reached k.board c ≡ reached a.content.board c) (bare : IsBare k.board) where
    mid : b.unharmed
    mid = reads.keeps.harm fine

    had : (c : ℕ) → Has codes c → HasPassages (passages c) m.board c
    had c there = before.views stood mid as_many bare c there

    none_or_all : HasNoneOrAll (passages code) m.board code
    none_or_all = by_code (among codes code)
      where
        by_code : Has codes code ⊎ ¬ Has codes code → HasNoneOrAll (passages code) m.board code
        by_code (inl there) = inr (had code there)
        by_code (inr gone) = inl (λ t. viewed_same k.board m.board code t (before.others code gone) ∙ bare code t)

    here : HasPassages (passages code) n.board code
    here =
        let same : now ≡ passages = stays stood mid in
        let its = ap (λ (ps : ℕ → List PassageRow). ps code) same in
        let many : reached m.board code ≡ reached b.content.board code = before.as_many code ∙ as_many code ∙ ap (λ (x : Content). reached x.board code) (sym (first.keeps.content stood mid)) in
        subst (λ ps. HasPassages ps n.board code) its (next.views (first.keeps.stands stood mid) fine many (subst (λ ps. HasNoneOrAll ps m.board code) (sym its) none_or_all))

    has_now : (c : ℕ) → Has codes c ⊎ (c ≡ code) → HasPassages (passages c) n.board c
    has_now c (inr same) = subst (λ q. HasPassages (passages q) n.board q) (sym same) here
    has_now c (inl there) = by_test (c == code) refl
      where
        by_test : (t : Bool) → (c == code) ≡ t → HasPassages (passages c) n.board c
        by_test true is = subst (λ q. HasPassages (passages q) n.board q) (sym (eqb-true c code is)) here
        by_test false is = λ t le.
            let same = next.others c (eqb-false c code is) in
            viewed_same m.board n.board c t same ∙ had c there t (subst (λ (js : List Judgement). t ≤ length js) same le)

  pub passes_more : BringsPassages (codes ++ code ∷ []) passages a d k n
  passes_more = record {
    files = next.files ∙ before.files;
    as_many = λ c. next.as_many c ∙ before.as_many c;
    verdicts = λ c v. next.verdicts c v ∙ before.verdicts c v;
    others = λ c none.
        next.others c (λ same. none (subst (λ q. Has (codes ++ code ∷ []) q) (sym same) (has_last codes code)))
        ∙ before.others c (λ there. none (has_before codes code c there));
    views = λ stood fine as_many bare c there. has_now stood fine as_many bare c (has_end codes code c there);
  }
