-- All that was received of a custodian.
use Rattle.std.proofs.Common.{◌≡◌, ◌≢◌, ◌∙◌, ◌≤◌, ◌<◌, ◌==◌, ◌++◌, ◌⊎◌, inl, inr, ℕ, Bool, true, false, List, [], ◌∷◌, length, refl, sym, ap, subst, eqb-true}
use Rattle.std.proofs.lemmas.Bool.{eqb-false}
use Rattle.std.proofs.lemmas.Bool.{cases_lt}
use Rattle.std.specs.FinMap as map
use Rattle.std.specs.Prelude.{IsSome, Some, None}
use Rattle.sqlite_rules.specs.Lists.{Has}
use Rattle.gaz_keeper.specs.Board.{Judgement, reached}
use Rattle.gaz_keeper.specs.Keeper.{Content, Seen}
use Rattle.gaz_keeper.specs.Received.{Received}
use Rattle.gaz_loaded.specs.Files.{AreThere, AsManyJudged, Copies, CopiesAll, CopiesOf, HasAll, IsPart, OnlyReads}
use Rattle.gaz_loaded.specs.Telling.{AreAbove, last_of}
use Rattle.gaz_loaded.proofs.Copied.{copies_nothing, copies_then, has_end, is_still}
use Rattle.gaz_loaded.proofs.Reading.{reads_then}

-- all volumes that are received of a custodian, from 1 up to this one
abbrev pub HasUntil : ℕ → ℕ → Received → Received → Type 0
HasUntil volume c kept now = (v : ℕ) → 1 ≤ v → v ≤ volume → IsSome (map.get kept (c, v))
    → IsSome (map.get now (c, v))

-- ---- volumes

-- up to the last of those that came
until_last : (c above last : ℕ) (volumes : List ℕ) (kept old new : Received) → last_of volumes ≡ Some last → AreAbove kept c above volumes → HasUntil above c kept old
    → ((p : ℕ × ℕ) → IsSome (map.get old p) → IsSome (map.get new p)) → AreThere c volumes new → HasUntil last c kept new
until_last c above last volumes kept old new is told before still there v low high some = by_place (cases_lt above v)
  where
    by_place : (above < v) ⊎ (v ≤ above) → IsSome (map.get new (c, v))
    by_place (inl beyond) = there v (told.all last v is beyond high some)
    by_place (inr within) = still (c, v) (before v low within some)

-- all, where none is above
all_of : (c above : ℕ) (volumes : List ℕ) (kept now : Received) → last_of volumes ≡ None → AreAbove kept c above volumes → HasUntil above c kept now → HasAll c kept now
all_of c above volumes kept now is told before v low some = by_place (cases_lt above v)
  where
    by_place : (above < v) ⊎ (v ≤ above) → IsSome (map.get now (c, v))
    by_place (inl beyond) = absurd (told.none is v beyond some)
    by_place (inr within) = before v low within some

module _ (c above : ℕ) (a b d e : Seen) (k m n : Content) (volumes : List ℕ) (first : OnlyReads a b) (reads : OnlyReads b d) (also : OnlyReads d e)
    (told : b.stands → d.unharmed → AreAbove b.content.files c above volumes) (until : a.stands → b.unharmed → HasUntil above c a.content.files m.files) where
  told_there : a.stands → d.unharmed → AreAbove a.content.files c above volumes
  told_there stood fine =
      let mid = reads.keeps.harm fine in
      subst (λ (x : Content). AreAbove x.files c above volumes) (first.keeps.content stood mid) (told (first.keeps.stands stood mid) fine)

  pub until_next : (last : ℕ) → last_of volumes ≡ Some last → Copies c d e m n → AreThere c volumes n.files → a.stands → e.unharmed → HasUntil last c a.content.files n.files
  until_next last is copies there stood fine =
      let mid = also.keeps.harm fine in
      until_last c above last volumes a.content.files m.files n.files is (told_there stood mid) (until stood (reads.keeps.harm mid)) (λ p some. is_still m.files n.files p copies.grows.files some) there

  pub all_of_it : last_of volumes ≡ None → Copies c a b k m → n ≡ m → AsManyJudged c d e m → CopiesOf c a e k n
  all_of_it is copies same judged = record {
    copies = copies_then c a b e k m n first (reads_then b d e reads also) copies (copies_nothing c b e m n same);
    all = λ stood fine.
        let mid = also.keeps.harm fine in
        subst (λ (x : Content). HasAll c a.content.files x.files) (sym same)
        (all_of c above volumes a.content.files m.files is (told_there stood mid) (until stood (reads.keeps.harm mid)));
    judged = λ stood fine.
        let mid = also.keeps.harm fine in
        let low = reads.keeps.harm mid in
        let both = reads_then a b d first reads in
        ap (λ (x : Content). reached x.board c) same
        ∙ judged (both.keeps.stands stood mid) fine
        ∙ ap (λ (x : Content). reached x.board c) (both.keeps.content stood mid);
  }

-- ---- whose is it

pub among : (codes : List ℕ) (c : ℕ) → Has codes c ⊎ ¬ Has codes c
among [] c = inr (λ there. there)
among (x ∷ codes) c = by_first (c == x) refl (among codes c)
  where
    by_first : (b : Bool) → (c == x) ≡ b → Has codes c ⊎ ¬ Has codes c → Has (x ∷ codes) c ⊎ ¬ Has (x ∷ codes) c
    by_first true is rest = inl (inl (eqb-true c x is))
    by_first false is (inl there) = inl (inr there)
    by_first false is (inr gone) = inr (λ there. elim there [ inl same ↦ eqb-false c x is same | inr later ↦ gone later ])

-- ---- one custodian after another

pub has_before : (xs : List ℕ) (x v : ℕ) → Has xs v → Has (xs ++ x ∷ []) v
has_before [] x v there = absurd there
has_before (y ∷ xs) x v (inl same) = inl same
has_before (y ∷ xs) x v (inr later) = inr (has_before xs x v later)

pub has_last : (xs : List ℕ) (x : ℕ) → Has (xs ++ x ∷ []) x
has_last [] x = inl refl
has_last (y ∷ xs) x = inr (has_last xs x)

pub copies_none : (a : Seen) (k : Content) → CopiesAll [] a a k k
copies_none a k = record {
  part = λ _ _ part. part;
  files = λ p x is. is;
  all = λ _ _ c none. absurd none;
  judged = λ c none. absurd none;
  others = λ c _. refl;
}

module _ (codes : List ℕ) (code : ℕ) (a b d : Seen) (k m n : Content) (first : OnlyReads a b) (reads : OnlyReads b d) (before : CopiesAll codes a b k m) (next : CopiesOf code b d m n) where
  same_board : (c : ℕ) → c ≢ code → n.board c ≡ m.board c
  same_board c other = next.copies.grows.others c other

  all_more : a.stands → d.unharmed → (c : ℕ) → Has codes c ⊎ (c ≡ code) → HasAll c a.content.files n.files
  all_more stood fine c (inl there) v low some = is_still m.files n.files (c, v) next.copies.grows.files (before.all stood (reads.keeps.harm fine) c there v low some)
  all_more stood fine c (inr same) v low some =
      let mid = reads.keeps.harm fine in
      subst (λ e. IsSome (map.get n.files (e, v))) (sym same)
      (next.all (first.keeps.stands stood mid) fine v low
      (subst (λ (x : Content). IsSome (map.get x.files (code, v))) (sym (first.keeps.content stood mid)) (subst (λ e. IsSome (map.get a.content.files (e, v))) same some)))

  judged_here : a.stands → d.unharmed → reached n.board code ≡ reached a.content.board code
  judged_here stood fine =
      let mid = reads.keeps.harm fine in
      next.judged (first.keeps.stands stood mid) fine ∙ ap (λ (x : Content). reached x.board code) (first.keeps.content stood mid)

  judged_same : (c : ℕ) → c ≡ code → AsManyJudged c a d n
  judged_same c same stood fine = subst (λ e. reached n.board e ≡ reached a.content.board e) (sym same) (judged_here stood fine)

  judged_more : (c : ℕ) → Has codes c ⊎ (c ≡ code) → AsManyJudged c a d n
  judged_more c (inr same) stood fine = judged_same c same stood fine
  judged_more c (inl there) stood fine = by_test (c == code) refl
    where
      by_test : (t : Bool) → (c == code) ≡ t → reached n.board c ≡ reached a.content.board c
      by_test true is = judged_same c (eqb-true c code is) stood fine
      by_test false is = ap (λ (js : List Judgement). length js) (same_board c (eqb-false c code is)) ∙ before.judged c there stood (reads.keeps.harm fine)

  pub copies_more : CopiesAll (codes ++ code ∷ []) a d k n
  copies_more = record {
    part = λ stood fine part.
        let mid = reads.keeps.harm fine in
        let same = first.keeps.content stood mid in
        subst (λ (x : Content). IsPart x n) same (next.copies.part (first.keeps.stands stood mid) fine (subst (λ (x : Content). IsPart x m) (sym same) (before.part stood mid part)));
    files = λ p x is. next.copies.grows.files p x (before.files p x is);
    all = λ stood fine c there. all_more stood fine c (has_end codes code c there);
    judged = λ c there. judged_more c (has_end codes code c there);
    others = λ c none.
        same_board c (λ same. none (subst (λ e. Has (codes ++ code ∷ []) e) (sym same) (has_last codes code)))
        ∙ before.others c (λ there. none (has_before codes code c there));
  }
