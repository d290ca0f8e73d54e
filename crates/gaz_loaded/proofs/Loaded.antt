-- What was loaded is what is kept.
use Rattle.std.proofs.Common.{◌≡◌, ◌∙◌, ◌≤◌, ◌<◌, ◌⊎◌, ◌||◌, inl, inr, ℕ, zero, suc, Bool, true, false, List, [], ◌∷◌, length, slice_get, map, is_some, refl, sym, ap, subst, arith, true≢false}
use Rattle.std.specs.Prelude.{IsSome, Option, Some, None, option_map, unwrap_or}
use Rattle.std.specs.FinMap as finite
use Rattle.std.specs.FinSet as finite_set
use Rattle.sqlite_rules.specs.Lists.{Has}
use Rattle.gaz_records.proofs.KeyOrder.{keys_exact, keys_total}
use Rattle.gaz_views.specs.Judgements.{Judgement}
use Rattle.gaz_views.specs.View.{View, empty_view}
use Rattle.gaz_views.specs.declared.verdict.Verdict.{Verdict}
use Rattle.gaz_keeper.specs.Board.{Board, reached, verdict_on, view_after}
use Rattle.gaz_keeper.specs.Keeper.{Content, Idle, Seen, after_stop, empty_content}
use Rattle.gaz_keeper.specs.Received.{pair_cmp}
use Rattle.gaz_keeper.proofs.Pairs.{pairs_exact, pairs_total}
use Rattle.gaz_overlay.specs.Passages.{PassageRow, passed_keys, with_passages}
use Rattle.gaz_overlay.specs.Rows as rows
use Rattle.gaz_overlay.specs.Rows.{HistoryRow}
use Rattle.gaz_shelf.specs.Mem.{content_in, progress_of, seen_in, working_of}
use Rattle.gaz_shelf.specs.declared.mem_shelf.Judging.{Judging}
use Rattle.gaz_shelf.specs.declared.mem_shelf.Judging.TheVariants as judging
use Rattle.gaz_shelf.specs.declared.mem_shelf.MemShelf.{MemShelf}
use Rattle.gaz_loaded.proofs.Custodian.{among}
use Rattle.gaz_loaded.specs.Files.{CopiesAll, IsPart, OnlyReads}
use Rattle.gaz_loaded.specs.Loading.{IsOfThese}
use Rattle.gaz_loaded.specs.Lives.{AreOf, Told, lives_of}
use Rattle.gaz_loaded.specs.Restoring.{BringsLives, BringsPassages, HasPassages}

-- ---- equal boards

told : List Judgement → ℕ → Option Verdict
told js n = option_map (λ (j : Judgement). j.verdict) (slice_get js n)

viewed : List Judgement → ℕ → View
viewed js n = unwrap_or (slice_get (map (λ (j : Judgement). j.view) js) n) empty_view

same_list : (xs ys : List Judgement) → length xs ≡ length ys → ((n : ℕ) → n < length xs → told xs n ≡ told ys n) → ((n : ℕ) → n < length xs → viewed xs n ≡ viewed ys n) → xs ≡ ys
unfolding told viewed
same_list [] [] as_many verdicts seen = refl
same_list [] (y ∷ ys) as_many verdicts seen = absurd (omega (arith, as_many))
same_list (x ∷ xs) [] as_many verdicts seen = absurd (omega (arith, as_many))
same_list (x ∷ xs) (y ∷ ys) as_many verdicts seen =
    let first : Some x.verdict ≡ Some y.verdict = verdicts 0 (omega arith) in
    let verdict : x.verdict ≡ y.verdict = cc in
    let view : x.view ≡ y.view = seen 0 (omega arith) in
    let behind : xs ≡ ys = same_list xs ys (omega (arith, as_many)) (λ n below. verdicts (suc n) (omega (arith, below))) (λ n below. seen (suc n) (omega (arith, below))) in
    λ i. record { verdict = verdict i; view = view i } ∷ behind i

same_board : (m k : Board) (c : ℕ) → reached m c ≡ reached k c → ((v : ℕ) → v ≤ reached m c → verdict_on m c v ≡ verdict_on k c v) → ((v : ℕ) → v ≤ reached m c → view_after m c v ≡ view_after k c v) → m c ≡ k c
unfolding told viewed
same_board m k c as_many verdicts seen = same_list (m c) (k c) as_many (λ n below. verdicts (suc n) (omega (arith, below))) (λ n below. seen (suc n) (omega (arith, below)))

-- ---- nothing at first

nothing_yet : (k : Content) → IsPart k empty_content
nothing_yet k = record {
  files = λ p x is. let none : None ≡ Some x = sym (finite.get-empty pair_cmp p) ∙ is in cc;
  verdicts = λ c v le. first c v le;
  bare = λ c v. bare v;
  idle = refl;
}
  where
    first : (c v : ℕ) → v ≤ 0 → verdict_on empty_content.board c v ≡ verdict_on k.board c v
    first c zero le = refl
    first c (suc v) le = absurd (omega (arith, le))

    bare : (v : ℕ) → unwrap_or (slice_get (empty_view ∷ []) v) empty_view ≡ empty_view
    bare zero = refl
    bare (suc v) = refl

-- ---- all that is kept

-- before volume 1 nothing became of any number
again : (e u p : Bool) → e ≡ (u || p) → (e || p) ≡ e
again true u p is = refl
again false true p is = cc
again false false true is = cc
again false false false is = refl

unpassed : (lives : List HistoryRow) (passages : List PassageRow) → empty_view ≡ rows.view_of_rows lives passages 0 → with_passages empty_view passages 0 ≡ empty_view
unpassed lives passages is = λ i. record empty_view {
  used = finite_set.same_set keys_total keys_exact (finite_set.union empty_view.used (passed_keys passages 0)) empty_view.used (λ q.
      finite_set.contains-union keys_total empty_view.used (passed_keys passages 0) q
      ∙ again (finite_set.contains empty_view.used q) (finite_set.contains (rows.view_after lives 0).used q) (finite_set.contains (passed_keys passages 0) q)
      (ap (λ (v : View). finite_set.contains v.used q) is ∙ finite_set.contains-union keys_total (rows.view_after lives 0).used (passed_keys passages 0) q)) i;
  custody = sym (ap (λ (v : View). v.custody) is) i;
}

module _ (codes : List ℕ) (a b d e : Seen) (lives : List Told) (passages : ℕ → List PassageRow) (k m p n : Content) (first : OnlyReads a b) (next : OnlyReads b d) (last : OnlyReads d e) (empty : k ≡ empty_content)
    (copies : CopiesAll codes a b k m) (passed : BringsPassages codes passages b d m p) (brings : BringsLives passages d e p n) (made : AreOf lives passages d.content.board)
    (stood : a.stands) (fine : e.unharmed) (these : IsOfThese codes a.content) where
  late : d.unharmed
  late = last.keeps.harm fine

  mid : b.unharmed
  mid = next.keeps.harm late

  part : IsPart a.content m
  part = copies.part stood mid (subst (IsPart a.content) (sym empty) (nothing_yet a.content))

  files_are : m.files ≡ a.content.files
  files_are = finite.same_map pairs_total pairs_exact m.files a.content.files (λ p. at p (finite.get m.files p) (finite.get a.content.files p) refl refl)
    where
      at : (p : ℕ × ℕ) (o u : Option (List ℕ)) → finite.get m.files p ≡ o → finite.get a.content.files p ≡ u → finite.get m.files p ≡ finite.get a.content.files p
      at p (Some x) u is also = is ∙ sym (part.files p x is)
      at p None None is also = is ∙ sym also
      at p None (Some y) is also =
          let there : IsSome (finite.get a.content.files p) = ap is_some also in
          let came : IsSome (finite.get m.files p) = copies.all stood mid p.0 (these.known p.0 p.1 there) p.1 (these.volumes p.0 p.1 there) there in
          absurd (true≢false (sym came ∙ ap is_some is))

  as_many : (c : ℕ) → reached m.board c ≡ reached a.content.board c
  as_many c = by_code (among codes c)
    where
      by_code : Has codes c ⊎ ¬ Has codes c → reached m.board c ≡ reached a.content.board c
      by_code (inl there) = copies.judged c there stood mid
      by_code (inr gone) = ap (λ (js : List Judgement). length js) (copies.others c gone ∙ ap (λ (x : Content). x.board c) empty) ∙ sym (these.judged c gone)

  same : b.content ≡ a.content
  same = first.keeps.content stood mid

  stood_then : b.stands
  stood_then = first.keeps.stands stood mid

  same_then : d.content ≡ a.content
  same_then = next.keeps.content stood_then late ∙ same

  many_then : (c : ℕ) → reached p.board c ≡ reached d.content.board c
  many_then c = passed.as_many c ∙ as_many c ∙ ap (λ (x : Content). reached x.board c) (sym same_then)

  -- a custodian of whom nothing was judged has nothing
  nothing_passed : (c : ℕ) → reached p.board c ≡ 0 → HasPassages (passages c) p.board c
  nothing_passed c none zero le = sym (unpassed (lives_of c lives) (passages c) (made.views c 0 (omega arith)))
  nothing_passed c none (suc v) le = absurd (omega (arith, le, none))

  has_passed : (c : ℕ) → HasPassages (passages c) p.board c
  has_passed c = by_code (among codes c)
    where
      by_code : Has codes c ⊎ ¬ Has codes c → HasPassages (passages c) p.board c
      by_code (inl there) = passed.views stood_then late (λ q. as_many q ∙ ap (λ (x : Content). reached x.board q) (sym same)) part.bare c there
      by_code (inr gone) = nothing_passed c (passed.as_many c ∙ as_many c ∙ these.judged c gone)

  board_is : (c : ℕ) → n.board c ≡ a.content.board c
  board_is c =
      same_board n.board a.content.board c (brings.as_many c ∙ passed.as_many c ∙ as_many c)
      (λ v le. brings.verdicts c v ∙ passed.verdicts c v ∙ part.verdicts c v (subst (λ q. v ≤ q) (brings.as_many c ∙ passed.as_many c) le))
      (λ v le. brings.views (next.keeps.stands stood_then late) fine many_then has_passed c v le ∙ ap (λ (x : Content). view_after x.board c v) same_then)

  pub loaded : n.working ≡ empty_view → n ≡ after_stop a.content
  loaded working = λ i. record { files = (brings.files ∙ passed.files ∙ files_are) i; board = λ c. board_is c i; working = working i }

-- ---- in answers

idle_bare : (j : Judging) (shelf : MemShelf) → progress_of j ≡ Idle → working_of j shelf.accounts.by_code.entries ≡ empty_view
idle_bare judging.Idle shelf is = refl
idle_bare (judging.Open c) shelf is = cc
idle_bare judging.Broken shelf is = refl

pub rests_bare : (shelf : MemShelf) → (seen_in shelf).progress ≡ Idle → (content_in shelf).working ≡ empty_view
rests_bare shelf is = idle_bare shelf.judging shelf is
