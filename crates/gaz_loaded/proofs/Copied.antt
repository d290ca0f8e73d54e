-- A file that is brought to hand.
use Rattle.std.proofs.Common.{◌≡◌, ◌≢◌, ◌∙◌, ◌≤◌, ◌<◌, ◌+◌, ◌++◌, ◌==◌, ◌⊎◌, inl, inr, ℕ, Bool, true, false, cond, List, [], ◌∷◌, length, take, get_or, is_some, refl, sym, ap, subst, eqb-true, true≢false}
use Rattle.std.proofs.lemmas.List.{take_all, take_more}
use Rattle.std.specs.Global.{Vec}
use Rattle.std.specs.Prelude.{Option, Some, None, IsSome, option_map}
use Rattle.std.specs.FinMap as map
use Rattle.std.specs.Ordering.{eq_by_cmp, is_eq}
use Rattle.std.specs.Cmp.{tied_itself}
use Rattle.std.specs.declared.cmp.Ordering.{Ordering}
use Rattle.std.specs.declared.cmp.Ordering.TheVariants.{Less, Equal, Greater}
use Rattle.sqlite_rules.specs.Lists.{Has}
use Rattle.gaz_views.specs.declared.verdict.Verdict.{Verdict}
use Rattle.gaz_keeper.specs.Board.{Board, adds, last_view, reached, verdict_on}
use Rattle.gaz_keeper.specs.Keeper.{Content, Seen, with_received}
use Rattle.gaz_keeper.specs.Received.{HasAllOf, Received, pair_cmp, with_file}
use Rattle.gaz_keeper.proofs.Pairs.{pairs_exact, pairs_total}
use Rattle.gaz_loaded.specs.Files.{AreThere, Copies, IsEntered, IsPart, OnlyReads}
use Rattle.gaz_loaded.proofs.Boards.{added_bare, added_verdicts}

-- ---- one file more

pair_is : (p : ℕ × ℕ) (c v : ℕ) → eq_by_cmp pair_cmp p (c, v) ≡ true → p ≡ (c, v)
pair_is p c v e = pairs_exact p (c, v) (is_equal (pair_cmp p (c, v)) e)
  where
    is_equal : (o : Ordering) → is_eq o ≡ true → o ≡ Equal
    is_equal Less e = absurd (true≢false (sym e))
    is_equal Equal e = refl
    is_equal Greater e = absurd (true≢false (sym e))

module _ (files : Received) (c v : ℕ) (bytes : List ℕ) where
  abbrev more : Received
  more = with_file files c v bytes

  get_more : (p : ℕ × ℕ) → map.get more p ≡ cond (eq_by_cmp pair_cmp p (c, v)) (Some bytes) (map.get files p)
  get_more p = map.get-insert pairs_total files (c, v) bytes p

  pub new_there : map.get more (c, v) ≡ Some bytes
  new_there = get_more (c, v) ∙ ap (λ o. cond (is_eq o) (Some bytes) (map.get files (c, v))) (tied_itself pairs_total (c, v))

  pub was_there : map.get files (c, v) ≡ None → HasAllOf more files
  was_there none p x is = by_pair (eq_by_cmp pair_cmp p (c, v)) refl
    where
      by_pair : (b : Bool) → eq_by_cmp pair_cmp p (c, v) ≡ b → map.get more p ≡ Some x
      by_pair true same = let no : None ≡ Some x = sym (ap (map.get files) (pair_is p c v same) ∙ none) ∙ is in cc
      by_pair false other = get_more p ∙ ap (λ b. cond b (Some bytes) (map.get files p)) other ∙ is

  -- each of them is another's, where the new one is
  pub still_among : (many : Received) → HasAllOf many files → map.get many (c, v) ≡ Some bytes → HasAllOf many more
  still_among many among there p x is = by_pair (eq_by_cmp pair_cmp p (c, v)) refl
    where
      by_pair : (b : Bool) → eq_by_cmp pair_cmp p (c, v) ≡ b → map.get many p ≡ Some x
      by_pair true same =
          let new : Some bytes ≡ Some x = sym (get_more p ∙ ap (λ b. cond b (Some bytes) (map.get files p)) same) ∙ is in
          ap (map.get many) (pair_is p c v same) ∙ there ∙ new
      by_pair false other = among p x (sym (get_more p ∙ ap (λ b. cond b (Some bytes) (map.get files p)) other) ∙ is)

neq_eqb : (d c : ℕ) → d ≢ c → (d == c) ≡ false
neq_eqb d c other = by_test (d == c) refl
  where
    by_test : (b : Bool) → (d == c) ≡ b → (d == c) ≡ false
    by_test true is = absurd (other (eqb-true d c is))
    by_test false is = is

-- ---- a file, and what became of it

pub now_there_by : (k m : Content) (c v : ℕ) (bytes : List ℕ) → m ≡ with_received k c v bytes → IsSome (map.get m.files (c, v))
now_there_by k m c v bytes becomes = subst (λ (x : Content). IsSome (map.get x.files (c, v))) (sym becomes) (subst IsSome (sym (new_there k.files c v bytes)) refl)

pub still_there_by : (m n : Content) (c v : ℕ) (verdict : Verdict) → IsSome (map.get m.files (c, v)) → IsEntered c v verdict m n → IsSome (map.get n.files (c, v))
still_there_by m n c v verdict there entered = subst (λ (x : Content). IsSome (map.get x.files (c, v))) (sym entered.becomes) there

module _ (a b : Seen) (k m : Content) (c v : ℕ) (bytes : List ℕ) (reads : OnlyReads a b) (none : map.get k.files (c, v) ≡ None) (becomes : m ≡ with_received k c v bytes)
    (there : a.stands → b.unharmed → map.get a.content.files (c, v) ≡ Some bytes) where
  files_are : m.files ≡ with_file k.files c v bytes
  files_are = ap (λ (x : Content). x.files) becomes

  grown : HasAllOf m.files k.files
  grown = subst (λ (F : Received). HasAllOf F k.files) (sym files_are) (was_there k.files c v bytes none)

  part_of : (kept : Content) → map.get kept.files (c, v) ≡ Some bytes → IsPart kept k → IsPart kept m
  part_of kept is part = subst (IsPart kept) (sym becomes) (record {
    files = still_among k.files c v bytes kept.files part.files is;
    verdicts = part.verdicts;
    bare = part.bare;
    idle = part.idle;
  })

  -- it waits
  pub copied_held : Copies c a b k m
  copied_held = record {
    grows = record { files = grown; others = λ d other. ap (λ (x : Content). x.board d) becomes };
    part = λ stood fine part. part_of a.content (there stood fine) part;
  }

  module _ (n : Content) (verdict : Verdict) (is : a.stands → b.unharmed → Some verdict ≡ verdict_on a.content.board c v) (entered : IsEntered c v verdict m n) where
    board_is : n.board ≡ adds m.board c (record { verdict = verdict; view = last_view m.board c })
    board_is = ap (λ (x : Content). x.board) entered.becomes

    same_files : n.files ≡ m.files
    same_files = ap (λ (x : Content). x.files) entered.becomes

    others : (d : ℕ) → d ≢ c → n.board d ≡ k.board d
    others d other =
        ap (λ (f : Board). f d) board_is
        ∙ ap (λ t. cond t (m.board d ++ record { verdict = verdict; view = last_view m.board c } ∷ []) (m.board d)) (neq_eqb d c other)
        ∙ ap (λ (x : Content). x.board d) becomes

    with_verdict : (kept : Content) → Some verdict ≡ verdict_on kept.board c v → IsPart kept m → IsPart kept n
    with_verdict kept told part = subst (IsPart kept) (sym entered.becomes) (record {
      files = part.files;
      verdicts = added_verdicts m.board kept.board c (record { verdict = verdict; view = last_view m.board c }) part.verdicts (told ∙ ap (verdict_on kept.board c) (sym entered.next));
      bare = added_bare m.board c (record { verdict = verdict; view = last_view m.board c }) part.bare (part.bare c (reached m.board c));
      idle = refl;
    })

    -- it is judged so
    pub copied_judged : Copies c a b k n
    copied_judged = record {
      grows = record { files = λ p x at_first. subst (λ (f : Received). map.get f p ≡ Some x) (sym same_files) (grown p x at_first); others = others };
      part = λ stood fine part. with_verdict a.content (is stood fine) (part_of a.content (there stood fine) part);
    }

-- ---- in answers

-- what was read is there
pub bytes_there : (o : Option (Vec ℕ)) (file : Vec ℕ) (bytes : List ℕ) (u : Option (List ℕ)) → option_map (λ (x : Vec ℕ). x.items) o ≡ u → o ≡ Some file → bytes ≡ file.items → u ≡ Some bytes
bytes_there o file bytes u e f g = sym e ∙ ap (option_map (λ (x : Vec ℕ). x.items)) f ∙ ap Some (sym g)

-- or nothing was
pub nothing_there : (o : Option (Vec ℕ)) (u : Option (List ℕ)) → option_map (λ (x : Vec ℕ). x.items) o ≡ u → is_some o ≡ false → u ≡ None
nothing_there None u e none = sym e
nothing_there (Some x) u e none = absurd (true≢false none)

-- ---- one after another

pub copies_then : (c : ℕ) (a b d : Seen) (k m n : Content) → OnlyReads a b → OnlyReads b d → Copies c a b k m → Copies c b d m n → Copies c a d k n
copies_then c a b d k m n reads also first second = record {
  grows = record {
    files = λ p x is. second.grows.files p x (first.grows.files p x is);
    others = λ e other. second.grows.others e other ∙ first.grows.others e other;
  };
  part = λ stood fine part.
      let mid = also.keeps.harm fine in
      let same = reads.keeps.content stood mid in
      subst (λ (x : Content). IsPart x n) same
      (second.part (reads.keeps.stands stood mid) fine (subst (λ (x : Content). IsPart x m) (sym same) (first.part stood mid part)));
}

pub copies_nothing : (c : ℕ) (a b : Seen) (k m : Content) → m ≡ k → Copies c a b k m
copies_nothing c a b k m same = record {
  grows = record { files = λ p x is. subst (λ (y : Content). map.get y.files p ≡ Some x) (sym same) is; others = λ d other. ap (λ (y : Content). y.board d) same };
  part = λ stood fine part. subst (IsPart a.content) (sym same) part;
}

pub has_end : (xs : List ℕ) (x v : ℕ) → Has (xs ++ x ∷ []) v → Has xs v ⊎ (v ≡ x)
has_end [] x v (inl same) = inr same
has_end [] x v (inr later) = absurd later
has_end (y ∷ xs) x v (inl same) = inl (inl same)
has_end (y ∷ xs) x v (inr later) = elim (has_end xs x v later) [ inl there ↦ inl (inr there) | inr same ↦ inr same ]

pub is_still : (old new : Received) (p : ℕ × ℕ) → HasAllOf new old → IsSome (map.get old p) → IsSome (map.get new p)
is_still old new p among there = by_file (map.get old p) refl there
  where
    by_file : (o : Option (List ℕ)) → map.get old p ≡ o → IsSome o → IsSome (map.get new p)
    by_file None is some = absurd (true≢false (sym some))
    by_file (Some x) is some = subst IsSome (sym (among p x is)) refl

-- one more of the volumes is there
pub more_there : (c : ℕ) (volumes : List ℕ) (i v : ℕ) (old new : Received) → i < length volumes → v ≡ get_or volumes i v → HasAllOf new old
    → AreThere c (take i volumes) old → IsSome (map.get new (c, v)) → AreThere c (take (i + 1) volumes) new
more_there c volumes i v old new below is among before now w has =
    elim (has_end (take i volumes) v w (subst (λ l. Has l w) (take_more volumes i v below ∙ ap (λ z. take i volumes ++ z ∷ []) (sym is)) has)) [
      | inl there ↦ is_still old new (c, w) among (before w there)
      | inr this ↦ subst (λ z. IsSome (map.get new (c, z))) (sym this) now
    ]

pub all_there : (c : ℕ) (volumes : List ℕ) (i : ℕ) (files : Received) → length volumes ≤ i → AreThere c (take i volumes) files → AreThere c volumes files
all_there c volumes i files past there = subst (λ l. AreThere c l files) (take_all i volumes past) there
