-- The numbers that were passed on, written in turn, make of a custodian's passages what the changes say.
use Rattle.std.proofs.Common.{◌≡◌, ◌≢◌, ◌∙◌, ◌≤◌, ◌<◌, ◌+◌, ◌⊎◌, ◌||◌, inl, inr, ℕ, Bool, true, false, List, [], ◌∷◌, refl, sym, ap, subst, arith, true≢false}
use Rattle.std.proofs.lemmas.Bool.{cases_eq}
use Rattle.std.specs.Prelude.{Option, Some, None, is_some, option_map}
use Rattle.std.specs.FinMap as finite
use Rattle.std.specs.FinSet as set
use Rattle.std.specs.Option.{option_flatten, option_or}
use Rattle.sqlite.specs.declared.types.Value.TheVariants.{Int}
use Rattle.sqlite.specs.Edit.{next_rowid}
use Rattle.sqlite.specs.Order.{Row}
use Rattle.sqlite_rules.specs.Lists.{Has}
use Rattle.gaz_records.proofs.KeyOrder.{keys_exact, keys_total}
use Rattle.gaz_records.specs.declared.key.Key.{Key}
use Rattle.gaz_records.specs.declared.key.Key.TheVariants as key
use Rattle.gaz_views.specs.View.{custody_at}
use Rattle.gaz_views.specs.declared.custody.Custody.{Custody}
use Rattle.gaz_cells.specs.Custody.{custody_kind}
use Rattle.gaz_cells.specs.Ids.{id_of}
use Rattle.gaz_overlay.proofs.Laid.{custody_over, same_custody}
use Rattle.gaz_overlay.specs.Changes.{Changes, is_passed, is_passed_key}
use Rattle.gaz_overlay.specs.Laid.{laid_custody}
use Rattle.gaz_overlay.specs.Passages.{PassageRow, PassOn, custody_after, has_passed, passed_keys}
use Rattle.gaz_overlay.specs.Rows.{never}
use Rattle.gaz_overlay.specs.Writings.{passage_at}
use Rattle.gaz_tables.specs.Versions.{Closes}
use Rattle.gaz_row_items.specs.NewestPassages.{HasPassage}
use Rattle.gaz_row_items.specs.Versions.{passages_in, passing}
use Rattle.gaz_row_items.proofs.PassagesAt.{Rows}
use Rattle.gaz_kept.specs.Histories.{AreSame, Gain}
use Rattle.gaz_kept.specs.Keeping.{AddsPassage, EndsRow, WritesNumber, WritesNumbers}
use Rattle.gaz_kept.specs.Kept.{ArePassages, AreVersions, IsPassedUntil}
use Rattle.gaz_kept.specs.Passages.{AddsPassing, EndsPassing, IsLastOf, IsLastPassage, PassagesSay, SameHistories}
use Rattle.gaz_kept.proofs.PassageRows.{find_last, no_key_passed, passages_next, rows_say}
use Rattle.gaz_kept.proofs.PassageStatements.{ends_passing, insert_passes}
use Rattle.gaz_kept.proofs.PassageWriting.{Alike, Ended, alike_then, are_now, comes_of, itself, new_passage, new_there, none_ends, one_ends, others_kept, others_only, still_there}
use Rattle.gaz_kept.proofs.Walking.{AreNew, onto, same_then}

-- a row that comes of a number
pub record IsNew (m : ℕ) (changes : Changes) (done : List ℕ) (r : PassageRow) : Type 0 where
  pub number : ℕ
  pub listed : Has done number
  pub custody : Custody
  pub said : custody_at changes.view number ≡ Some custody
  pub is : r ≡ new_passage m number custody

-- the rows once some numbers are written
pub record AreWritten (n : ℕ) (changes : Changes) (done : List ℕ) (old now : Rows) : Type 0 where
  pub only : (r : PassageRow) → Has now r → ((p : PassageRow) × Has old p × Alike r p) ⊎ IsNew (n + 1) changes done r
  pub kept : (p : PassageRow) → Has old p → (r : PassageRow) × Has now r × Alike r p
  pub there : (k : ℕ) (x : Custody) → Has done k → custody_at changes.view k ≡ Some x → Has now (new_passage (n + 1) k x)
  pub others : (r : PassageRow) → ¬ Has done r.uprn → Has now r → Has old r
  pub still : (r : PassageRow) → ¬ Has done r.uprn → Has old r → Has now r
  pub are : ArePassages (n + 1) now

pub none_written : (n : ℕ) (changes : Changes) (old : Rows) → ArePassages n old → AreWritten n changes [] old old
none_written n changes old are = record {
  only = λ r there. inl (r, there, itself r);
  kept = λ p there. (p, there, itself p);
  there = λ k x none said. absurd none;
  others = λ r none there. there;
  still = λ r none there. there;
  are = passages_next n old are;
}

more_new : (m : ℕ) (changes : Changes) (k : ℕ) (done : List ℕ) (r : PassageRow) → IsNew m changes done r → IsNew m changes (k ∷ done) r
more_new m changes k done r new = record { number = new.number; listed = inr new.listed; custody = new.custody; said = new.said; is = new.is }

-- nothing is written of a number
nothing_more : (n : ℕ) (changes : Changes) (k : ℕ) (done : List ℕ) (old now : Rows) → custody_at changes.view k ≡ None → AreWritten n changes done old now → AreWritten n changes (k ∷ done) old now
nothing_more n changes k done old now none w = record {
  only = λ r there. elim (w.only r there) [ inl was ↦ inl was | inr new ↦ inr (more_new (n + 1) changes k done r new) ];
  kept = w.kept;
  there = λ q x listed said. by_place q x listed said;
  others = λ r other. w.others r (λ listed. other (inr listed));
  still = λ r other. w.still r (λ listed. other (inr listed));
  are = w.are;
}
  where
    by_place : (q : ℕ) (x : Custody) → (q ≡ k) ⊎ Has done q → custody_at changes.view q ≡ Some x → Has now (new_passage (n + 1) q x)
    by_place q x (inl same) said = let clash : None ≡ Some x = sym none ∙ ap (custody_at changes.view) (sym same) ∙ said in absurd (cc)
    by_place q x (inr listed) said = w.there q x listed said

module _ (n : ℕ) (changes : Changes) (k : ℕ) (x : Custody) (done : List ℕ) (old now mid new : Rows) (room : n + 1 < never) (fresh : ¬ Has done k) (said : custody_at changes.view k ≡ Some x)
    (was : ArePassages n old) (w : AreWritten n changes done old now) where
  -- of a number that isn't written yet the rows are those that were there
  was_there : (r : PassageRow) → Has now r → r.uprn ≡ k → Has old r
  was_there r here number = w.others r (λ listed. fresh (subst (Has done) number listed)) here

  pub until_then : (r : PassageRow) → Has now r → r.uprn ≡ k → IsPassedUntil n r
  until_then r here number = was.until r (was_there r here number)

  -- one number more is written
  pub one_written : Ended n k now mid → Gain (new_passage (n + 1) k x) mid new → AreWritten n changes (k ∷ done) old new
  one_written ended gain = record {
    only = λ r here. by_origin r here (cases_eq r.uprn k);
    kept = λ p there. by_kept p (w.kept p there);
    there = λ q y listed says. by_place q y listed says;
    others = λ r other here. w.others r (λ listed. other (inr listed)) (others_only n k x now mid new room w.are until_then ended gain r (λ same. other (inl same)) here);
    still = λ r other there. others_kept n k x now mid new room w.are until_then ended gain r (λ same. other (inl same)) (w.still r (λ listed. other (inr listed)) there);
    are = are_now n k x now mid new room w.are until_then ended gain;
  }
    where
      by_origin : (r : PassageRow) → Has new r → (r.uprn ≡ k) ⊎ ((r.uprn ≡ k) → ⊥) → ((p : PassageRow) × Has old p × Alike r p) ⊎ IsNew (n + 1) changes (k ∷ done) r
      by_origin r here (inr other) = elim (w.only r (others_only n k x now mid new room w.are until_then ended gain r other here)) [ inl was ↦ inl was | inr one ↦ inr (more_new (n + 1) changes k done r one) ]
      by_origin r here (inl number) = by_row (comes_of n k x now mid new room w.are until_then ended gain r here)
        where
          by_row : (r ≡ new_passage (n + 1) k x) ⊎ ((p : PassageRow) × Has now p × Alike r p) → ((p : PassageRow) × Has old p × Alike r p) ⊎ IsNew (n + 1) changes (k ∷ done) r
          by_row (inl is) = inr (record { number = k; listed = inl refl; custody = x; said = said; is = is })
          by_row (inr p) = inl (p.0, was_there p.0 p.1 (sym p.2.number ∙ number), p.2)

      by_kept : (p : PassageRow) → (r : PassageRow) × Has now r × Alike r p → (s : PassageRow) × Has new s × Alike s p
      by_kept p r = let s = still_there n k x now mid new room w.are until_then ended gain r.0 r.1 in (s.0, s.1, alike_then s.0 r.0 p s.2 r.2)

      by_place : (q : ℕ) (y : Custody) → (q ≡ k) ⊎ Has done q → custody_at changes.view q ≡ Some y → Has new (new_passage (n + 1) q y)
      by_place q y (inl same) says =
          let e : Some x ≡ Some y = sym said ∙ ap (custody_at changes.view) (sym same) ∙ says in
          let one : x ≡ y = cc in
          subst (λ (p : ℕ × Custody). Has new (new_passage (n + 1) p.0 p.1)) (λ i. (sym same i, one i)) (new_there n k x now mid new room w.are until_then ended gain)
      by_place q y (inr listed) says =
          others_kept n k x now mid new room w.are until_then ended gain (new_passage (n + 1) q y) (λ same. fresh (subst (Has done) same listed)) (w.there q y listed says)

-- ---- the tables' rows

pub record IsOnTheWay (c n : ℕ) (changes : Changes) (done : List ℕ) (old now : List Row) : Type 0 where
  pub written : AreWritten n changes done (passages_in old c) (passages_in now c)
  pub others : (d : ℕ) → d ≢ c → AreSame (passages_in old d) (passages_in now d)
  pub histories : SameHistories old now
  pub rows : AreVersions now

pub not_begun : (c n : ℕ) (changes : Changes) (old : List Row) → AreVersions old → ArePassages n (passages_in old c) → IsOnTheWay c n changes [] old old
not_begun c n changes old all are = record {
  written = none_written n changes (passages_in old c) are;
  others = λ d other. record { only = λ r there. there; kept = λ r there. there };
  histories = λ d. record { only = λ r there. there; kept = λ r there. there };
  rows = all;
}

-- what was told of the numbers is so
pub record AreKnown (n : ℕ) (changes : Changes) (old : Rows) : Type 0 where
  pub are : ArePassages n old
  pub told : (k volume : ℕ) → finite.get changes.passed k ≡ Some (Some volume) → HasPassage old k volume
  pub none : (k : ℕ) → finite.get changes.passed k ≡ Some None → (r : PassageRow) → Has old r → r.uprn ≢ k

-- the rows once a number's current passage is gone
record HasEnded (c n k : ℕ) (now mid : List Row) : Type 0 where
  ended : Ended n k (passages_in now c) (passages_in mid c)
  others : (d : ℕ) → d ≢ c → AreSame (passages_in now d) (passages_in mid d)
  histories : SameHistories now mid
  rows : AreVersions mid

module _ (c n : ℕ) (room : n + 1 < never) (changes : Changes) (old : List Row) (known : AreKnown n changes (passages_in old c)) where
  module _ (k : ℕ) (done : List ℕ) (fresh : ¬ Has done k) (now : List Row) (u : IsOnTheWay c n changes done old now) where
    -- a row of the number is one that was there
    still_old : (r : PassageRow) → Has (passages_in now c) r → r.uprn ≡ k → Has (passages_in old c) r
    still_old r here number = u.written.others r (λ listed. fresh (subst (Has done) number listed)) here

    its_until : (r : PassageRow) → Has (passages_in now c) r → r.uprn ≡ k → IsPassedUntil n r
    its_until r here number = known.are.until r (still_old r here number)

    ends_it : (mid : List Row) (o : Option (Option ℕ)) → finite.get changes.passed k ≡ o → is_some o ≡ true → EndsRow c (n + 1) k (option_flatten o) now mid → HasEnded c n k now mid
    ends_it mid None is there ends = absurd (true≢false (sym there))
    ends_it mid (Some None) is there ends = subst (HasEnded c n k now) (sym ends) (record {
      ended = none_ends n k (passages_in now c) (λ r here number. known.none k is r (still_old r here number) number);
      others = λ d other. record { only = λ r here. here; kept = λ r here. here };
      histories = λ d. record { only = λ r here. here; kept = λ r here. here };
      rows = u.rows;
    })
    ends_it mid (Some (Some b)) is there ends = record {
      ended = one_ends n k (passages_in now c) (passages_in mid c) h.row room u.written.are its_until here h.of_number h.is_current e.ends;
      others = e.others;
      histories = e.histories;
      rows = e.rows;
    }
      where
        h : HasPassage (passages_in old c) k b
        h = known.told k b is

        here : Has (passages_in now c) h.row
        here = u.written.still h.row (λ listed. fresh (subst (Has done) h.of_number listed)) h.there

        its_closes : Closes c custody_kind (id_of (key.Blpu h.row.uprn)) h.row.born (n + 1) now mid
        its_closes = subst (λ (p : ℕ × ℕ). Closes c custody_kind (id_of (key.Blpu p.0)) p.1 (n + 1) now mid) (λ i. (sym h.of_number i, sym h.of_birth i)) ends

        e : EndsPassing c (n + 1) h.row now mid
        e =
            let le : h.row.born ≤ n + 1 = let b = (known.are.until h.row h.there).born in omega arith in
            ends_passing c (n + 1) h.row now mid le u.rows u.written.are.once here its_closes

    -- and another is born
    passes_it : (x : Custody) (mid new : List Row) → custody_at changes.view k ≡ Some x → HasEnded c n k now mid → AddsPassage c (n + 1) k x mid new → IsOnTheWay c n changes (k ∷ done) old new
    passes_it x mid new said e adds = record {
      written = one_written n changes k x done (passages_in old c) (passages_in now c) (passages_in mid c) (passages_in new c) room fresh said known.are u.written e.ended a.gain;
      others = λ d other. same_then _ _ _ (u.others d other) (same_then _ _ _ (e.others d other) (a.others d other));
      histories = λ d. same_then _ _ _ (u.histories d) (same_then _ _ _ (e.histories d) (a.histories d));
      rows = a.rows;
    }
      where
        a : AddsPassing c (passing (n + 1) never (k, x)) mid new
        a =
            let first : 1 ≤ n + 1 = omega arith in
            let in_turn : n + 1 ≤ never = omega arith in
            insert_passes (Int (next_rowid mid)) c (n + 1) never k x mid new adds.custodian adds.number adds.such first in_turn e.rows adds.row

    write_number : (new : List Row) → is_passed changes k ≡ true → WritesNumber c (n + 1) k (passage_at changes k) now new → IsOnTheWay c n changes (k ∷ done) old new
    write_number new there w = by_custody (custody_at changes.view k) refl w
      where
        by_custody : (o : Option Custody) → custody_at changes.view k ≡ o → WritesNumber c (n + 1) k (option_map (λ x. record { closes = option_flatten (finite.get changes.passed k); custody = x }) o) now new → IsOnTheWay c n changes (k ∷ done) old new
        by_custody None is same = subst (IsOnTheWay c n changes (k ∷ done) old) (sym same) (record {
          written = nothing_more n changes k done (passages_in old c) (passages_in now c) is u.written;
          others = u.others;
          histories = u.histories;
          rows = u.rows;
        })
        by_custody (Some x) is w = passes_it x w.between new is (ends_it w.between (finite.get changes.passed k) refl there w.ends) w.adds

  pub write_numbers : (numbers done : List ℕ) (now new : List Row) → AreNew done numbers → ((k : ℕ) → Has numbers k → is_passed changes k ≡ true) → IsOnTheWay c n changes done old now
      → WritesNumbers c (n + 1) changes numbers now new → IsOnTheWay c n changes (onto numbers done) old new
  write_numbers [] done now new apart passed u same = subst (IsOnTheWay c n changes done old) (sym same) u
  write_numbers (k ∷ numbers) done now new apart passed u w =
      write_numbers numbers (k ∷ done) w.0 new apart.1 (λ q there. passed q (inr there)) (write_number k done apart.0 now u w.0 (passed k (inl refl)) w.1) w.2

-- ---- once all are written

or_none : (b : Bool) → b ≡ (b || false)
or_none true = refl
or_none false = refl

or_all : (b : Bool) → true ≡ (b || true)
or_all true = refl
or_all false = refl

module _ (n : ℕ) (room : n + 1 < never) (changes : Changes) (all : List ℕ) (old new : Rows) (was : ArePassages n old)
    (told : (k : ℕ) → is_some (custody_at changes.view k) ≡ is_passed changes k) (listed : (k : ℕ) → is_passed changes k ≡ true → Has all k) (only : (k : ℕ) → Has all k → is_passed changes k ≡ true)
    (w : AreWritten n changes all old new) where
  not_listed : (k : ℕ) → is_passed changes k ≡ false → ¬ Has all k
  not_listed k none there = true≢false (sym (only k there) ∙ none)

  of_other : (k : ℕ) → is_passed changes k ≡ false → (r : PassageRow) → r.uprn ≡ k → ¬ Has all r.uprn
  of_other k none r number there = not_listed k none (subst (Has all) number there)

  -- the last row of a number that was passed on is the new one
  last_new : (k : ℕ) (x : Custody) → custody_at changes.view k ≡ Some x → IsLastPassage (n + 1) new k (new_passage (n + 1) k x)
  last_new k x said = record {
    there = w.there k x (listed k (sym (told k) ∙ ap is_some said)) said;
    of_number = refl;
    born = omega arith;
    last = λ r there number early. early;
  }

  -- of another number it is the one that was
  last_still : (k : ℕ) → is_passed changes k ≡ false → (o : Option PassageRow) → IsLastOf n old k o → IsLastOf (n + 1) new k o
  last_still k none None nothing = λ r there number early. let here = w.others r (of_other k none r number) there in nothing r here number (was.until r here).born
  last_still k none (Some p) last = record {
    there = w.still p (of_other k none p last.of_number) last.there;
    of_number = last.of_number;
    born = (let b = last.born in omega arith);
    last = λ r there number early. let here = w.others r (of_other k none r number) there in last.last r here number (was.until r here).born;
  }

  now_new : (k : ℕ) (x : Custody) → custody_at changes.view k ≡ Some x → PassagesSay (n + 1) new k (Some (new_passage (n + 1) k x))
  now_new k x said = rows_say (n + 1) (n + 1) k new (Some (new_passage (n + 1) k x)) room w.are (last_new k x said)

  before : (t k : ℕ) (o : Option PassageRow) → t ≤ n → IsLastOf t old k o → PassagesSay t old k o
  before t k o le last = rows_say n t k old o (omega arith) was last

  now_still : (k : ℕ) → is_passed changes k ≡ false → (o : Option PassageRow) → IsLastOf n old k o → PassagesSay (n + 1) new k o
  now_still k none o last = rows_say (n + 1) (n + 1) k new o room w.are (last_still k none o last)

  next_custody : custody_after new (n + 1) ≡ laid_custody (custody_after old n) changes.view.custody
  next_custody = same_custody _ _ (λ k. by_custody k (custody_at changes.view k) refl ∙ sym (custody_over (custody_after old n) changes.view.custody k))
    where
      by_custody : (k : ℕ) (o : Option Custody) → custody_at changes.view k ≡ o → finite.get (custody_after new (n + 1)) k ≡ option_or (finite.get changes.view.custody k) (finite.get (custody_after old n) k)
      by_custody k (Some x) said = (now_new k x said).custody ∙ ap (λ o. option_or o (finite.get (custody_after old n) k)) (sym said)
      by_custody k None said =
          let none : is_passed changes k ≡ false = sym (told k) ∙ ap is_some said in
          let f = find_last n k old in
          let le : n ≤ n = omega arith in
          (now_still k none f.row f.is).custody ∙ sym (before n k f.row le f.is).custody ∙ ap (λ o. option_or o (finite.get (custody_after old n) k)) (sym said)

  next_key : (k : ℕ) (o : Option Custody) → custody_at changes.view k ≡ o → has_passed new (n + 1) (key.Blpu k) ≡ (has_passed old n (key.Blpu k) || is_passed changes k)
  next_key k (Some x) said =
      (now_new k x said).used ∙ or_all (has_passed old n (key.Blpu k)) ∙ ap (λ b. has_passed old n (key.Blpu k) || b) (sym (sym (told k) ∙ ap is_some said))
  next_key k None said =
      let none : is_passed changes k ≡ false = sym (told k) ∙ ap is_some said in
      let f = find_last n k old in
      let le : n ≤ n = omega arith in
      (now_still k none f.row f.is).used ∙ sym (before n k f.row le f.is).used ∙ or_none (has_passed old n (key.Blpu k)) ∙ ap (λ b. has_passed old n (key.Blpu k) || b) (sym none)

  -- no key but a BLPU's is used by a passage
  never_used : (q : Key) → ((k : ℕ) → key.Blpu k ≢ q) → is_passed_key changes q ≡ false → has_passed new (n + 1) q ≡ (has_passed old n q || is_passed_key changes q)
  never_used q none passed =
      let one = no_key_passed new (n + 1) q none in
      let two = no_key_passed old n q none in
      one ∙ (λ i. sym two i || sym passed i)

  next_used : (q : Key) → has_passed new (n + 1) q ≡ (has_passed old n q || is_passed_key changes q)
  next_used (key.Blpu k) = next_key k (custody_at changes.view k) refl
  next_used (key.Street m) = never_used (key.Street m) (λ k same. cc) refl
  next_used (key.Descriptor m l) = never_used (key.Descriptor m l) (λ k same. cc) refl
  next_used (key.Xref s) = never_used (key.Xref s) (λ k same. cc) refl
  next_used (key.Lpi s) = never_used (key.Lpi s) (λ k same. cc) refl

  module _ (t : ℕ) (le : t ≤ n) where
    -- the rows that were born by then are those that were
    by_then : (r : PassageRow) → Has new r → r.born ≤ t → (p : PassageRow) × Has old p × Alike r p
    by_then r there early = by_origin (w.only r there)
      where
        by_origin : ((p : PassageRow) × Has old p × Alike r p) ⊎ IsNew (n + 1) changes all r → (p : PassageRow) × Has old p × Alike r p
        by_origin (inl p) = p
        by_origin (inr new_one) = let late = ap (λ (s : PassageRow). s.born) new_one.is in absurd (omega arith)

    record Same (k : ℕ) : Type 0 where
      custody : finite.get (custody_after new t) k ≡ finite.get (custody_after old t) k
      used : has_passed new t (key.Blpu k) ≡ has_passed old t (key.Blpu k)

    then_same : (k : ℕ) (o : Option PassageRow) → IsLastOf t old k o → Same k
    then_same k None none =
        let now = rows_say (n + 1) t k new None (omega arith) w.are (λ r there number early. let p = by_then r there early in none p.0 p.1 (sym p.2.number ∙ number) (let b = p.2.born in omega arith)) in
        let then = before t k None le none in
        record { custody = now.custody ∙ sym then.custody; used = now.used ∙ sym then.used }
    then_same k (Some p) last =
        let s = w.kept p last.there in
        let is_last : IsLastPassage t new k s.0 = record {
          there = s.1;
          of_number = s.2.number ∙ last.of_number;
          born = (let b = s.2.born in let e = last.born in omega arith);
          last = λ r there number early. (
              let q = by_then r there early in
              let e = last.last q.0 q.1 (sym q.2.number ∙ number) (let b = q.2.born in omega arith) in
              let a = q.2.born in
              let b = s.2.born in
              omega arith
              );
        } in
        let now = rows_say (n + 1) t k new (Some s.0) (omega arith) w.are is_last in
        let then = before t k (Some p) le last in
        record { custody = now.custody ∙ ap Some s.2.custody ∙ sym then.custody; used = now.used ∙ sym then.used }

    same_then_at : (k : ℕ) → Same k
    same_then_at k = let f = find_last t k old in then_same k f.row f.is

    past_custody : custody_after new t ≡ custody_after old t
    past_custody = same_custody _ _ (λ k. (same_then_at k).custody)

    other_key : (q : Key) → ((k : ℕ) → key.Blpu k ≢ q) → has_passed new t q ≡ has_passed old t q
    other_key q none = no_key_passed new t q none ∙ sym (no_key_passed old t q none)

    past_key : (q : Key) → has_passed new t q ≡ has_passed old t q
    past_key (key.Blpu k) = (same_then_at k).used
    past_key (key.Street m) = other_key (key.Street m) (λ k same. cc)
    past_key (key.Descriptor m l) = other_key (key.Descriptor m l) (λ k same. cc)
    past_key (key.Xref s) = other_key (key.Xref s) (λ k same. cc)
    past_key (key.Lpi s) = other_key (key.Lpi s) (λ k same. cc)

    past_keys : passed_keys new t ≡ passed_keys old t
    past_keys = set.same_set keys_total keys_exact (passed_keys new t) (passed_keys old t) past_key

  pub pass_on : PassOn changes n old new
  pass_on = record { next = next_custody; used = next_used; past = past_custody; past_used = past_keys }
