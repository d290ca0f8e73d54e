-- What a judgement makes beside the tables where it passes numbers on, and what it answers of them.
use Rattle.std.proofs.Common.{◌≡◌, ◌∙◌, ℕ, Bool, true, false, cond, refl, sym, ap, subst, true≢false}
use Rattle.std.specs.Prelude.{Option, Some, None, IsSome, is_some}
use Rattle.std.specs.Cmp.{nat_cmp_total}
use Rattle.std.specs.FinMap as map
use Rattle.std.specs.FinMap.{nat_cmp-IsAntisymmetric}
use Rattle.std.specs.Option.{option_or}
use Rattle.std.specs.Ordering.{eq_by_cmp, is_eq, nat_cmp}
use Rattle.std.specs.declared.cmp.Ordering.{Ordering}
use Rattle.std.specs.declared.cmp.Ordering.TheVariants.{Less, Equal, Greater}
use Rattle.sqlite.specs.Effect.{Database}
use Rattle.gaz_records.specs.Keys.{key_of}
use Rattle.gaz_records.specs.declared.item.Item.{Item}
use Rattle.gaz_records.specs.declared.item.Item.TheVariants as item
use Rattle.gaz_records.specs.declared.key.Key.TheVariants as key
use Rattle.gaz_views.specs.Lawful.{IsLawfulView}
use Rattle.gaz_views.specs.Numbered as numbered
use Rattle.gaz_views.specs.Numbered.{as_blpu}
use Rattle.gaz_views.specs.View.{View, custody_at, with_release}
use Rattle.gaz_views.specs.declared.custody.Custody.{Custody}
use Rattle.gaz_overlay.specs.Changes.{Passed, is_passed, is_touched, noted, with_adopted, with_released}
use Rattle.gaz_overlay.specs.Laws.{custody_laid_at}
use Rattle.gaz_views.proofs.Lawful.{lawful_adopted}
use Rattle.gaz_overlay.proofs.Making.{changes_make}
use Rattle.gaz_overlay.proofs.PassedTree.{noted_already, noted_first}
use Rattle.gaz_tables.specs.Schema.{version2}
use Rattle.gaz_tables.specs.Tables.{rows_of}
use Rattle.gaz_row_items.specs.NewestPassages.{HasPassage, born_of, custody_of}
use Rattle.gaz_row_items.specs.Versions.{histories_in}
use Rattle.gaz_row_items.specs.declared.passages.Passed.{Passed as Newest}
use Rattle.gaz_kept.specs.LastViews.{last_in}
use Rattle.gaz_calls.specs.Passing.{TellsPassed, passages_of}
use Rattle.gaz_store.specs.Beside.{IsToldSince, Makes, Turns, with_changes}
use Rattle.gaz_store.specs.declared.judgement.Judgement.{Judgement}
use Rattle.gaz_store.proofs.Turning.{told_put}

-- ---- what is told before a number is passed on

-- nothing, where it was passed on already
pub told_before : (db : Database) (j : Judgement) (uprn : ℕ) (since : Option ℕ) → is_passed j.changes uprn ≡ true → IsToldSince db j uprn since
told_before db j uprn since was = record {
  is_since = λ fresh. absurd (true≢false (sym was ∙ fresh));
  current = λ fresh. absurd (true≢false (sym was ∙ fresh));
}

-- else the birth of its newest passage
pub told_now : (db : Database) (j : Judgement) (uprn : ℕ) (passed : Option Newest) → TellsPassed db j.code uprn passed → (since : Option ℕ) → since ≡ born_of passed → IsToldSince db j uprn since
told_now db j uprn passed tells since is = record {
  is_since = λ fresh. ap is_some is ∙ both passed ∙ ap is_some tells.custody;
  current = λ fresh volume at. tells.current volume (sym is ∙ at);
}
  where
    both : (passed : Option Newest) → is_some (born_of passed) ≡ is_some (custody_of passed)
    both None = refl
    both (Some p) = refl

-- ---- what is noted

same_number : (m n : ℕ) → eq_by_cmp nat_cmp m n ≡ true → m ≡ n
same_number m n is = nat_cmp-IsAntisymmetric m n (equal (nat_cmp m n) is)
  where
    equal : (o : Ordering) → is_eq o ≡ true → o ≡ Equal
    equal Less e = cc
    equal Equal e = refl
    equal Greater e = cc

module _ (db : Database) (j : Judgement) (uprn : ℕ) (since : Option ℕ) (told : IsToldSince db j uprn since) where
  abbrev ArePassed : Passed → Type 0
  ArePassed passed = (n volume : ℕ) → map.get passed n ≡ Some (Some volume) → HasPassage (passages_of db j.code) n volume

  told_noted : ArePassed j.changes.passed → ArePassed (noted j.changes.passed uprn since)
  told_noted was = by_first (is_passed j.changes uprn) refl
    where
      m : Passed
      m = j.changes.passed

      by_first : (b : Bool) → is_passed j.changes uprn ≡ b → ArePassed (noted m uprn since)
      by_first true passed = subst ArePassed (sym (noted_already m uprn since passed)) was
      by_first false fresh = subst ArePassed (sym (noted_first m uprn since fresh)) (λ n volume is. by_tie n volume (eq_by_cmp nat_cmp n uprn) refl (sym (map.get-insert nat_cmp_total m uprn since n) ∙ is))
        where
          by_tie : (n volume : ℕ) (b : Bool) → eq_by_cmp nat_cmp n uprn ≡ b → cond b (Some since) (map.get m n) ≡ Some (Some volume) → HasPassage (passages_of db j.code) n volume
          by_tie n volume true tie is =
              let born : since ≡ Some volume = cc in
              subst (λ (k : ℕ). HasPassage (passages_of db j.code) k volume) (sym (same_number n uprn tie)) (told.current fresh volume born)
          by_tie n volume false tie is = was n volume is

  abbrev last : View
  last = last_in db j.code

  pub released_turns : (to hop : ℕ) → is_touched j.changes (key.Blpu uprn) ≡ true
      → Turns db j (with_changes j (with_released j.changes uprn to hop since)) (λ w. with_release w uprn to hop)
  released_turns to hop touched w makes = record {
    made = changes_make.released last j.changes w makes.made uprn to hop since touched told.is_since;
    told = record { told = makes.told.told };
    passed = told_noted makes.passed;
    known = makes.known;
  }

-- an item, which is a BLPU of this number
pub adopted_turns : (db : Database) (j : Judgement) (i : Item) (from hop uprn : ℕ) (since : Option ℕ) → IsSome (as_blpu i) → key_of i ≡ key.Blpu uprn → is_touched j.changes (key_of i) ≡ true → IsToldSince db j uprn since
    → Turns db j (with_changes j (with_adopted j.changes i from hop since)) (λ w. numbered.with_adopted w i from hop)
adopted_turns db j (item.Blpu b) from hop uprn since blpu own touched told w makes =
    let number : uprn ≡ b.uprn = cc in
    let its : IsToldSince db j b.uprn since = subst (λ (n : ℕ). IsToldSince db j n since) number told in
    record {
      made = changes_make.adopted (last_in db j.code) j.changes w makes.made b from hop since touched its.is_since;
      told = record { told = (told_put (histories_in (rows_of db version2) j.code) j.changes (item.Blpu b) makes.told).told };
      passed = told_noted db j b.uprn since its makes.passed;
      known = makes.known;
    }
adopted_turns db j (item.Street x) from hop uprn since blpu own touched told w makes = absurd (true≢false (sym blpu))
adopted_turns db j (item.Descriptor x) from hop uprn since blpu own touched told w makes = absurd (true≢false (sym blpu))
adopted_turns db j (item.Xref x) from hop uprn since blpu own touched told w makes = absurd (true≢false (sym blpu))
adopted_turns db j (item.Lpi x) from hop uprn since blpu own touched told w makes = absurd (true≢false (sym blpu))
adopted_turns db j (item.Release x) from hop uprn since blpu own touched told w makes = absurd (true≢false (sym blpu))
adopted_turns db j (item.Adopt x) from hop uprn since blpu own touched told w makes = absurd (true≢false (sym blpu))

pub adopted_lawful : (w : View) (i : Item) (from hop : ℕ) → IsLawfulView w → IsLawfulView (numbered.with_adopted w i from hop)
adopted_lawful w (item.Blpu b) from hop lawful = lawful_adopted w b from hop lawful
adopted_lawful w (item.Street x) from hop lawful = lawful
adopted_lawful w (item.Descriptor x) from hop lawful = lawful
adopted_lawful w (item.Xref x) from hop lawful = lawful
adopted_lawful w (item.Lpi x) from hop lawful = lawful
adopted_lawful w (item.Release x) from hop lawful = lawful
adopted_lawful w (item.Adopt x) from hop lawful = lawful

-- ---- what it answers

module _ (db : Database) (j : Judgement) (w : View) (makes : Makes db j w) (uprn : ℕ) where
  laid_is : custody_at w uprn ≡ custody_laid_at (last_in db j.code) j.changes.view uprn
  laid_is = changes_make.custody (last_in db j.code) j.changes w makes.made uprn

  pub custody_beside : (x : Custody) → custody_at j.changes.view uprn ≡ Some x → Some x ≡ custody_at w uprn
  custody_beside x is = sym (laid_is ∙ ap (λ o. option_or o (custody_at (last_in db j.code) uprn)) is)

  pub custody_elsewhere : custody_at j.changes.view uprn ≡ None → custody_at (last_in db j.code) uprn ≡ custody_at w uprn
  custody_elsewhere is = sym (laid_is ∙ ap (λ o. option_or o (custody_at (last_in db j.code) uprn)) is)
