-- A number is released, or a BLPU adopted: what that makes of the working view.
use Rattle.std.proofs.Common.{◌≡◌, ◌∙◌, ◌||◌, ℕ, Bool, true, false, cond, sym, ap, refl, subst, is_some, true≢false}
use Rattle.std.specs.Prelude.{Option, Some, None}
use Rattle.std.specs.Cmp.{nat_cmp_total}
use Rattle.std.specs.FinMap as finite
use Rattle.std.specs.FinSet as set
use Rattle.std.specs.Ordering.{eq_by_cmp, nat_cmp}
use Rattle.gaz_records.proofs.KeyOrder.{keys_total}
use Rattle.gaz_records.specs.declared.item.Item.{Item}
use Rattle.gaz_records.specs.Blpus.{BlpuValue}
use Rattle.gaz_records.specs.declared.item.Item.TheVariants as item
use Rattle.gaz_records.specs.declared.key.Key.{Key}
use Rattle.gaz_records.specs.declared.key.Key.TheVariants as key
use Rattle.gaz_views.proofs.SameKeys.{same_key}
use Rattle.gaz_views.specs.View.{View, custody_at, was_used, with_adoption, with_release}
use Rattle.gaz_views.specs.declared.custody.Custody.{Custody}
use Rattle.gaz_views.specs.declared.custody.Custody.TheVariants.{Adopted, Released}
use Rattle.gaz_overlay.specs.Changes.{Changes, Passed, Touched, is_passed, is_passed_key, is_touched, noted, stood_in, with_adopted_blpu, with_released}
use Rattle.gaz_overlay.specs.Making.{IsSince}
use Rattle.gaz_overlay.specs.Over.{ArePassed, IsLast, IsTouch, KeyView, LieOver, key_view}
use Rattle.gaz_overlay.specs.declared.touch.Touch.{Touch}
use Rattle.gaz_overlay.proofs.Laid.{Passings, tie}
use Rattle.gaz_views.proofs.Lawful.{lawful_adopted, lawful_released}
use Rattle.gaz_overlay.proofs.Touching.{item_else, item_here, one_number, over_then, stood_so, tied_numbers}

-- ---- a number is passed on

noted_has : (p : Passed) (n : ℕ) (since : Option ℕ) (m : ℕ) → finite.contains_key (noted p n since) m ≡ (eq_by_cmp nat_cmp m n || finite.contains_key p m)
noted_has p n since m = by_first (finite.contains_key p n) refl
  where
    by_number : finite.contains_key p n ≡ true → (t : Bool) → eq_by_cmp nat_cmp m n ≡ t → finite.contains_key p m ≡ (t || finite.contains_key p m)
    by_number there true is = ap (finite.contains_key p) (one_number m n is) ∙ there
    by_number there false is = refl

    is_insert : (t : Bool) → is_some (cond t (Some since) (finite.get p m)) ≡ (t || finite.contains_key p m)
    is_insert true = refl
    is_insert false = refl

    by_first : (b : Bool) → finite.contains_key p n ≡ b → finite.contains_key (cond b p (finite.insert p n since)) m ≡ (eq_by_cmp nat_cmp m n || finite.contains_key p m)
    by_first true is = by_number is (eq_by_cmp nat_cmp m n) refl
    by_first false is = ap is_some (finite.get-insert nat_cmp_total p n since m) ∙ is_insert (eq_by_cmp nat_cmp m n)

-- keys of other numbers are passed on where they were
noted_key : (s : View) (ts : Touched) (c : Changes) (n : ℕ) (since : Option ℕ) (q : Key) → is_passed_key (record { view = s; touched = ts; passed = noted c.passed n since }) q ≡ (tie q (key.Blpu n) || is_passed_key c q)
noted_key s ts c n since (key.Street m) = refl
noted_key s ts c n since (key.Descriptor m l) = refl
noted_key s ts c n since (key.Blpu m) = noted_has c.passed n since m ∙ ap (λ t. t || is_passed c m) (sym (tied_numbers m n))
noted_key s ts c n since (key.Xref t) = refl
noted_key s ts c n since (key.Lpi t) = refl

module _ (v : View) (c : Changes) (over : LieOver v c) (n : ℕ) (since : Option ℕ) (x : Custody) (s : View) (ts : Touched) (so : IsSince v c n since)
    (custody : s.custody ≡ finite.insert c.view.custody n x) (used : (q : Key) → was_used s q ≡ (tie q (key.Blpu n) || was_used c.view q)) where
  abbrev passing : Changes
  passing = record { view = s; touched = ts; passed = noted c.passed n since }

  -- one number more is passed on
  now_passed : ArePassed v passing
  now_passed = record { told = told_now; since = since_now; used = used_now }
    where
      told_now : (m : ℕ) → is_some (custody_at s m) ≡ is_passed passing m
      told_now m =
          ap (λ (p : Passings). is_some (finite.get p m)) custody ∙ ap is_some (finite.get-insert nat_cmp_total c.view.custody n x m)
          ∙ by_number (eq_by_cmp nat_cmp m n) ∙ sym (noted_has c.passed n since m)
        where
          by_number : (t : Bool) → is_some (cond t (Some x) (finite.get c.view.custody m)) ≡ (t || finite.contains_key c.passed m)
          by_number true = refl
          by_number false = over.passed.told m

      since_now : (m : ℕ) (o : Option ℕ) → finite.get (noted c.passed n since) m ≡ Some o → is_some o ≡ is_some (custody_at v m)
      since_now m o is = by_first (finite.contains_key c.passed n) refl is
        where
          by_number : is_passed c n ≡ false → (t : Bool) → eq_by_cmp nat_cmp m n ≡ t → cond t (Some since) (finite.get c.passed m) ≡ Some o → is_some o ≡ is_some (custody_at v m)
          by_number first true tied e = let same : since ≡ o = cc in ap is_some (sym same) ∙ so first ∙ ap (λ k. is_some (custody_at v k)) (sym (one_number m n tied))
          by_number first false tied e = over.passed.since m o e

          by_first : (b : Bool) → finite.contains_key c.passed n ≡ b → finite.get (cond b c.passed (finite.insert c.passed n since)) m ≡ Some o → is_some o ≡ is_some (custody_at v m)
          by_first true first e = over.passed.since m o e
          by_first false first e = by_number first (eq_by_cmp nat_cmp m n) refl (sym (finite.get-insert nat_cmp_total c.passed n since m) ∙ e)

      used_now : (m : ℕ) → is_passed passing m ≡ true → was_used s (key.Blpu m) ≡ true
      used_now m is = used (key.Blpu m) ∙ ap (λ t. t || was_used c.view (key.Blpu m)) (tied_numbers m n) ∙ by_number (eq_by_cmp nat_cmp m n) (sym (noted_has c.passed n since m) ∙ is)
        where
          by_number : (t : Bool) → (t || finite.contains_key c.passed m) ≡ true → (t || was_used c.view (key.Blpu m)) ≡ true
          by_number true e = refl
          by_number false e = over.passed.used m e

-- ---- a number is released

module _ (v : View) (c : Changes) (over : LieOver v c) (n to hop : ℕ) (since : Option ℕ) (touched : is_touched c (key.Blpu n) ≡ true) (so : IsSince v c n since) where
  abbrev gone : View
  gone = with_release c.view n to hop

  gone_used : (q : Key) → was_used gone q ≡ (tie q (key.Blpu n) || was_used c.view q)
  gone_used q = set.contains-insert keys_total c.view.used (key.Blpu n) q

  gone_at : (q : Key) (b : Bool) → tie q (key.Blpu n) ≡ b → key_view gone q ≡ record { item = cond b None (finite.get c.view.items q); used = b || was_used c.view q }
  gone_at q b is =
      let gets = finite.get-remove keys_total c.view.items (key.Blpu n) q ∙ ap (λ t. cond t None (finite.get c.view.items q)) is in
      let uses = gone_used q ∙ ap (λ t. t || was_used c.view q) is in
      λ j. record { item = gets j; used = uses j }

  abbrev after : Changes
  after = with_released c n to hop since

  released_last : (o : Option Item) (k : Key) (before was : KeyView) (p : Bool) → IsLast o k p before was → IsLast o k true before (record { item = None; used = true })
  released_last None k before was p h = (λ used. or_true before.used, λ some. absurd (true≢false (sym some)))
    where
      or_true : (b : Bool) → (b || true) ≡ true
      or_true true = refl
      or_true false = refl
  released_last (Some i) k before was p h = (refl, λ some. absurd (true≢false (sym some)), h.2, h.3)

  pub released_over : LieOver v after
  released_over = record {
    lawful = lawful_released c.view n to hop over.lawful;
    touched = λ q is. by_use q (tie q (key.Blpu n)) refl (sym (gone_used q) ∙ is);
    each = each;
    passed = now_passed v c over n since (Released to hop) gone c.touched so refl gone_used;
  }
    where
      by_use : (q : Key) (t : Bool) → tie q (key.Blpu n) ≡ t → (t || was_used c.view q) ≡ true → is_touched c q ≡ true
      by_use q true is e = ap (is_touched c) (same_key q (key.Blpu n) is) ∙ touched
      by_use q false is e = over.touched q e

      each : (q : Key) (t : Touch) → finite.get c.touched q ≡ Some t → IsTouch q t (is_passed_key after q) (key_view v q) (key_view gone q)
      each q t there = by_tie (tie q (key.Blpu n)) refl
        where
          was : IsTouch q t (is_passed_key c q) (key_view v q) (key_view c.view q)
          was = over.each q t there

          by_tie : (b : Bool) → tie q (key.Blpu n) ≡ b → IsTouch q t (is_passed_key after q) (key_view v q) (key_view gone q)
          by_tie true is =
              let now : IsTouch q t true (key_view v q) (record { item = None; used = true }) =
              record { stood = was.stood; copied = λ b s. refl; last = released_last t.last q (key_view v q) (key_view c.view q) (is_passed_key c q) was.last } in
              subst (λ (a : Bool × KeyView). IsTouch q t a.0 (key_view v q) a.1)
              (λ i. (sym (noted_key gone c.touched c n since q ∙ ap (λ b. b || is_passed_key c q) is) i, sym (gone_at q true is) i)) now
          by_tie false is =
              subst (λ (a : Bool × KeyView). IsTouch q t a.0 (key_view v q) a.1)
              (λ i. (sym (noted_key gone c.touched c n since q ∙ ap (λ b. b || is_passed_key c q) is) i, sym (gone_at q false is) i)) was

-- ---- a BLPU is adopted

pub adopted_over : (v : View) (c : Changes) → LieOver v c → (b : BlpuValue) (from hop : ℕ) (since : Option ℕ) → is_touched c (key.Blpu b.uprn) ≡ true → IsSince v c b.uprn since → LieOver v (with_adopted_blpu c b from hop since)
adopted_over v c over b from hop since touched so =
    over_then v c over k x s p (lawful_adopted c.view b from hop over.lawful) (item_else c.view (item.Blpu b))
    (λ q other. noted_key s (finite.insert c.touched k x) c b.uprn since q ∙ ap (λ t. t || is_passed_key c q) other)
    (subst (λ (a : KeyView). IsTouch k x (is_passed_key passed_now k) (key_view v k) a) (sym (item_here c.view (item.Blpu b))) here)
    (now_passed v c over b.uprn since (Adopted from hop) s (finite.insert c.touched k x) so refl (λ q. set.contains-insert keys_total c.view.used k q))
  where
    k : Key
    k = key.Blpu b.uprn

    x : Touch
    x = record { stood = stood_in c.touched (key.Blpu b.uprn); last = Some (item.Blpu b) }

    s : View
    s = with_adoption c.view b from hop

    p : Passed
    p = noted c.passed b.uprn since

    passed_now : Changes
    passed_now = with_adopted_blpu c b from hop since

    here : IsTouch (key.Blpu b.uprn) (record { stood = stood_in c.touched (key.Blpu b.uprn); last = Some (item.Blpu b) }) (is_passed_key (with_adopted_blpu c b from hop since) (key.Blpu b.uprn)) (key_view v (key.Blpu b.uprn)) (record { item = Some (item.Blpu b); used = true })
    here = record { stood = stood_so v c over (key.Blpu b.uprn) touched; copied = λ a s. refl; last = (refl, λ there. refl, refl, refl) }
