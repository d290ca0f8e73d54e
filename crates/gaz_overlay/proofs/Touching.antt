-- A key is touched, an item put or taken: what that makes of the working view.
use Rattle.std.proofs.Common.{◌≡◌, ◌∙◌, ◌||◌, ℕ, Bool, true, false, cond, sym, ap, refl, subst, is_some, true≢false}
use Rattle.std.specs.Prelude.{Option, Some, None}
use Rattle.std.specs.Cmp.{tied_itself}
use Rattle.std.specs.FinMap as finite
use Rattle.std.specs.FinMap.{nat_cmp-IsAntisymmetric}
use Rattle.std.specs.declared.cmp.Ordering.{Ordering}
use Rattle.std.specs.declared.cmp.Ordering.TheVariants.{Less, Equal, Greater}
use Rattle.std.specs.FinSet as set
use Rattle.std.specs.Option.{option_map_or}
use Rattle.std.specs.Ordering.{eq_by_cmp, is_eq, nat_cmp, ordering_then}
use Rattle.gaz_records.proofs.KeyOrder.{keys_total}
use Rattle.gaz_records.specs.Items.{is_entry}
use Rattle.gaz_records.specs.Keys.{key_of}
use Rattle.gaz_records.specs.declared.item.Item.{Item}
use Rattle.gaz_records.specs.declared.key.Key.{Key}
use Rattle.gaz_records.specs.declared.key.Key.TheVariants as key
use Rattle.gaz_views.proofs.Lawful.{lawful_put, lawful_taken}
use Rattle.gaz_views.proofs.SameKeys.{same_key}
use Rattle.gaz_views.specs.Lawful.{IsLawfulView}
use Rattle.gaz_views.specs.View.{View, was_used, with_item, without_key}
use Rattle.gaz_overlay.specs.Changes.{Changes, Passed, is_passed_key, is_touched, stood_in, with_put, with_taken, with_touched}
use Rattle.gaz_overlay.specs.Laid.{laid, with_some}
use Rattle.gaz_overlay.specs.Over.{ArePassed, IsLast, IsStood, IsTouch, KeyView, LieOver, key_view}
use Rattle.gaz_overlay.specs.declared.touch.Stood.{Stood}
use Rattle.gaz_overlay.specs.declared.touch.Stood.TheVariants.{NoRow, Past, Since}
use Rattle.gaz_overlay.specs.declared.touch.Touch.{Touch}
use Rattle.gaz_overlay.proofs.Laid.{Passings, key_copied, tie}

-- ---- what changes of a view at keys

pub item_else : (s : View) (i : Item) (q : Key) → tie q (key_of i) ≡ false → key_view (with_item s i) q ≡ key_view s q
item_else s i q is =
    let gets = finite.get-insert keys_total s.items (key_of i) i q ∙ ap (λ b. cond b (Some i) (finite.get s.items q)) is in
    let uses = set.contains-insert keys_total s.used (key_of i) q ∙ ap (λ b. b || was_used s q) is in
    λ j. record { item = gets j; used = uses j }

itself : (k : Key) → tie k k ≡ true
itself k = ap is_eq (tied_itself keys_total k)

pub item_here : (s : View) (i : Item) → key_view (with_item s i) (key_of i) ≡ record { item = Some i; used = true }
item_here s i =
    let k = key_of i in
    let gets = finite.get-insert keys_total s.items k i k ∙ ap (λ b. cond b (Some i) (finite.get s.items k)) (itself k) in
    let uses = set.contains-insert keys_total s.used k k ∙ ap (λ b. b || was_used s k) (itself k) in
    λ j. record { item = gets j; used = uses j }

taken_at : (s : View) (k q : Key) (b : Bool) → tie q k ≡ b → key_view (without_key s k) q ≡ record { item = cond b None (finite.get s.items q); used = was_used s q }
taken_at s k q b is =
    let gets = finite.get-remove keys_total s.items k q ∙ ap (λ t. cond t None (finite.get s.items q)) is in
    λ j. record { item = gets j; used = was_used s q }

-- a key that was used is so once an item is put
item_grows : (s : View) (i : Item) (q : Key) → was_used s q ≡ true → was_used (with_item s i) q ≡ true
item_grows s i q used = set.contains-insert keys_total s.used (key_of i) q ∙ by_tie (tie q (key_of i))
  where
    by_tie : (t : Bool) → (t || was_used s q) ≡ true
    by_tie true = refl
    by_tie false = used

pub one_number : (m n : ℕ) → eq_by_cmp nat_cmp m n ≡ true → m ≡ n
one_number m n is = nat_cmp-IsAntisymmetric m n (is_equal (nat_cmp m n) is)
  where
    is_equal : (o : Ordering) → is_eq o ≡ true → o ≡ Equal
    is_equal Less e = cc
    is_equal Equal e = refl
    is_equal Greater e = cc

pub tied_numbers : (m n : ℕ) → tie (key.Blpu m) (key.Blpu n) ≡ eq_by_cmp nat_cmp m n
tied_numbers m n = by_order (nat_cmp m n)
  where
    by_order : (o : Ordering) → is_eq (ordering_then o Equal) ≡ is_eq o
    by_order Less = refl
    by_order Equal = refl
    by_order Greater = refl

-- ---- what is kept of touched keys

module _ (v : View) (c : Changes) (over : LieOver v c) where
  -- a key that isn't touched isn't used
  pub unused : (k : Key) → is_touched c k ≡ false → was_used c.view k ≡ false
  unused k fresh = by_use (was_used c.view k) refl
    where
      by_use : (b : Bool) → was_used c.view k ≡ b → b ≡ false
      by_use true is = absurd (true≢false (sym (over.touched k is) ∙ fresh))
      by_use false is = refl

  pub stood_so : (k : Key) → is_touched c k ≡ true → IsStood (stood_in c.touched k) (key_view v k)
  stood_so k noted = by_touch (finite.get c.touched k) refl noted
    where
      by_touch : (o : Option Touch) → finite.get c.touched k ≡ o → is_some o ≡ true → IsStood (option_map_or (λ t. t.stood) o NoRow) (key_view v k)
      by_touch None is h = absurd (true≢false (sym h))
      by_touch (Some t) is h = (over.each k t is).stood

  -- where the changes haven't used a touched key the last view has nothing there
  pub none_there : (k : Key) → is_touched c k ≡ true → was_used c.view k ≡ false → finite.get v.items k ≡ None
  none_there k noted fresh = by_touch (finite.get c.touched k) refl noted
    where
      by_stood : (t : Touch) → IsTouch k t (is_passed_key c k) (key_view v k) (key_view c.view k) → (stood : Stood) → t.stood ≡ stood → IsStood stood (key_view v k) → finite.get v.items k ≡ None
      by_stood t h NoRow is so = so
      by_stood t h Past is so = so.0
      by_stood t h (Since b) is so = absurd (true≢false (sym (h.copied b is) ∙ fresh))

      by_touch : (o : Option Touch) → finite.get c.touched k ≡ o → is_some o ≡ true → finite.get v.items k ≡ None
      by_touch None is h = absurd (true≢false (sym h))
      by_touch (Some t) is h = by_stood t (over.each k t is) t.stood refl (over.each k t is).stood

  -- where nothing more is passed on, it is known of the same numbers what became of them
  still_passed : (d : Changes) → d.passed ≡ c.passed → d.view.custody ≡ c.view.custody → ((q : Key) → was_used c.view q ≡ true → was_used d.view q ≡ true) → ArePassed v d
  still_passed d passed custody grows = record {
    told = λ n. ap (λ (m : Passings). is_some (finite.get m n)) custody ∙ over.passed.told n ∙ ap (λ (p : Passed). finite.contains_key p n) (sym passed);
    since = λ n o is. over.passed.since n o (ap (λ (p : Passed). finite.get p n) (sym passed) ∙ is);
    used = λ n is. grows (key.Blpu n) (over.passed.used n (ap (λ (p : Passed). finite.contains_key p n) (sym passed) ∙ is));
  }

  module _ (k : Key) (x : Touch) (s : View) (p : Passed) where
    abbrev then : Changes
    then = record { view = s; touched = finite.insert c.touched k x; passed = p }

    -- where the changes differ at one key, what is kept of the others is so still
    each_then : ((q : Key) → tie q k ≡ false → key_view s q ≡ key_view c.view q) → ((q : Key) → tie q k ≡ false → is_passed_key then q ≡ is_passed_key c q)
        → IsTouch k x (is_passed_key then k) (key_view v k) (key_view s k)
        → (q : Key) (t : Touch) → finite.get (finite.insert c.touched k x) q ≡ Some t → IsTouch q t (is_passed_key then q) (key_view v q) (key_view s q)
    each_then same passed here q t there = by_tie (tie q k) refl (sym (finite.get-insert keys_total c.touched k x q) ∙ there)
      where
        by_tie : (b : Bool) → tie q k ≡ b → cond b (Some x) (finite.get c.touched q) ≡ Some t → IsTouch q t (is_passed_key then q) (key_view v q) (key_view s q)
        by_tie true is eq =
            let one : x ≡ t = cc in
            let key : q ≡ k = same_key q k is in
            subst (λ (p : Key × Touch). IsTouch p.0 p.1 (is_passed_key then p.0) (key_view v p.0) (key_view s p.0)) (λ i. (sym key i, one i)) here
        by_tie false is eq =
            subst (λ (a : Bool × KeyView). IsTouch q t a.0 (key_view v q) a.1) (λ i. (sym (passed q is) i, sym (same q is) i)) (over.each q t eq)

    touched_then : ((q : Key) → tie q k ≡ false → key_view s q ≡ key_view c.view q) → (q : Key) → was_used s q ≡ true → is_some (finite.get (finite.insert c.touched k x) q) ≡ true
    touched_then same q used = ap is_some (finite.get-insert keys_total c.touched k x q) ∙ by_tie (tie q k) refl
      where
        by_tie : (b : Bool) → tie q k ≡ b → is_some (cond b (Some x) (finite.get c.touched q)) ≡ true
        by_tie true is = refl
        by_tie false is = over.touched q (sym (ap (λ (a : KeyView). a.used) (same q is)) ∙ used)

    pub over_then : IsLawfulView s → ((q : Key) → tie q k ≡ false → key_view s q ≡ key_view c.view q) → ((q : Key) → tie q k ≡ false → is_passed_key then q ≡ is_passed_key c q)
        → IsTouch k x (is_passed_key then k) (key_view v k) (key_view s k) → ArePassed v then → LieOver v then
    over_then lawful same passed here numbers = record { lawful = lawful; touched = touched_then same; each = each_then same passed here; passed = numbers }

-- ---- a key is touched

module _ (v : View) (c : Changes) (last : IsLawfulView v) (over : LieOver v c) (k : Key) (stood : Stood) (fresh : is_touched c k ≡ false) (so : IsStood stood (key_view v k)) where
  abbrev first : Touch
  first = record { stood = stood; last = None }

  pub touched_over : (o : Option Item) → finite.get v.items k ≡ o → LieOver v (with_touched c k stood o)
  touched_over None is = over_then v c over k first c.view c.passed over.lawful (λ q fresh. refl) (λ q other. refl) here (still_passed v c over _ refl refl (λ q used. used))
    where
      here : IsTouch k first (is_passed_key c k) (key_view v k) (key_view c.view k)
      here = record {
        stood = so;
        copied = λ b since. let both : IsStood (Since b) (key_view v k) = subst (λ (d : Stood). IsStood d (key_view v k)) since so in absurd (true≢false (sym both.0 ∙ ap is_some is));
        last = (λ used. absurd (true≢false (sym used ∙ unused v c over k fresh)), λ there. absurd (true≢false (sym (over.lawful.used k there) ∙ unused v c over k fresh)));
      }
  touched_over (Some i) is =
      over_then v c over k first (with_item c.view i) c.passed (lawful_put c.view i (last.entries k i is) over.lawful) (λ q other. item_else c.view i q (ap (tie q) key ∙ other)) (λ q other. refl) here
      (still_passed v c over _ refl refl (item_grows c.view i))
    where
      key : key_of i ≡ k
      key = last.keyed k i is

      now : key_view (with_item c.view i) k ≡ record { item = Some i; used = true }
      now = subst (λ (q : Key). key_view (with_item c.view i) q ≡ record { item = Some i; used = true }) key (item_here c.view i)

      copy : IsTouch k first (is_passed_key c k) (key_view v k) (record { item = Some i; used = true })
      copy = record { stood = so; copied = λ b since. refl; last = (λ used. ap (λ b. b || is_passed_key c k) (last.used k (ap is_some is)), λ there. sym is) }

      here : IsTouch k first (is_passed_key c k) (key_view v k) (key_view (with_item c.view i) k)
      here = subst (λ (a : KeyView). IsTouch k first (is_passed_key c k) (key_view v k) a) (sym now) copy

  pub touched_laid : laid v c.view ≡ laid v (with_some c.view (finite.get v.items k))
  touched_laid =
      sym (key_copied v c.view last over.lawful k) ∙ ap (λ b. laid v (cond b c.view (with_some c.view (finite.get v.items k)))) (unused v c over k fresh)

-- ---- an item is put

pub put_over : (v : View) (c : Changes) → LieOver v c → (i : Item) → is_entry i ≡ true → is_touched c (key_of i) ≡ true → LieOver v (with_put c i)
put_over v c over i entry noted =
    over_then v c over k x (with_item c.view i) c.passed (lawful_put c.view i entry over.lawful) (item_else c.view i) (λ q other. refl)
    (subst (λ (a : KeyView). IsTouch k x (is_passed_key c k) (key_view v k) a) (sym (item_here c.view i)) here)
    (still_passed v c over _ refl refl (item_grows c.view i))
  where
    k : Key
    k = key_of i

    x : Touch
    x = record { stood = stood_in c.touched (key_of i); last = Some i }

    here : IsTouch (key_of i) (record { stood = stood_in c.touched (key_of i); last = Some i }) (is_passed_key c (key_of i)) (key_view v (key_of i)) (record { item = Some i; used = true })
    here = record { stood = stood_so v c over (key_of i) noted; copied = λ b since. refl; last = (refl, λ there. refl, refl, entry) }

-- ---- an item is taken

dropped : (o : Option Item) (k : Key) (p : Bool) (before now : KeyView) → IsLast o k p before now → IsLast o k p before (record { item = None; used = now.used })
dropped None k p before now h = (h.0, λ some. absurd (true≢false (sym some)))
dropped (Some i) k p before now h = (h.0, λ some. absurd (true≢false (sym some)), h.2, h.3)

pub taken_over : (v : View) (c : Changes) → LieOver v c → (k : Key) → LieOver v (with_taken c k)
taken_over v c over k = record { lawful = lawful_taken c.view k over.lawful; touched = over.touched; each = each; passed = still_passed v c over _ refl refl (λ q used. used) }
  where
    each : (q : Key) (t : Touch) → finite.get c.touched q ≡ Some t → IsTouch q t (is_passed_key c q) (key_view v q) (key_view (without_key c.view k) q)
    each q t there = by_tie (tie q k) refl
      where
        p : Bool
        p = is_passed_key c q

        was : IsTouch q t p (key_view v q) (key_view c.view q)
        was = over.each q t there

        by_tie : (b : Bool) → tie q k ≡ b → IsTouch q t p (key_view v q) (key_view (without_key c.view k) q)
        by_tie true is =
            let none : IsTouch q t p (key_view v q) (record { item = None; used = was_used c.view q }) =
            record { stood = was.stood; copied = was.copied; last = dropped t.last q p (key_view v q) (key_view c.view q) was.last } in
            subst (λ (a : KeyView). IsTouch q t p (key_view v q) a) (sym (taken_at c.view k q true is)) none
        by_tie false is = subst (λ (a : KeyView). IsTouch q t p (key_view v q) a) (sym (taken_at c.view k q false is)) was
