-- The accounts of all custodians after an item's life was put back into one.
use Rattle.std.proofs.Common.{◌≡◌, ◌≢◌, ◌≤◌, ◌<◌, ◌+◌, ◌-◌, ◌||◌, ◌∙◌, ℕ, zero, suc, Bool, true, false, cond, List, [], ◌∷◌, length, refl, sym, ap, subst, arith, slice_get, unwrap_or}
use Rattle.std.proofs.lemmas.Bool.Decides.{nat_tests}
use Rattle.std.specs.Prelude.{◌==◌, Option, None, nat_le, nat_lt, option_map, map as each, Result, OnOk, OnErr}
use Rattle.std.specs.FinMap as finite
use Rattle.std.specs.FinSet as set
use Rattle.std.specs.Ordering.{eq_by_cmp}
use Rattle.gaz_records.proofs.KeyOrder.{keys_total}
use Rattle.gaz_records.specs.Keys.{key_cmp}
use Rattle.gaz_records.specs.declared.key.Key.{Key}
use Rattle.gaz_records.specs.declared.key.Key.TheVariants as key
use Rattle.gaz_views.specs.declared.custody.Custody.{Custody}
use Rattle.gaz_records.specs.Items.{is_entry}
use Rattle.gaz_records.specs.Keys.{key_of}
use Rattle.gaz_records.specs.declared.item.Item.{Item}
use Rattle.gaz_views.proofs.Lawful.{lawful_empty, lawful_put, lawful_taken}
use Rattle.gaz_views.specs.Accounts.{Account, view_in}
use Rattle.gaz_views.specs.Judgements.{Judgement, views}
use Rattle.gaz_views.specs.Lawful.{IsLawfulView}
use Rattle.gaz_views.specs.View.{View, empty_view, with_item, without_key}
use Rattle.gaz_keeper.specs.Board.{Board, verdict_on, view_after}
use Rattle.gaz_ledger.specs.Changing.{verdict_in}
use Rattle.gaz_ledger.specs.Lives.{IsFreeFrom, IsLifeWithin, Restores, is_gone_by, with_life}
use Rattle.gaz_ledger.specs.Passages.{RestoresPassage, SameItems, with_passage, with_passed}
use Rattle.gaz_shelf.proofs.Boards.{Changes, changed}
use Rattle.gaz_shelf.proofs.Lawful.{by_result}
use Rattle.gaz_shelf.specs.Accounts.{IsLawfulAccount, account_of, board_of}
use Rattle.gaz_shelf.specs.Restoring.{IsPassageRestored, IsRestored}

-- ---- a board of one account

-- the view after a judged volume is that of the account
judged_view : (a : Account) (c t : ℕ) → t ≤ length a.judged → view_in a t ≡ view_after (λ _. a.judged) c t
judged_view a c t le = let there : nat_le t (length a.judged) ≡ true = grind (arith, nat_tests) in ap (λ b. cond b (unwrap_or (slice_get (views a.judged) t) empty_view) a.working) there

verdict_of : (a : Account) (c volume : ℕ) → verdict_on (λ _. a.judged) c volume ≡ verdict_in a volume
verdict_of a c zero = refl
verdict_of a c (suc n) =
    let e : suc n - 1 ≡ n = omega arith in
    let some : (suc n == 0) ≡ false = grind (arith, nat_tests) in
    ap (λ m. option_map (λ (j : Judgement). j.verdict) (slice_get a.judged m)) (sym e) ∙ ap (λ b. cond b None (option_map (λ (j : Judgement). j.verdict) (slice_get a.judged (suc n - 1)))) (sym some)

alone : (board : Board) (c volume : ℕ) → verdict_on board c volume ≡ verdict_on (λ _. board c) c volume
alone board c zero = refl
alone board c (suc n) = refl

-- ---- the account is lawful still

life_lawful : (born : ℕ) (gone : Option ℕ) (i : Item) (t : ℕ) (v : View) → is_entry i ≡ true → IsLawfulView v → IsLawfulView (with_life born gone i t v)
life_lawful born gone i t v entry was = by_birth (nat_lt t born) (is_gone_by gone t)
  where
    by_birth : (b d : Bool) → IsLawfulView (cond b v (cond d (without_key (with_item v i) (key_of i)) (with_item v i)))
    by_birth true d = was
    by_birth false true = lawful_taken (with_item v i) (key_of i) (lawful_put v i entry was)
    by_birth false false = lawful_put v i entry was

view_lawful : (a : Account) (t : ℕ) → IsLawfulAccount a → IsLawfulView (view_in a t)
view_lawful a t was = either (nat_le t (length a.judged))
  where
    either : (b : Bool) → IsLawfulView (cond b (unwrap_or (slice_get (views a.judged) t) empty_view) a.working)
    either true = was.judged t
    either false = was.working

beyond : (js : List Judgement) (n : ℕ) → length js ≤ n → slice_get (each (λ (j : Judgement). j.view) js) n ≡ None
beyond [] n le = refl
beyond (j ∷ js) zero le = absurd (omega arith)
beyond (j ∷ js) (suc n) le = beyond js n (omega arith)

unreached : (a : Account) (t : ℕ) → length a.judged < t → unwrap_or (slice_get (views a.judged) t) empty_view ≡ empty_view
unreached a zero lt = absurd (omega arith)
unreached a (suc n) lt = ap (λ o. unwrap_or o empty_view) (beyond a.judged n (omega arith))

-- where all of its views are
seen_lawful : (b : Account) → ((t : ℕ) → IsLawfulView (view_in b t)) → IsLawfulAccount b
seen_lawful b seen =
    record {
      judged = λ t. by_test t (nat_le t (length b.judged)) refl;
      working = subst IsLawfulView (working_seen (nat_le (length b.judged + 1) (length b.judged)) refl) (seen (length b.judged + 1));
    }
  where
    by_test : (t : ℕ) (d : Bool) → nat_le t (length b.judged) ≡ d → IsLawfulView (unwrap_or (slice_get (views b.judged) t) empty_view)
    by_test t true is = subst IsLawfulView (judged_view b 0 t (let le : t ≤ length b.judged = grind (arith, nat_tests) in le)) (seen t)
    by_test t false is = subst IsLawfulView (sym (unreached b t (let lt : length b.judged < t = grind (arith, nat_tests) in lt))) lawful_empty

    working_seen : (d : Bool) → nat_le (length b.judged + 1) (length b.judged) ≡ d → view_in b (length b.judged + 1) ≡ b.working
    working_seen true is = let no : nat_le (length b.judged + 1) (length b.judged) ≡ false = grind (arith, nat_tests) in let both : true ≡ false = sym is ∙ no in cc
    working_seen false is = ap (λ d. cond d (unwrap_or (slice_get (views b.judged) (length b.judged + 1)) empty_view) b.working) is

restored_lawful : (a b : Account) (born : ℕ) (gone : Option ℕ) (i : Item) → is_entry i ≡ true → Restores a b born gone i → IsLawfulAccount a → IsLawfulAccount b
restored_lawful a b born gone i entry now was = seen_lawful b (λ t. subst IsLawfulView (sym (now.views t)) (life_lawful born gone i t (view_in a t) entry (view_lawful a t was)))

passage_lawful : (born uprn : ℕ) (x : Custody) (t : ℕ) (v : View) → IsLawfulView v → IsLawfulView (with_passage born uprn x t v)
passage_lawful born uprn x t v was = by_birth (nat_lt t born)
  where
    more : (k : Key) (b : Bool) → set.contains v.used k ≡ true → (b || set.contains v.used k) ≡ true
    more k true is = refl
    more k false is = is

    by_birth : (b : Bool) → IsLawfulView (cond b v (with_passed v uprn x))
    by_birth true = was
    by_birth false = record {
      entries = was.entries;
      keyed = was.keyed;
      used = λ k there. set.contains-insert keys_total v.used (key.Blpu uprn) k ∙ more k (eq_by_cmp key_cmp k (key.Blpu uprn)) (was.used k there);
    }

same_lawful : (v w : View) → w.items ≡ v.items → w.used ≡ v.used → IsLawfulView v → IsLawfulView w
same_lawful v w items used was = let now = subst (λ m. IsLawfulView (record v { items = m })) (sym items) was in let all = subst (λ m. IsLawfulView (record v { items = w.items; used = m })) (sym used) now in record { entries = all.entries; keyed = all.keyed; used = all.used }

pub after_passage : {T E : Type 0} (r : Result T E) (a b : Account) (born uprn : ℕ) (x : Custody) → IsLawfulAccount a → OnOk r (RestoresPassage a b born uprn x) → OnErr r (SameItems a b) → IsLawfulAccount b
after_passage r a b born uprn x was ok err =
    by_result r (RestoresPassage a b born uprn x) (SameItems a b) (IsLawfulAccount b) ok err
    (λ now. seen_lawful b (λ t. subst IsLawfulView (sym (now.views t)) (passage_lawful born uprn x t (view_in a t) (view_lawful a t was))))
    (λ same. seen_lawful b (λ t. same_lawful (view_in a t) (view_in b t) (same.items t) (same.used t) (view_lawful a t was)))

pub after_restore : {T E : Type 0} (r : Result T E) (a b : Account) (born : ℕ) (gone : Option ℕ) (i : Item) → is_entry i ≡ true → IsLawfulAccount a → OnOk r (Restores a b born gone i) → OnErr r (b ≡ a) → IsLawfulAccount b
after_restore r a b born gone i entry was ok err =
    by_result r (Restores a b born gone i) (b ≡ a) (IsLawfulAccount b) ok err (λ now. restored_lawful a b born gone i entry now was) (λ same. subst IsLawfulAccount (sym same) was)

-- ---- the board

module _ (es fs : List (ℕ × Account)) (c : ℕ) (b : Account) (change : Changes es fs c b) where
  here : account_of fs c ≡ b
  here = changed es fs c b change c ∙ ap (λ d. cond d b (account_of es c)) (let itself : (c == c) ≡ true = grind (arith, nat_tests) in itself)

  there : (d : ℕ) → (d == c) ≡ false → account_of fs d ≡ account_of es d
  there d other = changed es fs c b change d ∙ ap (λ e. cond e b (account_of es d)) other

  -- what holds at the custodian holds at all, where it holds of equal accounts
  everywhere : (P : Account → Account → Type 0) → ((a : Account) → P a a) → P (account_of es c) b → (d : ℕ) → P (account_of es d) (account_of fs d)
  everywhere P itself at d = by_test (d == c) refl
    where
      by_test : (e : Bool) → (d == c) ≡ e → P (account_of es d) (account_of fs d)
      by_test true is =
          let same : d ≡ c = grind (arith, nat_tests) in
          subst (λ q. P (account_of es q) (account_of fs q)) (sym same) (subst (P (account_of es c)) (sym here) at)
      by_test false is = subst (P (account_of es d)) (sym (there d is)) (itself (account_of es d))

  pub is_restored : (born : ℕ) (gone : Option ℕ) (i : Item) → IsLifeWithin (length (account_of es c).judged) born gone → IsFreeFrom (account_of es c) born (key_of i) → Restores (account_of es c) b born gone i
      → IsRestored (board_of es) (board_of fs) c born gone i
  is_restored born gone i within free now =
      let a = account_of es c in
      record {
        within = within;
        free = λ t from le. ap (λ (v : View). finite.get v.items (key_of i)) (sym (judged_view a c t le)) ∙ free t from;
        views = λ t le.
            ap (λ (d : Account). view_after (λ _. d.judged) c t) here
            ∙ sym (judged_view b c t (let same = now.reached in omega arith)) ∙ now.views t ∙ ap (with_life born gone i t) (judged_view a c t le);
        verdicts = λ d volume.
            alone (board_of fs) d volume
            ∙ everywhere (λ p q. verdict_on (λ _. q.judged) d volume ≡ verdict_on (λ _. p.judged) d volume) (λ p. refl)
            (verdict_of b d volume ∙ now.verdicts volume ∙ sym (verdict_of a d volume)) d
            ∙ sym (alone (board_of es) d volume);
        others = λ d other. ap (λ (q : Account). q.judged) (there d (by_test d other (d == c) refl));
        reached = λ d. everywhere (λ p q. length q.judged ≡ length p.judged) (λ p. refl) now.reached d;
      }
    where
      by_test : (d : ℕ) → d ≢ c → (e : Bool) → (d == c) ≡ e → (d == c) ≡ false
      by_test d other true is = absurd (other (let same : d ≡ c = grind (arith, nat_tests) in same))
      by_test d other false is = is

  pub passage_restored : (born uprn : ℕ) (x : Custody) → IsLifeWithin (length (account_of es c).judged) born None → IsFreeFrom (account_of es c) born (key.Blpu uprn) → RestoresPassage (account_of es c) b born uprn x
      → IsPassageRestored (board_of es) (board_of fs) c born uprn x
  passage_restored born uprn x within free now =
      let a = account_of es c in
      record {
        within = within;
        free = λ t from le. ap (λ (v : View). finite.get v.items (key.Blpu uprn)) (sym (judged_view a c t le)) ∙ free t from;
        views = λ t le.
            ap (λ (d : Account). view_after (λ _. d.judged) c t) here
            ∙ sym (judged_view b c t (let same = now.reached in omega arith)) ∙ now.views t ∙ ap (with_passage born uprn x t) (judged_view a c t le);
        verdicts = λ d volume.
            alone (board_of fs) d volume
            ∙ everywhere (λ p q. verdict_on (λ _. q.judged) d volume ≡ verdict_on (λ _. p.judged) d volume) (λ p. refl)
            (verdict_of b d volume ∙ now.verdicts volume ∙ sym (verdict_of a d volume)) d
            ∙ sym (alone (board_of es) d volume);
        others = λ d other. ap (λ (q : Account). q.judged) (there d (by_test d other (d == c) refl));
        reached = λ d. everywhere (λ p q. length q.judged ≡ length p.judged) (λ p. refl) now.reached d;
      }
    where
      by_test : (d : ℕ) → d ≢ c → (e : Bool) → (d == c) ≡ e → (d == c) ≡ false
      by_test d other true is = absurd (other (let same : d ≡ c = grind (arith, nat_tests) in same))
      by_test d other false is = is
