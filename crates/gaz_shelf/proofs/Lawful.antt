-- The accounts of all custodians after one has changed: each view of them is a lawful one still.
use Rattle.std.proofs.Common.{◌≡◌, ℕ, zero, suc, Bool, true, false, cond, List, [], ◌∷◌, ◌++◌, map, length, sym, ap, subst, slice_get, unwrap_or}
use Rattle.std.specs.Prelude.{◌==◌, Some, Result, Ok, Err, OnOk, OnErr}
use Rattle.std.specs.BTreeMap.{BTreeMap, Updates, is_at}
use Rattle.std.specs.Map.{lookup}
use Rattle.std.specs.Option.{IsSome}
use Rattle.std.specs.Ordering.{nat_cmp}
use Rattle.gaz_views.proofs.Lawful.{lawful_adopted, lawful_empty, lawful_put, lawful_released, lawful_taken}
use Rattle.gaz_views.specs.Judgements.{Judgement}
use Rattle.gaz_views.specs.Lawful.{IsLawfulView}
use Rattle.gaz_views.specs.Accounts.{Account, empty_account, last_of}
use Rattle.gaz_views.specs.View.{View, empty_view, with_item, with_release, without_key}
use Rattle.gaz_views.specs.declared.verdict.Verdict.{Verdict}
use Rattle.gaz_views.specs.Numbered.{as_blpu, with_adopted}
use Rattle.gaz_records.specs.Items.{is_entry}
use Rattle.gaz_records.specs.declared.item.Item.TheVariants as item
use Rattle.gaz_records.specs.declared.item.Item.{Item}
use Rattle.gaz_records.specs.declared.key.Key.{Key}
use Rattle.gaz_shelf.proofs.Boards.{Changes, changed}
use Rattle.gaz_shelf.specs.Accounts.{AreLawful, IsLawfulAccount, account_of}

-- ---- of one custodian

pub nothing_lawful : IsLawfulAccount empty_account
nothing_lawful = record { judged = elim [ zero ↦ lawful_empty | suc n ↦ lawful_empty ]; working = lawful_empty }

-- the judgements as they were, and another working view
working_lawful : (a : Account) (w : View) → IsLawfulAccount a → IsLawfulView w → IsLawfulAccount (record { judged = a.judged; working = w })
working_lawful a w was now = record { judged = was.judged; working = now }

put_lawful : (a : Account) (i : Item) → is_entry i ≡ true → IsLawfulAccount a → IsLawfulAccount (record { judged = a.judged; working = with_item a.working i })
put_lawful a i entry was = working_lawful a _ was (lawful_put a.working i entry was.working)

taken_lawful : (a : Account) (k : Key) → IsLawfulAccount a → IsLawfulAccount (record { judged = a.judged; working = without_key a.working k })
taken_lawful a k was = working_lawful a _ was (lawful_taken a.working k was.working)

adopted_view : (v : View) (i : Item) (from hop : ℕ) → IsSome (as_blpu i) → IsLawfulView v → IsLawfulView (with_adopted v i from hop)
adopted_view v (item.Blpu b) from hop some was = lawful_adopted v b from hop was
adopted_view v (item.Street x) from hop some was = was
adopted_view v (item.Descriptor x) from hop some was = was
adopted_view v (item.Xref x) from hop some was = was
adopted_view v (item.Lpi x) from hop some was = was
adopted_view v (item.Release x) from hop some was = was
adopted_view v (item.Adopt x) from hop some was = was

undone_lawful : (a : Account) → IsLawfulAccount a → IsLawfulAccount (record { judged = a.judged; working = last_of a })
undone_lawful a was = working_lawful a _ was (was.judged (length a.judged))

abbrev AreSo : List Judgement → Type 0
AreSo js = (n : ℕ) → IsLawfulView (unwrap_or (slice_get (map (λ (j : Judgement). j.view) js) n) empty_view)

one_more : (js : List Judgement) (j : Judgement) → AreSo js → IsLawfulView j.view → AreSo (js ++ j ∷ [])
one_more [] j all is zero = is
one_more [] j all is (suc n) = lawful_empty
one_more (k ∷ js) j all is zero = all zero
one_more (k ∷ js) j all is (suc n) = one_more js j (λ m. all (suc m)) is n

closed_lawful : (a : Account) (d : Verdict) → IsLawfulAccount a → IsLawfulAccount (record { judged = a.judged ++ record { verdict = d; view = a.working } ∷ []; working = a.working })
closed_lawful a d was = record {
  judged = elim [ zero ↦ was.judged zero | suc n ↦ one_more a.judged (record { verdict = d; view = a.working }) (λ m. was.judged (suc m)) was.working n ];
  working = was.working;
}

-- ---- after a call that may fail

pub by_result : {T E : Type 0} (r : Result T E) (P Q X : Type 0) → OnOk r P → OnErr r Q → (P → X) → (Q → X) → X
by_result (Ok x) P Q X ok err f g = f ok
by_result (Err e) P Q X ok err f g = g err

-- the account is this one after an Ok, and as it was after an error
after_call : {T E : Type 0} (r : Result T E) (a b d : Account) → OnOk r (b ≡ d) → OnErr r (b ≡ a) → IsLawfulAccount a → IsLawfulAccount d → IsLawfulAccount b
after_call r a b d ok err was now = by_result r (b ≡ d) (b ≡ a) (IsLawfulAccount b) ok err (λ e. subst IsLawfulAccount (sym e) now) (λ e. subst IsLawfulAccount (sym e) was)

pub after_put : {T E : Type 0} (r : Result T E) (a b : Account) (i : Item) → is_entry i ≡ true → IsLawfulAccount a → OnOk r (b ≡ record { judged = a.judged; working = with_item a.working i }) → OnErr r (b ≡ a) → IsLawfulAccount b
after_put r a b i entry was ok err = after_call r a b _ ok err was (put_lawful a i entry was)

pub after_take : {T E : Type 0} (r : Result T E) (a b : Account) (k : Key) → IsLawfulAccount a → OnOk r (b ≡ record { judged = a.judged; working = without_key a.working k }) → OnErr r (b ≡ a) → IsLawfulAccount b
after_take r a b k was ok err = after_call r a b _ ok err was (taken_lawful a k was)

pub after_release : {T E : Type 0} (r : Result T E) (a b : Account) (uprn to hop : ℕ) → IsLawfulAccount a → OnOk r (b ≡ record { judged = a.judged; working = with_release a.working uprn to hop }) → OnErr r (b ≡ a) → IsLawfulAccount b
after_release r a b uprn to hop was ok err = after_call r a b _ ok err was (working_lawful a _ was (lawful_released a.working uprn to hop was.working))

pub after_adopt : {T E : Type 0} (r : Result T E) (a b : Account) (i : Item) (from hop : ℕ) → IsSome (as_blpu i) → IsLawfulAccount a → OnOk r (b ≡ record { judged = a.judged; working = with_adopted a.working i from hop }) → OnErr r (b ≡ a) → IsLawfulAccount b
after_adopt r a b i from hop some was ok err = after_call r a b _ ok err was (working_lawful a _ was (adopted_view a.working i from hop some was.working))

pub after_close : {T E : Type 0} (r : Result T E) (a b : Account) (d : Verdict) → IsLawfulAccount a → OnOk r (b ≡ record { judged = a.judged ++ record { verdict = d; view = a.working } ∷ []; working = a.working }) → OnErr r (b ≡ a)
    → IsLawfulAccount b
after_close r a b d was ok err = after_call r a b _ ok err was (closed_lawful a d was)

pub after_undo : (a b : Account) → IsLawfulAccount a → b ≡ record { judged = a.judged; working = last_of a } → IsLawfulAccount b
after_undo a b was is = subst IsLawfulAccount (sym is) (undone_lawful a was)

-- ---- of all of them

-- the account that a search found
pub found_lawful : (es : List (ℕ × Account)) (c : ℕ) (a : Account) → AreLawful es → Some a ≡ lookup (is_at (nat_cmp c)) es → IsLawfulAccount a
found_lawful es c a all is = subst IsLawfulAccount (sym (ap (λ o. unwrap_or o empty_account) is)) (all c)

pub none_lawful : (es : List (ℕ × Account)) → es ≡ [] → AreLawful es
none_lawful es none c = subst (λ (fs : List (ℕ × Account)). IsLawfulAccount (account_of fs c)) (sym none) nothing_lawful

pub all_lawful : (es fs : List (ℕ × Account)) (c : ℕ) (a : Account) → Changes es fs c a → AreLawful es → IsLawfulAccount a → AreLawful fs
all_lawful es fs c a h was now q = subst IsLawfulAccount (sym (changed es fs c a h q)) (either (q == c))
  where
    either : (b : Bool) → IsLawfulAccount (cond b a (account_of es q))
    either true = now
    either false = was q

-- where a search found none, the map that was lent comes back
pub none_found : (m n : BTreeMap ℕ Account) → n ≡ m → AreLawful m.entries → AreLawful n.entries
none_found m n same all = subst (λ (b : BTreeMap ℕ Account). AreLawful b.entries) (sym same) all

-- a account is added
pub after_insert : {T E : Type 0} (r : Result T E) (m n : BTreeMap ℕ Account) (c : ℕ) (a : Account) → AreLawful m.entries → IsLawfulAccount a → OnOk r (Updates nat_cmp m n c (Some a)) → OnErr r (n.entries ≡ m.entries) → AreLawful n.entries
after_insert (Ok x) m n c a all is ok err = all_lawful m.entries n.entries c a ok.0 all is
after_insert (Err e) m n c a all is ok err = subst AreLawful (sym err) all

pub new_lawful : (a : Account) → a ≡ empty_account → IsLawfulAccount a
new_lawful a is = subst IsLawfulAccount (sym is) nothing_lawful
