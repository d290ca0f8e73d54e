-- The approved LPIs of a view, by their keys.
use Rattle.std.proofs.Common.{◌≡◌, ℕ, Bool, true, false, cond, not, ◌||◌, ◌&&◌, List, [], ◌∷◌, map, length, refl, sym, ap, ◌∙◌, true≢false, arith, eqb-true, eq-eqb}
use Rattle.std.specs.Prelude.{◌==◌, filter, Option, Some, None}
use Rattle.std.specs.Option.{option_and_then}
use Rattle.std.specs.List.{list_any}
use Rattle.std.specs.FinMap as fin
use Rattle.gaz_ids.specs.declared.lang.Lang.{Lang}
use Rattle.gaz_ids.specs.declared.lang.Lang.TheVariants.{Cym, Eng}
use Rattle.gaz_records.proofs.KeyOrder.{keys_exact, keys_total}
use Rattle.gaz_records.specs.Lpis.{LpiValue}
use Rattle.gaz_records.specs.declared.item.Item.{Item}
use Rattle.gaz_records.specs.declared.item.Item.TheVariants as item
use Rattle.gaz_records.specs.declared.key.Key.{Key}
use Rattle.gaz_views.specs.View.{View}
use Rattle.gaz_views.specs.Words.{approved_of, approved_on, entries, is_approved, is_approved_of, is_approved_on, is_in, same_lang}
use Rattle.gaz_end_rules.specs.EndRules.{approved_at, as_approved}
use Rattle.gaz_end_rules.proofs.Keys.{any_from, any_gives}
use Rattle.gaz_end_rules.proofs.Booleans.{and_then_gives, both_parts, false_by, joined}

pub same_lang_is : (a b : Lang) → same_lang a b ≡ true → a ≡ b
same_lang_is Cym Cym e = refl
same_lang_is Cym Eng e = absurd (true≢false (sym e))
same_lang_is Eng Cym e = absurd (true≢false (sym e))
same_lang_is Eng Eng e = refl

pub same_lang_itself : (a : Lang) → same_lang a a ≡ true
same_lang_itself Cym = refl
same_lang_itself Eng = refl

-- what passes for an approved LPI is one
pub an_lpi : (i : Item) (l : LpiValue) → as_approved i ≡ Some l → (i ≡ item.Lpi l) × (is_approved l.status ≡ true)
an_lpi (item.Street s) l e = cc
an_lpi (item.Descriptor s) l e = cc
an_lpi (item.Blpu s) l e = cc
an_lpi (item.Xref s) l e = cc
an_lpi (item.Release s) l e = cc
an_lpi (item.Adopt s) l e = cc
an_lpi (item.Lpi m) l e =
    elim (is_approved m.status) as (λ b. is_approved m.status ≡ b → cond b (Some m) None ≡ Some l → (item.Lpi m ≡ item.Lpi l) × (is_approved l.status ≡ true)) [
      | true ↦ λ is same. let one : m ≡ l = cc in (ap item.Lpi one, ap (λ x. is_approved x.status) (sym one) ∙ is)
      | false ↦ λ _ none. cc
    ] refl e

-- what an item of a BLPU or on a street tells
of_blpu : (uprn : ℕ) (i : Item) → is_approved_of uprn i ≡ true → (l : LpiValue) × (as_approved i ≡ Some l) × (l.uprn ≡ uprn)
of_blpu uprn (item.Street s) e = absurd (true≢false (sym e))
of_blpu uprn (item.Descriptor s) e = absurd (true≢false (sym e))
of_blpu uprn (item.Blpu s) e = absurd (true≢false (sym e))
of_blpu uprn (item.Xref s) e = absurd (true≢false (sym e))
of_blpu uprn (item.Release s) e = absurd (true≢false (sym e))
of_blpu uprn (item.Adopt s) e = absurd (true≢false (sym e))
of_blpu uprn (item.Lpi l) e =
    let parts = both_parts (is_approved l.status) _ e in
    (l, ap (λ b. cond b (Some l) None) parts.0, eqb-true _ _ parts.1)

on_street : (usrn : ℕ) (lang : Option Lang) (i : Item) → is_approved_on usrn lang i ≡ true → (l : LpiValue) × (as_approved i ≡ Some l) × (l.usrn ≡ usrn) × (is_in lang l.lang ≡ true)
on_street usrn lang (item.Street s) e = absurd (true≢false (sym e))
on_street usrn lang (item.Descriptor s) e = absurd (true≢false (sym e))
on_street usrn lang (item.Blpu s) e = absurd (true≢false (sym e))
on_street usrn lang (item.Xref s) e = absurd (true≢false (sym e))
on_street usrn lang (item.Release s) e = absurd (true≢false (sym e))
on_street usrn lang (item.Adopt s) e = absurd (true≢false (sym e))
on_street usrn lang (item.Lpi l) e =
    let parts = both_parts (is_approved l.status && l.usrn == usrn) _ e in
    let first = both_parts (is_approved l.status) _ parts.0 in
    (l, ap (λ b. cond b (Some l) None) first.0, eqb-true _ _ first.1, parts.1)

any_kept : {X Y : Type 0} (p : Y → Bool) (f : X → Y) (q : X → Bool) (xs : List X) → list_any p (map f (filter q xs)) ≡ list_any (λ x. q x && p (f x)) xs
any_kept p f q [] = refl
any_kept {X} p f q (x ∷ xs) =
    elim (q x) as (λ b. list_any p (map f (cond b (x ∷ filter q xs) (filter q xs))) ≡ ((b && p (f x)) || list_any (λ y. q y && p (f y)) xs)) [
      | true ↦ ap (λ b. p (f x) || b) (any_kept p f q xs)
      | false ↦ any_kept p f q xs
    ]

-- ---- of a BLPU

pub record ApprovedOf (v : View) (uprn : ℕ) (p : Key → Bool) : Type 0 where
  pub key : Key
  pub lpi : LpiValue
  pub at : approved_at v key ≡ Some lpi
  pub its : lpi.uprn ≡ uprn
  pub passes : p key ≡ true

pub of_gives : (v : View) (uprn : ℕ) (p : Key → Bool) → list_any p (approved_of v uprn) ≡ true → ApprovedOf v uprn p
of_gives v uprn p h =
    let some = any_gives keys_total keys_exact (λ e. is_approved_of uprn e.1 && p e.0) v.items (sym (any_kept p (λ (e : Key × Item). e.0) (λ e. is_approved_of uprn e.1) (entries v)) ∙ h) in
    let parts = both_parts (is_approved_of uprn some.value) _ some.passes in
    let l = of_blpu uprn some.value parts.0 in
    record { key = some.key; lpi = l.0; at = ap (option_and_then as_approved) some.got ∙ l.1; its = l.2; passes = parts.1 }

pub of_from : (v : View) (uprn : ℕ) (p : Key → Bool) (k : Key) (l : LpiValue) → approved_at v k ≡ Some l → l.uprn ≡ uprn → p k ≡ true → list_any p (approved_of v uprn) ≡ true
of_from v uprn p k l e its h =
    let at = and_then_gives as_approved (fin.get v.items k) l e in
    let is = an_lpi at.0 l at.2 in
    any_kept p (λ (e : Key × Item). e.0) (λ e. is_approved_of uprn e.1) (entries v)
    ∙ any_from keys_total keys_exact (λ e. is_approved_of uprn e.1 && p e.0) v.items k at.0 at.1
    (joined (is_approved_of uprn at.0) (p k) (ap (is_approved_of uprn) is.0 ∙ joined _ _ is.1 (eq-eqb l.uprn uprn its)) h)

-- some stand where their number isn't 0
some_counted : {X : Type 0} (xs : List X) → not (length xs == 0) ≡ list_any (λ x. true) xs
some_counted [] = refl
some_counted (x ∷ xs) = ap not (false_by (length (x ∷ xs) == 0) (λ e. let none : length (x ∷ xs) ≡ 0 = eqb-true _ _ e in absurd (omega (arith, none))))

pub record SomeOf (v : View) (uprn : ℕ) : Type 0 where
  pub key : Key
  pub lpi : LpiValue
  pub at : approved_at v key ≡ Some lpi
  pub its : lpi.uprn ≡ uprn

pub some_gives : (v : View) (uprn : ℕ) → not (length (approved_of v uprn) == 0) ≡ true → SomeOf v uprn
some_gives v uprn h =
    let some = of_gives v uprn (λ k. true) (sym (some_counted (approved_of v uprn)) ∙ h) in
    record { key = some.key; lpi = some.lpi; at = some.at; its = some.its }

pub some_from : (v : View) (uprn : ℕ) (k : Key) (l : LpiValue) → approved_at v k ≡ Some l → l.uprn ≡ uprn → not (length (approved_of v uprn) == 0) ≡ true
some_from v uprn k l e its = some_counted (approved_of v uprn) ∙ of_from v uprn (λ k. true) k l e its refl

-- ---- on a street

pub record ApprovedOn (v : View) (usrn : ℕ) (lang : Option Lang) : Type 0 where
  pub key : Key
  pub lpi : LpiValue
  pub at : approved_at v key ≡ Some lpi
  pub its : lpi.usrn ≡ usrn
  pub speaks : is_in lang lpi.lang ≡ true

pub on_gives : (v : View) (usrn : ℕ) (lang : Option Lang) → approved_on v usrn lang ≡ true → ApprovedOn v usrn lang
on_gives v usrn lang h =
    let some = any_gives keys_total keys_exact (λ e. is_approved_on usrn lang e.1) v.items h in
    let l = on_street usrn lang some.value some.passes in
    record { key = some.key; lpi = l.0; at = ap (option_and_then as_approved) some.got ∙ l.1; its = l.2; speaks = l.3 }

pub on_from : (v : View) (usrn : ℕ) (lang : Option Lang) (k : Key) (l : LpiValue) → approved_at v k ≡ Some l → l.usrn ≡ usrn → is_in lang l.lang ≡ true → approved_on v usrn lang ≡ true
on_from v usrn lang k l e its speaks =
    let at = and_then_gives as_approved (fin.get v.items k) l e in
    let is = an_lpi at.0 l at.2 in
    any_from keys_total keys_exact (λ e. is_approved_on usrn lang e.1) v.items k at.0 at.1
    (ap (is_approved_on usrn lang) is.0 ∙ joined _ _ (joined _ _ is.1 (eq-eqb l.usrn usrn its)) speaks)
