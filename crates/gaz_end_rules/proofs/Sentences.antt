-- That the tests of items say what the sentences say.
use Rattle.std.proofs.Common.{◌≡◌, ℕ, Bool, true, false, cond, not, List, [], ◌∷◌, ◌++◌, refl, sym, ap, ◌∙◌, true≢false, is_some, is_none}
use Rattle.std.specs.Prelude.{◌↔◌, Option, Some, None}
use Rattle.std.specs.Option.{option_and_then}
use Rattle.std.specs.List.{find}
use Rattle.std.specs.FinMap as fin
use Rattle.std.proofs.lemmas.List.Elements.{All-cons, All-nil}
use Rattle.gaz_ids.specs.declared.status.Status.{Status}
use Rattle.gaz_ids.specs.declared.status.Status.TheVariants.{Approved, Alternative, Historical, Provisional}
use Rattle.gaz_records.specs.Lpis.{LpiValue}
use Rattle.gaz_records.specs.Streets.{StreetValue}
use Rattle.gaz_records.specs.declared.item.Item.{Item}
use Rattle.gaz_records.specs.declared.item.Item.TheVariants as item
use Rattle.gaz_records.specs.declared.key.Key.{Key}
use Rattle.gaz_records.specs.declared.key.Key.TheVariants as key
use Rattle.gaz_views.specs.View.{View, holds}
use Rattle.gaz_views.specs.Words.{blpu_named, is_approved}
use Rattle.gaz_end_rules.specs.EndRules.{approved_at, as_approved, as_blpu, as_street, blpu_at, found_in, if_some, is_closed, is_historical, is_past, is_second, lacks_blpu, lacks_descriptor, lacks_street, names_closed, names_past, same_key, street_at}
use Rattle.gaz_end_rules.specs.Sentences.{HasSecond, HaveNone, IsApprovedLpi, IsClosedStreet, IsFirstWith, IsPastBlpu, LacksBlpu, NamesClosed, NamesNowhere, NamesPast, NamesUnnamed, views_in_turn}
use Rattle.gaz_end_rules.proofs.Approved.{an_lpi, of_from, of_gives}
use Rattle.gaz_end_rules.proofs.Keys.{key_itself, key_tied}
use Rattle.gaz_end_rules.proofs.Ties.{a_blpu}
use Rattle.gaz_end_rules.proofs.Elements.{all_first, all_rest}
use Rattle.gaz_end_rules.proofs.Booleans.{and_then_gives, false_by, no_false, not_true, passes_some, some_passes}

-- ---- what stands in a view

approved_is : (s : Status) → is_approved s ≡ true → s ≡ Approved
approved_is Approved e = refl
approved_is Alternative e = absurd (true≢false (sym e))
approved_is Provisional e = absurd (true≢false (sym e))
approved_is Historical e = absurd (true≢false (sym e))

historical_is : (s : Status) → is_historical s ≡ true → s ≡ Historical
historical_is Historical e = refl
historical_is Alternative e = absurd (true≢false (sym e))
historical_is Provisional e = absurd (true≢false (sym e))
historical_is Approved e = absurd (true≢false (sym e))

pub lpi_told : (v : View) (k : Key) (l : LpiValue) → approved_at v k ≡ Some l → IsApprovedLpi v k l
lpi_told v k l e =
    let at = and_then_gives as_approved (fin.get v.items k) l e in
    let is = an_lpi at.0 l at.2 in
    record { there = at.1 ∙ ap Some is.0; approved = approved_is l.status is.1 }

pub lpi_at : (v : View) (k : Key) (l : LpiValue) → IsApprovedLpi v k l → approved_at v k ≡ Some l
lpi_at v k l is =
    ap (option_and_then as_approved) is.there ∙ ap (λ s. cond (is_approved s) (Some l) None) is.approved

a_street : (i : Item) (s : StreetValue) → as_street i ≡ Some s → i ≡ item.Street s
a_street (item.Street t) s e = let is : t ≡ s = cc in ap item.Street is
a_street (item.Descriptor t) s e = cc
a_street (item.Blpu t) s e = cc
a_street (item.Xref t) s e = cc
a_street (item.Lpi t) s e = cc
a_street (item.Release t) s e = cc
a_street (item.Adopt t) s e = cc

some_value : {T : Type 0} (o : Option T) → is_some o ≡ true → (x : T) × (o ≡ Some x)
some_value None e = absurd (true≢false (sym e))
some_value (Some x) e = (x, refl)

no_value : {T : Type 0} (o : Option T) → is_none o ≡ true → o ≡ None
no_value None e = refl
no_value (Some x) e = absurd (true≢false (sym e))

pub unheld_none : (v : View) (k : Key) → not (holds v k) ≡ true → fin.get v.items k ≡ None
unheld_none v k h =
    elim (fin.get v.items k) as (λ o. not (is_some o) ≡ true → o ≡ None) [ None ↦ λ _. refl | Some i ↦ λ e. absurd (true≢false (sym e)) ] h

pub closed_told : (v : View) (usrn : ℕ) → is_closed v usrn ≡ true → IsClosedStreet v usrn
closed_told v usrn h =
    let s = some_passes (street_at v usrn) (λ s. is_some s.end) h in
    let at = and_then_gives as_street (fin.get v.items (key.Street usrn)) s.0 s.1 in
    let day = some_value s.0.end s.2 in
    record { street = s.0; day = day.0; there = at.1 ∙ ap Some (a_street at.0 s.0 at.2); ended = day.1 }

pub closed_from : (v : View) (usrn : ℕ) → IsClosedStreet v usrn → is_closed v usrn ≡ true
closed_from v usrn is = passes_some (street_at v usrn) (λ s. is_some s.end) is.street (ap (option_and_then as_street) is.there) (ap is_some is.ended)

pub past_told : (v : View) (uprn : ℕ) → is_past v uprn ≡ true → IsPastBlpu v uprn
past_told v uprn h =
    let b = some_passes (blpu_at v uprn) (λ b. is_historical b.status) h in
    let at = and_then_gives as_blpu (fin.get v.items (key.Blpu uprn)) b.0 b.1 in
    record { blpu = b.0; there = at.1 ∙ ap Some (a_blpu at.0 b.0 at.2); historical = historical_is b.0.status b.2 }

pub past_from : (v : View) (uprn : ℕ) → IsPastBlpu v uprn → is_past v uprn ≡ true
past_from v uprn is = passes_some (blpu_at v uprn) (λ b. is_historical b.status) is.blpu (ap (option_and_then as_blpu) is.there) (ap is_historical is.historical)

-- ---- where a street is found

abbrev has : ℕ → View → Bool
has usrn u = holds u (key.Street usrn)

abbrev misses : ℕ → View → Type 0
misses usrn u = holds u (key.Street usrn) ≡ false

first_told : (views : List View) (usrn : ℕ) (w : View) → find (has usrn) views ≡ Some w → IsFirstWith views usrn w
first_told [] usrn w e = cc
first_told (u ∷ us) usrn w e =
    elim (has usrn u) as (λ b. has usrn u ≡ b → cond b (Some u) (find (has usrn) us) ≡ Some w → IsFirstWith (u ∷ us) usrn w) [
      | true ↦ λ is same.
          let one : u ≡ w = cc in
          record { before = []; after = us; in_turn = ap (λ x. x ∷ us) one; none_before = All-nil (misses usrn); has = ap (has usrn) (sym one) ∙ is }
      | false ↦ λ is later.
          let rest = first_told us usrn w later in
          record { before = u ∷ rest.before; after = rest.after; in_turn = ap (λ l. u ∷ l) rest.in_turn; none_before = All-cons (misses usrn) u rest.before is rest.none_before; has = rest.has }
    ] refl e

first_from : (before after : List View) (usrn : ℕ) (w : View) → HaveNone before usrn → has usrn w ≡ true → find (has usrn) (before ++ w ∷ after) ≡ Some w
first_from [] after usrn w none is = ap (λ b. cond b (Some w) (find (has usrn) after)) is
first_from (u ∷ us) after usrn w none is =
    ap (λ b. cond b (Some u) (find (has usrn) (us ++ w ∷ after))) (all_first (misses usrn) u us none)
    ∙ first_from us after usrn w (all_rest (misses usrn) u us none) is

none_told : (views : List View) (usrn : ℕ) → find (has usrn) views ≡ None → HaveNone views usrn
none_told [] usrn e = All-nil (misses usrn)
none_told (u ∷ us) usrn e =
    elim (has usrn u) as (λ b. has usrn u ≡ b → cond b (Some u) (find (has usrn) us) ≡ None → HaveNone (u ∷ us) usrn) [
      | true ↦ λ _ no. cc
      | false ↦ λ is later. All-cons (misses usrn) u us is (none_told us usrn later)
    ] refl e

none_from : (views : List View) (usrn : ℕ) → HaveNone views usrn → find (has usrn) views ≡ None
none_from [] usrn none = refl
none_from (u ∷ us) usrn none =
    ap (λ b. cond b (Some u) (find (has usrn) us)) (all_first (misses usrn) u us none) ∙ none_from us usrn (all_rest (misses usrn) u us none)

pub found_says : (v w : View) (out : List (ℕ × View)) (usrn : ℕ) → (found_in v out usrn ≡ Some w) ↔ IsFirstWith (views_in_turn v out) usrn w
found_says v w out usrn = (
  first_told (views_in_turn v out) usrn w,
  λ is. ap (find (has usrn)) is.in_turn ∙ first_from is.before is.after usrn w is.none_before is.has,
)

pub nowhere_says : (v : View) (out : List (ℕ × View)) (usrn : ℕ) → (found_in v out usrn ≡ None) ↔ HaveNone (views_in_turn v out) usrn
nowhere_says v out usrn = (none_told (views_in_turn v out) usrn, none_from (views_in_turn v out) usrn)

-- ---- the rules

pub second_says : (v : View) (k : Key) → (is_second v k ≡ true) ↔ HasSecond v k
second_says v k = (told, from)
  where
    told : is_second v k ≡ true → HasSecond v k
    told h =
        let l = some_passes (approved_at v k) (λ l. _) h in
        let other = of_gives v l.0.uprn (λ m. not (same_key m k)) l.2 in
        record {
          lpi = l.0;
          other_key = other.key;
          other = other.lpi;
          there = lpi_told v k l.0 l.1;
          other_there = lpi_told v other.key other.lpi other.at;
          another = λ same. no_false (same_key other.key k) (ap (λ q. same_key q k) same ∙ key_itself k) (not_true _ other.passes);
          same_blpu = other.its;
        }

    from : HasSecond v k → is_second v k ≡ true
    from is =
        passes_some (approved_at v k) (λ l. _) is.lpi (lpi_at v k is.lpi is.there)
        (of_from v is.lpi.uprn (λ m. not (same_key m k)) is.other_key is.other (lpi_at v is.other_key is.other is.other_there) is.same_blpu
        (ap not (false_by (same_key is.other_key k) (λ tied. is.another (key_tied is.other_key k tied)))))

pub blpu_says : (v : View) (k : Key) → (lacks_blpu v k ≡ true) ↔ LacksBlpu v k
blpu_says v k = (
  λ h.
      let uprn = some_passes (option_and_then blpu_named (fin.get v.items k)) (λ n. not (holds v (key.Blpu n))) h in
      let i = and_then_gives blpu_named (fin.get v.items k) uprn.0 uprn.1 in
      record { item = i.0; uprn = uprn.0; there = i.1; names = i.2; gone = unheld_none v (key.Blpu uprn.0) uprn.2 },
  λ is. passes_some (option_and_then blpu_named (fin.get v.items k)) (λ n. not (holds v (key.Blpu n))) is.uprn
      (ap (option_and_then blpu_named) is.there ∙ is.names) (ap (λ o. not (is_some o)) is.gone),
)

pub street_says : (v : View) (out : List (ℕ × View)) (k : Key) → (lacks_street v out k ≡ true) ↔ NamesNowhere v out k
street_says v out k = (
  λ h.
      let l = some_passes (approved_at v k) (λ l. is_none (found_in v out l.usrn)) h in
      record { lpi = l.0; there = lpi_told v k l.0 l.1; nowhere = none_told (views_in_turn v out) l.0.usrn (no_value _ l.2) },
  λ is. passes_some (approved_at v k) (λ l. is_none (found_in v out l.usrn)) is.lpi (lpi_at v k is.lpi is.there) (ap is_none (none_from (views_in_turn v out) is.lpi.usrn is.nowhere)),
)

pub open_says : (v : View) (out : List (ℕ × View)) (k : Key) → (names_closed v out k ≡ true) ↔ NamesClosed v out k
open_says v out k = (
  λ h.
      let l = some_passes (approved_at v k) (λ l. if_some (found_in v out l.usrn) (λ w. is_closed w l.usrn)) h in
      let w = some_passes (found_in v out l.0.usrn) (λ w. is_closed w l.0.usrn) l.2 in
      record { lpi = l.0; found = w.0; there = lpi_told v k l.0 l.1; first = (found_says v w.0 out l.0.usrn).0 w.1; closed = closed_told w.0 l.0.usrn w.2 },
  λ is. passes_some (approved_at v k) (λ l. if_some (found_in v out l.usrn) (λ w. is_closed w l.usrn)) is.lpi (lpi_at v k is.lpi is.there)
      (passes_some (found_in v out is.lpi.usrn) (λ w. is_closed w is.lpi.usrn) is.found ((found_says v is.found out is.lpi.usrn).1 is.first) (closed_from is.found is.lpi.usrn is.closed)),
)

pub descriptor_says : (v : View) (out : List (ℕ × View)) (k : Key) → (lacks_descriptor v out k ≡ true) ↔ NamesUnnamed v out k
descriptor_says v out k = (
  λ h.
      let l = some_passes (approved_at v k) (λ l. if_some (found_in v out l.usrn) (λ w. not (holds w (key.Descriptor l.usrn l.lang)))) h in
      let w = some_passes (found_in v out l.0.usrn) (λ w. not (holds w (key.Descriptor l.0.usrn l.0.lang))) l.2 in
      record { lpi = l.0; found = w.0; there = lpi_told v k l.0 l.1; first = (found_says v w.0 out l.0.usrn).0 w.1; unnamed = not_true _ w.2 },
  λ is. passes_some (approved_at v k) (λ l. if_some (found_in v out l.usrn) (λ w. not (holds w (key.Descriptor l.usrn l.lang)))) is.lpi (lpi_at v k is.lpi is.there)
      (passes_some (found_in v out is.lpi.usrn) (λ w. not (holds w (key.Descriptor is.lpi.usrn is.lpi.lang))) is.found ((found_says v is.found out is.lpi.usrn).1 is.first) (ap not is.unnamed)),
)

pub names_past_says : (v : View) (k : Key) → (names_past v k ≡ true) ↔ NamesPast v k
names_past_says v k = (
  λ h.
      let l = some_passes (approved_at v k) (λ l. is_past v l.uprn) h in
      record { lpi = l.0; there = lpi_told v k l.0 l.1; past = past_told v l.0.uprn l.2 },
  λ is. passes_some (approved_at v k) (λ l. is_past v l.uprn) is.lpi (lpi_at v k is.lpi is.there) (past_from v is.lpi.uprn is.past),
)
