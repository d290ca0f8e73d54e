-- That the tests of changes say what the sentences say.
use Rattle.std.proofs.Common.{◌≡◌, ◌≤◌, ◌⊎◌, ℕ, Bool, true, false, nat_eq, not, ◌||◌, ◌&&◌, List, [], ◌∷◌, inl, inr, refl, sym, ap, ◌∙◌, true≢false, is_some, arith}
use Rattle.std.specs.Prelude.{◌↔◌, Option, Some, None, nat_le}
use Rattle.std.specs.Option.{option_map_or}
use Rattle.std.proofs.lemmas.Bool.Decides.{nat_tests}
use Rattle.std.proofs.lemmas.List.Elements.{All-cons, All-nil}
use Rattle.std.specs.FinMap as fin
use Rattle.gaz_records.specs.Items.{is_entry}
use Rattle.gaz_records.specs.Keys.{key_of}
use Rattle.gaz_records.specs.declared.item.Item.{Item}
use Rattle.gaz_records.specs.declared.item.Item.TheVariants as item
use Rattle.gaz_changefile.specs.declared.action.Action.{Action}
use Rattle.gaz_changefile.specs.declared.action.Action.TheVariants.{Insert, Update, Delete}
use Rattle.gaz_register.specs.Registers.{Blocks, within}
use Rattle.gaz_views.specs.Custody.{is_holding}
use Rattle.gaz_views.specs.View.{View, custody_at, holds, was_used}
use Rattle.gaz_views.specs.declared.custody.Custody.{Custody}
use Rattle.gaz_views.specs.declared.custody.Custody.TheVariants.{Adopted, Released}
use Rattle.gaz_views.specs.Words.{same_lang}
use Rattle.gaz_rules.specs.Rules.{holds_number, is_delete, is_insert, is_missing, is_moved, is_outside, is_update, is_used_again, moves_what_stays, stays, takes_what_stays}
use Rattle.gaz_rules.specs.RecordSentences.{ChangesNothing, DeletesWhatStays, HoldsNot, InsertsAgain, IsAnothers, IsInNone, IsStreetOrBlpu, LiesOutside, MovesItem, PassesOn, RecordTestsSay}
use Rattle.gaz_rules.proofs.PassingSentences.{differing_numbers, late_from, late_told, numbers_differ, out_of_turn_from, out_of_turn_told, unreleased_from, unreleased_told}
use Rattle.gaz_end_rules.proofs.Approved.{same_lang_is, same_lang_itself}
use Rattle.gaz_end_rules.proofs.Elements.{all_first, all_rest}
use Rattle.gaz_end_rules.proofs.Sentences.{unheld_none}
use Rattle.gaz_end_rules.proofs.Booleans.{both_false, both_parts, false_by, joined, neither, no_false, not_true, or_true}

-- ---- releases and adoptions, and no others, are no entries

passed_on_says : (i : Item) → (is_entry i ≡ false) ↔ PassesOn i
passed_on_says i = (told i, from i)
  where
    told : (j : Item) → is_entry j ≡ false → PassesOn j
    told (item.Release r) h = inl (r, refl)
    told (item.Adopt a) h = inr (a, refl)
    told (item.Street s) h = absurd (true≢false h)
    told (item.Descriptor d) h = absurd (true≢false h)
    told (item.Blpu b) h = absurd (true≢false h)
    told (item.Xref x) h = absurd (true≢false h)
    told (item.Lpi l) h = absurd (true≢false h)

    from : (j : Item) → PassesOn j → is_entry j ≡ false
    from j (inl r) = ap is_entry r.1
    from j (inr a) = ap is_entry a.1

-- ---- 20

abbrev misses : ℕ → (ℕ × ℕ) → Type 0
misses n b = ((b.0 ≤ n) × (n ≤ b.1)) → ⊥

block_missed : (low high n : ℕ) → (nat_le low n && nat_le n high) ≡ false → misses n (low, high)
block_missed low high n e h =
    let one : low ≤ n = h.0 in
    let two : n ≤ high = h.1 in
    let above : nat_le low n ≡ true = grind (arith, nat_tests) in
    let below : nat_le n high ≡ true = grind (arith, nat_tests) in
    no_false _ (joined _ _ above below) e

block_missing : (low high n : ℕ) → misses n (low, high) → (nat_le low n && nat_le n high) ≡ false
block_missing low high n h =
    false_by _ (λ t.
    let both = both_parts (nat_le low n) (nat_le n high) t in
    let first = both.0 in
    let second = both.1 in
    let above : low ≤ n = grind (arith, nat_tests) in
    let below : n ≤ high = grind (arith, nat_tests) in
    h (above, below))

in_none_told : (blocks : List (ℕ × ℕ)) (n : ℕ) → within blocks n ≡ false → IsInNone blocks n
in_none_told [] n e = All-nil (misses n)
in_none_told (b ∷ bs) n e =
    let parts = neither (nat_le b.0 n && nat_le n b.1) (within bs n) e in
    All-cons (misses n) b bs (block_missed b.0 b.1 n parts.0) (in_none_told bs n parts.1)

in_none_from : (blocks : List (ℕ × ℕ)) (n : ℕ) → IsInNone blocks n → within blocks n ≡ false
in_none_from [] n all = refl
in_none_from (b ∷ bs) n all =
    both_false _ _ (block_missing b.0 b.1 n (all_first (misses n) b bs all)) (in_none_from bs n (all_rest (misses n) b bs all))

pub held_not_says : (own : Blocks) (v : View) (uprn : ℕ) → (holds_number own v uprn ≡ false) ↔ HoldsNot own v uprn
held_not_says own v uprn = (told, from)
  where
    told : holds_number own v uprn ≡ false → HoldsNot own v uprn
    told =
        elim (custody_at v uprn) as (λ o. custody_at v uprn ≡ o → is_holding (within own.uprn uprn) o ≡ false → HoldsNot own v uprn) [
          | None ↦ λ is none. inr (record { nothing = is; outside = in_none_told own.uprn uprn none })
          | Some x ↦ λ is. passed x is
        ] refl
      where
        passed : (x : Custody) → custody_at v uprn ≡ Some x → is_holding (within own.uprn uprn) (Some x) ≡ false → HoldsNot own v uprn
        passed (Released to hop) is h = inl (record { to = to; hop = hop; last = is })
        passed (Adopted from hop) is h = absurd (true≢false h)

    from : HoldsNot own v uprn → holds_number own v uprn ≡ false
    from (inl gone) = ap (is_holding (within own.uprn uprn)) gone.last
    from (inr never) = ap (is_holding (within own.uprn uprn)) never.nothing ∙ in_none_from own.uprn uprn never.outside

not_held : (own : Blocks) (v : View) (uprn : ℕ) → (not (holds_number own v uprn) ≡ true) ↔ HoldsNot own v uprn
not_held own v uprn = let says = held_not_says own v uprn in (λ h. says.0 (not_true _ h), λ is. ap not (says.1 is))

outside_says : (own : Blocks) (v : View) (i : Item) → (is_outside own v i ≡ true) ↔ LiesOutside own v i
outside_says own v (item.Street s) = (λ h. in_none_told own.usrn s.usrn (not_true _ h), λ none. ap not (in_none_from own.usrn s.usrn none))
outside_says own v (item.Blpu b) = not_held own v b.uprn
outside_says own v (item.Release r) = not_held own v r.uprn
outside_says own v (item.Descriptor d) = (λ h. true≢false (sym h), λ none. absurd none)
outside_says own v (item.Xref x) = (λ h. true≢false (sym h), λ none. absurd none)
outside_says own v (item.Lpi l) = (λ h. true≢false (sym h), λ none. absurd none)
outside_says own v (item.Adopt a) = (λ h. true≢false (sym h), λ none. absurd none)

-- ---- 21 and 22

an_insert : (a : Action) → is_insert a ≡ true → a ≡ Insert
an_insert Insert e = refl
an_insert Update e = absurd (true≢false (sym e))
an_insert Delete e = absurd (true≢false (sym e))

an_update : (a : Action) → is_update a ≡ true → a ≡ Update
an_update Insert e = absurd (true≢false (sym e))
an_update Update e = refl
an_update Delete e = absurd (true≢false (sym e))

a_deletion : (a : Action) → is_delete a ≡ true → a ≡ Delete
a_deletion Insert e = absurd (true≢false (sym e))
a_deletion Update e = absurd (true≢false (sym e))
a_deletion Delete e = refl

again_says : (v : View) (a : Action) (i : Item) → (is_used_again v a i ≡ true) ↔ InsertsAgain v a i
again_says v a i = (
  λ h.
      let parts = both_parts (is_entry i && is_insert a) (was_used v (key_of i)) h in
      let first = both_parts (is_entry i) (is_insert a) parts.0 in
      record { entry = first.0; inserts = an_insert a first.1; used = parts.1 },
  λ is. joined _ _ (joined _ _ is.entry (ap is_insert is.inserts)) is.used,
)

missing_says : (v : View) (a : Action) (i : Item) → (is_missing v a i ≡ true) ↔ ChangesNothing v a i
missing_says v a i = (
  λ h.
      let parts = both_parts (is_entry i && not (is_insert a)) (not (holds v (key_of i))) h in
      let first = both_parts (is_entry i) (not (is_insert a)) parts.0 in
      record { entry = first.0; changes = λ e. no_false (is_insert a) (ap is_insert e) (not_true _ first.1); gone = unheld_none v (key_of i) parts.1 },
  λ is. joined _ _ (joined _ _ is.entry (ap not (false_by (is_insert a) (λ t. is.changes (an_insert a t))))) (ap (λ o. not (is_some o)) is.gone),
)

-- ---- 23

stays_told : (i : Item) → stays i ≡ true → IsStreetOrBlpu i
stays_told (item.Street s) h = inl (s, refl)
stays_told (item.Blpu b) h = inr (b, refl)
stays_told (item.Descriptor d) h = absurd (true≢false (sym h))
stays_told (item.Xref x) h = absurd (true≢false (sym h))
stays_told (item.Lpi l) h = absurd (true≢false (sym h))
stays_told (item.Release r) h = absurd (true≢false (sym h))
stays_told (item.Adopt a) h = absurd (true≢false (sym h))

stays_from : (i : Item) → IsStreetOrBlpu i → stays i ≡ true
stays_from i (inl s) = ap stays s.1
stays_from i (inr b) = ap stays b.1

deleted_says : (a : Action) (i : Item) → (takes_what_stays a i ≡ true) ↔ DeletesWhatStays a i
deleted_says a i = (
  λ h. let parts = both_parts (is_delete a) (stays i) h in record { deletes = a_deletion a parts.0; stays = stays_told i parts.1 },
  λ is. joined _ _ (ap is_delete is.deletes) (stays_from i is.stays),
)

-- ---- 24

or_first : (a b : Bool) → a ≡ true → (a || b) ≡ true
or_first a b e = ap (λ x. x || b) e

one_or_other : (a b : Bool) → (a || b) ≡ true → (a ≡ true) ⊎ (b ≡ true)
one_or_other true b e = inl refl
one_or_other false b e = inr e

moved_told : (old new : Item) → is_moved old new ≡ true → IsAnothers old new
moved_told (item.Lpi old) (item.Lpi new) h =
    elim (one_or_other (not (nat_eq new.uprn old.uprn)) (not (same_lang new.lang old.lang)) h) [
      | inl apart ↦ inl (numbers_differ new.uprn old.uprn apart)
      | inr other ↦ inr (λ e. no_false (same_lang new.lang old.lang) (ap (λ l. same_lang l old.lang) e ∙ same_lang_itself old.lang) (not_true _ other))
    ]
moved_told (item.Xref old) (item.Xref new) h = numbers_differ new.uprn old.uprn h
moved_told old new h = true≢false (sym h)

moved_from : (old new : Item) → IsAnothers old new → is_moved old new ≡ true
moved_from (item.Lpi old) (item.Lpi new) (inl apart) = or_first _ _ (differing_numbers new.uprn old.uprn apart)
moved_from (item.Lpi old) (item.Lpi new) (inr other) =
    or_true (not (nat_eq new.uprn old.uprn)) _ (ap not (false_by (same_lang new.lang old.lang) (λ t. other (same_lang_is new.lang old.lang t))))
moved_from (item.Xref old) (item.Xref new) apart = differing_numbers new.uprn old.uprn apart
moved_from old new h = absurd h

there_told : (o : Option Item) (i : Item) → option_map_or (λ old. is_moved old i) o false ≡ true → (old : Item) × (o ≡ Some old) × (is_moved old i ≡ true)
there_told None i h = absurd (true≢false (sym h))
there_told (Some old) i h = (old, refl, h)

moves_says : (v : View) (a : Action) (i : Item) → (moves_what_stays v a i ≡ true) ↔ MovesItem v a i
moves_says v a i = (
  λ h.
      let parts = both_parts (is_update a) (option_map_or (λ old. is_moved old i) (fin.get v.items (key_of i)) false) h in
      let was = there_told (fin.get v.items (key_of i)) i parts.1 in
      record { old = was.0; updates = an_update a parts.0; there = was.1; moved = moved_told was.0 i was.2 },
  λ is. joined _ _ (ap is_update is.updates) (ap (λ o. option_map_or (λ old. is_moved old i) o false) is.there ∙ moved_from is.old i is.moved),
)

pub record_tests_say_holds : RecordTestsSay
record_tests_say_holds =
    record {
      passed_on = passed_on_says;
      held_not = held_not_says;
      outside = outside_says;
      used_again = again_says;
      missing = missing_says;
      deleted = deleted_says;
      moved = moves_says;
      wrong_hop = λ v i. (out_of_turn_told v i, out_of_turn_from v i);
      unreleased = λ c out i. (unreleased_told c out i, unreleased_from c out i);
      stale = λ v i. (late_told v i, late_from v i);
    }
