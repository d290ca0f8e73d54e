-- That a file which passes leaves a sound view sound, though only the keys that it touched were looked at.
use Rattle.std.proofs.Common.{◌≡◌, ◌≢◌, ◌≤◌, ◌<◌, ◌+◌, ◌-◌, ℕ, zero, suc, Bool, true, false, cond, not, ◌&&◌, List, [], ◌∷◌, map, inl, inr, refl, sym, ap, ◌∙◌, is_some, is_none, arith}
use Rattle.std.specs.Prelude.{Some, None}
use Rattle.std.specs.Option.{option_and_then, unwrap_or}
use Rattle.std.specs.List.{find}
use Rattle.std.specs.FinMap as fin
use Rattle.gaz_records.specs.Keys.{key_of}
use Rattle.gaz_records.specs.Lpis.{LpiValue}
use Rattle.gaz_records.specs.declared.item.Item.{Item}
use Rattle.gaz_records.specs.declared.key.Key.{Key}
use Rattle.gaz_records.specs.declared.key.Key.TheVariants as key
use Rattle.gaz_register.specs.Registers.{Blocks, within}
use Rattle.gaz_views.specs.View.{View, holds, was_used}
use Rattle.gaz_views.specs.Words.{blpu_named, has_children, tied}
use Rattle.gaz_end_rules.specs.EndRules.{ancestor, approved_at, as_approved, as_blpu, as_street, closed_under_lpi, end_rules, found_in, if_some, is_closed, is_historical, is_out_of_date, is_own_ancestor, is_past, is_second, is_unnamed, lacks_blpu, lacks_descriptor, lacks_own_street, lacks_parent, lacks_street, leaves_lpi, leaves_parts, leaves_ties, names_closed, names_past, parent_of, past_under_lpi, same_key, street_at}
use Rattle.gaz_rules.specs.Sound.{IsSound}
use Rattle.gaz_end_rules.proofs.Approved.{of_from, of_gives, on_from, on_gives, same_lang_is, same_lang_itself, some_from, some_gives}
use Rattle.gaz_end_rules.proofs.Keys.{key_itself, key_tied}
use Rattle.gaz_end_rules.proofs.Ties.{part_at, parts_from, tied_from}
use Rattle.gaz_end_rules.proofs.ParentRings.{join_chain, ring_breaks, some_below, split_chain}
use Rattle.gaz_end_rules.proofs.Booleans.{and_then_gives, both_false, both_parts, by_test, false_by, joined, neither, no_false, not_false, not_true, passes_some, some_passes, true_by, weaker}

-- ---- what passes

abbrev pub AllFalse : List (ℕ × Bool) → Type 0
AllFalse [] = Unit {0}
AllFalse (r ∷ rules) = (r.1 ≡ false) × AllFalse rules

-- a key breaks no end rule in a view
pub record Keeps (w : View) (out : List (ℕ × View)) (k : Key) : Type 0 where
  pub one_approved : is_second w k ≡ false
  pub blpu_there : lacks_blpu w k ≡ false
  pub no_ties : leaves_ties w k ≡ false
  pub street_found : lacks_street w out k ≡ false
  pub street_open : names_closed w out k ≡ false
  pub described : is_unnamed w out k ≡ false
  pub parent_there : lacks_parent w k ≡ false
  pub no_parts : leaves_parts w k ≡ false
  pub no_ring : is_own_ancestor w k ≡ false
  pub up_to_date : is_out_of_date w k ≡ false
  pub street_there : lacks_own_street w k ≡ false
  pub open_under_lpi : closed_under_lpi w k ≡ false

pub keeps_all : (w : View) (out : List (ℕ × View)) (k : Key) → AllFalse (end_rules w out k) → Keeps w out k
keeps_all w out k h =
    record {
      one_approved = h.0;
      blpu_there = (neither _ _ h.1.0).0;
      no_ties = (neither _ _ h.1.0).1;
      street_found = h.1.1.0;
      street_open = h.1.1.1.0;
      described = h.1.1.1.1.0;
      parent_there = (neither _ _ h.1.1.1.1.1.0).0;
      no_parts = (neither _ _ h.1.1.1.1.1.0).1;
      no_ring = h.1.1.1.1.1.1.0;
      up_to_date = h.1.1.1.1.1.1.1.0;
      street_there = h.1.1.1.1.1.1.1.1.0;
      open_under_lpi = h.1.1.1.1.1.1.1.1.1.0;
    }

-- no basis view has a street of these blocks
pub record IsForeign (own : Blocks) (out : List (ℕ × View)) : Type 0 where
  pub none : (usrn : ℕ) → within own.usrn usrn ≡ true → find (λ u. holds u (key.Street usrn)) (map (λ (b : ℕ × View). b.1) out) ≡ None

-- the view w comes of v by changes of the touched keys alone, and these break no end rule
pub record Passed (own : Blocks) (v w : View) (out : List (ℕ × View)) (touched : Key → Bool) : Type 0 where
  pub untouched : (k : Key) → touched k ≡ false → fin.get w.items k ≡ fin.get v.items k
  pub checked : (k : Key) → touched k ≡ true → Keeps w out k
  pub streets_stay : (usrn : ℕ) → holds v (key.Street usrn) ≡ true → holds w (key.Street usrn) ≡ true
  pub own_streets : (usrn : ℕ) → holds w (key.Street usrn) ≡ true → within own.usrn usrn ≡ true
  pub keyed : (k : Key) (i : Item) → fin.get w.items k ≡ Some i → key_of i ≡ k
  pub used : (k : Key) → holds w k ≡ true → was_used w k ≡ true

module _ (own : Blocks) (v w : View) (out : List (ℕ × View)) (touched : Key → Bool) (sound : IsSound own v) (foreign : IsForeign own out) (passed : Passed own v w out touched) where
  same_approved : (k : Key) → touched k ≡ false → approved_at w k ≡ approved_at v k
  same_approved k u = ap (option_and_then as_approved) (passed.untouched k u)

  same_holds : (k : Key) → touched k ≡ false → holds w k ≡ holds v k
  same_holds k u = ap is_some (passed.untouched k u)

  -- a BLPU that was there stays, or its key is touched, and then nothing names it where it is gone
  still_there : (uprn : ℕ) → (touched (key.Blpu uprn) ≡ true → holds w (key.Blpu uprn) ≡ true) → not (holds v (key.Blpu uprn)) ≡ false → not (holds w (key.Blpu uprn)) ≡ false
  still_there uprn named h =
      ap not (by_test (touched (key.Blpu uprn)) named (λ u. same_holds (key.Blpu uprn) u ∙ not_false _ h))

  -- ---- 30

  second_sound : (k : Key) → is_second w k ≡ false
  second_sound k =
      by_test (touched k) (λ t. (passed.checked k t).one_approved) (λ u. false_by _ (λ broken.
      let l = some_passes (approved_at w k) _ broken in
      let other = of_gives w l.0.uprn (λ m. not (same_key m k)) l.2 in
      let before : approved_at v k ≡ Some l.0 = sym (same_approved k u) ∙ l.1 in
      by_test (touched other.key)
      (λ t.
      let apart : same_key k other.key ≡ false = false_by _ (λ s. no_false (same_key other.key k) (ap (λ q. same_key other.key q) (key_tied k other.key s) ∙ key_itself other.key) (not_true _ other.passes)) in
      no_false (is_second w other.key)
      (passes_some (approved_at w other.key) _ other.lpi other.at
      (of_from w other.lpi.uprn (λ m. not (same_key m other.key)) k l.0 l.1 (sym other.its) (ap not apart)))
      (passed.checked other.key t).one_approved)
      (λ also.
      no_false (is_second v k)
      (passes_some (approved_at v k) _ l.0 before
      (of_from v l.0.uprn (λ m. not (same_key m k)) other.key other.lpi (sym (same_approved other.key also) ∙ other.at) other.its other.passes))
      (sound.one_approved k))))

  -- ---- 31

  tied_there : (uprn : ℕ) → tied w uprn ≡ true → touched (key.Blpu uprn) ≡ true → holds w (key.Blpu uprn) ≡ true
  tied_there uprn ties t =
      true_by _ (λ gone. no_false (leaves_ties w (key.Blpu uprn)) (joined _ _ (ap not gone) ties) (passed.checked (key.Blpu uprn) t).no_ties)

  blpu_sound : (k : Key) → lacks_blpu w k ≡ false
  blpu_sound k =
      by_test (touched k) (λ t. (passed.checked k t).blpu_there)
      (λ u.
      ap (λ o. if_some (option_and_then blpu_named o) (λ uprn. not (holds w (key.Blpu uprn)))) (passed.untouched k u)
      ∙ weaker (option_and_then blpu_named (fin.get v.items k)) (λ uprn. not (holds v (key.Blpu uprn))) _ (λ uprn is there.
      let i = and_then_gives blpu_named (fin.get v.items k) uprn is in
      still_there uprn (tied_there uprn (tied_from w uprn k i.0 (passed.untouched k u ∙ i.1) i.2)) there) (sound.blpu_there k))

  -- ---- 33 and 39

  -- a street that the view has is found in it
  found_here : (u : View) (others : List (ℕ × View)) (usrn : ℕ) → holds u (key.Street usrn) ≡ true → found_in u others usrn ≡ Some u
  found_here u others usrn h = ap (λ b. cond b (Some u) (find (λ x. holds x (key.Street usrn)) (map (λ (b : ℕ × View). b.1) others))) h

  found_alone : (u : View) (usrn : ℕ) → holds u (key.Street usrn) ≡ false → found_in u [] usrn ≡ None
  found_alone u usrn h = ap (λ b. cond b (Some u) None) h

  closed_is_held : (u : View) (usrn : ℕ) → is_closed u usrn ≡ true → holds u (key.Street usrn) ≡ true
  closed_is_held u usrn h =
      let s = some_passes (street_at u usrn) (λ s. is_some s.end) h in
      let i = and_then_gives as_street (fin.get u.items (key.Street usrn)) s.0 s.1 in
      ap is_some i.1

  same_closed : (usrn : ℕ) → touched (key.Street usrn) ≡ false → is_closed w usrn ≡ is_closed v usrn
  same_closed usrn u = ap (λ o. if_some (option_and_then as_street o) (λ s. is_some s.end)) (passed.untouched (key.Street usrn) u)

  open_sound : (k : Key) → closed_under_lpi w k ≡ false
  open_sound (key.Street usrn) =
      by_test (touched (key.Street usrn)) (λ t. (passed.checked (key.Street usrn) t).open_under_lpi)
      (λ u. false_by _ (λ broken.
      let parts = both_parts (is_closed w usrn) _ broken in
      let m = on_gives w usrn None parts.1 in
      by_test (touched m.key)
      (λ t.
      let here : found_in w out m.lpi.usrn ≡ Some w = found_here w out m.lpi.usrn (ap (λ q. holds w (key.Street q)) m.its ∙ closed_is_held w usrn parts.0) in
      no_false (names_closed w out m.key)
      (passes_some (approved_at w m.key) _ m.lpi m.at (passes_some (found_in w out m.lpi.usrn) _ w here (ap (is_closed w) m.its ∙ parts.0)))
      (passed.checked m.key t).street_open)
      (λ also.
      no_false (closed_under_lpi v (key.Street usrn))
      (joined _ _ (sym (same_closed usrn u) ∙ parts.0) (on_from v usrn None m.key m.lpi (sym (same_approved m.key also) ∙ m.at) m.its m.speaks))
      (sound.open_under_lpi (key.Street usrn)))))
  open_sound (key.Descriptor usrn lang) = refl
  open_sound (key.Blpu uprn) = refl
  open_sound (key.Xref text) = refl
  open_sound (key.Lpi text) = refl

  street_sound : (k : Key) → names_closed w [] k ≡ false
  street_sound k = false_by _ (λ broken.
      let l = some_passes (approved_at w k) _ broken in
      let x = some_passes (found_in w [] l.0.usrn) _ l.2 in
      by_test (holds w (key.Street l.0.usrn))
      (λ h.
      let same : Some x.0 ≡ Some w = sym x.1 ∙ found_here w [] l.0.usrn h in
      let is : x.0 ≡ w = cc in
      no_false (closed_under_lpi w (key.Street l.0.usrn))
      (joined _ _ (ap (λ y. is_closed y l.0.usrn) (sym is) ∙ x.2) (on_from w l.0.usrn None k l.0 l.1 refl refl))
      (open_sound (key.Street l.0.usrn)))
      (λ h. let no : Some x.0 ≡ None = sym x.1 ∙ found_alone w l.0.usrn h in cc))

  -- ---- 34

  -- a street of the own blocks that an approved LPI names was there before
  was_there : (usrn : ℕ) (k : Key) (l : LpiValue) → approved_at v k ≡ Some l → l.usrn ≡ usrn → holds w (key.Street usrn) ≡ true → holds v (key.Street usrn) ≡ true
  was_there usrn k l at is h =
      ap (λ q. holds v (key.Street q)) (sym is)
      ∙ sound.own_named k l at (ap (within own.usrn) is ∙ passed.own_streets usrn h)

  describes : (k : Key) → touched k ≡ false → lacks_descriptor w [] k ≡ false
  describes k u = false_by _ (λ broken.
      let l = some_passes (approved_at w k) _ broken in
      let usrn = l.0.usrn in
      let d = key.Descriptor usrn l.0.lang in
      let x = some_passes (found_in w [] usrn) _ l.2 in
      by_test (holds w (key.Street usrn))
      (λ h.
      let same : Some x.0 ≡ Some w = sym x.1 ∙ found_here w [] usrn h in
      let is : x.0 ≡ w = cc in
      let none : holds w d ≡ false = ap (λ y. holds y d) (sym is) ∙ not_true _ x.2 in
      let at_v : approved_at v k ≡ Some l.0 = sym (same_approved k u) ∙ l.1 in
      by_test (touched d)
      (λ t.
      no_false (leaves_lpi w d)
      (joined _ _ (joined _ _ (ap not none) h) (on_from w usrn (Some l.0.lang) k l.0 l.1 refl (same_lang_itself l.0.lang)))
      (neither _ _ (passed.checked d t).described).1)
      (λ also.
      let there : holds v (key.Street usrn) ≡ true = was_there usrn k l.0 at_v refl h in
      no_false (lacks_descriptor v [] k)
      (passes_some (approved_at v k) _ l.0 at_v (passes_some (found_in v [] usrn) _ v (found_here v [] usrn there) (ap not (sym (same_holds d also) ∙ none))))
      (neither _ _ (sound.described k)).0))
      (λ h. let no : Some x.0 ≡ None = sym x.1 ∙ found_alone w usrn h in cc))

  -- what is found with no basis views is found with them
  describes_touched : (k : Key) → lacks_descriptor w out k ≡ false → lacks_descriptor w [] k ≡ false
  describes_touched k h =
      weaker (approved_at w k) _ _ (λ l _ fine. by_test (holds w (key.Street l.usrn))
      (λ there. ap (λ o. if_some o (λ x. not (holds x (key.Descriptor l.usrn l.lang)))) (found_here w [] l.usrn there ∙ sym (found_here w out l.usrn there)) ∙ fine)
      (λ gone. ap (λ o. if_some o (λ x. not (holds x (key.Descriptor l.usrn l.lang)))) (found_alone w l.usrn gone))) h

  leaves : (k : Key) → touched k ≡ false → leaves_lpi w k ≡ false
  leaves (key.Street usrn) u = refl
  leaves (key.Blpu uprn) u = refl
  leaves (key.Xref text) u = refl
  leaves (key.Lpi text) u = refl
  leaves (key.Descriptor usrn lang) u = false_by _ (λ broken.
      let d = key.Descriptor usrn lang in
      let parts = both_parts (not (holds w d) && holds w (key.Street usrn)) _ broken in
      let first = both_parts (not (holds w d)) _ parts.0 in
      let m = on_gives w usrn (Some lang) parts.1 in
      let speaks : m.lpi.lang ≡ lang = same_lang_is _ _ m.speaks in
      by_test (touched m.key)
      (λ t.
      let here : found_in w out m.lpi.usrn ≡ Some w = found_here w out m.lpi.usrn (ap (λ q. holds w (key.Street q)) m.its ∙ first.1) in
      no_false (lacks_descriptor w out m.key)
      (passes_some (approved_at w m.key) _ m.lpi m.at (passes_some (found_in w out m.lpi.usrn) _ w here
      (ap (λ q. not (holds w (key.Descriptor q m.lpi.lang))) m.its ∙ ap (λ q. not (holds w (key.Descriptor usrn q))) speaks ∙ first.0)))
      (neither _ _ (passed.checked m.key t).described).0)
      (λ also.
      let at_v = sym (same_approved m.key also) ∙ m.at in
      no_false (leaves_lpi v d)
      (joined _ _ (joined _ _ (ap not (sym (same_holds d u)) ∙ first.0) (was_there usrn m.key m.lpi at_v m.its first.1)) (on_from v usrn (Some lang) m.key m.lpi at_v m.its m.speaks))
      (neither _ _ (sound.described d)).1))

  described_sound : (k : Key) → is_unnamed w [] k ≡ false
  described_sound k =
      by_test (touched k)
      (λ t. let is = neither _ _ (passed.checked k t).described in both_false _ _ (describes_touched k is.0) is.1)
      (λ u. both_false _ _ (describes k u) (leaves k u))

  -- ---- 35

  parted_there : (uprn : ℕ) → has_children w uprn ≡ true → touched (key.Blpu uprn) ≡ true → holds w (key.Blpu uprn) ≡ true
  parted_there uprn parts t =
      true_by _ (λ gone. no_false (leaves_parts w (key.Blpu uprn)) (joined _ _ (ap not gone) parts) (passed.checked (key.Blpu uprn) t).no_parts)

  parent_sound : (k : Key) → lacks_parent w k ≡ false
  parent_sound (key.Street usrn) = refl
  parent_sound (key.Descriptor usrn lang) = refl
  parent_sound (key.Xref text) = refl
  parent_sound (key.Lpi text) = refl
  parent_sound (key.Blpu uprn) =
      by_test (touched (key.Blpu uprn)) (λ t. (passed.checked (key.Blpu uprn) t).parent_there)
      (λ u.
      ap (λ o. if_some (option_and_then (λ b. b.parent) (option_and_then as_blpu o)) (λ p. not (holds w (key.Blpu p)))) (passed.untouched (key.Blpu uprn) u)
      ∙ weaker (parent_of v uprn) (λ p. not (holds v (key.Blpu p))) _ (λ p is there.
      let part = part_at v uprn p is in
      still_there p (parted_there p (parts_from w p (key.Blpu uprn) part.0 (passed.untouched (key.Blpu uprn) u ∙ part.1) part.2)) there) (sound.parent_there (key.Blpu uprn)))

  -- ---- 36

  same_parent : (uprn : ℕ) → touched (key.Blpu uprn) ≡ false → parent_of v uprn ≡ parent_of w uprn
  same_parent uprn u = sym (ap (λ o. option_and_then (λ b. b.parent) (option_and_then as_blpu o)) (passed.untouched (key.Blpu uprn) u))

  same_chain : (k a b : ℕ) → ((t : ℕ) → t < k → touched (key.Blpu (unwrap_or (ancestor w t a) 0)) ≡ false) → ancestor w k a ≡ Some b → ancestor v k a ≡ Some b
  same_chain zero a b u e = e
  same_chain (suc k) a b u e =
      let p = and_then_gives (ancestor w k) (parent_of w a) b e in
      let rest = same_chain k p.0 b (λ t h. ap (λ o. touched (key.Blpu (unwrap_or o 0))) (sym (ap (option_and_then (ancestor w t)) p.1)) ∙ u (suc t) (omega arith)) p.2 in
      ap (option_and_then (ancestor v k)) (same_parent a (u 0 (omega arith)) ∙ p.1) ∙ rest

  ring_sound : (uprn steps : ℕ) → 1 ≤ steps → ancestor w steps uprn ≢ Some uprn
  ring_sound uprn steps h ring =
      elim (some_below (λ t. touched (key.Blpu (unwrap_or (ancestor w t uprn) 0))) steps) [
        | inl one ↦
            let t = one.0 in
            let below : t < steps = one.1 in
            let sum : t + (steps - t) ≡ steps = omega arith in
            let parts = split_chain w t (steps - t) uprn uprn (ap (λ k. ancestor w k uprn) sum ∙ ring) in
            let at : unwrap_or (ancestor w t uprn) 0 ≡ parts.0 = ap (λ o. unwrap_or o 0) parts.1 in
            let round : ancestor w ((steps - t) + t) parts.0 ≡ Some parts.0 = join_chain w (steps - t) t parts.0 uprn parts.0 parts.2 parts.1 in
            let is_touched : touched (key.Blpu parts.0) ≡ true = ap (λ x. touched (key.Blpu x)) (sym at) ∙ one.2 in
            no_false _ (ring_breaks w parts.0 ((steps - t) + t) (omega arith) round) (passed.checked (key.Blpu parts.0) is_touched).no_ring
        | inr none ↦ sound.no_ring uprn steps h (same_chain steps uprn uprn none ring)
      ]

  -- ---- 37

  same_past : (uprn : ℕ) → touched (key.Blpu uprn) ≡ false → is_past w uprn ≡ is_past v uprn
  same_past uprn u = ap (λ o. if_some (option_and_then as_blpu o) (λ b. is_historical b.status)) (passed.untouched (key.Blpu uprn) u)

  names : (k : Key) → touched k ≡ false → names_past w k ≡ false
  names k u = false_by _ (λ broken.
      let l = some_passes (approved_at w k) _ broken in
      let uprn = l.0.uprn in
      by_test (touched (key.Blpu uprn))
      (λ t.
      no_false (past_under_lpi w (key.Blpu uprn))
      (joined _ _ l.2 (some_from w uprn k l.0 l.1 refl))
      (neither _ _ (passed.checked (key.Blpu uprn) t).up_to_date).1)
      (λ also.
      no_false (names_past v k)
      (passes_some (approved_at v k) _ l.0 (sym (same_approved k u) ∙ l.1) (sym (same_past uprn also) ∙ l.2))
      (neither _ _ (sound.up_to_date k)).0))

  under : (k : Key) → touched k ≡ false → past_under_lpi w k ≡ false
  under (key.Street usrn) u = refl
  under (key.Descriptor usrn lang) u = refl
  under (key.Xref text) u = refl
  under (key.Lpi text) u = refl
  under (key.Blpu uprn) u = false_by _ (λ broken.
      let parts = both_parts (is_past w uprn) _ broken in
      let m = some_gives w uprn parts.1 in
      by_test (touched m.key)
      (λ t.
      no_false (names_past w m.key)
      (passes_some (approved_at w m.key) _ m.lpi m.at (ap (is_past w) m.its ∙ parts.0))
      (neither _ _ (passed.checked m.key t).up_to_date).0)
      (λ also.
      no_false (past_under_lpi v (key.Blpu uprn))
      (joined _ _ (sym (same_past uprn u) ∙ parts.0) (some_from v uprn m.key m.lpi (sym (same_approved m.key also) ∙ m.at) m.its))
      (neither _ _ (sound.up_to_date (key.Blpu uprn))).1))

  past_sound : (k : Key) → is_out_of_date w k ≡ false
  past_sound k = by_test (touched k) (λ t. (passed.checked k t).up_to_date) (λ u. both_false _ _ (names k u) (under k u))

  -- ---- 38

  own_street_sound : (k : Key) → lacks_own_street w k ≡ false
  own_street_sound (key.Street usrn) = refl
  own_street_sound (key.Blpu uprn) = refl
  own_street_sound (key.Xref text) = refl
  own_street_sound (key.Lpi text) = refl
  own_street_sound (key.Descriptor usrn lang) =
      let d = key.Descriptor usrn lang in
      by_test (touched d) (λ t. (passed.checked d t).street_there)
      (λ u. false_by _ (λ broken.
      let parts = both_parts (holds w d) _ broken in
      by_test (holds v (key.Street usrn))
      (λ there. no_false (holds w (key.Street usrn)) (passed.streets_stay usrn there) (not_true _ parts.1))
      (λ gone. no_false (lacks_own_street v d) (joined _ _ (sym (same_holds d u) ∙ parts.0) (ap not gone)) (sound.street_there d))))

  -- ---- streets of the own blocks

  named_sound : (k : Key) (l : LpiValue) → approved_at w k ≡ Some l → within own.usrn l.usrn ≡ true → holds w (key.Street l.usrn) ≡ true
  named_sound k l at ours =
      by_test (touched k)
      (λ t. true_by _ (λ gone.
      let nowhere : found_in w out l.usrn ≡ None = ap (λ b. cond b (Some w) (find (λ u. holds u (key.Street l.usrn)) (map (λ (b : ℕ × View). b.1) out))) gone ∙ foreign.none l.usrn ours in
      no_false (lacks_street w out k)
      (passes_some (approved_at w k) _ l at (ap is_none nowhere))
      (passed.checked k t).street_found))
      (λ u. passed.streets_stay l.usrn (sound.own_named k l (sym (same_approved k u) ∙ at) ours))

  pub sound_after : IsSound own w
  sound_after =
      record {
        keyed = passed.keyed;
        used = passed.used;
        one_approved = second_sound;
        blpu_there = blpu_sound;
        street_open = street_sound;
        described = described_sound;
        parent_there = parent_sound;
        no_ring = ring_sound;
        up_to_date = past_sound;
        street_there = own_street_sound;
        open_under_lpi = open_sound;
        own_streets = passed.own_streets;
        own_named = named_sound;
      }
