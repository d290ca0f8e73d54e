-- What an applied file did, and that judging keeps a view sound.
use Rattle.std.proofs.Common.{◌≡◌, ◌≢◌, ℕ, Bool, true, false, cond, ◌||◌, List, [], ◌∷◌, ◌++◌, refl, sym, ap, ◌∙◌, subst, true≢false, is_some, eqb-true, eq-eqb}
use Rattle.std.specs.Prelude.{Option, Some, None, fold}
use Rattle.std.specs.List.{cons_option, filter_map, list_any}
use Rattle.std.specs.Cmp.{nat_cmp_total, unsigned_tied}
use Rattle.std.specs.Ordering.{eq_by_cmp, nat_cmp}
use Rattle.std.specs.FinMap as map
use Rattle.std.specs.FinSet as set
use Rattle.gaz_records.proofs.KeyOrder.{keys_total}
use Rattle.gaz_records.specs.Blpus.{BlpuValue}
use Rattle.gaz_records.specs.Items.{is_entry}
use Rattle.gaz_records.specs.Keys.{key_of}
use Rattle.gaz_records.specs.declared.item.Item.{Item}
use Rattle.gaz_records.specs.declared.item.Item.TheVariants as item
use Rattle.gaz_records.specs.declared.key.Key.{Key}
use Rattle.gaz_records.specs.declared.key.Key.TheVariants as key
use Rattle.gaz_changefile.specs.Reading.{Reading, Good, Bad}
use Rattle.gaz_changefile.specs.declared.action.Action.{Action}
use Rattle.gaz_changefile.specs.declared.action.Action.TheVariants.{Insert, Update, Delete}
use Rattle.gaz_changefile.specs.declared.change.Change.{Change}
use Rattle.gaz_register.specs.Registers.{Blocks, within}
use Rattle.gaz_views.specs.Custody.{is_holding}
use Rattle.gaz_views.specs.View.{View, custody_at, holds, was_used, with_adoption, with_item, with_release, without_key}
use Rattle.gaz_views.specs.declared.custody.Custody.{Custody}
use Rattle.gaz_views.specs.declared.custody.Custody.TheVariants.{Adopted, Released}
use Rattle.gaz_rules.specs.Rules.{effect, effect_of, entry_effect, holds_number, is_outside, record_rules, stays, takes_what_stays}
use Rattle.gaz_changefile.specs.Rules.{first_broken}
use Rattle.gaz_end_rules.specs.EndRules.{end_rules, same_key}
use Rattle.gaz_rules.specs.Judging.{Fault, end_faults, fault_at, judge, judged_by_faults, record_faults, with_views}
use Rattle.gaz_rules.specs.Sound.{HoldsOwn, IsSound}
use Rattle.gaz_end_rules.proofs.Keys.{key_itself, key_tied}
use Rattle.gaz_rules.proofs.Soundness.{AllFalse, IsForeign, Keeps, keeps_all, sound_after}
use Rattle.gaz_end_rules.proofs.Booleans.{by_test, false_by, neither, no_false, not_false, or_true}

-- ---- from no faults

pub none_broken : (rules : List (ℕ × Bool)) → first_broken rules ≡ None → AllFalse rules
none_broken [] e = tt
none_broken ((n, true) ∷ rules) e = cc
none_broken ((n, false) ∷ rules) e = (refl, none_broken rules e)

pub both_empty : {X : Type 0} (xs ys : List X) → xs ++ ys ≡ [] → (xs ≡ []) × (ys ≡ [])
both_empty [] ys e = (refl, e)
both_empty (x ∷ xs) ys e = cc

first_none : {X Y : Type 0} (f : X → Option Y) (x : X) (xs : List X) → filter_map f (x ∷ xs) ≡ [] → (f x ≡ None) × (filter_map f xs ≡ [])
first_none f x xs e =
    elim (f x) as (λ o. f x ≡ o → (cons_option o (filter_map f xs)) ≡ [] → (f x ≡ None) × (filter_map f xs ≡ [])) [
      | None ↦ λ is rest. (is, rest)
      | Some y ↦ λ _ no. cc
    ] refl e

no_fault : (place : ℕ) (rule : Option ℕ) → fault_at place rule ≡ None → rule ≡ None
no_fault place None e = refl
no_fault place (Some r) e = cc

-- ---- what a change keeps

pub record Kept (own : Blocks) (v w : View) : Type 0 where
  pub streets_stay : (n : ℕ) → holds v (key.Street n) ≡ true → holds w (key.Street n) ≡ true
  pub own_streets : ((n : ℕ) → holds v (key.Street n) ≡ true → within own.usrn n ≡ true) → (n : ℕ) → holds w (key.Street n) ≡ true → within own.usrn n ≡ true
  pub own_blpus : HoldsOwn own v → HoldsOwn own w
  pub keyed : ((k : Key) (i : Item) → map.get v.items k ≡ Some i → key_of i ≡ k) → (k : Key) (i : Item) → map.get w.items k ≡ Some i → key_of i ≡ k
  pub used : ((k : Key) → holds v k ≡ true → was_used v k ≡ true) → (k : Key) → holds w k ≡ true → was_used w k ≡ true

kept_itself : (own : Blocks) (v : View) → Kept own v v
kept_itself own v = record { streets_stay = λ n h. h; own_streets = λ all. all; own_blpus = λ all. all; keyed = λ all. all; used = λ all. all }

kept_on : (own : Blocks) (u v w : View) → Kept own u v → Kept own v w → Kept own u w
kept_on own u v w a b =
    record {
      streets_stay = λ n h. b.streets_stay n (a.streets_stay n h);
      own_streets = λ all. b.own_streets (a.own_streets all);
      own_blpus = λ all. b.own_blpus (a.own_blpus all);
      keyed = λ all. b.keyed (a.keyed all);
      used = λ all. b.used (a.used all);
    }

after_put : (v : View) (i : Item) (k : Key) → map.get (with_item v i).items k ≡ cond (same_key k (key_of i)) (Some i) (map.get v.items k)
after_put v i k = map.get-insert keys_total v.items (key_of i) i k

after_take : (v : View) (k q : Key) → map.get (without_key v k).items q ≡ cond (same_key q k) None (map.get v.items q)
after_take v k q = map.get-remove keys_total v.items k q

still_some : {T : Type 0} (b : Bool) (x : T) (o : Option T) → is_some o ≡ true → is_some (cond b (Some x) o) ≡ true
still_some true x o h = refl
still_some false x o h = h

own_number : (own : Blocks) (v : View) (i : Item) (n : ℕ) → key.Street n ≡ key_of i → is_outside own v i ≡ false → within own.usrn n ≡ true
own_number own v (item.Street s) n e h =
    let is : n ≡ s.usrn = cc in
    ap (within own.usrn) is ∙ not_false _ h
own_number own v (item.Descriptor s) n e h = cc
own_number own v (item.Blpu s) n e h = cc
own_number own v (item.Xref s) n e h = cc
own_number own v (item.Lpi s) n e h = cc
own_number own v (item.Release s) n e h = cc
own_number own v (item.Adopt s) n e h = cc

held_property : (own : Blocks) (v : View) (i : Item) (n : ℕ) → is_entry i ≡ true → key.Blpu n ≡ key_of i → is_outside own v i ≡ false → holds_number own v n ≡ true
held_property own v (item.Street s) n entry e h = cc
held_property own v (item.Descriptor s) n entry e h = cc
held_property own v (item.Blpu s) n entry e h =
    let is : n ≡ s.uprn = cc in
    ap (holds_number own v) is ∙ not_false _ h
held_property own v (item.Xref s) n entry e h = cc
held_property own v (item.Lpi s) n entry e h = cc
held_property own v (item.Release s) n entry e h = absurd (true≢false (sym entry))
held_property own v (item.Adopt s) n entry e h = absurd (true≢false (sym entry))

put_kept : (own : Blocks) (v : View) (i : Item) → is_entry i ≡ true → is_outside own v i ≡ false → Kept own v (with_item v i)
put_kept own v i entry fits =
    record {
      streets_stay = λ n h. ap is_some (after_put v i (key.Street n)) ∙ still_some (same_key (key.Street n) (key_of i)) i _ h;
      own_streets = λ all n h.
          elim (same_key (key.Street n) (key_of i)) as (λ b. same_key (key.Street n) (key_of i) ≡ b → is_some (cond b (Some i) (map.get v.items (key.Street n))) ≡ true → within own.usrn n ≡ true) [
            | true ↦ λ e _. own_number own v i n (key_tied _ _ e) fits
            | false ↦ λ _ there. all n there
          ] refl (sym (ap is_some (after_put v i (key.Street n))) ∙ h);
      own_blpus = λ all n h.
          elim (same_key (key.Blpu n) (key_of i)) as (λ b. same_key (key.Blpu n) (key_of i) ≡ b → is_some (cond b (Some i) (map.get v.items (key.Blpu n))) ≡ true → holds_number own v n ≡ true) [
            | true ↦ λ e _. held_property own v i n entry (key_tied _ _ e) fits
            | false ↦ λ _ there. all n there
          ] refl (sym (ap is_some (after_put v i (key.Blpu n))) ∙ h);
      used = λ all k h.
          set.contains-insert keys_total v.used (key_of i) k
          ∙ elim (same_key k (key_of i)) as (λ b. is_some (cond b (Some i) (map.get v.items k)) ≡ true → (b || was_used v k) ≡ true) [
            | true ↦ λ _. refl
            | false ↦ λ there. all k there
          ] (sym (ap is_some (after_put v i k)) ∙ h);
      keyed = λ all k j h.
          elim (same_key k (key_of i)) as (λ b. same_key k (key_of i) ≡ b → cond b (Some i) (map.get v.items k) ≡ Some j → key_of j ≡ k) [
            | true ↦ λ e is. let same : i ≡ j = cc in ap key_of (sym same) ∙ sym (key_tied _ _ e)
            | false ↦ λ _ there. all k j there
          ] refl (sym (after_put v i k) ∙ h);
    }

other_keys : (a b : Key) → a ≢ b → same_key a b ≡ false
other_keys a b apart = false_by _ (λ e. apart (key_tied a b e))

no_street : (i : Item) (n : ℕ) → stays i ≡ false → same_key (key.Street n) (key_of i) ≡ false
no_street (item.Street s) n h = absurd (true≢false h)
no_street (item.Descriptor s) n h = other_keys (key.Street n) (key_of (item.Descriptor s)) (λ e. cc)
no_street (item.Blpu s) n h = absurd (true≢false h)
no_street (item.Xref s) n h = other_keys (key.Street n) (key_of (item.Xref s)) (λ e. cc)
no_street (item.Lpi s) n h = other_keys (key.Street n) (key_of (item.Lpi s)) (λ e. cc)
no_street (item.Release s) n h = other_keys (key.Street n) (key_of (item.Release s)) (λ e. cc)
no_street (item.Adopt s) n h = other_keys (key.Street n) (key_of (item.Adopt s)) (λ e. cc)

taken_was : {T : Type 0} (b : Bool) (o : Option T) (x : T) → cond b None o ≡ Some x → o ≡ Some x
taken_was true o x h = cc
taken_was false o x h = h

taken_some : {T : Type 0} (b : Bool) (o : Option T) → is_some (cond b None o) ≡ true → is_some o ≡ true
taken_some true o h = absurd (true≢false (sym h))
taken_some false o h = h

take_kept : (own : Blocks) (v : View) (i : Item) → stays i ≡ false → Kept own v (without_key v (key_of i))
take_kept own v i fits =
    record {
      streets_stay = λ n h. ap is_some (after_take v (key_of i) (key.Street n) ∙ ap (λ b. cond b None (map.get v.items (key.Street n))) (no_street i n fits)) ∙ h;
      own_streets = λ all n h. all n (taken_some (same_key (key.Street n) (key_of i)) _ (sym (ap is_some (after_take v (key_of i) (key.Street n))) ∙ h));
      own_blpus = λ all n h. all n (taken_some (same_key (key.Blpu n) (key_of i)) _ (sym (ap is_some (after_take v (key_of i) (key.Blpu n))) ∙ h));
      used = λ all k h. all k (taken_some (same_key k (key_of i)) _ (sym (ap is_some (after_take v (key_of i) k)) ∙ h));
      keyed = λ all k j h. all k j (taken_was (same_key k (key_of i)) _ j (sym (after_take v (key_of i) k) ∙ h));
    }

entry_kept : (own : Blocks) (v : View) (a : Action) (i : Item) → is_entry i ≡ true → is_outside own v i ≡ false → takes_what_stays a i ≡ false → Kept own v (entry_effect a v i)
entry_kept own v Insert i entry own_number fits = put_kept own v i entry own_number
entry_kept own v Update i entry own_number fits = put_kept own v i entry own_number
entry_kept own v Delete i entry own_number fits = take_kept own v i fits

-- ---- numbers that pass on

-- a number's key, and the number
keys_apart : (n m : ℕ) → same_key (key.Blpu n) (key.Blpu m) ≡ false → eq_by_cmp nat_cmp n m ≡ false
keys_apart n m apart =
    false_by _ (λ t.
    let is : n ≡ m = eqb-true n m (sym (unsigned_tied n m) ∙ t) in
    no_false _ (ap (λ x. same_key (key.Blpu x) (key.Blpu m)) is ∙ key_itself (key.Blpu m)) apart)

numbers_apart : (n m : ℕ) → eq_by_cmp nat_cmp n m ≡ false → same_key (key.Blpu n) (key.Blpu m) ≡ false
numbers_apart n m apart =
    false_by _ (λ t.
    let tied = key_tied (key.Blpu n) (key.Blpu m) t in
    let is : n ≡ m = cc in
    no_false _ (unsigned_tied n m ∙ eq-eqb n m is) apart)

pub after_passing : (v : View) (n m : ℕ) (x : Custody) → map.get (map.insert v.custody m x) n ≡ cond (eq_by_cmp nat_cmp n m) (Some x) (custody_at v n)
after_passing v n m x = map.get-insert nat_cmp_total v.custody m x n

release_kept : (own : Blocks) (v : View) (uprn to hop : ℕ) → Kept own v (with_release v uprn to hop)
release_kept own v uprn to hop =
    let k = key.Blpu uprn in
    record {
      streets_stay = λ n h. ap is_some (after_take v k (key.Street n) ∙ ap (λ b. cond b None (map.get v.items (key.Street n))) (other_keys (key.Street n) k (λ e. cc))) ∙ h;
      own_streets = λ all n h. all n (taken_some (same_key (key.Street n) k) _ (sym (ap is_some (after_take v k (key.Street n))) ∙ h));
      own_blpus = λ all n h.
          elim (same_key (key.Blpu n) k) as (λ b. same_key (key.Blpu n) k ≡ b → is_some (cond b None (map.get v.items (key.Blpu n))) ≡ true → holds_number own (with_release v uprn to hop) n ≡ true) [
            | true ↦ λ _ no. absurd (true≢false (sym no))
            | false ↦ λ apart there.
                ap (is_holding (within own.uprn n)) (after_passing v n uprn (Released to hop) ∙ ap (λ b. cond b (Some (Released to hop)) (custody_at v n)) (keys_apart n uprn apart))
                ∙ all n there
          ] refl (sym (ap is_some (after_take v k (key.Blpu n))) ∙ h);
      used = λ all q h.
          set.contains-insert keys_total v.used k q
          ∙ or_true (same_key q k) (was_used v q) (all q (taken_some (same_key q k) _ (sym (ap is_some (after_take v k q)) ∙ h)));
      keyed = λ all q j h. all q j (taken_was (same_key q k) _ j (sym (after_take v k q) ∙ h));
    }

adoption_kept : (own : Blocks) (v : View) (blpu : BlpuValue) (from hop : ℕ) → Kept own v (with_adoption v blpu from hop)
adoption_kept own v blpu from hop =
    let i = item.Blpu blpu in
    let k = key.Blpu blpu.uprn in
    let passing = Adopted from hop in
    record {
      streets_stay = λ n h. ap is_some (after_put v i (key.Street n)) ∙ still_some (same_key (key.Street n) k) i _ h;
      own_streets = λ all n h.
          elim (same_key (key.Street n) k) as (λ b. same_key (key.Street n) k ≡ b → is_some (cond b (Some i) (map.get v.items (key.Street n))) ≡ true → within own.usrn n ≡ true) [
            | true ↦ λ e _. let no = key_tied (key.Street n) k e in cc
            | false ↦ λ _ there. all n there
          ] refl (sym (ap is_some (after_put v i (key.Street n))) ∙ h);
      own_blpus = λ all n h.
          let now = after_passing v n blpu.uprn passing in
          by_test (eq_by_cmp nat_cmp n blpu.uprn)
          (λ same. ap (is_holding (within own.uprn n)) (now ∙ ap (λ b. cond b (Some passing) (custody_at v n)) same))
          (λ apart.
          let there : holds v (key.Blpu n) ≡ true =
          sym (ap is_some (after_put v i (key.Blpu n) ∙ ap (λ b. cond b (Some i) (map.get v.items (key.Blpu n))) (numbers_apart n blpu.uprn apart))) ∙ h in
          ap (is_holding (within own.uprn n)) (now ∙ ap (λ b. cond b (Some passing) (custody_at v n)) apart) ∙ all n there);
      used = λ all q h.
          set.contains-insert keys_total v.used k q
          ∙ elim (same_key q k) as (λ b. is_some (cond b (Some i) (map.get v.items q)) ≡ true → (b || was_used v q) ≡ true) [
            | true ↦ λ _. refl
            | false ↦ λ there. all q there
          ] (sym (ap is_some (after_put v i q)) ∙ h);
      keyed = λ all q j h.
          elim (same_key q k) as (λ b. same_key q k ≡ b → cond b (Some i) (map.get v.items q) ≡ Some j → key_of j ≡ q) [
            | true ↦ λ e is. let same : i ≡ j = cc in ap key_of (sym same) ∙ sym (key_tied _ _ e)
            | false ↦ λ _ there. all q j there
          ] refl (sym (after_put v i q) ∙ h);
    }

step_kept : (c : ℕ) (own : Blocks) (out : List (ℕ × View)) (v : View) (a : Action) (i : Item) → AllFalse (record_rules c own out v a i) → Kept own v (effect_of a v i)
step_kept c own out v a (item.Street s) fits = entry_kept own v a (item.Street s) refl fits.0 fits.1.1.1.0
step_kept c own out v a (item.Descriptor s) fits = entry_kept own v a (item.Descriptor s) refl fits.0 fits.1.1.1.0
step_kept c own out v a (item.Blpu s) fits = entry_kept own v a (item.Blpu s) refl fits.0 fits.1.1.1.0
step_kept c own out v a (item.Xref s) fits = entry_kept own v a (item.Xref s) refl fits.0 fits.1.1.1.0
step_kept c own out v a (item.Lpi s) fits = entry_kept own v a (item.Lpi s) refl fits.0 fits.1.1.1.0
step_kept c own out v a (item.Release r) fits = release_kept own v r.uprn r.to r.hop
step_kept c own out v a (item.Adopt x) fits = adoption_kept own v x.blpu x.from x.hop

pub all_kept : (c : ℕ) (own : Blocks) (out : List (ℕ × View)) (v : View) (cs : List Change) → record_faults c own out v cs ≡ [] → Kept own v (fold effect v cs)
all_kept c own out v [] e = kept_itself own v
all_kept c own out v (ch ∷ cs) e =
    let parts = first_none (λ (s : View × Change). fault_at s.1.place (first_broken (record_rules c own out s.0 s.1.action s.1.item))) (v, ch) (with_views (effect v ch) cs) e in
    let fits = none_broken (record_rules c own out v ch.action ch.item) (no_fault ch.place _ parts.0) in
    kept_on own v (effect v ch) _ (step_kept c own out v ch.action ch.item fits) (all_kept c own out (effect v ch) cs parts.1)

-- ---- which keys a file touches

abbrev pub is_touched : List Change → Key → Bool
is_touched cs k = list_any (λ c. same_key k (key_of c.item)) cs

entry_other : (v : View) (a : Action) (i : Item) (k : Key) → same_key k (key_of i) ≡ false → map.get (entry_effect a v i).items k ≡ map.get v.items k
entry_other v Insert i k h = after_put v i k ∙ ap (λ b. cond b (Some i) (map.get v.items k)) h
entry_other v Update i k h = after_put v i k ∙ ap (λ b. cond b (Some i) (map.get v.items k)) h
entry_other v Delete i k h = after_take v (key_of i) k ∙ ap (λ b. cond b None (map.get v.items k)) h

step_other : (v : View) (a : Action) (i : Item) (k : Key) → same_key k (key_of i) ≡ false → map.get (effect_of a v i).items k ≡ map.get v.items k
step_other v a (item.Street s) k h = entry_other v a (item.Street s) k h
step_other v a (item.Descriptor s) k h = entry_other v a (item.Descriptor s) k h
step_other v a (item.Blpu s) k h = entry_other v a (item.Blpu s) k h
step_other v a (item.Xref s) k h = entry_other v a (item.Xref s) k h
step_other v a (item.Lpi s) k h = entry_other v a (item.Lpi s) k h
step_other v a (item.Release r) k h = after_take v (key.Blpu r.uprn) k ∙ ap (λ b. cond b None (map.get v.items k)) h
step_other v a (item.Adopt x) k h = after_put v (item.Blpu x.blpu) k ∙ ap (λ b. cond b (Some (item.Blpu x.blpu)) (map.get v.items k)) h

all_other : (v : View) (cs : List Change) (k : Key) → is_touched cs k ≡ false → map.get (fold effect v cs).items k ≡ map.get v.items k
all_other v [] k h = refl
all_other v (c ∷ cs) k h =
    let parts = neither (same_key k (key_of c.item)) (is_touched cs k) h in
    all_other (effect v c) cs k parts.1 ∙ step_other v c.action c.item k parts.0

all_checked : (w : View) (out : List (ℕ × View)) (cs : List Change) (k : Key) → is_touched cs k ≡ true → end_faults w out cs ≡ [] → Keeps w out k
all_checked w out [] k t e = absurd (true≢false (sym t))
all_checked w out (c ∷ cs) k t e =
    let parts = first_none (λ (d : Change). fault_at d.place (first_broken (end_rules w out (key_of d.item)))) c cs e in
    by_test (same_key k (key_of c.item))
    (λ same. subst (λ q. Keeps w out q) (sym (key_tied _ _ same)) (keeps_all w out (key_of c.item) (none_broken (end_rules w out (key_of c.item)) (no_fault c.place _ parts.0))))
    (λ other. all_checked w out cs k (sym (ap (λ b. b || is_touched cs k) other) ∙ t) parts.1)

-- ---- judging keeps a view sound

-- what holds of the view before and of that after a file without a fault holds of what judging leaves
pub stays_or_same : (P : View → Type 0) (v w : View) (fs : List Fault) → P v → (fs ≡ [] → P w) → P (judged_by_faults v w fs).view
stays_or_same P v w [] was good = good refl
stays_or_same P v w (f ∷ fs) was good = was

pub judge_sound : (c : ℕ) (own : Blocks) (v : View) (out : List (ℕ × View)) (r : Reading) → IsSound own v → IsForeign own out → IsSound own (judge c own v out r).view
unfolding judge
judge_sound c own v out (Bad place rule) sound foreign = sound
judge_sound c own v out (Good file) sound foreign =
    let cs = file.changes in
    let w = fold effect v cs in
    stays_or_same (IsSound own) v w _ sound (λ none.
    let parts = both_empty (record_faults c own out v cs) (end_faults w out cs) none in
    let kept = all_kept c own out v cs parts.0 in
    sound_after own v w out (is_touched cs) sound foreign
    (record {
      untouched = all_other v cs;
      checked = λ k t. all_checked w out cs k t parts.1;
      streets_stay = kept.streets_stay;
      own_streets = kept.own_streets sound.own_streets;
      keyed = kept.keyed sound.keyed;
      used = kept.used sound.used;
    }))
