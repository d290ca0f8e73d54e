-- The phases of a judgement, one step on and together.
use Rattle.std.proofs.Common.{◌≡◌, ◌≤◌, ◌<◌, ◌+◌, ◌⊎◌, inl, inr, ℕ, true, List, [], ◌∷◌, ◌++◌, length, drop, get_or, refl, sym, ap, ◌∙◌, subst, arith}
use Rattle.std.proofs.lemmas.List.{drop_more}
use Rattle.std.specs.Prelude.{⊤, Option, Some, None, Result, Ok, Err, IfOk, IfNone, IsErrAnd, OnOk}
use Rattle.std.specs.List.{cons_option, fold}
use Rattle.gaz_records.specs.Keys.{key_of}
use Rattle.gaz_records.specs.declared.item.Item.{Item}
use Rattle.gaz_changefile.specs.Contents.{Contents}
use Rattle.gaz_changefile.specs.Reading.{Good}
use Rattle.gaz_changefile.specs.declared.change.Basis.{Basis}
use Rattle.gaz_changefile.specs.declared.change.Change.{Change}
use Rattle.gaz_register.specs.Registers.{Blocks}
use Rattle.gaz_keeper.proofs.Faults.{passed_on}
use Rattle.gaz_keeper.specs.Board.{Judgement, last_view}
use Rattle.gaz_views.specs.View.{View}
use Rattle.gaz_keeper.specs.Keeper.{Content, Counts, Enters, Goes, Idle, IsAtHand, IsLeft, IsNotOpen, IsSound, Keeps, LeavesAtMost, LeavesJust, Open, Progress, Reads, Seen, after_abandon, after_begin, after_skip, after_stop, with_judgement}
use Rattle.gaz_keeper.specs.declared.fault.ShelfFault.{ShelfFault}
use Rattle.gaz_keeper.specs.declared.fault.ShelfFault.TheVariants.{Store}
use Rattle.gaz_views.specs.declared.verdict.Verdict.{Verdict}
use Rattle.gaz_views.specs.declared.verdict.Verdict.TheVariants.{Applied, Rejected}
use Rattle.gaz_keeper.proofs.Keeping.{keeps_then, still_open}
use Rattle.gaz_views.proofs.Outcomes.{on_err, on_ok}
use Rattle.gaz_end_rules.specs.Bases.{are_reached, basis_views}
use Rattle.gaz_end_rules.specs.EndRules.{end_rules}
use Rattle.gaz_rules.specs.Judges.{IsReady, Judges}
use Rattle.gaz_rules.specs.Judging.{Fault, end_faults, fault_at, judge, judged_by_faults, judged_on, record_faults}
use Rattle.gaz_end_rules.specs.Knowing.{IsRight}
use Rattle.gaz_rules.specs.Phases.{Ends, Finds, IsFirst, Works, conclusion, faults_in}
use Rattle.gaz_views.specs.Words.{first_of}
use Rattle.gaz_rules.specs.Rules.{effect}
use Rattle.gaz_changefile.specs.Rules.{first_broken}
use Rattle.gaz_rules.specs.declared.judging.Fault as found
use Rattle.gaz_end_rules.specs.declared.known.Known.{Known}
use Rattle.gaz_end_rules.proofs.Progress.{keeps_itself}

-- ---- the end rules, key by key

-- what was asked of the end rules so far: the faults of what is left are those of all
pub record AskedSoFar (old now : Seen) (c : ℕ) (bases : List Basis) (all left : List Change) (known : Known) : Type 0 where
  pub keeps : Keeps old now
  pub open_for : now.progress ≡ Open c
  pub counted : old.failures ≤ now.failures
  pub trust : now.trusted → old.trusted
  pub knows : old.stands → now.unharmed → are_reached old.content.board bases ≡ true → IsRight old.content.working (basis_views old.content.board bases) known
  pub faults : old.stands → now.unharmed → are_reached old.content.board bases ≡ true →
      end_faults old.content.working (basis_views old.content.board bases) left ≡ end_faults old.content.working (basis_views old.content.board bases) all

-- what the end rules' code tells of a content
abbrev pub Told : List Basis → Item → Option ℕ → Known → Known → Content → Type 0
Told bases item r before after k = are_reached k.board bases ≡ true → IsRight k.working (basis_views k.board bases) before → IfNone r (IsRight k.working (basis_views k.board bases) after) × (r ≡ first_broken (end_rules k.working (basis_views k.board bases) (key_of item)))

-- nothing was asked so far
pub asked_none : (s : Seen) (c : ℕ) (bases : List Basis) (all : List Change) (known : Known) → s.progress ≡ Open c → ((v : View) (out : List (ℕ × View)) → IsRight v out known) → AskedSoFar s s c bases all all known
asked_none s c bases all known is_open right =
    record {
      keeps = keeps_itself s c is_open;
      open_for = is_open;
      counted = omega arith;
      trust = λ t. t;
      knows = λ _ _ _. right s.content.working (basis_views s.content.board bases);
      faults = λ _ _ _. refl;
    }

-- the next change's key is asked
pub asked_next : (old now next : Seen) (c : ℕ) (bases : List Basis) (all : List Change) (i : ℕ) (ch : Change) (before after : Known) (r : Option ℕ) →
    i < length all → ch ≡ get_or all i ch → AskedSoFar old now c bases all (drop i all) before →
    Reads {T = Option ℕ} now next (Ok r) (λ r. Told bases ch.item r before after now.content) →
    old.stands → next.unharmed → are_reached old.content.board bases ≡ true →
    IfNone r (IsRight old.content.working (basis_views old.content.board bases) after)
    × (end_faults old.content.working (basis_views old.content.board bases) all ≡ cons_option (fault_at ch.place r) (end_faults old.content.working (basis_views old.content.board bases) (drop (i + 1) all)))
asked_next old now next c bases all i ch before after r h e so_far asked stood fine ready =
    let mid = asked.keeps.harm fine in
    let rest = drop (i + 1) all in
    let faults = end_faults old.content.working (basis_views old.content.board bases) in
    let told = subst (Told bases ch.item r before after) (so_far.keeps.content stood mid) (asked.right (so_far.keeps.stands stood mid) fine) ready (so_far.knows stood mid ready) in
    let step : faults (drop i all) ≡ faults (ch ∷ rest) = ap faults (drop_more all i ch h) ∙ ap (λ x. faults (x ∷ rest)) (sym e) in
    (told.0, sym (so_far.faults stood mid ready) ∙ step ∙ ap (λ q. cons_option (fault_at ch.place q) (faults rest)) (sym told.1))

-- it breaks none
pub asked_on : (old now next : Seen) (c : ℕ) (bases : List Basis) (all : List Change) (i : ℕ) (ch : Change) (before after : Known) →
    i < length all → ch ≡ get_or all i ch → AskedSoFar old now c bases all (drop i all) before →
    Reads {T = Option ℕ} now next (Ok None) (λ r. Told bases ch.item r before after now.content) →
    AskedSoFar old next c bases all (drop (i + 1) all) after
asked_on old now next c bases all i ch before after h e so_far asked =
    let next_is = asked_next old now next c bases all i ch before after None h e so_far asked in
    record {
      keeps = keeps_then old now next so_far.keeps asked.keeps;
      open_for = still_open now next c asked.keeps so_far.open_for;
      counted = let a = so_far.counted in let b = asked.counts.kept in omega arith;
      trust = λ t. so_far.trust (asked.counts.trust t);
      knows = λ stood fine ready. (next_is stood fine ready).0;
      faults = λ stood fine ready. sym (next_is stood fine ready).1;
    }

-- it breaks this rule
pub asked_last : (old now next : Seen) (c : ℕ) (bases : List Basis) (all : List Change) (i : ℕ) (ch : Change) (before after : Known) (rule : ℕ) (f : found.Fault) →
    i < length all → ch ≡ get_or all i ch → AskedSoFar old now c bases all (drop i all) before →
    Reads {T = Option ℕ} now next (Ok (Some rule)) (λ r. Told bases ch.item r before after now.content) →
    f ≡ record { place = ch.place; rule = rule } →
    Reads {T = Option found.Fault} old next (Ok (Some f)) (λ r. are_reached old.content.board bases ≡ true → IsFirst (end_faults old.content.working (basis_views old.content.board bases) all) r)
asked_last old now next c bases all i ch before after rule f h e so_far asked is =
    record {
      keeps = keeps_then old now next so_far.keeps asked.keeps;
      right = λ stood fine ready. ap first_of (asked_next old now next c bases all i ch before after (Some rule) h e so_far asked stood fine ready).1
          ∙ ap (λ (x : found.Fault). Some (record { place = x.place; rule = x.rule })) (sym is);
      cleared = asked.cleared;
      counts = record { kept = let a = so_far.counted in let b = asked.counts.kept in omega arith; store = tt; trust = λ t. so_far.trust (asked.counts.trust t) };
    }

-- ---- the two phases together

pub none_first : (fs : List Fault) → first_of fs ≡ None → fs ≡ []
none_first [] e = refl
none_first (f ∷ fs) e = cc

if_ok_on : {T E : Type 0} (r : Result T E) (P Q : T → Type 0) → ((x : T) → P x → Q x) → IfOk r P → IfOk r Q
if_ok_on (Ok x) P Q f h = f x h
if_ok_on (Err e) P Q f h = tt

if_none_of : {T : Type 0} (o : Option T) (P : Type 0) → P → IfNone o P
if_none_of None P p = p
if_none_of (Some x) P p = tt

on_ok_of : {T E : Type 0} (r : Result T E) (P : Type 0) → P → OnOk r P
on_ok_of (Ok x) P p = p
on_ok_of (Err e) P p = tt

counts_after : {T : Type 0} (a b c : Seen) (r : Result T ShelfFault) → a.failures ≤ b.failures → (b.trusted → a.trusted) → Counts b c r → Counts a c r
counts_after a b c (Ok x) h trust k = record { kept = let more = k.kept in omega arith; store = tt; trust = λ t. trust (k.trust t) }
counts_after a b c (Err e) h trust k = record { kept = let more = k.kept in omega arith; store = λ is. let more = k.store is in omega arith; trust = λ t. trust (k.trust t) }

-- what the end rules find on a content
abbrev EndsFind : Contents → Option found.Fault → Content → Type 0
EndsFind file o k = are_reached k.board file.bases ≡ true → IsFirst (end_faults k.working (basis_views k.board file.bases) file.changes) o

-- no record is at fault, and then the end rules are asked
pub phases_together : (old mid new : Seen) (c : ℕ) (own : Blocks) (file : Contents) (r : Result (Option found.Fault) ShelfFault) →
    old.progress ≡ Open c →
    Works {T = Option found.Fault} old mid (Ok None) (λ o. are_reached old.content.board file.bases ≡ true →
    Finds old.content mid.content (record_faults c own (basis_views old.content.board file.bases) old.content.working file.changes) (fold effect old.content.working file.changes) o) →
    Reads mid new r (λ o. EndsFind file o mid.content) →
    Works old new r (λ o. are_reached old.content.board file.bases ≡ true → Finds old.content new.content (faults_in c own old.content file) (fold effect old.content.working file.changes) o)
phases_together old mid new c own file r is_open first second =
    let w = fold effect old.content.working file.changes in
    let now_open : new.progress ≡ Open c = still_open mid new c second.keeps (first.on ∙ is_open) in
    record {
      harm = λ fine. first.harm (second.keeps.harm fine);
      stands = λ stood fine. second.keeps.stands (first.stands stood (second.keeps.harm fine)) fine;
      right = λ stood fine.
          let fine_mid = second.keeps.harm fine in
          let stood_mid = first.stands stood fine_mid in
          if_ok_on r _ _ (λ o told ready.
          let found = first.right stood fine_mid ready in
          let none = none_first _ found.first in
          record {
            first =
                ap (λ xs. first_of (xs ++ end_faults w (basis_views old.content.board file.bases) file.changes)) none
                ∙ subst (EndsFind file o) found.view told ready;
            view = if_none_of o _ (second.keeps.content stood_mid fine ∙ found.view);
          }) (second.right stood_mid fine);
      stay = λ stood fine.
          let fine_mid = second.keeps.harm fine in
          ap after_abandon (second.keeps.content (first.stands stood fine_mid) fine) ∙ first.stay stood fine_mid;
      on = on_ok_of r _ (now_open ∙ sym is_open);
      going = λ e. cc;
      counts = counts_after _ _ _ r first.counts.kept first.counts.trust second.counts;
      leaves = λ sound k left. first.leaves sound k (second.keeps.leaves (λ fine. first.stands (sound (first.harm fine)) fine) k left);
      whole = λ sound all. second.keeps.whole (λ fine. first.stands (sound (first.harm fine)) fine) (first.whole sound all);
    }

-- ---- a judgement that is rejected

idle_stays : (p q : Progress) → p ≡ Idle → IsLeft p q → IsNotOpen q
idle_stays p q e left = subst (λ x. IsLeft x q → IsNotOpen q) (sym e) (λ same d at. let no : Idle ≡ Open d = sym same ∙ at in cc) left

module _ (old mid new : Seen) (c : ℕ) (f : found.Fault) (e : ShelfFault)
    (gone : Goes {T = Unit {0}} old mid (Ok tt) ⊤ (after_abandon old.content) None Idle)
    (enters : Enters {T = Unit {0}} mid new (Err e) (IsAtHand mid.content c) (after_skip mid.content c f.place f.rule)) where
  given_up : old.stands → mid.unharmed → mid.content ≡ after_abandon old.content
  given_up stood fine = gone.done stood tt fine

  still_at_hand : old.stands → IsAtHand old.content c → mid.unharmed → IsAtHand mid.content c
  still_at_hand stood hand fine = subst (λ (k : Content). IsAtHand k c) (sym (given_up stood fine)) hand

  sound_then : IsSound old → IsSound mid
  sound_then sound fine = gone.stands (sound (gone.harm fine)) tt fine

  hand_then : IsSound old → (old.unharmed → IsAtHand old.content c) → mid.unharmed → IsAtHand mid.content c
  hand_then sound hand fine = let was = gone.harm fine in still_at_hand (sound was) (hand was) fine

  -- it is given up, and then the keeper fails to mark it
  pub not_rejected : (r : Result Verdict ShelfFault) → IsErrAnd r (λ x. x ≡ e) → Ends old new r c (conclusion old.content c (Some f))
  not_rejected r is = subst (λ q. Ends old new q c (conclusion old.content c (Some f))) (sym (passed_on r e is)) ends
    where
      ends : Ends old new (Err e) c (conclusion old.content c (Some f))
      ends = record {
        harm = λ fine. gone.harm (enters.harm fine);
        stands = λ stood hand fine. let at = enters.harm fine in enters.stands (gone.stands stood tt at) (still_at_hand stood hand at) fine;
        verdict = tt;
        done = λ stood hand fine. tt;
        undone = λ stood hand fine. let at = enters.harm fine in enters.undone (gone.stands stood tt at) (still_at_hand stood hand at) fine ∙ given_up stood at;
        idle = idle_stays mid.progress new.progress gone.on enters.progress;
        counts = counts_failed enters.counts.store;
        leaves = λ sound hand k l. elim (enters.leaves (sound_then sound) (hand_then sound hand) k l) [
          | inl was ↦ inl (gone.leaves sound (λ _. tt) k was)
          | inr made ↦ inr (gone.harm made.0, made.1 ∙ ap (λ (x : Content). after_stop (after_skip x c f.place f.rule)) (given_up (sound (gone.harm made.0)) made.0))
        ];
        committed = λ sound hand. tt;
        whole = λ sound hand all. enters.whole (sound_then sound) (hand_then sound hand) (gone.whole sound (λ _. tt) all);
      }
        where
          counts_failed : (e ≡ Store → mid.failures < new.failures) → Counts {T = Verdict} old new (Err e)
          counts_failed failed = record {
            kept = let a = gone.counts.kept in let b = enters.counts.kept in omega arith;
            store = λ is. let a = gone.counts.kept in let b = failed is in omega arith;
            trust = λ t. gone.counts.trust (enters.counts.trust t);
          }

-- ---- a whole judgement

by_none : (v w : View) (fs : List Fault) → first_of fs ≡ None → judged_by_faults v w fs ≡ record { verdict = Applied; view = w }
by_none v w [] e = refl
by_none v w (f ∷ fs) e = cc

by_some : (v w : View) (fs : List Fault) (f : Fault) → first_of fs ≡ Some f → judged_by_faults v w fs ≡ record { verdict = Rejected f.place f.rule; view = v }
by_some v w [] f e = cc
by_some v w (g ∷ fs) f e = let is : g ≡ f = cc in ap (λ (x : Fault). record { verdict = Rejected x.place x.rule; view = v }) is

-- what the phases find, on the content on which the judgement began
abbrev PhasesFind : ℕ → Blocks → Contents → Content → Option found.Fault → Content → Type 0
PhasesFind c own file now o k = are_reached k.board file.bases ≡ true → Finds k now (faults_in c own k file) (fold effect k.working file.changes) o

-- the first fault found decides
concluded : (own : Blocks) (old mid : Content) (c : ℕ) (file : Contents) (o : Option found.Fault) →
    after_abandon mid ≡ after_abandon old →
    Finds (after_begin old c) mid (faults_in c own (after_begin old c) file) (fold effect (last_view old.board c) file.changes) o →
    conclusion mid c o ≡ judged_on own old.board c (Good file)
unfolding judge
concluded own old mid c file None same finds =
    let v = last_view old.board c in
    ap (λ (k : Content). record { verdict = Applied; view = k.working }) finds.view ∙ sym (by_none v (fold effect v file.changes) _ finds.first)
concluded own old mid c file (Some f) same finds =
    let v = last_view old.board c in
    ap (λ (k : Content). record { verdict = Rejected f.place f.rule; view = last_view k.board c }) same
    ∙ sym (by_some v (fold effect v file.changes) _ (record { place = f.place; rule = f.rule }) finds.first)

-- what a stop may leave of it
record JudgedStops (old new : Seen) (r : Result Verdict ShelfFault) (c : ℕ) (file : Contents) (becomes : Content) : Type 0 where
  pub leaves : IsSound old → (old.unharmed → IsReady old.content c file.bases) → LeavesAtMost (Some becomes) old new
  pub committed : IsSound old → (old.unharmed → IsReady old.content c file.bases) → OnOk r (LeavesJust (Some becomes) old new)
  pub whole : IsSound old → (old.unharmed → IsReady old.content c file.bases) → old.whole → new.whole

module _ (old opened mid new : Seen) (c : ℕ) (own : Blocks) (file : Contents) (o : Option found.Fault) (r : Result Verdict ShelfFault)
    (begins : Goes {T = Unit {0}} old opened (Ok tt) (IsAtHand old.content c) (after_begin old.content c) None (Open c))
    (did : Works {T = Option found.Fault} opened mid (Ok o) (λ o. PhasesFind c own file mid.content o opened.content))
    (ends : Ends mid new r c (conclusion mid.content c o))
    (sound : IsSound old) (ready : old.unharmed → IsReady old.content c file.bases) where
  begun : opened.unharmed → old.unharmed × old.stands × (opened.content ≡ after_begin old.content c)
  begun fine =
      let was = begins.harm fine in
      (was, sound was, begins.done (sound was) (ready was).at_hand fine)

  opened_stands : IsSound opened
  opened_stands fine = let was = begins.harm fine in begins.stands (sound was) (ready was).at_hand fine

  mid_stands : IsSound mid
  mid_stands fine = did.stands (opened_stands (did.harm fine)) fine

  same_then : mid.unharmed → after_abandon mid.content ≡ after_abandon old.content
  same_then fine = did.stay (opened_stands (did.harm fine)) fine ∙ ap after_abandon (begun (did.harm fine)).2

  at_hand_then : mid.unharmed → IsAtHand mid.content c
  at_hand_then fine = subst (λ (k : Content). IsAtHand k c) (sym (same_then fine)) (ready (begins.harm (did.harm fine))).at_hand

  becomes_then : mid.unharmed → with_judgement mid.content c (conclusion mid.content c o) ≡ with_judgement old.content c (judged_on own old.content.board c (Good file))
  becomes_then fine =
      ap (λ (k : Content). with_judgement k c (conclusion mid.content c o)) (same_then fine)
      ∙ ap (with_judgement old.content c)
      (concluded own old.content mid.content c file o (same_then fine)
      (subst (PhasesFind c own file mid.content o) (begun (did.harm fine)).2 (did.right (opened_stands (did.harm fine)) fine) (ready (begins.harm (did.harm fine))).reached))

  committed_is : (k : Content) → mid.unharmed × (k ≡ after_stop (with_judgement mid.content c (conclusion mid.content c o)))
      → old.unharmed × (k ≡ after_stop (with_judgement old.content c (judged_on own old.content.board c (Good file))))
  committed_is k made = (begins.harm (did.harm made.0), made.1 ∙ ap after_stop (becomes_then made.0))

  left_then : (k : Content) → new.leaves k → old.leaves k ⊎ (old.unharmed × (k ≡ after_stop (with_judgement old.content c (judged_on own old.content.board c (Good file)))))
  left_then k l = elim (ends.leaves mid_stands at_hand_then k l) [
    | inl was ↦ inl (begins.leaves sound (λ fine. (ready fine).at_hand) k (did.leaves opened_stands k was))
    | inr made ↦ inr (committed_is k made)
  ]

judged_stops : (old opened mid new : Seen) (c : ℕ) (own : Blocks) (file : Contents) (o : Option found.Fault) (r : Result Verdict ShelfFault) →
    Goes {T = Unit {0}} old opened (Ok tt) (IsAtHand old.content c) (after_begin old.content c) None (Open c) →
    Works {T = Option found.Fault} opened mid (Ok o) (λ o. PhasesFind c own file mid.content o opened.content) →
    Ends mid new r c (conclusion mid.content c o) →
    JudgedStops old new r c file (with_judgement old.content c (judged_on own old.content.board c (Good file)))
judged_stops old opened mid new c own file o r begins did ends =
    record {
      leaves = λ sound ready. left_then old opened mid new c own file o r begins did ends sound ready;
      committed = λ sound ready.
          on_ok r (λ just k l. committed_is old opened mid new c own file o r begins did ends sound ready k (just k l))
          (ends.committed (mid_stands old opened mid new c own file o r begins did ends sound ready) (at_hand_then old opened mid new c own file o r begins did ends sound ready));
      whole = λ sound ready all.
          ends.whole (mid_stands old opened mid new c own file o r begins did ends sound ready) (at_hand_then old opened mid new c own file o r begins did ends sound ready)
          (did.whole (opened_stands old opened mid new c own file o r begins did ends sound ready) (begins.whole sound (λ fine. (ready fine).at_hand) all));
    }

pub judged : (old opened mid new : Seen) (c : ℕ) (own : Blocks) (file : Contents) (o : Option found.Fault) (r : Result Verdict ShelfFault) →
    Goes {T = Unit {0}} old opened (Ok tt) (IsAtHand old.content c) (after_begin old.content c) None (Open c) →
    Works {T = Option found.Fault} opened mid (Ok o) (λ o. PhasesFind c own file mid.content o opened.content) →
    Ends mid new r c (conclusion mid.content c o) →
    Judges old new r c file.bases (judged_on own old.content.board c (Good file))
judged old opened mid new c own file o r begins did ends =
    let open_fine = λ (fine : new.unharmed). did.harm (ends.harm fine) in
    let stood_open = λ (stood : old.stands) (ready : IsReady old.content c file.bases) (fine : new.unharmed). begins.stands stood ready.at_hand (open_fine fine) in
    let stood_mid = λ (stood : old.stands) (ready : IsReady old.content c file.bases) (fine : new.unharmed). did.stands (stood_open stood ready fine) (ends.harm fine) in
    let begun_is = λ (stood : old.stands) (ready : IsReady old.content c file.bases) (fine : new.unharmed). begins.done stood ready.at_hand (open_fine fine) in
    let same = λ (stood : old.stands) (ready : IsReady old.content c file.bases) (fine : new.unharmed).
    did.stay (stood_open stood ready fine) (ends.harm fine) ∙ ap after_abandon (begun_is stood ready fine) in
    let at_hand = λ (stood : old.stands) (ready : IsReady old.content c file.bases) (fine : new.unharmed).
    subst (λ (k : Content). IsAtHand k c) (sym (same stood ready fine)) ready.at_hand in
    let right = λ (stood : old.stands) (ready : IsReady old.content c file.bases) (fine : new.unharmed).
    concluded own old.content mid.content c file o (same stood ready fine)
    (subst (PhasesFind c own file mid.content o) (begun_is stood ready fine) (did.right (stood_open stood ready fine) (ends.harm fine)) ready.reached) in
    let stops = judged_stops old opened mid new c own file o r begins did ends in
    record {
      harm = λ fine. begins.harm (open_fine fine);
      stands = λ stood ready fine. ends.stands (stood_mid stood ready fine) (at_hand stood ready fine) fine;
      verdict = λ stood ready fine. if_ok_on r _ _ (λ v is. is ∙ ap (λ (j : Judgement). j.verdict) (right stood ready fine)) ends.verdict;
      done = λ stood ready fine.
          on_ok r (λ is. is
          ∙ ap (λ (k : Content). with_judgement k c (conclusion mid.content c o)) (same stood ready fine)
          ∙ ap (with_judgement old.content c) (right stood ready fine)) (ends.done (stood_mid stood ready fine) (at_hand stood ready fine) fine);
      undone = λ stood ready fine.
          on_err r (λ is. is ∙ same stood ready fine) (ends.undone (stood_mid stood ready fine) (at_hand stood ready fine) fine);
      idle = ends.idle;
      counts = counts_after _ _ _ r (let a = begins.counts.kept in let b = did.counts.kept in omega arith) (λ t. begins.counts.trust (did.counts.trust t)) ends.counts;
      leaves = stops.leaves;
      committed = stops.committed;
      whole = stops.whole;
    }
