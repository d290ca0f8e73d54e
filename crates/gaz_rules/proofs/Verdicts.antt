-- That judging comes to what its sentences say.
use Rattle.std.proofs.Common.{◌≡◌, ℕ, List, [], ◌∷◌, ◌++◌, refl, ap, ◌∙◌}
use Rattle.std.specs.Prelude.{fold}
use Rattle.std.specs.List.{cons_option}
use Rattle.gaz_changefile.specs.Contents.{Contents}
use Rattle.gaz_changefile.specs.Reading.{Good}
use Rattle.gaz_changefile.specs.declared.change.Change.{Change}
use Rattle.gaz_register.specs.Registers.{Blocks}
use Rattle.gaz_views.specs.View.{View}
use Rattle.gaz_keeper.specs.Board.{Judgement}
use Rattle.gaz_views.specs.declared.verdict.Verdict.TheVariants.{Applied, Rejected}
use Rattle.gaz_rules.specs.Rules.{effect}
use Rattle.gaz_rules.specs.Judging.{end_faults, fault_at, judge, judged_by_faults, record_faults}
use Rattle.gaz_rules.specs.Verdicts.{AllFit, IsAmong, IsFirstBreach, IsFirstMisfit, JudgesSay, NoneBreaks}

-- one more before
abbrev later : {c d : Change} {cs : List Change} → IsAmong cs d → IsAmong (c ∷ cs) d
later {c} at = record { before = c ∷ at.before; after = at.after; in_turn = ap (λ l. c ∷ l) at.in_turn }

abbrev front : (c : Change) (cs : List Change) → IsAmong (c ∷ cs) c
front c cs = record { before = []; after = cs; in_turn = refl }

-- ---- record faults

fits_after : (code : ℕ) (own : Blocks) (out : List (ℕ × View)) (v : View) (c : Change) (cs : List Change) → AllFit code own out v (c ∷ cs) → AllFit code own out (effect v c) cs
fits_after code own out v c cs all d at = all d (later at)

-- changes that fit have no fault
past_fits : (code : ℕ) (own : Blocks) (out : List (ℕ × View)) (v : View) (before rest : List Change) → AllFit code own out v before → record_faults code own out v (before ++ rest) ≡ record_faults code own out (fold effect v before) rest
past_fits code own out v [] rest all = refl
past_fits code own out v (c ∷ cs) rest all =
    ap (λ o. cons_option (fault_at c.place o) (record_faults code own out (effect v c) (cs ++ rest))) (all c (front c cs))
    ∙ past_fits code own out (effect v c) cs rest (fits_after code own out v c cs all)

none_misfits : (code : ℕ) (own : Blocks) (out : List (ℕ × View)) (v : View) (cs : List Change) → AllFit code own out v cs → record_faults code own out v cs ≡ []
none_misfits code own out v [] all = refl
none_misfits code own out v (c ∷ cs) all =
    ap (λ o. cons_option (fault_at c.place o) (record_faults code own out (effect v c) cs)) (all c (front c cs))
    ∙ none_misfits code own out (effect v c) cs (fits_after code own out v c cs all)

-- ---- end faults

keeps_after : (w : View) (out : List (ℕ × View)) (c : Change) (cs : List Change) → NoneBreaks w out (c ∷ cs) → NoneBreaks w out cs
keeps_after w out c cs all d at = all d (later at)

past_keeps : (w : View) (out : List (ℕ × View)) (before rest : List Change) → NoneBreaks w out before → end_faults w out (before ++ rest) ≡ end_faults w out rest
past_keeps w out [] rest all = refl
past_keeps w out (c ∷ cs) rest all =
    ap (λ o. cons_option (fault_at c.place o) (end_faults w out (cs ++ rest))) (all c (front c cs))
    ∙ past_keeps w out cs rest (keeps_after w out c cs all)

none_breaches : (w : View) (out : List (ℕ × View)) (cs : List Change) → NoneBreaks w out cs → end_faults w out cs ≡ []
none_breaches w out [] all = refl
none_breaches w out (c ∷ cs) all =
    ap (λ o. cons_option (fault_at c.place o) (end_faults w out cs)) (all c (front c cs))
    ∙ none_breaches w out cs (keeps_after w out c cs all)

-- ---- judgements

abbrev at_fault : View → Change → ℕ → Judgement
at_fault v c rule = record { verdict = Rejected c.place rule; view = v }

misfit_says : (code : ℕ) (own : Blocks) (v : View) (out : List (ℕ × View)) (file : Contents) (c : Change) (rule : ℕ) → IsFirstMisfit code own out v file.changes c rule → judge code own v out (Good file) ≡ at_fault v c rule
unfolding judge
misfit_says code own v out file c rule is =
    let w = fold effect v file.changes in
    let u = fold effect v is.at.before in
    let faults : record_faults code own out v file.changes ≡ record { place = c.place; rule = rule } ∷ record_faults code own out (effect u c) is.at.after =
    ap (record_faults code own out v) is.at.in_turn
    ∙ past_fits code own out v is.at.before (c ∷ is.at.after) is.before_fit
    ∙ ap (λ o. cons_option (fault_at c.place o) (record_faults code own out (effect u c) is.at.after)) is.breaks in
    ap (λ fs. judged_by_faults v w (fs ++ end_faults w out file.changes)) faults

breach_says : (code : ℕ) (own : Blocks) (v : View) (out : List (ℕ × View)) (file : Contents) (c : Change) (rule : ℕ) → AllFit code own out v file.changes → IsFirstBreach (fold effect v file.changes) out file.changes c rule → judge code own v out (Good file) ≡ at_fault v c rule
unfolding judge
breach_says code own v out file c rule fit is =
    let w = fold effect v file.changes in
    let faults : end_faults w out file.changes ≡ record { place = c.place; rule = rule } ∷ end_faults w out is.at.after =
    ap (end_faults w out) is.at.in_turn
    ∙ past_keeps w out is.at.before (c ∷ is.at.after) is.before_keep
    ∙ ap (λ o. cons_option (fault_at c.place o) (end_faults w out is.at.after)) is.breaks in
    ap (λ fs. judged_by_faults v w (fs ++ end_faults w out file.changes)) (none_misfits code own out v file.changes fit)
    ∙ ap (judged_by_faults v w) faults

applied_says : (code : ℕ) (own : Blocks) (v : View) (out : List (ℕ × View)) (file : Contents) → AllFit code own out v file.changes → NoneBreaks (fold effect v file.changes) out file.changes → judge code own v out (Good file) ≡ record { verdict = Applied; view = fold effect v file.changes }
unfolding judge
applied_says code own v out file fit keep =
    let w = fold effect v file.changes in
    ap (λ fs. judged_by_faults v w (fs ++ end_faults w out file.changes)) (none_misfits code own out v file.changes fit)
    ∙ ap (judged_by_faults v w) (none_breaches w out file.changes keep)

pub judges_say_holds : JudgesSay
unfolding judge
judges_say_holds =
    record {
      bad = λ code own v out place rule. refl;
      misfit = misfit_says;
      breach = breach_says;
      applied = applied_says;
      record_numbers = λ code own out v a i. refl;
      end_numbers = λ w out k. refl;
    }
