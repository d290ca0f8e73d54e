-- Worked examples on calls one after another.
use Rattle.std.proofs.Common.{◌≡◌, ◌∙◌, inl, List, [], ◌∷◌, ◌++◌, refl, sym, true≢false}
use Rattle.gaz_steps.specs.Growth.{Period}
use Rattle.gaz_steps.specs.Step.{Command}
use Rattle.gaz_stored.specs.CallExamples.{WorkedCuts}
use Rattle.gaz_stored.specs.Examples.{sends}
use Rattle.gaz_stored.specs.Stopping.{CutReceiving, CutSettling, IsCutTo, cut_receiving}
use Rattle.gaz_stored.proofs.laws.worked_calls.Goals as goal

-- nothing has a command in it
none_next : (command : Command) (earlier later : List Command) → ¬ ([] ≡ earlier ++ command ∷ later)
none_next command [] later e = absurd (cc)
none_next command (x ∷ xs) later e = absurd (cc)

unsent : ¬ IsCutTo [] [] (sends ∷ []) (cut_receiving ∷ [])
unsent (CutSettling [] later told more e f asked said) = absurd (cc)
unsent (CutSettling (x ∷ xs) later told more e f asked said) = absurd (cc)
unsent (CutReceiving earlier later told more c volume bytes e f asked said) = none_next _ earlier later e

cuts_hold : WorkedCuts
cuts_hold = record {
  received = λ told. CutReceiving [] [] [] (told ∷ []) 1001 1 _ refl refl refl refl;
  answered = λ told. CutSettling (sends ∷ []) [] (told ∷ []) [] refl refl refl refl;
  nothing = λ told. CutSettling [] (sends ∷ []) [] (told ∷ []) refl refl refl refl;
  unsent = unsent;
}

pub returns : goal.returns
returns g c conn refused fine = record {
  nothing_asked = ([], [], refl, ([], [], refl, refl, refl), refl);
  asked = λ p are. none_asked p are.0 are.1 are.2 are.3 are.4;
  used = λ register first commands responses is uses. refl;
  grows = λ register grown is are extends. refl;
  not_lost = λ register grown is are extends none. absurd (cc);
  may_be_lost = λ register grown why is are extends. inl refl;
  none = tt;
  twice = (refl, (refl, tt));
  elsewhere = λ other follow. other follow.0;
  left = refl;
  left_by_none = refl;
  of_nothing = λ register db it. let all = it.periods_are in all.4 ∙ joined all.2 (all.3.4 ∙ joined all.3.2 all.3.3);
  of_one = λ register db call p only it. let all = it.periods_are in all.4 ∙ joined all.2 (all.3.4 ∙ joined (only all.3.0 all.3.2) all.3.3);
  shrinks = λ run. absurd (true≢false (sym (run.1.custodians 1004 refl)));
  cuts = cuts_hold;
}
  where
    joined : {first rest some more : List Period} → first ≡ some → rest ≡ more → first ++ rest ≡ some ++ more
    joined e f = λ i. e i ++ f i

    none_asked : (p : Period) (first rest : List Period) → first ≡ [] → rest ≡ [] → ¬ (p ∷ [] ≡ first ++ rest)
    none_asked p first rest e f is = let no : p ∷ [] ≡ [] = is ∙ rw (e, f) refl in absurd (cc)
