-- What a stop may leave of calls, one after another.
use Rattle.std.proofs.Common.{◌≡◌, ◌+◌, ◌⊎◌, inl, inr, List, [], ◌∷◌, ◌++◌, refl, sym, ap, ◌∙◌, subst, append_assoc, length-append}
use Rattle.gaz_keeper.specs.Keeper.{Content, Seen}
use Rattle.gaz_steps.specs.Hubs.{state_of}
use Rattle.gaz_steps.specs.Runs.{Run}
use Rattle.gaz_steps.specs.Step.{Command, Door, HubState, Response, Step}
use Rattle.gaz_steps.specs.Stops.{HasReceived, IsLeftAfter, IsLeftOnceTold, IsLeftSince, StopsCall, StopsRun}
use Rattle.gaz_steps.proofs.Receiving.{left_has_all, left_once, one_received, received_both, received_more, run_has_all, run_received}
use Rattle.gaz_steps.proofs.Runs.{run_then}

module _ (d : Door) (old new : Seen) (command : Command) (response : Response) where
  abbrev before : HubState
  before = state_of old.content

  abbrev after : HubState
  after = state_of new.content

  -- of one call
  pub run_stops_one : (new.unharmed → Step d before command response after) → StopsCall d old new before after command response → StopsRun d old new before after (command ∷ []) (response ∷ [])
  run_stops_one step call =
      let s = call.stops in
      record {
        ever = λ k l. elim (s.ever k l) [
          | inl was ↦ inl was
          | inr made ↦ inr (
            made.0,
            record {
              earlier = [];
              told = [];
              command = command;
              later = [];
              more = response ∷ [];
              commands_are = refl;
              responses_are = refl;
              mid = before;
              run = refl;
              left = made.1;
            },
          )
        ];
        now = λ fine k l. elim (s.now fine k l) [
          | inl was ↦ inl was
          | inr made ↦ inr (record {
            earlier = [];
            told = [];
            command = command;
            response = response;
            later = [];
            more = [];
            commands_are = refl;
            responses_are = refl;
            run = (after, step fine, refl);
            since = refl;
            left = left_once d before after command response k (step fine) made;
          })
        ];
        answered = refl;
        received = λ k l. one_received d command response before k (λ is. (call.received is k l).1);
        whole = s.whole;
      }

module _ (d : Door) (cs ds : List Command) (rs ss : List Response) (k : Content) where
  -- more commands came
  after_on : (hub : HubState) → IsLeftAfter d cs rs hub k → IsLeftAfter d (cs ++ ds) (rs ++ ss) hub k
  after_on hub l =
      record {
        earlier = l.earlier;
        told = l.told;
        command = l.command;
        later = l.later ++ ds;
        more = l.more ++ ss;
        commands_are = ap (λ xs. xs ++ ds) l.commands_are ∙ append_assoc l.earlier (l.command ∷ l.later) ds;
        responses_are = ap (λ xs. xs ++ ss) l.responses_are ∙ append_assoc l.told l.more ss;
        mid = l.mid;
        run = l.run;
        left = l.left;
      }

  -- and changed nothing
  since_on : (hub one two : HubState) → two ≡ one → Run d one ds ss two → IsLeftSince d cs rs hub one k → IsLeftSince d (cs ++ ds) (rs ++ ss) hub two k
  since_on hub one two same run l =
      record {
        earlier = l.earlier;
        told = l.told;
        command = l.command;
        response = l.response;
        later = l.later ++ ds;
        more = l.more ++ ss;
        commands_are = ap (λ xs. xs ++ ds) l.commands_are ∙ append_assoc l.earlier (l.command ∷ l.later) ds;
        responses_are = ap (λ xs. xs ++ ss) l.responses_are ∙ append_assoc l.told (l.response ∷ l.more) ss;
        run = subst (λ h. Run d hub (l.earlier ++ l.command ∷ []) (l.told ++ l.response ∷ []) h) (sym same) l.run;
        since = subst (λ h. Run d h (l.later ++ ds) (l.more ++ ss) two) (sym same) (run_then d one one two l.later ds l.more ss l.since run);
        left = subst (λ h. IsLeftOnceTold d l.command l.response h k) (sym same) l.left;
      }

  -- others had come before
  after_those : (hub mid : HubState) → Run d hub cs rs mid → IsLeftAfter d ds ss mid k → IsLeftAfter d (cs ++ ds) (rs ++ ss) hub k
  after_those hub mid run l =
      record {
        earlier = cs ++ l.earlier;
        told = rs ++ l.told;
        command = l.command;
        later = l.later;
        more = l.more;
        commands_are = ap (λ xs. cs ++ xs) l.commands_are ∙ sym (append_assoc cs l.earlier (l.command ∷ l.later));
        responses_are = ap (λ xs. rs ++ xs) l.responses_are ∙ sym (append_assoc rs l.told l.more);
        mid = l.mid;
        run = run_then d hub mid l.mid cs l.earlier rs l.told run l.run;
        left = l.left;
      }

  since_those : (hub mid last : HubState) → Run d hub cs rs mid → IsLeftSince d ds ss mid last k → IsLeftSince d (cs ++ ds) (rs ++ ss) hub last k
  since_those hub mid last run l =
      let e : cs ++ (l.earlier ++ l.command ∷ []) ≡ (cs ++ l.earlier) ++ l.command ∷ [] = sym (append_assoc cs l.earlier (l.command ∷ [])) in
      let f : rs ++ (l.told ++ l.response ∷ []) ≡ (rs ++ l.told) ++ l.response ∷ [] = sym (append_assoc rs l.told (l.response ∷ [])) in
      record {
        earlier = cs ++ l.earlier;
        told = rs ++ l.told;
        command = l.command;
        response = l.response;
        later = l.later;
        more = l.more;
        commands_are = ap (λ xs. cs ++ xs) l.commands_are ∙ sym (append_assoc cs l.earlier (l.command ∷ l.later));
        responses_are = ap (λ xs. rs ++ xs) l.responses_are ∙ sym (append_assoc rs l.told (l.response ∷ l.more));
        run = subst (λ xs. Run d hub xs ((rs ++ l.told) ++ l.response ∷ []) last) e
            (subst (λ ys. Run d hub (cs ++ (l.earlier ++ l.command ∷ [])) ys last) f (run_then d hub mid last cs (l.earlier ++ l.command ∷ []) rs (l.told ++ l.response ∷ []) run l.run));
        since = l.since;
        left = l.left;
      }

-- of calls, and then of more of them
pub run_stops_then : (d : Door) (old mid new : Seen) (cs ds : List Command) (rs ss : List Response) → (mid.unharmed → old.unharmed) → (new.unharmed → mid.unharmed)
    → (mid.unharmed → Run d (state_of old.content) cs rs (state_of mid.content)) → (new.unharmed → Run d (state_of mid.content) ds ss (state_of new.content))
    → StopsRun d old mid (state_of old.content) (state_of mid.content) cs rs → StopsRun d mid new (state_of mid.content) (state_of new.content) ds ss
    → StopsRun d old new (state_of old.content) (state_of new.content) (cs ++ ds) (rs ++ ss)
run_stops_then d old mid new cs ds rs ss harm harm_then run run_then_on first second =
    record {
      ever = λ k l. elim (second.ever k l) [
        | inl was ↦ elim (first.ever k was) [
          | inl before ↦ inl before
          | inr made ↦ inr (made.0, after_on d cs ds rs ss k (state_of old.content) made.1)
        ]
        | inr made ↦ inr (harm made.0, after_those d cs ds rs ss k (state_of old.content) (state_of mid.content) (run made.0) made.1)
      ];
      now = λ fine k l. elim (second.now fine k l) [
        | inl was ↦ elim (first.now (harm_then fine) k was.0) [
          | inl before ↦ inl (before.0, was.1 ∙ before.1)
          | inr made ↦ inr (since_on d cs ds rs ss k (state_of old.content) (state_of mid.content) (state_of new.content) was.1 (run_then_on fine) made)
        ]
        | inr made ↦ inr (since_those d cs ds rs ss k (state_of old.content) (state_of mid.content) (state_of new.content) (run (harm_then fine)) made)
      ];
      answered = length-append rs ss ∙ (λ i. first.answered i + second.answered i) ∙ sym (length-append cs ds);
      received = λ k l. received_both cs ds rs ss k.files first.answered (before k (second.ever k l)) (second.received k l);
      whole = λ all. second.whole (first.whole all);
    }
  where
    before : (k : Content) → mid.leaves k ⊎ (mid.unharmed × IsLeftAfter d ds ss (state_of mid.content) k) → HasReceived cs rs k.files
    before k (inl was) = first.received k was
    before k (inr made) =
        let l = made.1 in
        let all = run_has_all d (state_of mid.content) l.mid l.earlier l.told l.run in
        let more = left_has_all d l.command l.mid k l.left in
        received_more cs rs mid.content.files k.files (λ p bytes at. more p bytes (all p bytes at)) (run_received d (state_of old.content) (state_of mid.content) cs rs (run made.0))
