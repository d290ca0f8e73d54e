-- A conversation, turn by turn.
use Rattle.std.proofs.Common.{◌≡◌, ◌≢◌, ℕ, ◌+◌, ◌-◌, ◌<◌, ◌≤◌, Bool, true, false, List, [], ◌∷◌, ◌++◌, length, Option, Ok, Err, inl, inr, refl, ap, sym, ◌∙◌, arith, append-nil, length-append}
use Rattle.std.specs.Prelude.{◌⊎◌, ◌&&◌, ◌||◌, not, nat_lt, ◌==◌}
use Rattle.std.specs.Io.KnownBytes.{Appends, Consumes}
use Rattle.std.proofs.KnownBytes.{Appends-nil, Appends-trans, Consumes-nil, Consumes-trans}
use Rattle.std.proofs.lemmas.Bool.Decides.{nat_tests}
use Rattle.std.proofs.lemmas.List.Elements.{All-append, All-cons, All-nil, filter_map-append}
use Rattle.std.specs.List.{All}
use Rattle.gaz_keeper.specs.Keeper.{Seen}
use Rattle.gaz_steps.specs.Hubs.{Runs}
use Rattle.gaz_steps.specs.Step.{Door}
use Rattle.gaz_steps.proofs.HubRuns.{runs_none, runs_still, runs_then}
use Rattle.gaz_http.specs.Headers.{is_closing}
use Rattle.gaz_http.specs.Sparing.{OneForEach, OneForEachUsed}
use Rattle.gaz_http.specs.declared.supply.Cause.{Cause}
use Rattle.gaz_http.specs.declared.supply.Cause.TheVariants.{ReadFault, WriteFault}
use Rattle.gaz_exchange.specs.Ends.{EndsAs, EndsByReply, StopsAs, StopsWaiting, ended_after}
use Rattle.gaz_exchange.specs.Exchanges.{Comes, Exchange, HearsDoor, all_open, command_in, commands_of, ends_after, goes_on, replies, responses_of}
use Rattle.gaz_exchange.specs.Turns.{Exchanges, IsTurn, Rests, TurnsAway, Waits}
use Rattle.gaz_exchange.specs.declared.conversation.Ended.TheVariants as ended
use Rattle.gaz_exchange.specs.declared.turn.Turn.{Turn}
use Rattle.gaz_exchange.specs.declared.turn.Turn.TheVariants.{Answered, Closed, Over}
use Rattle.gaz_exchange.specs.declared.turn.Turn.TheVariants as turn
use Rattle.gaz_exchange.proofs.EndLaws.{ends_all, no_head_over}
use Rattle.gaz_exchange.proofs.RoutesKept.{AreFoundBy, found_by_more, found_by_none}
use Rattle.gaz_exchange.proofs.ExchangeFacts.{both, both_are, comes_more, comes_none, comes_read, goes_on-more, replies-more}
use Rattle.gaz_exchange.proofs.ConversationEnds.{Converses, answers_off, ends_by, ever_off, passed_in}
use Rattle.gaz_exchange.proofs.SparingFacts.{spared_by_none, spared_by_used, spared_then}
use Rattle.gaz_exchange.proofs.TurnFacts.{passing, standing}

module _ (d : Door) where
  -- n requests were answered, and none of them ends the conversation
  pub record IsSoFar (most n : ℕ) (routed : Bool) (begun reads : ℕ) (had left held holds : Option (List ℕ)) (old new : Seen) (inlet : List ℕ) : Type 0 where
    pub read : List ℕ
    pub exchanges : List Exchange
    pub consumed : Consumes had left read
    pub appended : Appends held holds (replies exchanges)
    pub comes : Comes most read exchanges inlet
    pub routes : AreFoundBy routed exchanges
    pub runs : Runs d old new (commands_of exchanges) (responses_of exchanges)
    pub at_door : All (HearsDoor d) exchanges
    pub count : length exchanges ≡ n
    pub opens : all_open exchanges ≡ true
    pub counted : OneForEachUsed begun reads read inlet

  pub so_far_none : (most : ℕ) (routed : Bool) (begun : ℕ) (had held : Option (List ℕ)) (old : Seen) (inlet : List ℕ) → inlet ≡ [] → IsSoFar most 0 routed begun begun had had held held old old inlet
  so_far_none most routed begun had held old inlet e = record {
    read = [];
    exchanges = [];
    consumed = Consumes-nil had;
    appended = Appends-nil held;
    comes = rw e (comes_none most []);
    routes = found_by_none routed;
    runs = runs_none d old;
    at_door = All-nil (HearsDoor d);
    count = refl;
    opens = refl;
    counted = rw e (omega arith);
  }

  module _ (most n : ℕ) (was routed : Bool) (begun reads reads_then : ℕ) (had left later held holds after : Option (List ℕ)) (old mid new : Seen) (inlet rest : List ℕ)
      (s : IsSoFar most n was begun reads had left held holds old mid inlet) (below : n < most) where
    -- the next turn
    abbrev TurnsTo : Turn → Type 0
    TurnsTo turn = IsTurn d ((n + 1) == most) (passing left later holds after) (standing was reads inlet mid) (standing routed reads_then rest new) turn

    counted_used : (read : List ℕ) → OneForEachUsed reads reads_then (inlet ++ read) rest → OneForEachUsed begun reads_then (s.read ++ read) rest
    counted_used read one = omega (arith, s.counted, one, length-append inlet read, length-append s.read read)

    counted_all : (read : List ℕ) (FoundNone Others : Type 0) → OneForEach reads reads_then (inlet ++ read) FoundNone → (FoundNone → Others) → OneForEach begun reads_then (s.read ++ read) Others
    counted_all read FoundNone Others one these = elim one [
      | inl each ↦ inl (omega (arith, s.counted, each, length-append inlet read, length-append s.read read))
      | inr last ↦ inr (omega (arith, s.counted, last.0, length-append inlet read, length-append s.read read), these last.1)
    ]

    open_yet : goes_on most s.exchanges ≡ true
    open_yet =
        let count = s.count in
        let room : nat_lt (length s.exchanges) most ≡ true = grind (arith, nat_tests, count, below) in
        both_are (nat_lt (length s.exchanges) most) (all_open s.exchanges) room s.opens

    last_is : (e : Exchange) → (is_closing e.head || ((n + 1) == most)) ≡ ends_after (most - length s.exchanges) e
    last_is e =
        let count = s.count in
        let same : ((n + 1) == most) ≡ ((most - length s.exchanges) == 1) = grind (arith, nat_tests, count, below) in
        ap (λ b. is_closing e.head || b) same

    -- the exchanges with one more
    module _ (read : List ℕ) (e : Exchange) (consumed : Consumes left later read) (x : Exchanges d ((n + 1) == most) routed (inlet ++ read) e rest mid new) (stay : was ≡ true → routed ≡ true) where
      all_consumed : Consumes had later (s.read ++ read)
      all_consumed = Consumes-trans had left later s.read read s.consumed consumed

      all_come : Comes most (s.read ++ read) (s.exchanges ++ e ∷ []) rest
      all_come =
          comes_more most (s.read ++ read) s.exchanges (inlet ++ read) e rest x.ends open_yet
          (comes_read most s.read s.exchanges inlet read s.comes) x.exchanged (x.ends_is ∙ last_is e)

      all_routes : AreFoundBy routed (s.exchanges ++ e ∷ [])
      all_routes = found_by_more was routed s.exchanges e stay x.routed_is s.routes

      all_runs : Runs d old new (commands_of (s.exchanges ++ e ∷ [])) (responses_of (s.exchanges ++ e ∷ []))
      all_runs =
          rw (filter_map-append command_in s.exchanges (e ∷ []), filter_map-append (λ y. y.response) s.exchanges (e ∷ []))
          (runs_then d old mid new (commands_of s.exchanges) (commands_of (e ∷ [])) (responses_of s.exchanges) (responses_of (e ∷ [])) s.runs x.runs)

      all_at_door : All (HearsDoor d) (s.exchanges ++ e ∷ [])
      all_at_door = All-append (HearsDoor d) s.exchanges (e ∷ []) s.at_door (All-cons (HearsDoor d) e [] x.at_door (All-nil (HearsDoor d)))

      one_more : length (s.exchanges ++ e ∷ []) ≡ n + 1
      one_more = length-append s.exchanges (e ∷ []) ∙ ap (λ k. k + 1) s.count

      all_written : (written : List ℕ) → Appends holds after written → written ≡ e.reply → Appends held after (replies (s.exchanges ++ e ∷ []))
      all_written written a w = rw (replies-more s.exchanges e, ← w) (Appends-trans held holds after (replies s.exchanges) written s.appended a)

      ends_or_not : goes_on most (s.exchanges ++ e ∷ []) ≡ not (is_closing e.head || ((n + 1) == most))
      ends_or_not = goes_on-more most s.exchanges e open_yet ∙ ap not (sym (last_is e))

    -- the same exchanges, though more was read
    module _ (read : List ℕ) (consumed : Consumes left later read) (rests : Rests d mid new) where
      still_consumed : Consumes had later (s.read ++ read)
      still_consumed = Consumes-trans had left later s.read read s.consumed consumed

      still_come : Comes most (s.read ++ read) s.exchanges (inlet ++ read)
      still_come = comes_read most s.read s.exchanges inlet read s.comes

      still_runs : Runs d old new (commands_of s.exchanges) (responses_of s.exchanges)
      still_runs = runs_still d old mid new (commands_of s.exchanges) (responses_of s.exchanges) s.runs rests

    not_last : {P : Type 0} (count : ℕ) → n ≤ count → ((goes_on most s.exchanges ≡ false) ⊎ (count < length s.exchanges)) → P
    not_last count above last = elim last [
      | inl done ↦ let wrong : true ≡ false = sym open_yet ∙ done in absurd (cc wrong)
      | inr fewer ↦ absurd (omega (arith, s.count, above, fewer))
    ]

    quiet : (written : List ℕ) → Appends holds after written → written ≡ [] → Appends held after (replies s.exchanges)
    quiet written a e =
        let all = Appends-trans held holds after (replies s.exchanges) written s.appended a in
        rw (e, append-nil (replies s.exchanges)) at all

    pub so_far_more : TurnsTo Answered → IsSoFar most (n + 1) routed begun reads_then had later held after old new rest
    so_far_more t =
        let (e, x, told, goes, counted) = t.out in
        let others : goes_on most (s.exchanges ++ e ∷ []) ≡ true = ends_or_not t.read e t.consumed x t.stay ∙ ap not goes in
        record {
          read = s.read ++ t.read;
          exchanges = s.exchanges ++ e ∷ [];
          consumed = all_consumed t.read e t.consumed x t.stay;
          appended = all_written t.read e t.consumed x t.stay t.written t.appended told;
          comes = all_come t.read e t.consumed x t.stay;
          routes = all_routes t.read e t.consumed x t.stay;
          runs = all_runs t.read e t.consumed x t.stay;
          at_door = all_at_door t.read e t.consumed x t.stay;
          count = one_more t.read e t.consumed x t.stay;
          opens = (both (nat_lt (length (s.exchanges ++ e ∷ [])) most) (all_open (s.exchanges ++ e ∷ [])) others).1;
          counted = counted_used t.read counted;
        }

    closed_by_reply : (t : TurnsTo Closed) (e : Exchange) → Exchanges d ((n + 1) == most) routed (inlet ++ t.read) e rest mid new
        → t.written ≡ e.reply → (is_closing e.head || ((n + 1) == most)) ≡ true → OneForEachUsed reads reads_then (inlet ++ t.read) rest
        → Converses d most begun reads_then had later held after old new (Ok (record { requests = n + 1; ended = ended_after (n + 1) most }))
    closed_by_reply t e x told ends counted =
        let passed = passed_in (s.exchanges ++ e ∷ []) rest later (replies (s.exchanges ++ e ∷ [])) in
        let by_reply : EndsByReply most passed (n + 1) = inl (record {
          done = ends_or_not t.read e t.consumed x t.stay ∙ ap not ends;
          counted = sym (one_more t.read e t.consumed x t.stay);
          told = refl;
        }) in
        let how = ends_by most passed (n + 1) (ended_after (n + 1) most) refl by_reply in record {
          conversation = record {
            read = s.read ++ t.read;
            written = replies (s.exchanges ++ e ∷ []);
            exchanges = s.exchanges ++ e ∷ [];
            rest = rest;
            consumed = all_consumed t.read e t.consumed x t.stay;
            appended = all_written t.read e t.consumed x t.stay t.written t.appended told;
            comes = all_come t.read e t.consumed x t.stay;
            routes = (all_routes t.read e t.consumed x t.stay).stay;
            runs = all_runs t.read e t.consumed x t.stay;
            answers = answers_off d old new _ _ (all_runs t.read e t.consumed x t.stay);
            answers_ever = ever_off d old new _ _ (all_runs t.read e t.consumed x t.stay);
            at_door = all_at_door t.read e t.consumed x t.stay;
            comes_to = how;
            answers_all = ends_all most passed (n + 1) (ended_after (n + 1) most) how;
          };
          one_for_each = inl (omega (arith, counted_used t.read counted));
          none_behind = λ last. counted_used t.read counted;
          none_behind_refused = spared_by_used _ _ _ _ (counted_used t.read counted);
        }

    closed_by_refusal : (t : TurnsTo Closed) → TurnsAway d reads reads_then (inlet ++ t.read) later mid new t.written
        → Converses d most begun reads_then had later held after old new (Ok (record { requests = n + 1; ended = ended_after (n + 1) most }))
    closed_by_refusal t (away, rests, counted, spared) =
        let passed = passed_in s.exchanges (inlet ++ t.read) later (replies s.exchanges ++ t.written) in
        let by_reply : EndsByReply most passed (n + 1) = inr (record {
          open_yet = open_yet;
          text = t.written;
          turned_away = away;
          counted = ap (λ k. k + 1) (sym s.count);
          told = refl;
        }) in
        let how = ends_by most passed (n + 1) (ended_after (n + 1) most) refl by_reply in record {
          conversation = record {
            read = s.read ++ t.read;
            written = replies s.exchanges ++ t.written;
            exchanges = s.exchanges;
            rest = inlet ++ t.read;
            consumed = still_consumed t.read t.consumed rests;
            appended = Appends-trans held holds after (replies s.exchanges) t.written s.appended t.appended;
            comes = still_come t.read t.consumed rests;
            routes = s.routes.stay;
            runs = still_runs t.read t.consumed rests;
            answers = answers_off d old new _ _ (still_runs t.read t.consumed rests);
            answers_ever = ever_off d old new _ _ (still_runs t.read t.consumed rests);
            at_door = s.at_door;
            comes_to = how;
            answers_all = ends_all most passed (n + 1) (ended_after (n + 1) most) how;
          };
          one_for_each = counted_all t.read _ _ counted inl;
          none_behind = λ last. not_last (n + 1) (omega arith) last;
          none_behind_refused = spared_then _ _ _ _ _ _ s.counted spared;
        }

    pub ends_closed : TurnsTo Closed
        → Converses d most begun reads_then had later held after old new (Ok (record { requests = n + 1; ended = ended_after (n + 1) most }))
    ends_closed t = elim t.out [ inl w ↦ closed_by_reply t w.0 w.1 w.2 w.3 w.4 | inr w ↦ closed_by_refusal t w ]

    pub ends_over : TurnsTo Over
        → Converses d most begun reads_then had later held after old new (Ok (record { requests = n; ended = ended.InputEnd }))
    ends_over t =
        let (over, at_end, rests, none, counted) = t.out in
        let passed = passed_in s.exchanges (inlet ++ t.read) later (replies s.exchanges) in
        let how : EndsAs most passed n ended.InputEnd = record { open_yet = open_yet; over = over; at_end = at_end; counted = sym s.count; told = refl } in
        record {
          conversation = record {
            read = s.read ++ t.read;
            written = replies s.exchanges;
            exchanges = s.exchanges;
            rest = inlet ++ t.read;
            consumed = still_consumed t.read t.consumed rests;
            appended = quiet t.written t.appended none;
            comes = still_come t.read t.consumed rests;
            routes = s.routes.stay;
            runs = still_runs t.read t.consumed rests;
            answers = answers_off d old new _ _ (still_runs t.read t.consumed rests);
            answers_ever = ever_off d old new _ _ (still_runs t.read t.consumed rests);
            at_door = s.at_door;
            comes_to = how;
            answers_all = ends_all most passed n ended.InputEnd how;
          };
          one_for_each = counted_all t.read _ _ counted inl;
          none_behind = λ last. not_last n (omega arith) last;
          none_behind_refused = spared_by_none _ _ _ _ (no_head_over _ over) (omega (arith, over.short));
        }

    stops_answering : (t : TurnsTo (turn.Stopped WriteFault)) (lost : List ℕ) (part : lost ≢ []) (e : Exchange)
        → Exchanges d ((n + 1) == most) routed (inlet ++ t.read) e rest mid new → e.reply ≡ t.written ++ lost → OneForEachUsed reads reads_then (inlet ++ t.read) rest
        → Converses d most begun reads_then had later held after old new (Err (record { requests = n; cause = WriteFault }))
    stops_answering t lost part e x cut counted = record {
      conversation = record {
        read = s.read ++ t.read;
        written = replies s.exchanges ++ t.written;
        exchanges = s.exchanges ++ e ∷ [];
        rest = rest;
        consumed = all_consumed t.read e t.consumed x t.stay;
        appended = Appends-trans held holds after (replies s.exchanges) t.written s.appended t.appended;
        comes = all_come t.read e t.consumed x t.stay;
        routes = (all_routes t.read e t.consumed x t.stay).stay;
        runs = all_runs t.read e t.consumed x t.stay;
        answers = answers_off d old new _ _ (all_runs t.read e t.consumed x t.stay);
        answers_ever = ever_off d old new _ _ (all_runs t.read e t.consumed x t.stay);
        at_door = all_at_door t.read e t.consumed x t.stay;
        comes_to = inr (inl (record { earlier = s.exchanges; in_hand = e; sent = t.written; lost = lost; split = refl; cut = cut; part = part; counted = sym s.count; told = refl }));
        answers_all = tt;
      };
      one_for_each = inl (omega (arith, counted_used t.read counted));
      none_behind = λ last. counted_used t.read counted;
      none_behind_refused = spared_by_used _ _ _ _ (counted_used t.read counted);
    }

    stops_refusing : (t : TurnsTo (turn.Stopped WriteFault)) (lost : List ℕ) (part : lost ≢ [])
        → TurnsAway d reads reads_then (inlet ++ t.read) later mid new (t.written ++ lost)
        → Converses d most begun reads_then had later held after old new (Err (record { requests = n; cause = WriteFault }))
    stops_refusing t lost part (away, rests, counted, spared) = record {
      conversation = record {
        read = s.read ++ t.read;
        written = replies s.exchanges ++ t.written;
        exchanges = s.exchanges;
        rest = inlet ++ t.read;
        consumed = still_consumed t.read t.consumed rests;
        appended = Appends-trans held holds after (replies s.exchanges) t.written s.appended t.appended;
        comes = still_come t.read t.consumed rests;
        routes = s.routes.stay;
        runs = still_runs t.read t.consumed rests;
        answers = answers_off d old new _ _ (still_runs t.read t.consumed rests);
        answers_ever = ever_off d old new _ _ (still_runs t.read t.consumed rests);
        at_door = s.at_door;
        comes_to = inr (inr (inl (record { open_yet = open_yet; sent = t.written; lost = lost; turned_away = away; part = part; counted = sym s.count; told = refl })));
        answers_all = tt;
      };
      one_for_each = counted_all t.read _ _ counted inl;
      none_behind = λ last. not_last n (omega arith) last;
      none_behind_refused = spared_then _ _ _ _ _ _ s.counted spared;
    }

    -- the next request isn't whole
    module _ (read written : List ℕ) (consumed : Consumes left later read) (appended : Appends holds after written) (by : Cause)
        (w : Waits d reads reads_then (inlet ++ read) mid new written by) where
      waiting : StopsWaiting most (passed_in s.exchanges (inlet ++ read) later (replies s.exchanges)) n
      waiting = record { open_yet = open_yet; unfinished = w.0; counted = sym s.count; told = refl }

      stops_waiting : StopsAs most (passed_in s.exchanges (inlet ++ read) later (replies s.exchanges)) n by
          → Converses d most begun reads_then had later held after old new (Err (record { requests = n; cause = by }))
      stops_waiting how = record {
        conversation = record {
          read = s.read ++ read;
          written = replies s.exchanges;
          exchanges = s.exchanges;
          rest = inlet ++ read;
          consumed = still_consumed read consumed w.1;
          appended = quiet written appended w.2;
          comes = still_come read consumed w.1;
          routes = s.routes.stay;
          runs = still_runs read consumed w.1;
          answers = answers_off d old new _ _ (still_runs read consumed w.1);
          answers_ever = ever_off d old new _ _ (still_runs read consumed w.1);
          at_door = s.at_door;
          comes_to = how;
          answers_all = tt;
        };
        one_for_each = counted_all read _ _ w.3 inr;
        none_behind = λ last. not_last n (omega arith) last;
        none_behind_refused = spared_then _ _ _ _ _ _ s.counted w.4;
      }

    pub stops : (cause : Cause) → TurnsTo (turn.Stopped cause)
        → Converses d most begun reads_then had later held after old new (Err (record { requests = n; cause = cause }))
    stops ReadFault t = stops_waiting t.read t.written t.consumed t.appended ReadFault t.out (waiting t.read t.written t.consumed t.appended ReadFault t.out)
    stops WriteFault t =
        elim t.out [
          | inl w ↦ stops_waiting t.read t.written t.consumed t.appended WriteFault w (inl (waiting t.read t.written t.consumed t.appended WriteFault w))
          | inr cut ↦ elim cut.2 [ inl w ↦ stops_answering t cut.0 cut.1 w.0 w.1 w.2 w.3 | inr w ↦ stops_refusing t cut.0 cut.1 w ]
        ]

  -- so many were answered as were allowed
  pub ends_most : (most n : ℕ) (routed : Bool) (begun reads : ℕ) (had left held holds : Option (List ℕ)) (old new : Seen) (inlet : List ℕ)
      → IsSoFar most n routed begun reads had left held holds old new inlet → most ≤ n → n ≤ most
      → Converses d most begun reads had left held holds old new (Ok (record { requests = most; ended = ended.Most }))
  ends_most most n routed begun reads had left held holds old new inlet s above below =
      let same : n ≡ most = omega arith in
      let full : length s.exchanges ≡ most = s.count ∙ same in
      let none : nat_lt (length s.exchanges) most ≡ false = grind (arith, nat_tests, full) in
      let test : (most == most) ≡ true = grind (arith, nat_tests) in
      let ends : ended_after most most ≡ ended.Most = rw test refl in
      let passed = passed_in s.exchanges inlet left (replies s.exchanges) in
      let all : EndsByReply most passed most = inl (record { done = ap (λ b. b && all_open s.exchanges) none; counted = sym full; told = refl }) in
      let how = ends_by most passed most ended.Most ends all in
      record {
        conversation = record {
          read = s.read;
          written = replies s.exchanges;
          exchanges = s.exchanges;
          rest = inlet;
          consumed = s.consumed;
          appended = s.appended;
          comes = s.comes;
          routes = s.routes.stay;
          runs = s.runs;
          answers = answers_off d old new _ _ s.runs;
          answers_ever = ever_off d old new _ _ s.runs;
          at_door = s.at_door;
          comes_to = how;
          answers_all = ends_all most passed most ended.Most how;
        };
        one_for_each = inl (omega (arith, s.counted));
        none_behind = λ last. s.counted;
        none_behind_refused = spared_by_used _ _ _ _ s.counted;
      }
