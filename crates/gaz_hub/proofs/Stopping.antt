-- What a stop may leave after calls one after another.
use Rattle.std.proofs.Common.{◌≡◌, ◌⊎◌, inl, inr, ℕ, false, List, refl, sym, ap, ◌∙◌, subst, true≢false}
use Rattle.std.specs.Prelude.{Some, None, Result, Ok, Err, OnOk, OnErr}
use Rattle.std.specs.FinMap as map
use Rattle.gaz_keeper.specs.Keeper.{Content, Enters, IsAtHand, IsNew, IsSound, LeavesAtMost, LeavesJust, Seen, after_abandon, after_skip, after_stop, with_judgement, with_received}
use Rattle.gaz_keeper.specs.Received.{with_file}
use Rattle.gaz_keeper.specs.declared.fault.ShelfFault.{ShelfFault}
use Rattle.gaz_views.specs.declared.verdict.Verdict.{Verdict}
use Rattle.gaz_changefile.specs.Reading.{Bad, Reading}
use Rattle.gaz_changefile.specs.declared.change.Basis.{Basis}
use Rattle.gaz_register.specs.Registers.{Blocks}
use Rattle.gaz_rules.specs.Judges.{IsReady, Judges}
use Rattle.gaz_rules.specs.Judging.{judge, judged_on}
use Rattle.gaz_keeper.specs.Board.{Judgement}
use Rattle.gaz_extract.specs.Readings.{Looks}
use Rattle.gaz_steps.specs.Hubs.{IsSoundFor, state_of}
use Rattle.gaz_hub.specs.Settling.{IsReadyAs}
use Rattle.gaz_steps.specs.Standing.{Follows}
use Rattle.gaz_steps.specs.Step.{Command, Door, HubState, Pose, Response, Submit, blocks, file_refusal}
use Rattle.gaz_steps.specs.Stops.{IsLater, IsLaterWith, IsLeftBy, IsLeftWith, Stops, StopsCall, is_taken_in}
use Rattle.gaz_steps.proofs.Leading.{follows_itself, follows_more, follows_on}
use Rattle.gaz_steps.proofs.Steps.{has_all_with}

-- ---- one hub after another

pub same_state : (k m : Content) → m.files ≡ k.files → m.board ≡ k.board → state_of m ≡ state_of k
same_state k m files board = λ i. record { received = files i; board = board i }

-- what is later than a later hub is later than the first
pub later_on : (d : Door) (first second : HubState) → second.received ≡ first.received → Follows (blocks d) first.received first.board second.board → (k : Content) → IsLater d second k → IsLater d first k
later_on d first second same f k l =
    record {
      working = l.working;
      files = l.files ∙ same;
      board = follows_on (blocks d) first.received first.board second.board k.board f (subst (λ F. Follows (blocks d) F second.board k.board) same l.board);
    }

-- so is what has one file more
pub with_on : (d : Door) (first second : HubState) → second.received ≡ first.received → Follows (blocks d) first.received first.board second.board
    → (c volume : ℕ) (bytes : List ℕ) (k : Content) → IsLaterWith d second c volume bytes k → IsLaterWith d first c volume bytes k
with_on d first second same f c volume bytes k l =
    let free = ap (λ F. map.get F (c, volume)) (sym same) ∙ l.free in
    record {
      let_in = l.let_in;
      free = free;
      later = later_on d (record { received = with_file first.received c volume bytes; board = first.board }) (record { received = with_file second.received c volume bytes; board = second.board })
          (ap (λ F. with_file F c volume bytes) same)
          (follows_more (blocks d) first.received (with_file first.received c volume bytes) (has_all_with first.received c volume bytes free) first.board second.board f)
          k l.later;
    }

pub left_on : (d : Door) (first second : HubState) → second.received ≡ first.received → Follows (blocks d) first.received first.board second.board
    → (command : Command) (k : Content) → IsLeftBy d command second k → IsLeftBy d command first k
left_on d first second same f (Submit c volume bytes) k (inl l) = inl (later_on d first second same f k l)
left_on d first second same f (Submit c volume bytes) k (inr l) = inr (with_on d first second same f c volume bytes k l)
left_on d first second same f (Pose q) k l = later_on d first second same f k l

pub left_with_on : (d : Door) (first second : HubState) → second.received ≡ first.received → Follows (blocks d) first.received first.board second.board
    → (command : Command) (k : Content) → IsLeftWith d command second k → IsLeftWith d command first k
left_with_on d first second same f (Submit c volume bytes) k l = with_on d first second same f c volume bytes k l
left_with_on d first second same f (Pose q) k l = absurd l

pub later_left : (d : Door) (hub : HubState) (command : Command) (k : Content) → IsLater d hub k → IsLeftBy d command hub k
later_left d hub (Submit c volume bytes) k l = inl l
later_left d hub (Pose q) k l = l

-- ---- one call after another

-- no call
pub stops_still : (a : Seen) (hub : HubState) (P : HubState → Content → Type 0) → Stops a a hub hub P
stops_still a hub P = record { ever = λ k l. inl l; now = λ fine k l. inl (l, refl); whole = λ all. all }

-- two calls
pub stops_then : (a b c : Seen) (one two three : HubState) (P Q : HubState → Content → Type 0) → (b.unharmed → a.unharmed) → (c.unharmed → b.unharmed)
    → (b.unharmed → (k : Content) → Q two k → Q one k) → ((hub : HubState) (k : Content) → P hub k → Q hub k)
    → Stops a b one two P → Stops b c two three Q → Stops a c one three Q
stops_then a b c one two three P Q harm harm_then back goes first second =
    record {
      ever = λ k l. elim (second.ever k l) [
        | inl was ↦ elim (first.ever k was) [
          | inl before ↦ inl before
          | inr made ↦ inr (made.0, goes one k made.1)
        ]
        | inr made ↦ inr (harm made.0, back made.0 k made.1)
      ];
      now = λ fine k l. elim (second.now fine k l) [
        | inl was ↦ elim (first.now (harm_then fine) k was.0) [
          | inl before ↦ inl (before.0, was.1 ∙ before.1)
          | inr made ↦ inr (subst (λ hub. Q hub k) (sym was.1) (goes two k made))
        ]
        | inr made ↦ inr made
      ];
      whole = λ all. second.whole (first.whole all);
    }

-- a look
pub stops_look : {T : Type 0} (d : Door) (a b : Seen) (r : Result T ShelfFault) (P : T → Type 0) → Looks a b r P → IsSoundFor d a
    → Stops a b (state_of a.content) (state_of b.content) (IsLater d)
stops_look d a b r P l sound =
    let so : IsSound a = λ fine. (sound fine).0 in
    record {
      ever = λ k left. inl (l.keeps.leaves so k left);
      now = λ fine k left. inl (l.keeps.leaves so k left, ap state_of (l.keeps.content (so (l.keeps.harm fine)) fine));
      whole = l.keeps.whole so;
    }

-- ---- a judgement

-- what is said of a stop by a call that adds a judgement, where what it asks is so
pub record Marks {T : Type 0} (b c : Seen) (r : Result T ShelfFault) (code : ℕ) (asked : Type 0) (j : Judgement) : Type 0 where
  pub harm : c.unharmed → b.unharmed
  pub done : b.stands → asked → c.unharmed → OnOk r (c.content ≡ with_judgement b.content code j)
  pub undone : b.stands → asked → c.unharmed → OnErr r (after_abandon c.content ≡ after_abandon b.content)
  pub leaves : IsSound b → (b.unharmed → asked) → LeavesAtMost (Some (with_judgement b.content code j)) b c
  pub committed : IsSound b → (b.unharmed → asked) → OnOk r (LeavesJust (Some (with_judgement b.content code j)) b c)
  pub whole : IsSound b → (b.unharmed → asked) → b.whole → c.whole

on_err : {T P Q : Type 0} (r : Result T ShelfFault) → (P → Q) → OnErr r P → OnErr r Q
on_err (Ok x) f h = tt
on_err (Err e) f h = f h

pub marks_judged : (b c : Seen) (r : Result Verdict ShelfFault) (code : ℕ) (bases : List Basis) (j : Judgement) → Judges b c r code bases j → Marks b c r code (IsReady b.content code bases) j
marks_judged b c r code bases j l =
    record { harm = l.harm; done = l.done; undone = λ stood met fine. on_err r (ap after_abandon) (l.undone stood met fine); leaves = l.leaves; committed = l.committed; whole = l.whole }

pub marks_skipped : {T : Type 0} (b c : Seen) (r : Result T ShelfFault) (code : ℕ) (own : Blocks) (place rule : ℕ)
    → Enters b c r (IsAtHand b.content code) (after_skip b.content code place rule) → Marks b c r code (IsAtHand b.content code) (judged_on own b.content.board code (Bad place rule))
unfolding judge
marks_skipped b c r code own place rule l =
    record { harm = l.harm; done = l.done; undone = λ stood met fine. on_err r (ap after_abandon) (l.undone stood met fine); leaves = l.leaves; committed = l.committed; whole = l.whole }

module _ {T U : Type 0} (d : Door) (a b c : Seen) (x : U) (r : Result T ShelfFault) (code : ℕ) (rd : Reading) (asked : Type 0) (P : U → Type 0)
    (l : Looks a b (Ok x) P) (now : P x → IsReadyAs a.content.files a.content.board code rd) (asks : IsReadyAs b.content.files b.content.board code rd → asked)
    (later : IsReadyAs a.content.files a.content.board code rd → Follows (blocks d) a.content.files a.content.board (with_judgement a.content code (judged_on (blocks d code) a.content.board code rd)).board)
    (g : Marks b c r code asked (judged_on (blocks d code) b.content.board code rd)) (sound : IsSoundFor d a) where
  abbrev judged : Content → Content
  judged k = with_judgement k code (judged_on (blocks d code) k.board code rd)

  so : IsSound a
  so fine = (sound fine).0

  same : b.unharmed → b.content ≡ a.content
  same fine = l.keeps.content (so (l.keeps.harm fine)) fine

  so_then : IsSound b
  so_then fine = l.keeps.stands (so (l.keeps.harm fine)) fine

  is_now : b.unharmed → IsReadyAs a.content.files a.content.board code rd
  is_now fine = now (l.right (so (l.keeps.harm fine)) fine)

  is_asked : b.unharmed → asked
  is_asked fine = asks (subst (λ (k : Content). IsReadyAs k.files k.board code rd) (sym (same fine)) (is_now fine))

  made_later : b.unharmed → (k : Content) → k ≡ after_stop (judged b.content) → IsLater d (state_of a.content) k
  made_later fine k e =
      let is : k ≡ after_stop (judged a.content) = e ∙ ap (λ (m : Content). after_stop (judged m)) (same fine) in
      record {
        working = ap (λ (m : Content). m.working) is;
        files = ap (λ (m : Content). m.files) is;
        board = subst (λ (m : Content). Follows (blocks d) a.content.files a.content.board m.board) (sym is) (later (is_now fine));
      }

  ever : (k : Content) → c.leaves k → a.leaves k ⊎ (a.unharmed × IsLater d (state_of a.content) k)
  ever k left = elim (g.leaves so_then is_asked k left) [
    | inl was ↦ inl (l.keeps.leaves so k was)
    | inr made ↦ inr (l.keeps.harm made.0, made_later made.0 k made.1)
  ]

  -- it is judged, and just that is left
  at_end : (q : Result T ShelfFault) → OnOk q (c.content ≡ judged b.content) → OnErr q (after_abandon c.content ≡ after_abandon b.content) → OnOk q (LeavesJust (Some (judged b.content)) b c)
      → c.unharmed → (k : Content) → c.leaves k → (a.leaves k × (state_of c.content ≡ state_of a.content)) ⊎ IsLater d (state_of c.content) k
  at_end (Ok y) done undone just fine k left =
      let e = (just k left).1 in
      inr (record {
        working = ap (λ (m : Content). m.working) e;
        files = ap (λ (m : Content). m.files) e ∙ ap (λ (m : Content). m.files) (sym done);
        board = follows_itself (blocks d) _ _ _ (ap (λ (m : Content). m.board) e ∙ ap (λ (m : Content). m.board) (sym done));
      })
  at_end (Err e) done undone just fine k left =
      let stays : state_of c.content ≡ state_of a.content = ap state_of undone ∙ ap state_of (same (g.harm fine)) in
      elim (ever k left) [
        | inl was ↦ inl (was, stays)
        | inr made ↦ inr (subst (λ hub. IsLater d hub k) (sym stays) made.1)
      ]

  pub stops_added : Stops a c (state_of a.content) (state_of c.content) (IsLater d)
  stops_added =
      record {
        ever = ever;
        now = λ fine k left.
            let mid = g.harm fine in
            at_end r (g.done (so_then mid) (is_asked mid) fine) (g.undone (so_then mid) (is_asked mid) fine) (g.committed so_then is_asked) fine k left;
        whole = λ all. g.whole so_then is_asked (l.keeps.whole so all);
      }

-- ---- a file

module _ (d : Door) (a b : Seen) (code volume : ℕ) (bytes : List ℕ) (let_in : file_refusal d code volume bytes ≡ None) (sound : IsSoundFor d a) (free : a.unharmed → IsNew a.content code volume) where
  abbrev hub : HubState
  hub = state_of a.content

  abbrev with_it : HubState
  with_it = record { received = with_file a.content.files code volume bytes; board = a.content.board }

  so_before : IsSound a
  so_before fine = (sound fine).0

  -- what is left of the commit has the file
  has_file : a.unharmed → (k : Content) → k ≡ after_stop (with_received a.content code volume bytes) → IsLaterWith d hub code volume bytes k
  has_file fine k e =
      record {
        let_in = let_in;
        free = free fine;
        later = record {
          working = ap (λ (m : Content). m.working) e;
          files = ap (λ (m : Content). m.files) e;
          board = follows_itself (blocks d) _ _ _ (ap (λ (m : Content). m.board) e);
        };
      }

  -- it came, and then what was ready was judged
  pub stops_received : (c : Seen) (response : Response) → Enters {T = Unit {0}} a b (Ok tt) (IsNew a.content code volume) (with_received a.content code volume bytes)
      → (c.unharmed → b.unharmed) → Stops b c (state_of b.content) (state_of c.content) (IsLater d) → StopsCall d a c hub (state_of c.content) (Submit code volume bytes) response
  stops_received c response came harm then =
      record {
        stops = record {
          ever = λ k l. let has = left_with k l in inr (has.0, inr has.1);
          now = λ fine k l. elim (then.now fine k l) [
            | inl was ↦ inr (inl (subst (λ h. IsLater d h k) (sym (was.1 ∙ came_to (harm fine))) (first_with k was.0).1.later))
            | inr made ↦ inr (inl made)
          ];
          whole = λ all. then.whole (came.whole so_before free all);
        };
        received = λ is k l. left_with k l;
      }
    where
      came_to : b.unharmed → state_of b.content ≡ with_it
      came_to fine = ap state_of (came.done (so_before (came.harm fine)) (free (came.harm fine)) fine)

      first_with : (k : Content) → b.leaves k → a.unharmed × IsLaterWith d hub code volume bytes k
      first_with k l = let made = came.committed so_before free k l in (made.0, has_file made.0 k made.1)

      left_with : (k : Content) → c.leaves k → a.unharmed × IsLaterWith d hub code volume bytes k
      left_with k l = elim (then.ever k l) [
        | inl was ↦ first_with k was
        | inr made ↦
            let fine = came.harm made.0 in
            (fine, record { let_in = let_in; free = free fine; later = subst (λ h. IsLater d h k) (came_to made.0) made.1 })
      ]

  -- it couldn't be received
  pub stops_not_received : (e : ShelfFault) (response : Response) → is_taken_in response ≡ false → Enters {T = Unit {0}} a b (Err e) (IsNew a.content code volume) (with_received a.content code volume bytes)
      → StopsCall d a b hub (state_of b.content) (Submit code volume bytes) response
  stops_not_received e response not came =
      record {
        stops = record {
          ever = ever;
          now = λ fine k l.
              let was = came.harm fine in
              let stays : state_of b.content ≡ hub = ap state_of (came.undone (so_before was) (free was) fine) in
              elim (ever k l) [
                | inl before ↦ inl (before, stays)
                | inr made ↦ inr (subst (λ h. IsLeftBy d (Submit code volume bytes) h k) (sym stays) made.1)
              ];
          whole = came.whole so_before free;
        };
        received = λ is. absurd (true≢false (sym is ∙ not));
      }
    where
      ever : (k : Content) → b.leaves k → a.leaves k ⊎ (a.unharmed × IsLeftBy d (Submit code volume bytes) hub k)
      ever k l = elim (came.leaves so_before free k l) [
        | inl was ↦ inl was
        | inr made ↦ inr (made.0, inr (has_file made.0 k made.1))
      ]

-- ---- a call

-- one that judges only
pub stops_judging : (d : Door) (a c : Seen) (before after : HubState) (command : Command) (response : Response) → is_taken_in response ≡ false → Stops a c before after (IsLater d)
    → StopsCall d a c before after command response
stops_judging d a c before after command response not s =
    record {
      stops = record {
        ever = λ k l. elim (s.ever k l) [
          | inl was ↦ inl was
          | inr made ↦ inr (made.0, later_left d before command k made.1)
        ];
        now = λ fine k l. elim (s.now fine k l) [
          | inl was ↦ inl was
          | inr made ↦ inr (later_left d after command k made)
        ];
        whole = s.whole;
      };
      received = λ is. absurd (true≢false (sym is ∙ not));
    }

-- none of the keeper
pub stops_unasked : (d : Door) (a : Seen) (hub : HubState) (command : Command) (response : Response) → is_taken_in response ≡ false → StopsCall d a a hub hub command response
stops_unasked d a hub command response not = stops_judging d a a hub hub command response not (stops_still a hub (IsLater d))

-- after what was ready was judged
pub stops_settled : (d : Door) (a b c : Seen) (one two three : HubState) (command : Command) (response : Response) → (b.unharmed → a.unharmed) → (c.unharmed → b.unharmed)
    → (b.unharmed → two.received ≡ one.received) → (b.unharmed → Follows (blocks d) one.received one.board two.board)
    → Stops a b one two (IsLater d) → StopsCall d b c two three command response → StopsCall d a c one three command response
stops_settled d a b c one two three command response harm harm_then files board first second =
    record {
      stops = stops_then a b c one two three (IsLater d) (IsLeftBy d command) harm harm_then (λ fine k. left_on d one two (files fine) (board fine) command k) (λ h k. later_left d h command k) first second.stops;
      received = λ is k l. let made = second.received is k l in (harm made.0, left_with_on d one two (files made.0) (board made.0) command k made.1);
    }
