-- How judging goes on over a keeper.
use Rattle.std.proofs.Common.{◌≡◌, ◌≤◌, ◌+◌, ◌-◌, ℕ, true, false, List, [], ◌∷◌, ◌++◌, length, refl, sym, ap, ◌∙◌, subst, arith, length-append}
use Rattle.std.specs.Prelude.{Option, Some, None, IsSome, IsErrAnd, Result, Ok, Err, OnOk, OnErr}
use Rattle.std.specs.Option.{option_map, option_map_or}
use Rattle.std.specs.FinMap as map
use Rattle.gaz_changefile.specs.Contents.{Contents}
use Rattle.gaz_changefile.specs.Reading.{Good, Bad, Reading, reading}
use Rattle.gaz_changefile.specs.declared.change.Basis.{Basis}
use Rattle.gaz_register.specs.Registers.{Blocks, RegisterValue}
use Rattle.gaz_keeper.specs.Board.{Board, Judgement, empty_board, reached}
use Rattle.gaz_keeper.specs.Keeper.{Content, Counts, Enters, IsAtHand, IsNotOpen, Seen, after_abandon, after_skip, with_judgement}
use Rattle.gaz_keeper.specs.Received.{Received}
use Rattle.gaz_keeper.specs.declared.fault.ShelfFault.{ShelfFault}
use Rattle.gaz_keeper.specs.declared.fault.ShelfFault.TheVariants.{Store}
use Rattle.gaz_views.specs.declared.verdict.Verdict.{Verdict}
use Rattle.gaz_end_rules.specs.Bases.{are_reached}
use Rattle.gaz_rules.specs.Judges.{IsReady, Judges}
use Rattle.gaz_rules.specs.Judging.{bases_of, judge, judged_on}
use Rattle.gaz_extract.specs.Readings.{Looks}
use Rattle.gaz_steps.specs.Hubs.{AreKnown, IsSoundFor, MayHave, door_of, state_of}
use Rattle.gaz_hub.specs.Settling.{Advances, IsAll, IsNext, IsReadyAs, Tries}
use Rattle.gaz_steps.specs.Standing.{Follows, IsPartial, Leads, next_reading, ready}
use Rattle.gaz_steps.specs.Step.{Door, blocks}
use Rattle.gaz_steps.specs.Stops.{IsLater, Stops}
use Rattle.gaz_hub.specs.declared.looking.Next.{Next}
use Rattle.gaz_hub.proofs.Bounds.{all_then, not_all}
use Rattle.gaz_steps.proofs.Leading.{follows_itself, follows_on, leads_on}
use Rattle.gaz_steps.proofs.Looks.{counts_then, left_not_open}
use Rattle.gaz_steps.proofs.Prefixes.{both_parts}
use Rattle.gaz_hub.proofs.Stopping.{Marks, later_on, stops_added, stops_look, stops_still, stops_then}
use Rattle.gaz_steps.proofs.Added.{added_is}

-- ---- one after another

-- with the same files and board a hub may have a content too
pub may_keep : (d : Door) (k m : Content) → m.files ≡ k.files → m.board ≡ k.board → MayHave d k → MayHave d m
may_keep d k m files board was = record { known = subst (AreKnown d) (sym files) was.known; partial = subst (λ (x : Received × Board). IsPartial (blocks d) x.0 x.1) (λ i. (sym files i, sym board i)) was.partial }

-- a look judges nothing
pub advances_looking : {T : Type 0} (d : Door) (a b : Seen) (r : Result T ShelfFault) (P : T → Type 0) → Looks a b r P → IsNotOpen a.progress → Advances d 0 a b
advances_looking d a b r P l idle =
    record {
      harm = l.keeps.harm;
      stands = λ stood fine.
          let same = l.keeps.content stood.0 fine in
          (l.keeps.stands stood.0 fine, may_keep d a.content _ (ap (λ (k : Content). k.files) same) (ap (λ (k : Content). k.board) same) stood.1);
      files = λ stood fine. ap (λ (k : Content). k.files) (l.keeps.content stood.0 fine);
      board = λ stood fine. follows_itself (blocks d) _ _ _ (ap (λ (k : Content). k.board) (l.keeps.content stood.0 fine));
      many = λ stood fine. omega arith;
      idle = left_not_open a.progress b.progress l.keeps.progress idle;
      kept = l.counts.kept;
      trust = l.counts.trust;
      stops = stops_look d a b r P l;
    }

many_of : (m n : ℕ) (xs ys : List ℕ) → m ≤ length xs → n ≤ length ys → m + n ≤ length (xs ++ ys)
many_of m n xs ys f s = omega (arith, length-append xs ys, f, s)

pub advances_then : (d : Door) (m n : ℕ) (a b c : Seen) → Advances d m a b → Advances d n b c → Advances d (m + n) a c
advances_then d m n a b c first second =
    record {
      harm = λ fine. first.harm (second.harm fine);
      stands = λ stood fine. second.stands (first.stands stood (second.harm fine)) fine;
      files = λ stood fine. second.files (first.stands stood (second.harm fine)) fine ∙ first.files stood (second.harm fine);
      board = λ stood fine.
          let mid = second.harm fine in
          let f = first.board stood mid in
          let g = second.board (first.stands stood mid) fine in
          record {
            order = f.order ++ g.order;
            leads = leads_on (blocks d) a.content.files a.content.board f.order b.content.board g.order c.content.board f.leads
                (subst (λ X. Leads (blocks d) X b.content.board g.order c.content.board) (first.files stood mid) g.leads);
          };
      many = λ stood fine.
          let mid = second.harm fine in
          many_of m n (first.board stood mid).order (second.board (first.stands stood mid) fine).order (first.many stood mid) (second.many (first.stands stood mid) fine);
      idle = second.idle;
      kept = let f = first.kept in let s = second.kept in omega arith;
      trust = λ t. first.trust (second.trust t);
      stops = λ sound.
          stops_then a b c (state_of a.content) (state_of b.content) (state_of c.content) (IsLater d) (IsLater d) first.harm second.harm
          (λ fine k. let stood = sound (first.harm fine) in later_on d (state_of a.content) (state_of b.content) (first.files stood fine) (first.board stood fine) k)
          (λ hub k later. later) (first.stops sound) (second.stops (λ fine. first.stands (sound (first.harm fine)) fine));
    }

pub advances_less : (d : Door) (m n : ℕ) (a b : Seen) → n ≤ m → Advances d m a b → Advances d n a b
advances_less d m n a b h l =
    record {
      harm = l.harm;
      stands = l.stands;
      files = l.files;
      board = l.board;
      many = λ stood fine. let f = l.many stood fine in omega arith;
      idle = l.idle;
      kept = l.kept;
      trust = l.trust;
      stops = l.stops;
    }

-- ---- one judgement

-- a call that adds a judgement, where what it asks is so
pub record Adds {T : Type 0} (b c : Seen) (r : Result T ShelfFault) (code : ℕ) (asked : Type 0) (j : Judgement) : Type 0 where
  pub harm : c.unharmed → b.unharmed
  pub stands : b.stands → asked → c.unharmed → c.stands
  pub done : b.stands → asked → c.unharmed → OnOk r (c.content ≡ with_judgement b.content code j)
  pub undone : b.stands → asked → c.unharmed → OnErr r (after_abandon c.content ≡ after_abandon b.content)
  pub idle : IsNotOpen c.progress
  pub counts : Counts b c r

on_ok : {T P Q : Type 0} (r : Result T ShelfFault) → (P → Q) → OnOk r P → OnOk r Q
on_ok (Ok x) f h = f h
on_ok (Err e) f h = tt

on_err : {T P Q : Type 0} (r : Result T ShelfFault) → (P → Q) → OnErr r P → OnErr r Q
on_err (Ok x) f h = tt
on_err (Err e) f h = f h

pub adds_judged : (b c : Seen) (r : Result Verdict ShelfFault) (code : ℕ) (bases : List Basis) (j : Judgement) → Judges b c r code bases j → Adds b c r code (IsReady b.content code bases) j
adds_judged b c r code bases j l =
    record {
      harm = l.harm;
      stands = l.stands;
      done = l.done;
      undone = λ stood met fine. on_err r (ap after_abandon) (l.undone stood met fine);
      idle = l.idle;
      counts = l.counts;
    }

pub adds_skipped : {T : Type 0} (b c : Seen) (r : Result T ShelfFault) (code : ℕ) (own : Blocks) (place rule : ℕ) → IsNotOpen b.progress
    → Enters b c r (IsAtHand b.content code) (after_skip b.content code place rule) → Adds b c r code (IsAtHand b.content code) (judged_on own b.content.board code (Bad place rule))
unfolding judge
adds_skipped b c r code own place rule idle l =
    record {
      harm = l.harm;
      stands = l.stands;
      done = l.done;
      undone = λ stood met fine. on_err r (ap after_abandon) (l.undone stood met fine);
      idle = left_not_open b.progress c.progress l.progress idle;
      counts = l.counts;
    }

-- what a ready file asks for
pub ready_rests : (F : Received) (B : Board) (c : ℕ) (r : Reading) → ready F B c ≡ true → next_reading F B c ≡ Some r → are_reached B (bases_of r) ≡ true
ready_rests F B c r h e =
    ap (λ o. option_map_or (λ (x : Reading). are_reached B (bases_of x)) o false) (sym e) ∙ (both_parts _ _ h).1

was_some : {A R : Type 0} (f : A → R) (o : Option A) (r : R) → option_map f o ≡ Some r → IsSome o
was_some f None r e = cc
was_some f (Some x) r e = refl

pub is_at_hand : (k : Content) (c : ℕ) (r : Reading) → next_reading k.files k.board c ≡ Some r → IsAtHand k c
is_at_hand k c r e = was_some (λ bytes. reading bytes c (reached k.board c + 1)) (map.get k.files (c, reached k.board c + 1)) r e

-- a custodian's next file is ready and reads so
abbrev pub IsNow : Content → ℕ → Reading → Type 0
IsNow k c r = IsReadyAs k.files k.board c r

pub asks_good : (k : Content) (c : ℕ) (f : Contents) → IsNow k c (Good f) → IsReady k c f.bases
asks_good k c f now = record { at_hand = is_at_hand k c (Good f) now.1; reached = ready_rests k.files k.board c (Good f) now.0 now.1 }

pub asks_bad : (k : Content) (c place rule : ℕ) → IsNow k c (Bad place rule) → IsAtHand k c
asks_bad k c place rule now = is_at_hand k c (Bad place rule) now.1

now_in : (k m : Content) (c : ℕ) (r : Reading) → k ≡ m → IsNow k c r → IsNow m c r
now_in k m c r e = subst (λ x. IsNow x c r) e

-- after a look the same is added
pub adds_after : {T U : Type 0} (a b c : Seen) (x : U) (r : Result T ShelfFault) (code : ℕ) (rd : Reading) (own : Blocks) (asked : Type 0) (P : U → Type 0)
    → Looks a b (Ok x) P → (IsNow b.content code rd → asked) → Adds b c r code asked (judged_on own b.content.board code rd)
    → Adds a c r code (IsNow a.content code rd) (judged_on own a.content.board code rd)
adds_after a b c x r code rd own asked P l asks g =
    record {
      harm = λ fine. l.keeps.harm (g.harm fine);
      stands = λ stood met fine. let mid = g.harm fine in g.stands (l.keeps.stands stood mid) (asks (now_in _ _ code rd (sym (l.keeps.content stood mid)) met)) fine;
      done = λ stood met fine.
          let mid = g.harm fine in
          let same = l.keeps.content stood mid in
          on_ok r (λ e. e ∙ ap (λ (k : Content). with_judgement k code (judged_on own k.board code rd)) same)
          (g.done (l.keeps.stands stood mid) (asks (now_in _ _ code rd (sym same) met)) fine);
      undone = λ stood met fine.
          let mid = g.harm fine in
          let same = l.keeps.content stood mid in
          on_err r (λ e. e ∙ ap after_abandon same) (g.undone (l.keeps.stands stood mid) (asks (now_in _ _ code rd (sym same) met)) fine);
      idle = g.idle;
      counts = counts_then a b c r l.counts.kept l.counts.trust g.counts;
    }

abbrev follows_judged : (d : Door) (k m : Content) (code : ℕ) (rd : Reading) → IsNow k code rd → m ≡ with_judgement k code (judged_on ((blocks d) code) k.board code rd) → Follows (blocks d) k.files k.board m.board
follows_judged d k m code rd now e =
    record { order = code ∷ []; leads = (now.0, ap (λ (x : Content). x.board) e ∙ added_is (blocks d) k.files k.board code rd now.1) }

-- with one judgement more a hub may have a content too
may_judge : (d : Door) (k m : Content) (code : ℕ) (rd : Reading) → IsNow k code rd → m ≡ with_judgement k code (judged_on ((blocks d) code) k.board code rd) → MayHave d k → MayHave d m
may_judge d k m code rd now e was =
    record {
      known = subst (AreKnown d) (sym (ap (λ (x : Content). x.files) e)) was.known;
      partial =
          subst (λ F. IsPartial (blocks d) F m.board) (sym (ap (λ (x : Content). x.files) e))
          (follows_on (blocks d) k.files empty_board k.board m.board was.partial (follows_judged d k m code rd now e));
    }

module _ {T : Type 0} (d : Door) (a c : Seen) (code : ℕ) (rd : Reading) (met : a.stands → c.unharmed → IsNow a.content code rd)
    (stops : IsSoundFor d a → Stops a c (state_of a.content) (state_of c.content) (IsLater d)) where
  -- the file was judged
  pub advances_judged : (x : T) → Adds a c (Ok x) code (IsNow a.content code rd) (judged_on ((blocks d) code) a.content.board code rd) → Advances d 1 a c
  advances_judged x g =
      record {
        harm = g.harm;
        stands = λ stood fine.
            let now = met stood.0 fine in
            (g.stands stood.0 now fine, may_judge d a.content c.content code rd now (g.done stood.0 now fine) stood.1);
        files = λ stood fine. ap (λ (k : Content). k.files) (g.done stood.0 (met stood.0 fine) fine);
        board = λ stood fine. let now = met stood.0 fine in follows_judged d a.content c.content code rd now (g.done stood.0 now fine);
        many = λ stood fine. omega arith;
        idle = g.idle;
        kept = g.counts.kept;
        trust = g.counts.trust;
        stops = stops;
      }

  -- it wasn't
  pub advances_broken : (e : ShelfFault) → Adds {T = T} a c (Err e) code (IsNow a.content code rd) (judged_on ((blocks d) code) a.content.board code rd) → Advances d 0 a c
  advances_broken e g =
      record {
        harm = g.harm;
        stands = λ stood fine.
            let now = met stood.0 fine in
            let same = g.undone stood.0 now fine in
            (g.stands stood.0 now fine, may_keep d a.content _ (ap (λ (k : Content). k.files) same) (ap (λ (k : Content). k.board) same) stood.1);
        files = λ stood fine. ap (λ (k : Content). k.files) (g.undone stood.0 (met stood.0 fine) fine);
        board = λ stood fine. follows_itself (blocks d) _ _ _ (ap (λ (k : Content). k.board) (g.undone stood.0 (met stood.0 fine) fine));
        many = λ stood fine. omega arith;
        idle = g.idle;
        kept = g.counts.kept;
        trust = g.counts.trust;
        stops = stops;
      }

  pub tries_judged : (x : T) (left : ℕ) (IsAmong : ℕ → Type 0) → 1 ≤ left → Adds a c (Ok x) code (IsNow a.content code rd) (judged_on ((blocks d) code) a.content.board code rd) → Tries d left a c (Ok 1) IsAmong
  tries_judged x left IsAmong room g =
      record {
        advances = advances_judged x g;
        within = room;
        same = λ stood fine e. absurd (omega arith);
        rests = λ stood fine e. absurd (omega arith);
        cause = λ stood fine all. tt;
      }

  -- it was, and then a call failed that isn't the keeper's
  pub tries_forgotten : (x : T) (e : ShelfFault) (left : ℕ) (IsAmong : ℕ → Type 0) → (e ≡ Store → ⊥) → Adds a c (Ok x) code (IsNow a.content code rd) (judged_on ((blocks d) code) a.content.board code rd) → Tries d left a c (Err e) IsAmong
  tries_forgotten x e left IsAmong never g =
      record {
        advances = advances_less d 1 0 a c (omega arith) (advances_judged x g);
        within = tt;
        same = λ stood fine. tt;
        rests = λ stood fine. tt;
        cause = λ stood fine all is. absurd (never is);
      }

  pub tries_broken : (e : ShelfFault) (left : ℕ) (IsAmong : ℕ → Type 0) → Adds {T = T} a c (Err e) code (IsNow a.content code rd) (judged_on ((blocks d) code) a.content.board code rd) → Tries d left a c (Err e) IsAmong
  tries_broken e left IsAmong g =
      record {
        advances = advances_broken e g;
        within = tt;
        same = λ stood fine. tt;
        rests = λ stood fine. tt;
        cause = λ stood fine all. g.counts.store;
      }

-- what a judgement after a look may leave
pub stops_after : {T U : Type 0} (d : Door) (a b c : Seen) (x : U) (r : Result T ShelfFault) (code : ℕ) (rd : Reading) (asked : Type 0) (P : U → Type 0) → Looks a b (Ok x) P → (P x → IsNow a.content code rd)
    → (IsNow b.content code rd → asked) → Marks b c r code asked (judged_on (blocks d code) b.content.board code rd) → IsSoundFor d a → Stops a c (state_of a.content) (state_of c.content) (IsLater d)
stops_after d a b c x r code rd asked P l now asks marks sound =
    stops_added d a b c x r code rd asked P l now asks (λ ready. follows_judged d a.content (with_judgement a.content code (judged_on (blocks d code) a.content.board code rd)) code rd ready refl) marks sound

-- a file that is ready, though as many are judged as a lawful content has
pub tries_past : (reg : RegisterValue) (a b : Seen) (code left : ℕ) (e : ShelfFault) (n : Next) (rd : Reading) (IsAmong : ℕ → Type 0) → left ≡ 0
    → Looks a b (Ok n) (IsNext a.content.files a.content.board code) → IsNotOpen a.progress → (IsNext a.content.files a.content.board code n → IsNow a.content code rd)
    → Tries (door_of reg) left a b (Err e) IsAmong
tries_past reg a b code left e n rd IsAmong none l idle now =
    record {
      advances = advances_looking (door_of reg) a b (Ok n) _ l idle;
      within = tt;
      same = λ stood fine. tt;
      rests = λ stood fine. tt;
      cause = λ stood fine all is.
          absurd (not_all reg a.content.files a.content.board code stood.1.known (now (l.right stood.0 fine)).0 (subst (IsAll (door_of reg) a.content.board) none all));
    }

-- ---- one call after another

pub neither : (m n : ℕ) → m + n ≡ 0 → (m ≡ 0) × (n ≡ 0)
neither m n e = (omega arith, omega arith)

-- nothing was done yet
pub tries_nothing : (d : Door) (left : ℕ) (a : Seen) (IsAmong : ℕ → Type 0) → IsNotOpen a.progress → ((c : ℕ) → IsAmong c → ⊥) → Tries d left a a (Ok 0) IsAmong
tries_nothing d left a IsAmong idle nobody =
    record {
      advances = record {
        harm = λ fine. fine;
        stands = λ stood fine. stood;
        files = λ stood fine. refl;
        board = λ stood fine. follows_itself (blocks d) _ _ _ refl;
        many = λ stood fine. omega arith;
        idle = idle;
        kept = omega arith;
        trust = λ t. t;
        stops = λ sound. stops_still a (state_of a.content) (IsLater d);
      };
      within = omega arith;
      same = λ stood fine e. refl;
      rests = λ stood fine e c among. absurd (nobody c among);
      cause = λ stood fine all. tt;
    }

-- a call after another; of nobody it is told that he rests
pub tries_on : (d : Door) (m n left : ℕ) (a b c : Seen) (P Q : ℕ → Type 0) → Tries d left a b (Ok m) P → Tries d (left - m) b c (Ok n) Q → Tries d left a c (Ok (m + n)) (λ _. ⊥)
tries_on d m n left a b c P Q first second =
    record {
      advances = advances_then d m n a b c first.advances second.advances;
      within = let few : m ≤ left = first.within in let fewer : n ≤ left - m = second.within in omega arith;
      same = λ stood fine e.
          let mid = second.advances.harm fine in
          let no = neither m n e in
          second.same (first.advances.stands stood mid) fine no.1 ∙ first.same stood mid no.0;
      rests = λ stood fine e k no. absurd no;
      cause = λ stood fine all. tt;
    }

pub tries_stopped : (reg : RegisterValue) (m left : ℕ) (a b c : Seen) (e : ShelfFault) (P Q S : ℕ → Type 0) → Tries (door_of reg) left a b (Ok m) P
    → Tries (door_of reg) (left - m) b c (Err e) Q → Tries (door_of reg) left a c (Err e) S
tries_stopped reg m left a b c e P Q S first second =
    record {
      advances = advances_less (door_of reg) _ 0 a c (omega arith) (advances_then (door_of reg) m 0 a b c first.advances second.advances);
      within = tt;
      same = λ stood fine. tt;
      rests = λ stood fine. tt;
      cause = λ stood fine all is.
          let mid = second.advances.harm fine in
          let few : m ≤ left = first.within in
          let left_then = all_then reg m left (left - m) a b (omega (arith, few)) first.advances stood mid all in
          let more = second.cause (first.advances.stands stood mid) fine left_then is in
          let kept = first.advances.kept in
          omega arith;
    }
