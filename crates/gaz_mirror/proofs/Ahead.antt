-- What was gathered above comes below.
use Rattle.std.proofs.Common.{◌≡◌, ◌∙◌, ℕ, Bool, ap, cond, le_refl, refl, subst, sym}
use Rattle.std.specs.Prelude.{⊤, true, Option, None, Some, IsSome, Result, Ok, Err, OnOk, is_ok}
use Rattle.std.specs.Option.{ForSome}
use Rattle.gaz_views.proofs.Outcomes.{on_ok}
use Rattle.gaz_views.specs.View.{View}
use Rattle.gaz_keeper.specs.Board.{last_view}
use Rattle.gaz_keeper.specs.Keeper.{Content, Goes, Idle, IsAtHand, IsNotOpen, Open, Progress, Seen, after_abandon, with_working}
use Rattle.gaz_keeper.specs.declared.fault.ShelfFault.{ShelfFault}
use Rattle.gaz_keeper.specs.declared.shelf.Shelf.{Ghosts}
use Rattle.gaz_mirror.specs.Gathering.{AreThen, made, makes}
use Rattle.gaz_mirror.specs.InStep.{IsAhead}
use Rattle.gaz_mirror.specs.Mirroring.{StandApart, StandsWith, mirrored}
use Rattle.gaz_mirror.specs.declared.gathered.Change.{Change}
use Rattle.gaz_mirror.specs.declared.gathered.Gathered.{Gathered}
use Rattle.gaz_mirror.specs.declared.mirror.Mirror.{Mirror}

pub there : {X : Type 0} (o : Option X) → IsSome o → (x : X) × (o ≡ Some x)
there (Some x) is = (x, refl)
there None is = cc

-- the lower keeper of one that gathers is in no judgement
pub closed : {L U : Type 0} {lower : Ghosts L} {upper : Ghosts U} (m : Mirror L U lower upper) (g : Gathered) → m.gathered ≡ Some g → IsNotOpen (lower.seen m.lower).progress
closed m g is =
    let u = there m.upper (m.at_hand g is) in
    (m.ahead g is u.0 u.1).closed

-- what two are, those are that are called so
pub ahead_by : {U : Type 0} (seen : U → Seen) (low : Progress) (v : U) (x : Gathered) → IsAhead low (seen v).progress x → (y : Gathered) → Some x ≡ Some y → (u : U) → Some v ≡ Some u → IsAhead low (seen u).progress y
ahead_by {U} seen low v x ahead y is u there_is =
    let same : x ≡ y = cc in
    let upper : v ≡ u = cc in
    subst (λ (p : U × Gathered). IsAhead low (seen p.0).progress p.1) (λ i. (upper i, same i)) ahead

pub where_ok : {T P : Type 0} (r : Result T ShelfFault) → is_ok r ≡ true → OnOk r P → P
where_ok (Ok x) ok h = h
where_ok (Err e) ok h = cc

-- a change was made above and noted
pub ahead_on : (low above new : Progress) (r : Result (Unit {0}) ShelfFault) (x y : Gathered) → IsAhead low above x → is_ok r ≡ true → OnOk r (new ≡ above) → y.code ≡ x.code → y.tried ≡ x.tried → IsAhead low new y
ahead_on low above new r x y ahead ok on code tried = record {
  judging = where_ok r ok on ∙ ahead.judging ∙ sym (ap Open code);
  closed = ahead.closed;
  untried = λ no. ahead.untried (sym tried ∙ no);
}

-- ---- what is gathered is handed down, or given up

-- it is given up above, where the lower one is in no judgement
pub given_up : {U : Type 0} (seen : U → Seen) (below : Seen) (u : U) (g : Gathered) (o : Option U) → below.progress ≡ Idle
    → ForSome o (λ v. (seen u).stands → (seen v).stands × ((seen v).content ≡ after_abandon (seen u).content))
    → Goes {T = Unit {0}} (mirrored seen below (Some u) (Some g)) (mirrored seen below o None) (Ok tt) ⊤ (after_abandon below.content) None Idle
given_up {U} seen below u g o idle left = record {
  harm = λ fine. fine;
  stands = λ stood _ _. both_stand o left stood;
  done = λ stood _ _. sym stood.same ∙ ap after_abandon stood.same;
  undone = λ _ _ _. tt;
  on = idle;
  broken = tt;
  counts = record { kept = le_refl below.failures; store = tt; trust = λ t. t };
  leaves = λ _ _ k l. l;
  whole = λ _ _ all. all;
  committed = λ _ _. tt;
}
  where
    both_stand : (p : Option U) → ForSome p (λ v. (seen u).stands → (seen v).stands × ((seen v).content ≡ after_abandon (seen u).content)) → StandApart below (seen u) g → StandsWith seen below p None
    both_stand None left stood = stood.lower
    both_stand (Some v) left stood =
        let is = left v refl stood.upper in
        record { lower = stood.lower; upper = is.0; same = is.1 ∙ stood.same }

-- the same of one whose parts are called otherwise
pub of_gathered : {U T : Type 0} (seen : U → Seen) (below new : Seen) (was now : Option U) (gathered left : Option Gathered) (u : U) (g : Gathered) (r : Result T ShelfFault) (f : Content → Content)
    (after : Progress → Progress) → was ≡ Some u → gathered ≡ Some g → left ≡ None
    → Goes (mirrored seen below (Some u) (Some g)) (mirrored seen new now None) r ⊤ (f (with_working below.content (seen u).content.working)) None (after (Open g.code))
    → Goes (mirrored seen below was gathered) (mirrored seen new now left) r ⊤ (f (mirrored seen below was gathered).content) None (after (mirrored seen below was gathered).progress)
of_gathered {U} seen below new was now gathered left u g r f after is these none =
    subst (λ (t : Option U × Option Gathered × Option Gathered). Goes (mirrored seen below t.0 t.1) (mirrored seen new now t.2) r ⊤ (f (mirrored seen below t.0 t.1).content) None (after (mirrored seen below t.0 t.1).progress))
    (λ i. (sym is i, sym these i, sym none i))

pub at_some : {U : Type 0} (P : U → Type 0) (v : U) → P v → ForSome (Some v) P
at_some P v p = λ w is. let same : v ≡ w = cc in subst P same p

-- ---- in answers

module _ {U : Type 0} (seen : U → Seen) (below new : Seen) (u : U) (g noted : Gathered) (change : Change) (added : Bool) (code : noted.code ≡ g.code) (is : AreThen g.changes.items noted.changes.items added change) where
  -- a copy with a change more or none comes down; only the lower one is left
  pub noted_down : {T : Type 0} (r : Result T ShelfFault) → Goes below new r (IsAtHand below.content noted.code) (with_working below.content (made (last_view below.content.board noted.code) noted.changes.items)) None (Open noted.code)
      → Goes (mirrored seen below (Some u) (Some g)) new r ⊤ (with_working below.content (cond added (makes (seen u).content.working change) (seen u).content.working)) None (Open g.code)
  noted_down r down =
      let goes = subst (λ (c : ℕ). Goes below new r (IsAtHand below.content c) (with_working below.content (made (last_view below.content.board c) noted.changes.items)) None (Open c)) code down in
      record {
        harm = goes.harm;
        stands = λ stood _. goes.stands stood.lower stood.at_hand;
        done = λ stood _ fine. on_ok r (λ e. e ∙ ap (with_working below.content) (is (last_view below.content.board g.code) ∙ ap (λ (v : View). cond added (makes v change) v) (sym stood.working)))
            (goes.done stood.lower stood.at_hand fine);
        undone = λ stood _. goes.undone stood.lower stood.at_hand;
        on = goes.on;
        broken = goes.broken;
        counts = record { kept = goes.counts.kept; store = goes.counts.store; trust = goes.counts.trust };
        leaves = λ sound _. goes.leaves (λ fine. (sound fine).lower) (λ fine. (sound fine).at_hand);
        whole = λ sound _. goes.whole (λ fine. (sound fine).lower) (λ fine. (sound fine).at_hand);
        committed = λ sound _. goes.committed (λ fine. (sound fine).lower) (λ fine. (sound fine).at_hand);
      }
