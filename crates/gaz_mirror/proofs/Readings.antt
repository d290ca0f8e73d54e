-- What a reading of either keeper tells of both.
use Rattle.std.proofs.Common.{◌≡◌, ◌≢◌, ◌≤◌, ◌∙◌, ℕ, IfOk, None, Option, Result, Some, ap, le_trans, refl, subst, sym}
use Rattle.gaz_views.specs.View.{View}
use Rattle.gaz_keeper.specs.Keeper.{Broken, Content, Idle, IsLeft, IsNotOpen, Keeps, Open, Progress, Reads, Seen, after_stop, view_of, viewed, with_working}
use Rattle.gaz_keeper.specs.declared.fault.ShelfFault.{ShelfFault}
use Rattle.gaz_keeper.proofs.Keeping.{keeps_itself, keeps_then}
use Rattle.gaz_mirror.specs.InStep.{IsAhead, IsInStep}
use Rattle.gaz_mirror.specs.Mirroring.{StandsWith, mirrored}
use Rattle.gaz_mirror.specs.declared.gathered.Gathered.{Gathered}
use Rattle.gaz_mirror.proofs.Then.{further}

-- where a keeper over two stands for its content, the lower one stands for its own
pub stands_below : {U : Type 0} (seen : U → Seen) (lower : Seen) (upper : Option U)
    (gathered : Option Gathered) → StandsWith seen lower upper gathered → lower.stands
stands_below seen lower None None stood = stood
stands_below seen lower (Some upper) None stood = stood.lower
stands_below seen lower None (Some gathered) stood = absurd stood
stands_below seen lower (Some upper) (Some gathered) stood = stood.lower

-- what wasn't broken is as it was
pub left_same : (p q : Progress) → p ≢ Broken → IsLeft p q → q ≡ p
left_same Idle q whole left = left
left_same (Open c) q whole left = left
left_same Broken q whole left = absurd (whole refl)

-- the views are then the same
views_left : (p q : Progress) (k : Content) (c : ℕ) → IsLeft p q → viewed q k c ≡ viewed p k c
views_left Idle q k c left = ap (λ (x : Progress). viewed x k c) left
views_left (Open whom) q k c left = ap (λ (x : Progress). viewed x k c) left
views_left Broken Idle k c left = refl
views_left Broken (Open whom) k c left = absurd (left whom refl)
views_left Broken Broken k c left = refl

same_views : (a b : Seen) → IsLeft a.progress b.progress → b.content ≡ a.content → view_of b ≡ view_of a
same_views a b left same = λ i c. let at : viewed b.progress b.content c ≡ viewed a.progress a.content c = views_left a.progress b.progress b.content c left ∙ ap (λ (k : Content). viewed a.progress k c) same in at i

-- a reading of the upper one
pub keeps_above : {U : Type 0} (seen : U → Seen) (sole : (u : U) → (seen u).unharmed) (below : Seen) (u v : U) (gathered : Option Gathered) → Keeps (seen u) (seen v)
    → Keeps (mirrored seen below (Some u) gathered) (mirrored seen below (Some v) gathered)
keeps_above seen sole below u v None keeps = record {
  harm = λ fine. fine;
  stands = λ stood _. record { lower = stood.lower; upper = keeps.stands stood.upper (sole v); same = keeps.content stood.upper (sole v) ∙ stood.same };
  content = λ _ _. refl;
  progress = (keeps_itself below).progress;
  leaves = λ _ k l. l;
  whole = λ _ all. all;
}
keeps_above seen sole below u v (Some g) keeps = record {
  harm = λ fine. fine;
  stands = λ stood _. record {
    lower = stood.lower;
    upper = keeps.stands stood.upper (sole v);
    same = ap after_stop (keeps.content stood.upper (sole v)) ∙ stood.same;
    at_hand = stood.at_hand;
    working = ap (λ (k : Content). k.working) (keeps.content stood.upper (sole v)) ∙ stood.working;
  };
  content = λ stood _. ap (λ (k : Content). with_working below.content k.working) (keeps.content stood.upper (sole v));
  progress = refl;
  leaves = λ _ k l. l;
  whole = λ _ all. all;
}

module _ {U T : Type 0} (seen : U → Seen) (old new : Seen) (upper : Option U) (r : Result T ShelfFault) (P : Content → (ℕ → View) → T → Type 0) where
  still : (o : Option U) → Reads old new r (P old.content (view_of old)) → StandsWith seen old o None → new.unharmed → StandsWith seen new o None
  still None reads stood fine = reads.keeps.stands stood fine
  still (Some u) reads stood fine = record { lower = reads.keeps.stands stood.lower fine; upper = stood.upper; same = stood.same ∙ sym (reads.keeps.content stood.lower fine) }

  -- one of the lower one, where nothing is gathered
  reads_below : Reads old new r (P old.content (view_of old)) → Reads (mirrored seen old upper None) (mirrored seen new upper None) r (P old.content (view_of old))
  reads_below reads = record {
    keeps = record {
      harm = reads.keeps.harm;
      stands = still upper reads;
      content = λ stood fine. reads.keeps.content (stands_below seen old upper None stood) fine;
      progress = reads.keeps.progress;
      leaves = λ sound. reads.keeps.leaves (λ fine. stands_below seen old upper None (sound fine));
      whole = λ sound. reads.keeps.whole (λ fine. stands_below seen old upper None (sound fine));
    };
    right = λ stood fine. reads.right (stands_below seen old upper None stood) fine;
    cleared = reads.cleared;
    counts = record { kept = reads.counts.kept; store = reads.counts.store; trust = reads.counts.trust };
  }

-- one behind what keeps all
pub reads_behind : {T : Type 0} (a b d : Seen) (r : Result T ShelfFault) (P : Content → (ℕ → View) → T → Type 0) → Keeps a b → a.failures ≤ b.failures → (b.trusted → a.trusted)
    → Reads b d r (P b.content (view_of b)) → Reads a d r (P a.content (view_of a))
reads_behind a b d r P keeps counted trust reads = record {
  keeps = keeps_then a b d keeps reads.keeps;
  right = λ stood fine.
      let before = reads.keeps.harm fine in
      let same = keeps.content stood before in
      subst (λ (x : Content × (ℕ → View)). IfOk r (P x.0 x.1)) (λ i. (same i, same_views a b keeps.progress same i)) (reads.right (keeps.stands stood before) fine);
  cleared = reads.cleared;
  counts = record {
    kept = le_trans counted reads.counts.kept;
    store = further r a.failures b.failures d.failures counted reads.counts.store;
    trust = λ t. trust (reads.counts.trust t);
  };
}

-- one of the lower one, where nothing is gathered any more
pub reads_settled : {U T : Type 0} (seen : U → Seen) (old new : Seen) (upper : Option U) (gathered : Option Gathered) (r : Result T ShelfFault) (P : Content → (ℕ → View) → T → Type 0) → gathered ≡ None
    → Reads old new r (P old.content (view_of old))
    → Reads (mirrored seen old upper gathered) (mirrored seen new upper gathered) r (P (mirrored seen old upper gathered).content (view_of (mirrored seen old upper gathered)))
reads_settled seen old new upper gathered r P none reads =
    subst (λ (o : Option Gathered). Reads (mirrored seen old upper o) (mirrored seen new upper o) r (P (mirrored seen old upper o).content (view_of (mirrored seen old upper o)))) (sym none)
    (reads_below seen old new upper r P reads)

-- the upper one was asked
pub keeps_asked : {U : Type 0} (seen : U → Seen) (sole : (u : U) → (seen u).unharmed) (below : Seen) (upper : Option U) (u v : U) (gathered : Option Gathered) → upper ≡ Some u → Keeps (seen u) (seen v)
    → Keeps (mirrored seen below upper gathered) (mirrored seen below (Some v) gathered)
keeps_asked {U} seen sole below upper u v gathered is keeps =
    subst (λ (o : Option U). Keeps (mirrored seen below o gathered) (mirrored seen below (Some v) gathered)) (sym is) (keeps_above seen sole below u v gathered keeps)

-- ---- the two behind a reading of the lower one

still_closed : (p q : Progress) → IsNotOpen p → IsLeft p q → IsNotOpen q
still_closed Idle q closed left = λ c is. let clash = sym left ∙ is in cc
still_closed (Open whom) q closed left = absurd (closed whom refl)
still_closed Broken q closed left = left

pub still_in_step : (p q above : Progress) → IsLeft p q → IsInStep p above → IsInStep q above
still_in_step p q above left step =
    let same = left_same p q step.whole left in
    record { same = step.same ∙ sym same; whole = λ broken. step.whole (sym same ∙ broken) }

pub still_ahead : (p q above : Progress) (g : Gathered) → IsLeft p q → IsAhead p above g → IsAhead q above g
still_ahead p q above g left ahead = record {
  judging = ahead.judging;
  closed = still_closed p q ahead.closed left;
  untried = λ no.
      let idle = ahead.untried no in
      left_same p q (λ broken. let clash = sym idle ∙ broken in cc) left ∙ idle;
}
