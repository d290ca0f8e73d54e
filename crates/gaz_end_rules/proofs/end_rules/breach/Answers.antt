-- A key that passed breaks nothing still, and one that breaks nothing has passed.
use Rattle.std.proofs.Common.{◌≡◌, ◌∙◌, ◌||◌, ℕ, true, List, ap, subst, sym}
use Rattle.std.specs.Prelude.{IfNone, None, Option, Some}
use Rattle.gaz_records.specs.Keys.{key_of}
use Rattle.gaz_records.specs.declared.key.Key.{Key}
use Rattle.gaz_views.specs.View.{View}
use Rattle.gaz_end_rules.specs.Bases.{basis_views}
use Rattle.gaz_end_rules.specs.EndRules.{end_rules, same_key}
use Rattle.gaz_end_rules.specs.Knowing.{HavePassed, IsRight, Remembers, has_passed}
use Rattle.gaz_changefile.specs.Rules.{first_broken}
use Rattle.gaz_end_rules.specs.declared.known.Known.{Known}
use Rattle.gaz_end_rules.specs.declared.passed.Passed.{Passed}
use Rattle.gaz_end_rules.proofs.Booleans.{by_test, not_false}
use Rattle.gaz_end_rules.proofs.Keys.{key_itself, key_tied}
use Rattle.gaz_end_rules.proofs.Progress.{reads_none}
use Rattle.gaz_end_rules.proofs.end_rules.breach.Goals as goal

-- one more key passes
one_more : (v : View) (others : List (ℕ × View)) (p q : Passed) (k : Key) → HavePassed v others p → first_broken (end_rules v others k) ≡ None
    → ((j : Key) → has_passed q j ≡ (same_key k j || has_passed p j)) → HavePassed v others q
one_more v others p q k passed breaks_none more j has =
    by_test (same_key k j)
    (λ same. subst (λ x. first_broken (end_rules v others x) ≡ None) (key_tied k j same) breaks_none)
    (λ other. passed j (sym (ap (λ b. b || has_passed p j) other) ∙ sym (more j) ∙ has))

-- what is known behind a key that was asked, where it breaks none
still_right : (v : View) (others : List (ℕ × View)) (old new : Known) (p : Passed) (k : Key) (r : Option ℕ) → IsRight v others old → Remembers v others new
    → new.passed ≡ p → ((j : Key) → has_passed p j ≡ (same_key k j || has_passed old.passed j)) → r ≡ first_broken (end_rules v others k) → IfNone r (IsRight v others new)
still_right v others old new p k None right now same more is =
    (now.0, now.1, subst (HavePassed v others) (sym same) (one_more v others old.passed p k right.2 (sym is) more))
still_right v others old new p k (Some rule) right now same more is = tt

if_none : {T : Type 0} (o : Option T) (P : Type 0) → P → IfNone o P
if_none None P p = p
if_none (Some x) P p = tt

-- the key was among them
pub returns-then-not-is_new-clause-broken : goal.returns-then-not-is_new-clause-broken
returns-then-not-is_new-clause-broken g c =
    let was = (g.K.Shelf.seen c.args.keeper.now).content in
    let others = basis_views was.board c.args.bases.now in
    let at = c.key_of-key.result in
    reads_none _ c.args.code _ _ c.requires
    (λ _ _ _ right.
    let breaks_none : first_broken (end_rules was.working others at) ≡ None = right.2 at (not_false _ (sym c.in_ok-is_new.ensures.is_new ∙ c.if-not-is_new.true)) in (
      (right.0, right.1, one_more was.working others c.args.known.now.passed c.add.new.self at right.2 breaks_none c.in_ok-is_new.ensures.added),
      sym breaks_none ∙ ap (λ k. first_broken (end_rules was.working others k)) c.key_of-key.ensures,
    ))

pub returns-clause-broken : goal.returns-clause-broken
returns-clause-broken g c =
    let did = c.in_ok-breach_of.ensures.broken in
    let was = (g.K.Shelf.seen c.args.keeper.now).content in
    let others = basis_views was.board c.args.bases.now in
    let at = c.key_of-key.result in
    record {
      keeps = did.keeps;
      right = λ stood fine reached right.
          let told = did.right stood fine reached (right.0, right.1) in (
            still_right was.working others c.args.known.now c.breach_of.new.known c.add.new.self at c.in_ok-breach_of.field-0 right told.0 c.in_ok-breach_of.ensures.passed c.in_ok-is_new.ensures.added told.1,
            told.1 ∙ ap (λ k. first_broken (end_rules was.working others k)) c.key_of-key.ensures,
          );
      cleared = did.cleared;
      counts = record { kept = did.counts.kept; store = tt; trust = did.counts.trust };
    }

pub returns-clause-passed : goal.returns-clause-passed
returns-clause-passed g c =
    let at = c.key_of-key.result in
    if_none c.in_ok-breach_of.field-0 _
    (ap (λ p. has_passed p (key_of c.args.item.now)) c.in_ok-breach_of.ensures.passed
    ∙ subst (λ k. has_passed c.add.new.self k ≡ true) c.key_of-key.ensures
    (c.in_ok-is_new.ensures.added at ∙ ap (λ b. b || has_passed c.args.known.now.passed at) (key_itself at)))
