-- What readings of a judgement in progress tell together.
use Rattle.std.proofs.Common.{◌≡◌, ◌≢◌, ◌∙◌, ℕ, arith, refl, subst, sym}
use Rattle.std.specs.Prelude.{Err, Ok, Result}
use Rattle.gaz_keeper.specs.Keeper.{Broken, Content, IsLeft, Keeps, Open, Progress, Reads, Seen}
use Rattle.gaz_keeper.specs.declared.fault.ShelfFault.{ShelfFault}
use Rattle.gaz_keeper.proofs.Keeping.{keeps_then}

pub not_broken : (p : Progress) (c : ℕ) → p ≡ Open c → p ≢ Broken
not_broken p c e = λ b. let no : Open c ≡ Broken = sym e ∙ b in cc

pub keeps_itself : (a : Seen) (c : ℕ) → a.progress ≡ Open c → Keeps a a
keeps_itself a c e =
    record {
      harm = λ fine. fine;
      stands = λ stood _. stood;
      content = λ _ _. refl;
      progress = subst (λ p. IsLeft p a.progress) (sym e) e;
      leaves = λ _ k left. left;
      whole = λ _ whole. whole;
    }

-- an answer without a call
pub reads_none : {T : Type 0} (a : Seen) (c : ℕ) (x : T) (P : T → Type 0) → a.progress ≡ Open c → (a.stands → a.unharmed → P x) → Reads a a (Ok x) P
reads_none a c x P e right =
    record {
      keeps = keeps_itself a c e;
      right = right;
      cleared = not_broken a.progress c e;
      counts = record { kept = omega arith; store = tt; trust = λ t. t };
    }

-- a call whose answer is right in another way too
pub reads_as : {T : Type 0} (a b : Seen) (r : Result T ShelfFault) (P Q : T → Type 0) → Reads a b r P → ((x : T) → P x → Q x) → Reads a b r Q
reads_as a b (Ok x) P Q did more = record { keeps = did.keeps; right = λ stood fine. more x (did.right stood fine); cleared = did.cleared; counts = did.counts }
reads_as a b (Err e) P Q did more = record { keeps = did.keeps; right = λ _ _. tt; cleared = did.cleared; counts = did.counts }

-- two calls, whose answers give a third
pub reads_both : {T U V : Type 0} (a b c : Seen) (x : T) (y : U) (z : V) (P : T → Type 0) (Q : Content → U → Type 0) (R : V → Type 0)
    → Reads a b (Ok x) P → Reads b c (Ok y) (Q b.content) → (P x → Q a.content y → R z) → Reads a c (Ok z) R
reads_both a b c x y z P Q R first second both =
    record {
      keeps = keeps_then a b c first.keeps second.keeps;
      right = λ stood fine.
          let mid = second.keeps.harm fine in
          both (first.right stood mid) (subst (λ k. Q k y) (first.keeps.content stood mid) (second.right (first.keeps.stands stood mid) fine));
      cleared = second.cleared;
      counts = record { kept = let h = first.counts.kept in let more = second.counts.kept in omega arith; store = tt; trust = λ t. first.counts.trust (second.counts.trust t) };
    }
