-- Tests, and the values that pass them.
use Rattle.std.proofs.Common.{◌≡◌, Bool, true, false, not, ◌||◌, ◌&&◌, refl, sym, ap, ◌∙◌, true≢false}
use Rattle.std.specs.Prelude.{Option, Some, None}
use Rattle.std.specs.Option.{option_and_then}
use Rattle.gaz_end_rules.specs.EndRules.{if_some}

pub no_false : {P : Type 0} (b : Bool) → b ≡ true → b ≡ false → P
no_false b t f = absurd (true≢false (sym t ∙ f))

-- a test is false where its truth is absurd
pub false_by : (b : Bool) → (b ≡ true → ⊥) → b ≡ false
false_by true h = absurd (h refl)
false_by false h = refl

pub true_by : (b : Bool) → (b ≡ false → ⊥) → b ≡ true
true_by true h = refl
true_by false h = absurd (h refl)

pub by_test : {P : Type 0} (b : Bool) → (b ≡ true → P) → (b ≡ false → P) → P
by_test true y n = y refl
by_test false y n = n refl

pub neither : (a b : Bool) → (a || b) ≡ false → (a ≡ false) × (b ≡ false)
neither true b e = absurd (true≢false e)
neither false b e = (refl, e)

pub both_false : (a b : Bool) → a ≡ false → b ≡ false → (a || b) ≡ false
both_false a b p q = ap (λ x. x || b) p ∙ q

pub or_true : (a b : Bool) → b ≡ true → (a || b) ≡ true
or_true true b e = refl
or_true false b e = e

pub both_parts : (a b : Bool) → (a && b) ≡ true → (a ≡ true) × (b ≡ true)
both_parts true b e = (refl, e)
both_parts false b e = absurd (true≢false (sym e))

pub joined : (a b : Bool) → a ≡ true → b ≡ true → (a && b) ≡ true
joined a b p q = ap (λ x. x && b) p ∙ q

pub and_false : (a b : Bool) → b ≡ false → (a && b) ≡ false
and_false true b e = e
and_false false b e = refl

pub not_true : (a : Bool) → not a ≡ true → a ≡ false
not_true true e = absurd (true≢false (sym e))
not_true false e = refl

pub not_false : (a : Bool) → not a ≡ false → a ≡ true
not_false true e = refl
not_false false e = absurd (true≢false e)

-- the value that passes
pub some_passes : {T : Type 0} (o : Option T) (p : T → Bool) → if_some o p ≡ true → (x : T) × (o ≡ Some x) × (p x ≡ true)
some_passes None p e = absurd (true≢false (sym e))
some_passes (Some x) p e = (x, refl, e)

pub passes_some : {T : Type 0} (o : Option T) (p : T → Bool) (x : T) → o ≡ Some x → p x ≡ true → if_some o p ≡ true
passes_some o p x e h = ap (λ w. if_some w p) e ∙ h

pub fails_none : {T : Type 0} (o : Option T) (p : T → Bool) → o ≡ None → if_some o p ≡ false
fails_none o p e = ap (λ x. if_some x p) e

pub and_then_gives : {T U : Type 0} (f : T → Option U) (o : Option T) (y : U) → option_and_then f o ≡ Some y → (x : T) × (o ≡ Some x) × (f x ≡ Some y)
and_then_gives f None y e = cc
and_then_gives f (Some x) y e = (x, refl, e)

-- what fails one test at the value fails the other
pub weaker : {T : Type 0} (o : Option T) (p q : T → Bool) → ((x : T) → o ≡ Some x → p x ≡ false → q x ≡ false) → if_some o p ≡ false → if_some o q ≡ false
weaker None p q h e = refl
weaker (Some x) p q h e = h x refl e
