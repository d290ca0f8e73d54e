-- What becomes of the counts that are at hand.
use Rattle.std.proofs.Common.{◌≡◌, ◌≢◌, ℕ, Bool, true, false, refl, sym, subst}
use Rattle.std.specs.Prelude.{Option, Some, None, IfSome, Result, Ok, Err, OnOk, OnErr}
use Rattle.std.specs.BTreeMap.{BTreeMap, IsUnchanged, Updates, get, is_at}
use Rattle.std.specs.Map.{lookup}
use Rattle.std.specs.Ordering.{is_eq, nat_cmp}
use Rattle.std.specs.declared.cmp.Ordering.{Ordering}
use Rattle.std.specs.declared.cmp.Ordering.TheVariants.{Less, Equal, Greater}
use Rattle.std.proofs.lemmas.Map.Lookups.{exact_unsigned}
use Rattle.gaz_counts.specs.Counts.{Notes, Recounts, noted}
use Rattle.gaz_counts.specs.declared.at_hand.AtHand.{AtHand}
use Rattle.gaz_counts.specs.declared.counts.Counts.{Counts}

is_equal : (o : Ordering) → is_eq o ≡ true → o ≡ Equal
is_equal Less e = cc
is_equal Equal e = refl
is_equal Greater e = cc

pub itself : {X : Type 0} (o : Option X) → IfSome o (λ x. o ≡ Some x)
itself (Some x) = refl
itself None = tt

came_of : (o : Option AtHand) (now : AtHand) (P : AtHand → Type 0) → P now → IfSome o (λ h. h ≡ now) → IfSome o P
came_of (Some h) now P is same = subst P (sym same) is
came_of None now P is same = tt

-- counts are noted in place of others
pub recounts_noted : (before after : Counts) (c : ℕ) (Becomes : AtHand → AtHand → Type 0) (was now : AtHand) → Some was ≡ noted before c → Becomes was now → Notes c now before after → Recounts c Becomes before after
recounts_noted before after c Becomes was now there becomes notes = record {
  own = came_of (noted after c) now (λ h. (was : AtHand) × (noted before c ≡ Some was) × Becomes was h) (was, sym there, becomes) notes.own;
  others = notes.others;
}

-- the code that is found at one is that
pub code_at : (c d : ℕ) → is_at (nat_cmp c) d ≡ true → c ≡ d
code_at c d is = exact_unsigned c d (is_equal (nat_cmp c d) is)

-- another custodian's code isn't found at one
pub other_at : (c d : ℕ) → d ≢ c → is_at (nat_cmp c) d ≡ false
other_at c d other = by_answer (is_at (nat_cmp c) d) refl
  where
    by_answer : (b : Bool) → is_at (nat_cmp c) d ≡ b → is_at (nat_cmp c) d ≡ false
    by_answer false is = is
    by_answer true is = absurd (other (sym (code_at c d is)))

-- the others stay where one is written
pub noted_others : (before after : BTreeMap ℕ AtHand) (c : ℕ) (h : AtHand) → Updates nat_cmp before after c (Some h) → (d : ℕ) → d ≢ c → IfSome (get nat_cmp after d) (λ x. get nat_cmp before d ≡ Some x)
noted_others before after c h updates d other =
    subst (λ o. IfSome o (λ x. get nat_cmp before d ≡ Some x)) (sym (updates.2 d (other_at c d other))) (itself (get nat_cmp before d))

-- what a map holds once one was written, or wasn't where there was no memory
pub notes_either : {E : Type 0} (old new : Counts) (c : ℕ) (h : AtHand) (r : Result (Option AtHand) E) → OnOk r (Updates nat_cmp old.by_code new.by_code c (Some h)) → OnErr r (get nat_cmp old.by_code c ≡ None) → OnErr r (IsUnchanged old.by_code new.by_code) → Notes c h old new
notes_either old new c h (Ok was) updates absent same = record {
  own = subst (λ o. IfSome o (λ x. x ≡ h)) (sym updates.1) refl;
  others = noted_others old.by_code new.by_code c h updates;
}
notes_either old new c h (Err why) updates absent same = record {
  own = subst (λ es. IfSome (lookup (is_at (nat_cmp c)) es) (λ x. x ≡ h)) (sym same) (subst (λ o. IfSome o (λ x. x ≡ h)) (sym absent) tt);
  others = λ d other. subst (λ es. IfSome (lookup (is_at (nat_cmp d)) es) (λ x. get nat_cmp old.by_code d ≡ Some x)) (sym same) (itself (get nat_cmp old.by_code d));
}
