-- Finite maps and sets of lists, by what stands in the lists.
use Rattle.std.proofs.Common.{◌≡◌, ◌∙◌, ◌⊎◌, ◌||◌, Bool, true, false, cond, true≢false, List, [], ◌∷◌, inl, inr, refl, sym, ap, subst}
use Rattle.std.specs.Prelude.{Option, Some, None}
use Rattle.std.specs.Cmp.{IsTotalOrder, tied_itself}
use Rattle.std.specs.FinMap as finite
use Rattle.std.specs.FinMap.{IsAntisymmetric, find}
use Rattle.std.specs.FinSet as set
use Rattle.std.specs.List.{list_any}
use Rattle.std.specs.Ordering.{eq_by_cmp, is_eq}
use Rattle.std.specs.declared.cmp.Ordering.{Ordering}
use Rattle.std.specs.declared.cmp.Ordering.TheVariants.{Less, Equal, Greater}
use Rattle.sqlite_rules.specs.Lists.{Has}
use Rattle.sqlite_rules.proofs.ListLemmas.{some_from, some_has}

-- at each key stands one value
abbrev pub AreSingle : {K X : Type 0} → List (K × X) → Type 0
AreSingle {K} {X} es = (k : K) (x y : X) → Has es (k, x) → Has es (k, y) → x ≡ y

-- what stands in a list and one entry more
pub record IsWith {K X : Type 0} (k : K) (x : X) (a b : List (K × X)) : Type 0 where
  pub single : AreSingle b
  pub there : Has b (k, x)
  pub only : (q : K) (y : X) → Has b (q, y) → (q ≡ k) ⊎ Has a (q, y)
  pub kept : (q : K) (y : X) → Has a (q, y) → ¬ (q ≡ k) → Has b (q, y)

-- what stands in a list but at one key
pub record IsWithout {K X : Type 0} (k : K) (a b : List (K × X)) : Type 0 where
  pub single : AreSingle a
  pub gone : (y : X) → ¬ Has b (k, y)
  pub only : (q : K) (y : X) → Has b (q, y) → Has a (q, y)
  pub kept : (q : K) (y : X) → Has a (q, y) → ¬ (q ≡ k) → Has b (q, y)

is_equal : (o : Ordering) → is_eq o ≡ true → o ≡ Equal
is_equal Less e = cc
is_equal Equal e = refl
is_equal Greater e = cc

same_test : (a b : Bool) → (a ≡ true → b ≡ true) → (b ≡ true → a ≡ true) → a ≡ b
same_test true b to from = sym (to refl)
same_test false true to from = from refl
same_test false false to from = refl

no_answer : {X : Type 0} {o : Option X} {x : X} {A : Type 0} → o ≡ Some x → o ≡ None → A
no_answer {x = x} is none = let clash : None ≡ Some x = sym none ∙ is in absurd (cc)

module _ {K : Type 0} {R : K → K → Ordering} (o : IsTotalOrder R) (same : IsAntisymmetric R) where
  tied : (q k : K) → eq_by_cmp R q k ≡ true → q ≡ k
  tied q k e = same q k (is_equal _ e)

  pub ties : (q k : K) → q ≡ k → eq_by_cmp R q k ≡ true
  ties q k is = subst (λ x. eq_by_cmp R q x ≡ true) is (ap is_eq (tied_itself o q))

  module _ {X : Type 0} where
    pub found : (q : K) (es : List (K × X)) (x : X) → find R q es ≡ Some x → Has es (q, x)
    found q [] x is = no_answer is refl
    found q (e ∷ es) x is = by_tie (found q es x) (eq_by_cmp R q e.0) refl is
      where
        by_tie : (find R q es ≡ Some x → Has es (q, x)) → (b : Bool) → eq_by_cmp R q e.0 ≡ b → cond b (Some e.1) (find R q es) ≡ Some x → Has (e ∷ es) (q, x)
        by_tie behind true t is = let v : e.1 ≡ x = cc in inl (λ i. (tied q e.0 t i, sym v i))
        by_tie behind false t is = inr (behind is)

    pub listed : (q : K) (es : List (K × X)) (x : X) → Has es (q, x) → (y : X) × (find R q es ≡ Some y)
    listed q [] x h = absurd h
    listed q (e ∷ es) x (inl is) = (e.1, ap (λ b. cond b (Some e.1) (find R q es)) (ties q e.0 (ap (λ p. p.0) is)))
    listed q (e ∷ es) x (inr later) = by_tie (listed q es x later) (eq_by_cmp R q e.0)
      where
        by_tie : ((y : X) × (find R q es ≡ Some y)) → (b : Bool) → (y : X) × (cond b (Some e.1) (find R q es) ≡ Some y)
        by_tie behind true = (e.1, refl)
        by_tie behind false = behind

    pub missing : (q : K) (es : List (K × X)) → ((x : X) → ¬ Has es (q, x)) → find R q es ≡ None
    missing q es none = by_answer (find R q es) refl
      where
        by_answer : (a : Option X) → find R q es ≡ a → find R q es ≡ None
        by_answer None is = is
        by_answer (Some x) is = absurd (none x (found q es x is))

    pub not_there : (q : K) (es : List (K × X)) → find R q es ≡ None → (x : X) → ¬ Has es (q, x)
    not_there q es none x h = no_answer (listed q es x h).1 none

    pub at_one : (q : K) (es : List (K × X)) (x : X) → AreSingle es → Has es (q, x) → find R q es ≡ Some x
    at_one q es x single h = let y = listed q es x h in y.1 ∙ ap Some (single q y.0 x (found q es y.0 y.1) h)

    -- lists with the same entries make one map
    pub alike : (a b : List (K × X)) → AreSingle b → ((q : K) (x : X) → Has a (q, x) → Has b (q, x)) → ((q : K) (x : X) → Has b (q, x) → Has a (q, x)) → finite.from_entries {R = R} a ≡ finite.from_entries b
    alike a b single to from = finite.same_map o same _ _ (λ q. finite.get-from_entries o a q ∙ by_answer q (find R q a) refl ∙ sym (finite.get-from_entries o b q))
      where
        by_answer : (q : K) (x : Option X) → find R q a ≡ x → find R q a ≡ find R q b
        by_answer q (Some x) is = is ∙ sym (at_one q b x single (to q x (found q a x is)))
        by_answer q None is = is ∙ sym (missing q b (λ x h. not_there q a is x (from q x h)))

    pub inserted : (k : K) (x : X) (a b : List (K × X)) → IsWith k x a b → finite.from_entries {R = R} b ≡ finite.insert (finite.from_entries a) k x
    inserted k x a b h = finite.same_map o same _ _ (λ q. finite.get-from_entries o b q ∙ by_tie q (eq_by_cmp R q k) refl ∙ sym (finite.get-insert o (finite.from_entries a) k x q ∙ ap (cond (eq_by_cmp R q k) (Some x)) (finite.get-from_entries o a q)))
      where
        by_answer : (q : K) → ¬ (q ≡ k) → (y : Option X) → find R q a ≡ y → find R q b ≡ find R q a
        by_answer q other (Some y) is = at_one q b y h.single (h.kept q y (found q a y is) other) ∙ sym is
        by_answer q other None is = missing q b (λ y there. elim (h.only q y there) [ inl at ↦ other at | inr was ↦ not_there q a is y was ]) ∙ sym is

        by_tie : (q : K) (t : Bool) → eq_by_cmp R q k ≡ t → find R q b ≡ cond (eq_by_cmp R q k) (Some x) (find R q a)
        by_tie q true t = ap (λ p. find R p b) (tied q k t) ∙ at_one k b x h.single h.there ∙ sym (ap (λ c. cond c (Some x) (find R q a)) t)
        by_tie q false t = by_answer q (λ at. true≢false (sym (ties q k at) ∙ t)) (find R q a) refl ∙ sym (ap (λ c. cond c (Some x) (find R q a)) t)

    pub removed : (k : K) (a b : List (K × X)) → IsWithout k a b → finite.from_entries {R = R} b ≡ finite.remove (finite.from_entries a) k
    removed k a b h = finite.same_map o same _ _ (λ q. finite.get-from_entries o b q ∙ by_tie q (eq_by_cmp R q k) refl ∙ sym (finite.get-remove o (finite.from_entries a) k q ∙ ap (cond (eq_by_cmp R q k) None) (finite.get-from_entries o a q)))
      where
        single : AreSingle b
        single q x y hx hy = h.single q x y (h.only q x hx) (h.only q y hy)

        by_answer : (q : K) → ¬ (q ≡ k) → (y : Option X) → find R q a ≡ y → find R q b ≡ find R q a
        by_answer q other (Some y) is = at_one q b y single (h.kept q y (found q a y is) other) ∙ sym is
        by_answer q other None is = missing q b (λ y there. not_there q a is y (h.only q y there)) ∙ sym is

        by_tie : (q : K) (t : Bool) → eq_by_cmp R q k ≡ t → find R q b ≡ cond (eq_by_cmp R q k) None (find R q a)
        by_tie q true t = ap (λ p. find R p b) (tied q k t) ∙ missing k b h.gone ∙ sym (ap (λ c. cond c None (find R q a)) t)
        by_tie q false t = by_answer q (λ at. true≢false (sym (ties q k at) ∙ t)) (find R q a) refl ∙ sym (ap (λ c. cond c None (find R q a)) t)

  -- ---- sets

  pub has_tied : (q : K) (ks : List K) → list_any (eq_by_cmp R q) ks ≡ true → Has ks q
  has_tied q ks e = let k = some_has (eq_by_cmp R q) ks e in subst (Has ks) (sym (tied q k.0 k.2)) k.1

  pub ties_has : (q : K) (ks : List K) → Has ks q → list_any (eq_by_cmp R q) ks ≡ true
  ties_has q ks h = some_from (eq_by_cmp R q) ks q h (ties q q refl)

  pub in_set : (q : K) (ks : List K) → Has ks q → set.contains (set.from_list {R = R} ks) q ≡ true
  in_set q ks h = set.contains-from_list o ks q ∙ ties_has q ks h

  pub not_in_set : (q : K) (ks : List K) → ¬ Has ks q → set.contains (set.from_list {R = R} ks) q ≡ false
  not_in_set q ks none = set.contains-from_list o ks q ∙ same_test _ false (λ e. absurd (none (has_tied q ks e))) (λ e. absurd (true≢false (sym e)))

  pub alike_set : (a b : List K) → ((q : K) → Has a q → Has b q) → ((q : K) → Has b q → Has a q) → set.from_list {R = R} a ≡ set.from_list b
  alike_set a b to from = set.same_set o same _ _ (λ q. set.contains-from_list o a q
      ∙ same_test _ _ (λ e. ties_has q b (to q (has_tied q a e))) (λ e. ties_has q a (from q (has_tied q b e)))
      ∙ sym (set.contains-from_list o b q))

  pub inserted_set : (k : K) (a b : List K) → Has b k → ((q : K) → Has b q → (q ≡ k) ⊎ Has a q) → ((q : K) → Has a q → Has b q) → set.from_list {R = R} b ≡ set.insert (set.from_list a) k
  inserted_set k a b there only kept = set.same_set o same _ _ (λ q. set.contains-from_list o b q
      ∙ by_tie q (eq_by_cmp R q k) refl
      ∙ sym (set.contains-insert o (set.from_list a) k q ∙ ap (λ c. eq_by_cmp R q k || c) (set.contains-from_list o a q)))
    where
      by_tie : (q : K) (t : Bool) → eq_by_cmp R q k ≡ t → list_any (eq_by_cmp R q) b ≡ (eq_by_cmp R q k || list_any (eq_by_cmp R q) a)
      by_tie q true t = ties_has q b (subst (Has b) (sym (tied q k t)) there) ∙ sym (ap (λ c. c || list_any (eq_by_cmp R q) a) t)
      by_tie q false t =
          same_test _ _
          (λ e. elim (only q (has_tied q b e)) [ inl at ↦ absurd (true≢false (sym (ties q k at) ∙ t)) | inr was ↦ ties_has q a was ])
          (λ e. ties_has q b (kept q (has_tied q a e)))
          ∙ sym (ap (λ c. c || list_any (eq_by_cmp R q) a) t)
