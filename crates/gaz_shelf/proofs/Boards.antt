-- The board of a tree map in which one custodian's account changes.
use Rattle.std.proofs.Common.{◌≡◌, ℕ, zero, suc, Bool, true, false, cond, List, [], ◌∷◌, ◌++◌, refl, sym, ap, ◌∙◌, arith, slice_get, unwrap_or}
use Rattle.std.proofs.Math.Path.{fun_ext}
use Rattle.std.proofs.lemmas.Bool.Decides.{nat_tests}
use Rattle.std.specs.Prelude.{◌==◌, Some}
use Rattle.std.specs.BTreeMap.{is_at}
use Rattle.std.specs.Map.{lookup}
use Rattle.std.specs.Ordering.{is_eq, nat_cmp}
use Rattle.gaz_views.specs.View.{empty_view}
use Rattle.gaz_keeper.specs.Board.{Judgement, adds, view_after}
use Rattle.gaz_views.specs.Accounts.{Account, empty_account}
use Rattle.gaz_shelf.specs.Accounts.{account_of, board_of}

tie : (c q : ℕ) → is_eq (nat_cmp c q) ≡ (q == c)
tie c q = grind (arith, nat_tests)

same_code : (q c : ℕ) → (q == c) ≡ true → q ≡ c
same_code q c e = grind (arith, nat_tests)

abbrev pub Changes : List (ℕ × Account) → List (ℕ × Account) → ℕ → Account → Type 0
Changes es fs c a = (q : ℕ) → lookup (is_at (nat_cmp q)) fs ≡ cond (is_at (nat_cmp c) q) (Some a) (lookup (is_at (nat_cmp q)) es)

pub changed : (es fs : List (ℕ × Account)) (c : ℕ) (a : Account) → Changes es fs c a → (q : ℕ) → account_of fs q ≡ cond (q == c) a (account_of es q)
changed es fs c a h q = ap (λ o. unwrap_or o empty_account) (h q ∙ ap (λ b. cond b (Some a) (lookup (is_at (nat_cmp q)) es)) (tie c q)) ∙ of_cond (q == c)
  where
    of_cond : (b : Bool) → unwrap_or (cond b (Some a) (lookup (is_at (nat_cmp q)) es)) empty_account ≡ cond b a (account_of es q)
    of_cond true = refl
    of_cond false = refl

judged_cond : (b : Bool) (a d : Account) → (cond b a d).judged ≡ cond b a.judged d.judged
judged_cond true a d = refl
judged_cond false a d = refl

at_one : {X : Type 0} (B : ℕ → X) (c : ℕ) (x : X) (f : X → X) → x ≡ f (B c) → (q : ℕ) (b : Bool) → (q == c) ≡ b → cond b x (B q) ≡ cond b (f (B q)) (B q)
at_one B c x f e q true is = e ∙ ap (λ d. f (B d)) (sym (same_code q c is))
at_one B c x f e q false is = refl

-- one more judgement
pub one_more : (es fs : List (ℕ × Account)) (c : ℕ) (a : Account) (j : Judgement) → Changes es fs c a → a.judged ≡ board_of es c ++ j ∷ [] → board_of fs ≡ adds (board_of es) c j
one_more es fs c a j h e = fun_ext (λ q.
    ap (λ (d : Account). d.judged) (changed es fs c a h q) ∙ judged_cond (q == c) a (account_of es q) ∙ at_one (board_of es) c a.judged (λ js. js ++ j ∷ []) e q (q == c) refl)

either_way : {X : Type 0} (b : Bool) (x : X) → cond b x x ≡ x
either_way true x = refl
either_way false x = refl

-- none
pub no_more : (es fs : List (ℕ × Account)) (c : ℕ) (a : Account) → Changes es fs c a → a.judged ≡ board_of es c → board_of fs ≡ board_of es
no_more es fs c a h e = fun_ext (λ q.
    ap (λ (d : Account). d.judged) (changed es fs c a h q) ∙ judged_cond (q == c) a (account_of es q) ∙ at_one (board_of es) c a.judged (λ js. js) e q (q == c) refl ∙ either_way (q == c) (board_of es q))

-- the same account again
pub same_accounts : (es fs : List (ℕ × Account)) (c : ℕ) (a : Account) → Changes es fs c a → a ≡ account_of es c → (q : ℕ) → account_of fs q ≡ account_of es q
same_accounts es fs c a h e q = changed es fs c a h q ∙ at_one (account_of es) c a (λ d. d) e q (q == c) refl ∙ either_way (q == c) (account_of es q)

-- ---- without an account

-- no volume has changed its view
pub never_changed : (es : List (ℕ × Account)) (c : ℕ) → account_of es c ≡ empty_account → (volume : ℕ) → view_after (board_of es) c volume ≡ empty_view
never_changed es c none volume = ap (λ (a : Account). view_after (λ _. a.judged) c volume) none ∙ first volume
  where
    first : (n : ℕ) → unwrap_or (slice_get (empty_view ∷ []) n) empty_view ≡ empty_view
    first zero = refl
    first (suc n) = refl
