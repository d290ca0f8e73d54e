-- The judgements that are made of verdicts and views.
use Rattle.std.proofs.Common.{◌≡◌, ◌≤◌, ◌<◌, ◌+◌, ℕ, zero, suc, List, [], ◌∷◌, ◌++◌, map, length, refl, ap, ◌∙◌, arith, slice_get}
use Rattle.std.specs.Prelude.{Some, option_map}
use Rattle.std.specs.List.{enumerate_from}
use Rattle.gaz_views.specs.Judgements.{Judgement, judgements}
use Rattle.gaz_views.specs.View.{View}
use Rattle.gaz_views.specs.declared.verdict.Verdict.{Verdict}

abbrev from : ℕ → List Verdict → (ℕ → View) → List Judgement
from n verdicts view_at = map (λ p. record { verdict = p.1; view = view_at p.0 }) (enumerate_from n verdicts)

length_from : (n : ℕ) (ds : List Verdict) (view_at : ℕ → View) → length (from n ds view_at) ≡ length ds
length_from n [] view_at = refl
length_from n (d ∷ ds) view_at = ap suc (length_from (n + 1) ds view_at)

append_from : (n : ℕ) (ds : List Verdict) (d : Verdict) (view_at : ℕ → View) → from n (ds ++ d ∷ []) view_at ≡ from n ds view_at ++ record { verdict = d; view = view_at (n + length ds) } ∷ []
append_from n [] d view_at = let e : n ≡ n + 0 = omega arith in ap (λ (m : ℕ). record { verdict = d; view = view_at m } ∷ []) e
append_from n (e ∷ ds) d view_at =
    let more : (n + 1) + length ds ≡ n + suc (length ds) = omega arith in
    ap (λ l. record { verdict = e; view = view_at n } ∷ l) (append_from (n + 1) ds d view_at ∙ ap (λ (m : ℕ). from (n + 1) ds view_at ++ record { verdict = d; view = view_at m } ∷ []) more)

same_from : (n : ℕ) (ds : List Verdict) (view_at other_at : ℕ → View) → ((v : ℕ) → v < n + length ds → other_at v ≡ view_at v) → from n ds other_at ≡ from n ds view_at
same_from n [] view_at other_at alike = refl
same_from n (d ∷ ds) view_at other_at alike =
    λ i. record { verdict = d; view = alike n (omega arith) i } ∷ same_from (n + 1) ds view_at other_at (λ v less. alike v (omega arith)) i

view_from : (n : ℕ) (ds : List Verdict) (view_at : ℕ → View) (k : ℕ) → k < length ds → slice_get (map (λ (j : Judgement). j.view) (from n ds view_at)) k ≡ Some (view_at (n + k))
view_from n [] view_at k less = absurd (omega arith)
view_from n (d ∷ ds) view_at zero less = let e : n ≡ n + 0 = omega arith in ap (λ m. Some (view_at m)) e
view_from n (d ∷ ds) view_at (suc k) less = let e : (n + 1) + k ≡ n + suc k = omega arith in view_from (n + 1) ds view_at k (omega arith) ∙ ap (λ m. Some (view_at m)) e

verdict_from : (n : ℕ) (ds : List Verdict) (view_at : ℕ → View) (k : ℕ) → option_map (λ (j : Judgement). j.verdict) (slice_get (from n ds view_at) k) ≡ slice_get ds k
verdict_from n [] view_at k = refl
verdict_from n (d ∷ ds) view_at zero = refl
verdict_from n (d ∷ ds) view_at (suc k) = verdict_from (n + 1) ds view_at k

pub count_judged : (ds : List Verdict) (view_at : ℕ → View) → length (judgements ds view_at) ≡ length ds
unfolding judgements
count_judged ds view_at = length_from 1 ds view_at

pub verdict_at : (ds : List Verdict) (view_at : ℕ → View) (k : ℕ) → option_map (λ (j : Judgement). j.verdict) (slice_get (judgements ds view_at) k) ≡ slice_get ds k
unfolding judgements
verdict_at ds view_at k = verdict_from 1 ds view_at k

-- the view after a judged volume
pub view_judged : (ds : List Verdict) (view_at : ℕ → View) (k : ℕ) → k < length ds → slice_get (map (λ (j : Judgement). j.view) (judgements ds view_at)) k ≡ Some (view_at (1 + k))
unfolding judgements
view_judged ds view_at k less = view_from 1 ds view_at k less

-- one more
pub append_judged : (ds : List Verdict) (d : Verdict) (view_at : ℕ → View) → judgements (ds ++ d ∷ []) view_at ≡ judgements ds view_at ++ record { verdict = d; view = view_at (1 + length ds) } ∷ []
unfolding judgements
append_judged ds d view_at = append_from 1 ds d view_at

-- judgements whose views are the same
pub same_judged : (ds : List Verdict) (view_at other_at : ℕ → View) → ((v : ℕ) → v ≤ length ds → other_at v ≡ view_at v) → judgements ds other_at ≡ judgements ds view_at
unfolding judgements
same_judged ds view_at other_at alike = same_from 1 ds view_at other_at (λ v less. alike v (omega arith))
