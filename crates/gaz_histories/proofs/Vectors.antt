-- What a history's vector of versions is in its value.
use Rattle.std.proofs.Common.{◌≡◌, ◌≢◌, ◌≤◌, ◌<◌, ◌+◌, ◌-◌, ℕ, zero, suc, List, [], ◌∷◌, ◌++◌, length, take, refl, sym, ap, ◌∙◌, arith, slice_index_or, set, append_assoc}
use Rattle.std.specs.Prelude.{None, Some, fold, nat_le, slice_get}
use Rattle.std.proofs.lemmas.List.{get_or-map, length-map, map-append, take-map, take_more_set}
use Rattle.gaz_histories.specs.Histories.{Ascends, Versions, before, standing_at, until, was_used_at}
use Rattle.gaz_histories.specs.Kept.{version_in, versions_of}
use Rattle.gaz_histories.specs.declared.versions.Version as declared
use Rattle.gaz_histories.proofs.Searches.{first_tells, last_of}

pub found : {T : Type 0} (vs : List (declared.Version T)) (now : Versions T) (count volume : ℕ) (v : declared.Version T) → versions_of vs ≡ now → until now volume ≡ take count now → count ≢ 0 → count ≤ length now
    → v ≡ slice_index_or vs (count - 1) v → v.standing ≡ standing_at now volume
found vs now zero volume v is first some within at = absurd (some refl)
found vs now (suc n) volume v is first some within at =
    let e : suc n - 1 ≡ n = omega arith in
    let long : length now ≡ length vs = ap length (sym is) ∙ length-map vs version_in in
    let inside : n < length vs = omega arith in
    let here : version_in v ≡ slice_index_or now n (version_in v) = ap version_in (at ∙ ap (λ m. slice_index_or vs m v) e) ∙ sym (get_or-map version_in vs n v (version_in v) inside) ∙ ap (λ l. slice_index_or l n (version_in v)) is in
    ap (λ r. r.1) here ∙ sym (ap (fold (λ i w. w.1) None) first ∙ last_of None now n (version_in v) (omega arith))

-- the first version tells whether one begins until a volume
pub first_begins : {T : Type 0} (vs : List (declared.Version T)) (volume : ℕ) (v : declared.Version T) → Ascends (versions_of vs) → slice_get vs 0 ≡ Some v → nat_le v.since volume ≡ was_used_at (versions_of vs) volume
first_begins [] volume v ascends at = cc
first_begins {T} (w ∷ vs) volume v ascends at =
    let same : w ≡ v = cc in
    ap (λ (x : declared.Version T). nat_le x.since volume) (sym same) ∙ sym (first_tells (version_in w) (versions_of vs) volume ascends)

-- a version in the place behind those before a volume, and none behind it
pub put_in : {T : Type 0} (vs ws : List (declared.Version T)) (count volume : ℕ) (v : declared.Version T) → count < length vs → before (versions_of vs) volume ≡ take count (versions_of vs) → ws ≡ take (count + 1) (set vs count v)
    → versions_of ws ≡ before (versions_of vs) volume ++ version_in v ∷ []
put_in vs ws count volume v lt first is =
    ap versions_of is ∙ ap versions_of (take_more_set vs count v lt) ∙ map-append version_in (take count vs) (v ∷ []) ∙ ap (λ l. l ++ version_in v ∷ []) (sym (take-map version_in count vs) ∙ sym first)

-- those before a volume alone
pub cut_to : {T : Type 0} (vs ws : List (declared.Version T)) (count volume : ℕ) → before (versions_of vs) volume ≡ take count (versions_of vs) → ws ≡ take count vs → versions_of ws ≡ before (versions_of vs) volume
cut_to vs ws count volume first is = ap versions_of is ∙ sym (take-map version_in count vs) ∙ sym first

-- two versions behind those before a volume
pub two_in : {T : Type 0} (vs ws : List (declared.Version T)) (count volume : ℕ) (v w : declared.Version T) → before (versions_of vs) volume ≡ take count (versions_of vs) → ws ≡ (take count vs ++ v ∷ []) ++ w ∷ []
    → versions_of ws ≡ before (versions_of vs) volume ++ version_in v ∷ version_in w ∷ []
two_in vs ws count volume v w first is =
    ap versions_of is ∙ map-append version_in (take count vs ++ v ∷ []) (w ∷ []) ∙ ap (λ l. l ++ version_in w ∷ []) (map-append version_in (take count vs) (v ∷ []))
    ∙ append_assoc (versions_of (take count vs)) (version_in v ∷ []) (version_in w ∷ []) ∙ ap (λ l. l ++ version_in v ∷ version_in w ∷ []) (sym (take-map version_in count vs) ∙ sym first)
