-- What comes to stand at a key and goes again, and whether anything stands there later.
use Rattle.std.proofs.Common.{◌≡◌, ◌≤◌, ◌<◌, ◌&&◌, ◌||◌, ◌⊎◌, ℕ, Bool, true, false, cond, [], ◌∷◌, ◌++◌, List, map, refl, sym, ap, ◌∙◌, arith, inl, inr, append_assoc, Bor}
use Rattle.std.specs.Prelude.{Option, None, Some, fold, is_some, nat_le, nat_lt, not, option_map}
use Rattle.std.specs.List.{AllByRecursion, list_any}
use Rattle.std.specs.List.Sorted.{IsStrictlySortedBy}
use Rattle.std.specs.Ordering.{nat_cmp}
use Rattle.std.specs.declared.cmp.Ordering.TheVariants.{Less}
use Rattle.std.proofs.lemmas.Bool.Decides.{nat_tests}
use Rattle.std.proofs.lemmas.Cmp.{ranked}
use Rattle.std.proofs.lemmas.List.{append-nil}
use Rattle.std.proofs.lemmas.List.Elements.{filter-append}
use Rattle.gaz_histories.specs.Histories.{Ascends, IsOverBy, Version, Versions, before, lived, standing_at, until, with_version}
use Rattle.gaz_histories.specs.Kept.{stands_after, version_in, versions_of}
use Rattle.gaz_histories.specs.declared.versions.Version as declared
use Rattle.gaz_histories.proofs.Searches.{set_ascends}

-- ---- two versions

twice : {T : Type 0} (vs : Versions T) (a b : ℕ) → a ≤ b → before (before vs a) b ≡ before vs a
twice [] a b le = refl
twice (v ∷ vs) a b le = by_test (twice vs a b le) (nat_lt v.0 a) refl
  where
    by_test : before (before vs a) b ≡ before vs a → (p : Bool) → nat_lt v.0 a ≡ p → before (cond p (v ∷ before vs a) (before vs a)) b ≡ cond p (v ∷ before vs a) (before vs a)
    by_test rest true is =
        let there : nat_lt v.0 b ≡ true = grind (arith, nat_tests) in
        ap (λ q. cond q (v ∷ before (before vs a) b) (before (before vs a) b)) there ∙ ap (λ l. v ∷ l) rest
    by_test rest false is = rest

earlier : {T : Type 0} (vs : Versions T) (a b : ℕ) → b ≤ a → before (before vs a) b ≡ before vs b
earlier [] a b le = refl
earlier (v ∷ vs) a b le = by_test (earlier vs a b le) (nat_lt v.0 a) refl
  where
    by_test : before (before vs a) b ≡ before vs b → (p : Bool) → nat_lt v.0 a ≡ p → before (cond p (v ∷ before vs a) (before vs a)) b ≡ cond (nat_lt v.0 b) (v ∷ before vs b) (before vs b)
    by_test rest true is = ap (λ l. cond (nat_lt v.0 b) (v ∷ l) l) rest
    by_test rest false is =
        let late : nat_lt v.0 b ≡ false = grind (arith, nat_tests) in
        rest ∙ ap (λ q. cond q (v ∷ before vs b) (before vs b)) (sym late)

-- it goes at a later volume than it came
pub goes_later : {T : Type 0} (vs : Versions T) (born gone : ℕ) (x : T) → born < gone → lived vs born (Some gone) x ≡ before vs born ++ (born, Some x) ∷ (gone, None) ∷ []
goes_later {T} vs born gone x lt =
    let there : nat_lt born gone ≡ true = grind (arith, nat_tests) in
    let end : Versions T = (gone, None) ∷ [] in
    ap (λ (l : Versions T). l ++ end)
    (filter-append (λ (v : Version T). nat_lt v.0 gone) (before vs born) ((born, Some x) ∷ [])
    ∙ ap (λ b. before (before vs born) gone ++ cond b ((born, Some x) ∷ []) []) there
    ∙ ap (λ (l : Versions T). l ++ (born, Some x) ∷ []) (twice vs born gone (omega arith)))
    ∙ append_assoc (before vs born) ((born, Some x) ∷ []) end

-- it goes as it comes
pub goes_at_once : {T : Type 0} (vs : Versions T) (born gone : ℕ) (x : T) → gone ≤ born → lived vs born (Some gone) x ≡ before vs gone ++ (gone, None) ∷ []
goes_at_once {T} vs born gone x le =
    let late : nat_lt born gone ≡ false = grind (arith, nat_tests) in
    let end : Versions T = (gone, None) ∷ [] in
    ap (λ (l : Versions T). l ++ end)
    (filter-append (λ (v : Version T). nat_lt v.0 gone) (before vs born) ((born, Some x) ∷ [])
    ∙ ap (λ b. before (before vs born) gone ++ cond b ((born, Some x) ∷ []) []) late
    ∙ append-nil (before (before vs born) gone) ∙ earlier vs born gone le)

pub lived_ascends : {T : Type 0} (vs : Versions T) (born : ℕ) (gone : Option ℕ) (x : T) → Ascends vs → Ascends (lived vs born gone x)
lived_ascends vs born None x h = set_ascends vs born (Some x) h
lived_ascends vs born (Some gone) x h = set_ascends (with_version vs born (Some x)) gone None (set_ascends vs born (Some x) h)

-- ---- whether anything stands later

abbrev on : {T : Type 0} → Option T → Versions T → Option T
on a vs = fold (λ i v. v.1) a vs

parts : (a b : Bool) → (a || b) ≡ false → (a ≡ false) × (b ≡ false)
parts true b e = cc
parts false b e = (refl, e)

nothing : {T : Type 0} (o : Option T) (b : Bool) → b ≡ true → (b && is_some o) ≡ false → o ≡ None
nothing None b t e = refl
nothing (Some x) true t e = cc
nothing (Some x) false t e = cc

-- where nothing comes to stand after a volume, what stands later stood then, or nothing does
abbrev IsStill : {T : Type 0} → Option T → Option T → Versions T → ℕ → ℕ → Type 0
IsStill a b vs n t = (on b (until vs t) ≡ on a (until vs n)) ⊎ (on b (until vs t) ≡ None)

still : {T : Type 0} (a b : Option T) (vs : Versions T) (n t : ℕ) → n ≤ t → list_any (stands_after n) vs ≡ false → (b ≡ a) ⊎ (b ≡ None) → IsStill a b vs n t
still a b [] n t le none h = h
still {T} a b (v ∷ vs) n t le none h =
    let two = parts (stands_after n v) (list_any (stands_after n) vs) none in
    by_tests (still v.1 v.1 vs n t le two.1 (inl refl)) (λ gone. still a v.1 vs n t le two.1 (inr gone)) (still a b vs n t le two.1 h) two.0 (nat_le v.0 n) refl (nat_le v.0 t) refl
  where
    by_tests : IsStill v.1 v.1 vs n t → (v.1 ≡ None → IsStill a v.1 vs n t) → IsStill a b vs n t → stands_after n v ≡ false → (p : Bool) → nat_le v.0 n ≡ p → (q : Bool) → nat_le v.0 t ≡ q
        → (on b (cond q (v ∷ until vs t) (until vs t)) ≡ on a (cond p (v ∷ until vs n) (until vs n))) ⊎ (on b (cond q (v ∷ until vs t) (until vs t)) ≡ None)
    by_tests both one neither none true is true at = both
    by_tests both one neither none true is false at = let there : nat_le v.0 t ≡ true = grind (arith, nat_tests) in let no : true ≡ false = sym there ∙ at in cc
    by_tests both one neither none false is true at = let after : nat_lt n v.0 ≡ true = grind (arith, nat_tests) in one (nothing v.1 (nat_lt n v.0) after none)
    by_tests both one neither none false is false at = neither

pub over_by : {T : Type 0} (vs : Versions T) (n : ℕ) → standing_at vs n ≡ None → list_any (stands_after n) vs ≡ false → IsOverBy vs n
over_by vs n now none t le = by_cases (still None None vs n t le none (inl refl))
  where
    by_cases : (standing_at vs t ≡ standing_at vs n) ⊎ (standing_at vs t ≡ None) → standing_at vs t ≡ None
    by_cases (inl same) = same ∙ now
    by_cases (inr is) = is

-- what begins after a version begins after its volume
none_until : {T : Type 0} (from t : ℕ) (vs : Versions T) → AllByRecursion (λ n. nat_cmp from n ≡ Less) (map (λ v. v.0) vs) → t ≤ from → until vs t ≡ []
none_until from t [] h le = refl
none_until from t (v ∷ vs) h le =
    let more = ranked from v.0 Less (sym h.0) in
    let late : nat_le v.0 t ≡ false = grind (arith, nat_tests) in
    ap (λ b. cond b (v ∷ until vs t) (until vs t)) late ∙ none_until from t vs h.1 le

-- where nothing stands from a volume on, nothing comes to stand after it
quiet : {T : Type 0} (a : Option T) (vs : Versions T) (n : ℕ) → IsStrictlySortedBy nat_cmp (map (λ v. v.0) vs) → ((t : ℕ) → n ≤ t → on a (until vs t) ≡ None) → list_any (stands_after n) vs ≡ false
unfolding IsStrictlySortedBy
quiet a [] n ascend all = refl
quiet {T} a (v ∷ vs) n ascend all = by_test (quiet v.1 vs n ascend.1) (nat_lt n v.0) refl
  where
    as_it : (t : ℕ) → n ≤ t → v.0 ≤ t → on v.1 (until vs t) ≡ None
    as_it t le from = let there : nat_le v.0 t ≡ true = grind (arith, nat_tests) in ap (λ b. on a (cond b (v ∷ until vs t) (until vs t))) (sym there) ∙ all t le

    later : v.1 ≡ None → (t : ℕ) → n ≤ t → (b : Bool) → nat_le v.0 t ≡ b → on v.1 (until vs t) ≡ None
    later here t le true at = as_it t le (let from : v.0 ≤ t = grind (arith, nat_tests) in from)
    later here t le false at = ap (on v.1) (none_until v.0 t vs ascend.0 (let first : t ≤ v.0 = grind (arith, nat_tests) in first)) ∙ here

    by_test : (((t : ℕ) → n ≤ t → on v.1 (until vs t) ≡ None) → list_any (stands_after n) vs ≡ false) → (p : Bool) → nat_lt n v.0 ≡ p → ((p && is_some v.1) || list_any (stands_after n) vs) ≡ false
    by_test rest true is =
        let less : n < v.0 = grind (arith, nat_tests) in
        let here : v.1 ≡ None = ap (on v.1) (sym (none_until v.0 v.0 vs ascend.0 (omega arith))) ∙ as_it v.0 (omega arith) (omega arith) in
        ap (λ o. is_some o || list_any (stands_after n) vs) here ∙ rest (λ t le. later here t le (nat_le v.0 t) refl)
    by_test rest false is = rest (λ t le. as_it t le (let from : v.0 ≤ n = grind (arith, nat_tests) in omega arith))

pub none_over : {T : Type 0} (vs : Versions T) (n : ℕ) → Ascends vs → IsOverBy vs n → list_any (stands_after n) vs ≡ false
none_over vs n ascend over = quiet None vs n ascend over

-- what stands from a volume on stands at some later volume
pub stands_on : {T : Type 0} (since n : ℕ) (x : T) → IsOverBy ((since, Some x) ∷ []) n → ⊥
stands_on {T} since n x over = by_test (nat_le n since) refl
  where
    at : (t : ℕ) → n ≤ t → since ≤ t → ⊥
    at t le from =
        let there : nat_le since t ≡ true = grind (arith, nat_tests) in
        let is : Some x ≡ None = ap (λ b. on None (cond b ((since, Some x) ∷ []) [])) (sym there) ∙ over t le in
        cc

    by_test : (b : Bool) → nat_le n since ≡ b → ⊥
    by_test true is = at since (let le : n ≤ since = grind (arith, nat_tests) in le) (omega arith)
    by_test false is = at n (omega arith) (let le : since ≤ n = grind (arith, nat_tests) in le)

-- ---- as it is kept

pub later_of : {T : Type 0} (vs : List (declared.Version T)) (n : ℕ) → list_any (λ v. stands_after n (version_in v)) vs ≡ list_any (stands_after n) (versions_of vs)
later_of [] n = refl
later_of (v ∷ vs) n = ap (λ b. stands_after n (version_in v) || b) (later_of vs n)

-- two tests tell it
pub tells : {T : Type 0} (vs : Versions T) (n : ℕ) (later : Bool) → Ascends vs → later ≡ list_any (stands_after n) vs → (standing_at vs n ≡ None → later ≡ false → IsOverBy vs n) × (IsOverBy vs n → later ≡ false)
tells vs n later ascend is = ((λ now none. over_by vs n now (sym is ∙ none)), (λ over. is ∙ none_over vs n ascend over))

pub is_nothing : {T : Type 0} (o : Option (Bor T)) (p : Option T) (b : Bool) → option_map (λ x. x.now) o ≡ p → is_some o ≡ not b → (b ≡ true → p ≡ None) × (p ≡ None → b ≡ true)
is_nothing None p true read is = ((λ yes. sym read), (λ none. refl))
is_nothing None p false read is = cc
is_nothing (Some x) p true read is = cc
is_nothing (Some x) p false read is = ((λ yes. cc), (λ none. let no : Some x.now ≡ None = read ∙ none in cc))

pub same_over : {T : Type 0} (vs ws : Versions T) (n : ℕ) → vs ≡ ws → IsOverBy vs n → IsOverBy ws n
same_over vs ws n is over t le = ap (λ l. standing_at l t) (sym is) ∙ over t le
