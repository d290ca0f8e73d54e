-- What is found among four rows of kind 92.
use Rattle.std.proofs.Common.{◌≡◌, ◌∙◌, ◌+◌, ◌<◌, ◌≤◌, ◌<ℤ◌, ◌≤ℤ◌, inl, inr, ℕ, ℤ, zero, suc, pos, Bool, true, false, List, [], ◌∷◌, refl, sym, ap, subst, arith, codes}
use Rattle.std.proofs.lemmas.Int.{ints}
use Rattle.std.specs.Prelude.{◌==◌, ◌||◌, slice_index_or}
use Rattle.std.specs.Cmp.Lexicographic.{slice_cmp}
use Rattle.std.specs.Ordering.{is_lt, nat_cmp, ordering_then}
use Rattle.std.specs.declared.cmp.Ordering.TheVariants.{Greater}
use Rattle.sqlite_value.proofs.OrderLemmas.{value_cmp-Int, value_cmp-Text}
use Rattle.sqlite.specs.Order.{Row}
use Rattle.sqlite.specs.declared.types.Value.{Value}
use Rattle.sqlite.specs.declared.types.Value.TheVariants.{Int, Text}
use Rattle.sqlite_rules.specs.Lists.{Has}
use Rattle.gaz_tables.specs.Custody.{ComesBehind, IsCustodyBehind, by_id_and_birth}
use Rattle.gaz_tables.specs.CustodyExamples.{WorkedCustody, another, elsewhere, four_passages, given_up, taken_back}
use Rattle.gaz_tables.specs.Shows.{Picks}
use Rattle.gaz_tables.specs.Versions.{born_of, id_of}

of_four : (P : Row → Type 0) → P given_up → P taken_back → P another → P elsewhere → (r : Row) → Has four_passages r → P r
of_four P a b c d r (inl is) = subst P (sym is) a
of_four P a b c d r (inr (inl is)) = subst P (sym is) b
of_four P a b c d r (inr (inr (inl is))) = subst P (sym is) c
of_four P a b c d r (inr (inr (inr (inl is)))) = subst P (sym is) d
of_four P a b c d r (inr (inr (inr (inr never)))) = absurd never

-- the row of this rowid
abbrev numbered : ℕ → Row → Bool
numbered n (Int (pos m) ∷ r) = m == n
numbered n r = false

abbrev is_1001 : Value → Bool
is_1001 (Int (pos m)) = m == 1001
is_1001 v = false

not_its : {A : Type 0} → Int (pos 1002) ≡ Int (pos 1001) → A
not_its e = let wrong : false ≡ true = ap is_1001 e in absurd (cc)

-- it comes behind neither by its id nor by its birth
not_behind : {A : Type 0} (s t : List ℕ) (n : ℤ) (born : ℕ) (r : Row) → id_of r ≡ Text s → born_of r ≡ Int n → (slice_cmp nat_cmp s t ≡ Greater → ⊥) → (s ≡ t → n ≤ℤ pos born) → ComesBehind t born r → A
not_behind s t n born r is at less low (inl f) = let same : s ≡ f.0 = cc in absurd (less (ap (λ u. slice_cmp nat_cmp u t) same ∙ f.2))
not_behind s t n born r is at less low (inr f) =
    let same : s ≡ t = let e : Text s ≡ Text t = sym is ∙ f.0 in cc in
    let birth : n ≡ f.1.0 = let e : Int n ≡ Int f.1.0 = sym at ∙ f.1.1 in cc in
    let wrong : pos born <ℤ n = subst (λ i. pos born <ℤ i) (sym birth) f.1.2 in
    let le = low same in
    absurd (omega (arith, ints, wrong, le))

-- ---- pages

abbrev of_1001 : Row → Bool
of_1001 r = numbered 1 r || (numbered 2 r || numbered 3 r)

all_three : Picks (IsCustodyBehind 1001 [] 0) four_passages (given_up ∷ taken_back ∷ another ∷ [])
all_three = record {
  test = of_1001;
  sound = of_four (λ r. of_1001 r ≡ true → IsCustodyBehind 1001 [] 0 r)
      (λ e. record { of_cust = refl; of_kind = refl; behind = inl (codes "U1", refl, refl) })
      (λ e. record { of_cust = refl; of_kind = refl; behind = inl (codes "U1", refl, refl) })
      (λ e. record { of_cust = refl; of_kind = refl; behind = inl (codes "U2", refl, refl) })
      (λ e. absurd (cc));
  complete = of_four (λ r. IsCustodyBehind 1001 [] 0 r → of_1001 r ≡ true) (λ f. refl) (λ f. refl) (λ f. refl) (λ f. not_its f.of_cust);
  same = record { moves = []; below = tt; is = refl };
}

-- the later of two rows isn't before the earlier
born_later : is_lt (by_id_and_birth taken_back given_up) ≡ false
born_later = λ i. is_lt (ordering_then (value_cmp-Text (codes "U1") (codes "U1") i) (value_cmp-Int (pos 4) (pos 2) i))

named_later : is_lt (by_id_and_birth another taken_back) ≡ false
named_later = λ i. is_lt (ordering_then (value_cmp-Text (codes "U2") (codes "U1") i) (value_cmp-Int (pos 1) (pos 4) i))

three_rise : (k : ℕ) (d : Row) → 0 ≤ k → k + 1 < 3 → is_lt (by_id_and_birth (slice_index_or (given_up ∷ taken_back ∷ another ∷ []) (k + 1) d) (slice_index_or (given_up ∷ taken_back ∷ another ∷ []) k d)) ≡ false
three_rise zero d low high = born_later
three_rise (suc zero) d low high = named_later
three_rise (suc (suc k)) d low high = absurd (omega (arith, high))

abbrev last_two : Row → Bool
last_two r = numbered 2 r || numbered 3 r

two_behind : Picks (IsCustodyBehind 1001 (codes "U1") 2) four_passages (taken_back ∷ another ∷ [])
two_behind = record {
  test = last_two;
  sound = of_four (λ r. last_two r ≡ true → IsCustodyBehind 1001 (codes "U1") 2 r)
      (λ e. absurd (cc))
      (λ e. record { of_cust = refl; of_kind = refl; behind = inr (refl, (pos 4, refl, omega arith)) })
      (λ e. record { of_cust = refl; of_kind = refl; behind = inl (codes "U2", refl, refl) })
      (λ e. absurd (cc));
  complete = of_four (λ r. IsCustodyBehind 1001 (codes "U1") 2 r → last_two r ≡ true)
      (λ f. not_behind (codes "U1") (codes "U1") (pos 2) 2 given_up refl refl (λ h. cc) (λ e. omega arith) f.behind)
      (λ f. refl)
      (λ f. refl)
      (λ f. not_its f.of_cust);
  same = record { moves = []; below = tt; is = refl };
}

two_rise : (k : ℕ) (d : Row) → 0 ≤ k → k + 1 < 2 → is_lt (by_id_and_birth (slice_index_or (taken_back ∷ another ∷ []) (k + 1) d) (slice_index_or (taken_back ∷ another ∷ []) k d)) ≡ false
two_rise zero d low high = named_later
two_rise (suc k) d low high = absurd (omega (arith, high))

abbrev ends_1 : List ℕ → Bool
ends_1 (a ∷ b ∷ []) = b == 49
ends_1 t = false

differs : {A : Type 0} → codes "U1" ≡ codes "U2" → A
differs e = let wrong : true ≡ false = ap ends_1 e in absurd (cc)

none_behind : Picks (IsCustodyBehind 1001 (codes "U2") 1) four_passages []
none_behind = record {
  test = λ r. false;
  sound = λ r there e. absurd (cc);
  complete = of_four (λ r. IsCustodyBehind 1001 (codes "U2") 1 r → false ≡ true)
      (λ f. not_behind (codes "U1") (codes "U2") (pos 2) 1 given_up refl refl (λ h. cc) differs f.behind)
      (λ f. not_behind (codes "U1") (codes "U2") (pos 4) 1 taken_back refl refl (λ h. cc) differs f.behind)
      (λ f. not_behind (codes "U2") (codes "U2") (pos 1) 1 another refl refl (λ h. cc) (λ e. omega arith) f.behind)
      (λ f. not_its f.of_cust);
  same = record { moves = []; below = tt; is = refl };
}

pub custody_holds : WorkedCustody
custody_holds = record {
  first_two = record { chosen = given_up ∷ taken_back ∷ another ∷ []; picks = all_three; rising = three_rise; shown = refl };
  behind_volume_2 = record { chosen = taken_back ∷ another ∷ []; picks = two_behind; rising = two_rise; shown = refl };
  behind_all = record { chosen = []; picks = none_behind; rising = λ k d low high. absurd (omega (arith, high)); shown = refl };
  shown = refl;
}
