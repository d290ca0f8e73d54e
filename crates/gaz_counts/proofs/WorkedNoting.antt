-- What noting comes to on worked examples.
use Rattle.std.proofs.Common.{◌≡◌, ◌≢◌, ◌∙◌, ℕ, List, [], ◌∷◌, ap, arith, refl, sym, subst}
use Rattle.std.specs.Prelude.{Option, Some, None, IfSome, option_map}
use Rattle.std.specs.BTreeMap.{is_at}
use Rattle.std.specs.Map.{lookup}
use Rattle.std.specs.Ordering.{nat_cmp}
use Rattle.gaz_counts.specs.Counts.{KeepsOthers, OneMore, noted}
use Rattle.gaz_counts.specs.Examples.{WorkedNoting, both, four, three}
use Rattle.gaz_counts.specs.declared.at_hand.AtHand.{AtHand}
use Rattle.gaz_counts.specs.declared.counts.Counts.{Counts}
use Rattle.gaz_counts.proofs.Noting.{itself, other_at}

-- what entries have of a custodian
abbrev found : List (ℕ × AtHand) → ℕ → Option AtHand
found es c = lookup (is_at (nat_cmp c)) es

-- what is noted of a custodian is so as it stands in the entries
noted_so : (counts : Counts) (es : List (ℕ × AtHand)) (c : ℕ) (P : AtHand → Type 0) → counts.by_code.entries ≡ es → IfSome (found es c) P → IfSome (noted counts c) P
noted_so counts es c P is there = subst (λ es. IfSome (found es c) P) (sym is) there

-- and what stands in the entries as it is noted
found_so : (counts : Counts) (es : List (ℕ × AtHand)) (c : ℕ) (P : AtHand → Type 0) → counts.by_code.entries ≡ es → IfSome (noted counts c) P → IfSome (found es c) P
found_so counts es c P is there = subst (λ es. IfSome (found es c) P) is there

noted_as : (counts : Counts) (es : List (ℕ × AtHand)) (c : ℕ) → counts.by_code.entries ≡ es → noted counts c ≡ found es c
noted_as counts es c is i = found (is i) c

-- what is at hand of others is what was, where they stand in the same entries behind this one
others_stay : (old new : Counts) (c : ℕ) (h : AtHand) (rest : List (ℕ × AtHand)) → new.by_code.entries ≡ (c, h) ∷ rest
    → ((d : ℕ) → d ≢ c → noted old d ≡ found rest d) → KeepsOthers c old new
others_stay old new c h rest is was d other =
    noted_so new ((c, h) ∷ rest) d (λ x. noted old d ≡ Some x) is (rw (other_at d c (λ same. other (sym same))) (subst (λ o. IfSome o (λ x. noted old d ≡ Some x)) (was d other) (itself (noted old d))))

-- as they do where the first of them was written anew
first_alone : (old new : Counts) (c : ℕ) (x h : AtHand) (rest : List (ℕ × AtHand)) → old.by_code.entries ≡ (c, x) ∷ rest → new.by_code.entries ≡ (c, h) ∷ rest → KeepsOthers c old new
first_alone old new c x h rest was is =
    others_stay old new c h rest is (λ d other. noted_as old ((c, x) ∷ rest) d was ∙ rw (other_at d c (λ same. other (sym same))))

-- nothing is at hand of others where nothing is at hand
none_left : (old new : Counts) (c : ℕ) → new.by_code.entries ≡ [] → KeepsOthers c old new
none_left old new c is d other = noted_so new [] d (λ x. noted old d ≡ Some x) is tt

is_two : (new : Counts) (rest : List (ℕ × AtHand)) → new.by_code.entries ≡ (1001, three (Some 2)) ∷ rest → IfSome (noted new 1001) (λ h. h ≡ three (Some 2))
is_two new rest is = noted_so new ((1001, three (Some 2)) ∷ rest) 1001 (λ h. h ≡ three (Some 2)) is refl

pub noting_holds : WorkedNoting
noting_holds = record {
  noted = λ old new was is. record {
    own = is_two new ((1002, four None) ∷ []) is;
    others = first_alone old new 1001 (three None) (three (Some 2)) ((1002, four None) ∷ []) was is;
  };
  new = λ old new was is. record {
    own = is_two new [] is;
    others = others_stay old new 1001 (three (Some 2)) [] is (λ d other. noted_as old [] d was);
  };
  forgotten = λ old new was is. record {
    own = noted_so new [] 1001 (λ h. h ≡ three (Some 2)) is tt;
    others = none_left old new 1001 is;
  };
  stays = λ old new was is notes.
      let own : three None ≡ three (Some 2) = found_so new ((1001, three None) ∷ []) 1001 (λ h. h ≡ three (Some 2)) is notes.own in
      let held : None ≡ Some 2 = ap (λ (h : AtHand). h.held) own in
      absurd (cc);
  other = λ old new was is notes.
      let then : noted old 1002 ≡ Some (four (Some 7)) = found_so new (both (three (Some 2)) (four (Some 7))) 1002 (λ h. noted old 1002 ≡ Some h) is (notes.others 1002 (λ same. absurd (omega (arith, same)))) in
      let clash : Some (four None) ≡ Some (four (Some 7)) = sym (noted_as old (both (three None) (four None)) 1002 was) ∙ then in
      let held : Some None ≡ Some (Some 7) = ap (option_map (λ (h : AtHand). h.held)) clash in
      absurd (cc);
  made_up = λ old new was is notes.
      let then : noted old 1002 ≡ Some (four None) = found_so new (both (three (Some 2)) (four None)) 1002 (λ h. noted old 1002 ≡ Some h) is (notes.others 1002 (λ same. absurd (omega (arith, same)))) in
      let clash : None ≡ Some (four None) = sym (noted_as old [] 1002 was) ∙ then in
      absurd (cc);
  come = λ old new was is. record {
    own = noted_so new ((1001, three (Some 2)) ∷ []) 1001 (λ h. (was : AtHand) × (noted old 1001 ≡ Some was) × OneMore was h) is
        (three (Some 1), noted_as old ((1001, three (Some 1)) ∷ []) 1001 was, record { reached = refl; held = refl });
    others = first_alone old new 1001 (three (Some 1)) (three (Some 2)) [] was is;
  };
  unheard = λ old new was is counts.
      let own = found_so new ((1001, three (Some 1)) ∷ []) 1001 (λ h. (was : AtHand) × (noted old 1001 ≡ Some was) × OneMore was h) is counts.own in
      let there : Some (three (Some 1)) ≡ Some own.0 = sym (noted_as old ((1001, three (Some 1)) ∷ []) 1001 was) ∙ own.1 in
      let held = own.2.held in
      absurd (cc);
  of_nothing = λ old new was is counts.
      let own = found_so new ((1001, three (Some 1)) ∷ []) 1001 (λ h. (was : AtHand) × (noted old 1001 ≡ Some was) × OneMore was h) is counts.own in
      let there : None ≡ Some own.0 = sym (noted_as old [] 1001 was) ∙ own.1 in
      absurd (cc);
}
