-- What a target names, by its segments.
use Rattle.std.proofs.Common.{◌≡◌, ℕ, ◌<◌, Bool, true, false, cond, List, [], ◌∷◌, ◌++◌, length, Some, None, refl, ap, sym, ◌∙◌, arith, codes}
use Rattle.std.specs.Prelude.{◌&&◌, ◌==◌, bytes_eq, if◌then◌else◌}
use Rattle.std.specs.List.{join_with_byte, onto_first}
use Rattle.std.proofs.lemmas.List.Splits.{join_with_byte-slice_split}
use Rattle.std.proofs.lemmas.Slice.Eq.{bytes_eq-Decides}
use Rattle.gaz_exchange.proofs.ExchangeFacts.{both}
use Rattle.std.proofs.lemmas.Bool.Decides.{nat_tests}
use Rattle.matchit.specs.Seek.{first, has_slash}
use Rattle.gaz_exchange.specs.Routing.{closed_route, custodian_route, extract_route, routes, uprn_route, volume_route}
use Rattle.gaz_exchange.specs.Targets.{Closed, Custodian, Extract, Nowhere, Property, Target, Volume, is_filled, of_segments, segments, target_of}
use Rattle.gaz_exchange.proofs.SegmentFacts.{AllBytes, slash_first}
use Rattle.gaz_exchange.proofs.RouteFacts.{IsAt, IsCustodian, IsExtract, IsProperty, IsVolume, closed_found, custodian_found, extract_found, extract_target, property_found, volume_found, volume_target}

-- ---- the segments

split_whole : (p : List ℕ) → has_slash p ≡ false → segments p ≡ p ∷ []
split_whole [] s = refl
split_whole (b ∷ p) s = rw ((slash_first b p s).0, split_whole p (slash_first b p s).1) refl

split_cut : (front rest : List ℕ) → has_slash front ≡ false → segments (front ++ 47 ∷ rest) ≡ front ∷ segments rest
split_cut [] rest s = refl
split_cut (b ∷ front) rest s = rw ((slash_first b front s).0, split_cut front rest (slash_first b front s).1) refl

filled : (segment : List ℕ) → 0 < length segment → is_filled segment ≡ true
filled segment h = grind (arith, nat_tests, h)

not_empty : (segment : List ℕ) → is_filled segment ≡ true → 0 < length segment
not_empty segment h = grind (arith, nat_tests, h)

pub volume_named : (target c v : List ℕ) → IsVolume target c v → target_of target ≡ Volume c v
unfolding target_of
volume_named target c v is =
    let tail : List ℕ = codes "volumes" ++ 47 ∷ v in
    let parts : segments (volume_target c v) ≡ [] ∷ codes "custodians" ∷ c ∷ codes "volumes" ∷ v ∷ [] =
    ap (λ l. [] ∷ l) (split_cut (codes "custodians") (c ++ 47 ∷ tail) refl
    ∙ ap (λ l. codes "custodians" ∷ l) (split_cut c tail is.code_segment
    ∙ ap (λ l. c ∷ l) (split_cut (codes "volumes") v refl
    ∙ ap (λ l. codes "volumes" ∷ l) (split_whole v is.volume_segment)))) in
    ap (λ l. of_segments (segments l)) is.made ∙ ap of_segments parts ∙ rw (filled c is.some_code, filled v is.some_volume) refl

pub custodian_named : (target c : List ℕ) → IsCustodian target c → target_of target ≡ Custodian c
unfolding target_of
custodian_named target c is =
    let parts : segments (codes "/custodians/" ++ c) ≡ [] ∷ codes "custodians" ∷ c ∷ [] =
    ap (λ l. [] ∷ l) (split_cut (codes "custodians") c refl ∙ ap (λ l. codes "custodians" ∷ l) (split_whole c is.code_segment)) in
    ap (λ l. of_segments (segments l)) is.made ∙ ap of_segments parts ∙ rw (filled c is.some_code) refl

pub extract_named : (target c v : List ℕ) → IsExtract target c v → target_of target ≡ Extract c v
unfolding target_of
extract_named target c v is =
    let parts : segments (extract_target c v) ≡ [] ∷ codes "extract" ∷ c ∷ v ∷ [] =
    ap (λ l. [] ∷ l) (split_cut (codes "extract") (c ++ 47 ∷ v) refl
    ∙ ap (λ l. codes "extract" ∷ l) (split_cut c v is.code_segment
    ∙ ap (λ l. c ∷ l) (split_whole v is.volume_segment))) in
    ap (λ l. of_segments (segments l)) is.made ∙ ap of_segments parts ∙ rw (filled c is.some_code, filled v is.some_volume) refl

pub property_named : (target n : List ℕ) → IsProperty target n → target_of target ≡ Property n
unfolding target_of
property_named target n is =
    let parts : segments (codes "/uprn/" ++ n) ≡ [] ∷ codes "uprn" ∷ n ∷ [] =
    ap (λ l. [] ∷ l) (split_cut (codes "uprn") n refl ∙ ap (λ l. codes "uprn" ∷ l) (split_whole n is.number_segment)) in
    ap (λ l. of_segments (segments l)) is.made ∙ ap of_segments parts ∙ rw (filled n is.some_number) refl

pub closed_named : (target : List ℕ) → target ≡ codes "/closed" → target_of target ≡ Closed
unfolding target_of
closed_named target is = ap (λ l. of_segments (segments l)) is

-- no segment has a slash
abbrev AreClean : List (List ℕ) → Type 0
AreClean [] = Unit {0}
AreClean (x ∷ xs) = (has_slash x ≡ false) × AreClean xs

onto_clean : (b : ℕ) (parts : List (List ℕ)) → (b == 47) ≡ false → AreClean parts → AreClean (onto_first b parts)
onto_clean b [] n c = (rw n refl, tt)
onto_clean b (x ∷ xs) n c = (rw n c.0, c.1)

clean_cases : (h : Bool) (b : ℕ) (p : List ℕ) → (b == 47) ≡ h → AreClean (segments p) → AreClean (cond h ([] ∷ segments p) (onto_first b (segments p)))
clean_cases true b p n c = (refl, c)
clean_cases false b p n c = onto_clean b (segments p) n c

are_clean : (p : List ℕ) → AreClean (segments p)
are_clean [] = (refl, tt)
are_clean (b ∷ p) = clean_cases (b == 47) b p refl (are_clean p)

-- the target that these segments make
module _ (target : List ℕ) where
  at_one : (h : Bool) (first : List ℕ) → target ≡ 47 ∷ first → bytes_eq first (codes "closed") ≡ h → IsAt target (if h then Closed else Nowhere)
  at_one false first made e = tt
  at_one true first made e = made ∙ ap (λ l. 47 ∷ l) ((bytes_eq-Decides first (codes "closed")).0 e)

  at_property : (h : Bool) (first n : List ℕ) → target ≡ 47 ∷ first ++ 47 ∷ n → has_slash n ≡ false → (bytes_eq first (codes "uprn") && is_filled n) ≡ h → IsAt target (if h then Property n else Nowhere)
  at_property false first n made clean e = tt
  at_property true first n made clean e =
      let (one, some) = both (bytes_eq first (codes "uprn")) (is_filled n) e in
      record { made = made ∙ ap (λ l. 47 ∷ l ++ 47 ∷ n) ((bytes_eq-Decides first (codes "uprn")).0 one); some_number = not_empty n some; number_segment = clean }

  at_two : (h : Bool) (first n : List ℕ) → target ≡ 47 ∷ first ++ 47 ∷ n → has_slash n ≡ false → (bytes_eq first (codes "custodians") && is_filled n) ≡ h
      → IsAt target (if h then Custodian n else (if bytes_eq first (codes "uprn") && is_filled n then Property n else Nowhere))
  at_two false first n made clean e = at_property (bytes_eq first (codes "uprn") && is_filled n) first n made clean refl
  at_two true first n made clean e =
      let (one, some) = both (bytes_eq first (codes "custodians")) (is_filled n) e in
      record { made = made ∙ ap (λ l. 47 ∷ l ++ 47 ∷ n) ((bytes_eq-Decides first (codes "custodians")).0 one); some_code = not_empty n some; code_segment = clean }

  at_three : (h : Bool) (first c v : List ℕ) → target ≡ 47 ∷ (first ++ 47 ∷ (c ++ 47 ∷ v)) → has_slash c ≡ false → has_slash v ≡ false
      → (bytes_eq first (codes "extract") && is_filled c && is_filled v) ≡ h → IsAt target (if h then Extract c v else Nowhere)
  at_three false first c v made sc sv e = tt
  at_three true first c v made sc sv e =
      let (two, some_volume) = both (bytes_eq first (codes "extract") && is_filled c) (is_filled v) e in
      let (one, some_code) = both (bytes_eq first (codes "extract")) (is_filled c) two in
      record {
        made = made ∙ ap (λ l. 47 ∷ (l ++ 47 ∷ (c ++ 47 ∷ v))) ((bytes_eq-Decides first (codes "extract")).0 one);
        some_code = not_empty c some_code;
        some_volume = not_empty v some_volume;
        code_segment = sc;
        volume_segment = sv;
      }

  at_four : (h : Bool) (first c second v : List ℕ) → target ≡ 47 ∷ (first ++ 47 ∷ (c ++ 47 ∷ (second ++ 47 ∷ v))) → has_slash c ≡ false → has_slash v ≡ false
      → (bytes_eq first (codes "custodians") && bytes_eq second (codes "volumes") && is_filled c && is_filled v) ≡ h → IsAt target (if h then Volume c v else Nowhere)
  at_four false first c second v made sc sv e = tt
  at_four true first c second v made sc sv e =
      let (three, some_volume) = both (bytes_eq first (codes "custodians") && bytes_eq second (codes "volumes") && is_filled c) (is_filled v) e in
      let (two, some_code) = both (bytes_eq first (codes "custodians") && bytes_eq second (codes "volumes")) (is_filled c) three in
      let (one, other) = both (bytes_eq first (codes "custodians")) (bytes_eq second (codes "volumes")) two in
      record {
        made = made ∙ ap (λ l. 47 ∷ (l ++ 47 ∷ (c ++ 47 ∷ (second ++ 47 ∷ v)))) ((bytes_eq-Decides first (codes "custodians")).0 one)
            ∙ ap (λ l. codes "/custodians/" ++ (c ++ 47 ∷ (l ++ 47 ∷ v))) ((bytes_eq-Decides second (codes "volumes")).0 other);
        some_code = not_empty c some_code;
        some_volume = not_empty v some_volume;
        code_segment = sc;
        volume_segment = sv;
      }

  at_parts : (parts : List (List ℕ)) → target ≡ join_with_byte 47 parts → AreClean parts → IsAt target (of_segments parts)
  at_parts [] made clean = tt
  at_parts ((x ∷ xs) ∷ rest) made clean = tt
  at_parts ([] ∷ []) made clean = tt
  at_parts ([] ∷ first ∷ []) made clean = at_one (bytes_eq first (codes "closed")) first made refl
  at_parts ([] ∷ first ∷ n ∷ []) made clean = at_two (bytes_eq first (codes "custodians") && is_filled n) first n made clean.1.1.0 refl
  at_parts ([] ∷ first ∷ c ∷ v ∷ []) made clean = at_three (bytes_eq first (codes "extract") && is_filled c && is_filled v) first c v made clean.1.1.0 clean.1.1.1.0 refl
  at_parts ([] ∷ first ∷ c ∷ second ∷ v ∷ []) made clean =
      at_four (bytes_eq first (codes "custodians") && bytes_eq second (codes "volumes") && is_filled c && is_filled v) first c second v made clean.1.1.0 clean.1.1.1.1.0 refl
  at_parts ([] ∷ first ∷ c ∷ second ∷ v ∷ more ∷ rest) made clean = tt

  -- the target is of the form of what it names
  pub named_at : IsAt target (target_of target)
  unfolding target_of
  named_at = at_parts (segments target) (sym (join_with_byte-slice_split 47 target)) (are_clean target)

-- where the router finds nothing, nothing is named
nothing_named : (target : List ℕ) (named : Target) → AllBytes target → first routes target ≡ None → IsAt target named → named ≡ Nowhere
nothing_named target (Volume c v) bytes none is = let wrong : Some volume_route ≡ None = sym (volume_found target c v bytes is) ∙ none in absurd (cc wrong)
nothing_named target (Custodian c) bytes none is = let wrong : Some custodian_route ≡ None = sym (custodian_found target c bytes is) ∙ none in absurd (cc wrong)
nothing_named target (Extract c v) bytes none is = let wrong : Some extract_route ≡ None = sym (extract_found target c v bytes is) ∙ none in absurd (cc wrong)
nothing_named target (Property n) bytes none is = let wrong : Some uprn_route ≡ None = sym (property_found target n bytes is) ∙ none in absurd (cc wrong)
nothing_named target Closed bytes none is = let wrong : Some closed_route ≡ None = sym (closed_found target is) ∙ none in absurd (cc wrong)
nothing_named target Nowhere bytes none is = refl

pub named_nowhere : (target : List ℕ) → AllBytes target → first routes target ≡ None → target_of target ≡ Nowhere
named_nowhere target bytes none = nothing_named target (target_of target) bytes none (named_at target)
