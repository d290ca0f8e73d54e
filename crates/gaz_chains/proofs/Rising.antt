-- A custodian's events, by rising hop.
use Rattle.std.proofs.Common.{◌≡◌, ◌⊎◌, inl, inr, ℕ, ◌<◌, ◌≤◌, List, [], ◌∷◌, ◌++◌, sym, ap, ◌∙◌, arith}
use Rattle.std.specs.Prelude.{Some, None, slice_get}
use Rattle.std.proofs.lemmas.Option.{none-some, same_Some}
use Rattle.gaz_views.specs.declared.custody.Custody.{Custody}
use Rattle.gaz_views.specs.Custody.{hop_in, hop_of}
use Rattle.gaz_chains.specs.Events.{Has, newest}
use Rattle.gaz_chains.proofs.Lists.{get_split, has_last, has_split, last_pushed, none_has}

-- each but the newest has a lower hop than the newest, and none is there twice
pub record IsRising (es : List Custody) : Type 0 where
  pub below : (e : Custody) → Has es e → (newest es ≡ Some e) ⊎ (hop_in e < hop_of (newest es))
  pub once : (e : Custody) (i j : ℕ) → slice_get es i ≡ Some e → slice_get es j ≡ Some e → i ≡ j

pub none_rising : IsRising []
none_rising = record { below = λ e h. absurd (none_has e h); once = λ e i j a b. absurd (none-some e a) }

pub has_newest : (es : List Custody) (e : Custody) → newest es ≡ Some e → Has es e
has_newest es e n = let at = has_last es e n in (at.0, at.1)

pub at_most : (es : List Custody) → IsRising es → (e : Custody) → Has es e → hop_in e ≤ hop_of (newest es)
at_most es r e h = elim (r.below e h) [
  | inl is ↦ let same : hop_in e ≡ hop_of (newest es) = ap hop_of (sym is) in omega (arith, same)
  | inr less ↦ omega (arith, less)
]

-- the newest is the only one with its hop
pub same_hop : (es : List Custody) → IsRising es → (e f : Custody) → Has es e → newest es ≡ Some f → hop_in e ≡ hop_in f → e ≡ f
same_hop es r e f h n same = elim (r.below e h) [
  | inl is ↦ same_Some e f (sym is ∙ n)
  | inr less ↦ let top : hop_of (newest es) ≡ hop_in f = ap hop_of n in absurd (omega (arith, less, top, same))
]

-- where there is no newest there is none
pub nothing_there : (es : List Custody) → IsRising es → newest es ≡ None → (e : Custody) → Has es e → ⊥
nothing_there es r n e h = elim (r.below e h) [
  | inl is ↦ none-some e (sym n ∙ is)
  | inr less ↦ let top : hop_of (newest es) ≡ 0 = ap hop_of n in omega (arith, less, top)
]

-- one more with a higher hop
pub rising_pushed : (es : List Custody) (f : Custody) → IsRising es → hop_of (newest es) < hop_in f → IsRising (es ++ f ∷ [])
rising_pushed es f r higher = record {
  below = λ e h. elim (has_split es f e h) [
    | inl old ↦
        let top : hop_of (newest (es ++ f ∷ [])) ≡ hop_in f = ap hop_of (last_pushed None es f) in
        let low = at_most es r e old in inr (omega (arith, higher, low, top))
    | inr new ↦ inl (last_pushed None es f ∙ ap (λ x. Some x) (sym new))
  ];
  once = λ e i j a b. elim (get_split es f i e a) [
    | inl old ↦ elim (get_split es f j e b) [
      | inl also ↦ r.once e i j old also
      | inr new ↦ let low = at_most es r e (i, old) in let same = ap hop_in new.1 in absurd (omega (arith, higher, low, same))
    ]
    | inr new ↦ elim (get_split es f j e b) [
      | inl old ↦ let low = at_most es r e (j, old) in let same = ap hop_in new.1 in absurd (omega (arith, higher, low, same))
      | inr also ↦ new.0 ∙ sym also.0
    ]
  ];
}
