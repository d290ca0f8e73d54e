-- There is one chain at most, and more events go on with it.
use Rattle.std.proofs.Common.{◌≡◌, inl, inr, ℕ, zero, suc, List, [], ◌∷◌, length, refl, sym, ap, ◌∙◌, subst, arith}
use Rattle.std.specs.Prelude.{Option, Some, None, slice_get}
use Rattle.std.proofs.lemmas.Option.{none-some}
use Rattle.gaz_views.specs.declared.custody.Custody.{Custody}
use Rattle.gaz_views.specs.declared.custody.Custody.TheVariants.{Adopted}
use Rattle.gaz_chains.specs.Events.{Events, Has}
use Rattle.gaz_chains.specs.Chains.{IsChain, IsOffer}
use Rattle.gaz_chains.specs.Laws.{ChainsGoOn, OneChainAtMost}
use Rattle.gaz_chains.proofs.Lists.{get_before, prefix_from_gets, same_from_gets}
use Rattle.gaz_chains.proofs.Hops.{hop_within, offer_to}

-- what stands in the one chain stands there in the other
there : (a : ℕ) (ev later : Events) (xs ys : List ℕ) (p q : Option ℕ) → ((c : ℕ) (e : Custody) → Has (ev c) e → Has (later c) e) → IsChain a ev xs p → IsChain a later ys q
    → (i x : ℕ) → slice_get xs i ≡ Some x → slice_get ys i ≡ Some x
there a ev later xs ys p q more k l zero x e = l.begins ∙ sym k.begins ∙ e
there a ev later xs ys p q more k l (suc n) x e =
    let w = get_before xs n x e in
    ((l.adoptions x w.0 (suc n)).0 (more x (Adopted w.0 (suc n)) ((k.adoptions x w.0 (suc n)).1 (w.1, e)))).1

pub chains_go_on_holds : ChainsGoOn
chains_go_on_holds a ev later xs ys p q more k l = prefix_from_gets xs ys (there a ev later xs ys p q more k l)

-- where the chain ends
pub end_of : (a : ℕ) (ev : Events) (xs : List ℕ) (p : Option ℕ) → IsChain a ev xs p → (i x : ℕ) × (slice_get xs i ≡ Some x) × (length xs ≡ suc i)
end_of a ev xs p k = go xs k.begins
  where
    go : (xs : List ℕ) → slice_get xs 0 ≡ Some a → (i x : ℕ) × (slice_get xs i ≡ Some x) × (length xs ≡ suc i)
    go [] e = absurd (none-some a e)
    go (y ∷ []) e = (0, a, e, refl)
    go (y ∷ (z ∷ ys)) e = let rest = last_one z ys in (suc rest.0, rest.1, rest.2, ap suc rest.3)
      where
        last_one : (z : ℕ) (ys : List ℕ) → (i x : ℕ) × (slice_get (z ∷ ys) i ≡ Some x) × (length (z ∷ ys) ≡ suc i)
        last_one z [] = (0, z, refl, refl)
        last_one z (y ∷ ys) = let rest = last_one y ys in (suc rest.0, rest.1, rest.2, ap suc rest.3)

-- what is offered in the one way is so in the other
same_offer : (a : ℕ) (ev : Events) (xs : List ℕ) (p q : Option ℕ) → IsChain a ev xs p → IsChain a ev xs q → (t : ℕ) → p ≡ Some t → q ≡ Some t
same_offer a ev xs p q k l t e =
    let end = end_of a ev xs p k in
    let offer : IsOffer xs p end.1 t (suc end.0) = subst (λ o. IsOffer xs o end.1 t (suc end.0)) (sym e) (refl, end.2, end.3) in
    elim ((l.releases end.1 t (suc end.0)).0 ((k.releases end.1 t (suc end.0)).1 (inr offer))) [
      | inl hop ↦ let within = hop_within xs end.1 t (suc end.0) hop in let long = end.3 in absurd (omega (arith, within, long))
      | inr also ↦ offer_to xs q end.1 t (suc end.0) also
    ]

both : (p q : Option ℕ) → ((t : ℕ) → p ≡ Some t → q ≡ Some t) → ((t : ℕ) → q ≡ Some t → p ≡ Some t) → q ≡ p
both None None f g = refl
both None (Some t) f g = sym (g t refl)
both (Some t) q f g = f t refl

pub one_chain_at_most_holds : OneChainAtMost
one_chain_at_most_holds a ev xs ys p q k l =
    let same : ys ≡ xs = same_from_gets ys xs (there a ev ev ys xs q p (λ c e h. h) l k) (there a ev ev xs ys p q (λ c e h. h) k l) in
    let l' : IsChain a ev xs q = subst (λ zs. IsChain a ev zs q) same l in
    (same, both p q (same_offer a ev xs p q k l') (same_offer a ev xs q p l' k))
