-- Lemmas, and nothing to believe: the order of keys is total; keys that tie are one, and so are
-- hashed alike. The impls of `SortKey` cite them, and may cite of their own crate specs/ alone.
use Rattle.std.proofs.Common.{◌≡◌, ℕ, true, List, [], ◌∷◌, refl, sym, ap, ◌∙◌, cond}
use Rattle.std.proofs.Common.{eqb}
use Rattle.std.proofs.lemmas.Cmp.{on_total, then_total, nat_list_cmp_total}
use Rattle.std.proofs.lemmas.Map.Lookups.{exact_bytes, exact_unsigned}
use Rattle.std.specs.Cmp.{IsTotalOrder, nat_cmp_total}
use Rattle.std.specs.Hash.{Alike}
use Rattle.std.specs.Ordering.{eq_by_cmp, is_eq, nat_cmp, ordering_then}
use Rattle.std.specs.declared.cmp.Ordering.{Ordering}
use Rattle.std.specs.declared.cmp.Ordering.TheVariants.{Less, Equal, Greater}
use Rattle.gaz_ids.specs.declared.lang.Lang.{Lang}
use Rattle.gaz_ids.specs.declared.lang.Lang.TheVariants.{Cym, Eng}
use Rattle.gaz_records.specs.Keys.{key_cmp, kind_number, number_in, text_in}
use Rattle.gaz_records.specs.Kinds.{number_of}
use Rattle.gaz_records.specs.SortKeys.{written}
use Rattle.gaz_records.specs.declared.item.Kind.TheVariants as kinds
use Rattle.gaz_records.specs.declared.key.Key.{Key}
use Rattle.gaz_records.specs.declared.key.Key.TheVariants as key

-- a key from its three parts
lang_in : List ℕ → Lang
lang_in [] = Cym
lang_in (b ∷ bs) = cond (eqb b 67) Cym Eng

made : ℕ → ℕ → List ℕ → Key
made kind n t =
    cond (eqb kind (number_of kinds.Street)) (key.Street n)
    (cond (eqb kind (number_of kinds.Descriptor)) (key.Descriptor n (lang_in t))
    (cond (eqb kind (number_of kinds.Blpu)) (key.Blpu n)
    (cond (eqb kind (number_of kinds.Xref)) (key.Xref t) (key.Lpi t))))

made-parts : (k : Key) → made (kind_number k) (number_in k) (text_in k) ≡ k
unfolding made lang_in
made-parts (key.Street n) = refl
made-parts (key.Descriptor n Cym) = refl
made-parts (key.Descriptor n Eng) = refl
made-parts (key.Blpu n) = refl
made-parts (key.Xref t) = refl
made-parts (key.Lpi t) = refl

both_equal : (a b : Ordering) → ordering_then a b ≡ Equal → (a ≡ Equal) × (b ≡ Equal)
both_equal Less b e = cc
both_equal Equal b e = (refl, e)
both_equal Greater b e = cc

pub keys_exact : (a b : Key) → key_cmp a b ≡ Equal → a ≡ b
keys_exact a b e =
    let first = both_equal (nat_cmp (kind_number a) (kind_number b)) _ e in
    let second = both_equal (nat_cmp (number_in a) (number_in b)) _ first.1 in
    let kinds = exact_unsigned _ _ first.0 in
    let numbers = exact_unsigned _ _ second.0 in
    let texts = exact_bytes _ _ second.1 in
    sym (made-parts a) ∙ (λ i. made (kinds i) (numbers i) (texts i)) ∙ made-parts b

-- the order of keys is total
pub keys_total : IsTotalOrder key_cmp
keys_total =
    then_total (on_total kind_number nat_cmp_total)
    (then_total (on_total number_in nat_cmp_total) (on_total text_in nat_list_cmp_total))

tied : (o : Ordering) → is_eq o ≡ true → o ≡ Equal
tied Less e = cc
tied Equal e = refl
tied Greater e = cc

pub keys_alike : Alike (eq_by_cmp key_cmp) written
keys_alike = record { fed = λ a b h. ap written (keys_exact a b (tied (key_cmp a b) h)) }
