-- The records that a reader has left, one record further.
use Rattle.std.proofs.Common.{◌≡◌, ℕ, zero, suc, ◌+◌, ◌<◌, ◌⊎◌, inl, inr, Bool, true, false, cond, List, [], ◌∷◌, ◌++◌, length, refl, arith, add-one, Option, Some, None, ap, ◌∙◌, sym}
use Rattle.csv.specs.Machine.{Read, next_record, step, is_end, fields_after, field_after, ends_at_end}
use Rattle.csv.specs.Reading.{default_config, records_from, records_next}
use Rattle.csv.specs.declared.parser.Config.{Config}
use Rattle.csv.specs.declared.parser.State.{State}
use Rattle.csv.specs.declared.parser.State.TheVariants as st
use Rattle.gaz_rows.specs.Rows.{Fields}
use Rattle.csv.specs.Reading.{ReadRecord, Reached, source_of}
use Rattle.csv.specs.declared.reader.Reader.{Reader}
use Rattle.csv.proofs.ReadFacts.{rows-end, rows-more}
use denote.Ref.{Bor}
use Rattle.gaz_rows.specs.Reader.{left_of}

-- a record takes a byte at least, or stands at the very end
abbrev Shorter : List ℕ → Read → Type 0
Shorter bytes p = (length p.2 < length bytes) ⊎ ((p.2 ≡ []) × (p.1 ≡ st.StartRecord))

at_end : (b : Bool) (f : List (List ℕ)) (p : Read) → cond b (Some (f, st.StartRecord, [])) None ≡ Some p → Shorter [] p
at_end true f p e = let q : (f, st.StartRecord, []) ≡ p = cc e in inr (sym (ap (λ (x : Read). x.2) q), sym (ap (λ (x : Read). x.1) q))
at_end false f p e = cc

picked : {X : Type 0} (b : Bool) (x y : Option X) (z : Option X) → cond b x y ≡ z → ((b ≡ true) × (x ≡ z)) ⊎ ((b ≡ false) × (y ≡ z))
picked true x y z e = inl (refl, e)
picked false x y z e = inr (refl, e)

lower : (c : ℕ) (rest : List ℕ) (p : Read) → Shorter rest p → Shorter (c ∷ rest) p
lower c rest p (inl h) = inl (omega arith)
lower c rest p (inr h) = inr h

shorter : (cfg : Config) (s : State) (fields : List (List ℕ)) (field bytes : List ℕ) (p : Read) → next_record cfg s fields field bytes ≡ Some p → Shorter bytes p
unfolding next_record
shorter cfg s fields field [] p e = at_end (ends_at_end s) (fields ++ (field ∷ [])) p e
shorter cfg s fields field (c ∷ rest) p e = elim (picked (is_end (step cfg s c).1) _ _ _ e) [
  | inl h ↦ let q : (fields_after (step cfg s c).1 fields field, (step cfg s c).0, rest) ≡ p = cc h.1 in let r : rest ≡ p.2 = ap (λ (x : Read). x.2) q in inl (omega (arith, ap length r))
  | inr h ↦ lower c rest p (shorter cfg (step cfg s c).0 (fields_after (step cfg s c).1 fields field) (field_after (step cfg s c).1 c field) rest p h.1)
]

none_left : (n : ℕ) → records_from default_config n st.StartRecord [] ≡ []
unfolding records_from next_record
none_left zero = refl
none_left (suc n) = refl

next_same : (f g : State → List ℕ → List Fields) (o : Option Read) → ((p : Read) → o ≡ Some p → f p.1 p.2 ≡ g p.1 p.2) → records_next f o ≡ records_next g o
next_same f g None h = refl
next_same f g (Some p) h = ap (λ (x : List Fields). p.0 ∷ x) (h p refl)

-- any bound above the length gives all of them
enough : (n m : ℕ) (s : State) (bytes : List ℕ) → length bytes < n → length bytes < m
    → records_from default_config n s bytes ≡ records_from default_config m s bytes
unfolding records_from
enough zero m s bytes h k = absurd (omega arith)
enough (suc n) zero s bytes h k = absurd (omega arith)
enough (suc n) (suc m) s bytes h k = next_same (records_from default_config n) (records_from default_config m) _ (λ p e. elim (shorter default_config s [] [] bytes p e) [
  | inl a ↦ enough n m p.1 p.2 (omega arith) (omega arith)
  | inr a ↦ rw (a.0, a.1) (none_left n ∙ sym (none_left m))
])

-- what is left begins with the next record
pub left-more : (s : State) (bytes : List ℕ) (p : Read) → next_record default_config s [] [] bytes ≡ Some p → left_of s bytes ≡ p.0 ∷ left_of p.1 p.2
unfolding records_from
left-more s bytes p e = rw (add-one, e) (ap (λ (x : List Fields). p.0 ∷ x) (elim (shorter default_config s [] [] bytes p e) [
  | inl a ↦ enough (length bytes) (length p.2 + 1) p.1 p.2 a (omega arith)
  | inr a ↦ rw (a.0, a.1) (none_left (length bytes) ∙ sym (none_left 1))
]))

pub left-none : (s : State) (bytes : List ℕ) → next_record default_config s [] [] bytes ≡ None → left_of s bytes ≡ []
unfolding records_from
left-none s bytes e = rw (add-one, e) refl

same_left : (f g : List (List ℕ)) (s1 s2 : State) (ys zs : List ℕ) → f ≡ g → s1 ≡ s2 → ys ≡ zs → g ∷ left_of s1 ys ≡ f ∷ left_of s2 zs
same_left f g s1 s2 ys zs a b c = rw (a, b, c) refl

-- a read that found a record leaves the rest
pub left-read : (a b : Reader (Bor (List ℕ))) (f : List (List ℕ)) (y : List ℕ) → a.config ≡ default_config → source_of (λ s. Some s.now) a ≡ Some y
    → ReadRecord (λ s. Some s.now) a b true f
    → (z : List ℕ) × (source_of (λ s. Some s.now) b ≡ Some z) × (left_of a.state y ≡ f ∷ left_of b.state z)
unfolding Reached
left-read a b f y config source r =
    let (z, at_z, (p, e, is, back)) = rows-more (λ (s : Bor (List ℕ)). Some s.now) a b f default_config a.state y y [] config source (refl, refl) r in
    (z, at_z, left-more a.state y p e ∙ same_left f p.0 p.1 b.state p.2 z is back.0 back.1)

pub left-end : (a b : Reader (Bor (List ℕ))) (f : List (List ℕ)) (y : List ℕ) → a.config ≡ default_config → source_of (λ s. Some s.now) a ≡ Some y
    → ReadRecord (λ s. Some s.now) a b false f → left_of a.state y ≡ []
left-end a b f y config source r = left-none a.state y (rows-end (λ (s : Bor (List ℕ)). Some s.now) a b f default_config y config source r)
