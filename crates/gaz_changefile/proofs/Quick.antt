-- What a record's first two fields are is known as soon as they are read.
use Rattle.std.specs.Prelude.{nat_le}
use Rattle.std.proofs.Common.{arith, ◌≡◌, ◌==◌, ◌++◌, ◌∷◌, [], ℕ, List, Bool, Option, Some, None, refl, true, false, inl, inr, add-one, length, drop}
use Rattle.std.specs.Prelude.{codes}
use Rattle.std.specs.List.{starts_with}
use Rattle.std.proofs.Common.{eqb}
use Rattle.std.proofs.lemmas.Bool.{cases_Bool}
use Rattle.std.proofs.lemmas.Bool.Decides.{Decides-eqb, nat_tests}
use Rattle.std.proofs.lemmas.Slice.Eq.{starts_is}
use Rattle.csv.specs.Machine.{Read, ends_at_end, field_after, fields_after, is_end, next_record, step}
use Rattle.csv.specs.Reading.{default_config, records_from, records_next, strip_bom}
use Rattle.csv.specs.declared.parser.Action.{Action}
use Rattle.csv.specs.declared.parser.Action.TheVariants as act
use Rattle.csv.specs.declared.parser.State.{State}
use Rattle.csv.specs.declared.parser.State.TheVariants as st
use Rattle.csv.specs.Records.{field_at}
use Rattle.gaz_ids.specs.Numbers.{read_id}
use Rattle.gaz_rows.specs.Rows.{Fields}
use Rattle.gaz_changefile.specs.Profile.{profile_first, profile_in, profile_of}

-- a state within a record
abbrev is_in : State → Bool
is_in st.StartRecord = false
is_in st.StartField = true
is_in st.InField = true
is_in st.InQuoted = true
is_in st.AfterQuote = true
is_in st.InEscape = true
is_in st.InComment = false
is_in st.AfterCr = false

in_field_stays : (c : ℕ) → is_end (step default_config st.InField c).1 ≡ false → is_in (step default_config st.InField c).0 ≡ true
in_field_stays c e = elim (cases_Bool (c == 44)) [
  | inl comma ↦ rw comma refl
  | inr other ↦ elim (cases_Bool (c == 13)) [
    | inl cr ↦ cc (rw (other, cr) at e)
    | inr text ↦ elim (cases_Bool (c == 10)) [
      | inl lf ↦ cc (rw (other, text, lf) at e)
      | inr plain ↦ rw (other, text, plain) refl
    ]
  ]
]

-- a byte that ends no record stays within it
stays : (s : State) → is_in s ≡ true → (c : ℕ) → is_end (step default_config s c).1 ≡ false → is_in (step default_config s c).0 ≡ true
stays st.StartRecord i c e = cc i
stays st.StartField i c e = elim (cases_Bool (c == 34)) [
  | inl quote ↦ rw quote refl
  | inr other ↦ rw other (in_field_stays c (rw other at e))
]
stays st.InField i c e = in_field_stays c e
stays st.InQuoted i c e = elim (cases_Bool (c == 34)) [
  | inl quote ↦ rw quote refl
  | inr other ↦ rw other refl
]
stays st.AfterQuote i c e = elim (cases_Bool (c == 34)) [
  | inl quote ↦ rw quote refl
  | inr other ↦ rw other (in_field_stays c (rw other at e))
]
stays st.InEscape i c e = refl
stays st.InComment i c e = cc i
stays st.AfterCr i c e = cc i

ends : (s : State) → is_in s ≡ true → ends_at_end s ≡ true
ends st.StartRecord i = cc i
ends st.StartField i = refl
ends st.InField i = refl
ends st.InQuoted i = refl
ends st.AfterQuote i = refl
ends st.InEscape i = refl
ends st.InComment i = refl
ends st.AfterCr i = cc i

-- what was read, if anything, begins with these fields
abbrev Begins : List ℕ → List ℕ → Option Read → Type 0
Begins a b None = ⊥
Begins a b (Some p) = (more : Fields) × (p.0 ≡ a ∷ b ∷ more)

behind : (action : Action) (a b : List ℕ) (more : Fields) (field : List ℕ) → fields_after action (a ∷ b ∷ more) field ≡ a ∷ b ∷ fields_after action more field
behind act.EndField a b more field = refl
behind act.Skip a b more field = refl
behind act.Copy a b more field = refl
behind act.EndRecord a b more field = refl

begins : (s : State) → is_in s ≡ true → (a b : List ℕ) (more : Fields) (field bytes : List ℕ) → Begins a b (next_record default_config s (a ∷ b ∷ more) field bytes)
unfolding next_record
begins s i a b more field [] = rw (ends s i) (more ++ (field ∷ []), refl)
begins s i a b more field (c ∷ rest) = elim (cases_Bool (is_end (step default_config s c).1)) [
  | inl end ↦ rw end (fields_after (step default_config s c).1 more field, behind (step default_config s c).1 a b more field)
  | inr on ↦
      rw (on, behind (step default_config s c).1 a b more field)
      (begins (step default_config s c).0 (stays s i c on) a b (fields_after (step default_config s c).1 more field) (field_after (step default_config s c).1 c field) rest)
]

first_begins : (rest : List ℕ) → Begins (49 ∷ 48 ∷ []) (49 ∷ []) (next_record default_config st.StartRecord [] [] (49 ∷ 48 ∷ 44 ∷ 49 ∷ 44 ∷ rest))
unfolding next_record
first_begins rest = begins st.StartField refl (49 ∷ 48 ∷ []) (49 ∷ []) [] [] rest

named : (more : Fields) → profile_in ((49 ∷ 48 ∷ []) ∷ (49 ∷ []) ∷ more) ≡ Some 1
unfolding field_at read_id
named more =
    let two : nat_le 2 (length ((49 ∷ 48 ∷ []) ∷ (49 ∷ []) ∷ more)) ≡ true = grind (arith, nat_tests) in
    rw two refl

first_named : (o : Option Read) (left : State → List ℕ → List Fields) → Begins (49 ∷ 48 ∷ []) (49 ∷ []) o → profile_first (records_next left o) ≡ Some 1
first_named None left h = absurd h
first_named (Some p) left h = rw h.1 (named h.0)

known_of : (rest : List ℕ) → profile_of (49 ∷ 48 ∷ 44 ∷ 49 ∷ 44 ∷ rest) ≡ Some 1
unfolding profile_of records_from strip_bom
known_of rest =
    let text = 49 ∷ 48 ∷ 44 ∷ 49 ∷ 44 ∷ rest in
    rw add-one (first_named (next_record default_config st.StartRecord [] [] text) (records_from default_config (length text)) (first_begins rest))

-- bytes that begin with 10,1, name profile 1
pub names_known : (bytes : List ℕ) → starts_with eqb bytes (codes "10,1,") ≡ true → profile_of bytes ≡ Some 1
names_known bytes h =
    let e : bytes ≡ codes "10,1," ++ drop 5 bytes = (starts_is Decides-eqb bytes (codes "10,1,") _ refl).0 h in
    rw e (known_of (drop 5 bytes))
