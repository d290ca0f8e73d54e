-- What a growth keeps.
use Rattle.std.proofs.Common.{◌≡◌, ◌≢◌, inl, inr, ℕ, Bool, true, false, List, [], ◌∷◌, Option, Some, None, refl, sym, ap, ◌∙◌, subst, true≢false, eqb-true, arith}
use Rattle.std.specs.Prelude.{◌==◌, ◌&&◌, is_some, not}
use Rattle.std.specs.List.{list_all}
use Rattle.std.specs.Option.{option_map_or}
use Rattle.std.specs.Bool.{Decides}
use Rattle.std.proofs.lemmas.Bool.{and_cases, and_parts, cases_Bool}
use Rattle.std.proofs.lemmas.Bool.Decides.{nat_tests}
use Rattle.std.proofs.lemmas.Slice.Eq.{slice_eq-Decides}
use Rattle.gaz_register.specs.Growing.{Extends, has_blocks, keeps_blocks, keeps_custodians, same_blocks}
use Rattle.gaz_register.specs.GrowthLaws.{AllottedStays, CodesStay, ExtendsComposes, GrowthTells, LosesCustodian, OwnersStay}
use Rattle.gaz_register.specs.Registers.{Blocks, CustodianValue, RegisterValue, blocks_of, custodian_of, has_own_codes, knows, no_blocks, within}
use Rattle.gaz_register.proofs.Ownership.{one-owner}
use Rattle.gaz_register.proofs.Registered.{codes-own}

same : (n : ℕ) → (n == n) ≡ true
same n = grind (arith, nat_tests)

-- ---- blocks

abbrev equal : (ℕ × ℕ) → (ℕ × ℕ) → Bool
equal a b = (a.0 == b.0) && (a.1 == b.1)

equal-told : (a b : ℕ × ℕ) → equal a b ≡ true → a ≡ b
equal-told a b e =
    let (first, last) = and_parts (a.0 == b.0) (a.1 == b.1) e in
    let p = eqb-true a.0 b.0 first in
    let q = eqb-true a.1 b.1 last in
    λ i. (p i, q i)

equal-itself : (a b : ℕ × ℕ) → a ≡ b → equal a b ≡ true
equal-itself a b e = subst (λ c. equal a c ≡ true) e (rw (same a.0, same a.1) refl)

lists-told : (xs ys : List (ℕ × ℕ)) → Decides (same_blocks xs ys) (xs ≡ ys)
lists-told xs ys = slice_eq-Decides {E = equal} (λ a b. (equal-told a b, equal-itself a b)) xs ys (same_blocks xs ys) refl

both-told : (a b : Blocks) → (same_blocks a.uprn b.uprn && same_blocks a.usrn b.usrn) ≡ true → a ≡ b
both-told a b e =
    let (first, second) = and_parts (same_blocks a.uprn b.uprn) (same_blocks a.usrn b.usrn) e in
    let p = (lists-told a.uprn b.uprn).0 first in
    let q = (lists-told a.usrn b.usrn).0 second in
    λ i. record { uprn = p i; usrn = q i }

both-itself : (a b : Blocks) → a ≡ b → (same_blocks a.uprn b.uprn && same_blocks a.usrn b.usrn) ≡ true
both-itself a b e =
    let p = (lists-told a.uprn b.uprn).1 (ap (λ (c : Blocks). c.uprn) e) in
    let q = (lists-told a.usrn b.usrn).1 (ap (λ (c : Blocks). c.usrn) e) in
    rw (p, q) refl

abbrev has : Option CustodianValue → Blocks → Bool
has o own = option_map_or (λ d. same_blocks d.own.uprn own.uprn && same_blocks d.own.usrn own.usrn) o false

abbrev own_of : Option CustodianValue → Blocks
own_of o = option_map_or (λ c. c.own) o no_blocks

has-told : (o : Option CustodianValue) (own : Blocks) → has o own ≡ true → own_of o ≡ own
has-told None own e = cc e
has-told (Some d) own e = both-told d.own own e

has-not : (o : Option CustodianValue) (own : Blocks) → is_some o ≡ true → has o own ≡ false → own_of o ≢ own
has-not None own known e = cc known
has-not (Some d) own known e = λ p. true≢false (sym (both-itself d.own own p) ∙ e)

-- ---- custodian by custodian

-- the first custodian is that with its code
here : (c : CustodianValue) (cs : RegisterValue) → knows (c ∷ cs) c.code ≡ true
here c cs = rw (same c.code) refl

own-here : (c : CustodianValue) (cs : RegisterValue) → blocks_of (c ∷ cs) c.code ≡ c.own
own-here c cs = rw (same c.code) refl

further : (c : CustodianValue) (cs : RegisterValue) (code : ℕ) → knows cs code ≡ true → knows (c ∷ cs) code ≡ true
further c cs code e = elim (cases_Bool (c.code == code)) [
  | inl mine ↦ rw mine refl
  | inr other ↦ rw other e
]

custodians-stay : (old grown : RegisterValue) → keeps_custodians old grown ≡ true → (code : ℕ) → knows old code ≡ true → knows grown code ≡ true
custodians-stay [] grown e code was = cc was
custodians-stay (c ∷ cs) grown e code was =
    let (first, more) = and_parts (knows grown c.code) (keeps_custodians cs grown) e in
    elim (cases_Bool (c.code == code)) [
      | inl mine ↦ subst (λ n. knows grown n ≡ true) (eqb-true c.code code mine) first
      | inr other ↦ custodians-stay cs grown more code (rw other at was)
    ]

one-lost : (old grown : RegisterValue) → keeps_custodians old grown ≡ false → LosesCustodian old grown
one-lost [] grown e = cc e
one-lost (c ∷ cs) grown e = elim (and_cases (knows grown c.code) (keeps_custodians cs grown) e) [
  | inl first ↦ record { code = c.code; was = here c cs; gone = first }
  | inr more ↦ let lost = one-lost cs grown more in record { code = lost.code; was = further c cs lost.code lost.was; gone = lost.gone }
]

blocks-stay : (old grown : RegisterValue) → keeps_blocks old grown ≡ true → (code : ℕ) → knows old code ≡ true → blocks_of grown code ≡ blocks_of old code
blocks-stay [] grown e code was = cc was
blocks-stay (c ∷ cs) grown e code was =
    let (first, more) = and_parts (has_blocks grown c) (keeps_blocks cs grown) e in
    elim (cases_Bool (c.code == code)) [
      | inl mine ↦ rw mine (subst (λ n. blocks_of grown n ≡ c.own) (eqb-true c.code code mine) (has-told (custodian_of grown c.code) c.own first))
      | inr other ↦ rw other (blocks-stay cs grown more code (rw other at was))
    ]

clash : (a b x : ℕ) → (a == x) ≡ true → (b == x) ≡ true → not (a == b) ≡ true → ⊥
clash a b x p q r = grind (arith, nat_tests)

-- the code of a later custodian is not that of the first
not-first : (c : CustodianValue) (cs : RegisterValue) (code : ℕ) → list_all (λ d. not (c.code == d.code)) cs ≡ true → knows cs code ≡ true → (c.code == code) ≡ true → ⊥
not-first c [] code own was mine = cc was
not-first c (d ∷ ds) code own was mine =
    let (apart, more) = and_parts (not (c.code == d.code)) (list_all (λ (d : CustodianValue). not (c.code == d.code)) ds) own in
    elim (cases_Bool (d.code == code)) [
      | inl there ↦ clash c.code d.code code mine there apart
      | inr other ↦ not-first c ds code more (rw other at was) mine
    ]

-- a custodian of the old register with other blocks
record Changed (old grown : RegisterValue) : Type 0 where
  code : ℕ
  was : knows old code ≡ true
  differ : blocks_of grown code ≢ blocks_of old code

one-changed : (old grown : RegisterValue) → has_own_codes old ≡ true → keeps_custodians old grown ≡ true → keeps_blocks old grown ≡ false → Changed old grown
one-changed [] grown codes kept e = cc e
one-changed (c ∷ cs) grown codes kept e =
    let (own, others) = and_parts (list_all (λ (d : CustodianValue). not (c.code == d.code)) cs) (has_own_codes cs) codes in
    let (first, more) = and_parts (knows grown c.code) (keeps_custodians cs grown) kept in
    elim (and_cases (has_blocks grown c) (keeps_blocks cs grown) e) [
      | inl changed ↦ record {
        code = c.code;
        was = here c cs;
        differ = λ p. has-not (custodian_of grown c.code) c.own first changed (p ∙ own-here c cs);
      }
      | inr later ↦
          let found = one-changed cs grown others more later in
          elim (cases_Bool (c.code == found.code)) [
            | inl mine ↦ absurd (not-first c cs found.code own found.was mine)
            | inr other ↦ record {
              code = found.code;
              was = further c cs found.code found.was;
              differ = λ p. found.differ (rw other at p);
            }
          ]
    ]

-- ---- the laws

pub grows : (old grown : RegisterValue) → keeps_custodians old grown ≡ true → keeps_blocks old grown ≡ true → Extends old grown
grows old grown kept same = record { custodians = custodians-stay old grown kept; blocks = blocks-stay old grown same }

none-lost : (old grown : RegisterValue) → ((code : ℕ) → knows old code ≡ true → knows grown code ≡ true) → LosesCustodian old grown → ⊥
none-lost old grown stay lost = true≢false (sym (stay lost.code lost.was) ∙ lost.gone)

pub growth-tells : GrowthTells
growth-tells old grown lawful = elim (cases_Bool (keeps_custodians old grown)) [
  | inl kept ↦
      let stay = custodians-stay old grown kept in
      elim (cases_Bool (keeps_blocks old grown)) [
        | inl alike ↦ rw (kept, alike) (
          (λ e. grows old grown kept alike, λ x. refl),
          (λ e. cc e, λ lost. absurd (none-lost old grown stay lost)),
          (λ e. cc e, λ changes. absurd (changes.differ (blocks-stay old grown alike changes.code changes.was))),
        )
        | inr changed ↦
            let found = one-changed old grown (codes-own old lawful.codes_rise) kept changed in
            rw (kept, changed) (
              (λ e. cc e, λ x. absurd (found.differ (x.blocks found.code found.was))),
              (λ e. cc e, λ lost. absurd (none-lost old grown stay lost)),
              (λ e. record { stay = stay; code = found.code; was = found.was; differ = found.differ }, λ x. refl),
            )
      ]
  | inr removed ↦
      let found = one-lost old grown removed in
      rw removed (
        (λ e. cc e, λ x. absurd (none-lost old grown x.custodians found)),
        (λ e. found, λ x. refl),
        (λ e. cc e, λ changes. absurd (none-lost old grown changes.stay found)),
      )
]

pub extends-composes : ExtendsComposes
extends-composes = record {
  itself = λ r. record { custodians = λ code was. was; blocks = λ code was. refl };
  twice = λ r s t a b. record {
    custodians = λ code was. b.custodians code (a.custodians code was);
    blocks = λ code was. b.blocks code (a.custodians code was) ∙ a.blocks code was;
  };
}

-- who has a number is a custodian
holder-known : (kind : Blocks → List (ℕ × ℕ)) (o : Option CustodianValue) (n : ℕ) → kind no_blocks ≡ [] → within (kind (own_of o)) n ≡ true → is_some o ≡ true
holder-known kind None n none e = cc (rw none at e)
holder-known kind (Some c) n none e = refl

allotted-stays : (kind : Blocks → List (ℕ × ℕ)) → kind no_blocks ≡ [] → (old grown : RegisterValue) → Extends old grown → (code n : ℕ)
    → within (kind (blocks_of old code)) n ≡ true → within (kind (blocks_of grown code)) n ≡ true
allotted-stays kind none old grown x code n e =
    ap (λ (b : Blocks). within (kind b) n) (x.blocks code (holder-known kind (custodian_of old code) n none e)) ∙ e

pub all-allotted-stays : AllottedStays
all-allotted-stays = record {
  uprn = allotted-stays (λ b. b.uprn) refl;
  usrn = allotted-stays (λ b. b.usrn) refl;
  same_uprn = λ old grown x code n was. ap (λ (b : Blocks). within b.uprn n) (x.blocks code was);
  same_usrn = λ old grown x code n was. ap (λ (b : Blocks). within b.usrn n) (x.blocks code was);
}

pub owners-stay : OwnersStay
owners-stay old grown lawful grown-lawful x code n =
    let (uprn, usrn) = one-owner old lawful code n in
    let (uprn', usrn') = one-owner grown grown-lawful code n in (
      λ e. uprn'.0 (allotted-stays (λ b. b.uprn) refl old grown x code n (uprn.1 e)),
      λ e. usrn'.0 (allotted-stays (λ b. b.usrn) refl old grown x code n (usrn.1 e)),
    )

pub codes-stay : CodesStay
codes-stay old grown x code = (
  x.custodians code,
  λ e. elim (cases_Bool (knows old code)) [
    | inl was ↦ rw (x.custodians code was) refl
    | inr other ↦ cc (rw other at e)
  ],
)
