-- What a look at a custodian's next volume finds.
use Rattle.std.proofs.Common.{◌≡◌, ◌≤◌, ◌<◌, ◌+◌, ℕ, suc, Bool, true, false, cond, not, ◌&&◌, List, [], ◌∷◌, drop, length, get_or, refl, sym, ap, ◌∙◌, subst, arith, leb-true, le-leb}
use Rattle.std.proofs.Math.Seq.{drop-cons}
use Rattle.std.proofs.lemmas.List.{drop_all}
use Rattle.std.specs.Prelude.{nat_le, Some, None}
use Rattle.std.specs.Option.{option_map}
use Rattle.std.specs.FinMap as map
use Rattle.gaz_changefile.specs.Contents.{Contents}
use Rattle.gaz_changefile.specs.Reading.{Good, Bad, Reading, reading}
use Rattle.gaz_changefile.specs.declared.change.Basis.{Basis}
use Rattle.gaz_keeper.specs.Board.{Board, reached}
use Rattle.gaz_keeper.specs.Received.{Received}
use Rattle.gaz_end_rules.specs.Bases.{are_reached}
use Rattle.gaz_rules.specs.Judging.{bases_of}
use Rattle.gaz_steps.specs.Outcomes.{first_unreached, wants}
use Rattle.gaz_hub.specs.Settling.{IsNext, IsReadAs, want_of}
use Rattle.gaz_steps.specs.Standing.{next_reading, ready}
use Rattle.gaz_hub.specs.declared.looking.Next.{Next}
use Rattle.gaz_hub.specs.declared.looking.Next.TheVariants as next
use Rattle.gaz_steps.proofs.Looks.{IsFile, ready_as, wants_for}

-- ---- basis lines

-- the basis line at a place, and those behind it
left_at : (bases : List Basis) (i : ℕ) (d : Basis) → i < length bases → d ≡ get_or bases i d → drop i bases ≡ d ∷ drop (i + 1) bases
left_at bases i d below is =
    let e : suc i ≡ i + 1 = omega arith in
    drop-cons bases i d below ∙ (λ j. sym is j ∷ drop (e j) bases)

-- one that is reached is passed over
pub passes_over : (B : Board) (bases : List Basis) (i : ℕ) (d : Basis) → i < length bases → d ≡ get_or bases i d → d.volume ≤ reached B d.custodian
    → first_unreached B (drop (i + 1) bases) ≡ first_unreached B (drop i bases)
passes_over B bases i d below is h =
    sym (ap (first_unreached B) (left_at bases i d below is)
    ∙ ap (λ b. cond (not b) (Some d) (first_unreached B (drop (i + 1) bases))) (le-leb d.volume (reached B d.custodian) h))

-- after the last there is none
pub finds_none : (B : Board) (bases : List Basis) (i : ℕ) → length bases ≤ i → None ≡ first_unreached B (drop i bases)
finds_none B bases i h = sym (ap (first_unreached B) (drop_all i bases h))

all_reached : (B : Board) (bases : List Basis) → first_unreached B bases ≡ None → are_reached B bases ≡ true
all_reached B [] e = refl
all_reached B (d ∷ bases) e =
    elim (nat_le d.volume (reached B d.custodian)) as (λ b. cond (not b) (Some d) (first_unreached B bases) ≡ None → (b && are_reached B bases) ≡ true) [
      | true ↦ λ t. all_reached B bases t
      | false ↦ λ t. cc
    ] e

not_all_reached : (B : Board) (bases : List Basis) (x : Basis) → first_unreached B bases ≡ Some x → are_reached B bases ≡ false
not_all_reached B [] x e = cc
not_all_reached B (d ∷ bases) x e =
    elim (nat_le d.volume (reached B d.custodian)) as (λ b. cond (not b) (Some d) (first_unreached B bases) ≡ Some x → (b && are_reached B bases) ≡ false) [
      | true ↦ λ t. not_all_reached B bases x t
      | false ↦ λ t. refl
    ] e

none_unreached : (B : Board) (bases : List Basis) → are_reached B bases ≡ true → first_unreached B bases ≡ None
none_unreached B [] e = refl
none_unreached B (d ∷ bases) e =
    elim (nat_le d.volume (reached B d.custodian)) as (λ b. (b && are_reached B bases) ≡ true → cond (not b) (Some d) (first_unreached B bases) ≡ None) [
      | true ↦ λ t. none_unreached B bases t
      | false ↦ λ t. cc
    ] e

-- ---- the next volume

file_as : (F : Received) (B : Board) (c volume : ℕ) (bytes : List ℕ) (r : Reading) → volume ≡ reached B c + 1 → volume ≤ 999999 → map.get F (c, volume) ≡ Some bytes → reading bytes c volume ≡ r → IsFile F B c r
file_as F B c volume bytes r is within came reads =
    record {
      in_range = subst (λ n. n ≤ 999999) is within;
      reads = ap (λ n. option_map (λ b. reading b c n) (map.get F (c, n))) (sym is) ∙ ap (option_map (λ b. reading b c volume)) came ∙ ap Some reads;
    }

pub next_here : (F : Received) (B : Board) (c volume : ℕ) (bytes : List ℕ) (n : Next) → volume ≡ reached B c + 1 → volume ≤ 999999 → map.get F (c, volume) ≡ Some bytes
    → IsReadAs B c volume bytes n → IsNext F B c n
next_here F B c volume bytes (next.Good v contents) is within came h =
    let file = file_as F B c volume bytes (Good contents) is within came (h.1 ∙ ap Good (sym h.2.1)) in
    (h.2.0 ∙ is, (ready_as F B c _ file ∙ all_reached B contents.bases (ap (λ (x : Contents). first_unreached B x.bases) h.2.1 ∙ h.2.2), file.reads))
next_here F B c volume bytes (next.Bad v place rule) is within came h =
    let file = file_as F B c volume bytes (Bad place rule) is within came h.1 in
    (h.0 ∙ is, (ready_as F B c _ file, file.reads))
next_here F B c volume bytes (next.Waits d w) is within came h =
    let file = file_as F B c volume bytes (Good h.0) is within came h.1 in
    (ready_as F B c _ file ∙ not_all_reached B h.0.bases _ h.2, wants_for F B c _ file ∙ ap (option_map (λ (x : Basis). (x.custodian, x.volume))) h.2)
next_here F B c volume bytes next.Done is within came h = absurd h.2

-- where it is ready it waits for nothing
pub ready_wants : (F : Received) (B : Board) (c : ℕ) (r : Reading) → ready F B c ≡ true → next_reading F B c ≡ Some r → wants F B c ≡ None
ready_wants F B c r h e =
    let file : IsFile F B c r = record { in_range = leb-true _ _ (first_part (nat_le (reached B c + 1) 999999) _ h); reads = e } in
    wants_for F B c r file ∙ ap (option_map (λ (x : Basis). (x.custodian, x.volume))) (none_unreached B (bases_of r) (sym (ready_as F B c r file) ∙ h))
  where
    first_part : (a b : Bool) → (a && b) ≡ true → a ≡ true
    first_part true b e = refl
    first_part false b e = cc

pub wanted_as : (F : Received) (B : Board) (c : ℕ) (n : Next) → IsNext F B c n → want_of n ≡ wants F B c
wanted_as F B c (next.Good volume contents) h = sym (ready_wants F B c _ h.1.0 h.1.1)
wanted_as F B c (next.Bad volume place rule) h = sym (ready_wants F B c _ h.1.0 h.1.1)
wanted_as F B c (next.Waits d volume) h = sym h.1
wanted_as F B c next.Done h = sym h.1
