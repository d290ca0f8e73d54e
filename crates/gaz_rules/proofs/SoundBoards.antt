-- Each view of a board is sound where each was before its last judgement.
use Rattle.std.proofs.Common.{◌≡◌, ◌≢◌, ◌≤◌, ℕ, zero, suc, true, false, cond, not, eqb, ◌&&◌, List, [], ◌∷◌, ◌++◌, map, length, refl, sym, ap, ◌∙◌, subst, is_some, arith, eqb-true}
use Rattle.std.specs.Prelude.{Some, None, slice_get}
use Rattle.std.specs.Option.{option_and_then, unwrap_or}
use Rattle.std.specs.List.{All, find}
use Rattle.std.specs.FinMap as fin
use Rattle.std.proofs.lemmas.List.Elements.{All-cons, All-nil}
use Rattle.gaz_changefile.specs.Reading.{Reading}
use Rattle.gaz_changefile.specs.declared.change.Basis.{Basis}
use Rattle.gaz_records.specs.Keys.{key_cmp}
use Rattle.gaz_records.specs.declared.item.Item.TheVariants as item
use Rattle.gaz_records.specs.declared.key.Key.{Key}
use Rattle.gaz_records.specs.declared.key.Key.TheVariants as key
use Rattle.gaz_register.proofs.Ownership.{one-owner}
use Rattle.gaz_register.specs.Registers.{Blocks, IsRegister, Owners, RegisterValue, blocks_of, within}
use Rattle.gaz_views.specs.View.{View, empty_view, holds}
use Rattle.gaz_views.specs.Words.{approved_of, approved_on, blpu_named, has_children, tied}
use Rattle.gaz_keeper.specs.Board.{Board, Judgement, adds, empty_board, last_view, reached, view_after}
use Rattle.gaz_end_rules.specs.EndRules.{ancestor, approved_at, as_approved, as_blpu, closed_under_lpi, lacks_blpu, lacks_own_street, lacks_parent, leaves_lpi, leaves_parts, leaves_ties, parent_of, past_under_lpi}
use Rattle.gaz_end_rules.specs.Bases.{basis_views}
use Rattle.gaz_rules.specs.Judging.{bases_of, judge, judged_on}
use Rattle.gaz_rules.specs.Sound.{AreDisjoint, AreSoundBases, IsSound, IsSoundBasis, IsSoundBoard, NamesOthers}
use Rattle.gaz_rules.specs.Laws.{BoardsStaySound, StaysSound}
use Rattle.gaz_end_rules.proofs.Approved.{on_gives, some_gives}
use Rattle.gaz_end_rules.proofs.Elements.{all_first, all_rest}
use Rattle.gaz_rules.proofs.Judged.{judge_sound}
use Rattle.gaz_end_rules.proofs.Ties.{parts_gives, tied_gives}
use Rattle.gaz_end_rules.proofs.Booleans.{and_false, both_false, both_parts, fails_none, false_by, no_false, passes_some}

-- ---- the empty view

nothing : (k : Key) → fin.get empty_view.items k ≡ None
unfolding empty_view
nothing k = fin.get-empty key_cmp k

unapproved : (k : Key) → approved_at empty_view k ≡ None
unapproved k = ap (option_and_then as_approved) (nothing k)

pub unheld : (k : Key) → holds empty_view k ≡ false
unheld k = ap is_some (nothing k)

-- no approved LPI is there, of a BLPU or on a street
none_of : (uprn : ℕ) → not (eqb (length (approved_of empty_view uprn)) 0) ≡ false
none_of uprn = false_by _ (λ h. let m = some_gives empty_view uprn h in let no : Some m.lpi ≡ None = sym m.at ∙ unapproved m.key in cc)

none_on : (usrn : ℕ) (lang : _) → approved_on empty_view usrn lang ≡ false
none_on usrn lang = false_by _ (λ h. let m = on_gives empty_view usrn lang h in let no : Some m.lpi ≡ None = sym m.at ∙ unapproved m.key in cc)

no_descriptor_left : (k : Key) → leaves_lpi empty_view k ≡ false
no_descriptor_left (key.Street n) = refl
no_descriptor_left (key.Descriptor n lang) = and_false _ _ (none_on n (Some lang))
no_descriptor_left (key.Blpu n) = refl
no_descriptor_left (key.Xref text) = refl
no_descriptor_left (key.Lpi text) = refl

no_parent : (k : Key) → lacks_parent empty_view k ≡ false
no_parent (key.Street n) = refl
no_parent (key.Descriptor n lang) = refl
no_parent (key.Blpu n) = fails_none _ _ (ap (option_and_then (λ b. b.parent)) (ap (option_and_then as_blpu) (nothing (key.Blpu n))))
no_parent (key.Xref text) = refl
no_parent (key.Lpi text) = refl

no_past : (k : Key) → past_under_lpi empty_view k ≡ false
no_past (key.Street n) = refl
no_past (key.Descriptor n lang) = refl
no_past (key.Blpu n) = and_false _ _ (none_of n)
no_past (key.Xref text) = refl
no_past (key.Lpi text) = refl

no_own_street : (k : Key) → lacks_own_street empty_view k ≡ false
no_own_street (key.Street n) = refl
no_own_street (key.Descriptor n lang) = ap (λ b. b && not (holds empty_view (key.Street n))) (unheld (key.Descriptor n lang))
no_own_street (key.Blpu n) = refl
no_own_street (key.Xref text) = refl
no_own_street (key.Lpi text) = refl

no_closed : (k : Key) → closed_under_lpi empty_view k ≡ false
no_closed (key.Street n) = and_false _ _ (none_on n None)
no_closed (key.Descriptor n lang) = refl
no_closed (key.Blpu n) = refl
no_closed (key.Xref text) = refl
no_closed (key.Lpi text) = refl

no_ancestor : (uprn steps : ℕ) → 1 ≤ steps → ancestor empty_view steps uprn ≢ Some uprn
no_ancestor uprn zero h e = absurd (omega arith)
no_ancestor uprn (suc steps) h e =
    let none : ancestor empty_view (suc steps) uprn ≡ None = ap (option_and_then (ancestor empty_view steps)) (ap (option_and_then (λ b. b.parent)) (ap (option_and_then as_blpu) (nothing (key.Blpu uprn)))) in
    let no : Some uprn ≡ None = sym e ∙ none in cc

pub empty_sound : (own : Blocks) → IsSound own empty_view
empty_sound own =
    record {
      keyed = λ k i e. let no : Some i ≡ None = sym e ∙ nothing k in cc;
      used = λ k h. no_false _ h (unheld k);
      one_approved = λ k. fails_none _ _ (unapproved k);
      blpu_there = λ k. fails_none _ _ (ap (option_and_then blpu_named) (nothing k));
      street_open = λ k. fails_none _ _ (unapproved k);
      described = λ k. both_false _ _ (fails_none _ _ (unapproved k)) (no_descriptor_left k);
      parent_there = no_parent;
      no_ring = no_ancestor;
      up_to_date = λ k. both_false _ _ (fails_none _ _ (unapproved k)) (no_past k);
      street_there = no_own_street;
      open_under_lpi = no_closed;
      own_streets = λ n h. no_false _ h (unheld (key.Street n));
      own_named = λ k l e. let no : Some l ≡ None = sym e ∙ unapproved k in cc;
    }

-- ---- basis views

-- none of them has a street of the own blocks
foreign_views : (own : Owners) (c : ℕ) (out : List (ℕ × View)) → AreDisjoint own → AreSoundBases own c out → (usrn : ℕ) → within (own c).usrn usrn ≡ true → find (λ u. holds u (key.Street usrn)) (map (λ (b : ℕ × View). b.1) out) ≡ None
foreign_views own c [] apart sound usrn ours = refl
foreign_views own c (b ∷ out) apart sound usrn ours =
    let is = all_first (IsSoundBasis own c) b out sound in
    let gone : holds b.1 (key.Street usrn) ≡ false = false_by _ (λ h. is.of_another (sym (apart c b.0 usrn ours (is.sound.own_streets usrn h)))) in
    ap (λ t. cond t (Some b.1) (find (λ u. holds u (key.Street usrn)) (map (λ (e : ℕ × View). e.1) out))) gone
    ∙ foreign_views own c out apart (all_rest (IsSoundBasis own c) b out sound) usrn ours

pub sound_after_file : (own : Owners) (c : ℕ) (v : View) (out : List (ℕ × View)) (r : Reading) → AreDisjoint own → IsSound (own c) v → AreSoundBases own c out → IsSound (own c) (judge c (own c) v out r).view
sound_after_file own c v out r apart sound bases = judge_sound c (own c) v out r sound (record { none = foreign_views own c out apart bases })

-- ---- the second halves of two rules

no_ties : (own : Blocks) (v : View) (k : Key) → IsSound own v → leaves_ties v k ≡ false
no_ties own v (key.Blpu uprn) sound =
    false_by _ (λ broken.
    let parts = both_parts (not (holds v (key.Blpu uprn))) (tied v uprn) broken in
    let tie = tied_gives v uprn parts.1 in
    no_false (lacks_blpu v tie.key)
    (passes_some (option_and_then blpu_named (fin.get v.items tie.key)) _ uprn (ap (option_and_then blpu_named) tie.there ∙ tie.names) parts.0)
    (sound.blpu_there tie.key))
no_ties own v (key.Street n) sound = refl
no_ties own v (key.Descriptor n l) sound = refl
no_ties own v (key.Xref t) sound = refl
no_ties own v (key.Lpi t) sound = refl

no_parts : (own : Blocks) (v : View) (k : Key) → IsSound own v → leaves_parts v k ≡ false
no_parts own v (key.Blpu uprn) sound =
    false_by _ (λ broken.
    let parts = both_parts (not (holds v (key.Blpu uprn))) (has_children v uprn) broken in
    let part = parts_gives v uprn parts.1 in
    let its = part.blpu.uprn in
    let there : fin.get v.items (key.Blpu its) ≡ Some (item.Blpu part.blpu) = ap (fin.get v.items) (sound.keyed part.key (item.Blpu part.blpu) part.there) ∙ part.there in
    no_false (lacks_parent v (key.Blpu its))
    (passes_some (parent_of v its) _ uprn (ap (λ o. option_and_then (λ b. b.parent) (option_and_then as_blpu o)) there ∙ part.is_part) parts.0)
    (sound.parent_there (key.Blpu its)))
no_parts own v (key.Street n) sound = refl
no_parts own v (key.Descriptor n l) sound = refl
no_parts own v (key.Xref t) sound = refl
no_parts own v (key.Lpi t) sound = refl

pub stays_sound_holds : StaysSound
stays_sound_holds = record {
  empty = empty_sound;
  after_file = sound_after_file;
  whole = λ own v k sound. (both_false _ _ (sound.blpu_there k) (no_ties own v k sound), both_false _ _ (sound.parent_there k) (no_parts own v k sound));
}

-- ---- a board

module _ (P : ℕ → View → Type 0) (at_first : (c : ℕ) → P c empty_view) where
  abbrev EachView : ℕ → List Judgement → Type 0
  EachView c js = (n : ℕ) → P c (unwrap_or (slice_get (map (λ j. j.view) js) n) empty_view)

  list_pushed : (c : ℕ) (js : List Judgement) (j : Judgement) → EachView c js → P c j.view → EachView c (js ++ j ∷ [])
  list_pushed c [] j all good zero = good
  list_pushed c [] j all good (suc n) = at_first c
  list_pushed c (x ∷ xs) j all good zero = all 0
  list_pushed c (x ∷ xs) j all good (suc n) = list_pushed c xs j (λ m. all (suc m)) good n

  of_lists : (B : Board) → ((c : ℕ) → EachView c (B c)) → (c volume : ℕ) → P c (view_after B c volume)
  of_lists B all c zero = at_first c
  of_lists B all c (suc n) = all c n

  -- what holds of the empty view holds of each view of the board without judgements
  pub on_empty_board : (c volume : ℕ) → P c (view_after empty_board c volume)
  on_empty_board = of_lists empty_board (λ c n. at_first c)

  -- and what holds of each view of a board and of one more judgement's holds of each view after it
  pub on_more : (B : Board) (c : ℕ) (j : Judgement) → ((d volume : ℕ) → P d (view_after B d volume)) → P c j.view → (d volume : ℕ) → P d (view_after (adds B c j) d volume)
  on_more B c j all good =
      of_lists (adds B c j) (λ d. elim (eqb d c) as (λ b. eqb d c ≡ b → EachView d (cond b (B d ++ j ∷ []) (B d))) [
        | true ↦ λ e. list_pushed d (B d) j (λ n. all d (suc n)) (subst (λ k. P k j.view) (sym (eqb-true d c e)) good)
        | false ↦ λ _ n. all d (suc n)
      ] refl)

-- the views on which basis lines rest are sound and of others
basis_sound : (own : Owners) (B : Board) (c : ℕ) (bases : List Basis) → IsSoundBoard own B → All (λ d. d.custodian ≢ c) bases → AreSoundBases own c (basis_views B bases)
basis_sound own B c [] sound others = All-nil (IsSoundBasis own c)
basis_sound own B c (d ∷ bases) sound others =
    let first : IsSoundBasis own c (d.custodian, view_after B d.custodian d.volume) =
    record { of_another = all_first (λ (b : Basis). b.custodian ≢ c) d bases others; sound = sound d.custodian d.volume } in
    All-cons (IsSoundBasis own c) _ _ first (basis_sound own B c bases sound (all_rest (λ (b : Basis). b.custodian ≢ c) d bases others))

pub board_after_file : (own : Owners) (B : Board) (c : ℕ) (r : Reading) → AreDisjoint own → NamesOthers c r → IsSoundBoard own B → IsSoundBoard own (adds B c (judged_on (own c) B c r))
board_after_file own B c r apart others sound =
    let j = judged_on (own c) B c r in
    let good : IsSound (own c) j.view = sound_after_file own c (last_view B c) (basis_views B (bases_of r)) r apart (sound c (reached B c)) (basis_sound own B c (bases_of r) sound others) in
    on_more (λ d. IsSound (own d)) (λ d. empty_sound (own d)) B c j sound good

-- the blocks of a register are disjoint: a number in them has one owner
pub register_disjoint : (register : RegisterValue) → IsRegister register → AreDisjoint (blocks_of register)
register_disjoint register is c d usrn mine its =
    let a = (one-owner register is c usrn).1.0 mine in
    let b = (one-owner register is d usrn).1.0 its in
    let same : Some c ≡ Some d = sym a ∙ b in cc

pub boards_stay_sound_holds : BoardsStaySound
boards_stay_sound_holds =
    record {
      empty = λ own. on_empty_board (λ c. IsSound (own c)) (λ c. empty_sound (own c));
      after_file = board_after_file;
      of_register = register_disjoint;
    }
