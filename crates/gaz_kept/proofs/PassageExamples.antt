-- What rows of kind 92 come to on worked examples.
use Rattle.std.proofs.Common.{◌≡◌, ◌∙◌, ◌≤◌, ◌<◌, ◌⊎◌, pos, true, false, [], ◌∷◌, inl, inr, refl, sym, ap, subst, arith, is_some}
use Rattle.std.specs.Prelude.{Option, Some, None, IsSomeAnd}
use Rattle.std.specs.List.{cons_option}
use Rattle.sqlite.specs.declared.types.Value.TheVariants.{Int}
use Rattle.sqlite_rules.specs.Lists.{Has}
use Rattle.gaz_records.specs.Items.{is_item}
use Rattle.gaz_records.specs.declared.item.Item.{Item}
use Rattle.gaz_views.specs.declared.custody.Custody.TheVariants.{Released}
use Rattle.gaz_overlay.specs.Passages.{PassageRow}
use Rattle.gaz_overlay.specs.Rows.{never}
use Rattle.gaz_row_items.specs.PassageExamples.{given_row, given_up, taken_back, without_hop}
use Rattle.gaz_row_items.specs.Versions.{passages_in}
use Rattle.gaz_row_items.proofs.CustodyFollows.{no_item, no_passage}
use Rattle.gaz_row_items.proofs.PassageSaid.{says_passage}
use Rattle.gaz_row_items.proofs.PassageExamples.{both, passages_1001}
use Rattle.gaz_kept.specs.Kept.{ArePassages, IsFollowed, IsPassedUntil, IsVersion}
use Rattle.gaz_kept.specs.PassageExamples.{WorkedRows, passed_by}
use Rattle.gaz_kept.specs.Passages.{IsLastOf}
use Rattle.gaz_kept.proofs.PassageStatements.{written_passage}
use Rattle.gaz_kept.proofs.RowsRead.{of_custodian}

-- ---- the rows

no_hop : ¬ IsVersion without_hop
no_hop (inl v) = absurd (subst (λ (o : Option Item). IsSomeAnd o (λ x. is_item x ≡ true)) (no_item without_hop refl) v.item)
no_hop (inr v) = let clash : false ≡ true = sym (ap is_some (no_passage without_hop refl)) ∙ v.passage in absurd (cc)

no_code_0 : ¬ IsVersion (passed_by 0)
no_code_0 v = let le : 1 ≤ 0 = (of_custodian (passed_by 0) v).0 in absurd (omega arith)

no_code_10000 : ¬ IsVersion (passed_by 10000)
no_code_10000 v = let le : 10000 ≤ 9999 = (of_custodian (passed_by 10000) v).1 in absurd (omega arith)

-- each of the two rows
by_row : (P : PassageRow → Type 0) → P given_up → P taken_back → (p : PassageRow) → Has both p → P p
by_row P one two p (inl is) = subst P (sym is) one
by_row P one two p (inr (inl is)) = subst P (sym is) two
by_row P one two p (inr (inr none)) = absurd none

pairs : (P : PassageRow → PassageRow → Type 0) → P given_up given_up → P given_up taken_back → P taken_back given_up → P taken_back taken_back → (a b : PassageRow) → Has both a → Has both b → P a b
pairs P one two three four a b ha hb = by_row (λ a. P a b) (by_row (P given_up) one two b hb) (by_row (P taken_back) three four b hb) a ha

are_both : ArePassages 3 both
are_both = record {
  until = by_row (IsPassedUntil 3) (record { born = omega arith; gone = inl (omega arith); lasts = omega arith }) (record { born = omega arith; gone = inr refl; lasts = omega arith });
  once = λ a b ha hb. pairs (λ a b. a.uprn ≡ b.uprn → a.born ≡ b.born → a ≡ b) (λ n e. refl) (λ n e. absurd (omega (arith, e))) (λ n e. absurd (omega (arith, e))) (λ n e. refl) a b ha hb;
  in_turn = λ a b ha hb. pairs (λ a b. a.uprn ≡ b.uprn → a.born < b.born → a.gone ≤ b.born) (λ n e. absurd (omega (arith, e))) (λ n e. omega arith) (λ n e. absurd (omega (arith, e))) (λ n e. absurd (omega (arith, e))) a b ha hb;
  goes_on = by_row (λ p. (p.gone ≡ never) ⊎ IsFollowed both p) (inr (record { next = taken_back; there = inr (inl refl); of_number = refl; born = refl })) (inl refl);
}

lapses : ¬ ArePassages 3 (given_up ∷ [])
lapses are = elim (are.goes_on given_up (inl refl)) [
  | inl current ↦ absurd (omega (arith, current))
  | inr f ↦ by_next f f.there
]
  where
    by_next : (f : IsFollowed (given_up ∷ []) given_up) → (f.next ≡ given_up) ⊎ ⊥ → ⊥
    by_next f (inl is) = let e : f.next.born ≡ 1 = ap (λ (p : PassageRow). p.born) is in let b = f.born in absurd (omega (arith, e, b))
    by_next f (inr none) = none

given_1001 : passages_in (given_row ∷ []) 1001 ≡ given_up ∷ []
given_1001 = λ i. cons_option (says_passage (Int (pos 5)) 1001 1 3 500 (Released 1002 1) refl refl i) []

pub rows_hold : WorkedRows
rows_hold = record {
  version = inr (written_passage (Int (pos 5)) 1001 1 3 500 (Released 1002 1) (omega arith, omega arith) refl refl (omega arith) (omega arith));
  hop_0 = no_hop;
  code_0 = no_code_0;
  code_9999 = inr (written_passage (Int (pos 5)) 9999 1 3 500 (Released 1002 1) (omega arith, omega arith) refl refl (omega arith) (omega arith));
  code_10000 = no_code_10000;
  through_3 = subst (ArePassages 3) (sym passages_1001) are_both;
  lapses = λ are. lapses (subst (ArePassages 3) given_1001 are);
  last_by_2 = subst (λ ps. IsLastOf 2 ps 500 (Some given_up)) (sym passages_1001) (record {
    there = inl refl;
    of_number = refl;
    born = omega arith;
    last = by_row (λ r. r.uprn ≡ 500 → r.born ≤ 2 → r.born ≤ 1) (λ n e. omega arith) (λ n e. absurd (omega (arith, e)));
  });
  last_by_3 = subst (λ ps. IsLastOf 3 ps 500 (Some taken_back)) (sym passages_1001) (record {
    there = inr (inl refl);
    of_number = refl;
    born = omega arith;
    last = by_row (λ r. r.uprn ≡ 500 → r.born ≤ 3 → r.born ≤ 3) (λ n e. omega arith) (λ n e. omega arith);
  });
  none_of_501 = subst (λ ps. IsLastOf 3 ps 501 None) (sym passages_1001) (by_row (λ r. r.uprn ≡ 501 → ¬ (r.born ≤ 3)) (λ n e. absurd (omega (arith, n))) (λ n e. absurd (omega (arith, n))));
}
