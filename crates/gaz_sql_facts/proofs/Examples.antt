-- What the definitions come to on worked examples.
use Rattle.std.proofs.Common.{◌≡◌, ◌⊎◌, inl, inr, ℕ, ℤ, pos, Bool, true, false, List, [], ◌∷◌, refl, sym, ap, subst, ◌∙◌, arith}
use Rattle.std.specs.Prelude.{◌==◌, length}
use Rattle.sqlite_rules.specs.Lists.{Has}
use Rattle.sqlite.specs.Change.{next_tree}
use Rattle.sqlite.specs.declared.types.Value.TheVariants.{Int}
use Rattle.sqlite.specs.Effect.{Database}
use Rattle.sqlite.specs.Order.{Row}
use Rattle.gaz_sql_facts.specs.Examples.{AreCopiedNotes, WorkedCopies, WorkedEmptied, WorkedGains, WorkedExamples}
use Rattle.gaz_sql_facts.specs.Samples.{archived, ice, lent_jam, never_lent, note, note_schema, notes, old_ice, old_tea, tea, tea_again, two_notes}
use Rattle.gaz_sql_facts.proofs.StandingExamples.{copy_texts, making, simple, standing}

clash : {A : Type 0} → false ≡ true → A
clash e = absurd (cc)

-- whether it is a row of this rowid
abbrev numbered : ℕ → Row → Bool
numbered n (Int (pos m) ∷ r) = m == n
numbered n r = false

-- of each note the row that it is copied to, at its place among some rows
copied_to : (new : List Row) → Has new old_tea → Has new old_ice → (s : Row) → Has two_notes s → (n : ℤ) × Has new (Int n ∷ never_lent s)
copied_to new first second s (inl is) = (pos 2, subst (λ r. Has new (Int (pos 2) ∷ never_lent r)) (sym is) first)
copied_to new first second s (inr (inl is)) = (pos 3, subst (λ r. Has new (Int (pos 3) ∷ never_lent r)) (sym is) second)
copied_to new first second s (inr (inr never)) = absurd never

abbrev Came : Row → Type 0
Came r = (s : Row) × Has two_notes s × ((n : ℤ) × (r ≡ Int n ∷ never_lent s))

came_tea : (r : Row) → r ≡ old_tea → Came r
came_tea r is = (tea, inl refl, (pos 2, is))

came_ice : (r : Row) → r ≡ old_ice → Came r
came_ice r is = (ice, inr (inl refl), (pos 3, is))

copied : AreCopiedNotes [] (old_tea ∷ old_ice ∷ [])
copied = record {
  only = λ r there. elim there [
    | inl is ↦ inr (came_tea r is)
    | inr more ↦ elim more [ inl is ↦ inr (came_ice r is) | inr never ↦ absurd never ]
  ];
  done = copied_to (old_tea ∷ old_ice ∷ []) (inl refl) (inr (inl refl));
  kept = λ r never. absurd never;
  each_once = refl;
}

in_any_order : AreCopiedNotes [] (old_ice ∷ old_tea ∷ [])
in_any_order = record {
  only = λ r there. elim there [
    | inl is ↦ inr (came_ice r is)
    | inr more ↦ elim more [ inl is ↦ inr (came_tea r is) | inr never ↦ absurd never ]
  ];
  done = copied_to (old_ice ∷ old_tea ∷ []) (inr (inl refl)) (inl refl);
  kept = λ r never. absurd never;
  each_once = refl;
}

beside_a_row : AreCopiedNotes (lent_jam ∷ []) (lent_jam ∷ old_tea ∷ old_ice ∷ [])
beside_a_row = record {
  only = λ r there. elim there [
    | inl is ↦ inl (inl is)
    | inr more ↦ elim more [
      | inl is ↦ inr (came_tea r is)
      | inr last ↦ elim last [ inl is ↦ inr (came_ice r is) | inr never ↦ absurd never ]
    ]
  ];
  done = copied_to (lent_jam ∷ old_tea ∷ old_ice ∷ []) (inr (inl refl)) (inr (inr (inl refl)));
  kept = λ r there. elim there [ inl is ↦ inl is | inr never ↦ absurd never ];
  each_once = refl;
}

-- the jam is none of three rows that have other rowids
no_jam : ¬ Has (old_tea ∷ old_ice ∷ tea_again ∷ []) lent_jam
no_jam (inl is) = clash (ap (numbered 2) is)
no_jam (inr (inl is)) = clash (ap (numbered 3) is)
no_jam (inr (inr (inl is))) = clash (ap (numbered 4) is)
no_jam (inr (inr (inr never))) = absurd never

-- a note as it stood has one value too few
as_it_stood : Has [] tea ⊎ Came tea → ⊥
as_it_stood (inl never) = absurd never
as_it_stood (inr came) = let short : 5 ≡ 6 = ap length came.2.1 in omega (arith, short)

copies : WorkedCopies
copies = record {
  copied = copied;
  in_any_order = in_any_order;
  beside_a_row = beside_a_row;
  not_one_alone = λ it. let short : 1 ≡ 2 = it.each_once in omega (arith, short);
  not_one_twice = λ it. let long : 3 ≡ 2 = it.each_once in omega (arith, long);
  not_over_a_row = λ it. no_jam (it.kept lent_jam (inl refl));
  not_as_it_stood = λ it. as_it_stood (it.only tea (inl refl));
}

some_row : (rows : List Row) (r : Row) → rows ≡ [] → rows ≡ r ∷ [] → ⊥
some_row rows r none one = let both : [] ≡ r ∷ [] = sym none ∙ one in absurd (cc)

emptied : WorkedEmptied
emptied = record { emptied = refl; was_empty = refl; not_with_one_left = λ none. some_row (ice ∷ []) ice none refl }

has_note : (db : Database) → db.schema ≡ note_schema → Has db.schema.tables note
has_note db is = subst (λ s. Has s.tables note) (sym is) (inl refl)

-- no two rows are one, or none
fewer : (n : ℕ) (rows other : List Row) → other ≡ rows → rows ≡ two_notes → length other ≡ n → 2 ≡ n
fewer n rows other same two is = sym (ap length (same ∙ two)) ∙ is

gains : WorkedGains
gains = record {
  archive_is_last = refl;
  index_is_last = refl;
  not_with_a_row = λ old new is one it. some_row (new.trees archived) old_tea (subst (λ s. new.trees (next_tree s) ≡ []) is it.empty) one;
  not_without_a_note = λ old new is two one it.
      let wrong = fewer 1 (old.trees notes) (new.trees notes) (it.others note (has_note old is)) two (ap length one) in omega (arith, wrong);
  index_loses_no_note = λ old new is two none it.
      let first : Has old.schema.tables note = subst (λ s. Has s.tables note) (sym is) (inl refl) in
      let wrong = fewer 0 (old.trees notes) (new.trees notes) (it.others note first) two (ap length none) in omega (arith, wrong);
}

pub worked_examples_hold : WorkedExamples
worked_examples_hold = record { on_copies = copies; on_emptied = emptied; on_gains = gains; on_standing = standing; on_simple = simple; on_copy_texts = copy_texts; on_making = making }
