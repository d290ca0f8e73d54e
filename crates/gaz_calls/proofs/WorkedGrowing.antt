-- Worked examples on what is told where a store's register grows.
use Rattle.std.proofs.Common.{◌≡◌, inl, inr, pos, [], ◌∷◌, refl, sym, ap, subst}
use Rattle.std.specs.Prelude.{codes}
use Rattle.sqlite.specs.Order.{Row}
use Rattle.sqlite.specs.declared.types.Value.TheVariants.{Int, Null, Text}
use Rattle.gaz_tables.specs.Metas.{IsFirst, id_of, register_of}
use Rattle.gaz_calls.specs.WorkedGrowing.{WorkedGrowing, WorkedRows, first_text, of_id_2, second_text}

-- the row of id 2 isn't that of id 1
not_first : ¬ IsFirst of_id_2
not_first e = let f : Int (pos 2) ≡ Int (pos 1) = e in absurd (cc)

-- nor is the one text the other
apart : ¬ (second_text ≡ first_text)
apart e = let f = ap register_of e in absurd (cc)

-- nor the one row the other
not_same : ¬ (of_id_2 ≡ second_text)
not_same e = let f : Int (pos 2) ≡ Int (pos 1) = ap id_of e in absurd (cc)

-- what the row becomes
abbrev made : Row → Row
made s = id_of s ∷ Null ∷ Int (pos 2) ∷ Text (codes "AB") ∷ []

worked_rows : WorkedRows
worked_rows = record {
  gets_it = record {
    only = λ r there. elim there [ inl is ↦ inr (first_text, inl refl, refl, is) | inr none ↦ absurd none ];
    done = λ s there first. elim there [ inl is ↦ inl (ap made is) | inr none ↦ absurd none ];
    kept = λ r there other. elim there [ inl is ↦ absurd (other (subst IsFirst (sym is) refl)) | inr none ↦ absurd none ];
  };
  alone = record {
    only = λ r there. elim there [
      | inl is ↦ inr (first_text, inl refl, refl, is)
      | inr more ↦ elim more [ inl is ↦ inl (inr (inl is), λ first. not_first (subst IsFirst is first)) | inr none ↦ absurd none ]
    ];
    done = λ s there first. elim there [
      | inl is ↦ inl (ap made is)
      | inr more ↦ elim more [ inl is ↦ absurd (not_first (subst IsFirst is first)) | inr none ↦ absurd none ]
    ];
    kept = λ r there other. elim there [
      | inl is ↦ absurd (other (subst IsFirst (sym is) refl))
      | inr more ↦ inr more
    ];
  };
  stays = λ h. elim (h.done first_text (inl refl) refl) [ inl is ↦ apart is | inr none ↦ none ];
  gone = λ h. elim (h.kept of_id_2 (inr (inl refl)) not_first) [ inl is ↦ not_same is | inr none ↦ none ];
}

pub worked_growing : WorkedGrowing
worked_growing = record {
  failure = refl;
  refusal = refl;
  done = refl;
  failed = refl;
  gone = refl;
  removed = refl;
  changed = refl;
  not_changed = λ e. cc e;
  then_grown = refl;
  then_old = refl;
  on_rows = worked_rows;
}
