-- From what a SELECT over one table answers to what it answers by value.
use Rattle.std.proofs.Common.{◌≡◌, inl, inr, ℕ, ℤ, true, List, [], ◌∷◌, Option, None, Some, Ok, Err, Result, IfOk, Vec, refl, sym, subst, ◌∙◌}
use Rattle.std.specs.declared.alloc.Global.{Global}
use Rattle.sqlite_value.specs.declared.keys.Key.{Key}
use Rattle.sqlite_value.specs.declared.value.Value.TheVariants.{Int}
use Rattle.sqlite_value.specs.Order.{Row, column}
use Rattle.sqlite_rules.specs.Lists.{Has}
use Rattle.sqlite_sql.specs.Term.{Term, col}
use Rattle.sqlite.specs.declared.error.Error.{Error}
use Rattle.gaz_sql_facts.specs.Selects.{passes, shows, rising, falling, Selects}
use Rattle.gaz_tables.specs.Shows.{Picks, ShowsAll, ShowsPage, ShowsSome, ShowsGreatest}
use Rattle.gaz_sql_facts.proofs.Selects.{first_shown, greatest, alone}

-- WHERE takes just the rows that fit
module _ (tests project : List Term) (params : Row) (rows : List Row) (Fits : Row → Type 0)
    (sound : (r : Row) → Has rows r → passes tests params r ≡ true → Fits r)
    (complete : (r : Row) → Has rows r → Fits r → passes tests params r ≡ true) where
  picked : (order : List (Term × Key)) (most : Option ℕ) (answer : List Row) → (s : Selects tests project order most rows params answer) → Picks Fits rows s.chosen
  picked order most answer s = record { test = passes tests params; sound = sound; complete = complete; same = s.same }

  pub shows_all : (answer : List Row) → Selects tests project [] None rows params answer → ShowsAll Fits (shows project params) rows answer
  shows_all answer s = record { chosen = s.chosen; picks = picked [] None answer s; shown = s.shown }

  pub shows_page : (place most : ℕ) (answer : List Row) → Selects tests project ((col 1 place, rising) ∷ []) (Some most) rows params answer
      → ShowsPage Fits place most (shows project params) rows answer
  shows_page place most answer s = record {
    chosen = s.chosen;
    picks = picked ((col 1 place, rising) ∷ []) (Some most) answer s;
    rising = λ k d low high. sym (alone _) ∙ s.sorted k d low high;
    shown = s.shown;
  }

  pub shows_some : (most : ℕ) (answer : List Row) → Selects tests project [] (Some most) rows params answer → ShowsSome Fits most (shows project params) rows answer
  shows_some most answer s = record { chosen = s.chosen; picks = picked [] (Some most) answer s; shown = s.shown }

  pub shows_greatest : (place : ℕ) → ((r : Row) → Has rows r → Fits r → (n : ℤ) × (column r place ≡ Int n)) → (answer : List Row)
      → Selects tests project ((col 1 place, falling) ∷ []) (Some 1) rows params answer → ShowsGreatest Fits place (shows project params) rows answer
  shows_greatest place numbered answer s = elim (first_shown tests project ((col 1 place, falling) ∷ []) rows params answer s) [
    | inl none ↦ subst (ShowsGreatest Fits place (shows project params) rows) (sym none.0) (λ r h fits. none.1 r h (complete r h fits))
    | inr one ↦
        let r = one.0 in
        let first = one.2 in
        let fits = sound r first.0 first.1 in
        let n = numbered r first.0 fits in
        subst (ShowsGreatest Fits place (shows project params) rows) (sym one.1) (
          r,
          n.0,
          record {
            there = first.0;
            fits = fits;
            number = n.1;
            last = λ t m h at is. greatest tests project (col 1 place) rows params answer s r first t m n.0 h (complete t h at) is n.1;
          },
          refl,
        )
  ]

-- of an answer, and of nothing where there is none
pub answered : {P Q : List Row → Type 0} (r : Result (Vec Row Global) Error) → ((l : List Row) → P l → Q l) → IfOk r (λ rows. P rows.items) → IfOk r (λ rows. Q rows.items)
answered (Err e) f h = tt
answered (Ok rows) f h = f rows.items h
