-- What the queries mean that go through `version2` in the order of its rowids.
use Rattle.std.proofs.Common.{ℕ, ℤ, pos, List, [], ◌∷◌, codes, refl}
use Rattle.sqlite_tied.specs.Compute.{everything}
use Rattle.sqlite.specs.Collation.TheVariants.{Binary}
use Rattle.sqlite.specs.Term.{Term, col, op2}
use Rattle.sqlite.specs.declared.types.Value.TheVariants.{Int}
use Rattle.sqlite_sql.specs.declared.ops.BinaryOp.TheVariants.{Compare}
use Rattle.sqlite_sql.specs.declared.ops.CompareOp.TheVariants.{Gt}
use Rattle.gaz_sql_facts.specs.Meaning.{MeansAnywhere, OnTable}
use Rattle.gaz_sql_facts.specs.Selects.{rising}
use Rattle.gaz_sql_facts.proofs.Reasons.{Suits}
use Rattle.gaz_sql_facts.proofs.TextMoves.{anywhere}
use Rattle.gaz_tables.specs.Schema.{version2}
use Rattle.gaz_tables.specs.Texts.{first_rows_text as first_text, rows_behind_text as behind_text}

-- all that a row has, and its name
abbrev pub row_terms : List Term
row_terms = col 1 0 ∷ col 1 1 ∷ col 1 2 ∷ col 1 3 ∷ col 1 4 ∷ col 1 5 ∷ col 1 6 ∷ col 1 7 ∷ col 1 8 ∷ col 1 9 ∷ col 1 10 ∷ col 1 11 ∷ []

abbrev pub row_names : List (List ℕ)
row_names = codes "rowid" ∷ codes "cust" ∷ codes "kind" ∷ codes "id" ∷ codes "blpu" ∷ codes "street" ∷ codes "lang" ∷ codes "live" ∷ codes "born" ∷ codes "gone" ∷ codes "body" ∷ codes "hop" ∷ []

abbrev pub first_tests : List Term
first_tests = []

abbrev pub first_on : OnTable
first_on = OnTable.Selects first_tests row_terms ((col 1 0, rising) ∷ []) (col 0 0) row_names

pub first_anywhere : MeansAnywhere version2 first_text first_on
unfolding everything
first_anywhere = anywhere version2 first_text first_on refl refl (record { read = _; is = refl; command_is = refl; no_rows = refl; no_time = refl })

pub first_suits : (most : ℕ) → Suits version2 first_text first_on (Int (pos most) ∷ [])
unfolding everything
first_suits most = record { low = refl; asked = refl; typed = refl }

abbrev pub behind_tests : List Term
behind_tests = op2 (Compare Gt Binary) (col 1 0) (col 0 0) ∷ []

abbrev pub behind_on : OnTable
behind_on = OnTable.Selects behind_tests row_terms ((col 1 0, rising) ∷ []) (col 0 1) row_names

pub behind_anywhere : MeansAnywhere version2 behind_text behind_on
unfolding everything
behind_anywhere = anywhere version2 behind_text behind_on refl refl (record { read = _; is = refl; command_is = refl; no_rows = refl; no_time = refl })

pub behind_suits : (after : ℤ) (most : ℕ) → Suits version2 behind_text behind_on (Int after ∷ Int (pos most) ∷ [])
unfolding everything
behind_suits after most = record { low = refl; asked = refl; typed = refl }
