-- What the queries of `received` mean.
use Rattle.std.proofs.Common.{ℕ, pos, List, [], ◌∷◌, codes, refl}
use Rattle.sqlite_tied.specs.Compute.{everything}
use Rattle.sqlite.specs.Collation.TheVariants.{Binary}
use Rattle.sqlite.specs.Term.{Term, col, op2}
use Rattle.sqlite.specs.declared.types.Value.TheVariants.{Int}
use Rattle.sqlite_sql.specs.declared.ops.BinaryOp.TheVariants.{Compare}
use Rattle.sqlite_sql.specs.declared.ops.CompareOp.TheVariants.{Gt}
use Rattle.gaz_sql_facts.specs.Meaning.{MeansAnywhere, OnTable}
use Rattle.gaz_sql_facts.specs.Selects.{every, equals, rising}
use Rattle.gaz_sql_facts.proofs.Reasons.{Suits}
use Rattle.gaz_sql_facts.proofs.TextMoves.{anywhere}
use Rattle.gaz_tables.specs.Schema.{received}
use Rattle.gaz_tables.specs.Texts.{file_text, verdict_text, volumes_above_text as above_text}

-- WHERE cust = ?1 AND volume = ?2
abbrev pub volume_tests : List Term
volume_tests = equals (col 1 1) (col 0 0) ∷ equals (col 1 2) (col 0 1) ∷ []

abbrev pub file_terms : List Term
file_terms = col 1 3 ∷ col 1 4 ∷ col 1 5 ∷ col 1 6 ∷ []

abbrev pub file_on : OnTable
file_on = OnTable.Selects volume_tests file_terms [] every (codes "bytes" ∷ codes "state" ∷ codes "place" ∷ codes "rule" ∷ [])

pub file_anywhere : MeansAnywhere received file_text file_on
unfolding everything
file_anywhere = anywhere received file_text file_on refl refl (record { read = _; is = refl; command_is = refl; no_rows = refl; no_time = refl })

pub file_suits : (cust volume : ℕ) → Suits received file_text file_on (Int (pos cust) ∷ Int (pos volume) ∷ [])
unfolding everything
file_suits cust volume = record { low = refl; asked = refl; typed = refl }

abbrev pub verdict_terms : List Term
verdict_terms = col 1 4 ∷ col 1 5 ∷ col 1 6 ∷ []

abbrev pub verdict_on : OnTable
verdict_on = OnTable.Selects volume_tests verdict_terms [] every (codes "state" ∷ codes "place" ∷ codes "rule" ∷ [])

pub verdict_anywhere : MeansAnywhere received verdict_text verdict_on
unfolding everything
verdict_anywhere = anywhere received verdict_text verdict_on refl refl (record { read = _; is = refl; command_is = refl; no_rows = refl; no_time = refl })

pub verdict_suits : (cust volume : ℕ) → Suits received verdict_text verdict_on (Int (pos cust) ∷ Int (pos volume) ∷ [])
unfolding everything
verdict_suits cust volume = record { low = refl; asked = refl; typed = refl }

abbrev pub above_tests : List Term
above_tests = equals (col 1 1) (col 0 0) ∷ op2 (Compare Gt Binary) (col 1 2) (col 0 1) ∷ []

abbrev pub above_terms : List Term
above_terms = col 1 2 ∷ []

abbrev pub above_on : OnTable
above_on = OnTable.Selects above_tests above_terms ((col 1 2, rising) ∷ []) (col 0 2) (codes "volume" ∷ [])

pub above_anywhere : MeansAnywhere received above_text above_on
unfolding everything
above_anywhere = anywhere received above_text above_on refl refl (record { read = _; is = refl; command_is = refl; no_rows = refl; no_time = refl })

pub above_suits : (cust volume most : ℕ) → Suits received above_text above_on (Int (pos cust) ∷ Int (pos volume) ∷ Int (pos most) ∷ [])
unfolding everything
above_suits cust volume most = record { low = refl; asked = refl; typed = refl }
