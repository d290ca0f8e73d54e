-- What the queries of the rows of kind 92 mean.
use Rattle.std.proofs.Common.{ℕ, pos, List, [], ◌∷◌, codes, refl}
use Rattle.sqlite_tied.specs.Compute.{everything}
use Rattle.sqlite.specs.Collation.TheVariants.{Binary}
use Rattle.sqlite.specs.declared.types.Value.TheVariants.{Int, Text}
use Rattle.sqlite.specs.Term.{Term, lit, col, op2}
use Rattle.sqlite_sql.specs.declared.ops.BinaryOp.TheVariants.{Compare, Or}
use Rattle.sqlite_sql.specs.declared.ops.CompareOp.TheVariants.{Ge, Gt, Le}
use Rattle.gaz_sql_facts.specs.Meaning.{MeansAnywhere, OnTable}
use Rattle.gaz_sql_facts.specs.Selects.{equals, falling, rising}
use Rattle.gaz_sql_facts.proofs.Reasons.{Suits}
use Rattle.gaz_sql_facts.proofs.TextMoves.{anywhere}
use Rattle.gaz_tables.specs.Schema.{version2}
use Rattle.gaz_tables.specs.Texts.{newest_custody_text as newest_text, newest_custody_until_text as newest_until_text, custody_behind_text as behind_text}

abbrev pub custody_terms : List Term
custody_terms = col 1 8 ∷ col 1 9 ∷ col 1 7 ∷ col 1 5 ∷ col 1 11 ∷ col 1 6 ∷ col 1 10 ∷ []

abbrev pub custody_names : List (List ℕ)
custody_names = codes "born" ∷ codes "gone" ∷ codes "live" ∷ codes "street" ∷ codes "hop" ∷ codes "lang" ∷ codes "body" ∷ []

abbrev pub newest_tests : List Term
newest_tests = equals (col 1 1) (col 0 0) ∷ equals (col 1 2) (lit (Int (pos 92))) ∷ equals (col 1 3) (col 0 1) ∷ []

abbrev pub newest_on : OnTable
newest_on = OnTable.Selects newest_tests custody_terms ((col 1 8, falling) ∷ []) (lit (Int (pos 1))) custody_names

pub newest_anywhere : MeansAnywhere version2 newest_text newest_on
unfolding everything
newest_anywhere = anywhere version2 newest_text newest_on refl refl (record { read = _; is = refl; command_is = refl; no_rows = refl; no_time = refl })

pub newest_suits : (cust : ℕ) (id : List ℕ) → Suits version2 newest_text newest_on (Int (pos cust) ∷ Text id ∷ [])
unfolding everything
newest_suits cust id = record { low = refl; asked = refl; typed = refl }

abbrev pub newest_until_tests : List Term
newest_until_tests = equals (col 1 1) (col 0 0) ∷ equals (col 1 2) (lit (Int (pos 92))) ∷ equals (col 1 3) (col 0 1) ∷ op2 (Compare Le Binary) (col 1 8) (col 0 2) ∷ []

abbrev pub newest_until_on : OnTable
newest_until_on = OnTable.Selects newest_until_tests custody_terms ((col 1 8, falling) ∷ []) (lit (Int (pos 1))) custody_names

pub newest_until_anywhere : MeansAnywhere version2 newest_until_text newest_until_on
unfolding everything
newest_until_anywhere = anywhere version2 newest_until_text newest_until_on refl refl (record { read = _; is = refl; command_is = refl; no_rows = refl; no_time = refl })

pub newest_until_suits : (cust : ℕ) (id : List ℕ) (volume : ℕ) → Suits version2 newest_until_text newest_until_on (Int (pos cust) ∷ Text id ∷ Int (pos volume) ∷ [])
unfolding everything
newest_until_suits cust id volume = record { low = refl; asked = refl; typed = refl }

abbrev pub behind_terms : List Term
behind_terms = col 1 3 ∷ custody_terms

abbrev pub behind_tests : List Term
behind_tests = equals (col 1 1) (col 0 0) ∷ equals (col 1 2) (lit (Int (pos 92))) ∷ op2 (Compare Ge Binary) (col 1 3) (col 0 1)
    ∷ op2 Or (op2 (Compare Gt Binary) (col 1 3) (col 0 1)) (op2 (Compare Gt Binary) (col 1 8) (col 0 2)) ∷ []

abbrev pub behind_on : OnTable
behind_on = OnTable.Selects behind_tests behind_terms ((col 1 3, rising) ∷ (col 1 8, rising) ∷ []) (col 0 3) (codes "id" ∷ custody_names)

pub behind_anywhere : MeansAnywhere version2 behind_text behind_on
unfolding everything
behind_anywhere = anywhere version2 behind_text behind_on refl refl (record { read = _; is = refl; command_is = refl; no_rows = refl; no_time = refl })

pub behind_suits : (cust : ℕ) (id : List ℕ) (born most : ℕ) → Suits version2 behind_text behind_on (Int (pos cust) ∷ Text id ∷ Int (pos born) ∷ Int (pos most) ∷ [])
unfolding everything
behind_suits cust id born most = record { low = refl; asked = refl; typed = refl }
