-- What the queries of `version2` mean.
use Rattle.std.proofs.Common.{ℕ, ℤ, pos, List, [], ◌∷◌, codes, refl}
use Rattle.sqlite_tied.specs.Compute.{everything}
use Rattle.sqlite.specs.Collation.TheVariants.{Binary}
use Rattle.sqlite.specs.declared.types.Value.TheVariants.{Int, Text}
use Rattle.sqlite.specs.Term.{Term, lit, col, op2}
use Rattle.sqlite_sql.specs.declared.ops.BinaryOp.TheVariants.{Compare}
use Rattle.sqlite_sql.specs.declared.ops.CompareOp.TheVariants.{Gt, Le}
use Rattle.gaz_sql_facts.specs.Meaning.{MeansAnywhere, OnTable}
use Rattle.gaz_sql_facts.specs.Selects.{every, equals, rising, falling}
use Rattle.gaz_sql_facts.proofs.Reasons.{Suits}
use Rattle.gaz_sql_facts.proofs.TextMoves.{anywhere}
use Rattle.gaz_tables.specs.Schema.{version2}
use Rattle.gaz_tables.specs.Texts.{newest_version_text as newest_text, newest_version_until_text as newest_until_text, held_versions_text as holding_text, approved_of_text, approved_on_text, parts_of_text}

abbrev pub newest_tests : List Term
newest_tests = equals (col 1 1) (col 0 0) ∷ equals (col 1 2) (col 0 1) ∷ equals (col 1 3) (col 0 2) ∷ []

abbrev pub newest_terms : List Term
newest_terms = col 1 8 ∷ col 1 9 ∷ col 1 10 ∷ []

abbrev pub newest_on : OnTable
newest_on = OnTable.Selects newest_tests newest_terms ((col 1 8, falling) ∷ []) (lit (Int (pos 1))) (codes "born" ∷ codes "gone" ∷ codes "body" ∷ [])

pub newest_anywhere : MeansAnywhere version2 newest_text newest_on
unfolding everything
newest_anywhere = anywhere version2 newest_text newest_on refl refl (record { read = _; is = refl; command_is = refl; no_rows = refl; no_time = refl })

pub newest_suits : (cust kind : ℕ) (id : List ℕ) → Suits version2 newest_text newest_on (Int (pos cust) ∷ Int (pos kind) ∷ Text id ∷ [])
unfolding everything
newest_suits cust kind id = record { low = refl; asked = refl; typed = refl }

abbrev pub newest_until_tests : List Term
newest_until_tests = equals (col 1 1) (col 0 0) ∷ equals (col 1 2) (col 0 1) ∷ equals (col 1 3) (col 0 2) ∷ op2 (Compare Le Binary) (col 1 8) (col 0 3) ∷ []

abbrev pub newest_until_terms : List Term
newest_until_terms = col 1 8 ∷ col 1 9 ∷ col 1 10 ∷ []

abbrev pub newest_until_on : OnTable
newest_until_on = OnTable.Selects newest_until_tests newest_until_terms ((col 1 8, falling) ∷ []) (lit (Int (pos 1))) (codes "born" ∷ codes "gone" ∷ codes "body" ∷ [])

pub newest_until_anywhere : MeansAnywhere version2 newest_until_text newest_until_on
unfolding everything
newest_until_anywhere = anywhere version2 newest_until_text newest_until_on refl refl (record { read = _; is = refl; command_is = refl; no_rows = refl; no_time = refl })

pub newest_until_suits : (cust kind : ℕ) (id : List ℕ) (volume : ℕ) → Suits version2 newest_until_text newest_until_on (Int (pos cust) ∷ Int (pos kind) ∷ Text id ∷ Int (pos volume) ∷ [])
unfolding everything
newest_until_suits cust kind id volume = record { low = refl; asked = refl; typed = refl }

abbrev pub holding_tests : List Term
holding_tests = equals (col 1 1) (col 0 0) ∷ equals (col 1 2) (col 0 1) ∷ op2 (Compare Gt Binary) (col 1 3) (col 0 2) ∷ op2 (Compare Le Binary) (col 1 8) (col 0 3) ∷ op2 (Compare Gt Binary) (col 1 9) (col 0 3) ∷ []

abbrev pub holding_terms : List Term
holding_terms = col 1 3 ∷ col 1 10 ∷ []

abbrev pub holding_on : OnTable
holding_on = OnTable.Selects holding_tests holding_terms ((col 1 3, rising) ∷ []) (col 0 4) (codes "id" ∷ codes "body" ∷ [])

pub holding_anywhere : MeansAnywhere version2 holding_text holding_on
unfolding everything
holding_anywhere = anywhere version2 holding_text holding_on refl refl (record { read = _; is = refl; command_is = refl; no_rows = refl; no_time = refl })

pub holding_suits : (cust kind : ℕ) (id : List ℕ) (volume most : ℕ) → Suits version2 holding_text holding_on (Int (pos cust) ∷ Int (pos kind) ∷ Text id ∷ Int (pos volume) ∷ Int (pos most) ∷ [])
unfolding everything
holding_suits cust kind id volume most = record { low = refl; asked = refl; typed = refl }

abbrev pub approved_of_tests : List Term
approved_of_tests = equals (col 1 1) (col 0 0) ∷ equals (col 1 2) (lit (Int (pos 24))) ∷ equals (col 1 4) (col 0 1) ∷ equals (col 1 7) (lit (Int (pos 1))) ∷ equals (col 1 9) (lit (Int (pos 1000000))) ∷ []

abbrev pub approved_of_terms : List Term
approved_of_terms = col 1 3 ∷ col 1 10 ∷ []

abbrev pub approved_of_on : OnTable
approved_of_on = OnTable.Selects approved_of_tests approved_of_terms [] every (codes "id" ∷ codes "body" ∷ [])

pub approved_of_anywhere : MeansAnywhere version2 approved_of_text approved_of_on
unfolding everything
approved_of_anywhere = anywhere version2 approved_of_text approved_of_on refl refl (record { read = _; is = refl; command_is = refl; no_rows = refl; no_time = refl })

pub approved_of_suits : (cust : ℕ) (blpu : ℤ) → Suits version2 approved_of_text approved_of_on (Int (pos cust) ∷ Int blpu ∷ [])
unfolding everything
approved_of_suits cust blpu = record { low = refl; asked = refl; typed = refl }

abbrev pub approved_on_tests : List Term
approved_on_tests = equals (col 1 1) (col 0 0) ∷ equals (col 1 2) (lit (Int (pos 24))) ∷ equals (col 1 5) (col 0 1) ∷ equals (col 1 7) (lit (Int (pos 1))) ∷ equals (col 1 9) (lit (Int (pos 1000000))) ∷ op2 (Compare Gt Binary) (col 1 3) (col 0 2) ∷ []

abbrev pub approved_on_terms : List Term
approved_on_terms = col 1 3 ∷ col 1 6 ∷ []

abbrev pub approved_on_on : OnTable
approved_on_on = OnTable.Selects approved_on_tests approved_on_terms ((col 1 3, rising) ∷ []) (col 0 3) (codes "id" ∷ codes "lang" ∷ [])

pub approved_on_anywhere : MeansAnywhere version2 approved_on_text approved_on_on
unfolding everything
approved_on_anywhere = anywhere version2 approved_on_text approved_on_on refl refl (record { read = _; is = refl; command_is = refl; no_rows = refl; no_time = refl })

pub approved_on_suits : (cust street : ℕ) (id : List ℕ) (most : ℕ) → Suits version2 approved_on_text approved_on_on (Int (pos cust) ∷ Int (pos street) ∷ Text id ∷ Int (pos most) ∷ [])
unfolding everything
approved_on_suits cust street id most = record { low = refl; asked = refl; typed = refl }

abbrev pub parts_of_tests : List Term
parts_of_tests = equals (col 1 1) (col 0 0) ∷ equals (col 1 2) (col 0 1) ∷ equals (col 1 4) (col 0 2) ∷ equals (col 1 9) (lit (Int (pos 1000000))) ∷ op2 (Compare Gt Binary) (col 1 3) (col 0 3) ∷ []

abbrev pub parts_of_terms : List Term
parts_of_terms = col 1 3 ∷ []

abbrev pub parts_of_on : OnTable
parts_of_on = OnTable.Selects parts_of_tests parts_of_terms ((col 1 3, rising) ∷ []) (col 0 4) (codes "id" ∷ [])

pub parts_of_anywhere : MeansAnywhere version2 parts_of_text parts_of_on
unfolding everything
parts_of_anywhere = anywhere version2 parts_of_text parts_of_on refl refl (record { read = _; is = refl; command_is = refl; no_rows = refl; no_time = refl })

pub parts_of_suits : (cust kind : ℕ) (blpu : ℤ) (id : List ℕ) (most : ℕ) → Suits version2 parts_of_text parts_of_on (Int (pos cust) ∷ Int (pos kind) ∷ Int blpu ∷ Text id ∷ Int (pos most) ∷ [])
unfolding everything
parts_of_suits cust kind blpu id most = record { low = refl; asked = refl; typed = refl }
