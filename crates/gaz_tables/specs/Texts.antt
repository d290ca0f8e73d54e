-- The statements over one table, and the one that copies a table, as they are written.
use Rattle.std.specs.Prelude.{ℕ, List, codes}

-- ---- `version2`: items

abbrev pub newest_version_text : List ℕ
newest_version_text = codes "SELECT born, gone, body FROM version2 WHERE cust = ?1 AND kind = ?2 AND id = ?3 ORDER BY born DESC LIMIT 1"

abbrev pub newest_version_until_text : List ℕ
newest_version_until_text = codes "SELECT born, gone, body FROM version2 WHERE cust = ?1 AND kind = ?2 AND id = ?3 AND born <= ?4 ORDER BY born DESC LIMIT 1"

abbrev pub held_versions_text : List ℕ
held_versions_text = codes "SELECT id, body FROM version2 WHERE cust = ?1 AND kind = ?2 AND id > ?3 AND born <= ?4 AND gone > ?4 ORDER BY id LIMIT ?5"

abbrev pub approved_of_text : List ℕ
approved_of_text = codes "SELECT id, body FROM version2 WHERE cust = ?1 AND kind = 24 AND blpu = ?2 AND live = 1 AND gone = 1000000"

abbrev pub approved_on_text : List ℕ
approved_on_text = codes "SELECT id, lang FROM version2 WHERE cust = ?1 AND kind = 24 AND street = ?2 AND live = 1 AND gone = 1000000 AND id > ?3 ORDER BY id LIMIT ?4"

abbrev pub parts_of_text : List ℕ
parts_of_text = codes "SELECT id FROM version2 WHERE cust = ?1 AND kind = ?2 AND blpu = ?3 AND gone = 1000000 AND id > ?4 ORDER BY id LIMIT ?5"

abbrev pub insert_version_text : List ℕ
insert_version_text = codes "INSERT INTO version2 (cust, kind, id, blpu, street, lang, live, born, gone, body, hop) VALUES (?1, ?2, ?3, ?4, ?5, ?6, ?7, ?8, ?9, ?10, ?11)"

abbrev pub close_version_text : List ℕ
close_version_text = codes "UPDATE version2 SET gone = ?5 WHERE cust = ?1 AND kind = ?2 AND id = ?3 AND born = ?4"

-- ---- `version2`: rows of kind 92

abbrev pub newest_custody_text : List ℕ
newest_custody_text = codes "SELECT born, gone, live, street, hop, lang, body FROM version2 WHERE cust = ?1 AND kind = 92 AND id = ?2 ORDER BY born DESC LIMIT 1"

abbrev pub newest_custody_until_text : List ℕ
newest_custody_until_text = codes "SELECT born, gone, live, street, hop, lang, body FROM version2 WHERE cust = ?1 AND kind = 92 AND id = ?2 AND born <= ?3 ORDER BY born DESC LIMIT 1"

abbrev pub custody_behind_text : List ℕ
custody_behind_text = codes "SELECT id, born, gone, live, street, hop, lang, body FROM version2 WHERE cust = ?1 AND kind = 92 AND id >= ?2 AND (id > ?2 OR born > ?3) ORDER BY id, born LIMIT ?4"

-- ---- `version2`: all rows, in the order of their rowids

abbrev pub first_rows_text : List ℕ
first_rows_text = codes "SELECT rowid, cust, kind, id, blpu, street, lang, live, born, gone, body, hop FROM version2 ORDER BY rowid LIMIT ?1"

abbrev pub rows_behind_text : List ℕ
rows_behind_text = codes "SELECT rowid, cust, kind, id, blpu, street, lang, live, born, gone, body, hop FROM version2 WHERE rowid > ?1 ORDER BY rowid LIMIT ?2"

-- ---- `received`

abbrev pub file_text : List ℕ
file_text = codes "SELECT bytes, state, place, rule FROM received WHERE cust = ?1 AND volume = ?2"

abbrev pub verdict_text : List ℕ
verdict_text = codes "SELECT state, place, rule FROM received WHERE cust = ?1 AND volume = ?2"

abbrev pub volumes_above_text : List ℕ
volumes_above_text = codes "SELECT volume FROM received WHERE cust = ?1 AND volume > ?2 ORDER BY volume LIMIT ?3"

abbrev pub receive_text : List ℕ
receive_text = codes "INSERT INTO received VALUES (?1, ?2, ?3, 0, 0, 0)"

abbrev pub apply_text : List ℕ
apply_text = codes "UPDATE received SET state = 1, place = 0, rule = 0 WHERE cust = ?1 AND volume = ?2"

abbrev pub reject_text : List ℕ
reject_text = codes "UPDATE received SET state = 2, place = ?3, rule = ?4 WHERE cust = ?1 AND volume = ?2"

-- ---- `meta`

abbrev pub insert_meta_text : List ℕ
insert_meta_text = codes "INSERT INTO meta VALUES (1, ?1, ?2)"

abbrev pub rewrite_meta_text : List ℕ
rewrite_meta_text = codes "UPDATE meta SET number = ?1, register = ?2 WHERE id = 1"

-- ---- `version`

abbrev pub empty_versions_text : List ℕ
empty_versions_text = codes "DELETE FROM version"

-- ---- `version` into `version2`

abbrev pub copy_versions_text : List ℕ
copy_versions_text = codes "INSERT INTO version2 SELECT cust, kind, id, blpu, street, lang, live, born, gone, body, 0 FROM version"
