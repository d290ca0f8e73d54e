-- Each statement over one table stands wherever its table does, and the copy wherever both of its tables do.
use Rattle.gaz_tables.specs.Laws.{StatementsStandAlone}
use Rattle.gaz_tables.proofs.CustodyQueries as custody
use Rattle.gaz_tables.proofs.MetaTexts as metas
use Rattle.gaz_tables.proofs.Moving as moving
use Rattle.gaz_tables.proofs.ReceivedQueries as received
use Rattle.gaz_tables.proofs.ReceivedWrites as judging
use Rattle.gaz_tables.proofs.RowidQueries as rowids
use Rattle.gaz_tables.proofs.VersionQueries as versions
use Rattle.gaz_tables.proofs.VersionWrites as writes

pub statements : StatementsStandAlone
statements = record {
  newest_version = (versions.newest_on, versions.newest_anywhere);
  newest_version_until = (versions.newest_until_on, versions.newest_until_anywhere);
  held_versions = (versions.holding_on, versions.holding_anywhere);
  approved_of = (versions.approved_of_on, versions.approved_of_anywhere);
  approved_on = (versions.approved_on_on, versions.approved_on_anywhere);
  parts_of = (versions.parts_of_on, versions.parts_of_anywhere);
  insert_version = (writes.insert_on, writes.insert_anywhere);
  close_version = (writes.close_on, writes.close_anywhere);
  newest_custody = (custody.newest_on, custody.newest_anywhere);
  newest_custody_until = (custody.newest_until_on, custody.newest_until_anywhere);
  custody_behind = (custody.behind_on, custody.behind_anywhere);
  first_rows = (rowids.first_on, rowids.first_anywhere);
  rows_behind = (rowids.behind_on, rowids.behind_anywhere);
  file = (received.file_on, received.file_anywhere);
  verdict = (received.verdict_on, received.verdict_anywhere);
  volumes_above = (received.above_on, received.above_anywhere);
  receive = (judging.receive_on, judging.receive_anywhere);
  apply = (judging.apply_on, judging.apply_anywhere);
  reject = (judging.reject_on, judging.reject_anywhere);
  meta_rows = (metas.rows_on, metas.rows_anywhere);
  insert_meta = (metas.insert_on, metas.insert_anywhere);
  rewrite_meta = (metas.rewrite_on, metas.rewrite_anywhere);
  empty_versions = (moving.empty_on, moving.empty_anywhere);
  copy_versions = (moving.copy_terms, moving.copy_collations, moving.copy_anywhere);
}
