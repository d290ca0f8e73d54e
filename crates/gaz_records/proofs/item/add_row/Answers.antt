use Rattle.gaz_records.proofs.item.add_row.Goals as goal

pub returns-in-Street-clause-row : goal.returns-in-Street-clause-row
returns-in-Street-clause-row c = rw c.in-Street.is c.write.ensures.row

pub returns-in-Blpu-clause-row : goal.returns-in-Blpu-clause-row
returns-in-Blpu-clause-row c = rw c.in-Blpu.is c.write-in-Blpu.ensures.row

pub returns-in-Xref-clause-row : goal.returns-in-Xref-clause-row
returns-in-Xref-clause-row c = rw c.in-Xref.is c.write-in-Xref.ensures.row

pub returns-in-Adopt-clause-row : goal.returns-in-Adopt-clause-row
returns-in-Adopt-clause-row c = rw c.in-Adopt.is c.write-in-Adopt.ensures.row
