use Rattle.std.proofs.Common.{◌∙◌, inl, inr}
use Rattle.std.proofs.lemmas.Bool.{cases_Bool}
use Rattle.csv.specs.Records.{fields_of}
use Rattle.gaz_rows.proofs.Left.{left-read, left-end}
use Rattle.gaz_rows.proofs.reader.read_next.Goals as goal

pub returns-in-Ok : goal.returns-in-Ok
returns-in-Ok c =
    let at = c.requires in
    let a = c.args.rdr.now in
    let b = c.read_byte_record.new.self in
    let f = fields_of c.read_byte_record.new.row in
    let en = c.in-Ok.ensures in
    let r = en.reads at.trim at.ready in
    elim (cases_Bool c.in-Ok.found) [
      | inl found ↦
          let (z, at_z, more) = left-read a b f at.bytes at.config at.source (rw found at r) in
          rw found (
            record {
              trim = r.3 ∙ at.trim;
              ready = inl (en.ready at.trim);
              config = r.2 ∙ at.config;
              flexible = en.flexible ∙ at.flexible;
              bytes = z;
              source = at_z;
            },
            rw (at.source, at_z) more,
          )
      | inr gone ↦ rw gone (rw at.source (left-end a b f at.bytes at.config at.source (rw gone at r)))
    ]
