use Rattle.std.proofs.Common.{◌∙◌, sym, ap, arith, option_map, Bor}
use Rattle.std.specs.Prelude.{Option, Some}
use Rattle.gaz_records.specs.Blpus.{BlpuValue}
use Rattle.gaz_records.specs.Lpis.{LpiValue}
use Rattle.gaz_keeper.proofs.Keeping.{keeps_then}
use Rattle.gaz_keeper.specs.Keeper.{Content}
use Rattle.gaz_extract.proofs.Telling.{line_there, nothing_there}
use Rattle.gaz_extract.specs.Lookups.{line_at}
use Rattle.gaz_extract.proofs.found.lookup_with.Goals as goal

pub returns-in_default-as_item-clause-tells : goal.returns-in_default-as_item-clause-tells
returns-in_default-as_item-clause-tells g c =
    let asked = c.in_ok-property.ensures.tells in
    let was = g.K.Shelf.seen c.args.keeper.now in
    record {
      keeps = asked.keeps;
      right = λ stood fine.
          let there = sym c.in-Some.is ∙ asked.right stood fine in
          nothing_there was.content.board c.args.register.now c.args.uprn c.args.code c.in-Some.property (λ b is. c.in_default-as_item.not-Blpu b (c.as_item.ensures ∙ is)) there;
      counts = record { kept = asked.counts.kept; store = tt; trust = asked.counts.trust };
    }

pub returns-clause-tells : goal.returns-clause-tells
returns-clause-tells g c =
    let asked = c.in_ok-property.ensures.tells in
    let told = c.in_ok-line.ensures.tells in
    let was = g.K.Shelf.seen c.args.keeper.now in
    record {
      keeps = keeps_then _ _ _ asked.keeps told.keeps;
      right = λ stood fine.
          let mid = told.keeps.harm fine in
          let there = sym c.in-Some.is ∙ asked.right stood mid in
          let line = told.right (asked.keeps.stands stood mid) fine
          ∙ ap (λ (k : Content). line_at k.board c.args.register.now c.args.code (option_map (λ (l : Bor LpiValue). l.now) c.lpi_in-address.result) c.in-Blpu.blpu) (asked.keeps.content stood mid)
          ∙ ap (λ (o : Option LpiValue). line_at was.content.board c.args.register.now c.args.code o c.in-Blpu.blpu) c.lpi_in-address.ensures in
          ap (λ (b : BlpuValue). Some (record { custodian = c.args.code; uprn = c.args.uprn; status = b.status; line = c.in_ok-line.line })) c.blpu.view_is
          ∙ line_there was.content.board c.args.register.now c.args.uprn c.args.code c.in-Some.property c.in-Blpu.blpu c.in_ok-line.line (sym c.as_item.ensures ∙ c.in-Blpu.is) there line;
      counts = record { kept = let one = asked.counts.kept in let two = told.counts.kept in omega arith; store = tt; trust = λ t. asked.counts.trust (told.counts.trust t) };
    }
