use Rattle.std.proofs.Common.{◌∙◌, ◌≡◌, ℕ, List, Ok, inr, subst}
use Rattle.sqlite.specs.Held.{state}
use Rattle.sqlite.specs.State.{Survives}
use Rattle.gaz_register.specs.Texts.{register_text}
use Rattle.gaz_tables.specs.Schema.{meta}
use Rattle.gaz_tables.specs.Tables.{rows_of}
use Rattle.gaz_kept.specs.Numbered.{IsJudged, TellsRows}
use Rattle.gaz_kept.specs.OpeningFirst.{AreMoved, first_number}
use Rattle.gaz_kept.proofs.Moved.{clean_before, judged_then, leaves_then, refused_then, told_then}
use Rattle.gaz_kept.proofs.migrating.from_first.Goals as goal

pub returns-in-Ok-compared-clause-told : goal.returns-in-Ok-compared-clause-told
returns-in-Ok-compared-clause-told g c clean has =
    let early = clean_before (state g.S.Store c.compared.new.conn) (state g.S.Store c.moved.new.conn) _ _ c.moved.ensures.leaves clean in
    let words : c.deref.result.now ≡ register_text c.args.register.now = c.deref.ensures ∙ c.in-Ok.ensures in
    told_then g.S.Store c.args.conn.now first_number (register_text c.args.register.now)
    (subst (λ (t : List ℕ). TellsRows first_number g.S.Store c.args.conn.now t (Ok tt)) words (c.in-Ok-compared.ensures.told early)) c.moved.result c.moved.ensures.causes

pub returns-in-Ok-compared-clause-judged : goal.returns-in-Ok-compared-clause-judged
returns-in-Ok-compared-clause-judged g c clean has =
    let early = clean_before (state g.S.Store c.compared.new.conn) (state g.S.Store c.moved.new.conn) _ _ c.moved.ensures.leaves clean in
    let words : c.deref.result.now ≡ register_text c.args.register.now = c.deref.ensures ∙ c.in-Ok.ensures in
    judged_then first_number (register_text c.args.register.now) (rows_of (state g.S.Store c.args.conn.now).now meta)
    (subst (λ (t : List ℕ). IsJudged first_number t (rows_of (state g.S.Store c.args.conn.now).now meta) (Ok tt)) words (c.in-Ok-compared.ensures.judged early (inr has))) c.moved.result c.moved.ensures.causes

pub returns-in-Ok-compared-clause-rests : goal.returns-in-Ok-compared-clause-rests
returns-in-Ok-compared-clause-rests g c clean =
    let early = clean_before (state g.S.Store c.compared.new.conn) (state g.S.Store c.moved.new.conn) _ _ c.moved.ensures.leaves clean in
    refused_then (state g.S.Store c.args.conn.now) (state g.S.Store c.compared.new.conn) (state g.S.Store c.moved.new.conn) c.moved.result (c.in-Ok-compared.ensures.rests early) (c.moved.ensures.rests clean)

pub returns-in-Ok-compared-clause-leaves : goal.returns-in-Ok-compared-clause-leaves
returns-in-Ok-compared-clause-leaves g c =
    let words : c.deref-in-Ok-compared.result.now ≡ register_text c.args.register.now = c.deref-in-Ok-compared.ensures ∙ c.in-Ok.ensures in
    leaves_then (state g.S.Store c.args.conn.now) (state g.S.Store c.compared.new.conn) (state g.S.Store c.moved.new.conn) (register_text c.args.register.now)
    c.in-Ok-compared.ensures.rests c.in-Ok-compared.ensures.leaves
    (λ sound. subst (λ (t : List ℕ). Survives (state g.S.Store c.compared.new.conn) (state g.S.Store c.moved.new.conn) (AreMoved g.S.Store c.compared.new.conn c.moved.new.conn c.moved.result t)) words (c.moved.ensures.leaves sound))
