use Rattle.std.proofs.Common.{◌∙◌, ap}
use Rattle.std.specs.Prelude.{filter, option_map}
use Rattle.gaz_records.specs.declared.item.Item.{Item}
use Rattle.gaz_records.specs.declared.key.Key.{Key}
use Rattle.gaz_views.specs.View.{View}
use Rattle.gaz_views.specs.Words.{entries, first_of}
use Rattle.gaz_standing.proofs.KeyHistories.{view_ascends}
use Rattle.gaz_standing.proofs.Marked.{first_under, no_first}
use Rattle.gaz_standing.proofs.Passing.{in_key_order}
use Rattle.gaz_standing.specs.KeyHistories.{view_at}
use Rattle.gaz_standing.specs.Indexes.{has_mark, listed}
use Rattle.gaz_ledger.proofs.Ledgers.{finds_from, seen}
use Rattle.gaz_ledger.proofs.ledger.Ledger.least_of.Goals as goal

pub returns-in-Some : goal.returns-in-Some
returns-in-Some c =
    let ds = c.self.inside.verdicts.items in
    let g = c.self.inside.histories in
    let v = view_at g c.args.volume in
    let finds = finds_from ds g c.self.inside.custodies c.self.inside.index c.self.inside.touched.items c.args.self.now c.self.invariant.0 c.self.view_is c.args.volume c.requires in
    c.first_marked.ensures ∙ first_under c.self.inside.index (entries v) c.args.mark (view_ascends v) finds (listed c.in-Some.keys.now) (in_key_order _ c.in_order.ensures) c.in-Some.ensures
    ∙ ap (λ (w : View). option_map (λ (e : Key × Item). e.1) (first_of (filter (λ e. has_mark c.args.mark e.1) (entries w)))) (seen ds g c.self.inside.custodies c.args.self.now (c.self.invariant.0.within, c.self.invariant.1.within) c.self.view_is c.args.volume)

pub returns-in-None : goal.returns-in-None
returns-in-None c =
    let ds = c.self.inside.verdicts.items in
    let g = c.self.inside.histories in
    let v = view_at g c.args.volume in
    let finds = finds_from ds g c.self.inside.custodies c.self.inside.index c.self.inside.touched.items c.args.self.now c.self.invariant.0 c.self.view_is c.args.volume c.requires in
    no_first c.self.inside.index (entries v) c.args.mark (view_ascends v) finds c.in-None.ensures
    ∙ ap (λ (w : View). option_map (λ (e : Key × Item). e.1) (first_of (filter (λ e. has_mark c.args.mark e.1) (entries w)))) (seen ds g c.self.inside.custodies c.args.self.now (c.self.invariant.0.within, c.self.invariant.1.within) c.self.view_is c.args.volume)
