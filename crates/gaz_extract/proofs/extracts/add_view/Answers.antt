use Rattle.std.proofs.Common.{◌++◌, None, arith}
use Rattle.gaz_records.specs.declared.item.Kind.TheVariants as kind
use Rattle.gaz_views.specs.View.{View}
use Rattle.gaz_views.specs.Words.{rest_of}
use Rattle.gaz_keeper.proofs.Keeping.{keeps_then}
use Rattle.gaz_extract.proofs.Turns.{then_added}
use Rattle.gaz_extract.proofs.extracts.add_view.Goals as goal

pub returns-clause-tells : goal.returns-clause-tells
returns-clause-tells g c =
    let k1 = c.in_ok-draft.ensures.tells in
    let k2 = c.in_ok-draft-2.ensures.tells in
    let k3 = c.in_ok-draft-3.ensures.tells in
    let k4 = c.in_ok-draft-4.ensures.tells in
    let k5 = c.in_ok-draft-5.ensures.tells in
    let s0 = g.K.Shelf.seen c.args.keeper.now in
    let s1 = g.K.Shelf.seen c.add_kind.new.keeper in
    let s2 = g.K.Shelf.seen c.add_kind-2.new.keeper in
    let s3 = g.K.Shelf.seen c.add_kind-3.new.keeper in
    let s4 = g.K.Shelf.seen c.add_kind-4.new.keeper in
    let s5 = g.K.Shelf.seen c.add_kind-5.new.keeper in
    let code = c.args.code in
    let volume = c.args.volume in
    let d0 = c.args.draft in
    let d1 = c.in_ok-draft.draft in
    let d2 = c.in_ok-draft-2.draft in
    let d3 = c.in_ok-draft-3.draft in
    let d4 = c.in_ok-draft-4.draft in
    let d5 = c.in_ok-draft-5.draft in
    let from4 = keeps_then s3 s4 s5 k4.keeps k5.keeps in
    let from3 = keeps_then s2 s3 s5 k3.keeps from4 in
    let from2 = keeps_then s1 s2 s5 k2.keeps from3 in
    let a4 = then_added s3 s4 s5 code volume d3 d4 d5 (λ (v : View). rest_of v kind.Xref None) (λ (v : View). rest_of v kind.Lpi None) k4.keeps k5.keeps k4.right k5.right in
    let a3 = then_added s2 s3 s5 code volume d2 d3 d5 (λ (v : View). rest_of v kind.Blpu None) (λ (v : View). rest_of v kind.Xref None ++ rest_of v kind.Lpi None) k3.keeps from4 k3.right a4 in
    let a2 = then_added s1 s2 s5 code volume d1 d2 d5 (λ (v : View). rest_of v kind.Descriptor None) (λ (v : View). rest_of v kind.Blpu None ++ (rest_of v kind.Xref None ++ rest_of v kind.Lpi None)) k2.keeps from3 k2.right a3 in
    record {
      keeps = keeps_then s0 s1 s5 k1.keeps from2;
      right = then_added s0 s1 s5 code volume d0 d1 d5 (λ (v : View). rest_of v kind.Street None) (λ (v : View). rest_of v kind.Descriptor None ++ (rest_of v kind.Blpu None ++ (rest_of v kind.Xref None ++ rest_of v kind.Lpi None))) k1.keeps from2 k1.right a2;
      counts = record { kept = (let n1 = k1.counts.kept in let n2 = k2.counts.kept in let n3 = k3.counts.kept in let n4 = k4.counts.kept in let n5 = k5.counts.kept in omega arith); store = tt; trust = λ t. k1.counts.trust (k2.counts.trust (k3.counts.trust (k4.counts.trust (k5.counts.trust t)))) };
    }
