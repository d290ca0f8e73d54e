use Rattle.std.proofs.Common.{◌∙◌, ap, arith, sym}
use Rattle.gaz_exchange.specs.Asking.{call_at}
use Rattle.gaz_exchange.specs.declared.route.Place.TheVariants as place
use Rattle.gaz_exchange.proofs.NamedFacts.{named_nowhere}
use Rattle.gaz_exchange.proofs.SegmentFacts.{AllBytes}
use Rattle.gaz_exchange.proofs.WalkFacts.{named_as}
use Rattle.gaz_exchange.proofs.route.find_call.Goals as goal

pub returns-in-Err : goal.returns-in-Err
returns-in-Err c =
    let bytes : AllBytes c.args.target.now = λ i. omega (arith, c.type_inv.target i) in
    let none = rw c.requires at c.in-Err.ensures.missing in
    ap (λ t. call_at t c.args.method) (sym (named_nowhere c.args.target.now bytes none))

pub returns-in-Volume : goal.returns-in-Volume
returns-in-Volume c =
    let bytes : AllBytes c.args.target.now = λ i. omega (arith, c.type_inv.target i) in
    let found = rw c.requires at c.in-Ok.ensures.found in
    let (code, volume, named, took) = named_as c.args.target.now c.in-Ok.found.params c.in-Ok.found.value.now bytes c.utf8.target found c.in-Ok.ensures.path place.Volume c.in-Volume.is in
    c.volume_call.ensures code volume took ∙ ap (λ t. call_at t c.args.method) (sym named)

pub returns-in-Custodian : goal.returns-in-Custodian
returns-in-Custodian c =
    let bytes : AllBytes c.args.target.now = λ i. omega (arith, c.type_inv.target i) in
    let found = rw c.requires at c.in-Ok.ensures.found in
    let (text, named, took) = named_as c.args.target.now c.in-Ok.found.params c.in-Ok.found.value.now bytes c.utf8.target found c.in-Ok.ensures.path place.Custodian c.in-Custodian.is in
    c.custodian_call.ensures text took ∙ ap (λ t. call_at t c.args.method) (sym named)

pub returns-in-Extract : goal.returns-in-Extract
returns-in-Extract c =
    let bytes : AllBytes c.args.target.now = λ i. omega (arith, c.type_inv.target i) in
    let found = rw c.requires at c.in-Ok.ensures.found in
    let (code, volume, named, took) = named_as c.args.target.now c.in-Ok.found.params c.in-Ok.found.value.now bytes c.utf8.target found c.in-Ok.ensures.path place.Extract c.in-Extract.is in
    c.extract_call.ensures code volume took ∙ ap (λ t. call_at t c.args.method) (sym named)

pub returns-in-Uprn : goal.returns-in-Uprn
returns-in-Uprn c =
    let bytes : AllBytes c.args.target.now = λ i. omega (arith, c.type_inv.target i) in
    let found = rw c.requires at c.in-Ok.ensures.found in
    let (text, named, took) = named_as c.args.target.now c.in-Ok.found.params c.in-Ok.found.value.now bytes c.utf8.target found c.in-Ok.ensures.path place.Uprn c.in-Uprn.is in
    c.property_call.ensures text took ∙ ap (λ t. call_at t c.args.method) (sym named)

pub returns-in-Closed : goal.returns-in-Closed
returns-in-Closed c =
    let bytes : AllBytes c.args.target.now = λ i. omega (arith, c.type_inv.target i) in
    let found = rw c.requires at c.in-Ok.ensures.found in
    let named = named_as c.args.target.now c.in-Ok.found.params c.in-Ok.found.value.now bytes c.utf8.target found c.in-Ok.ensures.path place.Closed c.in-Closed.is in
    c.closed_call.ensures ∙ ap (λ t. call_at t c.args.method) (sym named)
