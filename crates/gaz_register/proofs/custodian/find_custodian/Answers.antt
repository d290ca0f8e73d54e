use Rattle.std.proofs.Common.{◌≡◌, ◌∙◌, ◌<◌, ℕ, Some, get_or, nat_lt, rules, arith, sym, ap, length}
use Rattle.std.proofs.lemmas.List.Sorted.{IsPartitionPoint-from_clause, IsPartitionedBy-ltb}
use Rattle.std.proofs.lemmas.List.{get_or_default}
use Rattle.gaz_register.specs.Registers.{CustodianValue}
use Rattle.gaz_register.proofs.Looking.{Point, key-found, key-missed}
use Rattle.gaz_register.proofs.custodian.find_custodian.Goals as goal

abbrev key : CustodianValue → ℕ
key c = c.code

pub returns-then-number : goal.returns-then-number
returns-then-number c =
    let xs = c.args.custodians.now in
    let i = c.partition_point-at.result in
    let x = c.index-custodians-at.result in
    let point : Point key c.args.code xs i =
    IsPartitionPoint-from_clause (λ y. nat_lt (key y) c.args.code) xs i c.partition_point-at.ensures.partitioned (IsPartitionedBy-ltb key xs c.args.code c.requires) (λ a r q k. search rules) in
    let bound : i < length xs = omega (arith, c.partition_point-at.ensures.bound) in
    let same : key x ≡ c.args.code = sym c.code.ensures ∙ sym c.number.ensures.value ∙ c.if-number.true ∙ c.number-number.ensures.value in
    let at : key (get_or xs i x) ≡ c.args.code = rw (← c.index-custodians-at.is) same in
    ap Some c.index-custodians-at.is ∙ sym (key-found key c.args.code xs i x bound point at)

pub returns-else-number : goal.returns-else-number
returns-else-number c =
    let xs = c.args.custodians.now in
    let i = c.partition_point-at.result in
    let x = c.index-custodians-at.result in
    let point : Point key c.args.code xs i =
    IsPartitionPoint-from_clause (λ y. nat_lt (key y) c.args.code) xs i c.partition_point-at.ensures.partitioned (IsPartitionedBy-ltb key xs c.args.code c.requires) (λ a r q k. search rules) in
    sym (key-missed key c.args.code xs i c.requires point (λ d h e.
    let at : key x ≡ c.args.code = rw (get_or_default xs i d x h, ← c.index-custodians-at.is) at e in
    c.if-number.false (c.number.ensures.value ∙ c.code.ensures ∙ at ∙ sym c.number-number.ensures.value)))

pub returns-then-at-custodians : goal.returns-then-at-custodians
returns-then-at-custodians c =
    let xs = c.args.custodians.now in
    let i = c.partition_point-at.result in
    let point : Point key c.args.code xs i =
    IsPartitionPoint-from_clause (λ y. nat_lt (key y) c.args.code) xs i c.partition_point-at.ensures.partitioned (IsPartitionedBy-ltb key xs c.args.code c.requires) (λ a r q k. search rules) in
    sym (key-missed key c.args.code xs i c.requires point (λ d h e. absurd (omega arith)))
