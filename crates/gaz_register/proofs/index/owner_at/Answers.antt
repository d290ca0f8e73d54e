use Rattle.std.proofs.Common.{◌-◌, ◌<◌, ◌≤◌, ℕ, get_or, nat_le, rules, arith, refl, length}
use Rattle.std.proofs.lemmas.List.Sorted.{IsPartitionPoint-from_clause, IsPartitionedBy-leb}
use Rattle.std.proofs.lemmas.List.{get_or_default}
use Rattle.gaz_register.specs.declared.index.Holding.{Holding}
use Rattle.gaz_register.proofs.Looking.{Start, among-hit, among-miss, among-zero}
use Rattle.gaz_register.proofs.index.owner_at.Goals as goal

abbrev low : Holding → ℕ
low h = h.first

abbrev high : Holding → ℕ
high h = h.last

pub returns-then-after-eq0 : goal.returns-then-after-eq0
returns-then-after-eq0 c =
    let xs = c.args.holdings.now in
    let n = c.args.number in
    let i = c.partition_point-after.result in
    let start : Start low high n xs i =
    IsPartitionPoint-from_clause (λ h. nat_le (low h) n) xs i c.partition_point-after.ensures.partitioned (IsPartitionedBy-leb low xs n c.requires.sorted) (λ a r q k. search rules) in
    let none = among-zero low high n xs (rw c.if-after-eq0.true at start) in
    rw none refl

pub returns-then-number-holding : goal.returns-then-number-holding
returns-then-number-holding c =
    let xs = c.args.holdings.now in
    let n = c.args.number in
    let i = c.partition_point-after.result in
    let x = c.index-holdings-after.result in
    let start : Start low high n xs i =
    IsPartitionPoint-from_clause (λ h. nat_le (low h) n) xs i c.partition_point-after.ensures.partitioned (IsPartitionedBy-leb low xs n c.requires.sorted) (λ a r q k. search rules) in
    let reach : n ≤ high (get_or xs (i - 1) x) = rw (← c.index-holdings-after.is) c.if-number-holding.true in
    let some = among-hit low high n xs i x (omega arith) c.partition_point-after.ensures.bound c.requires.sorted c.requires.rises start reach in
    rw (some, ← c.index-holdings-after.is) refl

pub returns-else-number-holding : goal.returns-else-number-holding
returns-else-number-holding c =
    let xs = c.args.holdings.now in
    let n = c.args.number in
    let i = c.partition_point-after.result in
    let x = c.index-holdings-after.result in
    let start : Start low high n xs i =
    IsPartitionPoint-from_clause (λ h. nat_le (low h) n) xs i c.partition_point-after.ensures.partitioned (IsPartitionedBy-leb low xs n c.requires.sorted) (λ a r q k. search rules) in
    let bound : i - 1 < length xs = omega (arith, c.partition_point-after.ensures.bound) in
    let short : (d : Holding) → high (get_or xs (i - 1) d) < n =
    λ d. rw (get_or_default xs (i - 1) d x bound, ← c.index-holdings-after.is) c.if-number-holding.false in
    let none = among-miss low high n xs i (omega arith) c.partition_point-after.ensures.bound c.requires.sorted c.requires.rises start short in
    rw none refl
