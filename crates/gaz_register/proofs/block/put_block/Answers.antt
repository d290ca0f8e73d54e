use Rattle.std.proofs.Common.{rules, ℕ, nat_le, ◌∙◌}
use Rattle.std.proofs.lemmas.List.Sorted.{IsPartitionPoint-from_clause, IsPartitionedBy-leb}
use Rattle.std.specs.List.Sorted.{IsNonDecreasingBy}
use Rattle.gaz_register.proofs.Sorting.{Splits, splits, insert_is_place, insert_rises}
use Rattle.gaz_register.proofs.block.put_block.Goals as goal

pub returns : goal.returns
returns c =
    let xs = c.args.blocks.now.items in
    let key : (ℕ × ℕ) → ℕ = λ b. b.0 in
    let up : IsNonDecreasingBy key c.deref.result.now = rw c.deref.ensures.value c.requires in
    let point = IsPartitionPoint-from_clause (λ b. nat_le b.0 c.args.block.0) c.deref.result.now c.partition_point-at.result
    c.partition_point-at.ensures.partitioned (IsPartitionedBy-leb key c.deref.result.now c.args.block.0 up) (λ a r q k. search rules) in
    let s : Splits key c.args.block xs c.partition_point-at.result =
    rw (← c.deref.ensures.value) (splits key c.args.block c.deref.result.now c.partition_point-at.result c.partition_point-at.ensures.bound point) in
    record {
      placed = c.in_ok-insert.ensures.items ∙ insert_is_place key c.args.block xs c.partition_point-at.result s;
      rises = rw c.in_ok-insert.ensures.items (insert_rises key c.args.block xs c.partition_point-at.result s c.requires);
    }
