use Rattle.std.proofs.Common.{◌≡◌, ◌++◌, codes, flat_map, take, string_bytes}
use Rattle.gaz_exchange.specs.Replies.{closed_text}
use Rattle.gaz_exchange.proofs.closed.add_others.Given as goal

abbrev pub invariant-loop-closed : goal.invariant-loop-closed
invariant-loop-closed l = string_bytes l.out ≡ string_bytes l.fn.out ++ flat_map (λ c. codes "," ++ closed_text c) (take l.closed-index l.others)
