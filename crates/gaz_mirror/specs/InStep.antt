-- Two keepers in step, and one that is ahead of the other.
use Rattle.std.specs.Prelude.{◌≡◌, ◌≢◌, false}
use Rattle.gaz_keeper.specs.Keeper.{Broken, Idle, IsNotOpen, Open, Progress}
use Rattle.gaz_mirror.specs.declared.gathered.Gathered.{Gathered}

-- the upper one is in the same judgement as the lower one, and that isn't broken
pub record IsInStep (lower upper : Progress) : Type 0 where
  pub same : upper ≡ lower
  pub whole : lower ≢ Broken

-- the upper one is in the judgement that is gathered, and the lower one in none; unless it was
-- tried to hand that down, there isn't a broken one below either
pub record IsAhead (lower upper : Progress) (gathered : Gathered) : Type 0 where
  pub judging : upper ≡ Open gathered.code
  pub closed : IsNotOpen lower
  pub untried : gathered.tried ≡ false → lower ≡ Idle
