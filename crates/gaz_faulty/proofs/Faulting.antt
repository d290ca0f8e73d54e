-- What a keeper around another answers.
use Rattle.std.proofs.Common.{◌≡◌, ℕ, refl, false}
use Rattle.std.specs.Prelude.{Result, IfOk}
use Rattle.gaz_keeper.specs.Board.{reached}
use Rattle.gaz_keeper.specs.Received.{count_above}
use Rattle.gaz_keeper.specs.Keeper.{Broken, Content, Idle, IsNotOpen, Open, Progress}
use Rattle.gaz_faulty.specs.Faulting.{content_around, progress_around}
use Rattle.gaz_keeper.specs.declared.fault.ShelfFault.{ShelfFault}

abbrev IsHeldIn : Result ℕ ShelfFault → ℕ → Content → Type 0
IsHeldIn r c k = IfOk r (λ n. n ≡ count_above k.files c (reached k.board c))

pub held_around : (r : Result ℕ ShelfFault) (c : ℕ) (p : Progress) (k : Content) → IsHeldIn r c k → IsHeldIn r c (content_around p k)
held_around r c Idle k h = h
held_around r c (Open d) k h = h
held_around r c Broken k h = h

pub idle_around : (p : Progress) → IsNotOpen p → progress_around false p ≡ Idle
idle_around Idle h = refl
idle_around (Open c) h = absurd (h c refl)
idle_around Broken h = refl
