-- What a mirror over the filled keeper stands for.
use Rattle.std.proofs.Common.{◌≡◌, ◌∙◌, refl, sym, ap, subst, Option, Some, None}
use Rattle.std.specs.Option.{ForSome}
use Rattle.gaz_register.specs.Registers.{RegisterValue}
use Rattle.gaz_views.specs.View.{empty_view}
use Rattle.gaz_keeper.specs.Keeper.{Content, Idle, Seen, after_stop}
use Rattle.gaz_shelf.specs.Mem.{seen_in}
use Rattle.gaz_shelf.specs.declared.mem_shelf.MemShelf.{MemShelf}
use Rattle.gaz_steps.specs.Hubs.{StandsFor, door_of}
use Rattle.gaz_hub.specs.Seen.{hub_seen}
use Rattle.gaz_waiters.specs.Remembered.{Remembered}
use Rattle.gaz_hub.specs.Waiting.{remembering}
use Rattle.gaz_hub.specs.declared.hub.Hub.{Hub}
use Rattle.gaz_hub.proofs.Advancing.{may_keep}
use Rattle.gaz_loaded.specs.Files.{OnlyReads}
use Rattle.gaz_mirror.specs.Mirroring.{StandsWith, mirrored}
use Rattle.gaz_mirror.specs.declared.gathered.Gathered.{Gathered}
use Rattle.gaz_stored.specs.Filling.{CanBeMirrored, IsFilled}
use Rattle.gaz_stored.proofs.Alike.{of_these}

module _ (reg : RegisterValue) (b c : Seen) (reads : OnlyReads b c) (can : CanBeMirrored (door_of reg) b) (fine : c.unharmed) (lower_bare : c.progress ≡ Idle → c.content.working ≡ empty_view) where
  stood : c.stands
  stood = reads.keeps.stands can.run.0 fine

  same : c.content ≡ b.content
  same = reads.keeps.content can.run.0 fine

  -- without a working view it is as after a stop
  rests : c.content.working ≡ empty_view → after_stop c.content ≡ c.content
  rests bare = λ i. record { files = c.content.files; board = c.content.board; working = sym bare i }

  both_stand : (upper : Option MemShelf) → ForSome upper (IsFilled reg b c) → StandsWith seen_in c upper None
  both_stand None filled = stood
  both_stand (Some u) filled =
      let is = filled u refl in
      record {
        lower = stood;
        upper = tt;
        same = is.loaded can.run.0 fine (of_these reg b can) ∙ ap after_stop (sym same) ∙ rests (lower_bare is.lower);
      }

  pub stands_mirrored : (upper : Option MemShelf) → ForSome upper (IsFilled reg b c) → StandsFor (door_of reg) (mirrored seen_in c upper None)
  stands_mirrored upper filled =
      let d = door_of reg in
      (both_stand upper filled, may_keep d b.content c.content (ap (λ (k : Content). k.files) same) (ap (λ (k : Content). k.board) same) can.run.1)

-- ---- in answers

-- what is said of a hub by its parts
pub over_parts : {K : Type 0} (seen : K → Seen) (P : RegisterValue → Seen → Type 0) (hub : Hub K) (reg : RegisterValue) (keeper : K) → hub.register ≡ reg → hub.keeper ≡ keeper → hub.waiters ≡ None
    → P hub.register (hub_seen seen hub) → P reg (remembering reg None (seen keeper))
over_parts {K} seen P hub reg keeper e f g = subst (λ (t : RegisterValue × K × Option Remembered). P t.0 (remembering t.0 t.2 (seen t.1))) (λ i. (e i, f i, g i))

-- also where the three have other names
pub of_made : {L K : Type 0} (low : L → Seen) (seen : K → Seen) (reg : RegisterValue) (x y : L) (u v : Option K) (gathered : Option Gathered) → x ≡ y → u ≡ v → gathered ≡ None
    → ((low y).unharmed → StandsFor (door_of reg) (mirrored seen (low y) v None)) → (low x).unharmed → StandsFor (door_of reg) (mirrored seen (low x) u gathered)
of_made {L} {K} low seen reg x y u v gathered e f none = subst (λ (t : L × Option K × Option Gathered). (low t.0).unharmed → StandsFor (door_of reg) (mirrored seen (low t.0) t.1 t.2)) (λ i. (sym e i, sym f i, sym none i))
