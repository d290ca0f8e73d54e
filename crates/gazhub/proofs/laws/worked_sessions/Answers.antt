use Rattle.std.proofs.Common.{◌≡◌, ◌∙◌, ◌++◌, ℕ, List, [], ◌∷◌, Option, Some, None, ap, refl, subst, sym}
use Rattle.std.specs.Prelude.{⊤}
use Rattle.sqlite.specs.Effect.{Database}
use Rattle.sqlite.specs.Held.{Held}
use Rattle.sqlite_disk.specs.declared.Disk as disk
use Rattle.sqlite_disk.specs.declared.Files.{Files}
use Rattle.sqlite_store.specs.declared.store.FileStore.{FileStore}
use Rattle.gaz_register.specs.Registers.{IsRegister, RegisterValue}
use Rattle.gaz_stored.specs.Calls.{CutOff, Whole}
use Rattle.gaz_stored.specs.Meetings.{Came, Left, Missed}
use Rattle.gaz_filing.specs.Filing.{Makes, OverFiles}
use Rattle.gaz_filing.specs.Joined.{EndedWhole, FileCall}
use Rattle.gazhub.specs.Desks.{IsDone}
use Rattle.gazhub.specs.Openings.{Called, Did, DoneOver, MadeStore, Opening, Over, Unconnected, made_over}
use Rattle.gazhub.specs.Sessions.{AllEndedWhole, AreCallsOf, Ended, IsFoundBehind, IsLeftBy, ended_for, opening_for}
use Rattle.gazhub.specs.Sites.{Closed, Deed, Listened, Met, Opened, Read}
use Rattle.gazhub.proofs.laws.worked_sessions.Goals as goal

module _ {S D : Type 0} (text : S → List ℕ → List ℕ) (files : S → Option (Files D)) (says : S → Option (List ℕ)) (told : S → List ℕ) where
  kept : (old new : S) (deed : Deed D) → IsDone text files says told old deed new → IsLeftBy deed (files old) (files new)
  kept old new (Read path most bytes) done = done.2
  kept old new (Opened path purpose None) done = done.1 ∙ done.0
  kept old new (Opened path purpose (Some found)) done = sym done.0
  kept old new (Closed left) done = done.0
  kept old new (Listened port had) done = done.2
  kept old new (Met Missed) done = done.2
  kept old new (Met (Came had held)) done = done.4
  kept old new (Met (Left left holds is_whole)) done = done.2

module _ {D : Type 0} (g : disk.Ghosts D) where
  abbrev AreTwo : List (FileCall g) → Type 0
  AreTwo [] = ⊥
  AreTwo (call ∷ []) = ⊥
  AreTwo (call ∷ (other ∷ calls)) = ⊤

  abbrev first_or : FileCall g → List (FileCall g) → FileCall g
  first_or other [] = other
  first_or other (call ∷ calls) = call

  -- the first of two calls is among those that ended whole
  first_of_two : (one other last : FileCall g) (whole : List (FileCall g)) → one ∷ other ∷ [] ≡ whole ++ last ∷ [] → AllEndedWhole g whole → EndedWhole g one
  first_of_two one other last [] are all = absurd (subst AreTwo are tt)
  first_of_two one other last (it ∷ whole) are all = subst (EndedWhole g) (sym (ap (first_or one) are)) all.0

  first_whole : (one other : FileCall g) → AreCallsOf g (record { earlier = opening_for g one ∷ []; had = (tt, tt); last = ended_for g other }) (one ∷ other ∷ []) → EndedWhole g one
  first_whole one other are = first_of_two one other are.last are.whole are.are are.ended_whole

  -- an opening by which a store was made
  abbrev Made : {conn after : Held (FileStore D g)} → Did g conn after → Type 0
  Made (Called came) = ⊥
  Made (MadeStore register is makes) = ⊤

  abbrev MadeOver : {files : Files D} {left : Option (Files D)} → DoneOver g files left → Type 0
  MadeOver (Over over) = Made over.does
  MadeOver (Unconnected fails) = ⊥

  no_call : (register : RegisterValue) (is : IsRegister register) (files : Files D) (over : OverFiles g files (Some files) (Makes g register)) (db : Database) (is_found : IsFoundBehind g (made_over g register is over) db)
      (last : FileCall g) → record { opening = record { files = files; left = Some files; over = made_over g register is over }; found = db; is_found = is_found } ≡ ended_for g last → ⊥
  no_call register is files over db is_found last same = subst (λ (ended : Ended g). MadeOver ended.opening.over) same tt

  alone_is : (call : FileCall g) → AreCallsOf g (record { earlier = []; had = tt; last = ended_for g call }) (call ∷ [])
  alone_is call = record { whole = []; last = call; are = refl; earlier_are = refl; ended_whole = tt; last_is = refl }

  none_before : (opening : Opening g) (past : List (Opening g)) → [] ≡ past ++ opening ∷ [] → ⊥
  none_before opening [] is = cc
  none_before opening (first ∷ past) is = cc

pub returns : goal.returns
returns g c = record {
  found = λ path purpose files. (refl, refl, (refl, refl), λ path. refl);
  not_found = λ path purpose files it. let there = it.0 in absurd (cc);
  back = λ files. (refl, (refl, refl), λ path. refl);
  desks = λ text files says told old new deed done. kept text files says told old new deed done;
  opens = λ path purpose files. refl;
  not_there = λ path purpose files e. absurd (cc);
  closes = λ files. refl;
  not_lost = λ files e. absurd (cc);
  reads = λ path most bytes files e. absurd (cc);
  meets = λ met files e. absurd (cc);
  listens = λ port had files e. absurd (cc);
  in_vain = λ path purpose files e. absurd (cc);
  none = λ path purpose before after opened. refl;
  once = λ path purpose files before between after told opened it. refl;
  unread = λ text most random before after through ending ends. refl;
  again = λ files left one other first back second. (ap Some (sym first), (back ∙ ap Some (sym second), refl));
  not_again = λ files one other has none links. absurd (let there = links.1.0 in cc);
  refused_had = λ files over. tt;
  making_had = λ register is files over. tt;
  none_had = λ files fails it. it;
  refused_found = λ files over. refl;
  whole = λ files over fine. Whole fine refl;
  cut_off = λ files over db itself may. CutOff itself may;
  nothing_behind = λ files fails db it. it;
  follow = λ db one other found behind. (found, (behind, tt));
  not_follow = λ db one other not follow. not follow.1.0;
  calls = λ one other ended. record { whole = one ∷ []; last = other; are = refl; earlier_are = refl; ended_whole = (ended, tt); last_is = refl };
  not_cut_off = λ one other not are. not (first_whole g.S.Medium.Disk one other are);
  stretches = λ one other. (one ∷ [], other ∷ [], alone_is g.S.Medium.Disk one, (other ∷ [], [], alone_is g.S.Medium.Disk other, refl, refl), refl);
  making = λ register is files over db is_found calls are. no_call g.S.Medium.Disk register is files over db is_found are.last are.last_is;
  no_run = λ register new is files over db found is_found run. no_call g.S.Medium.Disk new is files over found is_found run.are.2.last run.are.2.last_is;
  before = λ text most session first last is. (first ∷ [], is);
  not_before = λ text most session opening none it. none_before g.S.Medium.Disk opening it.0 (sym none ∙ it.1);
}
