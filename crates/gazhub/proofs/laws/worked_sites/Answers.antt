use Rattle.std.proofs.Common.{◌≡◌, ◌-◌, List, [], ◌∷◌, ℕ, None, Some, true, refl}
use Rattle.sqlite_disk.specs.declared.Disk as disk
use Rattle.gaz_stored.specs.Meetings.{Came, Left}
use Rattle.gaz_words.specs.declared.command.Places.{Places}
use Rattle.gazhub.specs.Serving.{More, NoMore, ServesRest, Untold, Whole}
use Rattle.gazhub.specs.Sites.{Deed, Listened, Met, NoFiles}
use Rattle.gazhub.specs.WorkedSites.{noted, read_in_vain}
use Rattle.gazhub.specs.declared.ending.Ending.{Ending}
use Rattle.gazhub.specs.declared.ending.Ending.TheVariants.{NoHub}
use Rattle.gazhub.specs.declared.files.NoHub.{NoHub as WhyNoHub}
use Rattle.gazhub.proofs.laws.worked_sites.Goals as goal

-- no hub was missed behind the first opening
never_missed : {D : Type 0} (g : disk.Ghosts D) (places : Places) (port left : ℕ) (before after : List (Deed D)) (ending : Ending) (why : WhyNoHub) → ServesRest (noted g) g places port left before after ending → ending ≡ NoHub why → ⊥
never_missed g places port left before after ending why (Whole site) is = cc
never_missed g places port left before after ending why (More some served first between last how once rest) is = never_missed g places port (left - served) between after ending why rest is
never_missed g places port left before after ending why (Untold some first last once) is = cc
never_missed g places port left before after ending why (NoMore some first last other once) is = cc

pub returns : goal.returns
returns g c = record {
  read = λ path. (read_in_vain g.D.Disk path, refl, refl);
  not_read = λ path it. absurd (let first = it.1 in let last = it.2 in cc);
  read_some = refl;
  not_more = λ e. absurd (cc);
  register_there = refl;
  change_there = refl;
  unreadable = λ path. record { bytes = None; does = refl; told = refl; is_one = tt };
  not_found = λ path register it.
      let bytes : it.bytes ≡ None = let does = it.does in cc in
      absurd (let told = rw bytes at it.told in cc);
  submits = λ code volume path bytes. refl;
  not_submitted = λ code volume path bytes e. absurd (cc);
  asks = λ code. refl;
  no_files = λ path purpose. NoFiles refl refl;
  meets = λ port said told. (Listened port (Some port) ∷ [], refl, (Listened port (Some port) ∷ Met (Came said (Some [])) ∷ [], refl, (Listened port (Some port) ∷ Met (Came said (Some [])) ∷ Met (Left (Some []) told true) ∷ [], refl, refl)));
  not_met = λ port it. absurd (let first = it.1 in let second = it.2.1 in let last = it.2.2 in cc);
  failed = λ fault. (refl, refl);
  not_done = λ fault it. absurd (let same = it.0 in cc);
  none_left = λ places port site. Whole site;
  lost = λ places port left after why it. never_missed g.D.Disk places port left [] after _ why it refl;
  usage = refl;
  not_done_well = λ e. absurd (cc);
  shown = tt;
  not_usage = λ it. it;
}
