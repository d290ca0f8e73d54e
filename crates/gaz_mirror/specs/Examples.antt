-- Worked examples, computed from the definitions.
use Rattle.std.specs.Prelude.{◌≡◌, ◌≢◌, refl, true, false, [], ◌∷◌, None, Some, Option, Ok, Err}
use Rattle.std.proofs.lemmas.Option.{none-some}
use Rattle.std.specs.declared.alloc.Global.{Global}
use Rattle.gaz_keeper.specs.Examples.{first_received, kept_safe}
use Rattle.gaz_keeper.specs.Keeper.{Broken, Content, Idle, Open, Seen, after_stop, empty_content}
use Rattle.gaz_keeper.specs.Keeper.{with_working}
use Rattle.gaz_keeper.specs.declared.fault.ShelfFault.TheVariants.{Store}
use Rattle.gaz_keeper.specs.declared.shelf.Shelf.{Ghosts}
use Rattle.gaz_mirror.specs.Gathering.{AreThen, IsSameChange, made}
use Rattle.gaz_mirror.specs.InStep.{IsAhead, IsInStep}
use Rattle.gaz_mirror.specs.Mirrored.{DropsUpper, Gathers, KeepsUpper, SparesLower, seen_mirrored}
use Rattle.gaz_mirror.specs.Mirroring.{mirrored}
use Rattle.gaz_mirror.specs.declared.gathered.Change.{Change}
use Rattle.gaz_mirror.specs.declared.gathered.Change.TheVariants.{Adopt, Put, Release, Take}
use Rattle.gaz_mirror.specs.declared.gathered.Gathered.{Gathered}
use Rattle.gaz_mirror.specs.declared.mirror.Mirror.{Mirror}
use Rattle.gaz_records.specs.declared.item.Item.TheVariants as item
use Rattle.gaz_records.specs.declared.key.Key.TheVariants as key
use Rattle.gaz_views.specs.CustodyExamples.{alone, given_back, given_up, taken}
use Rattle.gaz_views.specs.Examples.{no_more, one_street, street}
use Rattle.gaz_views.specs.View.{View, empty_view}

-- ---- what is gathered

-- street 101 comes
abbrev pub comes : Change
comes = Put (record { item = street 101; entry = refl })

-- it goes
abbrev pub goes : Change
goes = Take (key.Street 101)

-- changes are made in their order
pub record WorkedChanges : Type 0 where
  pub none : made empty_view [] ≡ empty_view
  pub one : made empty_view (comes ∷ []) ≡ one_street
  pub both : made empty_view (comes ∷ goes ∷ []) ≡ no_more
  pub in_order : made empty_view (goes ∷ comes ∷ []) ≢ no_more
  pub same : IsSameChange comes comes
  pub not_same : ¬ IsSameChange comes goes
  pub added : AreThen (comes ∷ []) (comes ∷ goes ∷ []) true goes
  pub not_added : AreThen (comes ∷ []) (comes ∷ []) false goes
  pub lost : ¬ AreThen (comes ∷ []) (comes ∷ []) true goes

-- property 500 is adopted from 1001 at the first hop, or just put
abbrev pub takes : Change
takes = Adopt (record { blpu = item.Blpu alone; from = 1001; hop = 1; is_blpu = refl })

abbrev pub puts : Change
puts = Put (record { item = item.Blpu alone; entry = refl })

-- number 500 is released to 1002 at the first hop, or back to 1001 at the second
abbrev pub gives : Change
gives = Release 500 1002 1

abbrev pub gives_back : Change
gives_back = Release 500 1001 2

-- so are numbers passed on
pub record WorkedPassing : Type 0 where
  pub released : made empty_view (gives ∷ []) ≡ given_up
  pub adopted : made empty_view (takes ∷ []) ≡ taken
  pub both : made empty_view (takes ∷ gives_back ∷ []) ≡ given_back
  pub in_order : made empty_view (gives_back ∷ takes ∷ []) ≢ given_back
  pub same : IsSameChange takes takes
  pub not_a_put : ¬ IsSameChange takes puts
  pub not_a_take : ¬ IsSameChange gives (Take (key.Blpu 500))
  pub not_at_another_hop : ¬ IsSameChange gives gives_back
  pub added : AreThen (takes ∷ []) (takes ∷ gives_back ∷ []) true gives_back
  pub lost : ¬ AreThen (takes ∷ []) (takes ∷ []) true gives_back

-- ---- two keepers

-- two in step, and such as aren't
pub record WorkedSteps : Type 0 where
  pub idle : IsInStep Idle Idle
  pub in_one_judgement : IsInStep (Open 1) (Open 1)
  pub behind : ¬ IsInStep (Open 1) Idle
  pub in_another : ¬ IsInStep (Open 1) (Open 2)
  pub broken : ¬ IsInStep Broken Broken

-- one ahead of the other by what was gathered of custodian 1
pub record WorkedLeads (gathered : Gathered) (of_one : gathered.code ≡ 1) : Type 0 where
  pub ahead : IsAhead Idle (Open 1) gathered
  pub both_in_it : ¬ IsAhead (Open 1) (Open 1) gathered
  pub of_another : ¬ IsAhead Idle (Open 2) gathered
  pub tried : gathered.tried ≡ true → IsAhead Broken (Open 1) gathered
  pub untried : gathered.tried ≡ false → ¬ IsAhead Broken (Open 1) gathered

-- ---- keepers over two

-- keepers that are just their content
abbrev pub contents : Ghosts Content
contents = record { seen = kept_safe }

pub idle_is_whole : Idle ≢ Broken
idle_is_whole is = cc

-- a keeper over one such or two, of which none is judging
abbrev pub over : Global → Content → Option Content → Mirror Content Content contents contents
over alloc lower upper = record {
  lower = lower;
  upper = upper;
  gathered = None;
  alloc = alloc;
  in_step = λ none u is. record { same = refl; whole = idle_is_whole };
  at_hand = λ g is. absurd (none-some g is);
  ahead = λ g is. absurd (none-some g is);
}

-- where both have one content, it is seen as that; where not, it stands for nothing
pub record WorkedMirrors (alloc : Global) : Type 0 where
  pub alone : (seen_mirrored (over alloc first_received None)).stands
  pub alike : (seen_mirrored (over alloc first_received (Some first_received))).stands
  pub apart : ¬ (seen_mirrored (over alloc first_received (Some empty_content))).stands
  pub content : (seen_mirrored (over alloc first_received (Some empty_content))).content
      ≡ first_received
  pub stops : (seen_mirrored (over alloc first_received (Some empty_content))).leaves
      (after_stop first_received)
  pub gathers : ¬ Gathers (over alloc first_received (Some first_received))

-- what was gathered, where the upper keeper's content is this one
abbrev pub gathered_above : Gathered → Content → Seen
gathered_above gathered above =
    mirrored kept_safe (kept_safe first_received) (Some above) (Some gathered)

-- the first volume of 1001 is judged, and what is gathered of it makes this view and not another
pub record WorkedGathered (gathered : Gathered) (view another : View) : Type 0 where
  pub stands : (gathered_above gathered (with_working first_received view)).stands
  pub content : (gathered_above gathered (with_working first_received view)).content
      ≡ with_working first_received view
  pub progress : (gathered_above gathered (with_working first_received view)).progress ≡ Open 1001
  pub stops : (gathered_above gathered (with_working first_received view)).leaves
      (after_stop first_received)
  pub not_another : ¬ (gathered_above gathered (with_working first_received another)).stands
  pub no_file : ¬ (gathered_above gathered (with_working empty_content view)).stands

-- what a call leaves of the two
pub record WorkedCalls (alloc : Global) : Type 0 where
  pub kept : KeepsUpper (over alloc first_received (Some first_received))
      (over alloc first_received (Some first_received))
  pub none_to_keep : KeepsUpper (over alloc empty_content None) (over alloc first_received None)
  pub not_kept : ¬ KeepsUpper (over alloc first_received (Some first_received))
      (over alloc first_received None)
  pub answered : DropsUpper {T = Unit {0}} (Ok tt) (over alloc first_received (Some first_received))
  pub dropped : DropsUpper {T = Unit {0}} (Err Store) (over alloc first_received None)
  pub not_dropped : ¬ DropsUpper {T = Unit {0}} (Err Store)
      (over alloc first_received (Some first_received))
  pub spared : SparesLower (over alloc first_received (Some empty_content))
      (over alloc first_received (Some first_received))
  pub none_to_spare_for : SparesLower (over alloc empty_content (Some empty_content))
      (over alloc first_received None)
  pub not_spared : ¬ SparesLower (over alloc empty_content (Some empty_content))
      (over alloc first_received (Some first_received))

pub record WorkedExamples : Type 0 where
  pub on_changes : WorkedChanges
  pub on_passing : WorkedPassing
  pub on_steps : WorkedSteps
  pub on_leads : (gathered : Gathered) (of_one : gathered.code ≡ 1) → WorkedLeads gathered of_one
  pub on_mirrors : (alloc : Global) → WorkedMirrors alloc
  pub on_gathered : (gathered : Gathered) → gathered.code ≡ 1001
      → gathered.changes.items ≡ comes ∷ goes ∷ [] → WorkedGathered gathered no_more one_street
  pub on_passed_on : (gathered : Gathered) → gathered.code ≡ 1001
      → gathered.changes.items ≡ takes ∷ gives_back ∷ [] → WorkedGathered gathered given_back taken
  pub on_calls : (alloc : Global) → WorkedCalls alloc
