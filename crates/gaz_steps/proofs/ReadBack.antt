-- The items of the views on a board are such as the table allows, so that extracts give views back.
use Rattle.std.proofs.Common.{◌≡◌, ◌∙◌, ◌+◌, ℕ, Bool, true, false, ◌&&◌, cond, List, [], ◌∷◌, ◌++◌, refl, sym, ap, subst}
use Rattle.std.specs.Prelude.{Some, None, fold}
use Rattle.std.specs.FinMap as map
use Rattle.std.specs.List.{All}
use Rattle.std.specs.Option.{option_map}
use Rattle.std.specs.Ordering.{eq_by_cmp}
use Rattle.std.proofs.lemmas.List.Elements.{All-head, All-map, All-tail}
use Rattle.gaz_records.proofs.KeyOrder.{keys_total}
use Rattle.gaz_records.specs.Blpus.{is_blpu}
use Rattle.gaz_records.specs.Items.{is_item}
use Rattle.gaz_records.specs.Releases.{is_code, is_hop}
use Rattle.gaz_records.specs.Keys.{key_cmp, key_of}
use Rattle.gaz_records.specs.declared.item.Item.{Item}
use Rattle.gaz_records.specs.declared.item.Item.TheVariants as item
use Rattle.gaz_records.specs.declared.key.Key.{Key}
use Rattle.gaz_records.specs.declared.key.Key.TheVariants as key
use Rattle.gaz_changefile.proofs.Typed.{readings_are_typed}
use Rattle.gaz_changefile.specs.Reading.{Bad, Good, Reading, reading}
use Rattle.gaz_changefile.specs.declared.action.Action.{Action}
use Rattle.gaz_changefile.specs.declared.action.Action.TheVariants.{Delete, Insert, Update}
use Rattle.gaz_changefile.specs.declared.change.Change.{Change}
use Rattle.gaz_register.specs.Registers.{Blocks, Owners}
use Rattle.gaz_views.proofs.Emptiness.{get_none}
use Rattle.gaz_views.proofs.Pages.{of_rows}
use Rattle.gaz_views.specs.View.{View, empty_view, with_item, without_key}
use Rattle.gaz_views.specs.Words.{entries}
use Rattle.gaz_rules.proofs.SoundBoards.{on_empty_board, on_more}
use Rattle.gaz_end_rules.specs.Bases.{basis_views}
use Rattle.gaz_rules.specs.Judging.{Fault, bases_of, end_faults, judge, judged_by_faults, judged_on, record_faults}
use Rattle.gaz_rules.specs.Rules.{effect, effect_of, entry_effect}
use Rattle.gaz_keeper.specs.Board.{Board, empty_board, last_view, reached, view_after}
use Rattle.gaz_keeper.specs.Received.{Received}
use Rattle.gaz_extract.proofs.ReadBack.{extracts_back}
use Rattle.gaz_extract.specs.Laws.{HasItems}
use Rattle.gaz_steps.specs.ReadBack.{AllAllowed, AllGivenBack, BoardsReadBack, HasAllowed}
use Rattle.gaz_steps.specs.Standing.{Leads, judge_one, ready}
use Rattle.gaz_steps.proofs.Added.{added_is}
use Rattle.gaz_steps.proofs.Headline.{all_sound_holds}
use Rattle.gaz_steps.proofs.Orders.{ready_gives}
use Rattle.gaz_steps.proofs.Prefixes.{both_parts}

-- ---- one view

allowed_empty : HasAllowed empty_view
allowed_empty k i there = let none : Some i ≡ None = sym there ∙ get_none k in cc

allowed_put : (v : View) (i : Item) → is_item i ≡ true → HasAllowed v → HasAllowed (with_item v i)
allowed_put v i allowed was k j there = by_tie (eq_by_cmp key_cmp k (key_of i)) (sym (map.get-insert keys_total v.items (key_of i) i k) ∙ there)
  where
    by_tie : (b : Bool) → cond b (Some i) (map.get v.items k) ≡ Some j → is_item j ≡ true
    by_tie true is = let same : i ≡ j = cc in subst (λ x. is_item x ≡ true) same allowed
    by_tie false is = was k j is

allowed_taken : (v : View) (key : Key) → HasAllowed v → HasAllowed (without_key v key)
allowed_taken v key was k j there = by_tie (eq_by_cmp key_cmp k key) (sym (map.get-remove keys_total v.items key k) ∙ there)
  where
    by_tie : (b : Bool) → cond b None (map.get v.items k) ≡ Some j → is_item j ≡ true
    by_tie true is = let none : None ≡ Some j = is in cc
    by_tie false is = was k j is

allowed_entry : (a : Action) (v : View) (i : Item) → is_item i ≡ true → HasAllowed v → HasAllowed (entry_effect a v i)
allowed_entry Insert v i allowed was = allowed_put v i allowed was
allowed_entry Update v i allowed was = allowed_put v i allowed was
allowed_entry Delete v i allowed was = allowed_taken v (key_of i) was

allowed_effect : (a : Action) (v : View) (i : Item) → is_item i ≡ true → HasAllowed v → HasAllowed (effect_of a v i)
allowed_effect a v (item.Street x) allowed was = allowed_entry a v (item.Street x) allowed was
allowed_effect a v (item.Descriptor x) allowed was = allowed_entry a v (item.Descriptor x) allowed was
allowed_effect a v (item.Blpu x) allowed was = allowed_entry a v (item.Blpu x) allowed was
allowed_effect a v (item.Xref x) allowed was = allowed_entry a v (item.Xref x) allowed was
allowed_effect a v (item.Lpi x) allowed was = allowed_entry a v (item.Lpi x) allowed was
allowed_effect a v (item.Release x) allowed was = allowed_taken v (key.Blpu x.uprn) was
allowed_effect a v (item.Adopt x) allowed was = allowed_put v (item.Blpu x.blpu) (both_parts (is_blpu x.blpu) (is_code x.from) (both_parts (is_blpu x.blpu && is_code x.from) (is_hop x.hop) allowed).0).0 was

allowed_effects : (changes : List Change) (v : View) → All (λ x. is_item x.item ≡ true) changes → HasAllowed v → HasAllowed (fold effect v changes)
allowed_effects [] v all was = was
allowed_effects (x ∷ xs) v all was =
    let first = All-head (λ (x : Change). is_item x.item ≡ true) x xs all in
    let others = All-tail (λ (x : Change). is_item x.item ≡ true) x xs all in
    allowed_effects xs (effect v x) others (allowed_effect x.action v x.item first was)

-- ---- one judgement

by_faults : (v w : View) (faults : List Fault) → HasAllowed v → HasAllowed w → HasAllowed (judged_by_faults v w faults).view
by_faults v w [] was now = now
by_faults v w (fault ∷ faults) was now = was

allowed_judged : (own : Blocks) (v : View) (others : List (ℕ × View)) (bytes : List ℕ) (c volume : ℕ) (r : Reading) → reading bytes c volume ≡ r → HasAllowed v
    → HasAllowed (judge c own v others r).view
unfolding judge
allowed_judged own v others bytes c volume (Good file) e was =
    let w = fold effect v file.changes in
    by_faults v w (record_faults c own others v file.changes ++ end_faults w others file.changes) was
    (allowed_effects file.changes v (readings_are_typed bytes c volume file e).items was)
allowed_judged own v others bytes c volume (Bad place rule) e was = was

-- ---- a board

IsAllowedBoard : Board → Type 0
IsAllowedBoard B = (c volume : ℕ) → HasAllowed (view_after B c volume)

one_allowed : (G : Owners) (F : Received) (B : Board) (c : ℕ) → IsAllowedBoard B → ready F B c ≡ true → IsAllowedBoard (judge_one G F B c)
unfolding IsAllowedBoard
one_allowed G F B c was h =
    let is = ready_gives F B c h in
    let volume = reached B c + 1 in
    let r = reading is.bytes c volume in
    let good = allowed_judged (G c) (last_view B c) (basis_views B (bases_of r)) is.bytes c volume r refl (was c (reached B c)) in
    subst IsAllowedBoard (added_is G F B c r (ap (option_map (λ bytes. reading bytes c volume)) is.came))
    (on_more (λ d. HasAllowed) (λ d. allowed_empty) B c (judged_on (G c) B c r) was good)

leads_allowed : (G : Owners) (F : Received) (B : Board) (order : List ℕ) (C : Board) → IsAllowedBoard B → Leads G F B order C → IsAllowedBoard C
leads_allowed G F B [] C was e = subst IsAllowedBoard (sym e) was
leads_allowed G F B (c ∷ order) C was l = leads_allowed G F (judge_one G F B c) order C (one_allowed G F B c was l.0) l.1

all_allowed : AllAllowed
unfolding IsAllowedBoard
all_allowed G F B partial = leads_allowed G F empty_board partial.order B (on_empty_board (λ d. HasAllowed) (λ d. allowed_empty)) partial.leads

-- ---- its extracts

has_items : (v : View) → HasAllowed v → HasItems v
has_items v allowed =
    All-map (λ (i : Item). is_item i ≡ true) (λ (e : Key × Item). e.1) (entries v)
    (of_rows (λ (e : Key × Item). is_item e.1 ≡ true) (entries v) (map.entries_sorted v.items) (λ k i is. allowed k i (map.get-entries v.items k ∙ is)))

all_given_back : AllGivenBack
all_given_back register F B is partial c volume text e =
    extracts_back B c volume text e (all_sound_holds register F B is partial c volume).keyed (has_items (view_after B c volume) (all_allowed _ F B partial c volume))

pub boards_read_back_holds : BoardsReadBack
boards_read_back_holds = record { items = all_allowed; extracts = all_given_back }
