-- What is held of a command's words that are taken without a fault: for each argument one value, which passes.
use Rattle.std.proofs.Common.{arith, ◌≡◌, ◌∙◌, ◌&&◌, ◌||◌, ◌++◌, ℕ, zero, suc, Bool, true, false, not, cond, List, [], ◌∷◌, Option, Some, None, ap, ap₂, refl, sym, subst, true≢false, length, find, filter, is_some, slice_get, fold, bytes_eq, drop, encode_utf8, chars, inl, inr}
use Rattle.std.specs.Prelude.{if◌then◌else◌, option_and_then, option_map}
use Rattle.std.specs.List.{AllByRecursion, list_all, list_any}
use Rattle.std.specs.Option.{option_map_or}
use Rattle.std.proofs.lemmas.Bool.{eqb-true}
use Rattle.clap.specs.Facts.{explicit_source, unwrap_or_range}
use Rattle.clap.specs.Faults.{action_fault, bundle_step_fault, flag_word_fault, flags_fault, level_fault, long_fault, option_fault, positional_fault, react_fault, settle_fault, short_fault, step_fault, stray_fault, turn_fault, use_fault, walk_fault, word_fault}
use Rattle.clap.specs.Lexer.{long_of, short_of}
use Rattle.clap.specs.Kinds.{Kinds, check_kinds, or_else, range_kinds}
use Rattle.clap.specs.Simple.{Shape}
use Rattle.clap.specs.Takes.{is_given, value_passes}
use Rattle.clap.specs.Values.{read_as}
use Rattle.clap.specs.Walk as walk
use Rattle.clap.specs.Walk.{Held, Outcome, Row, Rule, Step, Text, Waiting, Walk, action_of, arg_by_id, at_row, has_row, nothing_held}
use Rattle.gaz_words.specs.Meaning.{IsGiven, wanted_by}
use Rattle.clap.specs.declared.builder.action.ArgAction.{ArgAction}
use Rattle.clap.specs.declared.builder.action.ArgAction.TheVariants.{Set, Append, SetTrue, SetFalse, Count, Help, HelpShort, HelpLong, Version}
use Rattle.clap.specs.declared.error.kind.ErrorKind.{ErrorKind}
use Rattle.clap.specs.declared.error.kind.ErrorKind.TheVariants.{ArgumentConflict, TooManyValues}
use Rattle.clap.specs.declared.parser.matches.ValueSource.TheVariants.{CommandLine}
use Rattle.gaz_words.proofs.Lists.{Among, are_distinct, both, each, first_is, found_among, is_nil, is_plain, is_plain_by, neither, not_either, not_not, one_value, same_text}

-- ---- the rows, of a command whose arguments are plain and of distinct names

module _ (s : Shape) (once : s.args_override_self ≡ false) (plain : list_all is_plain s.rules ≡ true) (distinct : are_distinct s.rules ≡ true) where
  abbrev rules : List Rule
  rules = s.rules

  abbrev again : Bool
  again = s.args_override_self

  -- one value of an argument, which passes
  abbrev IsGood : Row → Type 0
  IsGood r = (a : Rule) × (v : Text) × (arg_by_id rules r.id ≡ Some a) × (r.values ≡ v ∷ []) × (value_passes a v ≡ true) × (r.reading ≡ walk.reading_by a)

  abbrev AreGood : List Row → Type 0
  AreGood = AllByRecursion IsGood

  -- nothing of this name goes or is changed where nothing has it
  at_end : (id : Text) (change : Row → List Row) (missing rows : List Row) → has_row id rows ≡ false → AreGood missing → AreGood rows → AreGood (at_row id change missing rows)
  at_end id change missing [] none more good = more
  at_end id change missing (r ∷ rows) none more good = go (bytes_eq r.id id) (λ none. at_end id change missing rows none more good.1) none
    where
      go : (b : Bool) → (has_row id rows ≡ false → AreGood (at_row id change missing rows)) → (b || has_row id rows) ≡ false → AreGood (if b then change r ++ rows else r ∷ at_row id change missing rows)
      go true later none = absurd (true≢false none)
      go false later none = (good.0, later none)

  kept : (id : Text) (rows : List Row) → has_row id rows ≡ false → at_row id (λ _. []) [] rows ≡ rows
  kept id [] none = refl
  kept id (r ∷ rows) none = go (bytes_eq r.id id) (kept id rows) none
    where
      go : (b : Bool) → (has_row id rows ≡ false → at_row id (λ _. []) [] rows ≡ rows) → (b || has_row id rows) ≡ false → (if b then [] ++ rows else r ∷ at_row id (λ _. []) [] rows) ≡ r ∷ rows
      go true later none = absurd (true≢false none)
      go false later none = ap (λ more. r ∷ more) (later none)

  -- what is known of an argument that was found
  abbrev IsOne : Rule → Type 0
  IsOne a = (is_plain a ≡ true) × (arg_by_id rules a.id ≡ Some a)

  one_of_them : (q : Rule → Bool) (a : Rule) → find q rules ≡ Some a → IsOne a
  one_of_them q a e =
      let at = found_among q rules a e in
      (each is_plain rules a plain at, first_is rules a distinct at)

  not_both : (here : Bool) → (if here && not again then ArgumentConflict ∷ [] else []) ≡ [] → here ≡ false
  not_both false e = refl
  not_both true e =
      let bad : ArgumentConflict ∷ [] ≡ [] = rw once at e in
      absurd (cc)

  passes_of : (b : Bool) (k : ErrorKind) → or_else (if b then [] else k ∷ []) [] ≡ [] → b ≡ true
  passes_of true k e = refl
  passes_of false k e = absurd (cc)

  -- a use of an argument of one value
  set_good : (a : Rule) (values : List Text) (rows : List Row) → arg_by_id rules a.id ≡ Some a → length values ≡ 1 → action_fault Set again a (walk.values_or_missing a values) rows ≡ [] → AreGood rows
      → AreGood (walk.used_as Set a.id (walk.reading_by a) (walk.values_or_missing a values) rows)
  set_good a [] rows first one none good = absurd (omega arith)
  set_good a (v ∷ []) rows first one none good =
      let parts = neither _ _ none in
      let fresh : has_row a.id rows ≡ false = not_both (has_row a.id rows) parts.0 in
      let passes : value_passes a v ≡ true = passes_of _ _ parts.1 in
      let new : Row = record { id = a.id; values = v ∷ []; count = None; source = Some CommandLine; reading = walk.reading_by a } in
      subst (λ rest. AreGood (at_row a.id (walk.more_values CommandLine (v ∷ [])) (new ∷ []) rest)) (sym (kept a.id rows fresh))
      (at_end a.id (walk.more_values CommandLine (v ∷ [])) (new ∷ []) rows fresh ((a, v, first, refl, passes, refl), tt) good)
  set_good a (v ∷ (w ∷ more)) rows first one none good = absurd (omega arith)

  use_by : (x : ArgAction) (a : Rule) (values : List Text) (rows : List Row) → is_plain_by x a ≡ true → arg_by_id rules a.id ≡ Some a
      → or_else (range_kinds (unwrap_or_range a.range).start_inclusive (unwrap_or_range a.range).end_inclusive (length values)) (action_fault x again a (walk.values_or_missing a values) rows) ≡ [] → AreGood rows
      → AreGood (walk.used_as x a.id (walk.reading_by a) (walk.values_or_missing a values) rows)
  use_by Set a values rows plain first none good =
      let ends = both _ _ plain in
      let parts = neither _ _ none in
      set_good a values rows first (one_value (unwrap_or_range a.range).start_inclusive (unwrap_or_range a.range).end_inclusive values (eqb-true _ _ ends.0) (eqb-true _ _ ends.1) parts.0) parts.1 good
  use_by Append a values rows plain first none good = absurd (true≢false (sym plain))
  use_by SetTrue a values rows plain first none good = absurd (true≢false (sym plain))
  use_by SetFalse a values rows plain first none good = absurd (true≢false (sym plain))
  use_by Count a values rows plain first none good = absurd (true≢false (sym plain))
  use_by Help a values rows plain first none good = good
  use_by HelpShort a values rows plain first none good = good
  use_by HelpLong a values rows plain first none good = good
  use_by Version a values rows plain first none good = good

  use_good : (a : Rule) (values : List Text) (rows : List Row) → IsOne a → use_fault again a values rows ≡ [] → AreGood rows → AreGood (walk.used a values rows)
  use_good a values rows one none good = use_by (action_of a) a values rows (both _ _ one.0).0 one.1 none good

  -- ---- what is held

  settle_good : (pending : Option (Text × List Text)) (rows : List Row) → option_map_or (λ p. option_map_or (λ a. use_fault again a p.1 rows) (arg_by_id rules p.0) []) pending [] ≡ [] → AreGood rows
      → AreGood (walk.settled_rows rules pending rows)
  settle_good None rows none good = good
  settle_good (Some p) rows none good = go (arg_by_id rules p.0) refl none
    where
      go : (found : Option Rule) → arg_by_id rules p.0 ≡ found → option_map_or (λ a. use_fault again a p.1 rows) found [] ≡ [] → AreGood (walk.used_by_id found p.1 rows)
      go None e none = good
      go (Some a) e none = use_good a p.1 rows (one_of_them _ a e) none good

  react_good : (a : Rule) (values : List Text) (h : Held) → IsOne a → react_fault rules again a values h ≡ [] → AreGood h.rows → AreGood (walk.reacted rules a values h).rows
  react_good a values h one none good =
      let parts = neither _ _ none in
      use_good a values _ one parts.1 (settle_good h.pending h.rows parts.0 good)

  option_good : (a : Rule) (v : Option Text) (h : Held) → IsOne a → option_fault rules again a v h ≡ [] → AreGood h.rows → AreGood (walk.option_met rules a v h).0.rows
  option_good a (Some v) h one none good = react_good a (v ∷ []) h one none good
  option_good a None h one none good = settle_good h.pending h.rows none good

  long_good : (found : Option Rule) (v : Option Text) (h : Held) → ((a : Rule) → found ≡ Some a → IsOne a) → long_fault rules again found v h ≡ [] → AreGood h.rows → AreGood (walk.long_met rules found v h).0.rows
  long_good None v h one none good = good
  long_good (Some a) v h one none good = go (walk.takes_values a) v none
    where
      go : (b : Bool) (v : Option Text) → (if b then option_fault rules again a v h else (if is_some v then TooManyValues ∷ [] else react_fault rules again a [] h)) ≡ []
          → AreGood (if b then walk.option_met rules a v h else walk.flag_met rules a v h).0.rows
      go true v none = option_good a v h (one a refl) none good
      go false (Some v) none = good
      go false None none = react_good a [] h (one a refl) none good

  short_good : (found : Option Rule) (rest : Text) (h : Held) (fault : Held → Kinds) (next : Held → Held × Outcome) → ((a : Rule) → found ≡ Some a → IsOne a)
      → ((h : Held) → fault h ≡ [] → AreGood h.rows → AreGood (next h).0.rows) → short_fault rules again found rest h fault ≡ [] → AreGood h.rows → AreGood (walk.short_met rules found rest h next).0.rows
  short_good None rest h fault next one later none good = good
  short_good (Some a) rest h fault next one later none good = go (walk.takes_values a) none
    where
      go : (b : Bool) → (if b then option_fault rules again a (walk.attached_value rest) h else or_else (react_fault rules again a [] h) (fault (walk.reacted rules a [] h))) ≡ []
          → AreGood (if b then walk.option_met rules a (walk.attached_value rest) h else next (walk.reacted rules a [] h)).0.rows
      go true none = option_good a (walk.attached_value rest) h (one a refl) none good
      go false none =
          let parts = neither _ _ none in
          later (walk.reacted rules a [] h) parts.1 (react_good a [] h (one a refl) parts.0 good)

  bundle_good : (k : ℕ) (flags : Text) (skip : ℕ) (so_far : Outcome) (h : Held) → flags_fault rules again k flags skip h ≡ [] → AreGood h.rows → AreGood (walk.bundle_met rules k flags skip so_far h).0.rows
  unfolding flags_fault walk.bundle_met
  bundle_good zero flags skip so_far h none good = good
  bundle_good (suc k) flags skip so_far h none good = go (slice_get (chars flags) 0) skip (bundle_good k) none
    where
      go : (x : Option ℕ) (skip : ℕ) → ((flags : Text) (skip : ℕ) (so_far : Outcome) (h : Held) → flags_fault rules again k flags skip h ≡ [] → AreGood h.rows → AreGood (walk.bundle_met rules k flags skip so_far h).0.rows)
          → bundle_step_fault rules again x flags skip h (flags_fault rules again k) ≡ [] → AreGood (walk.bundle_step rules x flags skip so_far h (walk.bundle_met rules k)).0.rows
      go None skip later none = good
      go (Some x) zero later none =
          let rest = drop (length (encode_utf8 x)) flags in
          short_good (walk.arg_by_short rules x) rest h (flags_fault rules again k rest 0) (walk.bundle_met rules k rest 0 walk.done) (λ a e. one_of_them _ a e) (later rest 0 walk.done) none good
      go (Some x) (suc skip) later none = later (drop (length (encode_utf8 x)) flags) skip so_far h none good

  -- ---- the walk

  plain_good : (waiting : Waiting) (word : Text) (h : Held) → AreGood h.rows → AreGood (walk.plain_word rules waiting word h).0.rows
  plain_good walk.idle word h good = good
  plain_good walk.positional word h good = good
  plain_good (walk.option id) word h good = go (arg_by_id rules id)
    where
      go : (found : Option Rule) → AreGood (walk.option_word found id word h).0.rows
      go None = good
      go (Some a) = good

  after_good : (o : Outcome) (waiting : Waiting) (word : Text) (h : Held) → AreGood h.rows → AreGood (walk.after_flag rules waiting word h o).0.rows
  after_good walk.done waiting word h good = good
  after_good (walk.waits id) waiting word h good = good
  after_good walk.plain waiting word h good = plain_good waiting word h good
  after_good walk.refused waiting word h good = plain_good waiting word h good

  flag_word_good : (p : Option (Text × Option Text)) (waiting : Waiting) (word : Text) (h : Held) → flag_word_fault rules again p word h ≡ [] → AreGood h.rows → AreGood (walk.long_or_other rules waiting word p h).0.rows
  flag_word_good (Some p) waiting word h none good =
      after_good _ waiting word _ (long_good (walk.arg_by_long rules p.0) p.1 h (λ a e. one_of_them _ a e) none good)
  flag_word_good None waiting word h none good = go (short_of word) none
    where
      go : (flags : Option Text) → option_map_or (λ flags. flags_fault rules again (length flags) flags h.skip (record h { skip = 0 })) flags [] ≡ [] → AreGood (walk.short_or_plain rules waiting word flags h).0.rows
      go None none = plain_good waiting word h good
      go (Some flags) none = after_good _ waiting word _ (bundle_good (length flags) flags h.skip walk.plain (record h { skip = 0 }) none good)

  other_good : (b : Bool) (waiting : Waiting) (position : ℕ) (word : Text) (h : Held) → (if b then [] else flag_word_fault rules again (long_of word) word h) ≡ [] → AreGood h.rows
      → AreGood (if b then (h, walk.trailing position) else walk.long_or_other rules waiting word (long_of word) h).0.rows
  other_good true waiting position word h none good = good
  other_good false waiting position word h none good = flag_word_good (long_of word) waiting word h none good

  word_good : (is_trailing : Bool) (waiting : Waiting) (position : ℕ) (word : Text) (h : Held) → word_fault s [] is_trailing waiting word h ≡ [] → AreGood h.rows
      → AreGood (walk.word_met rules [] is_trailing waiting position word h).0.rows
  word_good true waiting position word h none good = good
  word_good false walk.idle position word h none good = other_good _ walk.idle position word h none good
  word_good false (walk.option id) position word h none good = other_good _ (walk.option id) position word h none good
  word_good false walk.positional position word h none good = other_good _ walk.positional position word h none good

  pushed_good : (b : Bool) (a : Rule) (word : Text) (h : Held) → (if b then [] else settle_fault rules again h) ≡ [] → AreGood h.rows → AreGood (walk.pushed a.id word (if b then h else walk.settled rules h)).rows
  pushed_good true a word h none good = good
  pushed_good false a word h none good = settle_good h.pending h.rows none good

  step_good : (w : Walk) (word : Text) (h : Held) (step : Step) → step_fault s w.position h step ≡ [] → AreGood h.rows → AreGood (walk.after_step rules word w h step).held.rows
  step_good w word h (walk.next waiting) none good = good
  step_good w word h (walk.trailing position) none good = good
  step_good w word h (walk.subcommand name) none good = good
  step_good w word h walk.value none good = go (walk.arg_by_index rules w.position) none
    where
      go : (found : Option Rule) → option_map_or (λ a. positional_fault rules again a h) found (stray_fault s) ≡ [] → AreGood (walk.to_positional rules found word w h).held.rows
      go None none = good
      go (Some a) none = pushed_good (walk.is_pending a h.pending && walk.takes_several a) a word h none good

  turn_good : (w : Walk) (word : Text) → turn_fault s [] w word ≡ [] → AreGood w.held.rows → AreGood (walk.walked rules [] w word).held.rows
  unfolding walk.walked
  turn_good w word none good = go w.stopped none
    where
      go : (stopped : Option (Text × List Text))
          → (let met = walk.word_met rules [] w.is_trailing w.waiting w.position word w.held in
          if is_some stopped then [] else or_else (word_fault s [] w.is_trailing w.waiting word w.held) (step_fault s w.position met.0 met.1)) ≡ []
          → AreGood (walk.walked_from rules [] stopped w word).held.rows
      go (Some p) none = good
      go None none =
          let parts = neither _ _ none in
          step_good w word _ _ parts.1 (word_good w.is_trailing w.waiting w.position word w.held parts.0 good)

  walk_good : (words : List Text) (w : Walk) → walk_fault s [] w words ≡ [] → AreGood w.held.rows → AreGood (fold (walk.walked rules []) w words).held.rows
  unfolding walk_fault
  walk_good [] w none good = good
  walk_good (word ∷ words) w none good =
      let parts = neither _ _ none in
      walk_good words (walk.walked rules [] w word) parts.1 (turn_good w word parts.0 good)

  -- ---- behind the walk

  no_default : (a : Rule) (rows : List Row) → is_plain a ≡ true → walk.with_default rows a ≡ rows
  no_default a rows is = go (has_row a.id rows)
    where
      go : (b : Bool) → (if b then rows else walk.default_rows a.id (walk.reading_by a) a.defaults rows) ≡ rows
      go true = refl
      go false = ap (λ values. walk.default_rows a.id (walk.reading_by a) values rows) (is_nil a.defaults (both (is_plain_by (action_of a) a) _ is).1)

  no_defaults : (xs : List Rule) (rows : List Row) → list_all is_plain xs ≡ true → fold walk.with_default rows xs ≡ rows
  no_defaults [] rows all = refl
  no_defaults (a ∷ xs) rows all =
      let parts = both (is_plain a) (list_all is_plain xs) all in
      ap (λ rows. fold walk.with_default rows xs) (no_default a rows parts.0) ∙ no_defaults xs rows parts.1

  find_good : (q : Row → Bool) (rows : List Row) (r : Row) → find q rows ≡ Some r → AreGood rows → (q r ≡ true) × IsGood r
  find_good q [] r e good = absurd (cc)
  find_good q (x ∷ rows) r e good = go (q x) refl (λ e. find_good q rows r e good.1) e
    where
      go : (b : Bool) → q x ≡ b → (find q rows ≡ Some r → (q r ≡ true) × IsGood r) → cond b (Some x) (find q rows) ≡ Some r → (q r ≡ true) × IsGood r
      go true hit later e =
          let same : x ≡ r = cc in
          (subst (λ r. q r ≡ true) same hit, subst IsGood same good.0)
      go false hit later e = later e

  given_one : (rows : List Row) (a : Rule) → AreGood rows → Among a rules → is_given a.id rows ≡ true → IsGiven rows a
  given_one rows a good at given = go (find (λ r. bytes_eq r.id a.id) rows) refl given
    where
      go : (found : Option Row) → find (λ r. bytes_eq r.id a.id) rows ≡ found → option_map_or (λ r. explicit_source r.source) found false ≡ true → IsGiven rows a
      go None e given = absurd (true≢false (sym given))
      go (Some r) e given =
          let is = find_good _ rows r e good in
          let named_so : r.id ≡ a.id = same_text r.id a.id is.0 in
          let own = first_is rules a distinct at in
          let other : arg_by_id rules a.id ≡ Some is.1.0 = subst (λ id. arg_by_id rules id ≡ Some is.1.0) named_so is.1.2 in
          let same : is.1.0 ≡ a = cc in (
            is.1.1,
            ap (option_and_then (λ r. slice_get r.values 0)) e ∙ ap (λ values. slice_get values 0) is.1.3,
            ap (option_and_then walk.row_text) e ∙ ap₂ (λ reading values. option_map (read_as reading) (slice_get values 0)) (is.1.5 ∙ ap walk.reading_by same) is.1.3,
            subst (λ a. value_passes a is.1.1 ≡ true) same is.1.4,
          )

  each_given : (rows : List Row) (xs : List Rule) → AreGood rows → ((a : Rule) → Among a xs → Among a rules) → list_any (λ a. a.required && not (is_given a.id rows)) xs ≡ false
      → AllByRecursion (IsGiven rows) (filter (λ a. a.required) xs)
  each_given rows [] good in_all none = tt
  each_given rows (a ∷ xs) good in_all none = go a.required none (each_given rows xs good (λ a at. in_all a (inr at)))
    where
      go : (b : Bool) → ((b && not (is_given a.id rows)) || list_any (λ a. a.required && not (is_given a.id rows)) xs) ≡ false
          → (list_any (λ a. a.required && not (is_given a.id rows)) xs ≡ false → AllByRecursion (IsGiven rows) (filter (λ a. a.required) xs))
          → AllByRecursion (IsGiven rows) (cond b (a ∷ filter (λ a. a.required) xs) (filter (λ a. a.required) xs))
      go true none later =
          let parts = not_either _ _ none in
          (given_one rows a good (in_all a (inl refl)) (not_not _ parts.0), later parts.1)
      go false none later = later none

  none_missing : (negates : Bool) (wants wanted any : Bool) → check_kinds wants wanted (not (negates && false) && any) ≡ [] → any ≡ false
  none_missing negates true wanted any none = absurd (cc)
  none_missing negates false true any none = absurd (cc)
  none_missing true false false true none = absurd (cc)
  none_missing false false false true none = absurd (cc)
  none_missing negates false false false none = refl

  -- where words are taken without a fault, each argument that is required was given, and passes
  pub all_given : (words : List Text) → level_fault s [] nothing_held words false [] ≡ [] → AllByRecursion (IsGiven (walk.rows_after s.rules [] words)) (wanted_by s)
  all_given words none =
      let end = (walk.walk s.rules [] nothing_held words).held in
      let walked = neither (walk_fault s [] (walk.walk_from nothing_held) words) _ none in
      let settled = neither (settle_fault s.rules s.args_override_self end) _ walked.1 in
      let defaults = neither _ _ settled.1 in
      let good = settle_good end.pending end.rows settled.0 (walk_good words (walk.walk_from nothing_held) walked.0 tt) in
      let rows_are : walk.rows_after s.rules [] words ≡ (walk.settled s.rules end).rows = no_defaults s.rules _ plain in
      each_given _ s.rules (subst AreGood (sym rows_are) good) (λ a at. at) (none_missing _ _ _ _ defaults.1)
