-- The command that words name, once they are taken without a fault.
use Rattle.std.proofs.Common.{◌≡◌, ◌≢◌, ◌∙◌, codes, ◌&&◌, ◌||◌, Bool, true, false, not, cond, List, [], ◌∷◌, Option, Some, None, ap, refl, sym, subst, find, option_map, bytes_eq}
use Rattle.std.specs.List.{AllByRecursion, list_all, list_any}
use Rattle.std.specs.Option.{option_map_or}
use Rattle.std.proofs.lemmas.Slice.Eq.{bytes_eq-Decides}
use Rattle.clap.specs.Faults.{entered_fault, level_fault, walk_fault}
use Rattle.clap.specs.Simple.{Shape, entered, label_of, names_of, rows_at}
use Rattle.clap.specs.Walk.{Row, Text, answers_to, is_empty, nothing_held, rows_after, walk, walk_from}
use Rattle.clap.specs.Words.{built, fault_of, subcommand_of}
use Rattle.gaz_words.specs.Grammar.{gazhub}
use Rattle.gaz_words.specs.Meaning.{IsComplete, IsGiven, names, wanted_by}
use Rattle.gaz_words.proofs.Named.{IsOther, walk_fine}
use Rattle.gaz_words.proofs.Lists.{are_distinct, both, is_false, is_nil, is_plain, neither}
use Rattle.gaz_words.proofs.Rows.{all_given}

-- a command whose words are read so: it has one name, and its arguments are plain; or it wants none
abbrev is_known : Shape → Bool
is_known s = is_empty s.aliases && (is_empty (wanted_by s) || (not s.args_override_self && (list_all is_plain s.rules && are_distinct s.rules)))

all_known : list_all is_known (built gazhub).subs ≡ true
all_known = refl

-- the first of a name, whether it is asked for aliases or not
first_named : (xs : List Shape) (name : Text) → list_all is_known xs ≡ true → find (λ s. answers_to name (label_of s)) xs ≡ find (λ s. bytes_eq s.name name) xs
first_named [] name all = refl
first_named (x ∷ xs) name all =
    let parts = both (is_known x) (list_all is_known xs) all in
    let alone : x.aliases ≡ [] = is_nil x.aliases (both (is_empty x.aliases) _ parts.0).0 in
    ap (λ aliases. cond (bytes_eq x.name name || list_any (λ alias. bytes_eq alias name) aliases) (Some x) (find (λ s. answers_to name (label_of s)) xs)) alone
    ∙ go (bytes_eq x.name name) (first_named xs name parts.1)
  where
    go : (b : Bool) → find (λ s. answers_to name (label_of s)) xs ≡ find (λ s. bytes_eq s.name name) xs
        → cond (b || false) (Some x) (find (λ s. answers_to name (label_of s)) xs) ≡ cond b (Some x) (find (λ s. bytes_eq s.name name) xs)
    go true later = refl
    go false later = later

-- it is known, and of that name
found_known : (xs : List Shape) (name : Text) (s : Shape) → list_all is_known xs ≡ true → find (λ s. bytes_eq s.name name) xs ≡ Some s → (is_known s ≡ true) × (s.name ≡ name)
found_known [] name s all e = absurd (cc)
found_known (x ∷ xs) name s all e =
    let parts = both (is_known x) (list_all is_known xs) all in
    go (bytes_eq x.name name) refl parts.0 (found_known xs name s parts.1) e
  where
    go : (b : Bool) → bytes_eq x.name name ≡ b → is_known x ≡ true → (find (λ s. bytes_eq s.name name) xs ≡ Some s → (is_known s ≡ true) × (s.name ≡ name))
        → cond b (Some x) (find (λ s. bytes_eq s.name name) xs) ≡ Some s → (is_known s ≡ true) × (s.name ≡ name)
    go true hit known later e =
        let same : x ≡ s = cc in
        (subst (λ s. is_known s ≡ true) same known, ap (λ s. s.name) (sym same) ∙ (bytes_eq-Decides x.name name).0 hit)
    go false hit known later e = later e

-- whatever it wants was given
given_to : (s : Shape) (words : List Text) → is_known s ≡ true → level_fault s [] nothing_held words false [] ≡ [] → AllByRecursion (IsGiven (rows_after s.rules [] words)) (wanted_by s)
given_to s words known none = go (is_empty (wanted_by s)) refl (both (is_empty s.aliases) _ known).1
  where
    go : (b : Bool) → is_empty (wanted_by s) ≡ b → (b || (not s.args_override_self && (list_all is_plain s.rules && are_distinct s.rules))) ≡ true
        → AllByRecursion (IsGiven (rows_after s.rules [] words)) (wanted_by s)
    go true nothing rest = subst (AllByRecursion (IsGiven (rows_after s.rules [] words))) (sym (is_nil (wanted_by s) nothing)) tt
    go false some rest =
        let first = both (not s.args_override_self) _ rest in
        let then_rest = both (list_all is_plain s.rules) _ first.1 in
        all_given s (is_false s.args_override_self first.0) then_rest.0 then_rest.1 words none

some_found : (xs : List Shape) (name : Text) (s : Shape) → find (λ s. bytes_eq s.name name) xs ≡ Some s → list_any (λ s. bytes_eq s.name name) xs ≡ true
some_found [] name s e = absurd (cc)
some_found (x ∷ xs) name s e = go (bytes_eq x.name name) (some_found xs name s) e
  where
    go : (b : Bool) → (find (λ s. bytes_eq s.name name) xs ≡ Some s → list_any (λ s. bytes_eq s.name name) xs ≡ true) → cond b (Some x) (find (λ s. bytes_eq s.name name) xs) ≡ Some s
        → (b || list_any (λ s. bytes_eq s.name name) xs) ≡ true
    go true later e = refl
    go false later e = later e

-- its name is one of the program's own
is_own : (name : Text) → name ≢ codes "help" → list_any (λ s. bytes_eq s.name name) (built gazhub).subs ≡ true → list_any (λ known. bytes_eq known name) names ≡ true
is_own name other any =
    let none : bytes_eq (codes "help") name ≡ false = go (bytes_eq (codes "help") name) refl in
    rw none at any
  where
    go : (b : Bool) → bytes_eq (codes "help") name ≡ b → b ≡ false
    go true e = absurd (other (sym ((bytes_eq-Decides (codes "help") name).0 e)))
    go false e = refl

module _ (name : Text) (rows : List Row) where
  entered_so : (stop : Option (Text × List Text)) → IsOther stop → entered (built gazhub) stop ≡ Some (name, rows) → entered_fault (built gazhub) stop ≡ [] → IsComplete name rows
  entered_so None other e none = absurd (cc)
  entered_so (Some p) other e none =
      go (find (λ s. answers_to p.0 (label_of s)) (built gazhub).subs) (sym (first_named (built gazhub).subs p.0 all_known)) e none
    where
      go : (found : Option Shape) → find (λ s. bytes_eq s.name p.0) (built gazhub).subs ≡ found → option_map (λ s. rows_at s p.1) found ≡ Some (name, rows)
          → option_map_or (λ s. level_fault s [] nothing_held p.1 false []) found [] ≡ [] → IsComplete name rows
      go None at e none = absurd (cc)
      go (Some s) at e none =
          let is = found_known (built gazhub).subs p.0 s all_known at in
          let name_is : s.name ≡ name = ap (λ o. option_map_or (λ named. named.0) o s.name) e in
          let rows_are : rows_after s.rules [] p.1 ≡ rows = ap (λ o. option_map_or (λ named. named.1) o []) e in
          let given = given_to s p.1 is.0 none in
          let same : p.0 ≡ name = sym is.1 ∙ name_is in
          let wanted_is : find (λ s. bytes_eq s.name name) (built gazhub).subs ≡ Some s = subst (λ n. find (λ s. bytes_eq s.name n) (built gazhub).subs ≡ Some s) same at in (
            is_own name (subst (λ name. name ≢ codes "help") same other) (some_found (built gazhub).subs name s wanted_is),
            subst (λ o. AllByRecursion (IsGiven rows) (option_map_or wanted_by o [])) (sym wanted_is) (subst (λ rows. AllByRecursion (IsGiven rows) (wanted_by s)) rows_are given),
          )

  -- whatever the command that words name wants was given, where they are taken without a fault
  pub complete : (words : List Text) → fault_of gazhub words ≡ [] → subcommand_of gazhub words ≡ Some (name, rows) → IsComplete name rows
  complete words none e =
      let stop = (walk (built gazhub).top.rules (names_of (built gazhub)) nothing_held words).stopped in
      let walked = neither (walk_fault (built gazhub).top (names_of (built gazhub)) (walk_from nothing_held) words) _ none in
      let below = neither (entered_fault (built gazhub) stop) _ walked.1 in
      entered_so stop (walk_fine (built gazhub).top (names_of (built gazhub)) refl words (walk_from nothing_held) walked.0 tt) e below.0
