-- What is known of views while the end rules are asked.
use Rattle.std.specs.Prelude.{◌≡◌, ℕ, Bool, true, IfSome, List, None}
use Rattle.std.specs.BTreeSet as tree
use Rattle.gaz_records.specs.Keys.{key_cmp}
use Rattle.gaz_records.specs.declared.key.Key.{Key}
use Rattle.gaz_views.specs.View.{View}
use Rattle.gaz_end_rules.specs.EndRules.{end_rules}
use Rattle.gaz_end_rules.specs.Rings.{Knows}
use Rattle.gaz_changefile.specs.Rules.{first_broken}
use Rattle.gaz_end_rules.specs.Streets.{street_faults}
use Rattle.gaz_end_rules.specs.declared.known.Known.{Known}
use Rattle.gaz_end_rules.specs.declared.last_street.LastStreet.{LastStreet}
use Rattle.gaz_end_rules.specs.declared.passed.Passed.{Passed}

-- the last answer about a street is right of a view and the basis views
abbrev pub Recalls : View → List (ℕ × View) → LastStreet → Type 0
Recalls v others s = IfSome s.answer (λ a. a.faults ≡ street_faults v others a.usrn a.lang)

-- whether a key is one that passed
abbrev pub has_passed : Passed → Key → Bool
has_passed p k = tree.contains key_cmp p.keys k

-- each key that passed breaks no end rule in a view and the basis views
abbrev pub HavePassed : View → List (ℕ × View) → Passed → Type 0
HavePassed v others p =
    (k : Key) → has_passed p k ≡ true → first_broken (end_rules v others k) ≡ None

-- what was walked and what was last answered are right of a view and the basis views
abbrev pub Remembers : View → List (ℕ × View) → Known → Type 0
Remembers v others k = Knows v k.walked × Recalls v others k.street

-- what was walked, what was last answered and what passed are right of a view and the basis views
abbrev pub IsRight : View → List (ℕ × View) → Known → Type 0
IsRight v others k = Knows v k.walked × Recalls v others k.street × HavePassed v others k.passed
