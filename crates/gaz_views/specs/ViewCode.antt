-- Views, judgements and accounts can be stored as the values of models.
use Rattle.std.specs.Prelude.{refl, List}
use Rattle.std.specs.Coded.{Coded, code_by, coded_list, coded_ℕ, coded×}
use Rattle.std.specs.FinMap as map
use Rattle.std.specs.FinSet as set
use Rattle.std.specs.Ordering.{nat_cmp}
use Rattle.gaz_records.specs.Keys.{key_cmp}
use Rattle.gaz_records.specs.declared.item.Item.{Item}
use Rattle.gaz_records.specs.contracts.key.Key as key
use Rattle.gaz_records.specs.contracts.item.Item as item
use Rattle.gaz_views.specs.Judgements.{Judgement}
use Rattle.gaz_views.specs.Accounts.{Account}
use Rattle.gaz_views.specs.View.{View}
use Rattle.gaz_views.specs.contracts.custody.Custody as custody
use Rattle.gaz_views.specs.declared.custody.Custody.{Custody}
use Rattle.gaz_views.specs.declared.verdict.Verdict.{Verdict}
use Rattle.gaz_views.specs.contracts.verdict.Verdict as verdict

abbrev pub view_code : Coded View
view_code =
    code_by ((map.FinMap key_cmp Item × set.FinSet key_cmp) × map.FinMap nat_cmp Custody)
    (coded× (coded× (map.code key.the_row.coded item.the_row.coded) (set.code key.the_row.coded))
    (map.code coded_ℕ custody.the_row.coded))
    (λ v. ((v.items, v.used), v.custody))
    (λ p. record { items = p.0.0; used = p.0.1; custody = p.1 }) (λ _. refl)

abbrev pub judgement_code : Coded Judgement
judgement_code =
    code_by (Verdict × View) (coded× verdict.the_row.coded view_code)
    (λ j. (j.verdict, j.view)) (λ p. record { verdict = p.0; view = p.1 }) (λ _. refl)

abbrev pub account_code : Coded Account
account_code =
    code_by (List Judgement × View) (coded× (coded_list judgement_code) view_code)
    (λ a. (a.judged, a.working)) (λ p. record { judged = p.0; working = p.1 }) (λ _. refl)
