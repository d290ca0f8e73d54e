-- Changes can be stored as the values of models.
use Rattle.std.specs.Prelude.{refl}
use Rattle.std.specs.Coded.{Coded, code_by, coded_option, coded_ℕ, coded×}
use Rattle.std.specs.FinMap as map
use Rattle.gaz_records.specs.contracts.key.Key as key
use Rattle.gaz_views.specs.View.{View}
use Rattle.gaz_views.specs.ViewCode.{view_code}
use Rattle.gaz_overlay.specs.Changes.{Changes, Passed, Touched}
use Rattle.gaz_overlay.specs.contracts.touch.Touch as touch

abbrev pub touched_code : Coded Touched
touched_code = map.code key.the_row.coded touch.the_row.coded

abbrev pub passed_code : Coded Passed
passed_code = map.code coded_ℕ (coded_option coded_ℕ)

abbrev pub changes_code : Coded Changes
changes_code =
    code_by ((View × Touched) × Passed) (coded× (coded× view_code touched_code) passed_code)
    (λ c. ((c.view, c.touched), c.passed))
    (λ p. record { view = p.0.0; touched = p.0.1; passed = p.1 }) (λ _. refl)
