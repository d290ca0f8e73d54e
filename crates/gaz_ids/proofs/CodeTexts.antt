-- Languages and statuses read back.
use Rattle.std.proofs.Common.{◌≡◌, refl, Some}
use Rattle.gaz_ids.specs.Codes.{lang_of, lang_text, status_of, status_text}
use Rattle.gaz_ids.specs.declared.lang.Lang.{Lang}
use Rattle.gaz_ids.specs.declared.lang.Lang.TheVariants.{Cym, Eng}
use Rattle.gaz_ids.specs.declared.status.Status.{Status}
use Rattle.gaz_ids.specs.declared.status.Status.TheVariants.{Approved, Alternative, Provisional, Historical}

pub lang-back : (l : Lang) → lang_of (lang_text l) ≡ Some l
lang-back Cym = refl
lang-back Eng = refl

pub status-back : (s : Status) → status_of (status_text s) ≡ Some s
status-back Approved = refl
status-back Alternative = refl
status-back Provisional = refl
status-back Historical = refl
