-- What is said of what was done over a store's files, or why it wasn't.
use Rattle.std.proofs.Common.{◌≡◌, ◌≢◌, ◌↔◌, ◌∙◌, Bool, false, Ok, Err, Option, Result, IsTrue, ap, inl, inr, sym}
use Rattle.std.proofs.lemmas.Bool.{cases_Bool}
use Rattle.std.specs.declared.marker.Brand.{Brand}
use Rattle.sqlite.specs.Files.{file_state, over_files}
use Rattle.sqlite.specs.Held.{Held}
use Rattle.sqlite_disk.specs.declared.Disk as disk
use Rattle.sqlite_disk.specs.declared.Files.{Files}
use Rattle.sqlite_store.specs.declared.store.FileStore.{FileStore}
use Rattle.gaz_tables.specs.Creating.{MayCreate}
use Rattle.gaz_kept.specs.Opening.{Untouched, has_any, schema_number}
use Rattle.gaz_kept.specs.declared.refusal.StoreRefusal.{StoreRefusal}
use Rattle.gaz_kept.specs.declared.refusal.StoreRefusal.TheVariants.{BadSchema, OtherRegister}
use Rattle.gaz_register.specs.Registers.{RegisterValue}
use Rattle.gaz_register.specs.Texts.{register_text}
use Rattle.gaz_store.specs.Opened.{IsRefused, answer_of}
use Rattle.gaz_store.specs.declared.store.Store.{Store}
use Rattle.gaz_filing.specs.Filing.{Closes, Connects, HandedBack, HasNoNewStore, MakesNone, OverFiles}

-- where a store was made no table of such a name was there
pub is_free : (any : Bool) → ◌≡◌ {A = Result (Unit {0}) StoreRefusal} (Ok tt) (Err BadSchema) ↔ IsTrue any → any ≡ false
is_free any named = elim (cases_Bool any) [ inl is ↦ let no = named.1 is in absurd (cc) | inr not ↦ not ]

-- what is told is told for this reason
why_is : {T : Type 0} {refusal why : StoreRefusal} → ◌≡◌ {A = Result T StoreRefusal} (Err refusal) (Err why) → refusal ≡ why
why_is is = cc

module _ {D : Type 0} (g : disk.Ghosts D) (files : Files D) (left : Option (Files D)) (conn back : Held (FileStore D g)) (connects : Connects g files conn) (closes : Closes g back left) where
  pub over : (Does : Held (FileStore D g) → Held (FileStore D g) → Type 0) → Does conn back → OverFiles g files left Does
  over Does does = record { conn = conn; after = back; connects = connects; does = does; closes = closes }

  -- why none was made
  module _ (result : Result (Store (FileStore D g) Brand over_files) (Held (FileStore D g) × StoreRefusal)) (refused : IsRefused over_files conn back)
      (named : (answer_of result ≡ Err BadSchema) ↔ IsTrue (has_any (file_state conn).now.schema)) (causes : answer_of result ≢ Err OtherRegister)
      (untouched : IsTrue (has_any (file_state conn).now.schema) → Untouched over_files conn back) where
    pub makes_none : (register : RegisterValue) → MayCreate over_files conn back schema_number (register_text register) → (refusal : StoreRefusal) → result ≡ Err (back, refusal) → MakesNone g files left register refusal
    makes_none register leaves refusal is =
        let answer : answer_of result ≡ Err refusal = ap answer_of is in
        let why : HasNoNewStore g register refusal conn back =
        record { refused = refused; named = (λ bad. named.0 (answer ∙ ap Err bad), λ any. why_is (sym answer ∙ named.1 any)); causes = λ other. causes (answer ∙ ap Err other); untouched = untouched; leaves = leaves } in
        HandedBack (over _ why)
