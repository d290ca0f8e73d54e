-- A site in memory, of which it is known what is done at it: texts at paths, the files of one
-- store, and a peer that may come.
use Rattle.std.specs.Prelude.{◌≡◌, ⊤, ℕ, List, [], bytes_eq, codes, take, Option, Some, None}
use Rattle.std.specs.Prelude.{if◌then◌else◌}
use Rattle.sqlite_disk.specs.declared.Files.{Files}
use Rattle.gaz_stored.specs.Meetings.{Meeting, Missed, Came, Left}
use Rattle.gazhub.specs.Sites.{Closed, Deed, Listened, Met, Opened, Read}

-- the register's text at its path, the change file's at every other
abbrev pub text_at : (register change path : List ℕ) → List ℕ
text_at register change path = if bytes_eq path (codes "hub.toml") then register else change

-- a text is read, of a longer one so many bytes; or there is no memory
abbrev pub IsReadOf : List ℕ → ℕ → Option (List ℕ) → Type 0
IsReadOf text most None = ⊤
IsReadOf text most (Some bytes) = bytes ≡ take most text

-- Below, a state of it has these texts at paths and these files; this is what a peer says that is
-- still to come, and that is what the last one was told.
module _ {S D : Type 0} (text : S → List ℕ → List ℕ) (files : S → Option (Files D))
    (says : S → Option (List ℕ)) (told : S → List ℕ) where
  abbrev pub KeepsTexts : S → S → Type 0
  KeepsTexts old new = (path : List ℕ) → text new path ≡ text old path

  abbrev pub KeepsPeers : S → S → Type 0
  KeepsPeers old new = (says new ≡ says old) × (told new ≡ told old)

  -- whoever is to come comes once, with nothing told yet; what is told to a peer is kept
  abbrev pub IsMet : S → Meeting → S → Type 0
  IsMet old Missed new =
      (says old ≡ None) × KeepsPeers old new × (files new ≡ files old) × KeepsTexts old new
  IsMet old (Came had held) new = (says old ≡ had) × (held ≡ Some []) × (says new ≡ None)
      × (told new ≡ told old) × (files new ≡ files old) × KeepsTexts old new
  IsMet old (Left left holds is_whole) new = (holds ≡ Some (told new)) × (says new ≡ says old)
      × (files new ≡ files old) × KeepsTexts old new

  -- the files are found where they are, are gone while they are open, and are back once they are
  -- closed
  abbrev pub IsDone : S → Deed D → S → Type 0
  IsDone old (Read path most bytes) new = IsReadOf (text old path) most bytes
      × KeepsPeers old new × (files new ≡ files old) × KeepsTexts old new
  IsDone old (Opened path purpose found) new =
      (found ≡ files old) × (files new ≡ None) × KeepsPeers old new × KeepsTexts old new
  IsDone old (Closed left) new = (files new ≡ left) × KeepsPeers old new × KeepsTexts old new
  IsDone old (Listened port had) new = (had ≡ Some port) × KeepsPeers old new
      × (files new ≡ files old) × KeepsTexts old new
  IsDone old (Met met) new = IsMet old met new
