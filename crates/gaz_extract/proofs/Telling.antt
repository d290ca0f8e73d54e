-- What a keeper's answer on a property tells.
use Rattle.std.proofs.Common.{◌≡◌, ◌∙◌, ℕ, ap, sym, refl, List}
use Rattle.std.specs.Prelude.{Option, Some, None, option_map}
use Rattle.std.specs.Option.{option_and_then}
use Rattle.std.specs.FinMap as map
use Rattle.gaz_records.specs.Blpus.{BlpuValue}
use Rattle.gaz_records.specs.declared.item.Item.{Item}
use Rattle.gaz_records.specs.declared.item.Item.TheVariants as item
use Rattle.gaz_records.specs.declared.key.Key.TheVariants as key
use Rattle.gaz_register.specs.Registers.{RegisterValue}
use Rattle.gaz_keeper.specs.Board.{Board, last_view}
use Rattle.gaz_views.specs.Words.{address_of, property_of}
use Rattle.gaz_views.specs.declared.property.Property.{Property}
use Rattle.gaz_extract.specs.Finding.{as_blpu, as_lpi}
use Rattle.gaz_extract.specs.Lookups.{line_at, line_now, said_by}
use Rattle.gaz_extract.specs.declared.found.Found.{Found}

-- what a property says
abbrev said_of : Board → RegisterValue → ℕ → ℕ → Property → Option Found
said_of B register uprn c p = option_map
    (λ blpu. record { custodian = c; uprn = uprn; status = blpu.status; line = line_at B register c (option_and_then as_lpi p.address) blpu })
    (as_blpu p.blpu)

said_where : (B : Board) (register : RegisterValue) (uprn c : ℕ) (o : Option Item)
    → option_and_then (said_of B register uprn c) (option_map (λ i. record { blpu = i; address = address_of (last_view B c) uprn }) o)
    ≡ option_map (λ blpu. record { custodian = c; uprn = uprn; status = blpu.status; line = line_now B register c uprn blpu }) (option_and_then as_blpu o)
said_where B register uprn c None = refl
said_where B register uprn c (Some i) = refl

-- what a custodian's last view says of a property is what the property there says
said_there : (B : Board) (register : RegisterValue) (uprn c : ℕ) (p : Property) → Some p ≡ property_of (last_view B c) uprn → said_of B register uprn c p ≡ said_by B register uprn c
said_there B register uprn c p e = ap (option_and_then (said_of B register uprn c)) e ∙ said_where B register uprn c (map.get (last_view B c).items (key.Blpu uprn))

nothing_of : (B : Board) (register : RegisterValue) (uprn c : ℕ) (i : Item) (a : Option Item) → ((b : BlpuValue) → i ≡ item.Blpu b → ⊥)
    → None ≡ said_of B register uprn c (record { blpu = i; address = a })
nothing_of B register uprn c (item.Blpu b) a h = absurd (h b refl)
nothing_of B register uprn c (item.Street s) a h = refl
nothing_of B register uprn c (item.Descriptor d) a h = refl
nothing_of B register uprn c (item.Xref x) a h = refl
nothing_of B register uprn c (item.Lpi l) a h = refl
nothing_of B register uprn c (item.Release r) a h = refl
nothing_of B register uprn c (item.Adopt x) a h = refl

-- an item of another kind in a BLPU's place says nothing
pub nothing_there : (B : Board) (register : RegisterValue) (uprn c : ℕ) (p : Property) → ((b : BlpuValue) → p.blpu ≡ item.Blpu b → ⊥)
    → Some p ≡ property_of (last_view B c) uprn → None ≡ said_by B register uprn c
nothing_there B register uprn c p h e = nothing_of B register uprn c p.blpu p.address h ∙ said_there B register uprn c p e

-- a BLPU with its address says its line
pub line_there : (B : Board) (register : RegisterValue) (uprn c : ℕ) (p : Property) (b : BlpuValue) (l : Option (List ℕ)) → p.blpu ≡ item.Blpu b
    → Some p ≡ property_of (last_view B c) uprn → l ≡ line_at B register c (option_and_then as_lpi p.address) b
    → Some (record { custodian = c; uprn = uprn; status = b.status; line = l }) ≡ said_by B register uprn c
line_there B register uprn c p b l is e f =
    ap (λ x. Some (record { custodian = c; uprn = uprn; status = b.status; line = x })) f
    ∙ ap (λ i. said_of B register uprn c (record { blpu = i; address = p.address })) (sym is)
    ∙ said_there B register uprn c p e
