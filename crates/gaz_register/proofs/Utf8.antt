-- The canonical text is UTF-8.
use Rattle.std.proofs.Common.{◌≡◌, ℕ, Bool, true, List, [], ◌∷◌, refl, lit<}
use Rattle.std.specs.Prelude.{IsUtf8, ◌&&◌, decimal, map}
use Rattle.std.proofs.lemmas.Bool.{and_parts}
use Rattle.std.proofs.lemmas.Str.{IsUtf8-append, IsUtf8-nil}
use Rattle.std.specs.List.{list_all}
use Rattle.gaz_ids.specs.Limits.{last_uprn, last_usrn}
use Rattle.gaz_addressable.proofs.Characters.{plain_utf8}
use Rattle.gaz_rows.specs.Rows.{AreTextRows, AreTexts}
use Rattle.gaz_rows.proofs.Utf8.{decimal-utf8, lines-utf8, one-byte}
use Rattle.gaz_register.specs.Names.{is_name}
use Rattle.gaz_register.specs.Registers.{CustodianValue, RegisterValue, is_custodian}
use Rattle.gaz_register.specs.Texts.{block_text, blocks_text, register_text, row_of}
use Rattle.gaz_register.proofs.Telling.{AllSmall, Small, code-lawful, small-blocks, small-code}
use Rattle.gaz_register.proofs.Upward.{uprn-blocks, usrn-blocks}

-- ---- custodians

block-utf8 : (b : ℕ × ℕ) → Small b → IsUtf8 (block_text b)
block-utf8 b small =
    IsUtf8-append (decimal b.0) (45 ∷ decimal b.1) (decimal-utf8 b.0 (small.0))
    (IsUtf8-append (45 ∷ []) (decimal b.1) (one-byte 45 (lit< tt) refl) (decimal-utf8 b.1 (small.1)))

blocks-utf8 : (bs : List (ℕ × ℕ)) → AllSmall bs → IsUtf8 (blocks_text bs)
blocks-utf8 [] h = IsUtf8-nil
blocks-utf8 (b ∷ []) h = block-utf8 b (h.0)
blocks-utf8 (b ∷ c ∷ cs) h =
    IsUtf8-append (block_text b) (32 ∷ blocks_text (c ∷ cs)) (block-utf8 b (h.0))
    (IsUtf8-append (32 ∷ []) (blocks_text (c ∷ cs)) (one-byte 32 (lit< tt) refl) (blocks-utf8 (c ∷ cs) (h.1)))

last-off : (a b : Bool) → a && b ≡ true → a ≡ true
last-off a b e = (and_parts a b e).0

name-text : (bs : List ℕ) → is_name bs ≡ true → IsUtf8 bs
name-text bs e = plain_utf8 bs (last-off _ _ e)

name-lawful : (c : CustodianValue) → is_custodian c ≡ true → is_name c.name ≡ true
name-lawful c e = (and_parts _ _ (last-off _ _ (last-off _ _ e))).1

custodian-utf8 : (c : CustodianValue) → is_custodian c ≡ true → AreTexts (row_of c)
custodian-utf8 c e = (
  decimal-utf8 c.code (small-code c.code (code-lawful c e)),
  (
    name-text c.name (name-lawful c e),
    (
      blocks-utf8 c.own.uprn (small-blocks last_uprn c.own.uprn (lit< tt) (uprn-blocks c e)),
      (
        blocks-utf8 c.own.usrn (small-blocks last_usrn c.own.usrn (lit< tt) (usrn-blocks c e)),
        tt,
      ),
    ),
  ),
)

rows-of-texts : (register : RegisterValue) → list_all is_custodian register ≡ true → AreTextRows (map row_of register)
rows-of-texts [] e = tt
rows-of-texts (c ∷ cs) e =
    let (here, more) = and_parts (is_custodian c) (list_all is_custodian cs) e in
    (custodian-utf8 c here, rows-of-texts cs more)

pub register-utf8 : (register : RegisterValue) → list_all is_custodian register ≡ true → IsUtf8 (register_text register)
register-utf8 register e = lines-utf8 (map row_of register) (rows-of-texts register e)
