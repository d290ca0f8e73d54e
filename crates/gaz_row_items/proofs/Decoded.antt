-- An item that was read of a body.
use Rattle.std.proofs.Common.{◌≡◌, ◌∙◌, inl, inr, Result, Ok, sym}
use Rattle.gaz_fields.specs.Fields.{OrMemory}
use Rattle.gaz_fields.specs.declared.fields.FieldFault.{FieldFault}
use Rattle.gaz_records.specs.declared.item.Item.{Item}

-- it is the one that the body says
pub read_is : (r a : Result Item FieldFault) (x : Item) → OrMemory r a → r ≡ Ok x → a ≡ Ok x
read_is r a x (inl same) is = sym same ∙ is
read_is r a x (inr none) is = cc
