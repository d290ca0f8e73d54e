-- Worked examples of the columns of what became of a number, computed from the definitions.
use Rattle.std.specs.Prelude.{◌≡◌, codes, [], Some, None}
use Rattle.gaz_views.specs.declared.custody.Custody.TheVariants.{Adopted, Released}
use Rattle.gaz_cells.specs.Custody.{CustodyValue, custody_cells, custody_in}

-- number 500, taken from 1001 at the second hop
abbrev pub taken : CustodyValue
taken = record {
  cells = record {
    kind = 92;
    id = codes "000000000500";
    links = record { blpu = 500; street = 1001; lang = 0; live = 1 };
    body = [];
  };
  hop = 2;
}

pub record WorkedCustody : Type 0 where
  pub written : custody_cells 500 (Adopted 1001 2) ≡ taken
  pub read : custody_in taken ≡ Some (500, Adopted 1001 2)
  pub given_up : custody_in (custody_cells 500 (Released 1002 1)) ≡ Some (500, Released 1002 1)
  pub of_a_property : custody_in (record taken { cells = record (taken.cells) { kind = 21 } })
      ≡ None
  pub with_a_body : custody_in (record taken { cells = record (taken.cells) { body = codes "5" } })
      ≡ None
  pub at_no_hop : custody_in (record taken { hop = 0 }) ≡ None
