use Rattle.std.proofs.Common.{length, refl, ap}
use Rattle.std.proofs.lemmas.Bool.{false≢true, true≢false}
use Rattle.gaz_register.specs.GrowthExamples.{renamed, three, two}
use Rattle.gaz_register.specs.Registers.{Blocks, within}
use Rattle.gaz_register.proofs.Grown.{grows}
use Rattle.gaz_register.proofs.growth_laws.worked_growth.Goals as goal

pub returns : goal.returns
returns c = record {
  itself = refl;
  gains = refl;
  extends = grows two three refl refl;
  owner_stays = refl;
  another_name = refl;
  name_extends = grows two renamed refl refl;
  another_order = refl;
  removed = refl;
  no_growth = λ x. false≢true (x.custodians 1003 refl);
  blocks_joined = refl;
  not_joined = λ x. cc (ap (λ (b : Blocks). length b.uprn) (x.blocks 1003 refl));
  block_widened = refl;
  not_wider = λ x. true≢false (ap (λ (b : Blocks). within b.usrn 10) (x.blocks 1003 refl));
  removed_first = refl;
  back = refl;
}
