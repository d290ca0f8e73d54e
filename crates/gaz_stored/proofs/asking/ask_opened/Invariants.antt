use Rattle.gaz_register.specs.Texts.{register_text}
use Rattle.gaz_stored.proofs.asking.ask_opened.Given as goal

abbrev pub ghosts-ask_over : goal.ghosts-ask_over
ghosts-ask_over g a = record { text = register_text a.register }
