-- `states::save` meets its contract.
use Rattle.states.specs.StateLaws.{saved}
use Rattle.states.proofs.save.Goals as goal

pub returns : goal.returns
returns c = λ keys h. saved h c.args.to.now c.copy_words.new.to c.save_words.new.to c.requires.3 c.copy_words.ensures c.save_words.ensures
