-- The chain begins with l and the member after it, if there is one.
use mathlib.Core.Path.{sym}
use Rattle.layout.specs.FileLaws.{clique_is, one_alone}
use Rattle.writer.proofs.Groups.is_clique.Goals as goal

pub returns-then-second-self : goal.returns-then-second-self
returns-then-second-self c = clique_is _ _ _ _ _ c.wide-second.ensures c.requires (c.args.self.ahead.ahead _ c.requires) c.if-second-self.true c.edge.ensures

pub returns : goal.returns
returns c = sym (one_alone _ _ _ _ c.requires (rw c.wide-second.ensures at c.if-second-self.false))
