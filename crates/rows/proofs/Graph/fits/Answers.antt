-- Each test that fails is one of the reasons of wrong_size.
use Rattle.rows.specs.SizeLaws.{size_by_keys, wrong_count, wrong_edges, wrong_nodes}
use Rattle.rows.proofs.Graph.fits.Goals as goal

pub returns-then-n-gt-NODES : goal.returns-then-n-gt-NODES
returns-then-n-gt-NODES c = wrong_count _ _ _ _ c.if-n-gt-NODES.true

pub returns-then-edges-n : goal.returns-then-edges-n
returns-then-edges-n c = wrong_edges _ _ _ _ c.if-n-gt-NODES.false c.if-edges-n.true

pub returns-then-nodes-n : goal.returns-then-nodes-n
returns-then-nodes-n c = wrong_nodes _ _ _ _ c.if-n-gt-NODES.false c.if-edges-n.false c.if-nodes-n.true

pub returns : goal.returns
returns c = size_by_keys _ _ _ _ c.if-n-gt-NODES.false c.if-edges-n.false c.if-nodes-n.false
