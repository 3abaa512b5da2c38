-- `fill` meets its contract.
use Rattle.std.proofs.Common.{◌≡◌, length, replicate, rules}
use Rattle.opening.specs.OpenLaws.{tables_opened}
use Rattle.opening.proofs.fill.Goals as goal

pub returns : goal.returns
returns c =
    let cleared : c.fill.new.self ≡ replicate (length c.args.edges.now) 0 = search rules in
    tables_opened _ c.requires.small c.requires.edges c.requires.nodes c.requires.keys cleared c.fill_nodes.ensures c.fill_keys.ensures
