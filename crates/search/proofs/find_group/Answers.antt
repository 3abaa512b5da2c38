-- Trying rows and keys is asking who is similar.
use Rattle.std.proofs.Common.{arith, rules}
use Rattle.search.specs.SearchLaws.{ready_edges, ready_keys, row-length, search_joins}
use Rattle.search.proofs.find_group.Goals as goal

pub slice_bounds-search-end : goal.slice_bounds-search-end
slice_bounds-search-end c =
    let rows = ready_edges _ _ _ c.requires.ready in
    search rules

pub invariant_of-search : goal.invariant_of-search
invariant_of-search c =
    let small = c.requires.ready.small in
    let rows = ready_edges _ _ _ c.requires.ready in
    let pairs = ready_keys _ _ _ c.requires.ready in
    record {
      small = (omega arith, omega arith);
      sized = (omega arith, omega arith, omega arith, omega arith, omega arith, row-length c.args.edges.now c.args.u (omega arith));
    }

pub returns : goal.returns
returns c = search_joins _ _ _ _ _ _ _ c.requires.ready c.requires.nodes_len.2 c.requires.nodes_len.1 c.find_twin.ensures
