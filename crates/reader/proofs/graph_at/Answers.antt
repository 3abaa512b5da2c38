-- `reader::graph_at` meets its contract.
use mathlib.Core.Path.{◌≡◌, ◌∙◌, sym}
use Rattle.records.specs.declared.Record.TheVariants.{Head}
use Rattle.reader.specs.DecodingLaws.{after_head, decode-graph, head_room, no_head, sized_g, sized_n, wrong_body, wrong_size_lem}
use Rattle.reader.proofs.graph_at.Goals as goal
use Rattle.reader.proofs.graph_at.Goals.{After-from-count}

-- the head's numbers, as they are compared
numbers : (c : After-from-count) → c.args.head ≡ Head c.from-nodes.result c.from-visible.result c.from-count.result
numbers c = rw (c.from-nodes.ensures, c.from-visible.ensures, c.from-count.ensures) c.in-Head.is

pub returns-in_default : goal.returns-in_default
returns-in_default c =
    let both = no_head _ _ _ _ _ _ _ _ c.requires.0 c.requires.1 c.in_default.not-Head in
    record { decodes = both.0; sums_kept = both.1 }

pub returns-then-not-head_fits : goal.returns-then-not-head_fits
returns-then-not-head_fits c =
    let is = numbers (goal.at.returns-then-not-head_fits c).After-from-count in
    let both = wrong_size_lem _ _ _ _ _ _ _ _ c.requires.0 c.requires.1 _ _ _ is (sym c.if-not-head_fits.true ∙ c.head_fits.ensures) in
    record { decodes = both.0; sums_kept = both.1 }

pub read_body-requires : goal.read_body-requires
read_body-requires c =
    let pre = c.requires in
    let is = numbers (goal.at.read_body-requires c).After-from-count in
    let e = sym c.if-not-head_fits.false ∙ c.head_fits.ensures in
    let small = sized_n _ _ _ e in
    (after_head _ _ _ _ _ _ _ _ pre.0 pre.1 _ _ _ is, small, sized_g _ _ _ e, pre.1, head_room _ _ _ _ _ _ _ _ pre.0 pre.1 _ _ _ is small)

pub returns-then-not-read_body : goal.returns-then-not-read_body
returns-then-not-read_body c =
    let pre = c.requires in
    let is = numbers (goal.at.returns-then-not-read_body c).After-from-count in
    let e = sym c.if-not-head_fits.false ∙ c.head_fits.ensures in
    let both = wrong_body _ _ _ _ _ _ _ _ pre.0 pre.1 _ _ _ is e _ _ _ _ _ _ c.read_body.ensures c.if-not-read_body.true in
    record { decodes = both.0; sums_kept = both.1 }

pub returns : goal.returns
returns c =
    let pre = c.requires in
    let is = numbers (goal.at.returns c).After-from-count in
    let e = sym c.if-not-head_fits.false ∙ c.head_fits.ensures in
    let both = decode-graph _ _ _ _ _ _ _ _ pre.0 pre.1 _ _ _ is e _ _ _ _ _ _ c.read_body.ensures c.if-not-read_body.false in
    record { decodes = both.0; sums_kept = both.1 }
