-- `judging::judge` meets its contract.
use Rattle.std.proofs.Common.{rules}
use Rattle.judging.specs.JudgeLaws.{apart-asked, judged_none, judged_other, judged-release, nodes_few}
use Rattle.judging.proofs.judge.Goals as goal

pub returns-in_err-n : goal.returns-in_err-n
returns-in_err-n c = rw c.from_residual.ensures (judged_none _ c.decode.ensures.decodes c.in_err-n.was)

pub are_few-few-requires : goal.are_few-few-requires
are_few-few-requires c =
    nodes_few c.args.file.now (λ i. search rules) _ c.decode.ensures.decodes c.decode.ensures.sums_kept c.in_ok-n.was (λ i. search rules)

pub are_apart-requires : goal.are_apart-requires
are_apart-requires c =
    apart-asked c.args.file.now (λ i. search rules) _ c.decode.ensures.decodes c.decode.ensures.sums_kept c.in_ok-n.was (λ i. search rules) c.are_few-few.ensures

pub returns-then-not-are_apart : goal.returns-then-not-are_apart
returns-then-not-are_apart c =
    judged_other c.args.file.now (λ i. search rules) _ c.decode.ensures.decodes c.decode.ensures.sums_kept c.in_ok-n.was (λ i. search rules) c.are_apart.ensures c.if-not-are_apart.true

pub returns : goal.returns
returns c =
    judged-release c.args.file.now (λ i. search rules) _ c.decode.ensures.decodes c.decode.ensures.sums_kept c.in_ok-n.was (λ i. search rules) c.are_apart.ensures c.if-not-are_apart.false
