-- `judges::judge_link` meets its contract: the record's limit is the definition's.
use Rattle.judges.specs.Judging.{judge_link}
use Rattle.judges.proofs.judge_link.Goals as goal

pub returns : goal.returns
unfolding judge_link
returns c = rw (c.link_ok.ensures, c.new-link.ensures.0, c.new-link.ensures.1) at c.verdict.ensures
