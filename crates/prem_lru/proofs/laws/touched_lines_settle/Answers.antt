use Rattle.prem_lru.proofs.Settling.{touch_settles, settled_touch}
use Rattle.prem_lru.proofs.laws.touched_lines_settle.Goals as goal

pub returns-clause-settles : goal.returns-clause-settles
returns-clause-settles c = touch_settles

pub returns-clause-again : goal.returns-clause-again
returns-clause-again c = settled_touch
