use Rattle.astar.proofs.Courses.{advance-visits}
use Rattle.astar.proofs.laws.advance_visits.Goals as goal

pub returns : goal.returns
returns c = advance-visits
