use Rattle.search.proofs.Rooms.{room-on}
use Rattle.search.proofs.expand.visit_choice.Goals as goal

pub returns-clause-room : goal.returns-clause-room
returns-clause-room g c = room-on _ _ _ _ _ _ _ _ c.visit.ensures.is c.visit.ensures.limit
