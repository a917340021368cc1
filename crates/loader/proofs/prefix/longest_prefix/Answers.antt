use Rattle.loader.proofs.Prefixes.{decides}
use Rattle.loader.proofs.LeastPrefix.{least}
use Rattle.loader.proofs.prefix.longest_prefix.Goals as goal

pub returns-clause-decides : goal.returns-clause-decides
returns-clause-decides c = decides

pub returns-clause-least : goal.returns-clause-least
returns-clause-least c = least
